use Rattle.statement.specs.Text.{lines}
use Rattle.statement.specs.Writing.{Appends}
use Rattle.statement.proofs.Pieces.{field}
use Rattle.statement.proofs.page.Page.put_line.Given as goal

-- the numbers before this one stand behind the letter
abbrev pub invariant-loop-n : goal.invariant-loop-n
invariant-loop-n l = Appends l.initial.self (lines (field l.numbers) l.n-index) l.self
