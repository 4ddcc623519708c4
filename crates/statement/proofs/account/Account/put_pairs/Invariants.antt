use Rattle.roll.specs.Entries.{rows_of}
use Rattle.statement.specs.Statement.{pair_line, point_lines}
use Rattle.statement.specs.Text.{lines}
use Rattle.statement.specs.Writing.{Appends, loads_of}
use Rattle.statement.proofs.account.Account.put_pairs.Given as goal

-- the lines of the QSEs below stand
abbrev pub invariant-loop-qse : goal.invariant-loop-qse
invariant-loop-qse l =
    Appends l.fn.page (lines (λ q. point_lines (rows_of l.self.roll.now) (loads_of l.self.balance) q) l.qse) l.page

-- behind them, the lines of the QSE's settlement points below stand
abbrev pub invariant-loop-point : goal.invariant-loop-point
invariant-loop-point l =
    Appends l.initial.page (lines (λ p. pair_line (rows_of l.self.roll.now) (loads_of l.self.balance) l.qse p) l.point) l.page
