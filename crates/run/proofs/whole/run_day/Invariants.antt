use Rattle.roll.specs.Drafts.{day_of, roll_of}
use Rattle.day.specs.Holding.{setting_by}
use Rattle.run.specs.Courses.{opened}
use Rattle.run.proofs.Courses.{SoFar}
use Rattle.run.proofs.whole.run_day.Given as goal

abbrev pub invariant-loop-i : goal.invariant-loop-i
invariant-loop-i g l =
    SoFar g.B.LoadBook (setting_by (day_of l.fn.draft) (roll_of l.fn.draft) (g.B.LoadBook.places l.fn.book) (g.B.LoadBook.grossing l.fn.book)) opened l.calls l.answers l.day l.lawful l.i
