use Rattle.std.proofs.Common.{◌≡◌, length, None}
use Rattle.roll.specs.Entries.{rows_of}
use Rattle.balance.specs.Quarter.{segment_fault}
use Rattle.balance.specs.Gathering.{LoadedUpTo, gross_at}
use Rattle.balance.specs.Totals.{first_of}
use Rattle.balance.proofs.questions.QuarterHour.gather.Given as goal

-- the rows below the segment are loaded, and none of them had a fault
abbrev pub invariant-loop-segment : goal.invariant-loop-segment
invariant-loop-segment g l =
    let gross = gross_at (g.B.LoadBook.grossing l.self.book.now) (g.B.LoadBook.standing l.self.book.now) l.self.quarter_hour in
    (length l.rows ≡ 64)
    × LoadedUpTo l.segment l.rows (rows_of l.self.roll.now) gross
    × (first_of (segment_fault (rows_of l.self.roll.now) gross) l.segment ≡ None)
