-- Only the word of the mark's own half changes.
use Rattle.std.proofs.Common.{refl}
use Rattle.grid.proofs.Words.{early_changed, late_changed}
use Rattle.grid.proofs.marks.Marks.without.Goals as goal

pub returns-then-quarter_hour-lt64-clause-marks : goal.returns-then-quarter_hour-lt64-clause-marks
returns-then-quarter_hour-lt64-clause-marks c = early_changed c.args.self _ c.args.quarter_hour 0 c.if-quarter_hour-lt64.true refl c.cleared.ensures.bits

pub returns-clause-marks : goal.returns-clause-marks
returns-clause-marks c = late_changed c.args.self _ c.args.quarter_hour 0 c.if-quarter_hour-lt64.false refl c.cleared-2.ensures.bits
