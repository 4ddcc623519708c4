-- Only the word of the mark's own half changes.
use Rattle.std.proofs.Common.{refl, arith}
use Rattle.grid.proofs.Words.{early_changed, late_changed}
use Rattle.grid.proofs.marks.Marks.with.Goals as goal

pub returns-then-quarter_hour-lt64-clause-marks : goal.returns-then-quarter_hour-lt64-clause-marks
returns-then-quarter_hour-lt64-clause-marks c = early_changed c.args.self _ c.args.quarter_hour 1 c.if-quarter_hour-lt64.true refl c.set.ensures.bits

pub returns-clause-marks : goal.returns-clause-marks
returns-clause-marks c = late_changed c.args.self _ c.args.quarter_hour 1 c.if-quarter_hour-lt64.false refl c.set-2.ensures.bits

pub returns-clause-width : goal.returns-clause-width
returns-clause-width c fits = c.set-2.ensures.width 36 (omega arith) fits
