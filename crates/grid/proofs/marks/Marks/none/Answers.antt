-- No bit of 0 is set.
use Rattle.std.proofs.Common.{refl}
use Rattle.grid.proofs.Cells.{blank_marked, blank_day_end}
use Rattle.grid.proofs.marks.Marks.none.Goals as goal

pub returns-clause-marks : goal.returns-clause-marks
returns-clause-marks c = blank_marked _ refl refl

pub returns-clause-day_end : goal.returns-clause-day_end
returns-clause-day_end c = blank_day_end _ refl
