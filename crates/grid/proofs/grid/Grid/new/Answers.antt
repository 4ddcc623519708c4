-- No mark is set, so nothing stands.
use Rattle.grid.proofs.Cells.{blank_standing}
use Rattle.grid.proofs.Changes.{sound_blank}
use Rattle.grid.proofs.grid.Grid.new.Goals as goal

pub returns-clause-standing : goal.returns-clause-standing
returns-clause-standing c = blank_standing c.args.cells.now c.none-marks.result c.none-marks.ensures.marks

pub invariant_of-result : goal.invariant_of-result
invariant_of-result c = sound_blank c.args.cells.now c.none-marks.result c.none-marks.ensures.marks c.none-marks.ensures.day_end
