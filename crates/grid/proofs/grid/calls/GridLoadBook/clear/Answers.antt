-- No mark is left, so nothing stands.
use Rattle.grid.proofs.Cells.{blank_standing}
use Rattle.grid.proofs.Changes.{sound_blank}
use Rattle.grid.proofs.grid.calls.GridLoadBook.clear.Goals as goal

pub returns-clause-after : goal.returns-clause-after
returns-clause-after c = blank_standing c.args.self.now.cells.now c.none-self.result c.none-self.ensures.marks

pub invariant_of-self : goal.invariant_of-self
invariant_of-self c = sound_blank c.args.self.now.cells.now c.none-self.result c.none-self.ensures.marks c.none-self.ensures.day_end
