-- The mark is taken away, and every other cell keeps its own.
use Rattle.std.proofs.Common.{arith}
use Rattle.grid.proofs.Changes.{emptied, sound_emptied}
use Rattle.grid.proofs.grid.Grid.empty.Goals as goal

pub returns-clause-after : goal.returns-clause-after
returns-clause-after c = emptied c.args.self.now c.args.segment c.args.quarter_hour _ c.without.result (omega arith) (omega arith) (omega arith) c.without.ensures.marks

pub invariant_of-self : goal.invariant_of-self
invariant_of-self c = sound_emptied c.args.self.now c.args.segment c.args.quarter_hour _ c.without.result (omega arith) (omega arith) (omega arith) c.without.ensures.marks c.without.ensures.width
