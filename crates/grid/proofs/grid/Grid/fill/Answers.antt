-- The number is written and the mark set, and every other cell keeps both.
use Rattle.std.proofs.Common.{arith}
use Rattle.grid.proofs.Changes.{filled, sound_filled}
use Rattle.grid.proofs.grid.Grid.fill.Goals as goal

pub returns-clause-after : goal.returns-clause-after
returns-clause-after c =
    filled c.args.self.now c.args.segment c.args.quarter_hour _ c.with.result (omega arith) (omega arith) (omega arith) c.place.result c.args.reading c.place.ensures c.requires.whole c.with.ensures.marks

pub invariant_of-self : goal.invariant_of-self
invariant_of-self c =
    sound_filled c.args.self.now c.args.segment c.args.quarter_hour _ c.with.result (omega arith) (omega arith) (omega arith) c.place.result c.args.reading c.place.ensures c.requires.whole c.with.ensures.marks c.requires.reading c.with.ensures.width
