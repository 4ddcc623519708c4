-- The last slip keeps its cell at its new place.
use Rattle.slips.proofs.Arranging.{removed}
use Rattle.slips.proofs.list.SlipBook.remove.Goals as goal

pub invariant_of-self : goal.invariant_of-self
invariant_of-self c =
    let b = c.args.self.now in
    record { arranged = (removed b.slips.now b.used _ b.arranged c.requires).1 }

pub returns-clause-after : goal.returns-clause-after
returns-clause-after c = let b = c.args.self.now in (removed b.slips.now b.used _ b.arranged c.requires).0
