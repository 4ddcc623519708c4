-- The next place is past the slips in use.
use Rattle.slips.proofs.Arranging.{added, arranged_added}
use Rattle.slips.proofs.list.SlipBook.add.Goals as goal

pub invariant_of-self : goal.invariant_of-self
invariant_of-self c =
    let b = c.args.self.now in
    record { arranged = arranged_added b.slips.now b.used c.args.slip b.arranged c.requires.place c.requires.range c.requires.free }

pub returns-clause-after : goal.returns-clause-after
returns-clause-after c = let b = c.args.self.now in added b.slips.now b.used c.args.slip c.requires.place
