-- The slip keeps its cell.
use Rattle.slips.proofs.Arranging.{corrected, arranged_corrected}
use Rattle.slips.proofs.list.SlipBook.correct.Goals as goal

pub invariant_of-self : goal.invariant_of-self
invariant_of-self c =
    let b = c.args.self.now in
    record { arranged = arranged_corrected b.slips.now b.used c.args.i c.args.reading b.arranged c.requires.place c.requires.limit }

pub returns-clause-after : goal.returns-clause-after
returns-clause-after c = let b = c.args.self.now in corrected b.slips.now b.used c.args.i c.args.reading b.arranged c.requires.place
