-- No slip is in use any more.
use Rattle.slips.proofs.Arranging.{arranged_none}
use Rattle.slips.proofs.list.calls.SlipBookLoadBook.clear.Goals as goal

pub invariant_of-self : goal.invariant_of-self
invariant_of-self c = record { arranged = arranged_none c.args.self.now.slips.now }
