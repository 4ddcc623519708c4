-- No slip is in use.
use Rattle.slips.proofs.Arranging.{arranged_none}
use Rattle.slips.proofs.list.SlipBook.new.Goals as goal

pub invariant_of-result : goal.invariant_of-result
invariant_of-result c = record { arranged = arranged_none c.args.slips.now }
