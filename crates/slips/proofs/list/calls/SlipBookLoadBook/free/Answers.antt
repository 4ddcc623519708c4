-- As many readings stand as slips are in use, and they all have a place.
use Rattle.std.proofs.Common.{arith}
use Rattle.slips.specs.Bounds.{housed_in}
use Rattle.slips.proofs.list.calls.SlipBookLoadBook.free.Goals as goal

pub overflow_sub-result : goal.overflow_sub-result
overflow_sub-result c = let b = c.args.self.now in omega (arith, housed_in b, b.arranged.2)
