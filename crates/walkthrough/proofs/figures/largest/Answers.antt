use Rattle.std.proofs.Common.{arith}
use Rattle.walkthrough.proofs.Peaks.{first_largest_is}
use Rattle.walkthrough.proofs.figures.largest.Goals as goal

pub returns : goal.returns
returns c = let h = c.loop-place.invariant in first_largest_is c.args.list.now c.loop-place.peak.place c.loop-place.peak.value (omega arith) h.1 (λ k lt. h.2 k (omega arith)) h.3
