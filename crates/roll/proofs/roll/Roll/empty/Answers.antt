-- Each place is free.
use Rattle.std.proofs.Common.{None, refl, ap}
use Rattle.roll.specs.Ranges.{ranged}
use Rattle.roll.proofs.Places.{slice_index_or_blank}
use Rattle.roll.proofs.roll.Roll.empty.Goals as goal

pub invariant_of-result : goal.invariant_of-result
invariant_of-result c = record {
  places = (refl, refl);
  rows_in_range = λ s. ap ranged (slice_index_or_blank 64 s None);
}
