-- What a reader of the parts relies on. Assumes nothing.
use Rattle.std.specs.Prelude.{◌≡◌, ℕ, ◌<◌, List, length, ℤ, pos, ◌+ℤ◌, ◌-ℤ◌, ◌*ℤ◌, ◌≤ℤ◌, slice_index_or, unsigned_abs}
use Rattle.std.specs.List.{AllByRecursion}
use Rattle.split.specs.Floor.{floor}
use Rattle.split.specs.Parts.{sum_of}

-- A distance from a fraction is compared in whole numbers, both sides times its denominator.
pub record Fair (amount : ℤ) (whole before : ℕ) (weights parts : List ℤ) : Type 0 where
  -- one part for each weight
  pub one_each : length parts ≡ length weights
  -- the list gets of the amount what lies between its two ends
  pub between_ends : sum_of parts ≡ floor (amount *ℤ (pos before +ℤ sum_of weights)) whole -ℤ floor (amount *ℤ pos before) whole
  -- where the list is the whole, nothing of the amount is lost and nothing is made up
  pub adds_up : before ≡ 0 → sum_of weights ≡ pos whole → sum_of parts ≡ amount
  -- every part lies less than one from its exact part, amount · weight / whole
  pub near : (k : ℕ) → k < length weights → 0 < whole → unsigned_abs (slice_index_or parts k (pos 0) *ℤ pos whole -ℤ amount *ℤ slice_index_or weights k (pos 0)) < whole
  -- what has no weight gets nothing
  pub none_for_none : (k : ℕ) → k < length weights → slice_index_or weights k (pos 0) ≡ pos 0 → slice_index_or parts k (pos 0) ≡ pos 0
  -- where no weight is negative, no part goes against the amount
  pub never_more : AllByRecursion (λ w. pos 0 ≤ℤ w) weights → pos 0 ≤ℤ amount → AllByRecursion (λ p. pos 0 ≤ℤ p) parts
  pub never_less : AllByRecursion (λ w. pos 0 ≤ℤ w) weights → amount ≤ℤ pos 0 → AllByRecursion (λ p. p ≤ℤ pos 0) parts
