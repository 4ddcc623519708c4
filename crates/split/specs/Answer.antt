-- What the split answers. Assumes nothing.
use Rattle.std.specs.Prelude.{ℕ, Bool, cond, not, ◌&&◌, ℤ, Ok, Err, Result, ◌==◌, unsigned_abs}
use Rattle.refusal.specs.declared.Refusal.{Refusal}
use Rattle.refusal.specs.declared.Refusal.TheVariants.{ListLength, NoWeight}

-- an amount other than 0 with no weight to carry it
abbrev pub stranded : ℤ → ℕ → Bool
stranded amount whole = whole == 0 && not (unsigned_abs amount == 0)

-- the list of elements has n places and the list for the parts m
abbrev pub split_answer : ℤ → ℕ → ℕ → ℕ → Result (Unit {0}) Refusal
split_answer amount whole n m = cond (m == n) (cond (stranded amount whole) (Err NoWeight) (Ok tt)) (Err ListLength)
