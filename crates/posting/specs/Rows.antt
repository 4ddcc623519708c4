-- A row of readings for one segment, posted whole or not at all. Assumes nothing.
use Rattle.std.specs.Prelude.{ℕ, zero, suc, ◌+◌, ◌-◌, Bool, cond, ◌&&◌, List, length, is_some, Some, Ok, Err, Result, ◌==◌, nat_lt, slice_index}
use Rattle.refusal.specs.declared.Refusal.{Refusal}
use Rattle.refusal.specs.declared.Refusal.TheVariants.{NoPlace}
use Rattle.book.specs.Cells.{Standing, count}

-- the first n quarter hours of a segment are given the readings of a list, every other cell keeps its own
unfoldable pub put_first : Standing → ℕ → List ℕ → ℕ → Standing
put_first st s readings n t p = cond (t == s && nat_lt p n) (Some (slice_index readings p)) (st t p)

abbrev pub put_row : Standing → ℕ → List ℕ → Standing
put_row st s readings = put_first st s readings (length readings)

-- how many of the first n quarter hours of a segment have no reading, and how many have one
unfoldable pub lacking : Standing → ℕ → ℕ → ℕ
lacking st s zero = 0
lacking st s (suc n) = lacking st s n + cond (is_some (st s n)) 0 1

abbrev pub having : Standing → ℕ → ℕ → ℕ
having st s n = n - lacking st s n

-- more quarter hours lack a reading than places are left
abbrev pub crowded : Standing → ℕ → ℕ → ℕ → Bool
crowded st places s n = nat_lt (places - count st) (lacking st s n)

abbrev pub row_answer : Standing → ℕ → ℕ → List ℕ → Result ℕ Refusal
row_answer st places s readings =
    cond (crowded st places s (length readings)) (Err NoPlace) (Ok (having st s (length readings)))
