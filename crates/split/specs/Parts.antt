-- The split of an amount over a list of weights. Assumes nothing.
--     amount    the whole amount that is split
--     whole     the sum of all weights, to which the list belongs
--     before    the sum of the weights that come before the list: 0 where the list is the whole
use Rattle.std.specs.Prelude.{ℕ, ◌+◌, List, [], ◌∷◌, map, length, take, ℤ, pos, ◌+ℤ◌, ◌-ℤ◌, ◌*ℤ◌}
use Rattle.std.specs.List.{range_with_len}
use Rattle.split.specs.Floor.{floor}

abbrev pub sum_of : List ℤ → ℤ
sum_of [] = pos 0
sum_of (x ∷ xs) = x +ℤ sum_of xs

-- the weights up to and without place k: what comes before the list, and its first k
unfoldable pub running : ℕ → List ℤ → ℕ → ℤ
running before weights k = pos before +ℤ sum_of (take k weights)

-- what the first weights, k of the list among them, get of the amount, rounded down
unfoldable pub share : ℤ → ℕ → ℕ → List ℤ → ℕ → ℤ
share amount whole before weights k = floor (amount *ℤ running before weights k) whole

-- the part of place k: the difference of two neighbouring shares
unfoldable pub part_at : ℤ → ℕ → ℕ → List ℤ → ℕ → ℤ
part_at amount whole before weights k =
    share amount whole before weights (k + 1) -ℤ share amount whole before weights k

unfoldable pub parts_of : ℤ → ℕ → ℕ → List ℤ → List ℤ
parts_of amount whole before weights = map (part_at amount whole before weights) (range_with_len 0 (length weights))
