-- Rows with their loads, added up. Assumes nothing.
use Rattle.std.specs.Prelude.{◌≡◌, ℕ, ◌<◌, ◌≤◌, cond, ◌&&◌, List, [], length, get_or, ℤ, pos, Some, None, Option, ◌==◌, slice_index_or, unsigned_abs}
use Rattle.roll.specs.declared.row.Row.{Row}
use Rattle.balance.specs.declared.row.LoadedRow.{LoadedRow}
use Rattle.book.specs.Tables.{cell}
use Rattle.balance.specs.Balance.{weight_in, belongs}
use Rattle.balance.specs.Totals.{total}

abbrev pub row_load : LoadedRow → ℕ
row_load l = l.load

abbrev pub weight_of_row : LoadedRow → ℕ
weight_of_row l = weight_in l.row l.load

abbrev pub row_weight_z : LoadedRow → ℤ
row_weight_z l = pos (weight_of_row l)

-- the pair of QSE and settlement point that a row belongs to, if there is a row
abbrev pub PairOf : Option Row → Option (ℕ × ℕ) → Type 0
PairOf row None = row ≡ None
PairOf row (Some pair) =
    (pair.0 < 16) × (pair.1 < 8) × ((qse point : ℕ) → belongs row qse point ≡ (qse == pair.0 && point == pair.1))

-- a table of 16 QSEs by 8 settlement points
abbrev pub Shaped : List (List ℤ) → Type 0
Shaped pairs = (length pairs ≡ 16) × ((k : ℕ) → k < 16 → length (slice_index_or pairs k []) ≡ 8)

-- no amount is larger than m, either way
abbrev pub EachWithin : ℕ → List ℤ → Type 0
EachWithin m amounts = (s : ℕ) → unsigned_abs (slice_index_or amounts s (pos 0)) ≤ m

-- and none of a table by QSE and settlement point
abbrev pub CellsWithin : ℕ → List (List ℤ) → Type 0
CellsWithin m pairs = (qse point : ℕ) → unsigned_abs (cell (pos 0) pairs qse point) ≤ m

-- what the first n rows bring to a pair, by their amounts
abbrev pub pair_sum : List LoadedRow → List ℤ → LoadedRow → ℕ → ℕ → ℕ → ℤ
pair_sum rows amounts d n qse point =
    total (λ s. cond (belongs (get_or rows s d).row qse point) (slice_index_or amounts s (pos 0)) (pos 0)) n
