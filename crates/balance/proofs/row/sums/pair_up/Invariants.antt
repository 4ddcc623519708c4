use Rattle.std.proofs.Common.{◌≡◌, ℕ, ◌*◌, length, pos}
use Rattle.book.specs.Tables.{cell}
use Rattle.balance.specs.declared.row.LoadedRow.{LoadedRow}
use Rattle.balance.specs.Sheets.{CellsWithin, Shaped, pair_sum}
use Rattle.balance.proofs.row.sums.pair_up.Given as goal

-- the pairs have what the rows so far bring, and are as small as so many amounts
abbrev pub invariant-loop-row : goal.invariant-loop-row
invariant-loop-row l =
    Shaped l.pairs
    × ((d : LoadedRow) (qse point : ℕ) → cell (pos 0) l.pairs qse point ≡ pair_sum l.rows l.amounts d (length l.yielded) qse point)
    × CellsWithin (length l.yielded * 420000000) l.pairs
