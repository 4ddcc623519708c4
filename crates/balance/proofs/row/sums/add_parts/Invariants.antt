use Rattle.std.proofs.Common.{◌≡◌, ℕ, ◌<◌, length, get_or, pos, ◌+ℤ◌}
use Rattle.balance.specs.declared.row.LoadedRow.{LoadedRow}
use Rattle.balance.specs.Sheets.{row_load}
use Rattle.balance.proofs.row.sums.add_parts.Given as goal

abbrev pub invariant-loop-s : goal.invariant-loop-s
invariant-loop-s l =
    (length l.adjusted ≡ 64)
    × ((k : ℕ) (d : LoadedRow) → k < l.s → get_or l.adjusted k (pos 0) ≡ pos (row_load (get_or l.rows k d)) +ℤ get_or l.parts k (pos 0))
