-- A balance as the program holds it. Assumes nothing.
use Rattle.std.specs.Prelude.{◌≡◌, ℕ, ◌<◌, List, map, ℤ, pos, Some, None, Ok, Err, Result, slice_index_or, refl}
use Rattle.std.proofs.Common.{zero-le}
use Rattle.std.specs.List.{range_with_len}
use Rattle.refusal.specs.declared.Refusal.{Refusal}
use Rattle.split.specs.Parts.{parts_of}
use Rattle.book.specs.Tables.{cell}
use Rattle.balance.specs.declared.row.LoadedRow.{LoadedRow}
use Rattle.balance.specs.declared.settled.Balance.{Balance}
use Rattle.balance.specs.Balance.{Sheet, ufe, uncarried, stranded, adjusted, rtaml, qse_load}

-- a place that nobody has
abbrev pub blank_row : LoadedRow
blank_row = record { row = None; load = 0; small = zero-le; in_range = refl; unlisted = λ _. refl }

-- rows with their loads, and what was generated, as a sheet
abbrev pub sheet_in : List LoadedRow → ℤ → Sheet
sheet_in rows g =
    record { row = λ s. (slice_index_or rows s blank_row).row; load = λ s. (slice_index_or rows s blank_row).load; generation = g }

pub record Holds (y : Sheet) (b : Balance) : Type 0 where
  pub generation : b.generation ≡ y.generation
  pub ufe : b.ufe ≡ ufe y
  pub adjusted : b.adjusted ≡ map (adjusted y) (range_with_len 0 64)
  pub pairs : (qse point : ℕ) → qse < 16 → point < 8 → cell (pos 0) b.pairs qse point ≡ rtaml y qse point
  pub qse_loads_are : b.qse_loads ≡ map (qse_load y) (range_with_len 0 16)

-- the parts of the UFE, or that nobody carries it
abbrev pub SplitAs : Result (List ℤ) Refusal → ℤ → ℕ → List ℤ → Type 0
SplitAs (Ok parts) amount whole ws = (uncarried amount whole ≡ None) × (parts ≡ parts_of amount whole 0 ws)
SplitAs (Err e) amount whole ws = uncarried amount whole ≡ Some e

-- the balance of a sheet, or that it has none
abbrev pub Settled : Sheet → Result Balance Refusal → Type 0
Settled y (Ok b) = (stranded y ≡ None) × Holds y b
Settled y (Err e) = stranded y ≡ Some e
