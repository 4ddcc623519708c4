-- The balance of a quarter hour. Assumes nothing.
use Rattle.std.specs.Prelude.{ℕ, ◌*◌, Bool, false, cond, not, ◌&&◌, List, map, ℤ, pos, ◌+ℤ◌, ◌-ℤ◌, Some, None, Option, ◌==◌, int_lt, unsigned_abs}
use Rattle.std.specs.List.{range_with_len}
use Rattle.refusal.specs.declared.Refusal.{Refusal}
use Rattle.refusal.specs.declared.Refusal.TheVariants.{NoWeight, NoTotal}
use Rattle.roll.specs.declared.row.Row.{Row}
use Rattle.roll.specs.Segments.{plain_weight}
use Rattle.split.specs.Parts.{part_at, parts_of}
use Rattle.balance.specs.Totals.{total, count}

-- what a balance is made from: the row of each segment 0 to 63, or none, its grossed load in Wh, and what was
-- generated in all
pub record Sheet : Type 0 where
  pub row : ℕ → Option Row
  pub load : ℕ → ℕ
  pub generation : ℤ

-- ---- the energy that is not accounted for

-- L, all grossed loads
abbrev pub metered : Sheet → ℕ
metered y = count y.load 64

-- U, what was generated and not metered
abbrev pub ufe : Sheet → ℤ
ufe y = y.generation -ℤ pos (metered y)

-- ---- who carries it

abbrev pub weight_in : Option Row → ℕ → ℕ
weight_in None m = 0
weight_in (Some row) m = plain_weight row * m

-- what a segment counts in the split of the UFE: its weight times its load
abbrev pub weight_of : Sheet → ℕ → ℕ
weight_of y s = weight_in (y.row s) (y.load s)

abbrev pub weights : Sheet → List ℤ
weights y = map (λ s. pos (weight_of y s)) (range_with_len 0 64)

abbrev pub weighted : Sheet → ℕ
weighted y = count (weight_of y) 64

-- an amount with no weight to carry it
abbrev pub uncarried : ℤ → ℕ → Option Refusal
uncarried amount whole = cond (whole == 0 && not (unsigned_abs amount == 0)) (Some NoWeight) None

abbrev pub stranded : Sheet → Option Refusal
stranded y = uncarried (ufe y) (weighted y)

-- a segment's load and its part of the UFE
unfoldable pub adjusted : Sheet → ℕ → ℤ
adjusted y s = pos (y.load s) +ℤ part_at (ufe y) (weighted y) 0 (weights y) s

-- ---- by QSE and settlement point

abbrev pub belongs : Option Row → ℕ → ℕ → Bool
belongs None qse point = false
belongs (Some row) qse point = qse == row.qse && point == row.point

-- RTAML: the adjusted loads of the segments of a QSE at a settlement point
unfoldable pub rtaml : Sheet → ℕ → ℕ → ℤ
rtaml y qse point = total (λ s. cond (belongs (y.row s) qse point) (adjusted y s) (pos 0)) 64

unfoldable pub qse_load : Sheet → ℕ → ℤ
qse_load y qse = total (λ point. rtaml y qse point) 8

-- RTAMLTOT
abbrev pub rtamltot : Sheet → ℤ
rtamltot y = total (qse_load y) 16

-- the load ratio shares, in billionths
abbrev pub shares : Sheet → List ℤ
shares y = parts_of (pos 1000000000) (unsigned_abs (rtamltot y)) 0 (map (qse_load y) (range_with_len 0 16))

-- shares need a total above 0
abbrev pub unshared : Sheet → Option Refusal
unshared y = cond (int_lt (pos 0) (rtamltot y)) None (Some NoTotal)
