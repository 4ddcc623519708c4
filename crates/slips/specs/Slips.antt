-- What a list of slips stands for. Assumes nothing.
--     a slip      the reading of one cell
--     in use      the first n slips of the list; what the others hold means nothing
use Rattle.std.specs.Prelude.{◌≡◌, ℕ, zero, suc, ◌<◌, ◌≤◌, List, length, Some, None, Option, slice_index_or}
use Rattle.book.specs.Cells.{Standing, nothing, put, count}
use Rattle.slips.specs.declared.slip.Slip.{Slip}

-- what a place past the list is read as
abbrev pub blank : Slip
blank = record { segment = 0; quarter_hour = 0; reading = 0 }

-- the slip at place i
abbrev pub slip_at : List Slip → ℕ → Slip
slip_at slips i = slice_index_or slips i blank

-- what stands in the slip's cell
abbrev pub cell_of : Standing → Slip → Option ℕ
cell_of st x = st x.segment x.quarter_hour

-- the slip's cell is given another content
abbrev pub put_cell : Standing → Slip → Option ℕ → Standing
put_cell st x c = put st x.segment x.quarter_hour c

-- each of the first n slips puts its reading into its cell
unfoldable pub standing_of : List Slip → ℕ → Standing
standing_of slips zero = nothing
standing_of slips (suc n) = put_cell (standing_of slips n) (slip_at slips n) (Some (slip_at slips n).reading)

-- a slip of one of the 64 times 100 cells, with a reading
abbrev pub InRange : Slip → Type 0
InRange x = (x.segment < 64) × (x.quarter_hour < 100) × (x.reading ≤ 1000000)

-- how the slips lie: the n in use are within the list, each is in range, and no two are of one cell, as n readings stand
abbrev pub Arranged : List Slip → ℕ → Type 0
Arranged slips n = (n ≤ length slips) × ((i : ℕ) → i < n → InRange (slip_at slips i)) × (count (standing_of slips n) ≡ n)

-- where the slip of a cell lies among the first n, with the reading that stands there; none, where nothing stands
abbrev pub Found : List Slip → ℕ → ℕ → ℕ → Option ℕ → Type 0
Found slips n s q None = standing_of slips n s q ≡ None
Found slips n s q (Some i) =
    (i < n) × ((slip_at slips i).segment ≡ s) × ((slip_at slips i).quarter_hour ≡ q) × (standing_of slips n s q ≡ Some (slip_at slips i).reading)
