-- What a reading, or none, comes to as a load. Assumes nothing.
use Rattle.std.specs.Prelude.{ℕ, ◌≤◌, Some, None, Option}
use Rattle.refusal.specs.declared.Refusal.{Refusal}
use Rattle.refusal.specs.declared.Refusal.TheVariants.{NoReading, NoFactor, LoadTooLarge}

-- why a cell has no load
pub data Fault : Type 0 where
  no_reading : Fault
  no_factor : Fault
  too_large : Fault

-- a load in Wh; or a fault with its height, the count of layers that it came up through
pub data Gross : Type 0 where
  load : ℕ → Gross
  fault : Fault → ℕ → Gross

-- the gross of each cell, by what stands there
abbrev pub Grossing : Type 0
Grossing = ℕ → ℕ → Option ℕ → Gross

-- a load is at most 4,000,000 Wh, a height at most 255
abbrev pub Bounded : Gross → Type 0
Bounded (load m) = m ≤ 4000000
Bounded (fault f h) = h ≤ 255

-- a fault as the refusal that names the segment
abbrev pub refusal_of : ℕ → Fault → ℕ → Refusal
refusal_of s no_reading h = NoReading s h
refusal_of s no_factor h = NoFactor s h
refusal_of s too_large h = LoadTooLarge s h

-- in a book with no layer over it a reading is its own load, and no reading is a fault of its own
abbrev pub plainly : Option ℕ → Gross
plainly (Some n) = load n
plainly None = fault no_reading 0
