-- A table of rows of 100 quarter hours, with a value or none in each place. Assumes nothing.
use Rattle.std.specs.Prelude.{ℕ, cond, ◌&&◌, List, [], None, Option, ◌==◌, slice_index_or}

-- a list of lists read by its two places, with a value for what is past its ends
abbrev pub cell : {X : Type 0} → X → List (List X) → ℕ → ℕ → X
cell d rows k q = slice_index_or (slice_index_or rows k []) q d

-- a table read by row and quarter hour: nothing past its ends
abbrev pub at : {X : Type 0} → List (List (Option X)) → ℕ → ℕ → Option X
at rows k q = cell None rows k q

-- nothing in any place
abbrev pub blank : {X : Type 0} → ℕ → ℕ → Option X
blank k q = None

-- the same table with another content in one place
abbrev pub put_at : {X : Type 0} → ℕ → ℕ → Option X → (ℕ → ℕ → Option X) → ℕ → ℕ → Option X
put_at row q content table k p = cond (k == row && p == q) content (table k p)
