-- The grossing under one adjustment, by what its table makes of one cell. Assumes nothing.
--     f    what a table of the kind A makes of a cell, by what the book below makes of it
use Rattle.std.specs.Prelude.{ℕ, Some, None, Option}
use Rattle.book.specs.Grossing.{Gross, Grossing, Bounded}

abbrev pub layered : {A : Type 0} → (A → ℕ → ℕ → Gross → Gross) → A → Grossing → Grossing
layered f table below s q reading = f table s q (below s q reading)

-- without a table a cell stays as it is
abbrev pub maybe : {A : Type 0} → (A → ℕ → ℕ → Gross → Gross) → Option A → ℕ → ℕ → Gross → Gross
maybe f (Some table) s q g = f table s q g
maybe f None s q g = g

pub maybe_bounded : {A : Type 0} (f : A → ℕ → ℕ → Gross → Gross) → ((t : A) (s q : ℕ) (g : Gross) → Bounded g → Bounded (f t s q g)) → (t : Option A) (s q : ℕ) (g : Gross) → Bounded g → Bounded (maybe f t s q g)
maybe_bounded f bounded (Some table) s q g h = bounded table s q g h
maybe_bounded f bounded None s q g h = h
