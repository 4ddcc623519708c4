-- A table of loss factors: a factor or none for each row and quarter hour. Assumes nothing.
use Rattle.std.specs.Prelude.{ℕ, ◌≤◌, Option}
use Rattle.std.specs.Option.{unwrap_or}

-- a table read by row and quarter hour
abbrev pub Factors : Type 0
Factors = ℕ → ℕ → Option ℕ

-- a factor is 0 to 500,000 millionths
abbrev pub Lawful : Option ℕ → Type 0
Lawful f = unwrap_or f 0 ≤ 500000
