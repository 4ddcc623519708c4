-- A chain of days that follow one another, each by its profile weights. Assumes nothing.
use Rattle.std.specs.Prelude.{ℕ, ◌+◌, List, [], ◌∷◌, sum}
use Rattle.profile.specs.Quarters.{day_of}

-- the profile weight of all the days
abbrev pub sum_all : List (List ℕ) → ℕ
sum_all [] = 0
sum_all (day ∷ days) = sum day + sum_all days

-- all that the days get of K, where b of the profile comes before the first, and each starts where the last one ended
abbrev pub days_of : ℕ → ℕ → ℕ → List (List ℕ) → ℕ
days_of K P b [] = 0
days_of K P b (day ∷ days) = sum (day_of K P b day) + days_of K P (b + sum day) days
