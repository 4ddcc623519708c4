-- Division towards minus infinity. Assumes nothing.
use Rattle.std.specs.Prelude.{ℕ, suc, ◌-◌, ◌/◌, ◌%◌, ℤ, pos, negsuc}

-- the largest whole number that is not above z / w, for a positive w
unfoldable pub floor : ℤ → ℕ → ℤ
floor (pos a) w = pos (a / w)
floor (negsuc a) w = negsuc (a / w)

-- what z is above w times that number
unfoldable pub rest : ℤ → ℕ → ℕ
rest (pos a) w = a % w
rest (negsuc a) w = w - suc (a % w)
