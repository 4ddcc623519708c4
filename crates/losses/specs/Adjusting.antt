-- What a loss adjustment makes of the load below it. Assumes nothing.
use Rattle.std.specs.Prelude.{ℕ, ◌+◌, ◌*◌, ◌/◌, ◌≤◌, min, cond, Some, None, Option, nat_le}
use Rattle.book.specs.Grossing.{Gross, load, fault, no_factor, too_large}
use Rattle.losses.specs.declared.adjust.Loss.{Loss}
use Rattle.losses.specs.declared.adjust.Loss.TheVariants.{Unchanged, Missing, Factor}

-- one layer up; a height stops at 255
abbrev pub higher : ℕ → ℕ
higher h = min (h + 1) 255

-- m Wh with a loss factor of f millionths, rounded to the nearest Wh, halves up
unfoldable pub grossed_up : ℕ → ℕ → ℕ
grossed_up f m = (m * (1000000 + f) + 500000) / 1000000

abbrev pub limited : ℕ → Gross
limited m = cond (nat_le m 4000000) (load m) (fault too_large 0)

-- a fault from below is passed up, one higher
abbrev pub adjusted : Loss → Gross → Gross
adjusted l (fault f h) = fault f (higher h)
adjusted Unchanged (load m) = load m
adjusted Missing (load m) = fault no_factor 0
adjusted (Factor f) (load m) = limited (grossed_up f m)

-- the loss by a factor that was given, or was not
abbrev pub given : Option ℕ → Loss
given None = Missing
given (Some f) = Factor f

-- a factor is 0 to 500,000 millionths
abbrev pub Small : Loss → Type 0
Small Unchanged = Unit {0}
Small Missing = Unit {0}
Small (Factor f) = f ≤ 500000
