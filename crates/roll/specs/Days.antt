-- The three lengths of a day, in quarter hours. Assumes nothing.
use Rattle.std.specs.Prelude.{ℕ, cond, Some, None, Option, ◌==◌}
use Rattle.roll.specs.declared.draft.DayLength.{DayLength}
use Rattle.roll.specs.declared.draft.DayLength.TheVariants.{Short, Normal, Long}

-- 24 hours, or one less where the clocks go forward, or one more where they go back
abbrev pub quarters_of : DayLength → ℕ
quarters_of Short = 92
quarters_of Normal = 96
quarters_of Long = 100

-- the day of so many quarter hours
abbrev pub length_of : ℕ → Option DayLength
length_of n = cond (n == 92) (Some Short) (cond (n == 96) (Some Normal) (cond (n == 100) (Some Long) None))
