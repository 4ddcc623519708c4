-- What the spread of a profiled reading answers. Assumes nothing.
use Rattle.std.specs.Prelude.{ℕ, ◌+◌, Bool, true, cond, not, ◌&&◌, List, [], ◌∷◌, length, Ok, Err, sum, Result, ◌==◌, nat_le, nat_lt}
use Rattle.refusal.specs.declared.Refusal.{Refusal}
use Rattle.refusal.specs.declared.Refusal.TheVariants.{ListLength, ProfileLimit, ProfileTotal, ProfiledQuarterHour}
use Rattle.roll.specs.declared.draft.DayLength.{DayLength}
use Rattle.roll.specs.Days.{quarters_of}
use Rattle.profile.specs.Quarters.{day_of}

-- no number of the list is above the limit
abbrev pub up_to : ℕ → List ℕ → Bool
up_to limit [] = true
up_to limit (x ∷ xs) = nat_le x limit && up_to limit xs

-- a list for each: the weights, and the places of the readings
abbrev pub as_long_as : DayLength → ℕ → ℕ → Bool
as_long_as day weights places = weights == quarters_of day && places == quarters_of day

-- the limits of K, P and B
abbrev pub in_range : ℕ → ℕ → ℕ → Bool
in_range K P B = nat_le K 1000000000 && (nat_le 1 P && (nat_le P 4000000000 && nat_le B 4000000000))

-- the lists are looked at first, then every number, then the day's place in the span, then what comes out
abbrev pub spread_answer : ℕ → ℕ → ℕ → DayLength → List ℕ → ℕ → Result (Unit {0}) Refusal
spread_answer K P B day ws places =
    cond (not (as_long_as day (length ws) places)) (Err ListLength) (
    cond (not (in_range K P B && up_to 100000 ws)) (Err ProfileLimit) (
    cond (nat_lt P (B + sum ws)) (Err ProfileTotal) (
    cond (not (up_to 1000000 (day_of K P B ws))) (Err ProfiledQuarterHour) (Ok tt))))
