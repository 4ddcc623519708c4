-- A month of two kinds of day, and a reading that is spread over it. Assumes nothing.
--     s    the profile weights of the two kinds of day
--     K    the reading, in Wh
--     d    a day of the month, counted from 0
use Rattle.std.specs.Prelude.{ℕ, zero, suc, ◌+◌, ◌*◌, ◌/◌, ◌%◌, Bool, cond, ◌&&◌, List, Ok, Err, codes, sum, Result, ◌==◌, nat_le}
use Rattle.refusal.specs.declared.Refusal.{Refusal}
use Rattle.refusal.specs.declared.Refusal.TheVariants.{ProfileLimit}
use Rattle.roll.specs.declared.draft.DayLength.TheVariants.{Normal}
use Rattle.profile.specs.declared.ProfiledReading.{ProfiledReading}
use Rattle.profile.specs.Answer.{spread_answer}
use Rattle.profile.specs.Quarters.{day_of}
use Rattle.walkthrough.specs.declared.month.span.Shapes.{Shapes}

-- the month begins on a Monday
abbrev pub weekend : ℕ → Bool
weekend d = nat_le 5 (d % 7)

-- the days of the week from Monday, 0
abbrev pub weekday_of : ℕ → List ℕ
weekday_of n =
    cond (n == 0) (codes "Monday") (
    cond (n == 1) (codes "Tuesday") (
    cond (n == 2) (codes "Wednesday") (
    cond (n == 3) (codes "Thursday") (
    cond (n == 4) (codes "Friday") (
    cond (n == 5) (codes "Saturday") (codes "Sunday"))))))

abbrev pub weights_on : Shapes → ℕ → List ℕ
weights_on s d = cond (weekend d) s.weekend s.weekday

-- the weights of all the days before d
unfoldable pub weight_before : Shapes → ℕ → ℕ
weight_before s zero = 0
weight_before s (suc d) = weight_before s d + sum (weights_on s d)

-- what the box is told for day d of 30; a total that does not fit 32 bits is out of range
abbrev pub entry_of : Shapes → ℕ → ℕ → Result ProfiledReading Refusal
entry_of s K d =
    cond (nat_le (weight_before s 30) 4294967295 && nat_le (weight_before s d) 4294967295)
    (Ok (record { energy = K; profile_total = weight_before s 30; profile_before = weight_before s d }))
    (Err ProfileLimit)

-- what the profile uses of a reading before the entry's day, rounded down
abbrev pub units_before : ProfiledReading → ℕ
units_before e = e.energy * e.profile_before / e.profile_total

-- the list that the box fills, or its refusal
abbrev pub filled : Result (Unit {0}) Refusal → List ℕ → Result (List ℕ) Refusal
filled (Ok _) readings = Ok readings
filled (Err e) readings = Err e

abbrev pub spread_entry : Result ProfiledReading Refusal → List ℕ → Result (List ℕ) Refusal
spread_entry (Ok e) ws =
    filled (spread_answer e.energy e.profile_total e.profile_before Normal ws 96) (day_of e.energy e.profile_total e.profile_before ws)
spread_entry (Err e) ws = Err e

abbrev pub spread_on : Shapes → ℕ → ℕ → Result (List ℕ) Refusal
spread_on s K d = spread_entry (entry_of s K d) (weights_on s d)

-- one more day on what the days before it got; the first refusal stays
abbrev pub one_more : Result ℕ Refusal → Result (List ℕ) Refusal → Result ℕ Refusal
one_more (Ok t) (Ok readings) = Ok (t + sum readings)
one_more (Ok t) (Err e) = Err e
one_more (Err e) day = Err e

-- what the first days get together
unfoldable pub days_total : Shapes → ℕ → ℕ → Result ℕ Refusal
days_total s K zero = Ok 0
days_total s K (suc d) = one_more (days_total s K d) (spread_on s K d)
