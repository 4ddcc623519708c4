-- The readings of one day. Assumes nothing.
use Rattle.std.specs.Prelude.{ℕ, List, take, Ok, Err, Result}
use Rattle.refusal.specs.declared.Refusal.{Refusal}
use Rattle.roll.specs.Days.{quarters_of}
use Rattle.posting.specs.declared.readings.DayReadings.{DayReadings}

abbrev pub readings_of : DayReadings → List ℕ
readings_of d = take (quarters_of d.day) d.list

-- the readings that were laid out, or the refusal
abbrev pub readings_in : Result DayReadings Refusal → Result (List ℕ) Refusal
readings_in (Ok d) = Ok (readings_of d)
readings_in (Err e) = Err e

-- what was laid out, where the answer is that it was
abbrev pub spread_into : Result (Unit {0}) Refusal → List ℕ → Result (List ℕ) Refusal
spread_into (Ok u) readings = Ok readings
spread_into (Err e) readings = Err e
