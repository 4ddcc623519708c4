-- The slate of a day: what was entered and stands, and what is fixed while the day lives. Assumes nothing.
use Rattle.std.specs.Prelude.{ℕ, Bool, List, ℤ, Some, None, Option}
use Rattle.roll.specs.declared.draft.DayLength.{DayLength}
use Rattle.roll.specs.declared.row.Row.{Row}
use Rattle.book.specs.Cells.{Standing, nothing, put}
use Rattle.book.specs.Grossing.{Grossing}
use Rattle.book.specs.Tables.{blank, put_at}
use Rattle.profile.specs.declared.ProfiledReading.{ProfiledReading}
use Rattle.profile.specs.Quarters.{day_of}
use Rattle.posting.specs.Rows.{put_row}

pub record Setting : Type 0 where
  -- the roll: the row of each segment 0 to 63, or none, and whether each site 0 to 15 is listed
  pub rows : List (Option Row)
  pub sites : List Bool
  -- how many quarter hours the day has, and which of the three lengths that is
  pub day : ℕ
  pub length : DayLength
  -- how many readings can stand together, and what a reading, or none, grosses to
  pub places : ℕ
  pub grossing : Grossing

pub record Slate : Type 0 where
  -- the reading of each segment and quarter hour, in Wh, or none
  pub reading : Standing
  -- the generation figure of each site and quarter hour, in Wh, or none
  pub figure : ℕ → ℕ → Option ℤ

abbrev pub blank_slate : Slate
blank_slate = record { reading = nothing; figure = blank }

-- a reading written into its cell, and one wiped
abbrev pub posted : Slate → ℕ → ℕ → ℕ → Slate
posted slate s q v = record { reading = put slate.reading s q (Some v); figure = slate.figure }

abbrev pub withdrawn : Slate → ℕ → ℕ → Slate
withdrawn slate s q = record { reading = put slate.reading s q None; figure = slate.figure }

-- the readings of a day's quarter hours, by a reading for a span of days and the day's profile weights
abbrev pub readings_of : ProfiledReading → List ℕ → List ℕ
readings_of reading weights =
    day_of reading.energy reading.profile_total reading.profile_before weights

-- all of them written to a segment
abbrev pub profiled : Slate → ℕ → ProfiledReading → List ℕ → Slate
profiled slate s reading weights =
    record { reading = put_row slate.reading s (readings_of reading weights); figure = slate.figure }

-- a figure written, and one wiped
abbrev pub figured : Slate → ℕ → ℕ → ℤ → Slate
figured slate i q wh = record { reading = slate.reading; figure = put_at i q (Some wh) slate.figure }

abbrev pub struck : Slate → ℕ → ℕ → Slate
struck slate i q = record { reading = slate.reading; figure = put_at i q None slate.figure }
