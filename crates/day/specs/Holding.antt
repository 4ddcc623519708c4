-- The setting and the slate that a day holds. Assumes nothing.
use Rattle.std.specs.Prelude.{◌≡◌, ℕ, Some, None, Ok, Err, Result}
use Rattle.refusal.specs.declared.Refusal.{Refusal}
use Rattle.roll.specs.declared.draft.DayLength.{DayLength}
use Rattle.roll.specs.declared.roll.Roll.{Roll}
use Rattle.roll.specs.Days.{quarters_of}
use Rattle.roll.specs.Entries.{rows_of, sites_of}
use Rattle.book.specs.declared.LoadBook.{Ghosts}
use Rattle.book.specs.Grossing.{Grossing}
use Rattle.balance.specs.Balance.{Sheet}
use Rattle.balance.specs.Figures.{figures_of}
use Rattle.balance.specs.Gathering.{quarter}
use Rattle.balance.specs.Quarter.{Quarter}
use Rattle.balance.specs.declared.questions.QuarterHour.{QuarterHour}
use Rattle.day.specs.declared.states.Day.{Day}
use Rattle.day.specs.Entries.{late}
use Rattle.day.specs.Questions.{quarter_at, sheet_at}
use Rattle.day.specs.Slate.{Setting, Slate}

-- by a length, a roll, and the places and the grossing of a book
abbrev pub setting_by : DayLength → Roll → ℕ → Grossing → Setting
setting_by length roll places grossing = record {
  rows = rows_of roll;
  sites = sites_of roll;
  day = quarters_of length;
  length = length;
  places = places;
  grossing = grossing;
}

-- the length and the roll are the day's own, the places and the grossing its book's
abbrev pub day_setting : {B S : Type 0} → Ghosts B → Day B S → Setting
day_setting meaning day =
    setting_by day.length day.roll (meaning.places day.book) (meaning.grossing day.book)

-- the readings are those in the book
abbrev pub day_slate : {B S : Type 0} → Ghosts B → Day B S → Slate
day_slate meaning day = record { reading = meaning.standing day.book; figure = figures_of day.figures }

-- what the questions about one of its quarter hours are worked out from
abbrev pub day_quarter : {B S : Type 0} → Ghosts B → Day B S → ℕ → Quarter
day_quarter meaning day q = quarter_at (day_setting meaning day) (day_slate meaning day) q

abbrev pub day_sheet : {B S : Type 0} → Ghosts B → Day B S → ℕ → Sheet
day_sheet meaning day q = sheet_at (day_setting meaning day) (day_slate meaning day) q

-- that a day has the given setting, and this stands on its slate
pub record Holds {B S : Type 0} (meaning : Ghosts B) (day : Day B S) (given : Setting) (standing : Slate) : Type 0 where
  pub setting : day_setting meaning day ≡ given
  pub slate : day_slate meaning day ≡ standing

-- that a quarter hour of a day is looked at as it stands there, unless the day has no such one
abbrev pub AskedOf : {B S : Type 0} → Ghosts B → Day B S → ℕ → Result (QuarterHour B) Refusal → Type 0
AskedOf meaning day q (Ok x) = (late (quarters_of day.length) q ≡ None) × (x.quarter_hour ≡ q) × (quarter meaning x ≡ day_quarter meaning day q)
AskedOf meaning day q (Err e) = late (quarters_of day.length) q ≡ Some e
