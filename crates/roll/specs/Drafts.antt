-- What a draft holds, and what a new one holds. Assumes nothing.
use Rattle.std.specs.Prelude.{ℕ, Bool, false, List, replicate, None, Ok, Err, Option, Result}
use Rattle.std.specs.Option.{option_map, ok_or}
use Rattle.refusal.specs.declared.Refusal.{Refusal}
use Rattle.refusal.specs.declared.Refusal.TheVariants as refused
use Rattle.roll.specs.declared.draft.DayLength.{DayLength}
use Rattle.roll.specs.declared.draft.Draft.{Draft}
use Rattle.roll.specs.declared.roll.Roll.{Roll}
use Rattle.roll.specs.declared.row.Row.{Row}
use Rattle.roll.specs.Days.{length_of}
use Rattle.roll.specs.Entries.{rows_of, sites_of}

abbrev pub day_of : Draft → DayLength
day_of d = d.length

abbrev pub roll_of : Draft → Roll
roll_of d = d.roll

-- a draft as its day, its rows by segment number and its sites by number
pub record Contents : Type 0 where
  pub day : DayLength
  pub rows : List (Option Row)
  pub sites : List Bool

abbrev pub contents_of : Draft → Contents
contents_of d = record { day = day_of d; rows = rows_of (roll_of d); sites = sites_of (roll_of d) }

-- what was begun, by what it holds, or the refusal
abbrev pub contents_in : Result Draft Refusal → Result Contents Refusal
contents_in (Ok d) = Ok (contents_of d)
contents_in (Err e) = Err e

-- none of the 64 segments and none of the 16 sites
abbrev pub empty_of : DayLength → Contents
empty_of l = record { day = l; rows = replicate 64 None; sites = replicate 16 false }

-- a draft is begun for one of the three lengths, and refused for any other
abbrev pub begun : ℕ → Result Contents Refusal
begun n = ok_or (option_map empty_of (length_of n)) refused.DayLength
