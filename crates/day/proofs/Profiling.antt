-- From what was laid out and posted to what a profiled posting answers. Assumes nothing.
use Rattle.std.proofs.Common.{◌≡◌, ℕ, Bool, true, false, cond, List, length, Some, None, Ok, Err, Option, Result, sym, refl, ap, ◌∙◌}
use Rattle.refusal.specs.declared.Refusal.{Refusal}
use Rattle.balance.specs.Questions.{ok_unless}
use Rattle.balance.specs.Totals.{or_else}
use Rattle.roll.specs.Days.{quarters_of}
use Rattle.posting.specs.Readings.{spread_into}
use Rattle.posting.proofs.Laying.{day_length}
use Rattle.profile.specs.declared.ProfiledReading.{ProfiledReading}
use Rattle.day.specs.Entries.{spread_in, why_not}
use Rattle.day.specs.Slate.{Setting, readings_of}

-- where the earlier checks found nothing, the last one decides
pub decided : (high full : Bool) (spread : Result (Unit {0}) Refusal) (unlisted : Option Refusal) (had : ℕ) (number place : Refusal) (u : Unit {0}) → Ok u ≡ ok_unless (cond high (Some number) None) tt → Ok u ≡ spread → Ok u ≡ ok_unless unlisted tt → cond high (Err number) (cond full (Err place) (Ok had)) ≡ ok_unless (or_else (cond high (Some number) None) (or_else (why_not spread) (or_else unlisted (cond full (Some place) None)))) had
decided true full spread unlisted had number place u low ok on = cc
decided false full (Err e) unlisted had number place u low ok on = cc
decided false full (Ok v) (Some e) had number place u low ok on = cc
decided false true (Ok v) None had number place u low ok on = refl
decided false false (Ok v) None had number place u low ok on = refl

-- nothing spoke against readings that were laid out
laid : (a : Result (Unit {0}) Refusal) (readings got : List ℕ) → Ok got ≡ spread_into a readings → (Ok tt ≡ a) × (got ≡ readings)
laid (Ok u) readings got h = (refl, cc)
laid (Err e) readings got h = (cc, cc)

module _ (setting : Setting) (whole : setting.day ≡ quarters_of setting.length) (reading : ProfiledReading) (weights got : List ℕ) (ok : Ok got ≡ spread_into (spread_in setting reading weights) (readings_of reading weights)) where
  pub unspoken : Ok tt ≡ spread_in setting reading weights
  unspoken = (laid (spread_in setting reading weights) (readings_of reading weights) got ok).0

  pub day_long : length got ≡ setting.day
  day_long =
      ap length (laid (spread_in setting reading weights) (readings_of reading weights) got ok).1
      ∙ day_length reading.energy reading.profile_total reading.profile_before setting.length weights setting.day tt unspoken ∙ sym whole
