-- What an entry is refused with, or else answers, by the setting and the slate alone. Assumes nothing.
use Rattle.std.specs.Prelude.{ℕ, Bool, false, cond, List, ℤ, pos, is_some, Some, None, Ok, Err, Option, Result, nat_lt, slice_index_or, unsigned_abs}
use Rattle.std.specs.Option.{unwrap_or}
use Rattle.refusal.specs.declared.Refusal.{Refusal}
use Rattle.refusal.specs.declared.Refusal.TheVariants as refused
use Rattle.book.specs.Answers.{full}
use Rattle.balance.specs.Questions.{ok_unless}
use Rattle.balance.specs.Totals.{or_else}
use Rattle.profile.specs.declared.ProfiledReading.{ProfiledReading}
use Rattle.profile.specs.Answer.{spread_answer}
use Rattle.posting.specs.Rows.{crowded, having}
use Rattle.day.specs.Slate.{Setting, Slate}

-- ---- the checks

-- a segment number above 63, a site number above 15
abbrev pub no_segment : ℕ → Option Refusal
no_segment s = cond (nat_lt 63 s) (Some refused.SegmentNumber) None

abbrev pub no_site : ℕ → Option Refusal
no_site i = cond (nat_lt 15 i) (Some refused.SiteNumber) None

-- a quarter hour that is not below the day's length
abbrev pub late : ℕ → ℕ → Option Refusal
late day q = cond (nat_lt q day) None (Some refused.QuarterHour)

-- a reading above 1,000,000 Wh, a figure further than 10,000,000 Wh from 0
abbrev pub above_limit : ℕ → Option Refusal
above_limit v = cond (nat_lt 1000000 v) (Some refused.Reading) None

abbrev pub too_far : ℤ → Option Refusal
too_far wh = cond (nat_lt 10000000 (unsigned_abs wh)) (Some refused.Figure) None

-- a number that is not on the roll, which the refusal names
abbrev pub unlisted : Bool → ℕ → Option Refusal
unlisted listed number = cond listed None (Some (refused.NotOnRoll number))

abbrev pub segment_off_roll : Setting → ℕ → Option Refusal
segment_off_roll setting s = unlisted (is_some (slice_index_or setting.rows s None)) s

abbrev pub site_off_roll : Setting → ℕ → Option Refusal
site_off_roll setting i = unlisted (slice_index_or setting.sites i false) i

-- a new reading where as many stand as there are places
abbrev pub no_place : Setting → Slate → ℕ → ℕ → Option Refusal
no_place setting slate s q = cond (full slate.reading setting.places s q) (Some refused.NoPlace) None

-- more quarter hours of the day without a reading than places are left
abbrev pub no_places : Setting → Slate → ℕ → Option Refusal
no_places setting slate s =
    cond (crowded slate.reading setting.places s setting.day) (Some refused.NoPlace) None

-- why something was not done
abbrev pub why_not : {X : Type 0} → Result X Refusal → Option Refusal
why_not (Ok x) = None
why_not (Err e) = Some e

-- whether a reading for a span of days can be laid over this one
abbrev pub spread_in : Setting → ProfiledReading → List ℕ → Result (Unit {0}) Refusal
spread_in setting reading weights =
    spread_answer reading.energy reading.profile_total reading.profile_before setting.length weights setting.day

-- weights that are not as long as the day, a number out of its limits, or a day that does not fit its span
abbrev pub unspread : Setting → ProfiledReading → List ℕ → Option Refusal
unspread setting reading weights = why_not (spread_in setting reading weights)

-- nothing to be taken back
abbrev pub bare : {X : Type 0} → Option X → Option Refusal
bare content = cond (is_some content) None (Some refused.NothingStands)

-- ---- the refusals, in order

abbrev pub post_refusal : Setting → Slate → ℕ → ℕ → ℕ → Option Refusal
post_refusal setting slate s q v =
    or_else (no_segment s) (
    or_else (late setting.day q) (
    or_else (above_limit v) (
    or_else (segment_off_roll setting s) (
    no_place setting slate s q))))

abbrev pub profiled_refusal : Setting → Slate → ℕ → ProfiledReading → List ℕ → Option Refusal
profiled_refusal setting slate s reading weights =
    or_else (no_segment s) (
    or_else (unspread setting reading weights) (
    or_else (segment_off_roll setting s) (
    no_places setting slate s)))

abbrev pub withdraw_refusal : Setting → Slate → ℕ → ℕ → Option Refusal
withdraw_refusal setting slate s q =
    or_else (no_segment s) (
    or_else (late setting.day q) (
    or_else (segment_off_roll setting s) (
    bare (slate.reading s q))))

abbrev pub figure_refusal : Setting → Slate → ℕ → ℕ → ℤ → Option Refusal
figure_refusal setting slate i q wh =
    or_else (late setting.day q) (
    or_else (no_site i) (
    or_else (too_far wh) (
    site_off_roll setting i)))

abbrev pub strike_refusal : Setting → Slate → ℕ → ℕ → Option Refusal
strike_refusal setting slate i q =
    or_else (late setting.day q) (
    or_else (no_site i) (
    or_else (site_off_roll setting i) (
    bare (slate.figure i q))))

-- ---- the answers

-- the reading that stood before, or none
abbrev pub post_answer : Setting → Slate → ℕ → ℕ → ℕ → Result (Option ℕ) Refusal
post_answer setting slate s q v = ok_unless (post_refusal setting slate s q v) (slate.reading s q)

-- how many quarter hours of the day had a reading before
abbrev pub profiled_answer : Setting → Slate → ℕ → ProfiledReading → List ℕ → Result ℕ Refusal
profiled_answer setting slate s reading weights =
    ok_unless (profiled_refusal setting slate s reading weights) (having slate.reading s setting.day)

-- the reading that stood
abbrev pub withdraw_answer : Setting → Slate → ℕ → ℕ → Result ℕ Refusal
withdraw_answer setting slate s q = ok_unless (withdraw_refusal setting slate s q) (unwrap_or (slate.reading s q) 0)

-- the figure that stood before, or none
abbrev pub figure_answer : Setting → Slate → ℕ → ℕ → ℤ → Result (Option ℤ) Refusal
figure_answer setting slate i q wh = ok_unless (figure_refusal setting slate i q wh) (slate.figure i q)

-- the figure that stood
abbrev pub strike_answer : Setting → Slate → ℕ → ℕ → Result ℤ Refusal
strike_answer setting slate i q = ok_unless (strike_refusal setting slate i q) (unwrap_or (slate.figure i q) (pos 0))
