-- The roll as two lists, and what an entry is answered. Assumes nothing.
use Rattle.std.specs.Prelude.{ℕ, Bool, false, cond, not, List, is_some, None, Ok, Err, Option, Result, nat_lt, slice_index_or}
use Rattle.refusal.specs.declared.Refusal.{Refusal}
use Rattle.refusal.specs.declared.Refusal.TheVariants.{SegmentNumber, SiteNumber, SegmentField, AlreadyOnRoll}
use Rattle.roll.specs.declared.roll.Roll.{Roll}
use Rattle.roll.specs.declared.row.Row.{Row}
use Rattle.roll.specs.Ranges.{in_range}

-- the row under each segment number, 0 to 63, or none
abbrev pub rows_of : Roll → List (Option Row)
rows_of r = r.segments

-- whether each site number, 0 to 15, is listed
abbrev pub sites_of : Roll → List Bool
sites_of r = r.sites

-- a segment's entry: the number is looked at first, then the row, then the place
abbrev pub segment_entry : List (Option Row) → ℕ → Row → Result (Unit {0}) Refusal
segment_entry rows number row =
    cond (nat_lt 63 number) (Err SegmentNumber) (
    cond (not (in_range row)) (Err SegmentField) (
    cond (is_some (slice_index_or rows number None)) (Err AlreadyOnRoll) (Ok tt)))

-- a site's entry: the number, then the place
abbrev pub site_entry : List Bool → ℕ → Result (Unit {0}) Refusal
site_entry sites number =
    cond (nat_lt 15 number) (Err SiteNumber) (
    cond (slice_index_or sites number false) (Err AlreadyOnRoll) (Ok tt))
