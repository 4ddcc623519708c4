-- What a record and the plain row that it was read from have to do with each other. Assumes nothing.
use Rattle.std.proofs.Common.{◌≡◌, Bool, true, false, cond, eqb, Some, None, Ok, Err, sym, refl, ap, ◌∙◌}
use Rattle.std.proofs.lemmas.Bool.{cond-true}
use Rattle.refusal.specs.declared.Refusal.{Refusal}
use Rattle.refusal.specs.declared.Refusal.TheVariants.{SegmentField}
use Rattle.roll.specs.declared.row.LossCode.{LossCode}
use Rattle.roll.specs.declared.row.LossCode.TheVariants as code
use Rattle.roll.specs.declared.row.Meter.{Meter}
use Rattle.roll.specs.declared.row.Meter.TheVariants.{Interval, Profiled}
use Rattle.roll.specs.declared.row.Row.{Row}
use Rattle.roll.specs.declared.segment.Segment.{Segment}
use Rattle.roll.specs.Decoding.{DecodesRow}
use Rattle.roll.specs.Ranges.{in_range}
use Rattle.roll.specs.Marks.{letter_of, meter_mark}
use Rattle.roll.specs.Segments.{row_of, weight_of, meter_weight, plain_weight, weight_of_row}

-- a row that is read is in range, and is what the record writes back
pub read_back : (s : Segment) (row : Row) → Some (row_of s) ≡ cond (in_range row) (Some row) None → (in_range row ≡ true) × (row_of s ≡ row)
read_back s row = elim (in_range row) as (λ b. Some (row_of s) ≡ cond b (Some row) None → (b ≡ true) × (row_of s ≡ row)) [ true ↦ λ e. (refl, cc) | false ↦ λ e. (cc, cc) ]

-- a row that makes a record is in range
pub read_in_range : (s : Segment) (row : Row) → DecodesRow row (Ok s) → in_range row ≡ true
read_in_range s row d = (read_back s row d.back).0

-- and one that makes none is out of range, which is why
pub out_of_range : (e : Refusal) (row : Row) → DecodesRow row (Err e) → (in_range row ≡ false) × (e ≡ SegmentField)
out_of_range e row d = elim (in_range row) as (λ b. Some e ≡ cond b None (Some SegmentField) → (b ≡ false) × (e ≡ SegmentField)) [ true ↦ λ h. cc | false ↦ λ h. (refl, cc) ] d.refused

-- the rule on plain marks gives the weight that the record's cases give
by_cases : (noie : Bool) (m : Meter) (k : LossCode) →
    cond (eqb (cond noie 1 0) 1) 0 (cond (eqb (meter_mark m) 1) 10 (cond (eqb (letter_of k) 84) 1 5)) ≡ cond noie 0 (meter_weight m k)
by_cases true m k = refl
by_cases false Profiled k = refl
by_cases false Interval code.A = refl
by_cases false Interval code.B = refl
by_cases false Interval code.C = refl
by_cases false Interval code.D = refl
by_cases false Interval code.E = refl
by_cases false Interval code.T = refl

-- a row has the weight of the record that was read from it
pub read_weight : (s : Segment) (row : Row) → Some (row_of s) ≡ cond (in_range row) (Some row) None → weight_of_row row ≡ Some (weight_of s)
read_weight s row e =
    let b = read_back s row e in
    cond-true (in_range row) (Some (plain_weight row)) None b.0 ∙ ap Some (sym (ap plain_weight b.1) ∙ by_cases s.noie s.meter s.code)
