-- What a plain number or row is read as, and that what was read stands for that very number or row. Assumes nothing.
use Rattle.std.specs.Prelude.{◌≡◌, ℕ, cond, is_ok, Some, None, Result}
use Rattle.std.specs.Option.{option_map, ok_or}
use Rattle.std.specs.Result.{result_ok, result_err}
use Rattle.refusal.specs.declared.Refusal.{Refusal}
use Rattle.refusal.specs.declared.Refusal.TheVariants as refused
use Rattle.roll.specs.declared.draft.DayLength.{DayLength}
use Rattle.roll.specs.declared.row.LossCode.{LossCode}
use Rattle.roll.specs.declared.row.Meter.{Meter}
use Rattle.roll.specs.declared.row.Row.{Row}
use Rattle.roll.specs.declared.segment.Segment.{Segment}
use Rattle.roll.specs.Days.{length_of, quarters_of}
use Rattle.roll.specs.Marks.{code_of, letter_of, meter_of}
use Rattle.roll.specs.Ranges.{in_range}
use Rattle.roll.specs.Segments.{row_of}

-- the code of a letter's byte, and back
pub record DecodesLetter (b : ℕ) (r : Result LossCode Refusal) : Type 0 where
  pub code : r ≡ ok_or (code_of b) refused.SegmentField
  pub letter : option_map letter_of (result_ok r) ≡ cond (is_ok r) (Some b) None

-- the meter of a mark
abbrev pub DecodesMark : ℕ → Result Meter Refusal → Type 0
DecodesMark mark r = r ≡ ok_or (meter_of mark) refused.SegmentField

-- the day of so many quarter hours, and back
pub record DecodesLength (n : ℕ) (r : Result DayLength Refusal) : Type 0 where
  pub length : r ≡ ok_or (length_of n) refused.DayLength
  pub back : option_map quarters_of (result_ok r) ≡ cond (is_ok r) (Some n) None

-- the record of a row in range, which written back is the row; a row out of range is refused
pub record DecodesRow (row : Row) (r : Result Segment Refusal) : Type 0 where
  pub back : option_map row_of (result_ok r) ≡ cond (in_range row) (Some row) None
  pub refused : result_err r ≡ cond (in_range row) None (Some refused.SegmentField)
