-- The record of a segment as a plain row, and the weight of a segment. Assumes nothing.
use Rattle.std.specs.Prelude.{ℕ, cond, Some, None, Option, ◌==◌}
use Rattle.roll.specs.declared.row.LossCode.{LossCode}
use Rattle.roll.specs.declared.row.LossCode.TheVariants as code
use Rattle.roll.specs.declared.row.Meter.{Meter}
use Rattle.roll.specs.declared.row.Meter.TheVariants.{Interval, Profiled}
use Rattle.roll.specs.declared.row.Row.{Row}
use Rattle.roll.specs.declared.segment.Segment.{Segment}
use Rattle.roll.specs.Marks.{letter_of, meter_mark}
use Rattle.roll.specs.Ranges.{in_range}

-- the record written back as plain numbers
abbrev pub row_of : Segment → Row
row_of s = record {
  qse = s.qse;
  point = s.point;
  code = letter_of s.code;
  meter = meter_mark s.meter;
  noie = cond s.noie 1 0;
}

-- an interval meter's weight goes by the loss code: 1 at transmission voltage, else 5
abbrev pub code_weight : LossCode → ℕ
code_weight code.A = 5
code_weight code.B = 5
code_weight code.C = 5
code_weight code.D = 5
code_weight code.E = 5
code_weight code.T = 1

-- a profiled segment weighs 10 whatever its code
abbrev pub meter_weight : Meter → LossCode → ℕ
meter_weight Profiled k = 10
meter_weight Interval k = code_weight k

-- a load of a non-opt-in entity weighs nothing
abbrev pub weight_of : Segment → ℕ
weight_of s = cond s.noie 0 (meter_weight s.meter s.code)

-- the same rule read off a plain row in range
abbrev pub plain_weight : Row → ℕ
plain_weight row = cond (row.noie == 1) 0 (cond (row.meter == 1) 10 (cond (row.code == 84) 1 5))

-- a row out of range has no weight
abbrev pub weight_of_row : Row → Option ℕ
weight_of_row row = cond (in_range row) (Some (plain_weight row)) None
