-- What the letter of a loss code and the mark of a meter stand for. Assumes nothing.
use Rattle.std.specs.Prelude.{ℕ, cond, Some, None, Option, ◌==◌}
use Rattle.roll.specs.declared.row.LossCode.{LossCode}
use Rattle.roll.specs.declared.row.LossCode.TheVariants as code
use Rattle.roll.specs.declared.row.Meter.{Meter}
use Rattle.roll.specs.declared.row.Meter.TheVariants.{Interval, Profiled}

-- the bytes of the letters A to E, and T
abbrev pub code_of : ℕ → Option LossCode
code_of b =
    cond (b == 65) (Some code.A) (
    cond (b == 66) (Some code.B) (
    cond (b == 67) (Some code.C) (
    cond (b == 68) (Some code.D) (
    cond (b == 69) (Some code.E) (
    cond (b == 84) (Some code.T) None)))))

abbrev pub letter_of : LossCode → ℕ
letter_of code.A = 65
letter_of code.B = 66
letter_of code.C = 67
letter_of code.D = 68
letter_of code.E = 69
letter_of code.T = 84

-- 0 for an interval meter, 1 for a profiled segment
abbrev pub meter_of : ℕ → Option Meter
meter_of mark = cond (mark == 0) (Some Interval) (cond (mark == 1) (Some Profiled) None)

abbrev pub meter_mark : Meter → ℕ
meter_mark Interval = 0
meter_mark Profiled = 1
