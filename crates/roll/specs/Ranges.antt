-- The ranges of a segment's five numbers, as tests of a plain row. Assumes nothing.
use Rattle.std.specs.Prelude.{Bool, true, ◌&&◌, is_some, Some, None, Option, nat_le}
use Rattle.roll.specs.declared.row.Row.{Row}
use Rattle.roll.specs.Marks.{code_of}

-- QSE 0 to 15, settlement point 0 to 7, one of the six letters, and two marks of 0 or 1
abbrev pub in_range : Row → Bool
in_range row =
    nat_le row.qse 15 && (nat_le row.point 7 && (is_some (code_of row.code) && (nat_le row.meter 1 && nat_le row.noie 1)))

-- a place of the roll is free, or has a row in range
abbrev pub ranged : Option Row → Bool
ranged None = true
ranged (Some row) = in_range row
