-- The grossing of each adjustment, by the grossing below it, and what giving a factor answers. Assumes nothing.
use Rattle.std.specs.Prelude.{ℕ, cond, ◌&&◌, List, is_some, Some, None, Ok, Err, Option, Result, nat_le, nat_lt, slice_index_or}
use Rattle.refusal.specs.declared.Refusal.{Refusal}
use Rattle.refusal.specs.declared.Refusal.TheVariants as refused
use Rattle.roll.specs.Marks.{code_of}
use Rattle.roll.specs.declared.row.LossCode.{LossCode}
use Rattle.roll.specs.declared.row.LossCode.TheVariants as code
use Rattle.roll.specs.declared.row.Row.{Row}
use Rattle.book.specs.Grossing.{Gross, Grossing}
use Rattle.book.specs.Tables.{put_at}
use Rattle.losses.specs.declared.adjust.Loss.{Loss}
use Rattle.losses.specs.declared.adjust.Loss.TheVariants.{Unchanged, Missing}
use Rattle.losses.specs.Adjusting.{adjusted, given}
use Rattle.losses.specs.Factors.{Factors}
use Rattle.losses.specs.Layered.{layered}

-- ---- transmission: one row of factors, for every segment
abbrev pub transmitted_cell : Factors → ℕ → ℕ → Gross → Gross
transmitted_cell table s q g = adjusted (given (table 0 q)) g

abbrev pub transmitted : Factors → Grossing → Grossing
transmitted table below = layered transmitted_cell table below

-- ---- distribution: a row of factors for each code A to E
-- the loss code of each segment that the roll had when its codes were taken over
abbrev pub Codes : Type 0
Codes = List (Option LossCode)

abbrev pub row_of_code : LossCode → Option ℕ
row_of_code code.A = Some 0
row_of_code code.B = Some 1
row_of_code code.C = Some 2
row_of_code code.D = Some 3
row_of_code code.E = Some 4
row_of_code code.T = None

-- at transmission voltage there is no distribution loss
abbrev pub loss_in_row : Factors → ℕ → Option ℕ → Loss
loss_in_row table q None = Unchanged
loss_in_row table q (Some k) = given (table k q)

-- a segment without a code has no factor
abbrev pub loss_by_code : Factors → ℕ → Option LossCode → Loss
loss_by_code table q None = Missing
loss_by_code table q (Some c) = loss_in_row table q (row_of_code c)

abbrev pub distributed_cell : Codes → Factors → ℕ → ℕ → Gross → Gross
distributed_cell codes table s q g = adjusted (loss_by_code table q (slice_index_or codes s None)) g

abbrev pub distributed : Codes → Factors → Grossing → Grossing
distributed codes table below = layered (distributed_cell codes) table below

-- the code that a row of the roll gives its segment
abbrev pub roll_code : Option Row → Option LossCode
roll_code None = None
roll_code (Some row) = code_of row.code

-- ---- giving a factor
-- the row that a letter names: A to E
abbrev pub letter_row : Option LossCode → Option ℕ
letter_row None = None
letter_row (Some c) = row_of_code c

-- the quarter hour is looked at first, then the factor and the row that it is for
abbrev pub factor_answer : Option ℕ → ℕ → ℕ → Result (Unit {0}) Refusal
factor_answer row q f =
    cond (nat_lt 99 q) (Err refused.QuarterHour) (cond (nat_le f 500000 && is_some row) (Ok tt) (Err refused.Factor))

-- the table after a factor was given for a row and a quarter hour, by what was answered
abbrev pub after_giving : Result (Unit {0}) Refusal → Option ℕ → ℕ → ℕ → Factors → Factors
after_giving (Err e) row q f table = table
after_giving (Ok u) None q f table = table
after_giving (Ok u) (Some row) q f table = put_at row q (Some f) table
