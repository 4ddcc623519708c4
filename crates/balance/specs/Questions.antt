-- What the questions about a quarter hour answer. Assumes nothing.
use Rattle.std.specs.Prelude.{◌≡◌, ℕ, cond, ◌&&◌, Some, None, Ok, Err, Option, Result, ◌==◌, nat_le, nat_lt}
use Rattle.refusal.specs.declared.Refusal.{Refusal}
use Rattle.refusal.specs.declared.Refusal.TheVariants.{QuarterHour, SegmentField, ListLength}
use Rattle.balance.specs.declared.settled.Balance.{Balance}
use Rattle.balance.specs.Laws.{Balanced}
use Rattle.balance.specs.Quarter.{Quarter, sheet_of, refusal_of_quarter}
use Rattle.balance.specs.Settling.{Holds}
use Rattle.balance.specs.Totals.{or_else}

-- a book has 100 quarter hours
abbrev pub late_at : ℕ → Option Refusal
late_at q = cond (nat_lt 99 q) (Some QuarterHour) None

-- an answer, unless there is a refusal
abbrev pub ok_unless : {X : Type 0} → Option Refusal → X → Result X Refusal
ok_unless None answer = Ok answer
ok_unless (Some e) answer = Err e

-- a handed-over list of another length
abbrev pub misfit : ℕ → ℕ → Option Refusal
misfit n len = cond (len == n) None (Some ListLength)

-- a QSE above 15 or a settlement point above 7
abbrev pub nowhere : ℕ → ℕ → Option Refusal
nowhere qse point = cond (nat_le qse 15 && nat_le point 7) None (Some SegmentField)

-- the balance of a quarter hour with its laws, or why there is none
abbrev pub AnsweredAs : Result Balance Refusal → ℕ → Quarter → Type 0
AnsweredAs (Ok b) q x = (or_else (late_at q) (refusal_of_quarter x) ≡ None) × Holds (sheet_of x) b × Balanced (sheet_of x)
AnsweredAs (Err e) q x = or_else (late_at q) (refusal_of_quarter x) ≡ Some e
