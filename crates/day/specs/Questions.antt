-- What a question is refused with, or else answers, by the setting and the slate alone. Assumes nothing.
use Rattle.std.specs.Prelude.{ℕ, List, ◌++◌, map, length, drop, ℤ, Option, Result}
use Rattle.std.specs.List.{range_with_len}
use Rattle.refusal.specs.declared.Refusal.{Refusal}
use Rattle.balance.specs.declared.questions.Ufe.{Ufe}
use Rattle.balance.specs.Balance.{Sheet, ufe, adjusted, rtaml, shares}
use Rattle.balance.specs.Quarter.{Quarter, sheet_of, refusal_of_quarter, refusal_of_shares}
use Rattle.balance.specs.Questions.{ok_unless, misfit, nowhere}
use Rattle.balance.specs.Totals.{or_else}
use Rattle.statement.specs.Statement.{statement_of}
use Rattle.day.specs.Entries.{late}
use Rattle.day.specs.Slate.{Setting, Slate}

-- the roll with what stands on the slate for a quarter hour: each reading grossed, and the figures
abbrev pub quarter_at : Setting → Slate → ℕ → Quarter
quarter_at setting slate q = record {
  rows = setting.rows;
  sites = setting.sites;
  gross = λ s. setting.grossing s q (slate.reading s q);
  figure = λ i. slate.figure i q;
}

abbrev pub sheet_at : Setting → Slate → ℕ → Sheet
sheet_at setting slate q = sheet_of (quarter_at setting slate q)

-- ---- the refusals: the quarter hour is looked at first, then the other arguments, then whether there are answers

-- by the length of the list that is handed over
abbrev pub loads_refusal : Setting → Slate → ℕ → ℕ → Option Refusal
loads_refusal setting slate q len =
    or_else (late setting.day q) (or_else (misfit 64 len) (refusal_of_quarter (quarter_at setting slate q)))

abbrev pub rtaml_refusal : Setting → Slate → ℕ → ℕ → ℕ → Option Refusal
rtaml_refusal setting slate q qse point =
    or_else (late setting.day q) (or_else (nowhere qse point) (refusal_of_quarter (quarter_at setting slate q)))

abbrev pub ufe_refusal : Setting → Slate → ℕ → Option Refusal
ufe_refusal setting slate q = or_else (late setting.day q) (refusal_of_quarter (quarter_at setting slate q))

abbrev pub shares_refusal : Setting → Slate → ℕ → ℕ → Option Refusal
shares_refusal setting slate q len =
    or_else (late setting.day q) (or_else (misfit 16 len) (refusal_of_shares (quarter_at setting slate q)))

-- ---- the answers

-- the adjusted load of each segment, and that the list has them
abbrev pub loads_at : Setting → Slate → ℕ → List ℤ
loads_at setting slate q = map (adjusted (sheet_at setting slate q)) (range_with_len 0 64)

abbrev pub loads_answer : Setting → Slate → ℕ → ℕ → Result (Unit {0}) Refusal
loads_answer setting slate q len = ok_unless (loads_refusal setting slate q len) tt

-- RTAML of a QSE at a settlement point
abbrev pub rtaml_answer : Setting → Slate → ℕ → ℕ → ℕ → Result ℤ Refusal
rtaml_answer setting slate q qse point =
    ok_unless (rtaml_refusal setting slate q qse point) (rtaml (sheet_at setting slate q) qse point)

-- G with U
abbrev pub ufe_at : Setting → Slate → ℕ → Ufe
ufe_at setting slate q = record { generation = (sheet_at setting slate q).generation; ufe = ufe (sheet_at setting slate q) }

abbrev pub ufe_answer : Setting → Slate → ℕ → Result Ufe Refusal
ufe_answer setting slate q = ok_unless (ufe_refusal setting slate q) (ufe_at setting slate q)

-- the share of each QSE, and that the list has them
abbrev pub shares_at : Setting → Slate → ℕ → List ℤ
shares_at setting slate q = shares (sheet_at setting slate q)

abbrev pub shares_answer : Setting → Slate → ℕ → ℕ → Result (Unit {0}) Refusal
shares_answer setting slate q len = ok_unless (shares_refusal setting slate q len) tt

-- ---- the statement: a quarter hour without answers is told in the text, and so refused only for its number or the list

abbrev pub statement_at : Setting → Slate → ℕ → List ℕ
statement_at setting slate q = statement_of (quarter_at setting slate q)

-- written from the start of a list, whose other bytes stay
abbrev pub statement_over : Setting → Slate → ℕ → List ℕ → List ℕ
statement_over setting slate q text = statement_at setting slate q ++ drop (length (statement_at setting slate q)) text

abbrev pub statement_answer : Setting → Slate → ℕ → ℕ → Result ℕ Refusal
statement_answer setting slate q len =
    ok_unless (or_else (late setting.day q) (misfit 2048 len)) (length (statement_at setting slate q))
