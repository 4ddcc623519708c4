-- From what was gathered to the balance of the quarter hour. Assumes nothing.
use Rattle.std.proofs.Common.{◌≡◌, ℕ, ◌<◌, ◌≤◌, true, false, cond, ltb, List, length, get_or, ℤ, pos, is_some, Some, None, Ok, Err, Option, Result, sym, refl, ap, ◌∙◌, subst, ⊎_elim, arith}
use mathlib.Core.Path.{fun_ext}
use Rattle.std.proofs.lemmas.List.{get_or_past}
use Rattle.std.proofs.lemmas.Bool.{cases_lt, cond-true, cond-false, le-ltb, true≢false}
use Rattle.std.proofs.lemmas.Bool.Decides.{nat_tests}
use Rattle.refusal.specs.declared.Refusal.{Refusal}
use Rattle.refusal.specs.declared.Refusal.TheVariants.{QuarterHour, EmptyRoll}
use Rattle.roll.specs.declared.row.Row.{Row}
use Rattle.roll.specs.Ranges.{ranged}
use Rattle.book.specs.Grossing.{Gross}
use Rattle.balance.specs.declared.row.LoadedRow.{LoadedRow}
use Rattle.balance.specs.declared.settled.Balance.{Balance}
use Rattle.balance.specs.Balance.{Sheet, ufe, weighted, stranded}
use Rattle.balance.specs.Gathering.{LoadedUpTo}
use Rattle.balance.specs.Quarter.{Quarter, load_in, figure_of, somebody, segment_fault, site_fault, sheet_of, refusal_of_quarter}
use Rattle.balance.specs.Questions.{late_at, AnsweredAs}
use Rattle.balance.specs.Settling.{Settled, blank_row, sheet_in}
use Rattle.balance.specs.Totals.{total, or_else, first_of}
use Rattle.balance.proofs.Balanced.{balanced}
use Rattle.balance.proofs.Settling.{carried_when}
use Rattle.balance.proofs.Totals.{none_later}

-- what was let through by the check of the quarter hour
pub early_is : (q : ℕ) (t : Unit {0}) → Ok t ≡ cond (ltb 99 q) (Err QuarterHour) (Ok tt) → q ≤ 99
early_is q t h = grind (arith, nat_tests)

pub unlisted_load : (row : Option Row) (g : Gross) → is_some row ≡ false → load_in row g ≡ 0
unlisted_load None g e = refl
unlisted_load (Some row) g e = absurd (true≢false e)

abbrev sheet : (ℕ → Option Row) → (ℕ → ℕ) → ℤ → Sheet
sheet r l z = record { row = r; load = l; generation = z }

module _ (x : Quarter) (many : length x.rows ≡ 64) where
  same_row : (ls : List LoadedRow) → length ls ≡ 64 → LoadedUpTo 64 ls x.rows x.gross → (s : ℕ) → (get_or ls s blank_row).row ≡ get_or x.rows s None
  same_row ls n loaded s =
      ⊎_elim (λ (h : s < 64). (loaded s blank_row h).0)
      (λ (h : 64 ≤ s). ap (λ (l : LoadedRow). l.row) (get_or_past ls s blank_row (omega arith)) ∙ sym (get_or_past x.rows s None (omega arith))) (cases_lt s 64)

  same_load : (ls : List LoadedRow) → length ls ≡ 64 → LoadedUpTo 64 ls x.rows x.gross → (s : ℕ) → (get_or ls s blank_row).load ≡ load_in (get_or x.rows s None) (x.gross s)
  same_load ls n loaded s =
      ⊎_elim (λ (h : s < 64). (loaded s blank_row h).1)
      (λ (h : 64 ≤ s).
      ap (λ (l : LoadedRow). l.load) (get_or_past ls s blank_row (omega arith))
      ∙ sym (ap (λ (o : Option Row). load_in o (x.gross s)) (get_or_past x.rows s None (omega arith)))) (cases_lt s 64)

  -- the rows with their loads, and the sum of the figures, are the sheet of the quarter hour
  same_sheet : (ls : List LoadedRow) (g : ℤ) → length ls ≡ 64 → LoadedUpTo 64 ls x.rows x.gross → g ≡ total (figure_of x.sites x.figure) 16 → sheet_in ls g ≡ sheet_of x
  same_sheet ls g n loaded e =
      let rows = fun_ext (same_row ls n loaded) in
      let loads = fun_ext (same_load ls n loaded) in
      ap (λ (f : ℕ → Option Row). sheet f (λ s. (get_or ls s blank_row).load) g) rows
      ∙ ap (λ (f : ℕ → ℕ). sheet (λ s. get_or x.rows s None) f g) loads
      ∙ ap (λ (z : ℤ). sheet (λ s. get_or x.rows s None) (λ s. load_in (get_or x.rows s None) (x.gross s)) z) e

  module _ (q : ℕ) (early : q ≤ 99) (somebody-there : is_some (first_of (somebody x.rows) 64) ≡ true) (loads : first_of (segment_fault x.rows x.gross) 64 ≡ None) (figures : first_of (site_fault x.sites x.figure) 16 ≡ None) where
    -- where everybody has a load and a figure, only the UFE can be stranded
    refusal_is : or_else (late_at q) (refusal_of_quarter x) ≡ stranded (sheet_of x)
    refusal_is =
        ap (λ (o : Option Refusal). or_else o (refusal_of_quarter x)) (cond-false (ltb 99 q) (Some QuarterHour) None (le-ltb 99 q early))
        ∙ ap (λ (o : Option Refusal). or_else o (or_else (first_of (segment_fault x.rows x.gross) 64) (or_else (first_of (site_fault x.sites x.figure) 16) (stranded (sheet_of x)))))
        (cond-true (is_some (first_of (somebody x.rows) 64)) None (Some EmptyRoll) somebody-there)
        ∙ ap (λ (o : Option Refusal). or_else o (or_else (first_of (site_fault x.sites x.figure) 16) (stranded (sheet_of x)))) loads
        ∙ ap (λ (o : Option Refusal). or_else o (stranded (sheet_of x))) figures

    settled_answers : ((s : ℕ) → ranged (get_or x.rows s None) ≡ true) → (r : Result Balance Refusal) → Settled (sheet_of x) r → AnsweredAs r q x
    settled_answers in-range (Err e) h = refusal_is ∙ h
    settled_answers in-range (Ok b) h = (
      refusal_is ∙ h.0,
      h.1,
      balanced (sheet_of x) (carried_when (ufe (sheet_of x)) (weighted (sheet_of x)) h.0) in-range (λ s e. unlisted_load (get_or x.rows s None) (x.gross s) e),
    )

    pub answers : ((s : ℕ) → ranged (get_or x.rows s None) ≡ true) → (ls : List LoadedRow) (g : ℤ) → length ls ≡ 64 → LoadedUpTo 64 ls x.rows x.gross → g ≡ total (figure_of x.sites x.figure) 16 → (r : Result Balance Refusal) → Settled (sheet_in ls g) r → AnsweredAs r q x
    answers in-range ls g n loaded e r h = settled_answers in-range r (subst (λ (y : Sheet). Settled y r) (same_sheet ls g n loaded e) h)

-- in a quarter hour with answers there is a weight to carry what is not accounted for
pub carried_in : (x : Quarter) → refusal_of_quarter x ≡ None → weighted (sheet_of x) ≡ 0 → ufe (sheet_of x) ≡ pos 0
carried_in x fine =
    let nobody : Option Refusal = cond (is_some (first_of (somebody x.rows) 64)) None (Some EmptyRoll) in
    let segments : Option Refusal = first_of (segment_fault x.rows x.gross) 64 in
    let sites : Option Refusal = first_of (site_fault x.sites x.figure) 16 in
    let left = stranded (sheet_of x) in
    carried_when (ufe (sheet_of x)) (weighted (sheet_of x))
    (none_later sites left (none_later segments (or_else sites left) (none_later nobody (or_else segments (or_else sites left)) fine)))
