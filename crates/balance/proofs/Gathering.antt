-- One more row with its load. Assumes nothing.
use Rattle.std.proofs.Common.{◌≡◌, ℕ, ◌+◌, ◌<◌, List, length, get_or, set, None, Option, sym, ap, ◌∙◌, subst, ⊎_elim, arith, get_or-set_other, get_or-set_same}
use Rattle.std.proofs.lemmas.Bool.{cases_eq}
use Rattle.roll.specs.declared.row.Row.{Row}
use Rattle.book.specs.Grossing.{Gross}
use Rattle.balance.specs.declared.row.LoadedRow.{LoadedRow}
use Rattle.balance.specs.Quarter.{load_in}
use Rattle.balance.specs.Gathering.{LoadedUpTo}

pub loaded_more : (ls : List LoadedRow) (rows : List (Option Row)) (gross : ℕ → Gross) (i : ℕ) (l : LoadedRow) → i < length ls → LoadedUpTo i ls rows gross → l.row ≡ get_or rows i None → l.load ≡ load_in (get_or rows i None) (gross i) → LoadedUpTo (i + 1) (set ls i l) rows gross
loaded_more ls rows gross i l within below er el s d h =
    let P : LoadedRow → Type 0 = λ x. (x.row ≡ get_or rows s None) × (x.load ≡ load_in (get_or rows s None) (gross s)) in
    ⊎_elim
    (λ (e : s ≡ i).
    let here : get_or (set ls i l) s d ≡ l = ap (λ (k : ℕ). get_or (set ls i l) k d) e ∙ get_or-set_same ls i l d within in
    subst P (sym here)
    (subst (λ (k : ℕ). (l.row ≡ get_or rows k None) × (l.load ≡ load_in (get_or rows k None) (gross k))) (sym e) (er, el)))
    (λ (ne : s ≡ i → ⊥). subst P (sym (get_or-set_other ls i s l d ne)) (below s d (omega arith)))
    (cases_eq s i)
