-- What is read off a balance is what the quarter hour says. Assumes nothing.
use Rattle.std.proofs.Common.{◌≡◌, ℕ, ◌<◌, ◌≤◌, cond, List, [], ◌∷◌, ◌++◌, get_or, ℤ, pos, nat_abs, Some, None, Option, sym, ap, ◌∙◌, subst, arith}
use lib.Signed.{lt_z}
use Rattle.refusal.specs.declared.Refusal.{Refusal}
use Rattle.refusal.specs.declared.Refusal.TheVariants.{NoTotal}
use Rattle.roll.specs.declared.row.Row.{Row}
use Rattle.split.specs.Parts.{parts_of}
use Rattle.book.specs.Grossing.{Gross, load, fault, Bounded}
use Rattle.balance.specs.declared.settled.Balance.{Balance}
use Rattle.balance.specs.Balance.{Sheet, ufe, weighted, rtaml, rtamltot, shares, unshared}
use Rattle.balance.specs.Laws.{Balanced}
use Rattle.balance.specs.Quarter.{Quarter, sheet_of, load_in, refusal_of_quarter, refusal_of_shares}
use Rattle.balance.specs.Settling.{Holds}
use Rattle.balance.specs.Totals.{or_else}
use Rattle.balance.proofs.Answering.{carried_in}
use Rattle.balance.proofs.Balanced.{ufe_most, rtaml_within}
use Rattle.statement.specs.Statement.{lists_pair, pair_line, point_lines, pair_lines, share_lines, or_refusal, text_of, statement_of}
use Rattle.statement.specs.Text.{line}
use Rattle.statement.specs.Writing.{loads_of, lack_of, shares_of, balance_text}
use Rattle.statement.proofs.Pieces.{lines_same}

small_load : (row : Option Row) (g : Gross) → Bounded g → load_in row g ≤ 4000000
small_load None g h = omega arith
small_load (Some row) (load m) h = h
small_load (Some row) (fault f n) h = omega arith

pub pairs_same : (rows : List (Option Row)) (f g : ℕ → ℕ → ℤ) → ((q p : ℕ) → q < 16 → p < 8 → f q p ≡ g q p) → pair_lines rows f ≡ pair_lines rows g
unfolding pair_lines point_lines pair_line
pairs_same rows f g e =
    lines_same (λ q. point_lines rows f q) (λ q. point_lines rows g q) 16
    (λ q hq. lines_same (λ p. pair_line rows f q p) (λ p. pair_line rows g q p) 8
    (λ p hp. ap (λ (z : ℤ). cond (lists_pair rows q p) (line 65 (pos q ∷ pos p ∷ z ∷ [])) []) (e q p hq hp)))

module _ (x : Quarter) (b : Balance) (fine : refusal_of_quarter x ≡ None) (holds : Holds (sheet_of x) b) (law : Balanced (sheet_of x)) where
  abbrev y : Sheet
  y = sheet_of x

  carried : weighted y ≡ 0 → ufe y ≡ pos 0
  carried = carried_in x fine

  generated : nat_abs y.generation ≤ 160000000
  generated = subst (λ (z : ℤ). nat_abs z ≤ 160000000) holds.generation b.within

  module _ (bounded : (s : ℕ) → Bounded (x.gross s)) where
    small : (s : ℕ) → s < 64 → y.load s ≤ 4000000
    small s h = small_load (get_or x.rows s None) (x.gross s) (bounded s)

    pub ufe_small : nat_abs b.ufe ≤ 416000000
    ufe_small = subst (λ (z : ℤ). nat_abs z ≤ 416000000) (sym holds.ufe) (ufe_most y carried small generated)

    pub loads_small : (q p : ℕ) → q < 16 → p < 8 → nat_abs (loads_of b q p) ≤ 672000000
    loads_small q p hq hp =
        subst (λ (z : ℤ). nat_abs z ≤ 672000000) (sym (holds.pairs q p hq hp)) (rtaml_within y carried small generated q p)

  whole : b.generation ≡ rtamltot y
  whole = holds.generation ∙ sym law.pairs_add_up

  lack_same : lack_of b ≡ refusal_of_shares x
  lack_same =
      ap (λ (z : ℤ). cond (lt_z (pos 0) z) None (Some NoTotal)) whole
      ∙ sym (ap (λ (o : Option Refusal). or_else o (unshared y)) fine)

  shares_same : shares_of b ≡ shares y
  shares_same =
      ap (λ (z : ℤ). parts_of (pos 1000000000) (nat_abs z) 0 b.qse_loads) whole
      ∙ ap (λ (ws : List ℤ). parts_of (pos 1000000000) (nat_abs (rtamltot y)) 0 ws) holds.qse_loads_are

  pub text_same : balance_text x.rows b ≡ statement_of x
  unfolding text_of statement_of
  text_same =
      ap (λ (z : ℤ). text_of x.rows z b.ufe (loads_of b) (lack_of b) (shares_of b)) holds.generation
      ∙ ap (λ (z : ℤ). text_of x.rows y.generation z (loads_of b) (lack_of b) (shares_of b)) holds.ufe
      ∙ ap (λ (ls : List ℕ). line 71 (y.generation ∷ ufe y ∷ []) ++ (ls ++ or_refusal (lack_of b) (share_lines x.rows (shares_of b)))) (pairs_same x.rows (loads_of b) (rtaml y) holds.pairs)
      ∙ ap (λ (o : Option Refusal). text_of x.rows y.generation (ufe y) (rtaml y) o (shares_of b)) lack_same
      ∙ ap (λ (ss : List ℤ). text_of x.rows y.generation (ufe y) (rtaml y) (refusal_of_shares x) ss) shares_same
      ∙ sym (ap (λ (o : Option Refusal). or_refusal o (text_of x.rows y.generation (ufe y) (rtaml y) (refusal_of_shares x) (shares y))) fine)
