-- The text leaves nothing out. Assumes nothing.
use Rattle.std.proofs.Common.{◌≡◌, ℕ, ◌<◌, true, false, cond, List, [], ◌∷◌, ◌++◌, map, get_or, ℤ, pos, nat_abs, Some, None, Option, sym, refl, ap, ◌∙◌, subst, ⊎_elim, arith}
use lib.Signed.{lt_z}
use Rattle.std.specs.List.{range_with_len}
use Rattle.std.proofs.lemmas.List.FromFn.{length-map-range_with_len, get_or-map-range_with_len, fill_by_all}
use Rattle.std.proofs.lemmas.Bool.{cond-true, cond-false, cases_Bool, both_ways}
use Rattle.refusal.specs.declared.Refusal.{Refusal}
use Rattle.refusal.specs.declared.Refusal.TheVariants.{NoTotal}
use Rattle.roll.specs.declared.row.Row.{Row}
use Rattle.split.specs.Parts.{parts_of}
use Rattle.balance.specs.Balance.{Sheet, ufe, belongs, adjusted, rtaml, qse_load, rtamltot, shares, unshared}
use Rattle.balance.specs.Quarter.{Quarter, sheet_of, refusal_of_quarter, refusal_of_shares}
use Rattle.balance.specs.Totals.{or_else}
use Rattle.balance.proofs.Totals.{total_same, total_zero}
use Rattle.statement.specs.Law.{SameBalance, LeavesNothingOut}
use Rattle.statement.specs.Statement.{lists_pair, pair_line, point_lines, pair_lines, share_lines, or_refusal, text_of, statement_of}
use Rattle.statement.specs.Text.{line}
use Rattle.statement.proofs.Decoding.{line_ends, lines_end}
use Rattle.statement.proofs.Listing.{some_failed}

-- ---- the pairs are read back
module _ (rows : List (Option Row)) (f g : ℕ → ℕ → ℤ) where
  abbrev Told : ℕ → ℕ → Type 0
  Told q p = lists_pair rows q p ≡ true → f q p ≡ g q p

  pair_ends : (q p : ℕ) (t u : List ℕ) → pair_line rows f q p ++ t ≡ pair_line rows g q p ++ u → Told q p × (t ≡ u)
  unfolding pair_line
  pair_ends q p t u e =
      ⊎_elim
      (λ (on : lists_pair rows q p ≡ true).
      let ms = pos q ∷ pos p ∷ f q p ∷ [] in
      let ns = pos q ∷ pos p ∷ g q p ∷ [] in
      let shown : line 65 ms ++ t ≡ line 65 ns ++ u =
      ap (λ (xs : List ℕ). xs ++ t) (sym (cond-true (lists_pair rows q p) (line 65 ms) [] on)) ∙ e ∙ ap (λ (xs : List ℕ). xs ++ u) (cond-true (lists_pair rows q p) (line 65 ns) [] on) in
      let read = line_ends 65 ms ns t u refl shown in
      let numbers : ms ≡ ns = read.0 in
      let same : f q p ≡ g q p = cc in
      (λ _. same, read.1))
      (λ (off : lists_pair rows q p ≡ false).
      let ms = pos q ∷ pos p ∷ f q p ∷ [] in
      let ns = pos q ∷ pos p ∷ g q p ∷ [] in
      let gone : t ≡ u =
      ap (λ (xs : List ℕ). xs ++ t) (sym (cond-false (lists_pair rows q p) (line 65 ms) [] off)) ∙ e ∙ ap (λ (xs : List ℕ). xs ++ u) (cond-false (lists_pair rows q p) (line 65 ns) [] off) in
      let never : lists_pair rows q p ≡ true → f q p ≡ g q p = λ on. absurd (both_ways (lists_pair rows q p) off on) in
      (never, gone))
      (cases_Bool (lists_pair rows q p))

  pub pairs_end : (t u : List ℕ) → pair_lines rows f ++ t ≡ pair_lines rows g ++ u → (q : ℕ) → q < 16 → (p : ℕ) → p < 8 → Told q p
  unfolding pair_lines point_lines
  pairs_end t u e =
      (lines_end (λ q. (p : ℕ) → p < 8 → Told q p) (λ q. point_lines rows f q) (λ q. point_lines rows g q) 16
      (λ q _. lines_end (λ p. Told q p) (λ p. pair_line rows f q p) (λ p. pair_line rows g q p) 8 (λ p _. pair_ends q p)) t u e).0

-- a pair that nobody on the roll has
nobody_there : (x : Quarter) (q p : ℕ) → lists_pair x.rows q p ≡ false → rtaml (sheet_of x) q p ≡ pos 0
unfolding rtaml lists_pair
nobody_there x q p off =
    total_zero (λ s. cond (belongs (get_or x.rows s None) q p) (adjusted (sheet_of x) s) (pos 0)) 64
    (λ s h. cond-false (belongs (get_or x.rows s None) q p) (adjusted (sheet_of x) s) (pos 0) (some_failed (λ k. belongs (get_or x.rows k None) q p) s 64 h off))

module _ (x y : Quarter) (rows : y.rows ≡ x.rows) where
  abbrev X : Sheet
  X = sheet_of x

  abbrev Y : Sheet
  Y = sheet_of y

  -- ---- where all RTAML are the same, so is all that comes of them
  module _ (same : (q p : ℕ) → q < 16 → p < 8 → rtaml X q p ≡ rtaml Y q p) where
    loads_same : (q : ℕ) → q < 16 → qse_load X q ≡ qse_load Y q
    unfolding qse_load
    loads_same q h = total_same (λ p. rtaml X q p) (λ p. rtaml Y q p) 8 (λ p hp. same q p h hp)

    whole_same : rtamltot X ≡ rtamltot Y
    whole_same = total_same (qse_load X) (qse_load Y) 16 loads_same

    list_same : map (qse_load X) (range_with_len 0 16) ≡ map (qse_load Y) (range_with_len 0 16)
    list_same =
        fill_by_all (qse_load Y) (map (qse_load X) (range_with_len 0 16)) 16 (pos 0) (length-map-range_with_len (qse_load X) 0 16)
        (λ q h. get_or-map-range_with_len (qse_load X) 0 16 q q (pos 0) h (omega arith) ∙ loads_same q h)

    pub shares_same : shares X ≡ shares Y
    shares_same =
        ap (λ (z : ℤ). parts_of (pos 1000000000) (nat_abs z) 0 (map (qse_load X) (range_with_len 0 16))) whole_same
        ∙ ap (parts_of (pos 1000000000) (nat_abs (rtamltot Y)) 0) list_same

    pub unshared_same : unshared X ≡ unshared Y
    unshared_same = ap (λ (z : ℤ). cond (lt_z (pos 0) z) None (Some NoTotal)) whole_same

  rtaml_same : ((q : ℕ) → q < 16 → (p : ℕ) → p < 8 → lists_pair x.rows q p ≡ true → rtaml X q p ≡ rtaml Y q p) → (q p : ℕ) → q < 16 → p < 8 → rtaml X q p ≡ rtaml Y q p
  rtaml_same told q p hq hp =
      ⊎_elim (told q hq p hp)
      (λ (off : lists_pair x.rows q p ≡ false).
      nobody_there x q p off ∙ sym (nobody_there y q p (subst (λ (rs : List (Option Row)). lists_pair rs q p ≡ false) (sym rows) off)))
      (cases_Bool (lists_pair x.rows q p))

  module _ (fine : refusal_of_quarter x ≡ None) (well : refusal_of_quarter y ≡ None) (texts : statement_of x ≡ statement_of y) where
    abbrev tail : Quarter → List ℕ
    tail z = or_refusal (refusal_of_shares z) (share_lines z.rows (shares (sheet_of z)))

    abbrev text : Quarter → List (Option Row) → List ℕ
    text z rs = line 71 ((sheet_of z).generation ∷ ufe (sheet_of z) ∷ []) ++ (pair_lines rs (rtaml (sheet_of z)) ++ tail z)

    text_stated : (z : Quarter) → refusal_of_quarter z ≡ None → statement_of z ≡ text z z.rows
    unfolding statement_of text_of
    text_stated z e = ap (λ (o : Option Refusal). or_refusal o (text z z.rows)) e

    read : (◌≡◌ {A = List ℤ} (X.generation ∷ ufe X ∷ []) (Y.generation ∷ ufe Y ∷ [])) × (pair_lines x.rows (rtaml X) ++ tail x ≡ pair_lines x.rows (rtaml Y) ++ tail y)
    read =
        line_ends 71 (X.generation ∷ ufe X ∷ []) (Y.generation ∷ ufe Y ∷ []) _ _ refl
        (sym (text_stated x fine) ∙ texts ∙ text_stated y well ∙ ap (text y) rows)

    told : (q p : ℕ) → q < 16 → p < 8 → rtaml X q p ≡ rtaml Y q p
    told = rtaml_same (pairs_end x.rows (rtaml X) (rtaml Y) (tail x) (tail y) read.1)

    pub same_balance : SameBalance x y
    same_balance =
        let numbers = read.0 in
        let g : X.generation ≡ Y.generation = cc in
        let u : ufe X ≡ ufe Y = cc in
        record {
          generation = g;
          ufe = u;
          rtaml = told;
          unshared =
              ap (λ (o : Option Refusal). or_else o (unshared X)) fine ∙ unshared_same told
              ∙ sym (ap (λ (o : Option Refusal). or_else o (unshared Y)) well);
          shares = shares_same told;
        }

pub leaves_nothing_out : (x : Quarter) → LeavesNothingOut x
leaves_nothing_out x y rows fine well texts = same_balance x y rows fine well texts
