-- What the program adds up is what the sheet says. Assumes nothing.
use Rattle.std.proofs.Common.{◌≡◌, ℕ, ◌<◌, ◌≤◌, cond, List, map, length, get_or, ℤ, pos, ◌+ℤ◌, nat_abs, None, sum_by, sym, refl, ap, ◌∙◌, subst, ⊎_elim, zero-le, arith, take_all}
use lib.ListN.{length-map}
use borrow.Author.Differences.{ints, abs_is}
use Rattle.std.specs.List.{range_with_len}
use Rattle.std.proofs.lemmas.List.FromFn.{fill_by_all}
use Rattle.std.proofs.lemmas.List.{get_or-map, get_or_past}
use Rattle.std.proofs.lemmas.Bool.{cases_lt}
use Rattle.std.proofs.lemmas.Bool.Decides.{nat_tests}
use Rattle.split.specs.Parts.{parts_of}
use Rattle.balance.specs.declared.row.LoadedRow.{LoadedRow}
use Rattle.balance.specs.Balance.{Sheet, metered, ufe, weight_of, weights, weighted, uncarried, adjusted, belongs, rtaml, qse_load}
use Rattle.balance.specs.Settling.{blank_row, sheet_in}
use Rattle.balance.specs.Sheets.{row_load, weight_of_row, row_weight_z, pair_sum}
use Rattle.balance.specs.Totals.{total, count}
use Rattle.book.specs.Tables.{cell}
use Rattle.balance.proofs.Balanced.{part_in_place, parts_long, part_most, rtaml_within, qse_within}
use Rattle.balance.proofs.Totals.{count_places, total_same}

-- where nothing is stranded, no weight means no UFE
pub carried_when : (u : ℤ) (w : ℕ) → uncarried u w ≡ None → w ≡ 0 → u ≡ pos 0
carried_when u w h z =
    let none : nat_abs u ≡ 0 = grind (arith, nat_tests) in
    omega (arith, ints, abs_is u)

module _ (rows : List LoadedRow) (g : ℤ) (many : length rows ≡ 64) where
  places : (f : LoadedRow → ℕ) → sum_by f rows ≡ count (λ s. f (get_or rows s blank_row)) 64
  places f =
      ap (sum_by f) (sym (take_all 64 rows (omega arith)))
      ∙ count_places f (λ s. f (get_or rows s blank_row)) rows blank_row 64 (omega arith) (λ s h. refl)

  pub metered_is : sum_by row_load rows ≡ metered (sheet_in rows g)
  metered_is = places row_load

  pub weighted_is : sum_by weight_of_row rows ≡ weighted (sheet_in rows g)
  weighted_is = places weight_of_row

  pub weights_are : map row_weight_z rows ≡ weights (sheet_in rows g)
  weights_are =
      fill_by_all (λ s. pos (weight_of (sheet_in rows g) s)) (map row_weight_z rows) 64 (pos 0) (length-map rows row_weight_z ∙ many)
      (λ k h. get_or-map row_weight_z rows k blank_row (pos 0) (omega arith))

-- ---- what the parts come to: A the adjusted loads, P the pairs, Q the loads of the QSEs
module _ (rows : List LoadedRow) (g : ℤ) (many : length rows ≡ 64) (generated : nat_abs g ≤ 160000000) (unstranded : uncarried (ufe (sheet_in rows g)) (weighted (sheet_in rows g)) ≡ None) where
  abbrev y : Sheet
  y = sheet_in rows g

  carried : weighted y ≡ 0 → ufe y ≡ pos 0
  carried = carried_when (ufe y) (weighted y) unstranded

  small : (s : ℕ) → s < 64 → y.load s ≤ 4000000
  small s _ = (get_or rows s blank_row).small

  abbrev parts : List ℤ
  parts = parts_of (ufe y) (weighted y) 0 (weights y)

  pub parts_length : length parts ≡ 64
  parts_length = parts_long y carried small generated

  -- what holds of 0 and of the first 64 holds of all places
  everywhere : (P : ℤ → Type 0) (xs : List ℤ) → length xs ≡ 64 → P (pos 0) → ((s : ℕ) → s < 64 → P (get_or xs s (pos 0))) → (s : ℕ) → P (get_or xs s (pos 0))
  everywhere P xs n zero f s = ⊎_elim (f s) (λ (h : 64 ≤ s). subst P (sym (get_or_past xs s (pos 0) (omega arith))) zero) (cases_lt s 64)

  pub parts_most : (s : ℕ) → nat_abs (get_or parts s (pos 0)) ≤ 416000000
  parts_most =
      everywhere (λ z. nat_abs z ≤ 416000000) parts parts_length zero-le
      (λ s h. subst (λ (z : ℤ). nat_abs z ≤ 416000000) (sym (part_in_place y carried s h)) (part_most y carried small generated s h))

  module _ (A : List ℤ) (long : length A ≡ 64) (sums : (s : ℕ) (d : LoadedRow) → s < 64 → get_or A s (pos 0) ≡ pos (row_load (get_or rows s d)) +ℤ get_or parts s (pos 0)) where
    adjusted_at : (s : ℕ) → s < 64 → get_or A s (pos 0) ≡ adjusted y s
    unfolding adjusted
    adjusted_at s h = sums s blank_row h ∙ ap (λ (z : ℤ). pos (y.load s) +ℤ z) (part_in_place y carried s h)

    pub adjusted_are : A ≡ map (adjusted y) (range_with_len 0 64)
    adjusted_are = fill_by_all (adjusted y) A 64 (pos 0) long adjusted_at

    pub adjusted_most : (s : ℕ) → nat_abs (get_or A s (pos 0)) ≤ 420000000
    adjusted_most =
        everywhere (λ z. nat_abs z ≤ 420000000) A long zero-le
        (λ s h. omega (arith, ints, sums s blank_row h, small s h, parts_most s, abs_is (get_or A s (pos 0)), abs_is (get_or parts s (pos 0))))

    module _ (P : List (List ℤ)) (adds : (d : LoadedRow) (qse point : ℕ) → cell (pos 0) P qse point ≡ pair_sum rows A d 64 qse point) where
      pub pairs_are : (qse point : ℕ) → cell (pos 0) P qse point ≡ rtaml y qse point
      unfolding rtaml
      pairs_are qse point =
          adds blank_row qse point
          ∙ total_same _ (λ s. cond (belongs (y.row s) qse point) (adjusted y s) (pos 0)) 64 (λ s h. ap (λ (z : ℤ). cond (belongs (y.row s) qse point) z (pos 0)) (adjusted_at s h))

      pub pairs_most : (qse point : ℕ) → nat_abs (cell (pos 0) P qse point) ≤ 672000000
      pairs_most qse point = subst (λ (z : ℤ). nat_abs z ≤ 672000000) (sym (pairs_are qse point)) (rtaml_within y carried small generated qse point)

      qse_is : (qse : ℕ) → total (λ p. cell (pos 0) P qse p) 8 ≡ qse_load y qse
      unfolding qse_load
      qse_is qse = total_same (λ p. cell (pos 0) P qse p) (λ p. rtaml y qse p) 8 (λ p _. pairs_are qse p)

      pub qse_most : (qse : ℕ) → nat_abs (total (λ p. cell (pos 0) P qse p) 8) ≤ 672000000
      qse_most qse = subst (λ (z : ℤ). nat_abs z ≤ 672000000) (sym (qse_is qse)) (qse_within y carried small generated (λ s. (get_or rows s blank_row).in_range) qse)

      pub qse_are : (Q : List ℤ) → length Q ≡ 16 → ((q : ℕ) → q < 16 → get_or Q q (pos 0) ≡ total (λ p. cell (pos 0) P q p) 8) → Q ≡ map (qse_load y) (range_with_len 0 16)
      qse_are Q n f = fill_by_all (qse_load y) Q 16 (pos 0) n (λ q h. f q h ∙ qse_is q)
