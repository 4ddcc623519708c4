-- The laws of a balance. Assumes nothing.
use Rattle.std.proofs.Common.{◌≡◌, ℕ, ◌<◌, ◌≤◌, Bool, true, false, cond, ◌&&◌, eqb, leb, List, map, length, get_or, ℤ, pos, ◌+ℤ◌, ◌-ℤ◌, ◌*ℤ◌, nat_abs, ◌≤ℤ◌, ◌<ℤ◌, is_some, Some, None, Option, sym, refl, ap, ◌∙◌, subst, arith}
use borrow.Author.Differences.{ints, abs_is}
use Rattle.std.specs.List.{range_with_len, AllByRecursion}
use Rattle.std.proofs.lemmas.List.FromFn.{length-map-range_with_len, get_or-map-range_with_len}
use Rattle.std.proofs.ByRecursion.{All-from_get_or, All-get_or}
use Rattle.std.proofs.lemmas.Bool.{and_parts, leb-true, eqb-true, true≢false}
use Rattle.std.proofs.lemmas.Int.{by_lt_z}
use Rattle.roll.specs.declared.row.Row.{Row}
use Rattle.roll.specs.Ranges.{ranged, in_range}
use Rattle.split.specs.Laws.{Fair}
use Rattle.split.specs.Parts.{sum_of, part_at, parts_of}
use Rattle.split.proofs.Fair.{fair, parts_of_none}
use Rattle.split.proofs.Integers.{*ℤ-distrib-right}
use Rattle.book.proofs.Tables.{slice_index_or_all_same}
use Rattle.balance.specs.Balance.{Sheet, metered, ufe, weight_in, weight_of, weights, weighted, adjusted, belongs, rtaml, qse_load, rtamltot, shares}
use Rattle.balance.specs.Laws.{Balanced}
use Rattle.balance.specs.Totals.{total}
use Rattle.balance.proofs.Totals.{total_same, total_add, total_zero, total_none, total_swap, total_pick, total_pos, sum_of_counting, total_some_up, total_some_down, count_most}

-- ---- plain arithmetic

exactly : (l p w r : ℤ) → (l +ℤ p) *ℤ w -ℤ (l *ℤ w +ℤ r) ≡ p *ℤ w -ℤ r
exactly l p w r = omega (arith, ints, *ℤ-distrib-right l p w)

-- ---- a row stands in one pair

by_qse : (a b : Bool) (v : ℤ) → cond (a && b) v (pos 0) ≡ cond a (cond b v (pos 0)) (pos 0)
by_qse true b v = refl
by_qse false b v = refl

total_cond : (a : Bool) (f : ℕ → ℤ) (n : ℕ) → total (λ j. cond a (f j) (pos 0)) n ≡ cond a (total f n) (pos 0)
total_cond true f n = refl
total_cond false f n = total_none n

-- the settlement points of a QSE have it where it is the row's QSE
by_point : (row : Row) (v : ℤ) (q : ℕ) → in_range row ≡ true → total (λ p. cond (belongs (Some row) q p) v (pos 0)) 8 ≡ cond (eqb q row.qse) v (pos 0)
by_point row v q h =
    let low = (and_parts (leb row.qse 15) _ h).1 in
    let point = leb-true row.point 7 (and_parts (leb row.point 7) _ low).0 in
    total_same _ (λ p. cond (eqb q row.qse) (cond (eqb p row.point) v (pos 0)) (pos 0)) 8 (λ p _. by_qse (eqb q row.qse) (eqb p row.point) v)
    ∙ total_cond (eqb q row.qse) (λ p. cond (eqb p row.point) v (pos 0)) 8
    ∙ ap (λ (z : ℤ). cond (eqb q row.qse) z (pos 0)) (total_pick row.point v 8 (omega arith))

pub pair_once : (row : Option Row) (v : ℤ) → ranged row ≡ true → (is_some row ≡ false → v ≡ pos 0) → total (λ q. total (λ p. cond (belongs row q p) v (pos 0)) 8) 16 ≡ v
pair_once None v h none = total_zero (λ q. total (λ p. pos 0) 8) 16 (λ q _. total_none 8) ∙ sym (none refl)
pair_once (Some row) v h none =
    let qse = leb-true row.qse 15 (and_parts (leb row.qse 15) _ h).0 in
    total_same _ (λ q. cond (eqb q row.qse) v (pos 0)) 16 (λ q _. by_point row v q h) ∙ total_pick row.qse v 16 (omega arith)

-- ---- the split of the UFE

module _ (y : Sheet) (carried : weighted y ≡ 0 → ufe y ≡ pos 0) where
  abbrev pub part : ℕ → ℤ
  part s = part_at (ufe y) (weighted y) 0 (weights y) s

  many : length (weights y) ≡ 64
  many = length-map-range_with_len (λ s. pos (weight_of y s)) 0 64

  weight_at : (s : ℕ) → s < 64 → get_or (weights y) s (pos 0) ≡ pos (weight_of y s)
  weight_at s h = get_or-map-range_with_len (λ k. pos (weight_of y k)) 0 64 s s (pos 0) h (omega arith)

  weights_sum : sum_of (weights y) ≡ pos (weighted y)
  weights_sum = sum_of_counting (λ s. pos (weight_of y s)) 64 ∙ total_pos (weight_of y) 64

  parts_fair : Fair (ufe y) (weighted y) 0 (weights y) (parts_of (ufe y) (weighted y) 0 (weights y))
  parts_fair = fair (ufe y) (weighted y) 0 (weights y) carried

  pub part_in_place : (s : ℕ) → s < 64 → get_or (parts_of (ufe y) (weighted y) 0 (weights y)) s (pos 0) ≡ part s
  unfolding parts_of
  part_in_place s h = get_or-map-range_with_len part 0 (length (weights y)) s s (pos 0) (omega (arith, many)) (omega arith)

  parts_sum : total part 64 ≡ ufe y
  unfolding parts_of
  parts_sum =
      sym (sum_of_counting part 64) ∙ ap (λ (n : ℕ). sum_of (map part (range_with_len 0 n))) (sym many) ∙ parts_fair.adds_up refl weights_sum

  -- ---- sums
  loads : total (adjusted y) 64 ≡ y.generation
  unfolding adjusted
  loads =
      let split = total_add (λ s. pos (y.load s)) part 64 in
      omega (arith, ints, split, total_pos y.load 64, parts_sum)

  nearly : (s : ℕ) → s < 64 → 0 < weighted y → nat_abs (adjusted y s *ℤ pos (weighted y) -ℤ (pos (y.load s) *ℤ pos (weighted y) +ℤ ufe y *ℤ pos (weight_of y s))) < weighted y
  unfolding adjusted
  nearly s h some =
      let near = parts_fair.near s (omega (arith, many)) some in
      let here = rw (part_in_place s h, weight_at s h) at near in
      subst (λ (z : ℤ). nat_abs z < weighted y) (sym (exactly (pos (y.load s)) (part s) (pos (weighted y)) (ufe y *ℤ pos (weight_of y s)))) here

  -- of no UFE nothing is carried
  alone : weighted y ≡ 0 → (s : ℕ) → s < 64 → adjusted y s ≡ pos (y.load s)
  unfolding adjusted
  alone none s h =
      let zero : part s ≡ pos 0 =
      sym (part_in_place s h)
      ∙ ap (λ (u : ℤ). get_or (parts_of u (weighted y) 0 (weights y)) s (pos 0)) (carried none)
      ∙ ap (λ (xs : List ℤ). get_or xs s (pos 0)) (parts_of_none (weighted y) 0 (weights y)) ∙ slice_index_or_all_same (length (weights y)) s (pos 0) in
      omega (arith, ints, zero)

  module _ (in-range : (s : ℕ) → ranged (y.row s) ≡ true) (unlisted : (s : ℕ) → is_some (y.row s) ≡ false → y.load s ≡ 0) where
    -- who is not on the roll has no load, no weight and so no part
    nobody : (s : ℕ) → s < 64 → is_some (y.row s) ≡ false → adjusted y s ≡ pos 0
    unfolding adjusted
    nobody s h none =
        let weightless : pos (weight_of y s) ≡ pos 0 = ap pos (no_weight (y.row s) (y.load s) none) in
        let zero = sym (part_in_place s h) ∙ parts_fair.none_for_none s (omega (arith, many)) (weight_at s h ∙ weightless) in
        omega (arith, ints, zero, unlisted s none)
      where
        no_weight : (row : Option Row) (m : ℕ) → is_some row ≡ false → weight_in row m ≡ 0
        no_weight None m e = refl
        no_weight (Some row) m e = absurd (true≢false e)

    -- ---- pairs
    abbrev term : ℕ → ℕ → ℕ → ℤ
    term s q p = cond (belongs (y.row s) q p) (adjusted y s) (pos 0)

    qse_by_segments : (q : ℕ) → qse_load y q ≡ total (λ s. total (λ p. term s q p) 8) 64
    unfolding qse_load rtaml
    qse_by_segments q = total_swap (λ p s. term s q p) 8 64

    pairs : rtamltot y ≡ y.generation
    pairs =
        total_same (qse_load y) (λ q. total (λ s. total (λ p. term s q p) 8) 64) 16 (λ q _. qse_by_segments q)
        ∙ total_swap (λ q s. total (λ p. term s q p) 8) 16 64
        ∙ total_same (λ s. total (λ q. total (λ p. term s q p) 8) 16) (adjusted y) 64 (λ s h. pair_once (y.row s) (adjusted y s) (in-range s) (nobody s h))
        ∙ loads

    points : total (λ point. total (λ qse. rtaml y qse point) 16) 8 ≡ y.generation
    unfolding qse_load
    points = total_swap (λ point qse. rtaml y qse point) 8 16 ∙ pairs

    shared : pos 0 <ℤ y.generation → sum_of (shares y) ≡ pos 1000000000
    shared h =
        let whole : rtamltot y ≡ pos (nat_abs (rtamltot y)) = omega (arith, ints, pairs, abs_is (rtamltot y)) in
        let some : nat_abs (rtamltot y) ≡ 0 → ⊥ = λ z. omega (arith, ints, pairs, abs_is (rtamltot y)) in
        (fair (pos 1000000000) (nat_abs (rtamltot y)) 0 (map (qse_load y) (range_with_len 0 16)) (λ z. absurd (some z))).adds_up refl (sum_of_counting (qse_load y) 16 ∙ whole)

    pub balanced : Balanced y
    balanced = record {
      loads_add_up = loads;
      pairs_add_up = pairs;
      points_add_up = points;
      shares_add_up = shared;
      near = nearly;
      unweighted = alone;
      off_roll = nobody;
    }

  -- ---- how large the numbers get: 64 loads of 4,000,000 Wh, 16 figures of 10,000,000 Wh either way
  module _ (small : (s : ℕ) → s < 64 → y.load s ≤ 4000000) (generated : nat_abs y.generation ≤ 160000000) where
    metered_most : metered y ≤ 256000000
    metered_most = omega (arith, count_most y.load 4000000 64 small)

    pub ufe_most : nat_abs (ufe y) ≤ 416000000
    ufe_most = omega (arith, ints, metered_most, abs_is (ufe y), abs_is y.generation)

    not_negative : AllByRecursion (λ w. pos 0 ≤ℤ w) (weights y)
    not_negative = All-from_get_or (λ w. pos 0 ≤ℤ w) (weights y) (pos 0) (λ s h. subst (λ (w : ℤ). pos 0 ≤ℤ w) (sym (weight_at s (omega (arith, many)))) (omega (arith, ints)))

    pub parts_long : length (parts_of (ufe y) (weighted y) 0 (weights y)) ≡ 64
    parts_long = parts_fair.one_each ∙ many

    -- parts of some segments come to no more than the UFE, whichever way it goes
    some_parts : (c : ℕ → Bool) → nat_abs (total (λ s. cond (c s) (part s) (pos 0)) 64) ≤ nat_abs (ufe y)
    some_parts c =
        by_lt_z (ufe y) (pos 0)
        (λ down.
        let parts = parts_fair.never_less not_negative (omega (arith, ints)) in
        let each : (s : ℕ) → s < 64 → part s ≤ℤ pos 0 = λ s h. subst (λ (p : ℤ). p ≤ℤ pos 0) (part_in_place s h) (All-get_or (λ p. p ≤ℤ pos 0) _ s (pos 0) (omega (arith, parts_long)) parts) in
        let some = total_some_down c part 64 each in
        omega (arith, ints, some.0, some.1, parts_sum, abs_is (ufe y), abs_is (total (λ s. cond (c s) (part s) (pos 0)) 64)))
        (λ up.
        let parts = parts_fair.never_more not_negative up in
        let each : (s : ℕ) → s < 64 → pos 0 ≤ℤ part s = λ s h. subst (λ (p : ℤ). pos 0 ≤ℤ p) (part_in_place s h) (All-get_or (λ p. pos 0 ≤ℤ p) _ s (pos 0) (omega (arith, parts_long)) parts) in
        let some = total_some_up c part 64 each in
        omega (arith, ints, some.0, some.1, parts_sum, abs_is (ufe y), abs_is (total (λ s. cond (c s) (part s) (pos 0)) 64)))

    some_loads : (c : ℕ → Bool) → (pos 0 ≤ℤ total (λ s. cond (c s) (pos (y.load s)) (pos 0)) 64) × (total (λ s. cond (c s) (pos (y.load s)) (pos 0)) 64 ≤ℤ pos (metered y))
    some_loads c =
        let some = total_some_up c (λ s. pos (y.load s)) 64 (λ s _. omega (arith, ints)) in
        (some.0, omega (arith, ints, some.1, total_pos y.load 64))

    pub some_within : (c : ℕ → Bool) → nat_abs (total (λ s. cond (c s) (adjusted y s) (pos 0)) 64) ≤ 672000000
    unfolding adjusted
    some_within c =
        let both = total_same (λ s. cond (c s) (adjusted y s) (pos 0)) (λ s. cond (c s) (pos (y.load s)) (pos 0) +ℤ cond (c s) (part s) (pos 0)) 64 (λ s _. in_two (c s) (pos (y.load s)) (part s)) in
        let sum = total_add (λ s. cond (c s) (pos (y.load s)) (pos 0)) (λ s. cond (c s) (part s) (pos 0)) 64 in
        let ls = some_loads c in
        let ps = some_parts c in
        omega (arith, ints, both, sum, ls.0, ls.1, ps, metered_most, ufe_most, abs_is (total (λ s. cond (c s) (part s) (pos 0)) 64), abs_is (total (λ s. cond (c s) (adjusted y s) (pos 0)) 64))
      where
        in_two : (b : Bool) (l p : ℤ) → cond b (l +ℤ p) (pos 0) ≡ cond b l (pos 0) +ℤ cond b p (pos 0)
        in_two true l p = refl
        in_two false l p = refl

    pub part_most : (s : ℕ) → s < 64 → nat_abs (part s) ≤ 416000000
    part_most s h =
        let same = total_same (λ k. cond (eqb k s) (part k) (pos 0)) (λ k. cond (eqb k s) (part s) (pos 0)) 64 (λ k _. only k (eqb k s) refl) in
        let pick = same ∙ total_pick s (part s) 64 h in
        omega (arith, ap nat_abs pick, some_parts (λ k. eqb k s), ufe_most)
      where
        only : (k : ℕ) (b : Bool) → eqb k s ≡ b → cond b (part k) (pos 0) ≡ cond b (part s) (pos 0)
        only k true e = ap part (eqb-true k s e)
        only k false e = refl

    pub rtaml_within : (qse point : ℕ) → nat_abs (rtaml y qse point) ≤ 672000000
    unfolding rtaml
    rtaml_within qse point = some_within (λ s. belongs (y.row s) qse point)

    pub qse_within : ((s : ℕ) → ranged (y.row s) ≡ true) → (qse : ℕ) → nat_abs (qse_load y qse) ≤ 672000000
    unfolding qse_load rtaml
    qse_within in-range qse =
        let e = total_swap (λ p s. cond (belongs (y.row s) qse p) (adjusted y s) (pos 0)) 8 64
        ∙ total_same _ (λ s. cond (with_qse (y.row s)) (adjusted y s) (pos 0)) 64 (λ s _. own (y.row s) (adjusted y s) (in-range s)) in
        subst (λ (z : ℤ). nat_abs z ≤ 672000000) (sym e) (some_within (λ s. with_qse (y.row s)))
      where
        with_qse : Option Row → Bool
        with_qse None = false
        with_qse (Some row) = eqb qse row.qse

        own : (row : Option Row) (v : ℤ) → ranged row ≡ true → total (λ p. cond (belongs row qse p) v (pos 0)) 8 ≡ cond (with_qse row) v (pos 0)
        own None v h = total_none 8
        own (Some row) v h = by_point row v qse h
