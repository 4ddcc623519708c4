-- The parts of the split are fair. Assumes nothing.
use Rattle.std.proofs.Common.{◌≡◌, ℕ, zero, suc, ◌+◌, ◌*◌, ◌<◌, List, [], ◌∷◌, map, length, get_or, replicate, ℤ, pos, negsuc, ◌+ℤ◌, ◌-ℤ◌, ◌*ℤ◌, nat_abs, ◌≤ℤ◌, sym, refl, ap, ◌∙◌, subst, add-one, arith, take_all}
use native.Mathlib.Nat.{zero-div}
use lib.IntN.{zero-*ℤ, *ℤ-zero, +ℤ_idl, +ℤ_idr}
use borrow.Author.Differences.{ints, up, down, neg_is, abs_is}
use Rattle.std.specs.List.{range_with_len, AllByRecursion}
use Rattle.std.proofs.lemmas.Nat.{mul-le}
use Rattle.std.proofs.lemmas.List.FromFn.{length-map-range_with_len, get_or-map-range_with_len, map-range_with_len_more}
use Rattle.std.proofs.ByRecursion.{All-get_or, All-from_get_or}
use Rattle.std.proofs.lemmas.List.{ext_get_or, length-replicate, get_or-replicate}
use Rattle.split.specs.Floor.{floor, rest}
use Rattle.split.specs.Laws.{Fair}
use Rattle.split.specs.Parts.{sum_of, running, share, part_at, parts_of}
use Rattle.split.proofs.Floor.{floor_rest, floor_from, rest_below}
use Rattle.split.proofs.Parts.{sum_of_append, running_none, due, part_carried}

-- ---- sums

-- neighbouring shares cancel
telescopes : (amount : ℤ) (whole before : ℕ) (ws : List ℤ) (n : ℕ) → sum_of (map (part_at amount whole before ws) (range_with_len 0 n)) ≡ share amount whole before ws n -ℤ share amount whole before ws 0
unfolding part_at
telescopes amount whole before ws zero = omega (arith, ints)
telescopes amount whole before ws (suc n) =
    let f = part_at amount whole before ws in
    let more : sum_of (map f (range_with_len 0 (n + 1))) ≡ sum_of (map f (range_with_len 0 n)) +ℤ (f n +ℤ pos 0) =
    ap sum_of (map-range_with_len_more f 0 n n (omega arith)) ∙ sum_of_append (map f (range_with_len 0 n)) (f n ∷ []) in
    let i = telescopes amount whole before ws n in
    let step : sum_of (map f (range_with_len 0 (n + 1))) ≡ share amount whole before ws (n + 1) -ℤ share amount whole before ws 0 = omega (arith, ints, more, i) in
    subst (λ (m : ℕ). sum_of (map f (range_with_len 0 m)) ≡ share amount whole before ws m -ℤ share amount whole before ws 0) (add-one n) step

running_all : (before : ℕ) (ws : List ℤ) → running before ws (length ws) ≡ pos before +ℤ sum_of ws
unfolding running
running_all before ws = ap (λ (xs : List ℤ). pos before +ℤ sum_of xs) (take_all (length ws) ws (omega arith))

-- the list gets of the amount what lies between its two ends
pub parts_sum : (amount : ℤ) (whole before : ℕ) (ws : List ℤ) → sum_of (parts_of amount whole before ws) ≡ floor (amount *ℤ (pos before +ℤ sum_of ws)) whole -ℤ floor (amount *ℤ pos before) whole
unfolding parts_of share
parts_sum amount whole before ws =
    let last = ap (λ (z : ℤ). floor (amount *ℤ z) whole) (running_all before ws) in
    let first = ap (λ (z : ℤ). floor (amount *ℤ z) whole) (running_none before ws) in
    telescopes amount whole before ws (length ws) ∙ omega (arith, ints, last, first)

-- ---- floors
pub floor_zero : (w : ℕ) → floor (pos 0) w ≡ pos 0
unfolding floor
floor_zero w = ap pos (zero-div w)

no_amount : (amount : ℤ) (whole : ℕ) → amount ≡ pos 0 → (z : ℤ) → floor (amount *ℤ z) whole ≡ pos 0
no_amount amount whole e z = ap (λ (a : ℤ). floor (a *ℤ z) whole) e ∙ ap (λ (a : ℤ). floor a whole) (zero-*ℤ z) ∙ floor_zero whole

floor_product : (a : ℤ) (w : ℕ) → 0 < w → floor (a *ℤ pos w) w ≡ a
floor_product a w h = (floor_from (a *ℤ pos w) a w 0 h (sym (+ℤ_idr (a *ℤ pos w)))).0

floor_not_negative : (z : ℤ) (w : ℕ) → pos 0 ≤ℤ z → pos 0 ≤ℤ floor z w
unfolding floor
floor_not_negative (pos a) w h = omega (arith, ints)
floor_not_negative (negsuc a) w h = absurd (omega (arith, ints))

-- what is below the whole has a floor of 0 or less
at_most_zero : (q z : ℤ) (w r : ℕ) → up z < down z + w → z ≡ q *ℤ pos w +ℤ pos r → q ≤ℤ pos 0
at_most_zero (pos zero) z w r h e = omega (arith, ints)
at_most_zero (pos (suc n)) z w r h e = absurd (omega (arith, ints, e, mul-le 1 w (suc n) w (omega arith) (omega arith)))
at_most_zero (negsuc n) z w r h e = omega (arith, ints)

-- ---- one part
module _ (amount : ℤ) (whole before : ℕ) (ws : List ℤ) where
  part_of : (k : ℕ) → k < length ws → get_or (parts_of amount whole before ws) k (pos 0) ≡ part_at amount whole before ws k
  unfolding parts_of
  part_of k h = get_or-map-range_with_len (part_at amount whole before ws) 0 (length ws) k k (pos 0) h (omega arith)

  length_parts : length (parts_of amount whole before ws) ≡ length ws
  unfolding parts_of
  length_parts = length-map-range_with_len (part_at amount whole before ws) 0 (length ws)

  -- of no amount there are no parts
  none_of_none : amount ≡ pos 0 → (k : ℕ) → part_at amount whole before ws k ≡ pos 0
  unfolding part_at share
  none_of_none e k =
      let gone = no_amount amount whole e in
      omega (arith, ints, gone (running before ws (k + 1)), gone (running before ws k))

  module _ (k : ℕ) (within : k < length ws) (some : 0 < whole) where
    here : part_at amount whole before ws k ≡ floor (due amount whole before ws k) whole
    here = sym (part_carried amount whole before ws k some within)

    left : due amount whole before ws k ≡ part_at amount whole before ws k *ℤ pos whole +ℤ pos (rest (due amount whole before ws k) whole)
    left = floor_rest (due amount whole before ws k) whole some ∙ ap (λ (q : ℤ). q *ℤ pos whole +ℤ pos (rest (due amount whole before ws k) whole)) (sym here)

    near_exact : nat_abs (part_at amount whole before ws k *ℤ pos whole -ℤ amount *ℤ get_or ws k (pos 0)) < whole
    near_exact =
        let carried = rest_below (amount *ℤ running before ws k) whole some in
        let next = rest_below (due amount whole before ws k) whole some in
        omega (arith, ints, left, abs_is (part_at amount whole before ws k *ℤ pos whole -ℤ amount *ℤ get_or ws k (pos 0)))

    none_for_nothing : get_or ws k (pos 0) ≡ pos 0 → part_at amount whole before ws k ≡ pos 0
    none_for_nothing e =
        let carried = rest (amount *ℤ running before ws k) whole in
        let nothing : amount *ℤ get_or ws k (pos 0) ≡ pos 0 = ap (λ (z : ℤ). amount *ℤ z) e ∙ *ℤ-zero amount in
        let same : due amount whole before ws k ≡ pos 0 *ℤ pos whole +ℤ pos carried = omega (arith, ints, nothing, zero-*ℤ (pos whole)) in
        here ∙ (floor_from (due amount whole before ws k) (pos 0) whole carried (rest_below (amount *ℤ running before ws k) whole some) same).0

    not_below : pos 0 ≤ℤ (amount *ℤ get_or ws k (pos 0)) → pos 0 ≤ℤ part_at amount whole before ws k
    not_below h = subst (λ (q : ℤ). pos 0 ≤ℤ q) (sym here) (floor_not_negative (due amount whole before ws k) whole (omega (arith, ints)))

    not_above : (amount *ℤ get_or ws k (pos 0)) ≤ℤ pos 0 → part_at amount whole before ws k ≤ℤ pos 0
    not_above h =
        let carried = rest_below (amount *ℤ running before ws k) whole some in
        at_most_zero (part_at amount whole before ws k) (due amount whole before ws k) whole (rest (due amount whole before ws k) whole) (omega (arith, ints)) left

-- ---- signs of products
not_negative_product : (a x : ℤ) → pos 0 ≤ℤ a → pos 0 ≤ℤ x → pos 0 ≤ℤ (a *ℤ x)
not_negative_product (pos a) (pos x) h k = omega (arith, ints)
not_negative_product (pos a) (negsuc x) h k = absurd (omega (arith, ints))
not_negative_product (negsuc a) x h k = absurd (omega (arith, ints))

not_positive_product : (a x : ℤ) → a ≤ℤ pos 0 → pos 0 ≤ℤ x → (a *ℤ x) ≤ℤ pos 0
not_positive_product (pos zero) x h k = subst (λ (z : ℤ). z ≤ℤ pos 0) (sym (zero-*ℤ x)) (omega (arith, ints))
not_positive_product (pos (suc a)) x h k = absurd (omega (arith, ints))
not_positive_product (negsuc a) (pos x) h k = omega (arith, ints, neg_is (pos (suc a * x)))
not_positive_product (negsuc a) (negsuc x) h k = absurd (omega (arith, ints))

-- ---- all of it
-- a fact of a part: at a whole of 0 it is a fact of 0
each : (P : ℤ → Type 0) (amount : ℤ) (whole before : ℕ) (ws : List ℤ) (k : ℕ) → (whole ≡ 0 → amount ≡ pos 0) → P (pos 0) → (0 < whole → P (part_at amount whole before ws k)) → P (part_at amount whole before ws k)
each P amount zero before ws k z none some = subst P (sym (none_of_none amount zero before ws (z refl) k)) none
each P amount (suc w) before ws k z none some = some (omega arith)

all_parts : (P : ℤ → Type 0) (amount : ℤ) (whole before : ℕ) (ws : List ℤ) → ((k : ℕ) → k < length ws → P (part_at amount whole before ws k)) → AllByRecursion P (parts_of amount whole before ws)
all_parts P amount whole before ws f =
    All-from_get_or P (parts_of amount whole before ws) (pos 0)
    (λ k h. let within : k < length ws = omega (arith, length_parts amount whole before ws) in subst P (sym (part_of amount whole before ws k within)) (f k within))

whole_sum : (amount : ℤ) (whole : ℕ) (ws : List ℤ) → (whole ≡ 0 → amount ≡ pos 0) → sum_of ws ≡ pos whole → sum_of (parts_of amount whole 0 ws) ≡ amount
whole_sum amount zero ws z e =
    let gone : (x : ℤ) → floor (amount *ℤ x) 0 ≡ pos 0 = no_amount amount 0 (z refl) in
    omega (arith, ints, parts_sum amount 0 0 ws, gone (pos 0 +ℤ sum_of ws), gone (pos 0), z refl)
whole_sum amount (suc w) ws z e =
    let last : floor (amount *ℤ (pos 0 +ℤ sum_of ws)) (suc w) ≡ amount =
    ap (λ (x : ℤ). floor (amount *ℤ x) (suc w)) (+ℤ_idl (sum_of ws) ∙ e) ∙ floor_product amount (suc w) (omega arith) in
    let first : floor (amount *ℤ pos 0) (suc w) ≡ pos 0 = ap (λ (x : ℤ). floor x (suc w)) (*ℤ-zero amount) ∙ floor_zero (suc w) in
    omega (arith, ints, parts_sum amount (suc w) 0 ws, last, first)

pub fair : (amount : ℤ) (whole before : ℕ) (ws : List ℤ) → (whole ≡ 0 → amount ≡ pos 0) → Fair amount whole before ws (parts_of amount whole before ws)
fair amount whole before ws z =
    let of = part_of amount whole before ws in
    record {
      one_each = length_parts amount whole before ws;
      between_ends = parts_sum amount whole before ws;
      adds_up = λ b e. subst (λ (n : ℕ). sum_of (parts_of amount whole n ws) ≡ amount) (sym b) (whole_sum amount whole ws z e);
      near = λ k h some. subst (λ (p : ℤ). nat_abs (p *ℤ pos whole -ℤ amount *ℤ get_or ws k (pos 0)) < whole) (sym (of k h)) (near_exact amount whole before ws k h some);
      none_for_none = λ k h e. of k h ∙ each (λ p. p ≡ pos 0) amount whole before ws k z refl (λ some. none_for_nothing amount whole before ws k h some e);
      never_more = λ ws-ok a-ok.
          all_parts (λ p. pos 0 ≤ℤ p) amount whole before ws
          (λ k h. each (λ p. pos 0 ≤ℤ p) amount whole before ws k z (omega (arith, ints))
          (λ some. not_below amount whole before ws k h some (not_negative_product amount (get_or ws k (pos 0)) a-ok (All-get_or (λ w. pos 0 ≤ℤ w) ws k (pos 0) h ws-ok))));
      never_less = λ ws-ok a-ok.
          all_parts (λ p. p ≤ℤ pos 0) amount whole before ws
          (λ k h. each (λ p. p ≤ℤ pos 0) amount whole before ws k z (omega (arith, ints))
          (λ some. not_above amount whole before ws k h some (not_positive_product amount (get_or ws k (pos 0)) a-ok (All-get_or (λ w. pos 0 ≤ℤ w) ws k (pos 0) h ws-ok))));
    }

-- of no amount, every part is 0
pub parts_of_none : (whole before : ℕ) (ws : List ℤ) → parts_of (pos 0) whole before ws ≡ replicate (length ws) (pos 0)
parts_of_none whole before ws =
    let n = length_parts (pos 0) whole before ws in
    ext_get_or (pos 0) _ _ (n ∙ sym (length-replicate (length ws) (pos 0)))
    (λ k h.
    let within : k < length ws = omega (arith, n) in
    part_of (pos 0) whole before ws k within ∙ none_of_none (pos 0) whole before ws refl k
    ∙ sym (get_or-replicate (length ws) k (pos 0) (pos 0) within))
