-- What the floor of a fraction is, and how it is taken further by a carried remainder. Assumes nothing.
use Rattle.std.proofs.Common.{◌≡◌, ℕ, suc, ◌+◌, ◌-◌, ◌*◌, ◌/◌, ◌%◌, ◌<◌, ℤ, pos, negsuc, ◌+ℤ◌, ◌*ℤ◌, sym, ap, ◌∙◌, mod-lt, mul_comm, add-mul, lt_of_mul-lt-mul_right, arith}
use native.Mathlib.Nat.{div-add-mod}
use borrow.Author.Differences.{ints, up, down, same_in, sum_is_lem, product_is}
use Rattle.split.specs.Floor.{floor, rest}
use Rattle.split.proofs.Integers.{*ℤ-distrib-right}

pub rest_below : (z : ℤ) (w : ℕ) → 0 < w → rest z w < w
unfolding rest
rest_below (pos a) w h = mod-lt a h
rest_below (negsuc a) w h = omega (arith, mod-lt a h)

pub floor_rest : (z : ℤ) (w : ℕ) → 0 < w → z ≡ floor z w *ℤ pos w +ℤ pos (rest z w)
unfolding rest floor
floor_rest (pos a) w h = ap pos (omega (arith, div-add-mod a w, mul_comm w (a / w)))
floor_rest (negsuc a) w h =
    let e = product_is (negsuc (a / w)) (pos w) in
    same_in _ _
    (omega (arith, e, sum_is_lem (negsuc (a / w) *ℤ pos w) (pos (w - suc (a % w))), div-add-mod a w, mul_comm w (a / w), add-mul (a / w) 1 w, mod-lt a h))

-- two quotients that both fit differ by nothing
pub floor_unique : (p q : ℤ) (w r s : ℕ) → r < w → s < w → p *ℤ pos w +ℤ pos r ≡ q *ℤ pos w +ℤ pos s → p ≡ q
floor_unique p q w r s hr hs e =
    let l = sum_is_lem (p *ℤ pos w) (pos r) in
    let m = sum_is_lem (q *ℤ pos w) (pos s) in
    let a = product_is p (pos w) in
    let b = product_is q (pos w) in
    let ue = ap up e in
    let de = ap down e in
    let one : (up p + down q) * w < (up q + down p + 1) * w = simp add-mul (omega arith) in
    let two : (up q + down p) * w < (up p + down q + 1) * w = simp add-mul (omega arith) in
    same_in p q (omega (arith, lt_of_mul-lt-mul_right w one, lt_of_mul-lt-mul_right w two))

-- the floor and the rest of a fraction, where they are known
pub floor_from : (z q : ℤ) (w r : ℕ) → r < w → z ≡ q *ℤ pos w +ℤ pos r → (floor z w ≡ q) × (rest z w ≡ r)
floor_from z q w r h e =
    let pw : 0 < w = omega arith in
    let same : floor z w *ℤ pos w +ℤ pos (rest z w) ≡ q *ℤ pos w +ℤ pos r = sym (floor_rest z w pw) ∙ e in
    let f : floor z w ≡ q = floor_unique (floor z w) q w (rest z w) r (rest_below z w pw) h same in
    let g : q *ℤ pos w +ℤ pos (rest z w) ≡ q *ℤ pos w +ℤ pos r = rw f at same in
    (f, omega (arith, ints, ap up g, ap down g, sum_is_lem (q *ℤ pos w) (pos (rest z w)), sum_is_lem (q *ℤ pos w) (pos r)))

-- one step further: what is added to a goes to the remainder of a
pub floor_carries : (a b : ℤ) (w : ℕ) → 0 < w → (floor (a +ℤ b) w ≡ floor a w +ℤ floor (b +ℤ pos (rest a w)) w) × (rest (a +ℤ b) w ≡ rest (b +ℤ pos (rest a w)) w)
floor_carries a b w h =
    let x = b +ℤ pos (rest a w) in
    let ea = floor_rest a w h in
    let ex = floor_rest x w h in
    floor_from (a +ℤ b) (floor a w +ℤ floor x w) w (rest x w) (rest_below x w h)
    (let d = *ℤ-distrib-right (floor a w) (floor x w) (pos w) in omega (arith, ints, ap up ea, ap down ea, ap up ex, ap down ex, ap up d, ap down d))
