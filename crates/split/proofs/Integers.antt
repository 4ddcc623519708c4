-- Laws of products of integers that the library lacks. Assumes nothing.
use Rattle.std.proofs.Common.{◌≡◌, ℕ, ◌+◌, ◌*◌, ℤ, ◌+ℤ◌, ◌*ℤ◌, ap, ◌∙◌, add-mul, arith}
use lib.IntN.{*ℤ_comm}
use borrow.Author.Differences.{up, down, same_in, sum_is_lem, product_is}

scaled : (s a b t c d n : ℕ) → s + a + b ≡ t + c + d → s * n + a * n + b * n ≡ t * n + c * n + d * n
scaled s a b t c d n e =
    let l : (s + a + b) * n ≡ (t + c + d) * n = ap (λ (m : ℕ). m * n) e in
    simp add-mul at l

pub *ℤ-distrib-right : (a b c : ℤ) → (a +ℤ b) *ℤ c ≡ a *ℤ c +ℤ b *ℤ c
*ℤ-distrib-right a b c =
    let s = sum_is_lem a b in
    let ups = scaled (up (a +ℤ b)) (down a) (down b) (down (a +ℤ b)) (up a) (up b) (up c) s in
    let downs = scaled (up (a +ℤ b)) (down a) (down b) (down (a +ℤ b)) (up a) (up b) (down c) s in
    same_in _ _
    (omega (arith, ups, downs, product_is (a +ℤ b) c, product_is a c, product_is b c, sum_is_lem (a *ℤ c) (b *ℤ c)))

pub *ℤ-distrib-left : (a b c : ℤ) → a *ℤ (b +ℤ c) ≡ a *ℤ b +ℤ a *ℤ c
*ℤ-distrib-left a b c = *ℤ_comm a (b +ℤ c) ∙ *ℤ-distrib-right b c a ∙ cc (*ℤ_comm b a, *ℤ_comm c a)
