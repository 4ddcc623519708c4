-- The library's division beside the floor; and what fits 64 bits. Assumes nothing.
use Rattle.std.proofs.Common.{◌≡◌, ℕ, suc, ◌+◌, ◌*◌, ◌^◌, ◌≤◌, ℤ, pos, negsuc, ◌*ℤ◌, neg_ℤ, ◌≤ℤ◌, ◌<ℤ◌, refl, ap, arith, w32, SFits}
use borrow.Author.Differences.{ints, up, down, neg_is}
use Rattle.std.specs.Int.{int_div_euclid, int_rem_euclid}
use Rattle.std.proofs.lemmas.Nat.{mul-le}
use Rattle.split.specs.Floor.{floor, rest}

-- the library's division towards minus infinity is the floor, and its remainder the rest
pub euclid_floor : (a : ℤ) (w : ℕ) → int_div_euclid a (pos w) ≡ floor a w
unfolding floor
euclid_floor (pos a) w = refl
euclid_floor (negsuc a) w = refl

pub euclid_rest : (a : ℤ) (w : ℕ) → int_rem_euclid a (pos w) ≡ pos (rest a w)
unfolding rest
euclid_rest (pos a) w = refl
euclid_rest (negsuc a) w = ap pos (omega arith)

-- the largest product of the split: an amount of 32 bits by a weight within its range
pub product_bounds : (a x : ℤ) → SFits w32 a → neg_ℤ (pos (2 ^ 31)) ≤ℤ x → x <ℤ pos (2 ^ 32) → (up (a *ℤ x) + 2 ^ 32 ≤ 2 ^ 63) × (down (a *ℤ x) ≤ 2 ^ 63)
product_bounds (pos a) (pos x) f lo hi = omega (arith, mul-le a x 2147483647 4294967295 (omega (arith, f.sfits)) (omega (arith, ints)))
product_bounds (pos a) (negsuc x) f lo hi =
    omega (arith, ints, neg_is (pos (a * suc x)), mul-le a (suc x) 2147483647 2147483648 (omega (arith, f.sfits)) (omega (arith, ints)))
product_bounds (negsuc a) (pos x) f lo hi =
    omega (arith, ints, neg_is (pos (suc a * x)), mul-le (suc a) x 2147483648 4294967295 (omega (arith, f.sfits)) (omega (arith, ints)))
product_bounds (negsuc a) (negsuc x) f lo hi = omega (arith, mul-le (suc a) (suc x) 2147483648 2147483648 (omega (arith, f.sfits)) (omega (arith, ints)))
