-- The quarter hours of a profiled reading are the parts of the split. Assumes nothing.
use Rattle.std.proofs.Common.{◌≡◌, ℕ, zero, suc, ◌+◌, ◌-◌, ◌*◌, ◌/◌, ◌≤◌, List, [], ◌∷◌, map, length, take, ℤ, pos, ◌+ℤ◌, ◌-ℤ◌, ◌*ℤ◌, nat_abs, ◌≤ℤ◌, sum, sym, refl, ap, ◌∙◌, subst, mul-le-mul_left, arith}
use mathlib.Core.Path.{fun_ext}
use mathlib.Core.List.{map-map}
use native.Mathlib.Nat.{div-zero}
use lib.ListN.{length-map}
use borrow.Author.Differences.{ints}
use Rattle.std.specs.List.{range_with_len, AllByRecursion}
use Rattle.std.proofs.lemmas.Nat.{le-div, div-add-mod'}
use Rattle.std.proofs.lemmas.List.{take-take, take-map, map-id}
use Rattle.std.proofs.lemmas.List.Sums.{sum_by-cons, sum_by-take-le}
use Rattle.split.specs.Floor.{floor}
use Rattle.split.specs.Parts.{sum_of, running, share, part_at, parts_of}
use Rattle.split.proofs.Fair.{parts_sum}
use Rattle.profile.specs.Quarters.{quarter_of, day_of}

-- the thirds of 100
thirds : day_of 100 3 0 (1 ∷ 1 ∷ 1 ∷ 0 ∷ []) ≡ 33 ∷ 33 ∷ 34 ∷ 0 ∷ []
unfolding day_of quarter_of
thirds = refl

-- the second day of a span of 7, which begins at 3
second : day_of 100 7 3 (2 ∷ 1 ∷ 1 ∷ 0 ∷ []) ≡ 29 ∷ 14 ∷ 15 ∷ 0 ∷ []
unfolding day_of quarter_of
second = refl

-- what the profile up to a place gets of K never falls
div_mono : (m n P : ℕ) → m ≤ n → m / P ≤ n / P
div_mono m n zero h = omega (arith, div-zero m)
div_mono m n (suc p) h = le-div (m / suc p) n (suc p) (omega arith) (omega (arith, div-add-mod' m (suc p)))

pub used_mono : (K P a b : ℕ) → a ≤ b → K * a / P ≤ K * b / P
used_mono K P a b h = div_mono (K * a) (K * b) P (mul-le-mul_left K h)

sum_of_pos : (xs : List ℕ) → sum_of (map pos xs) ≡ pos (sum xs)
sum_of_pos [] = refl
sum_of_pos (x ∷ xs) = ap (λ (z : ℤ). pos x +ℤ z) (sum_of_pos xs) ∙ ap pos (sym (sum_by-cons (λ y. y) x xs))

-- numbers as integers, and back
pub none_negative : (qs : List ℕ) → AllByRecursion (λ p. pos 0 ≤ℤ p) (map pos qs)
none_negative [] = tt
none_negative (q ∷ qs) = (omega (arith, ints), none_negative qs)

pub plain_from : (ps : List ℤ) (qs : List ℕ) → ps ≡ map pos qs → map nat_abs ps ≡ qs
plain_from ps qs e = ap (map nat_abs) e ∙ map-map nat_abs pos qs ∙ map-id qs

module _ (K P B : ℕ) (ws : List ℕ) where
  share_pos : (k : ℕ) → share (pos K) P B (map pos ws) k ≡ pos (K * (B + sum (take k ws)) / P)
  unfolding share running floor
  share_pos k = ap (λ (z : ℤ). floor (pos K *ℤ (pos B +ℤ z)) P) (ap sum_of (take-map pos k ws) ∙ sum_of_pos (take k ws))

  front_mono : (k : ℕ) → sum (take k ws) ≤ sum (take (k + 1) ws)
  front_mono k = subst (λ (xs : List ℕ). sum xs ≤ sum (take (k + 1) ws)) (take-take k (k + 1) ws (omega arith)) (sum_by-take-le (λ y. y) (take (k + 1) ws) k)

  part_pos : (k : ℕ) → part_at (pos K) P B (map pos ws) k ≡ pos (quarter_of K P B ws k)
  unfolding part_at quarter_of
  part_pos k =
      let rises = used_mono K P (B + sum (take k ws)) (B + sum (take (k + 1) ws)) (omega (arith, front_mono k)) in
      omega (arith, ints, share_pos k, share_pos (k + 1))

  -- the split of K over the day's weights, as plain numbers
  pub parts_pos : parts_of (pos K) P B (map pos ws) ≡ map pos (day_of K P B ws)
  unfolding parts_of day_of
  parts_pos =
      ap (λ (n : ℕ). map (part_at (pos K) P B (map pos ws)) (range_with_len 0 n)) (length-map ws pos)
      ∙ ap (λ (f : ℕ → ℤ). map f (range_with_len 0 (length ws))) (fun_ext part_pos)
      ∙ sym (map-map pos (quarter_of K P B ws) (range_with_len 0 (length ws)))

  -- the day gets what lies between its two ends
  pub day_sum : sum (day_of K P B ws) ≡ K * (B + sum ws) / P - K * B / P
  unfolding floor
  day_sum =
      let total : pos (sum (day_of K P B ws)) ≡ floor (pos K *ℤ (pos B +ℤ sum_of (map pos ws))) P -ℤ floor (pos K *ℤ pos B) P =
      sym (sum_of_pos (day_of K P B ws)) ∙ ap sum_of (sym parts_pos) ∙ parts_sum (pos K) P B (map pos ws) in
      let ends : floor (pos K *ℤ (pos B +ℤ sum_of (map pos ws))) P ≡ pos (K * (B + sum ws) / P) = ap (λ (z : ℤ). floor (pos K *ℤ (pos B +ℤ z)) P) (sum_of_pos ws) in
      let rises = used_mono K P B (B + sum ws) (omega arith) in
      omega (arith, ints, total, ends)
