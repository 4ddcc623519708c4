-- Counting what stands: one cell's content at a time. Assumes nothing.
use Rattle.std.proofs.Common.{◌≡◌, ℕ, zero, suc, ◌+◌, ◌<◌, ◌≤◌, false, cond, get_or, is_some, sum_by, Option, sym, refl, ap, ◌∙◌, ⊎_elim, arith}
use Rattle.std.specs.List.{range_with_len}
use Rattle.std.proofs.ByRecursion.{All-from_get_or, sum_by_le}
use Rattle.std.proofs.lemmas.List.Sums.{sum_by-cons, count_by-le-length}
use Rattle.std.proofs.lemmas.Bool.{cases_eq, cond-true, cond-false}
use Rattle.std.proofs.lemmas.Bool.Decides.{nat_tests}
use Rattle.book.specs.Cells.{Standing, nothing, same_cell, put, count_of, count}

-- ---- sums over a stretch of numbers

-- functions that agree on the stretch have the same sum
pub sum_same : (f g : ℕ → ℕ) (a n : ℕ) → ((j : ℕ) → a ≤ j → j < a + n → f j ≡ g j) → sum_by f (range_with_len a n) ≡ sum_by g (range_with_len a n)
sum_same f g a zero e = refl
sum_same f g a (suc n) e =
    let rest = sum_same f g (a + 1) n (λ j h k. e j (omega arith) (omega arith)) in
    let head = e a (omega arith) (omega arith) in
    omega (arith, sum_by-cons f a (range_with_len (a + 1) n), sum_by-cons g a (range_with_len (a + 1) n))

-- and where they differ at one number k, the sums differ by as much
pub sum_change : (f g : ℕ → ℕ) (k a n : ℕ) → a ≤ k → k < a + n → ((j : ℕ) → (j ≡ k → ⊥) → f j ≡ g j) → sum_by g (range_with_len a n) + f k ≡ sum_by f (range_with_len a n) + g k
sum_change f g k a zero low high e = absurd (omega arith)
sum_change f g k a (suc n) low high e =
    let cf = sum_by-cons f a (range_with_len (a + 1) n) in
    let cg = sum_by-cons g a (range_with_len (a + 1) n) in
    ⊎_elim
    (λ (here : a ≡ k).
    let rest = sum_same f g (a + 1) n (λ j h l. e j (λ same. omega arith)) in
    let ff = ap f here in
    let gg = ap g here in
    omega (arith, cf, cg))
    (λ (later : a ≡ k → ⊥).
    let rest = sum_change f g k (a + 1) n (omega arith) (omega arith) e in
    let head = e a later in
    omega (arith, cf, cg))
    (cases_eq a k)

-- ---- cells
pub put_here : (st : Standing) (s q : ℕ) (c : Option ℕ) → put st s q c s q ≡ c
unfolding put
put_here st s q c = cond-true (same_cell s q s q) c (st s q) (grind (arith, nat_tests))

pub put_elsewhere : (st : Standing) (s q : ℕ) (c : Option ℕ) (t p : ℕ) → same_cell s q t p ≡ false → put st s q c t p ≡ st t p
unfolding put
put_elsewhere st s q c t p e = cond-false (same_cell s q t p) c (st t p) e

pub other_segment : (s q t p : ℕ) → (t ≡ s → ⊥) → same_cell s q t p ≡ false
other_segment s q t p ne = grind (arith, nat_tests)

pub other_quarter_hour : (s q t p : ℕ) → (p ≡ q → ⊥) → same_cell s q t p ≡ false
other_quarter_hour s q t p ne = grind (arith, nat_tests)

-- 1 for a reading, 0 for none
abbrev pub one : Option ℕ → ℕ
one c = cond (is_some c) 1 0

-- ---- the count

count_row : (st : Standing) (s q : ℕ) (c : Option ℕ) → q < 100 → count_of (put st s q c) s + one (st s q) ≡ count_of st s + one c
unfolding count_of
count_row st s q c h =
    let change = sum_change (λ p. one (st s p)) (λ p. one (put st s q c s p)) q 0 100 (omega arith) (omega arith)
    (λ p ne. ap one (sym (put_elsewhere st s q c s p (other_quarter_hour s q s p ne)))) in
    change ∙ ap (λ (x : Option ℕ). count_of st s + one x) (put_here st s q c)

row_kept : (st : Standing) (s q : ℕ) (c : Option ℕ) (t : ℕ) → (t ≡ s → ⊥) → count_of st t ≡ count_of (put st s q c) t
unfolding count_of
row_kept st s q c t ne = sum_same (λ p. one (st t p)) (λ p. one (put st s q c t p)) 0 100 (λ p h l. ap one (sym (put_elsewhere st s q c t p (other_segment s q t p ne))))

chained : (a b f g x y : ℕ) → a + f ≡ b + g → g + x ≡ f + y → a + x ≡ b + y
chained a b f g x y e d = omega arith

-- a cell's new content counts in place of the old
pub count_put : (st : Standing) (s q : ℕ) (c : Option ℕ) → s < 64 → q < 100 → count (put st s q c) + one (st s q) ≡ count st + one c
unfolding count
count_put st s q c hs hq =
    let change = sum_change (count_of st) (count_of (put st s q c)) s 0 64 (omega arith) (omega arith) (λ t ne. row_kept st s q c t ne) in
    chained _ _ _ _ _ _ change (count_row st s q c hq)

pub count_nothing : count nothing ≡ 0
unfolding count count_of
count_nothing = refl

row_most : (st : Standing) (s : ℕ) → count_of st s ≤ 100
unfolding count_of
row_most st s = count_by-le-length (λ q. is_some (st s q)) (range_with_len 0 100)

-- there are 64 times 100 cells
pub count_most : (st : Standing) → count st ≤ 6400
unfolding count
count_most st =
    sum_by_le (count_of st) 100 (range_with_len 0 64)
    (All-from_get_or (λ s. count_of st s ≤ 100) (range_with_len 0 64) 0 (λ i h. row_most st (get_or (range_with_len 0 64) i 0)))
