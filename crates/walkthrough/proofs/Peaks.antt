-- The peak that a search ends with is the first of the largest. Assumes nothing.
use Rattle.std.proofs.Common.{◌≡◌, ℕ, zero, suc, ◌<◌, ◌≤◌, Bool, true, false, ltb, List, [], ◌∷◌, length, get_or, ◌∙◌, arith}
use native.Mathlib.Nat.{max-le, le-max_left, le-max_right}
use Rattle.std.specs.List.{prefix_len}
use Rattle.std.proofs.lemmas.Bool.{cond-true, cond-false, lt-ltb, le-ltb}
use Rattle.walkthrough.specs.Figures.{largest_of, first_largest}

largest_least : (xs : List ℕ) (m : ℕ) → ((k : ℕ) → k < length xs → get_or xs k 0 ≤ m) → largest_of xs ≤ m
largest_least [] m h = omega arith
largest_least (x ∷ xs) m h = max-le (h 0 (omega arith)) (largest_least xs m (λ k lt. h (suc k) (omega arith)))

largest_reached : (xs : List ℕ) (k : ℕ) → k < length xs → get_or xs k 0 ≤ largest_of xs
largest_reached [] k h = omega arith
largest_reached (x ∷ xs) zero h = le-max_left x (largest_of xs)
largest_reached (x ∷ xs) (suc k) h = omega (arith, largest_reached xs k (omega arith), le-max_right x (largest_of xs))

-- what stops the front stands right behind it
leading_is : (p : ℕ → Bool) (xs : List ℕ) (b : ℕ) → b < length xs → ((k : ℕ) → k < b → p (get_or xs k 0) ≡ true) → p (get_or xs b 0) ≡ false → prefix_len p xs ≡ b
leading_is p [] b h front stop = omega arith
leading_is p (x ∷ xs) zero h front stop = cond-false (p x) _ _ stop
leading_is p (x ∷ xs) (suc b) h front stop =
    let rest = leading_is p xs b (omega arith) (λ k lt. front (suc k) (omega arith)) stop in
    cond-true (p x) _ _ (front 0 (omega arith)) ∙ omega arith

pub first_largest_is : (xs : List ℕ) (b v : ℕ) → b < length xs → v ≡ get_or xs b 0 → ((k : ℕ) → k < length xs → get_or xs k 0 ≤ v) → ((k : ℕ) → k < b → get_or xs k 0 < v) → record { place = b; value = v } ≡ first_largest xs
first_largest_is xs b v h here most before =
    let above = largest_least xs v most in
    let reached = largest_reached xs b h in
    let value : v ≡ largest_of xs = omega arith in
    let place : prefix_len (λ x. ltb x (largest_of xs)) xs ≡ b =
    leading_is (λ x. ltb x (largest_of xs)) xs b h (λ k lt. lt-ltb (get_or xs k 0) (largest_of xs) (omega (arith, before k lt))) (le-ltb (get_or xs b 0) (largest_of xs) (omega arith)) in
    cc
