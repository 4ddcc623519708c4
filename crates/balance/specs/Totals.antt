-- Sums over the numbers below a limit, and the first refusal among them. Assumes nothing.
use Rattle.std.specs.Prelude.{ℕ, zero, suc, ◌+◌, ℤ, pos, ◌+ℤ◌, Some, None, Option}

-- f 0 + f 1 + .. + f (n - 1)
unfoldable pub total : (ℕ → ℤ) → ℕ → ℤ
total f zero = pos 0
total f (suc n) = total f n +ℤ f n

unfoldable pub count : (ℕ → ℕ) → ℕ → ℕ
count f zero = 0
count f (suc n) = count f n + f n

-- the first of two that there is
abbrev pub or_else : {X : Type 0} → Option X → Option X → Option X
or_else None other = other
or_else (Some x) other = Some x

-- the first of f 0, f 1, .. f (n - 1) that there is
unfoldable pub first_of : {X : Type 0} → (ℕ → Option X) → ℕ → Option X
first_of f zero = None
first_of f (suc n) = or_else (first_of f n) (f n)
