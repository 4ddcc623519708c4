-- Numbers and lines as bytes. Assumes nothing.
use Rattle.std.specs.Prelude.{ℕ, zero, suc, ◌+◌, ◌/◌, ◌%◌, cond, List, [], ◌∷◌, ◌++◌, ℤ, pos, negsuc, ◌==◌}

-- the decimal digits of n as bytes, the highest first and no leading zero; none for zero. The first number counts the
-- turns, of which n are enough
unfoldable pub places_in : ℕ → ℕ → List ℕ
places_in zero n = []
places_in (suc turns) zero = []
places_in (suc turns) (suc m) = places_in turns (suc m / 10) ++ ((48 + suc m % 10) ∷ [])

unfoldable pub places : ℕ → List ℕ
places n = places_in n n

-- zero is written as one digit
unfoldable pub unsigned : ℕ → List ℕ
unsigned n = cond (n == 0) (48 ∷ []) (places n)

-- a minus sign in front of a number below zero
unfoldable pub numeral : ℤ → List ℕ
numeral (pos n) = unsigned n
numeral (negsuc n) = 45 ∷ unsigned (suc n)

-- a space before each number
unfoldable pub fields : List ℤ → List ℕ
fields [] = []
fields (n ∷ ns) = 32 ∷ (numeral n ++ fields ns)

-- a letter, the numbers, and the line's end
unfoldable pub line : ℕ → List ℤ → List ℕ
line letter numbers = letter ∷ (fields numbers ++ (10 ∷ []))

-- the texts g 0, g 1, .. g (n - 1), one after another
unfoldable pub lines : (ℕ → List ℕ) → ℕ → List ℕ
lines g zero = []
lines g (suc n) = lines g n ++ g n
