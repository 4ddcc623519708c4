-- What is read off a list of quarter hours, and how numbers are written. Assumes nothing.
use Rattle.std.specs.Prelude.{ℕ, ◌/◌, ◌%◌, max, cond, ltb, List, [], ◌∷◌, ◌++◌, ℤ, pos, negsuc, suc, codes, decimal, nat_lt}
use Rattle.std.specs.List.{prefix_len}
use Rattle.walkthrough.specs.declared.figures.Peak.{Peak}

-- the largest number of a list, 0 where there is none
abbrev pub largest_of : List ℕ → ℕ
largest_of [] = 0
largest_of (x ∷ xs) = max x (largest_of xs)

-- it stands first after all the numbers that are smaller, up to the first that is not
abbrev pub first_largest : List ℕ → Peak
first_largest xs = record { place = prefix_len (λ x. ltb x (largest_of xs)) xs; value = largest_of xs }

-- three digits, with leading zeros
abbrev pub three_digits : ℕ → List ℕ
three_digits n = decimal (n / 100) ++ (decimal (n / 10 % 10) ++ decimal (n % 10))

-- the thousands, millions and thousands of millions parted by commas
abbrev pub grouped : ℕ → List ℕ
grouped n =
    cond (nat_lt n 1000) (decimal n) (
    cond (nat_lt n 1000000) (decimal (n / 1000) ++ (codes "," ++ three_digits (n % 1000))) (
    cond (nat_lt n 1000000000) (decimal (n / 1000000) ++ (codes "," ++ (three_digits (n / 1000 % 1000) ++ (codes "," ++ three_digits (n % 1000)))))
    (decimal (n / 1000000000) ++ (codes "," ++ (three_digits (n / 1000000 % 1000) ++ (codes "," ++ (three_digits (n / 1000 % 1000) ++ (codes "," ++ three_digits (n % 1000)))))))))

-- an amount below zero with its sign
abbrev pub signed : ℤ → List ℕ
signed (pos n) = grouped n
signed (negsuc n) = codes "-" ++ grouped (suc n)
