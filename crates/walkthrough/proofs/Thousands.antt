-- What a number that is padded to three places writes. Assumes nothing.
use Rattle.std.proofs.Common.{◌≡◌, ℕ, ◌+◌, ◌-◌, ◌/◌, ◌%◌, ◌^◌, ◌<◌, [], ◌∷◌, ◌++◌, length, replicate, decimal, ⊎_elim, arith}
use Rattle.std.specs.Fmt.{format_spec, styled_decimal}
use Rattle.std.proofs.lemmas.Bool.{cases_lt}
use Rattle.std.proofs.lemmas.Fmt.{decimal_digit, decimal_step}
use Rattle.clock.proofs.Digits.{filled}
use Rattle.walkthrough.specs.Figures.{three_digits}

-- a digit, two digits, or three
in_place : (n : ℕ) → n < 1000 → replicate (3 - length (decimal n)) 48 ++ decimal n ≡ three_digits n
in_place n small =
    let zero : decimal 0 ≡ 48 ∷ [] = decimal_digit 0 (omega arith) in
    let ones : decimal (n % 10) ≡ (48 + n % 10) ∷ [] = decimal_digit (n % 10) (omega arith) in
    let tens : decimal (n / 10 % 10) ≡ (48 + n / 10 % 10) ∷ [] = decimal_digit (n / 10 % 10) (omega arith) in
    let hundreds : decimal (n / 100) ≡ (48 + n / 100) ∷ [] = decimal_digit (n / 100) (omega arith) in
    ⊎_elim
    (λ one.
    let low : n % 10 ≡ n = omega arith in
    let middle : n / 10 % 10 ≡ 0 = omega arith in
    let high : n / 100 ≡ 0 = omega arith in
    rw (low, middle, high, decimal_digit n one, zero))
    (λ more. ⊎_elim
    (λ two.
    let front : decimal (n / 10) ≡ (48 + n / 10) ∷ [] = decimal_digit (n / 10) (omega arith) in
    let whole : decimal n ≡ decimal (n / 10) ++ ((48 + n % 10) ∷ []) = decimal_step n more (omega arith) in
    let middle : n / 10 % 10 ≡ n / 10 = omega arith in
    let high : n / 100 ≡ 0 = omega arith in
    rw (whole, middle, high, ones, front, zero))
    (λ three.
    let front : decimal (n / 10) ≡ decimal (n / 10 / 10) ++ ((48 + n / 10 % 10) ∷ []) = decimal_step (n / 10) (omega arith) (omega arith) in
    let whole : decimal n ≡ decimal (n / 10) ++ ((48 + n % 10) ∷ []) = decimal_step n more (omega arith) in
    let high : n / 10 / 10 ≡ n / 100 = omega arith in
    rw (whole, front, high, ones, tens, hundreds))
    (cases_lt n 100))
    (cases_lt n 10)

pub three_places : {s : _} (n : ℕ) → s ≡ format_spec 32 0 4 3 (2 ^ 64 - 1) → n < 1000 → styled_decimal s n ≡ three_digits n
three_places n e small = rw (e, filled 3 (decimal n)) (in_place n small)
