-- What a number that is padded to some places writes. Assumes nothing.
use Rattle.std.proofs.Common.{◌≡◌, ℕ, ◌+◌, ◌-◌, ◌/◌, ◌%◌, ◌^◌, ◌<◌, List, [], ◌∷◌, ◌++◌, length, replicate, decimal, false, ◌∙◌, ⊎_elim, arith}
use Rattle.std.proofs.Math.Nat.{sub-zero}
use mathlib.Core.List.{append-nil}
use Rattle.std.specs.Fmt.{char_count, padded_integral, format_spec, styled_decimal}
use Rattle.std.proofs.lemmas.Bool.{cases_lt}
use Rattle.std.proofs.lemmas.Fmt.{decimal_digit, decimal_step, decimal_nonempty}
use Rattle.std.proofs.lemmas.List.{length-append}
use Rattle.clock.specs.Clock.{two_digits}

-- to w places, with zeros in front
pub filled : (w : ℕ) (ds : List ℕ) → padded_integral (format_spec 32 0 4 w (2 ^ 64 - 1)) false [] ds ≡ replicate (w - length ds) 48 ++ ds
unfolding padded_integral char_count
filled w ds = rw (append-nil ds, sub-zero, sub-zero)

two_at_least : (n : ℕ) → n < 2 ^ 64 → replicate (2 - length (decimal n)) 48 ++ decimal n ≡ two_digits n
two_at_least n small = ⊎_elim
    (λ one.
    let tens : n / 10 ≡ 0 = omega arith in
    let ones : n % 10 ≡ n = omega arith in
    let zero : decimal 0 ≡ 48 ∷ [] = decimal_digit 0 (omega arith) in
    rw (tens, ones, decimal_digit n one, zero))
    (λ more.
    let last : List ℕ = (48 + n % 10) ∷ [] in
    let whole : decimal n ≡ two_digits n = decimal_step n more small ∙ rw (decimal_digit (n % 10) (omega arith)) in
    let long : 2 - length (decimal n) ≡ 0 = rw (decimal_step n more small) (omega (arith, length-append (decimal (n / 10)) last, decimal_nonempty (n / 10) (omega arith))) in
    rw long whole)
    (cases_lt n 10)

pub two_places : {s : _} (n : ℕ) → s ≡ format_spec 32 0 4 2 (2 ^ 64 - 1) → n < 2 ^ 64 → styled_decimal s n ≡ two_digits n
two_places n e small = rw (e, filled 2 (decimal n)) (two_at_least n small)
