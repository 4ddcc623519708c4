-- Digits, fields and lines: their steps, and how many bytes they have. Assumes nothing.
use Rattle.std.proofs.Common.{◌≡◌, ℕ, zero, suc, ◌+◌, ◌/◌, ◌%◌, ◌^◌, ◌<◌, ◌≤◌, eqb, List, [], ◌∷◌, ◌++◌, map, length, get_or, take, ℤ, pos, negsuc, nat_abs, sym, refl, ap, ◌∙◌, subst, ⊎_elim, append_assoc, add-one, arith, length-append, w64, SFits, to_z, of_z}
use borrow.Author.Differences.{ints, abs_is}
use lib.ListN.{length-map}
use lib.Signed.{mag}
use Rattle.std.specs.Int.Digits.{digits_with_fuel, digits_of}
use Rattle.std.specs.Fmt.{decimal, signed_decimal}
use Rattle.std.proofs.lemmas.Fmt.{decimal_digit, decimal-digits_of}
use Rattle.std.proofs.lemmas.Int.{to_z-of_z}
use Rattle.std.proofs.lemmas.Int.Digits.{length-digits_of-le}
use Rattle.std.proofs.Math.Seq.{take-suc}
use Rattle.std.proofs.lemmas.List.{map-append, take_all, append-nil}
use Rattle.std.proofs.lemmas.Bool.{cond-true, cond-false, cond_both, cases_eq, eq-eqb, ne_eqb}
use Rattle.balance.specs.Totals.{count}
use Rattle.statement.specs.Text.{places_in, places, unsigned, numeral, fields, line, lines}

-- ---- digits
places_in_are : (turns n : ℕ) → places_in turns n ≡ map (λ d. 48 + d) (digits_with_fuel 10 turns n)
unfolding places_in
places_in_are zero n = refl
places_in_are (suc turns) zero = refl
places_in_are (suc turns) (suc m) =
    let front = digits_with_fuel 10 turns (suc m / 10) in
    let last = suc m % 10 ∷ [] in
    ap (λ (xs : List ℕ). xs ++ ((48 + suc m % 10) ∷ [])) (places_in_are turns (suc m / 10))
    ∙ sym (map-append (λ d. 48 + d) front last)
    ∙ ap (map (λ d. 48 + d)) (sym (cond-false (eqb (suc m) 0) [] (front ++ last) (ne_eqb (suc m) 0 (λ e. omega arith))))

pub places_are : (n : ℕ) → places n ≡ map (λ d. 48 + d) (digits_of 10 n)
unfolding places
places_are n = places_in_are n n

-- ---- numbers
pub unsigned_zero : (n : ℕ) → n ≡ 0 → unsigned n ≡ 48 ∷ []
unfolding unsigned
unsigned_zero n e = cond-true (eqb n 0) (48 ∷ []) (places n) (eq-eqb n 0 e)

pub unsigned_above : (n : ℕ) → 0 < n → unsigned n ≡ places n
unfolding unsigned
unsigned_above n h = cond-false (eqb n 0) (48 ∷ []) (places n) (ne_eqb n 0 (λ e. omega arith))

-- what the library prints of a number, read from its bits, is its numeral
unsigned_printed : (n : ℕ) → n < 2 ^ 64 → unsigned n ≡ decimal n
unsigned_printed n h =
    ⊎_elim (λ (e : n ≡ 0). unsigned_zero n e ∙ sym (ap decimal e ∙ decimal_digit 0 (omega arith)))
    (λ (ne : n ≡ 0 → ⊥). unsigned_above n (omega arith) ∙ places_are n ∙ sym (decimal-digits_of n (omega arith) h))
    (cases_eq n 0)

signed_printed : (z : ℤ) → nat_abs z < 2 ^ 64 → signed_decimal z ≡ numeral z
unfolding numeral
signed_printed (pos n) h = sym (unsigned_printed n h)
signed_printed (negsuc n) h = ap (λ (xs : List ℕ). 45 ∷ xs) (sym (unsigned_printed (suc n) h))

pub numeral_printed : (z : ℤ) → SFits w64 z → signed_decimal (to_z w64 (of_z w64 z)) ≡ numeral z
numeral_printed z fits =
    ap signed_decimal (to_z-of_z w64 z fits) ∙ signed_printed z (omega (arith, ints, abs_is z, fits.sfits))

-- how many bytes a number has, and one that is not below zero
places_most : (k n : ℕ) → n < 10 ^ k → length (places n) ≤ k
places_most k n h =
    omega (arith, ap length (places_are n), length-map (digits_of 10 n) (λ d. 48 + d), length-digits_of-le 10 k n (omega arith) h)

unsigned_most : (k n : ℕ) → 0 < k → n < 10 ^ k → length (unsigned n) ≤ k
unfolding unsigned
unsigned_most k n some h =
    cond_both (eqb n 0) (48 ∷ []) (places n) (λ xs. length xs ≤ k) (λ _. omega arith) (λ _. places_most k n h)

pub numeral_most : (k : ℕ) (z : ℤ) → 0 < k → nat_abs z < 10 ^ k → length (numeral z) ≤ k + 1
unfolding numeral
numeral_most k (pos n) some h = omega (arith, unsigned_most k n some h)
numeral_most k (negsuc n) some h = omega (arith, unsigned_most k (suc n) some h)

pub numeral_plain : (k n : ℕ) → 0 < k → n < 10 ^ k → length (numeral (pos n)) ≤ k
unfolding numeral
numeral_plain k n some h = unsigned_most k n some h

-- a signed number of the machine is not far from zero
pub abs_most : (z : ℤ) → nat_abs z ≤ mag z + 1
abs_most (pos n) = omega arith
abs_most (negsuc n) = omega arith

-- ---- lines
fields_append : (ms ns : List ℤ) → fields (ms ++ ns) ≡ fields ms ++ fields ns
unfolding fields
fields_append [] ns = refl
fields_append (m ∷ ms) ns =
    ap (λ (xs : List ℕ). 32 ∷ (numeral m ++ xs)) (fields_append ms ns)
    ∙ ap (λ (xs : List ℕ). 32 ∷ xs) (sym (append_assoc (numeral m) (fields ms) (fields ns)))

-- ---- texts one after another
pub lines_more : (g : ℕ → List ℕ) (n : ℕ) → lines g (n + 1) ≡ lines g n ++ g n
unfolding lines
lines_more g n = ap (lines g) (add-one n)

pub lines_count : (g : ℕ → List ℕ) (n : ℕ) → length (lines g n) ≡ count (λ k. length (g k)) n
unfolding lines count
lines_count g zero = refl
lines_count g (suc n) = length-append (lines g n) (g n) ∙ ap (λ (k : ℕ). k + length (g n)) (lines_count g n)

-- a text and what stands before it have no more bytes than all of them
pub lines_room : (g : ℕ → List ℕ) (k n : ℕ) → k < n → length (lines g k) + length (g k) ≤ length (lines g n)
unfolding lines
lines_room g k zero h = absurd (omega arith)
lines_room g k (suc n) h =
    ⊎_elim
    (λ (e : k ≡ n). subst (λ (m : ℕ). length (lines g m) + length (g m) ≤ length (lines g n ++ g n)) (sym e) (omega (arith, length-append (lines g n) (g n))))
    (λ (ne : k ≡ n → ⊥). omega (arith, length-append (lines g n) (g n), lines_room g k n (omega arith)))
    (cases_eq k n)

pub lines_same : (g h : ℕ → List ℕ) (n : ℕ) → ((k : ℕ) → k < n → g k ≡ h k) → lines g n ≡ lines h n
unfolding lines
lines_same g h zero e = refl
lines_same g h (suc n) e =
    ap (λ (xs : List ℕ). xs ++ g n) (lines_same g h n (λ k l. e k (omega arith))) ∙ ap (λ (xs : List ℕ). lines h n ++ xs) (e n (omega arith))

-- the fields of a line are such texts
abbrev pub field : List ℤ → ℕ → List ℕ
field ns i = 32 ∷ numeral (get_or ns i (pos 0))

fields_taken : (ns : List ℤ) (n : ℕ) → n ≤ length ns → fields (take n ns) ≡ lines (field ns) n
unfolding fields lines
fields_taken ns zero h = refl
fields_taken ns (suc n) h =
    ap fields (take-suc ns n (pos 0) h) ∙ fields_append (take n ns) (get_or ns n (pos 0) ∷ [])
    ∙ ap (λ (xs : List ℕ). fields (take n ns) ++ (32 ∷ xs)) (append-nil (numeral (get_or ns n (pos 0))))
    ∙ ap (λ (xs : List ℕ). xs ++ field ns n) (fields_taken ns n (omega arith))

pub line_is : (letter : ℕ) (ns : List ℤ) → line letter ns ≡ (letter ∷ []) ++ (lines (field ns) (length ns) ++ (10 ∷ []))
unfolding line
line_is letter ns =
    ap (λ (xs : List ℕ). letter ∷ (xs ++ (10 ∷ []))) (ap fields (sym (take_all (length ns) ns (omega arith))) ∙ fields_taken ns (length ns) (omega arith))

-- ---- how long a line is
pub line_two : (letter : ℕ) (a b : ℤ) → length (line letter (a ∷ b ∷ [])) ≡ length (numeral a) + length (numeral b) + 4
unfolding line fields
line_two letter a b = simp (length-append) (omega arith)

pub line_three : (letter : ℕ) (a b d : ℤ) → length (line letter (a ∷ b ∷ d ∷ [])) ≡ length (numeral a) + length (numeral b) + length (numeral d) + 5
unfolding line fields
line_three letter a b d = simp (length-append) (omega arith)
