-- How the bits of a word are counted, and which marks they are. Assumes nothing.
use Rattle.std.proofs.Common.{◌≡◌, ℕ, zero, suc, ◌+◌, ◌-◌, ◌*◌, ◌/◌, ◌%◌, ◌^◌, ◌<◌, ◌≤◌, ◌≢◌, cond, eqb, sum_by, sym, refl, ap, ◌∙◌, ap₂, ⊎_elim, w64, arith}
use lib.Bits.{bit_and}
use lib.Count.{ones, ones_step}
use Rattle.std.specs.Int.{bit_at, bit_not}
use Rattle.std.specs.List.{range_with_len}
use Rattle.std.proofs.lemmas.Nat.{shr-shr}
use Rattle.std.proofs.lemmas.Nat.Bits.{bit_at-lt, bit_at_lowest, bit_at_above, bit_at_and, bit_at_clear_other}
use Rattle.std.proofs.lemmas.List.Sums.{sum_by-cons, sum_by-append}
use Rattle.std.proofs.lemmas.Bool.{cases_lt}
use Rattle.std.proofs.lemmas.Bool.Decides.{nat_tests}
use Rattle.book.proofs.Counts.{sum_same}
use Rattle.grid.specs.declared.marks.Marks.{Marks}
use Rattle.grid.specs.Marks.{mark, mark_count, bit_count, Turned}

-- ---- one bit of a word

-- where the code clears bit k, any other stays
pub bit_kept : (word k j : ℕ) → word < 2 ^ 64 → k < 64 → j ≢ k → bit_at (bit_and word (bit_not w64 (1 * 2 ^ k % 2 ^ 64))) j ≡ bit_at word j
bit_kept word k j fits inside other =
    ⊎_elim
    (λ (below : j < 64). bit_at_clear_other w64 word k inside j below other)
    (λ (above : 64 ≤ j). omega (arith, bit_at_and word (bit_not w64 (1 * 2 ^ k % 2 ^ 64)) j, bit_at_above word 64 j fits above))
    (cases_lt j 64)

-- bit k is v, and the others are those of another word
pub by_bits : (after word k v : ℕ) → bit_at after k ≡ v → ((j : ℕ) → j ≢ k → bit_at after j ≡ bit_at word j) → (j : ℕ) → bit_at after j ≡ cond (eqb j k) v (bit_at word j)
by_bits after word k v same other j = grind (arith, nat_tests, same, other j)

-- ---- the bits of a word, counted

sum_shift : (f : ℕ → ℕ) (a n : ℕ) → sum_by f (range_with_len a n) ≡ sum_by (λ j. f (a + j)) (range_with_len 0 n)
sum_shift f a zero = refl
sum_shift f a (suc n) =
    let here = sum_shift f (a + 1) n in
    let there = sum_shift (λ j. f (a + j)) 1 n in
    let same = sum_same (λ j. f (a + 1 + j)) (λ j. f (a + (1 + j))) 0 n (λ j low high. ap f (omega arith)) in
    let head : f a ≡ f (a + 0) = ap f (omega arith) in
    omega (arith, sum_by-cons f a (range_with_len (a + 1) n), sum_by-cons (λ j. f (a + j)) 0 (range_with_len 1 n))

-- the number of bits set is their sum
ones_sum : (w n : ℕ) → n < 2 ^ w → ones n ≡ sum_by (bit_at n) (range_with_len 0 w)
unfolding ones
ones_sum zero n h = let none : n ≡ 0 = omega arith in ap ones none
ones_sum (suc w) n h =
    let rest = ones_sum w (n / 2) (omega arith) in
    let moved = sum_shift (bit_at n) 1 w in
    let same = sum_same (bit_at (n / 2)) (λ j. bit_at n (1 + j)) 0 w (λ j low high. ap (λ x. x % 2) (shr-shr n 1 j)) in
    omega (arith, ones_step n, sum_by-cons (bit_at n) 0 (range_with_len 1 w), bit_at_lowest n)

-- ---- the marks of a segment, in two words

-- one bit of a word was made v: that quarter hour's mark goes by v, and the others stay
pub early_changed : (m after : Marks) (q v : ℕ) → q < 64 → after.late ≡ m.late → ((j : ℕ) → bit_at after.early j ≡ cond (eqb j q) v (bit_at m.early j)) → Turned m q (eqb v 1) after
unfolding mark
early_changed m after q v inside kept changed p = grind (arith, nat_tests, changed p, kept)

pub late_changed : (m after : Marks) (q v : ℕ) → 64 ≤ q → after.early ≡ m.early → ((j : ℕ) → bit_at after.late j ≡ cond (eqb j (q - 64)) v (bit_at m.late j)) → Turned m q (eqb v 1) after
unfolding mark
late_changed m after q v inside kept changed p = grind (arith, nat_tests, changed (p - 64), kept)

early_bit : (m : Marks) (q : ℕ) → q < 64 → bit_at m.early q ≡ cond (mark m q) 1 0
unfolding mark
early_bit m q inside = grind (arith, nat_tests, bit_at-lt m.early q)

late_bit : (m : Marks) (j : ℕ) → bit_at m.late j ≡ cond (mark m (64 + j)) 1 0
unfolding mark
late_bit m j = let back : 64 + j - 64 ≡ j = omega arith in rw back (grind (arith, nat_tests, bit_at-lt m.late j))

-- as many bits are set as both words have
pub bits_counted : (m : Marks) → m.early < 2 ^ 64 → m.late < 2 ^ 64 → ones m.early + ones m.late ≡ bit_count m
unfolding bit_count
bits_counted m e l =
    let one : ℕ → ℕ = λ q. cond (mark m q) 1 0 in
    let first = ones_sum 64 m.early e ∙ sum_same (bit_at m.early) one 0 64 (λ q low high. early_bit m q high) in
    let second = ones_sum 64 m.late l ∙ sum_same (bit_at m.late) (λ j. one (64 + j)) 0 64 (λ j low high. late_bit m j) in
    ap₂ ◌+◌ first (second ∙ sym (sum_shift one 64 64)) ∙ sym (sum_by-append one (range_with_len 0 64) (range_with_len 64 64))

past_the_day : (m : Marks) (q : ℕ) → m.late < 2 ^ 36 → 100 ≤ q → cond {A = ℕ} (mark m q) 1 0 ≡ 0
unfolding mark
past_the_day m q fits past = grind (arith, nat_tests, bit_at_above m.late 36 (q - 64) fits (omega arith))

-- where no bit stands past the last quarter hour, as many are set as quarter hours are marked
pub day_counted : (m : Marks) → m.late < 2 ^ 36 → bit_count m ≡ mark_count m
unfolding bit_count mark_count
day_counted m fits =
    let one : ℕ → ℕ = λ q. cond (mark m q) 1 0 in
    let none = sum_same one (λ q. 0) 100 28 (λ q low high. past_the_day m q fits low) in
    omega (arith, sum_by-append one (range_with_len 0 100) (range_with_len 100 28), none)

pub marks_counted : (m : Marks) → m.early < 2 ^ 64 → m.late < 2 ^ 36 → ones m.early + ones m.late ≡ mark_count m
marks_counted m e l = bits_counted m e (omega arith) ∙ day_counted m l
