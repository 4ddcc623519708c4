-- A text is read back in one way only. Assumes nothing.
use Rattle.std.proofs.Common.{◌≡◌, ℕ, zero, suc, ◌+◌, ◌-◌, ◌<◌, ◌≤◌, eqb, List, [], ◌∷◌, ◌++◌, map, length, ℤ, pos, negsuc, sym, refl, ap, ◌∙◌, subst, ⊎_elim, append_assoc, arith}
use Rattle.std.specs.Int.Digits.{digits_of, number_from_digits}
use Rattle.std.specs.List.{AllByRecursion}
use Rattle.std.proofs.lemmas.Int.Digits.{number_digits_of}
use Rattle.std.proofs.ByRecursion.{All-weaker}
use Rattle.std.proofs.lemmas.Bool.{cases_eq, cond_both}
use Rattle.statement.specs.Text.{places, unsigned, numeral, fields, line, lines}
use Rattle.statement.proofs.Pieces.{places_are, unsigned_zero, unsigned_above}

-- ---- numbers

-- the number that digits write
abbrev decoded : List ℕ → ℕ
decoded bs = number_from_digits 10 (map (λ b. b - 48) bs)

unshifted : (ds : List ℕ) → map (λ b. b - 48) (map (λ d. 48 + d) ds) ≡ ds
unshifted [] = refl
unshifted (d ∷ ds) =
    let here : 48 + d - 48 ≡ d = omega arith in
    let rest = unshifted ds in
    cc

decoded_unsigned : (n : ℕ) → decoded (unsigned n) ≡ n
decoded_unsigned n =
    ⊎_elim (λ (e : n ≡ 0). ap decoded (unsigned_zero n e) ∙ sym e)
    (λ (ne : n ≡ 0 → ⊥). ap decoded (unsigned_above n (omega arith) ∙ places_are n) ∙ ap (number_from_digits 10) (unshifted (digits_of 10 n)) ∙ number_digits_of 10 n (omega arith))
    (cases_eq n 0)

unsigned_same : (m n : ℕ) → unsigned m ≡ unsigned n → m ≡ n
unsigned_same m n e = sym (decoded_unsigned m) ∙ ap decoded e ∙ decoded_unsigned n

-- digits stand above every mark
all_unsigned : (n : ℕ) → AllByRecursion (λ b. 47 < b) (unsigned n)
unfolding unsigned
all_unsigned n = cond_both (eqb n 0) (48 ∷ []) (places n) (AllByRecursion (λ b. 47 < b)) (λ _. (omega arith, tt)) (λ _. subst (AllByRecursion (λ b. 47 < b)) (sym (places_are n)) (shifted (digits_of 10 n)))
  where
    shifted : (ds : List ℕ) → AllByRecursion (λ b. 47 < b) (map (λ d. 48 + d) ds)
    shifted [] = tt
    shifted (d ∷ ds) = (omega arith, shifted ds)

never_minus : (n : ℕ) (bs : List ℕ) → unsigned n ≡ 45 ∷ bs → ⊥
never_minus n bs e = let above : 47 < 45 = (subst (AllByRecursion (λ b. 47 < b)) e (all_unsigned n)).0 in omega arith

numeral_same : (y z : ℤ) → numeral y ≡ numeral z → y ≡ z
unfolding numeral
numeral_same (pos m) (pos n) e = ap pos (unsigned_same m n e)
numeral_same (pos m) (negsuc n) e = absurd (never_minus m (unsigned (suc n)) e)
numeral_same (negsuc m) (pos n) e = absurd (never_minus n (unsigned (suc m)) (sym e))
numeral_same (negsuc m) (negsuc n) e =
    let digits : unsigned (suc m) ≡ unsigned (suc n) = cc in
    ap negsuc (omega (arith, unsigned_same (suc m) (suc n) digits))

-- no byte of a number is a space or a line's end
all_numeral : (z : ℤ) → AllByRecursion (λ b. 32 < b) (numeral z)
unfolding numeral
all_numeral (pos n) = All-weaker (λ b. 47 < b) (λ b. 32 < b) (λ b h. omega arith) (unsigned n) (all_unsigned n)
all_numeral (negsuc n) = (omega arith, All-weaker (λ b. 47 < b) (λ b. 32 < b) (λ b h. omega arith) (unsigned (suc n)) (all_unsigned (suc n)))

-- ---- lines

-- what goes on with a space or a line's end
abbrev Marked : List ℕ → Type 0
Marked [] = ⊥
Marked (b ∷ bs) = b ≤ 32

-- a field ends where the next mark stands
field_ends : (xs ys t u : List ℕ) → AllByRecursion (λ b. 32 < b) xs → AllByRecursion (λ b. 32 < b) ys → Marked t → Marked u → xs ++ t ≡ ys ++ u → (xs ≡ ys) × (t ≡ u)
field_ends [] [] t u hx hy ht hu e = (refl, e)
field_ends [] (y ∷ ys) t u hx hy ht hu e = let low : y ≤ 32 = subst Marked e ht in absurd (omega (arith, hy.0))
field_ends (x ∷ xs) [] t u hx hy ht hu e = let low : x ≤ 32 = subst Marked (sym e) hu in absurd (omega (arith, hx.0))
field_ends (x ∷ xs) (y ∷ ys) t u hx hy ht hu e =
    let head : x ≡ y = cc in
    let tail : xs ++ t ≡ ys ++ u = cc in
    let rest = field_ends xs ys t u hx.1 hy.1 ht hu tail in
    let same : xs ≡ ys = rest.0 in (
      cc,
      rest.1,
    )

goes_on : (ns : List ℤ) (t : List ℕ) → Marked (fields ns ++ (10 ∷ t))
unfolding fields
goes_on [] t = omega arith
goes_on (n ∷ ns) t = omega arith

fields_end : (ms ns : List ℤ) (t u : List ℕ) → length ms ≡ length ns → fields ms ++ (10 ∷ t) ≡ fields ns ++ (10 ∷ u) → (ms ≡ ns) × (t ≡ u)
unfolding fields
fields_end [] [] t u n e = (refl, cc)
fields_end [] (n ∷ ns) t u h e = absurd (omega arith)
fields_end (m ∷ ms) [] t u h e = absurd (omega arith)
fields_end (m ∷ ms) (n ∷ ns) t u h e =
    let behind : (numeral m ++ fields ms) ++ (10 ∷ t) ≡ (numeral n ++ fields ns) ++ (10 ∷ u) = cc in
    let apart : numeral m ++ (fields ms ++ (10 ∷ t)) ≡ numeral n ++ (fields ns ++ (10 ∷ u)) =
    sym (append_assoc (numeral m) (fields ms) (10 ∷ t)) ∙ behind ∙ append_assoc (numeral n) (fields ns) (10 ∷ u) in
    let first = field_ends (numeral m) (numeral n) (fields ms ++ (10 ∷ t)) (fields ns ++ (10 ∷ u)) (all_numeral m) (all_numeral n) (goes_on ms t) (goes_on ns u) apart in
    let rest = fields_end ms ns t u (omega arith) first.1 in
    let one : m ≡ n = numeral_same m n first.0 in
    let more : ms ≡ ns = rest.0 in (
      cc,
      rest.1,
    )

pub line_ends : (letter : ℕ) (ms ns : List ℤ) (t u : List ℕ) → length ms ≡ length ns → line letter ms ++ t ≡ line letter ns ++ u → (ms ≡ ns) × (t ≡ u)
unfolding line
line_ends letter ms ns t u h e =
    let behind : (fields ms ++ (10 ∷ [])) ++ t ≡ (fields ns ++ (10 ∷ [])) ++ u = cc in
    fields_end ms ns t u h (sym (append_assoc (fields ms) (10 ∷ []) t) ∙ behind ∙ append_assoc (fields ns) (10 ∷ []) u)

-- texts that are read off one by one, with what each says
pub lines_end : (P : ℕ → Type 0) (g h : ℕ → List ℕ) (n : ℕ) → ((k : ℕ) → k < n → (t u : List ℕ) → g k ++ t ≡ h k ++ u → P k × (t ≡ u)) → (t u : List ℕ) → lines g n ++ t ≡ lines h n ++ u → ((k : ℕ) → k < n → P k) × (t ≡ u)
unfolding lines
lines_end P g h zero each t u e = (λ k l. absurd (omega arith), e)
lines_end P g h (suc n) each t u e =
    let apart : lines g n ++ (g n ++ t) ≡ lines h n ++ (h n ++ u) =
    sym (append_assoc (lines g n) (g n) t) ∙ e ∙ append_assoc (lines h n) (h n) u in
    let before = lines_end P g h n (λ k l. each k (omega arith)) (g n ++ t) (h n ++ u) apart in
    let here = each n (omega arith) t u before.1 in (
      λ k l. ⊎_elim (λ (same : k ≡ n). subst P (sym same) here.0) (λ (ne : k ≡ n → ⊥). before.0 k (omega arith)) (cases_eq k n),
      here.1,
    )
