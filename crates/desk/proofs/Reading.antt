-- A field is read as a whole number exactly when its bytes are digits only, and then as the number that
-- they make, or as the largest that is kept. Assumes nothing.
use Rattle.std.proofs.Common.{◌≡◌, ℕ, ◌+◌, ◌-◌, ◌*◌, ◌^◌, min, Bool, true, false, cond, ◌&&◌, List, [], ◌∷◌, Some, None, Option, fold, refl, ap, arith, ◌∙◌, ◌==◌}
use Rattle.desk.specs.declared.field.Numeral.{Numeral}
use Rattle.desk.specs.declared.field.Numeral.TheVariants.{Minus, Whole, Negative, Other}
use Rattle.desk.specs.declared.field.Field.{Field}
use Rattle.desk.specs.Fields.{is_digit_byte, appended, with_byte, whole_of, field_of, all_digits, number_from, whole_text}

-- what the bytes of a field make in the end, where they made m so far
abbrev read_on : Numeral → Option ℕ → List ℕ → Option ℕ
read_on m c bs = whole_of (fold with_byte (record { numeral = m; character = c }) bs)

-- what is once no whole number stays none; t says whether the next byte is a digit
other_step : (bs : List ℕ) (c : Option ℕ) (t : Bool) → ((c : Option ℕ) → read_on Other c bs ≡ None) → read_on (cond t Other Other) c bs ≡ None
other_step bs c true rest = rest c
other_step bs c false rest = rest c

other_stays : (bs : List ℕ) (c : Option ℕ) → read_on Other c bs ≡ None
other_stays [] c = refl
other_stays (b ∷ bs) c = other_step bs _ (is_digit_byte b) (other_stays bs)

negative_step : (bs : List ℕ) (n : ℕ) (c : Option ℕ) (t : Bool) → ((n : ℕ) (c : Option ℕ) → read_on (Negative n) c bs ≡ None) → read_on (cond t (Negative n) Other) c bs ≡ None
negative_step bs n c true rest = rest n c
negative_step bs n c false rest = other_stays bs c

negative_stays : (bs : List ℕ) (n : ℕ) (c : Option ℕ) → read_on (Negative n) c bs ≡ None
negative_stays [] n c = refl
negative_stays (b ∷ bs) n c = negative_step bs _ _ (is_digit_byte b) (negative_stays bs)

minus_stays : (bs : List ℕ) (c : Option ℕ) → read_on Minus c bs ≡ None
minus_stays [] c = refl
minus_stays (b ∷ bs) c = negative_step bs _ _ (is_digit_byte b) (negative_stays bs)

-- to stop at the largest number on the way comes to the same as to stop at the end
saturates : (v n d : ℕ) → v ≡ min n (2 ^ 64 - 1) → appended v d ≡ min (n * 10 + d) (2 ^ 64 - 1)
saturates v n d h = omega arith

saturates_first : (d : ℕ) → appended 0 d ≡ min d (2 ^ 64 - 1)
saturates_first d = omega arith

-- where only digits were read so far
digits_step : (b : ℕ) (bs : List ℕ) (v n : ℕ) (c : Option ℕ) (t : Bool) → v ≡ min n (2 ^ 64 - 1) → ((v n : ℕ) (c : Option ℕ) → v ≡ min n (2 ^ 64 - 1) → read_on (Whole v) c bs ≡ cond (all_digits bs) (Some (min (number_from n bs) (2 ^ 64 - 1))) None) → read_on (cond t (Whole (appended v (b - 48))) Other) c bs ≡ cond (t && all_digits bs) (Some (min (number_from (n * 10 + (b - 48)) bs) (2 ^ 64 - 1))) None
digits_step b bs v n c true h rest = rest (appended v (b - 48)) (n * 10 + (b - 48)) c (saturates v n (b - 48) h)
digits_step b bs v n c false h rest = other_stays bs c

digits_go : (bs : List ℕ) (v n : ℕ) (c : Option ℕ) → v ≡ min n (2 ^ 64 - 1) → read_on (Whole v) c bs ≡ cond (all_digits bs) (Some (min (number_from n bs) (2 ^ 64 - 1))) None
digits_go [] v n c h = ap Some h
digits_go (b ∷ bs) v n c h = digits_step b bs v n _ (is_digit_byte b) h (digits_go bs)

-- the first byte; z says whether it is a minus sign
first_step : (b : ℕ) (bs : List ℕ) (t z : Bool) → read_on (cond t (Whole (appended 0 (b - 48))) (cond z Minus Other)) (Some b) bs ≡ cond (t && all_digits bs) (Some (min (number_from (b - 48) bs) (2 ^ 64 - 1))) None
first_step b bs true z = digits_go bs (appended 0 (b - 48)) (b - 48) (Some b) (saturates_first (b - 48))
first_step b bs false true = minus_stays bs (Some b)
first_step b bs false false = other_stays bs (Some b)

pub whole_field : (bytes : List ℕ) → whole_of (field_of bytes) ≡ whole_text bytes
whole_field [] = refl
whole_field (b ∷ bs) = first_step b bs (is_digit_byte b) (b == 45)

pub whole_read : (f : Field) (bytes : List ℕ) → f ≡ field_of bytes → whole_of f ≡ whole_text bytes
whole_read f bytes e = ap whole_of e ∙ whole_field bytes
