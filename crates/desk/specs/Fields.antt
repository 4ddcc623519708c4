-- What a field is read as, byte by byte, and what that makes of all its bytes. Assumes nothing.
use Rattle.std.specs.Prelude.{ℕ, ◌+◌, ◌-◌, ◌*◌, ◌^◌, min, pos, neg_ℤ, ℤ, Bool, true, false, cond, ◌&&◌, ◌||◌, List, [], ◌∷◌, Some, None, fold, Option, ◌==◌, nat_le, nat_lt}
use Rattle.desk.specs.declared.field.Numeral.{Numeral}
use Rattle.desk.specs.declared.field.Numeral.TheVariants.{Nothing, Minus, Whole, Negative, Other}
use Rattle.desk.specs.declared.field.Field.{Field}

abbrev pub is_digit_byte : ℕ → Bool
is_digit_byte b = nat_le 48 b && nat_le b 57

-- a number with a digit more at its end; past the largest that is kept it stays there
abbrev pub appended : ℕ → ℕ → ℕ
appended n d = min (n * 10 + d) (2 ^ 64 - 1)

-- whether there is no byte yet
abbrev pub is_nothing : Numeral → Bool
is_nothing Nothing = true
is_nothing Minus = false
is_nothing (Whole n) = false
is_nothing (Negative n) = false
is_nothing Other = false

-- a digit goes to the end of a number, or begins one
abbrev pub numeral_with_digit : Numeral → ℕ → Numeral
numeral_with_digit Nothing d = Whole (appended 0 d)
numeral_with_digit Minus d = Negative (appended 0 d)
numeral_with_digit (Whole n) d = Whole (appended n d)
numeral_with_digit (Negative n) d = Negative (appended n d)
numeral_with_digit Other d = Other

-- a minus sign counts where it is the first byte
abbrev pub numeral_with : Numeral → ℕ → Numeral
numeral_with m b = cond (is_digit_byte b) (numeral_with_digit m (b - 48)) (cond (is_nothing m && b == 45) Minus Other)

-- a byte that begins a character of its own, in UTF-8
abbrev pub starts_character : ℕ → Bool
starts_character b = nat_lt b 128 || nat_le 192 b

-- the first byte counts as one character, and of more than one nothing is kept
abbrev pub character_with : Field → ℕ → Option ℕ
character_with f b = cond (is_nothing f.numeral) (Some b) (cond (starts_character b) None f.character)

abbrev pub empty_field : Field
empty_field = record { numeral = Nothing; character = None }

abbrev pub with_byte : Field → ℕ → Field
with_byte f b = record { numeral = numeral_with f.numeral b; character = character_with f b }

-- the whole number that a field is: digits only
abbrev pub whole_by : Numeral → Option ℕ
whole_by Nothing = None
whole_by Minus = None
whole_by (Whole n) = Some n
whole_by (Negative n) = None
whole_by Other = None

abbrev pub whole_of : Field → Option ℕ
whole_of f = whole_by f.numeral

-- a figure by its size and its sign, within what its place holds
abbrev pub figure_by : Numeral → Option ℤ
figure_by Nothing = None
figure_by Minus = None
figure_by (Whole n) = Some (pos (min n (2 ^ 31 - 1)))
figure_by (Negative n) = Some (neg_ℤ (pos (min n (2 ^ 31 - 1))))
figure_by Other = None

abbrev pub figure_of : Field → Option ℤ
figure_of f = figure_by f.numeral

-- ---- all the bytes of a field
abbrev pub field_of : List ℕ → Field
field_of bytes = fold with_byte empty_field bytes

abbrev pub all_digits : List ℕ → Bool
all_digits [] = true
all_digits (b ∷ bs) = is_digit_byte b && all_digits bs

-- the number that digits make, whatever its size, after those that made n
abbrev pub number_from : ℕ → List ℕ → ℕ
number_from n [] = n
number_from n (b ∷ bs) = number_from (n * 10 + (b - 48)) bs

-- a text is a whole number when it has digits and nothing else
abbrev pub whole_text : List ℕ → Option ℕ
whole_text [] = None
whole_text (b ∷ bs) = cond (is_digit_byte b && all_digits bs) (Some (min (number_from (b - 48) bs) (2 ^ 64 - 1))) None
