-- The marks of one segment: a bit for each quarter hour, in two words. Assumes nothing.
use Rattle.std.specs.Prelude.{◌≡◌, ℕ, ◌-◌, Bool, cond, List, count_by, ◌==◌, nat_lt, slice_index_or}
use Rattle.std.specs.Int.{bit_at}
use Rattle.std.specs.List.{range_with_len}
use Rattle.grid.specs.declared.marks.Marks.{Marks}

-- whether quarter hour q is marked: the early word has those below 64, the late word the rest
unfoldable pub mark : Marks → ℕ → Bool
mark m q = cond (nat_lt q 64) (bit_at m.early q == 1) (bit_at m.late (q - 64) == 1)

-- how many of the 100 quarter hours are marked
unfoldable pub mark_count : Marks → ℕ
mark_count m = count_by (mark m) (range_with_len 0 100)

-- how many bits of the two words are set, those past the last quarter hour among them
unfoldable pub bit_count : Marks → ℕ
bit_count m = count_by (mark m) (range_with_len 0 128)

-- the mark of quarter hour q made v, and the others kept
abbrev pub Turned : Marks → ℕ → Bool → Marks → Type 0
Turned before q v after = (p : ℕ) → mark after p ≡ cond (p == q) v (mark before p)

-- no quarter hour marked
abbrev pub unmarked : Marks
unmarked = record { early = 0; late = 0 }

-- the marks of segment s in a list that has them by segment: none past its end
abbrev pub marks_at : List Marks → ℕ → Marks
marks_at marks s = slice_index_or marks s unmarked
