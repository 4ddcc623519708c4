-- What each call of a load book answers, by what stands, the places and the grossing. Assumes nothing.
use Rattle.std.specs.Prelude.{ℕ, Bool, cond, not, ◌&&◌, is_some, Ok, Err, Option, Result, ◌==◌, nat_lt}
use Rattle.std.specs.Option.{ok_or}
use Rattle.refusal.specs.declared.Refusal.{Refusal}
use Rattle.refusal.specs.declared.Refusal.TheVariants.{SegmentNumber, QuarterHour, Reading, NoPlace, NothingStands}
use Rattle.book.specs.Cells.{Standing, count}
use Rattle.book.specs.Grossing.{Gross, load, fault, refusal_of}

-- a cell's numbers are looked at first: the segment, then the quarter hour
abbrev pub cell_answer : {X : Type 0} → ℕ → ℕ → Result X Refusal → Result X Refusal
cell_answer s q answer = cond (nat_lt 63 s) (Err SegmentNumber) (cond (nat_lt 99 q) (Err QuarterHour) answer)

-- as many readings stand as there are places, and the cell has none of them
abbrev pub full : Standing → ℕ → ℕ → ℕ → Bool
full st places s q = not (is_some (st s q)) && count st == places

abbrev pub post_answer : Standing → ℕ → ℕ → ℕ → ℕ → Result (Option ℕ) Refusal
post_answer st places s q reading =
    cell_answer s q (cond (nat_lt 1000000 reading) (Err Reading) (cond (full st places s q) (Err NoPlace) (Ok (st s q))))

abbrev pub withdraw_answer : Standing → ℕ → ℕ → Result ℕ Refusal
withdraw_answer st s q = cell_answer s q (ok_or (st s q) NothingStands)

abbrev pub read_answer : Standing → ℕ → ℕ → Result (Option ℕ) Refusal
read_answer st s q = cell_answer s q (Ok (st s q))

abbrev pub answer_of_gross : ℕ → Gross → Result ℕ Refusal
answer_of_gross s (load m) = Ok m
answer_of_gross s (fault f h) = Err (refusal_of s f h)

abbrev pub load_answer : ℕ → ℕ → Gross → Result ℕ Refusal
load_answer s q g = cell_answer s q (answer_of_gross s g)
