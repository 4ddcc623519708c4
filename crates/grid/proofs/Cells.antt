-- What stands after a mark is set or cleared, and how many readings that makes. Assumes nothing.
use Rattle.std.proofs.Common.{◌≡◌, ℕ, ◌+◌, ◌-◌, ◌*◌, ◌^◌, ◌<◌, ◌≤◌, Bool, true, false, cond, not, eqb, List, [], ◌∷◌, map, length, get_or, set, replicate, is_some, Some, None, sum_by, Option, sym, refl, ap, ◌∙◌, subst, ⊎_elim, arith, get_or-set_other, get_or-set_same}
use mathlib.Core.Path.{fun_ext}
use Rattle.std.specs.List.{range_with_len}
use Rattle.std.proofs.lemmas.Grind.{get_or-set_at}
use Rattle.std.proofs.lemmas.List.{get_or_default, get_or_past, get_or-replicate, length-replicate}
use Rattle.std.proofs.lemmas.List.Sums.{sum_by-cons, count_by-le-length}
use Rattle.std.proofs.lemmas.List.FromFn.{fill_by_all}
use Rattle.std.proofs.lemmas.Nat.Bits.{bit_at-zero}
use Rattle.std.proofs.lemmas.Bool.{cond-true, cond-false, cases_eq, cases_lt}
use Rattle.std.proofs.lemmas.Bool.Decides.{nat_tests}
use Rattle.book.specs.Answers.{full}
use Rattle.book.specs.Cells.{Standing, nothing, same_cell, put, count_of, count}
use Rattle.book.proofs.Counts.{sum_same, one, count_put, count_most}
use Rattle.grid.specs.declared.marks.Marks.{Marks}
use Rattle.grid.specs.Marks.{mark, mark_count, bit_count, marks_at, unmarked, Turned}
use Rattle.grid.specs.Held.{marked, standing_in, places_in}

-- ---- any book: how a cell counts

-- a reading that stands is one of those counted
one_counted : (st : Standing) (s q : ℕ) → s < 64 → q < 100 → one (st s q) ≤ count st
one_counted st s q hs hq = omega (arith, count_put st s q None hs hq)

-- where a cell is empty, not all 6,400 have a reading
empty_counted : (st : Standing) (s q : ℕ) → s < 64 → q < 100 → is_some (st s q) ≡ false → count st < 6400
empty_counted st s q hs hq none =
    let free : one (st s q) ≡ 0 = cond-false (is_some (st s q)) 1 0 none in
    omega (arith, count_put st s q (Some 0) hs hq, count_most (put st s q (Some 0)))

-- a reading, if there is one, is at most 1,000,000 Wh; and it stays so as cells are emptied and filled
abbrev pub Small : Option ℕ → Type 0
Small c = (n : ℕ) → c ≡ Some n → n ≤ 1000000

pub small_none : Small None
small_none n e = absurd cc

-- ---- nothing marked

pub blank_marked : (m : Marks) → m.early ≡ 0 → m.late ≡ 0 → (s q : ℕ) → marked (replicate 64 m) s q ≡ false
unfolding marked mark
blank_marked m e l s q = grind (arith, nat_tests, get_or-replicate 64 s m unmarked, bit_at-zero q, bit_at-zero (q - 64))

pub blank_day_end : (m : Marks) → m.late ≡ 0 → (s : ℕ) → (marks_at (replicate 64 m) s).late < 2 ^ 36
blank_day_end m l s =
    ⊎_elim
    (λ (inside : s < 64). rw (get_or-replicate 64 s m unmarked inside) (omega (arith, l)))
    (λ (past : 64 ≤ s). rw (get_or_past (replicate 64 m) s unmarked (simp length-replicate (omega arith))) (omega arith))
    (cases_lt s 64)

pub blank_standing : (cells : List ℕ) (marks : List Marks) → ((s q : ℕ) → marked marks s q ≡ false) → standing_in cells marks ≡ nothing
unfolding standing_in
blank_standing cells marks none = fun_ext (λ s. fun_ext (λ q. cond-false (marked marks s q) _ None (none s q)))

-- ---- one mark made v

marked_day : (marks : List Marks) (s q : ℕ) → marked marks s q ≡ true → q < 100
unfolding marked
marked_day marks s q m = grind (arith, nat_tests)

module _ (marks : List Marks) (s q : ℕ) (d after : Marks) (v : Bool) (hs : s < 64) (hq : q < 100) (whole : length marks ≡ 64) (turned : Turned (get_or marks s d) q v after) where
  marked_after : (t p : ℕ) → marked (set marks s after) t p ≡ cond (same_cell s q t p) v (marked marks t p)
  unfolding marked
  marked_after t p =
      let new = get_or-set_at marks s t after unmarked in
      let other = get_or-set_other marks s t after unmarked in
      let old = get_or_default marks s unmarked d (omega arith) in
      grind (arith, nat_tests, turned p)

  module _ (cells numbers : List ℕ) (kept : (i : ℕ) → (i ≡ 100 * s + q → ⊥) → get_or numbers i 0 ≡ get_or cells i 0) where
    cell_after : (t p : ℕ) → standing_in numbers (set marks s after) t p ≡ put (standing_in cells marks) s q (cond v (Some (get_or numbers (100 * s + q) 0)) None) t p
    unfolding standing_in put
    cell_after t p =
        let inside = marked_day marks t p in
        let place = kept (100 * t + p) in
        grind (arith, nat_tests, marked_after t p)

    pub standing_after : standing_in numbers (set marks s after) ≡ put (standing_in cells marks) s q (cond v (Some (get_or numbers (100 * s + q) 0)) None)
    standing_after = fun_ext (λ t. fun_ext (λ p. cell_after t p))

-- no bit past the last quarter hour comes with it, where the changed marks bring none
pub day_after : (marks : List Marks) (s : ℕ) (d after : Marks) → length marks ≡ 64 → s < 64 → ((t : ℕ) → (marks_at marks t).late < 2 ^ 36) → ((get_or marks s d).late < 2 ^ 36 → after.late < 2 ^ 36) → (t : ℕ) → (marks_at (set marks s after) t).late < 2 ^ 36
day_after marks s d after whole hs fits width t =
    let old : (get_or marks s d).late < 2 ^ 36 = subst (λ (m : Marks). m.late < 2 ^ 36) (get_or_default marks s unmarked d (omega arith)) (fits s) in
    ⊎_elim
    (λ (e : t ≡ s). rw e (rw (get_or-set_same marks s after unmarked (omega arith)) (width old)))
    (λ (ne : t ≡ s → ⊥). rw (get_or-set_other marks s t after unmarked ne) (fits t))
    (cases_eq t s)

-- ---- marks and the length of the list

marked_inside : (marks : List Marks) (s q : ℕ) (d : Marks) → length marks ≡ 64 → s < 64 → q < 100 → marked marks s q ≡ mark (get_or marks s d) q
unfolding marked
marked_inside marks s q d whole hs hq = let same = get_or_default marks s unmarked d (omega arith) in grind (arith, nat_tests)

-- a cell whose mark is set has its place of the list, and what lies there; without its mark it has nothing
module _ (cells : List ℕ) (marks : List Marks) (s q : ℕ) (d : Marks) (whole : length marks ≡ 64) (hs : s < 64) (hq : q < 100) where
  pub standing_marked : mark (get_or marks s d) q ≡ true → standing_in cells marks s q ≡ Some (get_or cells (100 * s + q) 0)
  unfolding standing_in
  standing_marked m = cond-true (marked marks s q) _ None (marked_inside marks s q d whole hs hq ∙ m)

  pub standing_unmarked : mark (get_or marks s d) q ≡ false → standing_in cells marks s q ≡ None
  unfolding standing_in
  standing_unmarked m = cond-false (marked marks s q) _ None (marked_inside marks s q d whole hs hq ∙ m)

  pub marked_in_list : count (standing_in cells marks) ≤ places_in cells → mark (get_or marks s d) q ≡ true → length cells ≡ 6400
  marked_in_list housed m =
      let stands = ap one (standing_marked m) in
      let counted = one_counted (standing_in cells marks) s q hs hq in
      grind (arith, nat_tests)

-- a book with places always has one left for an empty cell, and a book without takes nothing
pub full_by_length : (cells : List ℕ) (st : Standing) (s q : ℕ) → s < 64 → q < 100 → count st ≤ places_in cells → full st (places_in cells) s q ≡ not (eqb (length cells) 6400)
full_by_length cells st s q hs hq housed =
    let counted = one_counted st s q hs hq in
    let room = empty_counted st s q hs hq in
    grind (arith, nat_tests)

-- ---- the marks counted

pub mark_count_most : (m : Marks) → mark_count m ≤ 100
unfolding mark_count
mark_count_most m = count_by-le-length (mark m) (range_with_len 0 100)

pub bit_count_most : (m : Marks) → bit_count m ≤ 128
unfolding bit_count
bit_count_most m = count_by-le-length (mark m) (range_with_len 0 128)

-- a segment has as many readings as marks
row_counted : (cells : List ℕ) (marks : List Marks) (s : ℕ) → length marks ≡ 64 → s < 64 → count_of (standing_in cells marks) s ≡ mark_count (marks_at marks s)
unfolding count_of mark_count standing_in
row_counted cells marks s whole hs =
    sum_same (λ q. cond (is_some (standing_in cells marks s q)) 1 0) (λ q. cond (mark (marks_at marks s) q) 1 0) 0 100
    (λ q low high. let m = marked_inside marks s q unmarked whole hs high in grind arith)

sum_over : {X : Type 0} (g : X → ℕ) (f : ℕ → X) (xs : List ℕ) → sum_by (λ s. g (f s)) xs ≡ sum_by g (map f xs)
sum_over g f [] = refl
sum_over g f (x ∷ xs) = let rest = sum_over g f xs in omega (arith, sum_by-cons (λ s. g (f s)) x xs, sum_by-cons g (f x) (map f xs))

-- and so have all segments together, by any count that is right for each
pub all_counted : (by : Marks → ℕ) (cells : List ℕ) (marks : List Marks) → length marks ≡ 64 → ((s : ℕ) → mark_count (marks_at marks s) ≡ by (marks_at marks s)) → count (standing_in cells marks) ≡ sum_by by marks
unfolding count
all_counted by cells marks whole right =
    let rows = range_with_len 0 64 in
    let each : map (marks_at marks) rows ≡ marks = sym (fill_by_all (marks_at marks) marks 64 unmarked whole (λ k h. refl)) in
    sum_same (count_of (standing_in cells marks)) (λ s. by (marks_at marks s)) 0 64 (λ s low high. row_counted cells marks s whole high ∙ right s)
    ∙ sum_over by (marks_at marks) rows ∙ ap (sum_by by) each
