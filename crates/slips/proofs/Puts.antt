-- One content after another, put into one cell or into two. Assumes nothing.
use Rattle.std.proofs.Common.{◌≡◌, ℕ, false, Some, None, Option, ◌∙◌, arith}
use mathlib.Core.Path.{fun_ext}
use Rattle.std.proofs.lemmas.Bool.Decides.{nat_tests}
use Rattle.book.specs.Cells.{Standing, same_cell, put}

-- books that hold the same in each cell are the same
pub same_standing : (st su : Standing) → ((t p : ℕ) → st t p ≡ su t p) → st ≡ su
same_standing st su e = fun_ext (λ t. fun_ext (λ p. e t p))

-- of two contents for one cell the later stays
pub put_again : (st : Standing) (s q : ℕ) (c d : Option ℕ) → put (put st s q c) s q d ≡ put st s q d
unfolding put
put_again st s q c d = same_standing _ _ (λ t p. grind (arith, nat_tests))

-- contents for two cells may be put in either order
pub put_either : (st : Standing) (s q t p : ℕ) (c d : Option ℕ) → same_cell s q t p ≡ false → put (put st s q c) t p d ≡ put (put st t p d) s q c
unfolding put
put_either st s q t p c d e = same_standing _ _ (λ a b. grind (arith, nat_tests))

-- what stands already changes nothing
pub put_own : (st : Standing) (s q : ℕ) (c : Option ℕ) → st s q ≡ c → put st s q c ≡ st
unfolding put
put_own st s q c e = same_standing _ _ (λ t p. grind (arith, nat_tests))

-- a reading put into a free cell and taken back leaves the book as it was
pub put_back : (st : Standing) (s q : ℕ) (c : Option ℕ) → st s q ≡ None → put (put st s q c) s q None ≡ st
put_back st s q c e = put_again st s q c None ∙ put_own st s q None e

-- a cell with no reading and one that has a reading are two cells
pub apart : (st : Standing) (s q t p n : ℕ) → st s q ≡ None → st t p ≡ Some n → same_cell s q t p ≡ false
apart st s q t p n free held = grind (arith, nat_tests)

-- a cell that is free after a reading was put is another cell, and was free before
pub free_elsewhere : (st : Standing) (s q t p n : ℕ) → put st s q (Some n) t p ≡ None → (same_cell s q t p ≡ false) × (st t p ≡ None)
unfolding put
free_elsewhere st s q t p n e = (grind (arith, nat_tests), grind (arith, nat_tests))

-- a cell that is free stays so while others are emptied
pub free_kept : (st : Standing) (s q t p : ℕ) → st t p ≡ None → put st s q None t p ≡ None
unfolding put
free_kept st s q t p e = grind (arith, nat_tests)
