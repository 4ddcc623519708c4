-- What holds of the content of every cell. Assumes nothing.
use Rattle.std.proofs.Common.{ℕ, Option}
use Rattle.std.proofs.lemmas.Bool.{cond_both}
use Rattle.book.specs.Cells.{Standing, same_cell, put}

-- it still does once a content of which it holds is put into one of them
pub each_after_put : (P : Option ℕ → Type 0) (st : Standing) (s q : ℕ) (c : Option ℕ) → ((t p : ℕ) → P (st t p)) → P c → (t p : ℕ) → P (put st s q c t p)
unfolding put
each_after_put P st s q c before new t p = cond_both (same_cell s q t p) c (st t p) P (λ _. new) (λ _. before t p)
