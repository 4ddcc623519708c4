-- Places of a table of rows and quarter hours. Assumes nothing.
use Rattle.std.proofs.Common.{◌≡◌, ℕ, ◌<◌, ◌≤◌, cond, ◌&&◌, eqb, List, [], length, get_or, set, replicate, None, Option, sym, ap, ◌∙◌, subst, ⊎_elim, length-set, get_or-set_other, get_or-set_same}
use lib.ListN.{length-replicate}
use Rattle.std.proofs.lemmas.List.{get_or-replicate, get_or_past}
use Rattle.std.proofs.lemmas.Bool.{cases_eq, cases_lt, eq-eqb, ne_eqb, cond-true, cond-false, cond_both, and_from, and_left, and_right}
use Rattle.book.specs.Tables.{at, cell}

-- ---- a table without content

-- whatever the index, there is nothing else in a list of one thing than that thing
pub slice_index_or_all_same : {X : Type 0} (n i : ℕ) (x : X) → get_or (replicate n x) i x ≡ x
slice_index_or_all_same n i x =
    ⊎_elim (λ (h : i < n). get_or-replicate n i x x h)
    (λ (h : n ≤ i). get_or_past (replicate n x) i x (simp length-replicate h)) (cases_lt i n)

-- a table of n rows of m with the same in every place
pub filled_cell : {X : Type 0} (d : X) (n m k q : ℕ) → cell d (replicate n (replicate m d)) k q ≡ d
filled_cell {X} d n m k q =
    ⊎_elim
    (λ (h : k < n). ap (λ (xs : List X). get_or xs q d) (get_or-replicate n k (replicate m d) [] h) ∙ slice_index_or_all_same m q d)
    (λ (h : n ≤ k). ap (λ (xs : List X). get_or xs q d) (get_or_past (replicate n (replicate m d)) k [] (simp length-replicate h))) (cases_lt k n)

pub filled_length : {X : Type 0} (d : X) (n m k : ℕ) → k < n → length (get_or (replicate n (replicate m d)) k []) ≡ m
filled_length {X} d n m k h = ap (λ (xs : List X). length xs) (get_or-replicate n k (replicate m d) [] h) ∙ length-replicate m d

module _ {X : Type 0} where
  -- ---- past the ends
  pub past_quarter_hours : (rows : List (List (Option X))) (k q : ℕ) → length (get_or rows k []) ≤ q → at rows k q ≡ None
  past_quarter_hours rows k q h = get_or_past (get_or rows k []) q None h

  pub past_rows : (rows : List (List (Option X))) (k q : ℕ) → length rows ≤ k → at rows k q ≡ None
  past_rows rows k q h = ap (λ (xs : List (Option X)). get_or xs q None) (get_or_past rows k [] h)

-- ---- one place given another content
module _ {X : Type 0} (d : X) (rows : List (List X)) (k q : ℕ) (f : X) (hk : k < length rows) (hq : q < length (get_or rows k [])) where
  abbrev pub put_rows : List (List X)
  put_rows = set rows k (set (get_or rows k []) q f)

  pub put_row_length : (j : ℕ) → length (get_or put_rows j []) ≡ length (get_or rows j [])
  put_row_length j =
      ⊎_elim
      (λ (e : j ≡ k). rw (e, get_or-set_same rows k (set (get_or rows k []) q f) [] hk) (length-set (get_or rows k []) q f))
      (λ (ne : j ≡ k → ⊥). ap (λ (xs : List X). length xs) (get_or-set_other rows k j (set (get_or rows k []) q f) [] ne)) (cases_eq j k)

  pub put_at_cell : (j p : ℕ) → cell d put_rows j p ≡ cond (eqb j k && eqb p q) f (cell d rows j p)
  put_at_cell j p =
      ⊎_elim
      (λ (e : j ≡ k).
      let here : get_or put_rows j [] ≡ set (get_or rows k []) q f = ap (λ (i : ℕ). get_or put_rows i []) e ∙ get_or-set_same rows k (set (get_or rows k []) q f) [] hk in
      ⊎_elim
      (λ (same : p ≡ q).
      ap (λ (xs : List X). get_or xs p d) here ∙ ap (λ (i : ℕ). get_or (set (get_or rows k []) q f) i d) same
      ∙ get_or-set_same (get_or rows k []) q f d hq
      ∙ sym (cond-true (eqb j k && eqb p q) f (cell d rows j p) (and_from (eqb j k) (eqb p q) (eq-eqb j k e) (eq-eqb p q same))))
      (λ (nd : p ≡ q → ⊥).
      ap (λ (xs : List X). get_or xs p d) here ∙ get_or-set_other (get_or rows k []) q p f d nd
      ∙ ap (λ (i : ℕ). cell d rows i p) (sym e)
      ∙ sym (cond-false (eqb j k && eqb p q) f (cell d rows j p) (and_right (eqb j k) (eqb p q) (ne_eqb p q nd))))
      (cases_eq p q))
      (λ (ne : j ≡ k → ⊥).
      ap (λ (xs : List X). get_or xs p d) (get_or-set_other rows k j (set (get_or rows k []) q f) [] ne)
      ∙ sym (cond-false (eqb j k && eqb p q) f (cell d rows j p) (and_left (eqb j k) (eqb p q) (ne_eqb j k ne))))
      (cases_eq j k)

  -- what holds of every content still does
  pub put_keeps : (P : X → Type 0) → P f → ((j p : ℕ) → P (cell d rows j p)) → (j p : ℕ) → P (cell d put_rows j p)
  put_keeps P hf all j p =
      subst P (sym (put_at_cell j p)) (cond_both (eqb j k && eqb p q) f (cell d rows j p) P (λ _. hf) (λ _. all j p))
