-- Slips in use, and what stands by them. Assumes nothing.
use Rattle.std.proofs.Common.{◌≡◌, ℕ, zero, suc, ◌+◌, ◌-◌, ◌<◌, ◌≤◌, false, ◌≢◌, Bool, true, List, length, take, set, is_some, Some, None, Option, sym, refl, ap, ◌∙◌, subst, ⊎_elim, add-one, arith, length-set, length-take, get_or-set_other, get_or-set_same}
use Rattle.std.specs.List.{position, position_or_len}
use Rattle.std.proofs.lemmas.List.Sums.{fails_before_first}
use Rattle.std.proofs.lemmas.List.Quantifiers.{position-Some}
use Rattle.std.proofs.lemmas.List.{get_or-take}
use Rattle.std.proofs.lemmas.Bool.{cases_eq}
use Rattle.std.proofs.lemmas.Bool.Decides.{nat_tests}
use Rattle.book.specs.Cells.{Standing, same_cell, count}
use Rattle.book.proofs.Counts.{count_put, count_nothing, put_here, put_elsewhere, one}
use Rattle.slips.specs.declared.slip.Slip.{Slip}
use Rattle.slips.specs.Slips.{blank, slip_at, cell_of, put_cell, standing_of, InRange, Arranged, Found}
use Rattle.slips.proofs.Puts.{put_again, put_either, put_back, apart, free_elsewhere, free_kept}

-- the slips below n are in range
abbrev Ranged : List Slip → ℕ → Type 0
Ranged xs n = (i : ℕ) → i < n → InRange (slip_at xs i)

-- no slip is in use
pub arranged_none : (xs : List Slip) → Arranged xs 0
unfolding standing_of
arranged_none xs = (omega arith, (λ i h. absurd (omega arith)), count_nothing)

-- a slip past those in use does not matter
standing_kept : (xs : List Slip) (i n : ℕ) (x : Slip) → n ≤ i → standing_of (set xs i x) n ≡ standing_of xs n
unfolding standing_of
standing_kept xs i zero x h = refl
standing_kept xs i (suc n) x h =
    let rest = standing_kept xs i n x (omega arith) in
    let ne : n ≢ i = omega arith in
    let head = get_or-set_other xs i n x blank ne in
    cc

-- no more readings stand than slips are in use
count_within : (xs : List Slip) (n : ℕ) → Ranged xs n → count (standing_of xs n) ≤ n
unfolding standing_of
count_within xs zero r = omega (arith, count_nothing)
count_within xs (suc n) r =
    let x = slip_at xs n in
    let here = r n (omega arith) in
    let rest = count_within xs n (λ i h. r i (omega arith)) in
    omega (arith, count_put (standing_of xs n) x.segment x.quarter_hour (Some x.reading) here.0 here.1)

one_none : (c : Option ℕ) → one c ≡ 0 → c ≡ None
one_none None e = refl
one_none (Some n) e = absurd (omega arith)

-- of arranged slips the last is of a cell that the others leave free, and the others are arranged
last_alone : (xs : List Slip) (n : ℕ) → Arranged xs (suc n) → (cell_of (standing_of xs n) (slip_at xs n) ≡ None) × Arranged xs n
unfolding standing_of
last_alone xs n a =
    let x = slip_at xs n in
    let here = a.1 n (omega arith) in
    let before : Ranged xs n = λ i h. a.1 i (omega arith) in
    let most = count_within xs n before in
    let counted = a.2 in
    let step = count_put (standing_of xs n) x.segment x.quarter_hour (Some x.reading) here.0 here.1 in
    let none : one (cell_of (standing_of xs n) x) ≡ 0 = omega arith in
    (one_none (cell_of (standing_of xs n) x) none, (omega (arith, a.0), before, omega arith))

-- a slip in use says what stands in its cell
pub standing_found : (xs : List Slip) (n i : ℕ) → Arranged xs n → i < n → cell_of (standing_of xs n) (slip_at xs i) ≡ Some (slip_at xs i).reading
unfolding standing_of
standing_found xs zero i a h = absurd (omega arith)
standing_found xs (suc n) i a h =
    let alone = last_alone xs n a in
    let x = slip_at xs n in
    let y = slip_at xs i in
    ⊎_elim
    (λ (last : i ≡ n). rw last (put_here (standing_of xs n) x.segment x.quarter_hour (Some x.reading)))
    (λ (earlier : i ≡ n → ⊥).
    let there = standing_found xs n i alone.1 (omega arith) in
    put_elsewhere (standing_of xs n) x.segment x.quarter_hour (Some x.reading) y.segment y.quarter_hour
    (apart (standing_of xs n) x.segment x.quarter_hour y.segment y.quarter_hour y.reading alone.0 there)
    ∙ there)
    (cases_eq i n)

-- the last slip's cell is emptied: what the others stand for is left
emptied_last : (xs : List Slip) (n : ℕ) → Arranged xs (suc n) → put_cell (standing_of xs (suc n)) (slip_at xs n) None ≡ standing_of xs n
unfolding standing_of
emptied_last xs n a =
    let x = slip_at xs n in
    put_back (standing_of xs n) x.segment x.quarter_hour (Some x.reading) (last_alone xs n a).0

-- an earlier slip's cell is emptied: it does not matter whether before the last slip or after it
emptied_earlier : (xs : List Slip) (n i : ℕ) → Arranged xs (suc n) → i < n →
    put_cell (standing_of xs (suc n)) (slip_at xs i) None ≡ put_cell (put_cell (standing_of xs n) (slip_at xs i) None) (slip_at xs n) (Some (slip_at xs n).reading)
unfolding standing_of
emptied_earlier xs n i a h =
    let alone = last_alone xs n a in
    let x = slip_at xs n in
    let y = slip_at xs i in
    put_either (standing_of xs n) x.segment x.quarter_hour y.segment y.quarter_hour (Some x.reading) None
    (apart (standing_of xs n) x.segment x.quarter_hour y.segment y.quarter_hour y.reading alone.0 (standing_found xs n i alone.1 h))

-- a slip in use makes way for another of a free cell, or of its own: its cell is emptied, and the other's filled
standing_replaced : (xs : List Slip) (n i : ℕ) (x : Slip) → Arranged xs n → i < n →
    cell_of (put_cell (standing_of xs n) (slip_at xs i) None) x ≡ None →
    standing_of (set xs i x) n ≡ put_cell (put_cell (standing_of xs n) (slip_at xs i) None) x (Some x.reading)
unfolding standing_of
standing_replaced xs zero i x a h free = absurd (omega arith)
standing_replaced xs (suc n) i x a h free =
    let l = slip_at xs n in
    ⊎_elim
    (λ (last : i ≡ n).
    let lt : n < length xs = omega (arith, a.0) in
    let rest = standing_kept xs i n x (omega arith) in
    let head = get_or-set_same xs n x blank lt in
    let emptied = emptied_last xs n a in
    cc)
    (λ (earlier : i ≡ n → ⊥).
    let ne : n ≢ i = omega arith in
    let below : i < n = omega arith in
    let emptied = emptied_earlier xs n i a below in
    let st = put_cell (standing_of xs n) (slip_at xs i) None in
    let clear = free_elsewhere st l.segment l.quarter_hour x.segment x.quarter_hour l.reading (rw emptied at free) in
    let rest = standing_replaced xs n i x (last_alone xs n a).1 below clear.1 in
    let head = get_or-set_other xs i n x blank ne in
    let order = put_either st l.segment l.quarter_hour x.segment x.quarter_hour (Some l.reading) (Some x.reading) clear.0 in
    cc)
    (cases_eq i n)

-- ---- a slip written at place i, and m slips in use after it

ranged_set : (xs : List Slip) (m i : ℕ) (x : Slip) → i < length xs → InRange x → ((j : ℕ) → j < m → j ≢ i → InRange (slip_at xs j)) → Ranged (set xs i x) m
ranged_set xs m i x w new old j k =
    ⊎_elim
    (λ (here : j ≡ i). subst InRange (sym (ap (slip_at (set xs i x)) here ∙ get_or-set_same xs i x blank w)) new)
    (λ (other : j ≡ i → ⊥). subst InRange (sym (get_or-set_other xs i j x blank other)) (old j k other))
    (cases_eq j i)

arranged_set : (xs : List Slip) (m i : ℕ) (x : Slip) (st : Standing) → m ≤ length xs → i < length xs → InRange x →
    ((j : ℕ) → j < m → j ≢ i → InRange (slip_at xs j)) → standing_of (set xs i x) m ≡ st → count st ≡ m → Arranged (set xs i x) m
arranged_set xs m i x st within w new old after counted =
    (rw length-set within, ranged_set xs m i x w new old, ap count after ∙ counted)

-- a slip is laid at the next place
pub added : (xs : List Slip) (n : ℕ) (x : Slip) → n < length xs → standing_of (set xs n x) (n + 1) ≡ put_cell (standing_of xs n) x (Some x.reading)
unfolding standing_of
added xs n x w =
    let rest = standing_kept xs n n x (omega arith) in
    let head = get_or-set_same xs n x blank w in
    rw add-one cc

-- it was of a free cell
pub arranged_added : (xs : List Slip) (n : ℕ) (x : Slip) → Arranged xs n → n < length xs → InRange x → cell_of (standing_of xs n) x ≡ None → Arranged (set xs n x) (n + 1)
arranged_added xs n x a w new free =
    let step = count_put (standing_of xs n) x.segment x.quarter_hour (Some x.reading) new.0 new.1 in
    let none = ap one free in
    arranged_set xs (n + 1) n x _ (omega arith) w new (λ j k ne. a.1 j (omega arith)) (added xs n x w) (omega arith)

-- a slip in use is given another reading
abbrev pub reread : Slip → ℕ → Slip
reread x r = record { segment = x.segment; quarter_hour = x.quarter_hour; reading = r }

pub corrected : (xs : List Slip) (n i r : ℕ) → Arranged xs n → i < n → standing_of (set xs i (reread (slip_at xs i) r)) n ≡ put_cell (standing_of xs n) (slip_at xs i) (Some r)
corrected xs n i r a h =
    let y = slip_at xs i in
    standing_replaced xs n i (reread y r) a h (put_here (standing_of xs n) y.segment y.quarter_hour None)
    ∙ put_again (standing_of xs n) y.segment y.quarter_hour None (Some r)

pub arranged_corrected : (xs : List Slip) (n i r : ℕ) → Arranged xs n → i < n → r ≤ 1000000 → Arranged (set xs i (reread (slip_at xs i) r)) n
arranged_corrected xs n i r a h limit =
    let y = slip_at xs i in
    let here = a.1 i h in
    let step = count_put (standing_of xs n) y.segment y.quarter_hour (Some r) here.0 here.1 in
    let held = ap one (standing_found xs n i a h) in
    arranged_set xs n i (reread y r) _ a.0 (omega arith) (here.0, here.1, limit) (λ j k ne. a.1 j k) (corrected xs n i r a h) (omega arith)

-- a slip in use is taken out: the last one takes its place
taken : (xs : List Slip) (m i : ℕ) → Arranged xs (suc m) → i < suc m → standing_of (set xs i (slip_at xs m)) m ≡ put_cell (standing_of xs (suc m)) (slip_at xs i) None
taken xs m i a h =
    let l = slip_at xs m in
    let y = slip_at xs i in
    ⊎_elim
    (λ (last : i ≡ m).
    let rest = standing_kept xs i m l (omega arith) in
    let emptied = emptied_last xs m a in
    cc)
    (λ (earlier : i ≡ m → ⊥).
    let below : i < m = omega arith in
    let alone = last_alone xs m a in
    let emptied = emptied_earlier xs m i a below in
    let rest = standing_replaced xs m i l alone.1 below (free_kept (standing_of xs m) y.segment y.quarter_hour l.segment l.quarter_hour alone.0) in
    cc)
    (cases_eq i m)

arranged_taken : (xs : List Slip) (m i : ℕ) → Arranged xs (suc m) → i < suc m → Arranged (set xs i (slip_at xs m)) m
arranged_taken xs m i a h =
    let y = slip_at xs i in
    let here = a.1 i h in
    let step = count_put (standing_of xs (suc m)) y.segment y.quarter_hour None here.0 here.1 in
    let held = ap one (standing_found xs (suc m) i a h) in
    arranged_set xs m i (slip_at xs m) _ (omega arith) (omega arith) (a.1 m (omega arith)) (λ j k ne. a.1 j (omega arith)) (taken xs m i a h) (omega arith)

-- the last of n slips lies at n - 1
pub removed : (xs : List Slip) (n i : ℕ) → Arranged xs n → i < n →
    (standing_of (set xs i (slip_at xs (n - 1))) (n - 1) ≡ put_cell (standing_of xs n) (slip_at xs i) None) × Arranged (set xs i (slip_at xs (n - 1))) (n - 1)
removed xs zero i a h = absurd (omega arith)
removed xs (suc m) i a h =
    let last : suc m - 1 ≡ m = omega arith in
    rw last (taken xs m i a h, arranged_taken xs m i a h)

-- ---- the first slip of a cell

abbrev pub is_of : ℕ → ℕ → Slip → Bool
is_of s q x = same_cell x.segment x.quarter_hour s q

-- a cell that none of the first slips is of is free
free_of : (xs : List Slip) (n s q : ℕ) → ((i : ℕ) → i < n → is_of s q (slip_at xs i) ≡ false) → standing_of xs n s q ≡ None
unfolding standing_of
free_of xs zero s q other = refl
free_of xs (suc n) s q other = put_elsewhere (standing_of xs n) _ _ _ s q (other n (omega arith)) ∙ free_of xs n s q (λ i h. other i (omega arith))

none_first : (p : Slip → Bool) (xs : List Slip) (i : ℕ) → None ≡ position p xs → i < length xs → i < position_or_len p xs
none_first p xs i e h = grind (arith, nat_tests)

same_numbers : (x : Slip) (s q : ℕ) → is_of s q x ≡ true → (x.segment ≡ s) × (x.quarter_hour ≡ q)
same_numbers x s q e = (grind (arith, nat_tests), grind (arith, nat_tests))

pub found : (xs : List Slip) (n s q : ℕ) (o : Option ℕ) → Arranged xs n → o ≡ position (is_of s q) (take n xs) → Found xs n s q o
found xs n s q None a e =
    free_of xs n s q (λ i h.
    let within : i < length (take n xs) = simp length-take (omega (arith, a.0)) in
    rw (← get_or-take n xs i blank h) (fails_before_first (is_of s q) (take n xs) i blank (none_first (is_of s q) (take n xs) i e within)))
found xs n s q (Some i) a e =
    let first = position-Some (is_of s q) (take n xs) i blank (sym e) in
    let below : i < n = omega (arith, a.0, length-take n xs, first.0) in
    let same = same_numbers (slip_at xs i) s q (rw (← get_or-take n xs i blank below) first.1) in
    let stands = standing_found xs n i a below in
    (below, same.0, same.1, cc)

-- a slip is found where a reading stands
pub found_stands : (xs : List Slip) (n s q : ℕ) (o : Option ℕ) → Found xs n s q o → is_some (standing_of xs n s q) ≡ is_some o
found_stands xs n s q None found = ap is_some found
found_stands xs n s q (Some i) found = ap is_some found.3
