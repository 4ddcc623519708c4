-- Laws of sums over the numbers below a limit. Assumes nothing.
use Rattle.std.proofs.Common.{◌≡◌, ℕ, zero, suc, ◌+◌, ◌-◌, ◌*◌, ◌<◌, ◌≤◌, Bool, true, false, ◌||◌, cond, eqb, List, [], ◌∷◌, map, length, get_or, take, ℤ, pos, ◌+ℤ◌, ◌≤ℤ◌, is_some, Some, None, sum_by, Option, sym, refl, ap, ◌∙◌, subst, ⊎_elim, suc-mul, suc-add, zero-add, zero-mul, add-one, take_all, arith}
use borrow.Author.Differences.{ints}
use Rattle.std.specs.List.{range_with_len, list_any}
use Rattle.std.proofs.lemmas.List.Folds.{list_any_more}
use Rattle.std.proofs.lemmas.List.FromFn.{map-range_with_len_more}
use Rattle.std.proofs.lemmas.List.Sums.{sum_by_more}
use Rattle.std.proofs.lemmas.Bool.{cases_eq, eq-eqb, ne_eqb, cond-true, cond-false}
use Rattle.split.specs.Parts.{sum_of}
use Rattle.split.proofs.Parts.{sum_of_append}
use Rattle.balance.specs.Totals.{total, count, or_else, first_of}

-- ---- one more
pub total_more : (f : ℕ → ℤ) (n : ℕ) → total f (n + 1) ≡ total f n +ℤ f n
unfolding total
total_more f n = ap (total f) (add-one n)

pub count_more : (f : ℕ → ℕ) (n : ℕ) → count f (n + 1) ≡ count f n + f n
unfolding count
count_more f n = ap (count f) (add-one n)

-- ---- sums of sums
pub total_same : (f g : ℕ → ℤ) (n : ℕ) → ((j : ℕ) → j < n → f j ≡ g j) → total f n ≡ total g n
unfolding total
total_same f g zero e = refl
total_same f g (suc n) e =
    let i = total_same f g n (λ j h. e j (omega arith)) in
    let l = e n (omega arith) in
    omega (arith, ints, i, l)

pub total_add : (f g : ℕ → ℤ) (n : ℕ) → total (λ j. f j +ℤ g j) n ≡ total f n +ℤ total g n
unfolding total
total_add f g zero = refl
total_add f g (suc n) = let i = total_add f g n in omega (arith, ints, i)

pub total_none : (n : ℕ) → total (λ _. pos 0) n ≡ pos 0
unfolding total
total_none zero = refl
total_none (suc n) = let i = total_none n in omega (arith, ints, i)

pub total_zero : (f : ℕ → ℤ) (n : ℕ) → ((j : ℕ) → j < n → f j ≡ pos 0) → total f n ≡ pos 0
total_zero f n e = total_same f (λ _. pos 0) n e ∙ total_none n

-- a table is summed by rows or by columns
pub total_swap : (f : ℕ → ℕ → ℤ) (n m : ℕ) → total (λ i. total (λ j. f i j) m) n ≡ total (λ j. total (λ i. f i j) n) m
unfolding total
total_swap f zero m = sym (total_none m)
total_swap f (suc n) m =
    ap (λ (z : ℤ). z +ℤ total (λ j. f n j) m) (total_swap f n m) ∙ sym (total_add (λ j. total (λ i. f i j) n) (λ j. f n j) m)

-- what stands at one number only
none_picked : (k : ℕ) (v : ℤ) (n : ℕ) → n ≤ k → total (λ j. cond (eqb j k) v (pos 0)) n ≡ pos 0
none_picked k v n h = total_zero (λ j. cond (eqb j k) v (pos 0)) n (λ j l. cond-false (eqb j k) v (pos 0) (ne_eqb j k (λ e. omega arith)))

pub total_pick : (k : ℕ) (v : ℤ) (n : ℕ) → k < n → total (λ j. cond (eqb j k) v (pos 0)) n ≡ v
unfolding total
total_pick k v zero h = absurd (omega arith)
total_pick k v (suc n) h =
    ⊎_elim
    (λ (e : k ≡ n).
    let none = none_picked k v n (omega arith) in
    let here = cond-true (eqb n k) v (pos 0) (eq-eqb n k (sym e)) in
    omega (arith, ints, none, here))
    (λ (ne : k ≡ n → ⊥).
    let i = total_pick k v n (omega arith) in
    let gone = cond-false (eqb n k) v (pos 0) (ne_eqb n k (λ e. ne (sym e))) in
    omega (arith, ints, i, gone))
    (cases_eq k n)

-- ---- natural numbers
pub total_pos : (f : ℕ → ℕ) (n : ℕ) → total (λ j. pos (f j)) n ≡ pos (count f n)
unfolding total count
total_pos f zero = refl
total_pos f (suc n) = ap (λ (z : ℤ). z +ℤ pos (f n)) (total_pos f n)

pub count_most : (f : ℕ → ℕ) (m n : ℕ) → ((j : ℕ) → j < n → f j ≤ m) → count f n ≤ n * m
unfolding count
count_most f m zero h = omega (arith, zero-mul m)
count_most f m (suc n) h = omega (arith, suc-mul n m, count_most f m n (λ j l. h j (omega arith)), h n (omega arith))

-- ---- lists
pub sum_of_counting : (f : ℕ → ℤ) (n : ℕ) → sum_of (map f (range_with_len 0 n)) ≡ total f n
unfolding total
sum_of_counting f zero = refl
sum_of_counting f (suc n) =
    let more : sum_of (map f (range_with_len 0 (n + 1))) ≡ sum_of (map f (range_with_len 0 n)) +ℤ (f n +ℤ pos 0) =
    ap sum_of (map-range_with_len_more f 0 n n (omega arith)) ∙ sum_of_append (map f (range_with_len 0 n)) (f n ∷ []) in
    let i = sum_of_counting f n in
    let step : sum_of (map f (range_with_len 0 (n + 1))) ≡ total f n +ℤ f n = omega (arith, ints, more, i) in
    subst (λ (m : ℕ). sum_of (map f (range_with_len 0 m)) ≡ total f n +ℤ f n) (add-one n) step

-- a sum over the first k of a list whose elements are known by their places
pub count_places : {X : Type 0} (g : X → ℕ) (f : ℕ → ℕ) (xs : List X) (d : X) (k : ℕ) → k ≤ length xs → ((s : ℕ) → s < k → g (get_or xs s d) ≡ f s) → sum_by g (take k xs) ≡ count f k
unfolding count
count_places g f xs d zero h e = refl
count_places g f xs d (suc k) h e =
    let more = sum_by_more g xs k d (omega arith) in
    let i = count_places g f xs d k (omega arith) (λ s l. e s (omega arith)) in
    let l = e k (omega arith) in
    let step : sum_by g (take (k + 1) xs) ≡ count f k + f k = omega (arith, more, i, l) in
    subst (λ (m : ℕ). sum_by g (take m xs) ≡ count f k + f k) (add-one k) step

-- ---- bounds
-- of terms that are not negative, some add up to no more than all
pub total_some_up : (c : ℕ → Bool) (f : ℕ → ℤ) (n : ℕ) → ((j : ℕ) → j < n → pos 0 ≤ℤ f j) → (pos 0 ≤ℤ total (λ j. cond (c j) (f j) (pos 0)) n) × (total (λ j. cond (c j) (f j) (pos 0)) n ≤ℤ total f n)
unfolding total
total_some_up c f zero h = (omega (arith, ints), omega (arith, ints))
total_some_up c f (suc n) h =
    let i = total_some_up c f n (λ j l. h j (omega arith)) in
    some_up (c n) (f n) (total (λ j. cond (c j) (f j) (pos 0)) n) (total f n) (h n (omega arith)) i
  where
    some_up : (b : Bool) (x s t : ℤ) → pos 0 ≤ℤ x → (pos 0 ≤ℤ s) × (s ≤ℤ t) → (pos 0 ≤ℤ (s +ℤ cond b x (pos 0))) × ((s +ℤ cond b x (pos 0)) ≤ℤ (t +ℤ x))
    some_up true x s t h i = (omega (arith, ints), omega (arith, ints))
    some_up false x s t h i = (omega (arith, ints), omega (arith, ints))

pub total_some_down : (c : ℕ → Bool) (f : ℕ → ℤ) (n : ℕ) → ((j : ℕ) → j < n → f j ≤ℤ pos 0) → (total (λ j. cond (c j) (f j) (pos 0)) n ≤ℤ pos 0) × (total f n ≤ℤ total (λ j. cond (c j) (f j) (pos 0)) n)
unfolding total
total_some_down c f zero h = (omega (arith, ints), omega (arith, ints))
total_some_down c f (suc n) h =
    let i = total_some_down c f n (λ j l. h j (omega arith)) in
    some_down (c n) (f n) (total (λ j. cond (c j) (f j) (pos 0)) n) (total f n) (h n (omega arith)) i
  where
    some_down : (b : Bool) (x s t : ℤ) → x ≤ℤ pos 0 → (s ≤ℤ pos 0) × (t ≤ℤ s) → ((s +ℤ cond b x (pos 0)) ≤ℤ pos 0) × ((t +ℤ x) ≤ℤ (s +ℤ cond b x (pos 0)))
    some_down true x s t h i = (omega (arith, ints), omega (arith, ints))
    some_down false x s t h i = (omega (arith, ints), omega (arith, ints))

-- ---- the first that there is
pub first_more : {X : Type 0} (f : ℕ → Option X) (n : ℕ) → first_of f (n + 1) ≡ or_else (first_of f n) (f n)
unfolding first_of
first_more f n = ap (first_of f) (add-one n)

first_stays : {X : Type 0} (f : ℕ → Option X) (x : X) (k n : ℕ) → first_of f k ≡ Some x → first_of f (n + k) ≡ Some x
unfolding first_of
first_stays {X} f x k zero e = ap (first_of f) (zero-add k) ∙ e
first_stays {X} f x k (suc n) e =
    ap (first_of f) (suc-add n k) ∙ ap (λ (o : Option X). or_else o (f (n + k))) (first_stays f x k n e)

pub first_passed : {X : Type 0} (f : ℕ → Option X) (i : ℕ) → first_of f i ≡ None → f i ≡ None → first_of f (i + 1) ≡ None
first_passed {X} f i e h = first_more f i ∙ ap (λ (o : Option X). or_else o (f i)) e ∙ h

pub first_found : {X : Type 0} (f : ℕ → Option X) (x : X) (i n : ℕ) → i < n → first_of f i ≡ None → f i ≡ Some x → first_of f n ≡ Some x
first_found {X} f x i n l e h =
    let here : first_of f (i + 1) ≡ Some x = first_more f i ∙ ap (λ (o : Option X). or_else o (f i)) e ∙ h in
    subst (λ (m : ℕ). first_of f m ≡ Some x) (omega arith) (first_stays f x (i + 1) (n - (i + 1)) here)

-- whether there is one in a list is whether there is one by its places
either : {X : Type 0} (a b : Option X) → (is_some a || is_some b) ≡ is_some (or_else a b)
either None b = refl
either (Some x) b = refl

some_below : {X : Type 0} (xs : List (Option X)) (n : ℕ) → n ≤ length xs → list_any is_some (take n xs) ≡ is_some (first_of (λ k. get_or xs k None) n)
unfolding first_of
some_below xs zero h = refl
some_below xs (suc n) h =
    let more = list_any_more is_some xs n None (omega arith) in
    let one = ap (λ (b : Bool). b || is_some (get_or xs n None)) (some_below xs n (omega arith)) in
    let step : list_any is_some (take (n + 1) xs) ≡ is_some (first_of (λ k. get_or xs k None) (suc n)) = more ∙ one ∙ either (first_of (λ k. get_or xs k None) n) (get_or xs n None) in
    subst (λ (m : ℕ). list_any is_some (take m xs) ≡ is_some (first_of (λ k. get_or xs k None) (suc n))) (add-one n) step

pub somebody_among : {X : Type 0} (xs : List (Option X)) (n : ℕ) → length xs ≡ n → list_any is_some xs ≡ is_some (first_of (λ k. get_or xs k None) n)
somebody_among xs n e = ap (list_any is_some) (sym (take_all n xs (omega arith))) ∙ some_below xs n (omega arith)

pub first_none : {X : Type 0} (f : ℕ → Option X) → first_of f 0 ≡ None
unfolding first_of
first_none f = refl

-- ---- one refusal after another

-- where none is made at last, neither the first speaks nor the others
pub none_first : {X : Type 0} (a b : Option X) → or_else a b ≡ None → a ≡ None
none_first None b h = refl
none_first (Some e) b h = cc

pub none_later : {X : Type 0} (a b : Option X) → or_else a b ≡ None → b ≡ None
none_later None b h = h
none_later (Some e) b h = cc
