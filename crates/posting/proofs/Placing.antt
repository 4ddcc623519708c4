-- One quarter hour more of a row. Assumes nothing.
use Rattle.std.proofs.Common.{◌≡◌, ℕ, zero, suc, ◌+◌, ◌<◌, ◌≤◌, Bool, true, false, cond, not, ◌&&◌, eqb, ltb, List, get_or, sum_by, count_by, is_some, is_ok, Some, None, Ok, Err, Option, sym, refl, ap, ◌∙◌, subst, ⊎_elim, add-one, arith}
use mathlib.Core.Path.{fun_ext}
use Rattle.std.specs.List.{range_with_len}
use Rattle.std.proofs.lemmas.List.Sums.{sum-map}
use Rattle.std.proofs.lemmas.List.FromFn.{sum_by-map-range_with_len_more}
use Rattle.std.proofs.lemmas.Bool.{cases_eq, cond-false, ne_eqb, le-ltb}
use Rattle.std.proofs.lemmas.Bool.Decides.{nat_tests}
use Rattle.refusal.specs.declared.Refusal.TheVariants.{SegmentNumber, QuarterHour, Reading, NoPlace}
use Rattle.book.specs.Answers.{full, post_answer}
use Rattle.book.specs.Cells.{Standing, put, count}
use Rattle.book.proofs.Counts.{count_put, one}
use Rattle.posting.specs.Rows.{put_first, lacking}

pub lacking_more : (st : Standing) (s n : ℕ) → lacking st s (n + 1) ≡ lacking st s n + cond (is_some (st s n)) 0 1
unfolding lacking
lacking_more st s n = ap (lacking st s) (add-one n)

lacking_none : (st : Standing) (s : ℕ) → lacking st s 0 ≡ 0
unfolding lacking
lacking_none st s = refl

-- they are those of the first n that have no reading, counted
sum_more : (f : ℕ → ℕ) (n : ℕ) → sum_by f (range_with_len 0 (n + 1)) ≡ sum_by f (range_with_len 0 n) + f n
sum_more f n =
    sym (sum-map f (range_with_len 0 (n + 1))) ∙ sum_by-map-range_with_len_more (λ x. x) f 0 n n (omega arith) ∙ ap (λ x. x + f n) (sum-map f (range_with_len 0 n))

one_less : (b : Bool) → ◌≡◌ {A = ℕ} (cond (not b) 1 0) (cond b 0 1)
one_less true = refl
one_less false = refl

pub lacking_counted : (st : Standing) (s n : ℕ) → count_by (λ q. not (is_some (st s q))) (range_with_len 0 n) ≡ lacking st s n
unfolding lacking
lacking_counted st s zero = refl
lacking_counted st s (suc n) =
    let before = lacking_counted st s n in
    let last = one_less (is_some (st s n)) in
    let here : count_by (λ q. not (is_some (st s q))) (range_with_len 0 (n + 1)) ≡ lacking st s (n + 1) =
    omega (arith, before, last, sum_more (λ q. cond (not (is_some (st s q))) 1 0) n, lacking_more st s n) in
    subst (λ (k : ℕ). count_by (λ q. not (is_some (st s q))) (range_with_len 0 k) ≡ lacking st s k) (add-one n) here

lacking_grows : (st : Standing) (s n m : ℕ) → n ≤ m → lacking st s n ≤ lacking st s m
lacking_grows st s n zero h = let e : n ≡ 0 = omega arith in rw e (omega arith)
lacking_grows st s n (suc m) h =
    ⊎_elim
    (λ (e : n ≡ suc m). rw e (omega arith))
    (λ (ne : n ≡ suc m → ⊥).
    let before = lacking_grows st s n m (omega arith) in
    let more = lacking_more st s m in
    let last : lacking st s (m + 1) ≡ lacking st s (suc m) = ap (lacking st s) (add-one m) in
    omega (arith, before, more, last))
    (cases_eq n (suc m))

pub put_first_none : (st : Standing) (s : ℕ) (rs : List ℕ) → put_first st s rs 0 ≡ st
unfolding put_first
put_first_none st s rs = fun_ext (λ t. fun_ext (λ p. cond-false (eqb t s && ltb p 0) (Some (get_or rs p 0)) (st t p) (grind (arith, nat_tests))))

-- the quarter hour that comes next has what it had
pub put_first_next : (st : Standing) (s : ℕ) (rs : List ℕ) (n : ℕ) → put_first st s rs n s n ≡ st s n
unfolding put_first
put_first_next st s rs n = cond-false (eqb s s && ltb n n) (Some (get_or rs n 0)) (st s n) (grind (arith, nat_tests))

pub put_first_more : (st : Standing) (s : ℕ) (rs : List ℕ) (n : ℕ) → put (put_first st s rs n) s n (Some (get_or rs n 0)) ≡ put_first st s rs (n + 1)
unfolding put_first put
put_first_more st s rs n = fun_ext (λ t. fun_ext (λ p. at t p))
  where
    at : (t p : ℕ) → cond (eqb t s && eqb p n) (Some (get_or rs n 0)) (cond (eqb t s && ltb p n) (Some (get_or rs p 0)) (st t p)) ≡ cond (eqb t s && ltb p (n + 1)) (Some (get_or rs p 0)) (st t p)
    at t p = ⊎_elim
        (λ (e : p ≡ n). rw e (grind (arith, nat_tests)))
        (λ (ne : p ≡ n → ⊥). grind (arith, nat_tests))
        (cases_eq p n)

-- each quarter hour that lacked a reading counts one more
pub count_first : (st : Standing) (s : ℕ) (rs : List ℕ) (n : ℕ) → s < 64 → n ≤ 100 → count (put_first st s rs n) ≡ count st + lacking st s n
count_first st s rs zero hs hn = ap count (put_first_none st s rs) ∙ omega (arith, lacking_none st s)
count_first st s rs (suc n) hs hn =
    let before = count_first st s rs n hs (omega arith) in
    let put_one = count_put (put_first st s rs n) s n (Some (get_or rs n 0)) hs (omega arith) in
    let same : count (put (put_first st s rs n) s n (Some (get_or rs n 0))) ≡ count (put_first st s rs (suc n)) = ap count (put_first_more st s rs n ∙ ap (put_first st s rs) (add-one n)) in
    let old : one (put_first st s rs n s n) ≡ one (st s n) = ap one (put_first_next st s rs n) in
    let more : lacking st s (suc n) ≡ lacking st s n + cond (is_some (st s n)) 0 1 = sym (ap (lacking st s) (add-one n)) ∙ lacking_more st s n in
    let whole = either (is_some (st s n)) in
    omega (arith, before, put_one, same, old, more, whole)
  where
    either : (b : Bool) → cond b 1 0 + cond b 0 1 ≡ 1
    either true = refl
    either false = refl

-- where there are places for all that lack a reading, the next one is taken
module _ (st : Standing) (places s N : ℕ) (rs : List ℕ) (hs : s ≤ 63) (room : count st + lacking st s N ≤ places) where
  not_full : (n : ℕ) → n < N → n ≤ 99 → full (put_first st s rs n) places s n ≡ false
  not_full n h hn =
      ap (λ (o : Option ℕ). not (is_some o) && eqb (count (put_first st s rs n)) places) (put_first_next st s rs n)
      ∙ by_content (st s n) refl
    where
      by_content : (o : Option ℕ) → st s n ≡ o → (not (is_some o) && eqb (count (put_first st s rs n)) places) ≡ false
      by_content (Some r) e = refl
      by_content None e =
          let here = count_first st s rs n (omega arith) (omega arith) in
          let more : lacking st s (n + 1) ≡ lacking st s n + 1 = lacking_more st s n ∙ ap (λ (o : Option ℕ). lacking st s n + cond (is_some o) 0 1) e in
          let later = lacking_grows st s (n + 1) N (omega arith) in
          ne_eqb (count (put_first st s rs n)) places (λ z. omega (arith, here, more, later, room))

  pub next_taken : (n r : ℕ) → n < N → n ≤ 99 → r ≤ 1000000 → is_ok (post_answer (put_first st s rs n) places s n r) ≡ true
  next_taken n r h hn hr =
      ap is_ok
      (cond-false (ltb 63 s) (Err SegmentNumber) _ (le-ltb 63 s hs)
      ∙ cond-false (ltb 99 n) (Err QuarterHour) _ (le-ltb 99 n hn)
      ∙ cond-false (ltb 1000000 r) (Err Reading) _ (le-ltb 1000000 r hr)
      ∙ cond-false (full (put_first st s rs n) places s n) (Err NoPlace) (Ok (put_first st s rs n s n)) (not_full n h hn))
