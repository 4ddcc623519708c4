-- The tests of a profiled reading, one after the other. Assumes nothing.
use Rattle.std.proofs.Common.{◌≡◌, ℕ, ◌+◌, ◌<◌, ◌≤◌, Bool, true, false, cond, not, ◌&&◌, ltb, leb, List, map, length, ℤ, pos, nat_abs, Some, None, Ok, Err, sum, sym, refl, ap, ◌∙◌, mul_comm, arith}
use Rattle.std.proofs.ByRecursion.{sum_by_le}
use Rattle.std.proofs.lemmas.Bool.{and_from, and_parts, cond-false, eq-eqb, le-ltb, leb-true, not_from_true}
use Rattle.refusal.specs.declared.Refusal.TheVariants.{ProfiledQuarterHour}
use Rattle.roll.specs.declared.draft.DayLength.{DayLength}
use Rattle.roll.specs.Days.{quarters_of}
use Rattle.profile.specs.Answer.{up_to, as_long_as, in_range, spread_answer}
use Rattle.profile.specs.Quarters.{day_of}
use Rattle.profile.proofs.Limits.{all_up_to}
use Rattle.profile.proofs.Quarters.{plain_from}

-- a sum of the day's weights is there where none is above its limit
pub weighed : (b : Bool) (w s : ℕ) → Some w ≡ cond b (Some s) None → (b ≡ true) × (w ≡ s)
weighed true w s e = (refl, cc)
weighed false w s e = (cc, cc)

-- of the limits of K, P and B, the two that sums and quotients lean on
pub limits_kept : (K P B : ℕ) → in_range K P B ≡ true → (0 < P) × (B ≤ 4000000000)
limits_kept K P B e =
    let k = and_parts (leb K 1000000000) (leb 1 P && (leb P 4000000000 && leb B 4000000000)) e in
    let p = and_parts (leb 1 P) (leb P 4000000000 && leb B 4000000000) k.1 in
    let b = and_parts (leb P 4000000000) (leb B 4000000000) p.1 in
    (leb-true 1 P p.0, leb-true B 4000000000 b.1)

pub weight_limit : (ws : List ℕ) → length ws ≤ 100 → up_to 100000 ws ≡ true → sum ws ≤ 10000000
weight_limit ws short e = omega (arith, sum_by_le (λ x. x) 100000 ws (all_up_to 100000 ws e), mul_comm (length ws) 100000)

turned : {A : Type 0} (b : Bool) (x y : A) → cond (not b) x y ≡ cond b y x
turned true x y = refl
turned false x y = refl

-- where all tests of what came in are passed, the quarter hours decide
pub answered : (K P B : ℕ) (day : DayLength) (ws : List ℕ) (places w : ℕ) (parts : List ℤ) (b : Bool) →
    length ws ≡ quarters_of day → places ≡ quarters_of day → in_range K P B ≡ true → Some w ≡ cond (up_to 100000 ws) (Some (sum ws)) None → B + w ≤ P →
    parts ≡ map pos (day_of K P B ws) → b ≡ up_to 1000000 (map nat_abs parts) → cond b (Ok tt) (Err ProfiledQuarterHour) ≡ spread_answer K P B day ws places
answered K P B day ws places w parts b weights-fit places-fit numbers weight total quarters found =
    let in_order = weighed (up_to 100000 ws) w (sum ws) weight in
    let lists = and_from _ _ (eq-eqb (length ws) (quarters_of day) weights-fit) (eq-eqb places (quarters_of day) places-fit) in
    let limits = and_from _ _ numbers in_order.0 in
    let reaches : B + sum ws ≤ P = omega (arith, in_order.1) in
    let test : up_to 1000000 (day_of K P B ws) ≡ b = ap (up_to 1000000) (sym (plain_from parts (day_of K P B ws) quarters)) ∙ sym found in
    sym
    (cond-false (not (as_long_as day (length ws) places)) _ _ (not_from_true _ lists)
    ∙ cond-false (not (in_range K P B && up_to 100000 ws)) _ _ (not_from_true _ limits)
    ∙ cond-false (ltb P (B + sum ws)) _ _ (le-ltb P (B + sum ws) reaches)
    ∙ turned (up_to 1000000 (day_of K P B ws)) _ _
    ∙ ap (λ t. cond t (Ok (tt {0})) (Err ProfiledQuarterHour)) test)
