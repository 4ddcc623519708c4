-- The days of a month, one after the other. Assumes nothing.
use Rattle.std.proofs.Common.{◌≡◌, ℕ, zero, suc, ◌+◌, ◌-◌, ◌*◌, ◌/◌, ◌<◌, Bool, true, false, cond, not, List, Ok, Err, sum, Result, sym, refl, ap, ◌∙◌, suc-add, mul-zero, zero-add, mul-div_cancel, add-one, arith}
use native.Mathlib.Nat.{zero-div}
use Rattle.std.proofs.lemmas.Bool.{and_parts}
use Rattle.refusal.specs.declared.Refusal.{Refusal}
use Rattle.refusal.specs.declared.Refusal.TheVariants.{ProfileLimit}
use Rattle.roll.specs.declared.draft.DayLength.TheVariants.{Normal}
use Rattle.profile.specs.declared.ProfiledReading.{ProfiledReading}
use Rattle.profile.specs.Answer.{up_to, in_range, spread_answer}
use Rattle.profile.specs.Quarters.{day_of}
use Rattle.profile.proofs.Answer.{limits_kept}
use Rattle.profile.proofs.Quarters.{day_sum, used_mono}
use Rattle.walkthrough.specs.declared.month.span.Shapes.{Shapes}
use Rattle.walkthrough.specs.Spans.{weights_on, weight_before, filled, spread_entry, spread_on, days_total}

-- what is taken has passed the test
passed : (b : Bool) (e : Refusal) (r : Result (Unit {0}) Refusal) → cond (not b) (Err e) r ≡ Ok tt → (b ≡ true) × (r ≡ Ok tt)
passed true e r h = (refl, h)
passed false e r h = (cc, cc)

entered : (b : Bool) (e : ProfiledReading) (ws readings : List ℕ) → Ok readings ≡ spread_entry (cond b (Ok e) (Err ProfileLimit)) ws → Ok readings ≡ spread_entry (Ok e) ws
entered true e ws readings h = h
entered false e ws readings h = cc

filled_is : (r : Result (Unit {0}) Refusal) (day readings : List ℕ) → Ok readings ≡ filled r day → (readings ≡ day) × (r ≡ Ok tt)
filled_is (Ok tt) day readings h = (cc, refl)
filled_is (Err e) day readings h = (cc, cc)

module _ (s : Shapes) (K : ℕ) where
  abbrev total : ℕ
  total = weight_before s 30

  -- a day that is spread has the readings of the profile, and there is a weight to spread by
  spread_is : (d : ℕ) (readings : List ℕ) → Ok readings ≡ spread_on s K d → (readings ≡ day_of K total (weight_before s d) (weights_on s d)) × (0 < total)
  spread_is d readings h =
      let ws = weights_on s d in
      let day = filled_is (spread_answer K total (weight_before s d) Normal ws 96) (day_of K total (weight_before s d) ws) readings (entered _ _ ws readings h) in
      let lists = passed _ _ _ day.1 in
      let numbers = passed _ _ _ lists.1 in
      let range = and_parts (in_range K total (weight_before s d)) (up_to 100000 ws) numbers.0 in
      (day.0, (limits_kept K total (weight_before s d) range.0).0)

  weight_more : (d : ℕ) → weight_before s (d + 1) ≡ weight_before s d + sum (weights_on s d)
  unfolding weight_before
  weight_more d = rw add-one

  pub none_used : 0 ≡ K * weight_before s 0 / total
  unfolding weight_before
  none_used = sym (ap (λ (n : ℕ). n / total) (mul-zero K) ∙ zero-div total)

  -- a day gets what lies between its two ends
  pub used_more : (d : ℕ) (readings : List ℕ) → Ok readings ≡ spread_on s K d → (K * weight_before s d / total + sum readings ≡ K * weight_before s (d + 1) / total) × (0 < total)
  used_more d readings h =
      let day = spread_is d readings h in
      let ends : K * weight_before s (d + 1) / total ≡ K * (weight_before s d + sum (weights_on s d)) / total = ap (λ (n : ℕ). K * n / total) (weight_more d) in (
        omega (arith, ends, ap sum day.0, day_sum K total (weight_before s d) (weights_on s d), used_mono K total (weight_before s d) (weight_before s d + sum (weights_on s d)) (omega arith)),
        day.1,
      )

  pub all_used : 0 < total → K * total / total ≡ K
  all_used some = mul-div_cancel K some

  pub none_yet : Ok 0 ≡ days_total s K 0
  unfolding days_total
  none_yet = refl

  pub total_more : (d t : ℕ) (readings : List ℕ) → Ok t ≡ days_total s K d → Ok readings ≡ spread_on s K d → Ok (t + sum readings) ≡ days_total s K (d + 1)
  unfolding days_total
  total_more d t readings before day = rw (add-one, ← before, ← day)

  -- the first refusal stays
  stays : (n d : ℕ) (e : Refusal) → Err e ≡ days_total s K d → Err e ≡ days_total s K (n + d)
  unfolding days_total
  stays zero d e h = rw zero-add h
  stays (suc n) d e h = rw (suc-add, ← stays n d e h)

  pub total_refused : (d t : ℕ) (e : Refusal) → Ok t ≡ days_total s K d → Err e ≡ spread_on s K d → d < 30 → Err e ≡ days_total s K 30
  unfolding days_total
  total_refused d t e before day h =
      let here : Err e ≡ days_total s K (suc d) = rw (← before, ← day) in
      let end : 29 - d + suc d ≡ 30 = omega arith in
      stays (29 - d) (suc d) e here ∙ ap (days_total s K) end
