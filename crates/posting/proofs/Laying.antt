-- What an accepted profiled reading tells of its day. Assumes nothing.
use Rattle.std.proofs.Common.{◌≡◌, ℕ, ◌+◌, Bool, true, false, cond, not, ◌&&◌, eqb, ltb, List, ◌++◌, length, take, Ok, Err, sum, refl, ap, ◌∙◌}
use Rattle.std.proofs.lemmas.List.FromFn.{length-map-range_with_len}
use Rattle.std.proofs.lemmas.List.{take_at}
use Rattle.std.proofs.lemmas.Bool.{and_parts, eqb-true}
use Rattle.refusal.specs.declared.Refusal.TheVariants.{ListLength, ProfileLimit, ProfileTotal, ProfiledQuarterHour}
use Rattle.roll.specs.declared.draft.DayLength.{DayLength}
use Rattle.roll.specs.Days.{quarters_of}
use Rattle.profile.specs.Answer.{up_to, as_long_as, in_range, spread_answer}
use Rattle.profile.specs.Quarters.{quarter_of, day_of}
use Rattle.posting.specs.Readings.{spread_into}

-- an answer by four tests that is no refusal has passed the first and the last
passed : {X Y : Type 0} (a b c d : Bool) (x : X) (e f g h : Y) → Ok x ≡ cond (not a) (Err e) (cond b (Err f) (cond c (Err g) (cond (not d) (Err h) (Ok x)))) → (a ≡ true) × (d ≡ true)
passed false b c d x e f g h k = (cc, cc)
passed true true c d x e f g h k = (cc, cc)
passed true false true d x e f g h k = (cc, cc)
passed true false false true x e f g h k = (refl, refl)
passed true false false false x e f g h k = (cc, cc)

-- a list whose front has the readings of the day, as the reading's rules have them
pub record Laid (K P B : ℕ) (day : DayLength) (ws list : List ℕ) : Type 0 where
  pub readable : up_to 1000000 (take (quarters_of day) list) ≡ true
  pub answer : Ok (take (quarters_of day) list) ≡ spread_into (spread_answer K P B day ws (quarters_of day)) (day_of K P B ws)

module _ (K P B : ℕ) (day : DayLength) (ws : List ℕ) (places : ℕ) (u : Unit {0}) (ok : Ok u ≡ spread_answer K P B day ws places) where
  both : (as_long_as day (length ws) places ≡ true) × (up_to 1000000 (day_of K P B ws) ≡ true)
  both =
      passed (as_long_as day (length ws) places) (not (in_range K P B && up_to 100000 ws)) (ltb P (B + sum ws)) (up_to 1000000 (day_of K P B ws)) tt
      ListLength ProfileLimit ProfileTotal ProfiledQuarterHour ok

  long : (length ws ≡ quarters_of day) × (places ≡ quarters_of day)
  long =
      let fit = and_parts (eqb (length ws) (quarters_of day)) (eqb places (quarters_of day)) both.0 in
      (eqb-true (length ws) (quarters_of day) fit.0, eqb-true places (quarters_of day) fit.1)

  pub day_length : length (day_of K P B ws) ≡ quarters_of day
  unfolding day_of
  day_length = length-map-range_with_len (quarter_of K P B ws) 0 (length ws) ∙ long.0

  pub laid : (front rest : List ℕ) → front ≡ day_of K P B ws → Laid K P B day ws (front ++ rest)
  laid front rest e =
      let cut : take (quarters_of day) (front ++ rest) ≡ day_of K P B ws = rw e (take_at (day_of K P B ws) rest (quarters_of day) day_length) in
      record {
        readable = ap (up_to 1000000) cut ∙ both.1;
        answer = ap Ok cut ∙ ap (λ a. spread_into a (day_of K P B ws)) (ok ∙ ap (spread_answer K P B day ws) long.1);
      }
