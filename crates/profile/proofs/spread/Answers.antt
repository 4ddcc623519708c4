use Rattle.std.proofs.Common.{◌≡◌, ◌≤◌, true, false, map, length, pos, nat_abs, ◌≤ℤ◌, sum, sym, ap, ◌∙◌, subst, arith, rules}
use Rattle.std.specs.List.{AllByRecursion}
use Rattle.profile.specs.Answer.{up_to}
use Rattle.profile.specs.Quarters.{day_of}
use Rattle.profile.proofs.Answer.{weighed, limits_kept, weight_limit, answered}
use Rattle.profile.proofs.Limits.{all_up_to}
use Rattle.profile.proofs.Quarters.{none_negative, plain_from, day_sum}
use Rattle.profile.proofs.Spans.{span_sum}
use Rattle.profile.proofs.spread.Goals as goal

pub overflow_add-reading : goal.overflow_add-reading
overflow_add-reading c =
    let r = c.args.reading.now in
    let ws = c.args.weights.now in
    let w = weighed (up_to 100000 ws) c.in-Some.weight (sum ws) c.in-Some.ensures in
    let short : length ws ≤ 100 = search rules in
    omega (arith, w.1, weight_limit ws short w.0, (limits_kept r.energy r.profile_total r.profile_before (sym c.if-not-in_range.ensures)).1)

pub postable-requires : goal.postable-requires
postable-requires c = subst (AllByRecursion (λ p. pos 0 ≤ℤ p)) (sym c.divide_over_day.ensures) (none_negative _)

pub returns-then-not-postable : goal.returns-then-not-postable
returns-then-not-postable c =
    let r = c.args.reading.now in
    record {
      answer =
          answered r.energy r.profile_total r.profile_before c.args.day c.args.weights.now (length c.args.readings.now) c.in-Some.weight c.divide_over_day.new.parts false
          (search rules) (search rules) (sym c.if-not-in_range.ensures) c.in-Some.ensures (omega arith) c.divide_over_day.ensures c.if-not-postable.ensures;
      after = search rules;
      day_total = search rules;
      span = search rules;
      postable = search rules;
    }

pub copy_parts-requires : goal.copy_parts-requires
copy_parts-requires c =
    record {
      lengths = search rules;
      low = subst (AllByRecursion (λ p. pos 0 ≤ℤ p)) (sym c.divide_over_day.ensures) (none_negative _);
      high = sym c.if-not-postable.ensures;
    }

pub returns : goal.returns
returns c =
    let r = c.args.reading.now in
    let ws = c.args.weights.now in
    let day = day_of r.energy r.profile_total r.profile_before ws in
    let plain : map nat_abs c.divide_over_day.new.parts ≡ day = plain_from _ day c.divide_over_day.ensures in
    let under : up_to 1000000 day ≡ true = ap (up_to 1000000) (sym plain) ∙ sym c.if-not-postable.ensures in
    let filled : c.copy_parts.new.readings ≡ day = c.copy_parts.ensures ∙ plain in
    let some = (limits_kept r.energy r.profile_total r.profile_before (sym c.if-not-in_range.ensures)).0 in
    record {
      answer =
          answered r.energy r.profile_total r.profile_before c.args.day ws (length c.args.readings.now) c.in-Some.weight c.divide_over_day.new.parts true
          (search rules) (search rules) (sym c.if-not-in_range.ensures) c.in-Some.ensures (omega arith) c.divide_over_day.ensures c.if-not-postable.ensures;
      after = filled;
      day_total = λ _. ap sum filled ∙ day_sum r.energy r.profile_total r.profile_before ws;
      span = λ _ earlier later before whole.
          omega (arith, ap sum filled, span_sum r.energy r.profile_total r.profile_before ws some earlier later before whole);
      postable = λ _. subst (AllByRecursion (λ q. q ≤ 1000000)) (sym filled) (all_up_to 1000000 day under);
    }
