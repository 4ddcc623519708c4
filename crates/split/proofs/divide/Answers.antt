use Rattle.std.proofs.Common.{◌≡◌, pos, ap, ◌∙◌, w64, nat_abs, to_z, of_z, rules}
use Rattle.std.proofs.lemmas.Int.{to_z-of_z}
use Rattle.split.specs.Floor.{floor, rest}
use Rattle.split.proofs.Floor.{floor_rest, rest_below}
use Rattle.split.proofs.Quotients.{euclid_floor, euclid_rest}
use Rattle.split.proofs.divide.Goals as goal

pub returns : goal.returns
returns c =
    let a = to_z-of_z w64 c.args.a (search rules) in
    let by = to_z-of_z w64 c.from-whole.result (search rules) ∙ c.from-whole.ensures in
    let quotient : to_z w64 (of_z w64 c.div_euclid.result) ≡ floor c.args.a c.args.by =
    to_z-of_z w64 c.div_euclid.result (search rules) ∙ c.div_euclid.ensures ∙ rw (a, by) (euclid_floor c.args.a c.args.by) in
    let left_z : to_z w64 (of_z w64 c.rem_euclid.result) ≡ pos (rest c.args.a c.args.by) =
    to_z-of_z w64 c.rem_euclid.result (search rules) ∙ c.rem_euclid.ensures.value ∙ rw (a, by) (euclid_rest c.args.a c.args.by) in
    let left : nat_abs (to_z w64 (of_z w64 c.rem_euclid.result)) ≡ rest c.args.a c.args.by =
    ap nat_abs left_z in
    record {
      quotient = quotient;
      remainder = left;
      exact = rw (quotient, left) (floor_rest c.args.a c.args.by c.requires);
      below = rw left (rest_below c.args.a c.args.by c.requires);
    }
