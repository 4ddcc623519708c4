use Rattle.std.proofs.Common.{◌<◌, ◌≤◌, map, length, get_or, pos, nat_abs, sym, ◌∙◌, arith}
use lib.ListN.{length-map}
use borrow.Author.Differences.{ints}
use Rattle.std.proofs.ByRecursion.{All-get_or}
use Rattle.std.proofs.lemmas.List.{ext_get_or, get_or-map}
use Rattle.profile.proofs.Limits.{all_up_to, plain_within, plain_part}
use Rattle.profile.proofs.copy_parts.Goals as goal

pub overflow_cast-readings : goal.overflow_cast-readings
overflow_cast-readings c =
    let ps = c.args.parts.now in
    let i = c.loop-i.i in
    let within : i < length ps = omega arith in
    let plain = plain_part ps i within c.requires.low in
    let small : get_or (map nat_abs ps) i 0 ≤ 1000000 = All-get_or (λ x. x ≤ 1000000) (map nat_abs ps) i 0 (plain_within ps i within c.requires.low) (all_up_to 1000000 (map nat_abs ps) c.requires.high) in
    omega (arith, ints, plain)

pub returns : goal.returns
returns c =
    let ps = c.args.parts.now in
    ext_get_or 0 c.loop-i.readings (map nat_abs ps) (simp length-map (omega arith))
    (λ k h.
    let within : k < length ps = omega arith in
    c.loop-i.invariant k (omega arith) ∙ sym (get_or-map nat_abs ps k (pos 0) 0 within))
