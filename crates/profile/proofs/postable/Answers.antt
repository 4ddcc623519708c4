use Rattle.std.proofs.Common.{◌<◌, map, length, nat_abs, sym, ◌∙◌, arith}
use borrow.Author.Differences.{ints}
use Rattle.profile.proofs.Limits.{up_to_over, up_to_more, plain_within, plain_part}
use Rattle.profile.proofs.postable.Goals as goal

pub returns-then-part-gt-QUARTER_HOUR_LIMIT : goal.returns-then-part-gt-QUARTER_HOUR_LIMIT
returns-then-part-gt-QUARTER_HOUR_LIMIT c =
    let ps = c.args.parts.now in
    let i = c.loop-part.part-index in
    let within : i < length ps = omega arith in
    let plain = plain_part ps i within c.requires in
    sym (sym c.loop-part.invariant ∙ up_to_over 1000000 (map nat_abs ps) i (plain_within ps i within c.requires) (omega (arith, ints, plain)))

pub loop-part-preserved : goal.loop-part-preserved
loop-part-preserved c =
    let ps = c.args.parts.now in
    let i = c.loop-part.part-index in
    let within : i < length ps = omega arith in
    let plain = plain_part ps i within c.requires in
    sym (up_to_more 1000000 (map nat_abs ps) i (plain_within ps i within c.requires) (omega (arith, ints, plain))) ∙ c.loop-part.invariant
