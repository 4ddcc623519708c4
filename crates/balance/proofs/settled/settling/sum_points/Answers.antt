use Rattle.std.proofs.Common.{◌*◌, ◌≤◌, get_or, ℤ, pos, nat_abs, refl, subst, zero-le, add-mul, arith}
use borrow.Author.Differences.{ints, abs_is}
use Rattle.balance.specs.Totals.{total}
use Rattle.balance.proofs.Totals.{total_more}
use Rattle.balance.proofs.settled.settling.sum_points.Goals as goal

pub loop-point-init : goal.loop-point-init
unfolding total
loop-point-init c = (refl, zero-le)

pub loop-point-preserved : goal.loop-point-preserved
loop-point-preserved c =
    let p = c.loop-point.point-index in
    let points = c.args.points.now in
    let more = total_more (λ k. get_or points k (pos 0)) p in
    let small = c.requires p in
    let before : nat_abs c.loop-point.sum ≤ p * 672000000 = subst (λ (z : ℤ). nat_abs z ≤ p * 672000000) c.loop-point.sum-is c.loop-point.invariant.1 in (
      omega (arith, ints, more, c.loop-point.invariant.0, small, before, abs_is (get_or points p (pos 0))),
      omega (arith, ints, before, small, add-mul p 1 672000000, abs_is (get_or points p (pos 0))),
    )
