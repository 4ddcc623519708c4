use Rattle.std.proofs.Common.{◌≡◌, ◌*◌, ◌≤◌, get_or, pos, nat_abs}
use Rattle.balance.specs.Totals.{total}
use Rattle.balance.proofs.settled.settling.sum_points.Given as goal

abbrev pub invariant-loop-point : goal.invariant-loop-point
invariant-loop-point l = (l.sum ≡ total (λ k. get_or l.points k (pos 0)) l.point-index) × (nat_abs l.sum ≤ l.point-index * 672000000)
