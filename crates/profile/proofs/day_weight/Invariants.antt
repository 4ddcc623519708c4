use Rattle.std.proofs.Common.{◌≡◌, ◌*◌, ◌≤◌, take, drop, sum}
use Rattle.profile.specs.Answer.{up_to}
use Rattle.profile.proofs.day_weight.Given as goal

-- the sum so far, that it fits, and that only what is left can still be above the limit
abbrev pub invariant-loop-w : goal.invariant-loop-w
invariant-loop-w l =
    (l.total ≡ sum (take l.w-index l.weights))
    × (l.total ≤ 100000 * l.w-index)
    × (up_to 100000 (drop l.w-index l.weights) ≡ up_to 100000 l.weights)
