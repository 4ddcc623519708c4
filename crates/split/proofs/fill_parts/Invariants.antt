use Rattle.std.proofs.Common.{◌≡◌, ℕ, ◌<◌, map, get_or, pos, ◌*ℤ◌}
use Rattle.split.specs.Floor.{rest}
use Rattle.split.specs.Parts.{running, part_at}
use Rattle.split.proofs.fill_parts.Given as goal

-- what was carried so far, and the parts below i
abbrev pub invariant-loop-i : goal.invariant-loop-i
invariant-loop-i g l =
    let ws = map g.T.Weighted.weight l.items in
    (l.carried ≡ rest (l.amount *ℤ running l.before ws l.i) l.whole)
    × ((k : ℕ) → k < l.i → get_or l.parts k (pos 0) ≡ part_at l.amount l.whole l.before ws k)
