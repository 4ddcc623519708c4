use Rattle.std.proofs.Common.{◌≡◌, map, drop, nat_abs}
use Rattle.profile.specs.Answer.{up_to}
use Rattle.profile.proofs.postable.Given as goal

-- only what is left can still be above the limit
abbrev pub invariant-loop-part : goal.invariant-loop-part
invariant-loop-part l = up_to 1000000 (drop l.part-index (map nat_abs l.parts)) ≡ up_to 1000000 (map nat_abs l.parts)
