use Rattle.std.proofs.Common.{◌≡◌, ℕ, ◌<◌, get_or, pos, nat_abs}
use Rattle.profile.proofs.copy_parts.Given as goal

-- the readings below i are the parts
abbrev pub invariant-loop-i : goal.invariant-loop-i
invariant-loop-i l = (k : ℕ) → k < l.i → get_or l.readings k 0 ≡ nat_abs (get_or l.parts k (pos 0))
