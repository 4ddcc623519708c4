use Rattle.std.proofs.Common.{◌≡◌, ℕ, ◌<◌, ◌≤◌, get_or}
use Rattle.walkthrough.proofs.figures.largest.Given as goal

-- the first of the largest so far: no number up to here is larger, and each one before it is smaller
abbrev pub invariant-loop-place : goal.invariant-loop-place
invariant-loop-place l =
    (l.peak.place < 96) × (l.peak.value ≡ get_or l.list l.peak.place 0)
    × ((k : ℕ) → k < l.place → get_or l.list k 0 ≤ l.peak.value)
    × ((k : ℕ) → k < l.peak.place → get_or l.list k 0 < l.peak.value)
