use Rattle.std.proofs.Common.{◌≡◌, ℕ, ◌<◌, length, get_or, None}
use Rattle.roll.specs.Entries.{rows_of}
use Rattle.losses.specs.Layers.{roll_code}
use Rattle.losses.proofs.distribution.entries.codes_of.Given as goal

-- the codes below the segment are those of the roll
abbrev pub invariant-loop-segment : goal.invariant-loop-segment
invariant-loop-segment l = record {
  many : length l.codes ≡ 64;
  below : (k : ℕ) → k < l.segment → get_or l.codes k None ≡ roll_code (get_or (rows_of l.roll) k None);
}
