-- A union with the power of two sets bit k.
use Rattle.std.proofs.Common.{w64}
use Rattle.std.proofs.lemmas.Nat.{one_shl, or_lt, pow_below}
use Rattle.std.proofs.lemmas.Nat.Bits.{bit_at_set_same, bit_at_set_other}
use Rattle.grid.proofs.Words.{by_bits}
use Rattle.grid.proofs.marks.marking.set.Goals as goal

pub returns-clause-bits : goal.returns-clause-bits
returns-clause-bits c = by_bits _ c.args.word c.args.k 1 (bit_at_set_same w64 _ _ c.requires) (bit_at_set_other w64 _ _ c.requires)

pub returns-clause-width : goal.returns-clause-width
returns-clause-width c w inside fits = rw (one_shl c.args.k 64 c.requires) (or_lt w c.args.word _ fits (pow_below c.args.k w inside))
