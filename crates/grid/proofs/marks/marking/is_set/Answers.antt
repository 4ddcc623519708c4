-- The word and the power of two have a bit in common where bit k is set.
use Rattle.std.proofs.Common.{arith}
use Rattle.std.proofs.lemmas.Bool.Decides.{nat_tests}
use Rattle.std.proofs.lemmas.Nat.{one_shl, pow_pos}
use Rattle.std.proofs.lemmas.Nat.Bits.{bit_at-lt, and_pow}
use Rattle.grid.proofs.marks.marking.is_set.Goals as goal

pub returns : goal.returns
returns c = rw (one_shl c.args.k 64 c.requires) (grind (arith, nat_tests, and_pow c.args.word c.args.k, bit_at-lt c.args.word c.args.k, pow_pos c.args.k))
