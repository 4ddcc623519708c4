-- What the word has in common with all but the power of two lacks bit k.
use Rattle.std.proofs.Common.{w64, arith}
use Rattle.std.proofs.lemmas.Nat.Bits.{bit_at_clear_same}
use Rattle.grid.proofs.Words.{by_bits, bit_kept}
use Rattle.grid.proofs.marks.marking.cleared.Goals as goal

pub returns-clause-bits : goal.returns-clause-bits
returns-clause-bits c = by_bits _ c.args.word c.args.k 0 (bit_at_clear_same w64 _ _ c.requires) (λ j other. bit_kept c.args.word c.args.k j (omega arith) c.requires other)
