-- A word of 64 bits has at most 64 set.
use Rattle.std.proofs.Common.{arith}
use Rattle.grid.proofs.Words.{bits_counted, marks_counted}
use Rattle.grid.proofs.Cells.{bit_count_most}
use Rattle.grid.proofs.marks.Marks.count.Goals as goal

pub returns-clause-bits : goal.returns-clause-bits
returns-clause-bits c = bits_counted c.args.self (omega arith) (omega arith)

pub returns-clause-bound : goal.returns-clause-bound
returns-clause-bound c = let counted = bits_counted c.args.self (omega arith) (omega arith) in omega (arith, bit_count_most c.args.self)

pub returns-clause-value : goal.returns-clause-value
returns-clause-value c fits = marks_counted c.args.self (omega arith) fits
