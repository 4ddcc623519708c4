use Rattle.std.proofs.Common.{◌≡◌, ◌≤◌, [], ◌∷◌, length, ℤ, nat_abs, ap, arith, w64, SFits, rules}
use Rattle.roll.specs.Entries.{rows_of}
use Rattle.statement.specs.Statement.{text_of}
use Rattle.statement.specs.Text.{line}
use Rattle.statement.specs.Writing.{loads_of}
use Rattle.statement.proofs.Appending.{appends_then, appends_same, left}
use Rattle.statement.proofs.Bounds.{pairs_most}
use Rattle.statement.proofs.Passing.{passed, two_passed}
use Rattle.statement.proofs.Pieces.{line_two, numeral_most}
use Rattle.statement.proofs.account.Account.put.Goals as goal

-- the first line as its numbers are handed over, and its most bytes
head : {a b : ℤ} (g u : ℤ) → nat_abs g ≤ 160000000 → nat_abs u ≤ 416000000 → a ≡ g → b ≡ u → SFits w64 a → SFits w64 b → (line 71 (passed a ∷ passed b ∷ []) ≡ line 71 (g ∷ u ∷ [])) × (length (line 71 (g ∷ u ∷ [])) ≤ 24)
head {a} {b} g u hg hu ea eb fa fb = (
  ap (line 71) (two_passed a b g u fa fb ea eb),
  omega (arith, line_two 71 g u, numeral_most 9 g (omega arith) (omega arith), numeral_most 9 u (omega arith) (omega arith)),
)

pub put_line-requires : goal.put_line-requires
put_line-requires c =
    let b = c.args.self.now.balance in
    let first = head b.generation b.ufe b.within c.args.self.now.ufe c.generation.ensures c.ufe.ensures (search rules) (search rules) in
    omega (arith, c.requires, ap length first.0, first.1)

pub put_pairs-requires : goal.put_pairs-requires
put_pairs-requires c =
    let b = c.args.self.now.balance in
    let roll = c.args.self.now.roll.now in
    let first = head b.generation b.ufe b.within c.args.self.now.ufe c.generation.ensures c.ufe.ensures (search rules) (search rules) in
    omega (arith, left 24 1568 c.requires first.1 (appends_same first.0 c.put_line.ensures), pairs_most (rows_of roll) roll.rows_in_range (loads_of b) c.args.self.now.loads)

pub put_sharing-requires : goal.put_sharing-requires
put_sharing-requires c =
    let b = c.args.self.now.balance in
    let roll = c.args.self.now.roll.now in
    let first = head b.generation b.ufe b.within c.args.self.now.ufe c.generation.ensures c.ufe.ensures (search rules) (search rules) in
    left 1152 416 (left 24 1568 c.requires first.1 (appends_same first.0 c.put_line.ensures)) (pairs_most (rows_of roll) roll.rows_in_range (loads_of b) c.args.self.now.loads) c.put_pairs.ensures

pub returns : goal.returns
unfolding text_of
returns c =
    let b = c.args.self.now.balance in
    let first = head b.generation b.ufe b.within c.args.self.now.ufe c.generation.ensures c.ufe.ensures (search rules) (search rules) in
    let begun = appends_same first.0 c.put_line.ensures in
    appends_then (omega (arith, c.requires)) begun (appends_then (omega (arith, left 24 1568 c.requires first.1 begun)) c.put_pairs.ensures c.put_sharing.ensures)
