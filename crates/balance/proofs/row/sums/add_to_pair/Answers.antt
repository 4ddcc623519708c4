use Rattle.std.proofs.Common.{◌≡◌, ◌<◌, Bool, cond, [], length, get_or, pos, ◌+ℤ◌, sym, ap, ◌∙◌, arith, length-set, w64, to_z, of_z}
use borrow.Author.Differences.{ints, abs_is}
use Rattle.book.specs.Tables.{cell}
use Rattle.book.proofs.Tables.{put_row_length}
use Rattle.balance.proofs.Sheets.{added_cell}
use Rattle.balance.proofs.row.sums.add_to_pair.Goals as goal

pub returns-in-Some : goal.returns-in-Some
returns-in-Some c =
    let pairs = c.args.pairs.now in
    let qse = c.in-Some.qse in
    let point = c.in-Some.point in
    let amount = c.args.amount in
    let at = c.in-Some.ensures in
    let old = cell (pos 0) pairs qse point in
    let hq : qse < length pairs = omega (arith, at.0, c.requires.shape.0) in
    let hp : point < length (get_or pairs qse []) = omega (arith, at.1, c.requires.shape.1 qse at.0) in
    let sum : to_z w64 (of_z w64 (to_z w64 (of_z w64 old) +ℤ to_z w64 (of_z w64 amount))) ≡ old +ℤ amount =
    omega (arith, ints, c.requires.small qse point, c.requires.amount, abs_is old, abs_is amount) in
    rw sum record {
      shape = (length-set pairs qse _ ∙ c.requires.shape.0, λ k h. put_row_length (pos 0) pairs qse point (old +ℤ amount) hq hp k ∙ c.requires.shape.1 k h);
      value = λ q p.
          added_cell pairs qse point amount hq hp q p
          ∙ ap (λ (b : Bool). cell (pos 0) pairs q p +ℤ cond b amount (pos 0)) (sym (at.2 q p));
    }
