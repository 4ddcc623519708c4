use Rattle.std.proofs.Common.{◌≡◌, ℕ, ◌≤◌, ℤ, pos, nat_abs, ◌∙◌, arith, length-set, w32, w64, to_z, of_z}
use borrow.Author.Differences.{ints, abs_is}
use Rattle.std.proofs.lemmas.List.Edits.{fill_by_more}
use Rattle.book.specs.Tables.{cell}
use Rattle.balance.specs.Totals.{total}
use Rattle.balance.proofs.settled.settling.add_points.Goals as goal

pub overflow_cast-sums : goal.overflow_cast-sums
overflow_cast-sums c =
    let sum = total (λ p. cell (pos 0) c.args.pairs.now c.loop-q.q p) 8 in
    let h : c.sum_points.result ≡ sum = c.sum_points.ensures in
    let b : nat_abs sum ≤ 672000000 = c.requires.sums c.loop-q.q c.loop-q-test.true in
    omega (arith, ints, h, b, abs_is sum)

pub loop-q-preserved : goal.loop-q-preserved
loop-q-preserved c =
    let q = c.loop-q.q in
    let f : ℕ → ℤ = λ k. total (λ p. cell (pos 0) c.args.pairs.now k p) 8 in
    let h : c.sum_points.result ≡ f q = c.sum_points.ensures in
    let b : nat_abs (f q) ≤ 672000000 = c.requires.sums q c.loop-q-test.true in
    let value : to_z w32 (of_z w32 (to_z w64 (of_z w64 c.sum_points.result))) ≡ f q = omega (arith, ints, h, b, abs_is (f q)) in (
      length-set c.loop-q.sums q _ ∙ c.loop-q.invariant.0,
      rw value (fill_by_more f c.loop-q.sums q (pos 0) (omega arith) c.loop-q.invariant.1),
    )
