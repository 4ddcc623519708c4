use Rattle.std.proofs.Common.{◌≡◌, ℕ, ◌+◌, ◌*◌, ◌≤◌, Bool, true, false, cond, [], ◌∷◌, ◌++◌, length, get_or, ℤ, pos, ◌+ℤ◌, nat_abs, sym, refl, ap, ◌∙◌, subst, zero-le, add-mul, arith, length-append, rules, w64, to_z, of_z}
use borrow.Author.Differences.{ints, abs_is}
use Rattle.std.proofs.lemmas.Slice.Zip.{zip_turn}
use Rattle.book.specs.Tables.{cell}
use Rattle.book.proofs.Tables.{filled_cell, filled_length}
use Rattle.balance.specs.declared.row.LoadedRow.{LoadedRow}
use Rattle.balance.specs.Balance.{belongs}
use Rattle.balance.specs.Totals.{total}
use Rattle.balance.proofs.Totals.{total_more}
use Rattle.balance.proofs.row.sums.pair_up.Goals as goal

-- one amount more, or none
grown : (b : Bool) (old amount : ℤ) (s : ℕ) → nat_abs old ≤ s * 420000000 → nat_abs amount ≤ 420000000 → nat_abs (old +ℤ cond b amount (pos 0)) ≤ (s + 1) * 420000000
grown true old amount s h k = omega (arith, ints, abs_is old, abs_is amount, abs_is (old +ℤ amount), add-mul s 1 420000000)
grown false old amount s h k = omega (arith, ints, abs_is old, abs_is (old +ℤ pos 0), add-mul s 1 420000000)

pub loop-row-init : goal.loop-row-init
unfolding total
loop-row-init c = (
  (refl, λ k h. filled_length (pos 0) 16 8 k h),
  λ d qse point. filled_cell (pos 0) 16 8 qse point,
  λ qse point. subst (λ (z : ℤ). nat_abs z ≤ 0) (sym (filled_cell (pos 0) 16 8 qse point)) zero-le,
)

pub loop-row-preserved : goal.loop-row-preserved
loop-row-preserved c =
    let rows = c.args.rows.now in
    let amounts = c.args.amounts.now in
    let s : ℕ = length c.loop-row.yielded in
    let row = c.in-Some.row.now in
    let amount = c.in-Some.amount.now in
    let turn = zip_turn rows amounts c.loop-row.yielded c.into_iter-row-iterator.result c.loop-row.row-iterator c.next.new.self c.next.result (search rules) (search rules) c.loop-row.yielded_by (c.in-Some.row, c.in-Some.amount) c.in-Some.is c.next.ensures.steps in
    let more : length (c.loop-row.yielded ++ (c.in-Some.row, c.in-Some.amount) ∷ []) ≡ s + 1 = length-append c.loop-row.yielded ((c.in-Some.row, c.in-Some.amount) ∷ []) in
    let at : amount ≡ get_or amounts s (pos 0) = turn.3 (pos 0) in
    let added = c.add_to_pair.ensures.value in
    let small : nat_abs amount ≤ 420000000 = rw at (c.requires s) in
    let read : to_z w64 (of_z w64 amount) ≡ amount = omega (arith, ints, small, abs_is amount) in
    rw more (
      c.add_to_pair.ensures.shape,
      λ d qse point.
          let f : ℕ → ℤ = λ k. cond (belongs (get_or rows k d).row qse point) (get_or amounts k (pos 0)) (pos 0) in
          let term : cond (belongs row.row qse point) (to_z w64 (of_z w64 amount)) (pos 0) ≡ f s =
          ap (λ (z : ℤ). cond (belongs row.row qse point) z (pos 0)) (read ∙ at)
          ∙ ap (λ (l : LoadedRow). cond (belongs l.row qse point) (get_or amounts s (pos 0)) (pos 0)) (turn.2 d) in
          added qse point ∙ ap (λ (z : ℤ). cell (pos 0) c.loop-row.pairs qse point +ℤ z) term
          ∙ ap (λ (z : ℤ). z +ℤ f s) (c.loop-row.invariant.1 d qse point) ∙ sym (total_more f s),
      λ qse point.
          let b = belongs row.row qse point in
          let old = cell (pos 0) c.loop-row.pairs qse point in
          subst (λ (z : ℤ). nat_abs z ≤ (s + 1) * 420000000) (sym (added qse point ∙ ap (λ (z : ℤ). old +ℤ cond b z (pos 0)) read)) (grown b old amount s (c.loop-row.invariant.2 qse point) small),
    )
