use Rattle.std.proofs.Common.{◌≡◌, ℕ, get_or, ℤ, pos, ◌+ℤ◌, ap, ◌∙◌, arith, length-set, w64, to_z, of_z}
use borrow.Author.Differences.{ints, abs_is}
use Rattle.std.proofs.lemmas.List.Edits.{fill_by_more}
use Rattle.std.proofs.lemmas.List.{get_or_default}
use Rattle.balance.specs.declared.row.LoadedRow.{LoadedRow}
use Rattle.balance.specs.Sheets.{row_load}
use Rattle.balance.proofs.row.sums.add_parts.Goals as goal

pub loop-s-preserved : goal.loop-s-preserved
loop-s-preserved c =
    let rows = c.args.rows.now in
    let parts = c.args.parts.now in
    let adjusted = c.loop-s.adjusted in
    let s = c.loop-s.s in
    let row = get_or rows s c.index-rows-s.result in (
      length-set adjusted s _ ∙ c.loop-s.invariant.0,
      λ k d h.
          let f : ℕ → ℤ = λ j. pos (row_load (get_or rows j d)) +ℤ get_or parts j (pos 0) in
          let same : row ≡ get_or rows s d = get_or_default rows s c.index-rows-s.result d (omega arith) in
          let load = c.from.ensures ∙ ap (λ (l : LoadedRow). pos (row_load l)) same in
          let small = (get_or rows s d).small in
          let part = c.requires s in
          let value : to_z w64 (of_z w64 (to_z w64 (of_z w64 c.from.result) +ℤ to_z w64 (of_z w64 (get_or parts s (pos 0))))) ≡ f s = omega (arith, ints, load, small, part, abs_is (get_or parts s (pos 0))) in
          rw value (fill_by_more f adjusted s (pos 0) (omega arith) (λ j l. c.loop-s.invariant.1 j d l) k h),
    )
