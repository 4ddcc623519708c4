use Rattle.std.proofs.Common.{refl, ◌∙◌, arith, length-set}
use Rattle.std.proofs.lemmas.Result.{err_from_is_err_and}
use Rattle.roll.specs.Entries.{rows_of}
use Rattle.balance.specs.Quarter.{segment_fault}
use Rattle.balance.specs.Gathering.{gross_at}
use Rattle.balance.proofs.Totals.{first_passed, first_found, first_none}
use Rattle.balance.proofs.Gathering.{loaded_more}
use Rattle.balance.proofs.questions.QuarterHour.gather.Goals as goal

pub loop-segment-init : goal.loop-segment-init
loop-segment-init g c = (refl, λ s d h. absurd (omega arith), first_none _)

pub loop-segment-preserved : goal.loop-segment-preserved
loop-segment-preserved g c =
    let rows = rows_of c.args.self.now.roll.now in
    let gross = gross_at (g.B.LoadBook.grossing c.args.self.now.book.now) (g.B.LoadBook.standing c.args.self.now.book.now) c.args.self.now.quarter_hour in
    let got = c.in_ok-rows.ensures in
    let inv = c.loop-segment.invariant in (
      length-set c.loop-segment.rows c.loop-segment.segment _ ∙ inv.0,
      loaded_more c.loop-segment.rows rows gross c.loop-segment.segment c.in_ok-rows.field-0 (omega arith) inv.1 got.0 got.1,
      first_passed (segment_fault rows gross) c.loop-segment.segment inv.2 got.2,
    )

pub returns-in_err-rows : goal.returns-in_err-rows
returns-in_err-rows g c =
    let rows = rows_of c.args.self.now.roll.now in
    let gross = gross_at (g.B.LoadBook.grossing c.args.self.now.book.now) (g.B.LoadBook.standing c.args.self.now.book.now) c.args.self.now.quarter_hour in
    let p = err_from_is_err_and c.from_residual.result c.from_residual.ensures.1 in
    rw (p.1, p.2) (first_found (segment_fault rows gross) _ c.loop-segment.segment 64 (omega arith) c.loop-segment.invariant.2 c.in_err-rows.ensures)
