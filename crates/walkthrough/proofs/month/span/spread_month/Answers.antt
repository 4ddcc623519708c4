use Rattle.std.proofs.Common.{arith}
use Rattle.std.proofs.lemmas.Result.{err_from_is_err_and}
use Rattle.walkthrough.proofs.Spans.{none_used, none_yet, used_more, total_more, total_refused}
use Rattle.walkthrough.proofs.month.span.spread_month.Goals as goal

pub loop-day-init : goal.loop-day-init
loop-day-init c = (none_yet _ _, none_used c.args.shapes.now c.args.energy, λ h. omega arith, omega arith)

pub returns-in_err-readings-clause-days : goal.returns-in_err-readings-clause-days
returns-in_err-readings-clause-days c =
    let p = err_from_is_err_and c.from_residual.result c.from_residual.ensures.1 in
    let refused = total_refused c.args.shapes.now c.args.energy c.loop-day.day c.loop-day.sum _ c.loop-day.invariant.0 c.in_err-readings.ensures (omega arith) in
    rw (p.1, p.2) refused

pub loop-day-preserved : goal.loop-day-preserved
loop-day-preserved c =
    let s = c.args.shapes.now in
    let K = c.args.energy in
    let d = c.loop-day.day in
    let readings = c.in_ok-readings.readings in
    let more = total_more s K d c.loop-day.sum readings c.loop-day.invariant.0 c.in_ok-readings.ensures in
    let used = used_more s K d readings c.in_ok-readings.ensures in
    (rw c.total-sum.ensures.sum more, omega arith, λ h. used.1, omega (arith, c.total-sum.ensures.limit))
