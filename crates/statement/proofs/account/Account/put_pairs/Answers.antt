use Rattle.std.proofs.Common.{ap, arith}
use Rattle.roll.specs.Entries.{rows_of}
use Rattle.statement.specs.Statement.{pair_line, point_lines, pair_lines}
use Rattle.statement.specs.Text.{lines}
use Rattle.statement.specs.Writing.{Fits, loads_of}
use Rattle.statement.proofs.Appending.{appends_none, appends_same, appends_line, fits_line}
use Rattle.statement.proofs.account.Account.put_pairs.Goals as goal

pub loop-qse-init : goal.loop-qse-init
unfolding lines
loop-qse-init c = appends_none c.args.page.now

pub loop-point-init : goal.loop-point-init
unfolding lines
loop-point-init c = appends_none c.loop-qse.page

pub put_pair-requires-clause-room : goal.put_pair-requires-clause-room
unfolding pair_lines point_lines
put_pair-requires-clause-room c =
    let rows = rows_of c.args.self.now.roll.now in
    let loads = loads_of c.args.self.now.balance in
    let qse = c.loop-qse.qse in
    let points = fits_line (point_lines rows loads) qse 16 c.loop-qse-test.true c.requires c.loop-qse.invariant in
    fits_line (pair_line rows loads qse) c.loop-point.point 8 c.loop-point-test.true points c.loop-point.invariant

pub loop-point-preserved : goal.loop-point-preserved
unfolding pair_lines
loop-point-preserved c =
    let rows = rows_of c.args.self.now.roll.now in
    let loads = loads_of c.args.self.now.balance in
    let qse = c.loop-qse.qse in
    let points : Fits c.loop-qse.page (point_lines rows loads qse) = fits_line (point_lines rows loads) qse 16 c.loop-qse-test.true c.requires c.loop-qse.invariant in
    appends_line (pair_line rows loads qse) c.loop-point.point (omega (arith, points)) c.loop-point.invariant c.put_pair.ensures

pub loop-qse-preserved : goal.loop-qse-preserved
unfolding point_lines
loop-qse-preserved c =
    let rows = rows_of c.args.self.now.roll.now in
    let loads = loads_of c.args.self.now.balance in
    let qse = c.loop-qse.qse in
    appends_line (point_lines rows loads) qse (omega (arith, c.requires)) c.loop-qse.invariant
    (appends_same (ap (lines (pair_line rows loads qse)) (omega arith)) c.loop-point.invariant)

pub returns : goal.returns
unfolding pair_lines
returns c =
    appends_same (ap (lines (point_lines (rows_of c.args.self.now.roll.now) (loads_of c.args.self.now.balance))) (omega arith)) c.loop-qse.invariant
