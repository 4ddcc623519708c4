-- A book without a place left holds as many readings as it has places; a correction goes into the cell that was asked for.
use Rattle.std.proofs.Common.{arith}
use Rattle.std.proofs.lemmas.Bool.Decides.{nat_tests}
use Rattle.slips.specs.Bounds.{housed_in}
use Rattle.slips.proofs.Arranging.{found_stands}
use Rattle.slips.proofs.list.calls.SlipBookLoadBook.post.Goals as goal

pub returns-then-lacks_place_for-clause-answer : goal.returns-then-lacks_place_for-clause-answer
returns-then-lacks_place_for-clause-answer c =
    let b = c.args.self.now in
    let housed = housed_in b in
    let counted = b.arranged.2 in
    let stands = found_stands b.slips.now b.used c.args.segment c.args.quarter_hour c.find-found.result c.find-found.ensures in
    let shut = c.if-lacks_place_for.ensures in
    grind (arith, nat_tests)
