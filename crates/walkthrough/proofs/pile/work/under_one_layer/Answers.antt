use Rattle.std.proofs.Common.{ap, ◌∙◌}
use Rattle.walkthrough.proofs.Piles.{transmission_same}
use Rattle.walkthrough.proofs.pile.work.under_one_layer.Goals as goal

pub returns : goal.returns
returns g c =
    let gr = g.B.LoadBook.grossing in
    let st = g.B.LoadBook.standing in
    let made = c.over-layer.ensures in
    let taken = c.in_ok-set_factor.ensures in
    let below = c.set_factor.ensures.below ∙ made.below in
    let up = transmission_same _ _ _ _ _ _ _ 48 c.args.factor c.args.segment 48 made.grossing taken.factors (ap gr made.below) (ap gr below) (ap st below) in
    rw (← taken.answer) (c.load.ensures ∙ up)
