use Rattle.std.proofs.Common.{◌≡◌, sum, ap, ◌∙◌, add-one, arith}
use Rattle.walkthrough.specs.Spans.{weights_on, weight_before}
use Rattle.walkthrough.proofs.month.span.Shapes.before.Goals as goal

pub loop-earlier-init : goal.loop-earlier-init
unfolding weight_before
loop-earlier-init c = (omega arith, omega arith)

pub loop-earlier-preserved : goal.loop-earlier-preserved
unfolding weight_before
loop-earlier-preserved c =
    let day : c.total-weight.result ≡ sum (weights_on c.args.self.now c.loop-earlier.earlier) = c.total-weight.ensures.sum ∙ ap sum c.weights.ensures in
    (rw add-one (omega arith), omega (arith, c.total-weight.ensures.limit))
