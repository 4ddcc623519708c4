use Rattle.std.proofs.Common.{◌≡◌, ◌*◌, ◌^◌, ◌≤◌}
use Rattle.walkthrough.specs.Spans.{weight_before}
use Rattle.walkthrough.proofs.month.span.Shapes.before.Given as goal

abbrev pub invariant-loop-earlier : goal.invariant-loop-earlier
invariant-loop-earlier l = (l.weight ≡ weight_before l.self l.earlier) × (l.weight ≤ l.earlier * (96 * 2 ^ 32))
