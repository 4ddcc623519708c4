use Rattle.std.proofs.Common.{◌≡◌, ◌*◌, ◌/◌, ◌^◌, ◌<◌, ◌≤◌, Ok}
use Rattle.walkthrough.specs.Spans.{weight_before, days_total}
use Rattle.walkthrough.proofs.month.span.spread_month.Given as goal

-- the days so far have what lies before the next one, and a day was spread only where there is a weight
abbrev pub invariant-loop-day : goal.invariant-loop-day
invariant-loop-day l =
    (Ok l.sum ≡ days_total l.shapes l.energy l.day)
    × (l.sum ≡ l.energy * weight_before l.shapes l.day / weight_before l.shapes 30)
    × (0 < l.day → 0 < weight_before l.shapes 30)
    × (l.sum ≤ l.day * (96 * 2 ^ 32))
