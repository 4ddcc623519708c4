use Rattle.std.proofs.Common.{◌++◌, length, take, drop, replicate}
use Rattle.posting.proofs.Laying.{Laid, laid}
use Rattle.posting.proofs.readings.DayReadings.lay_out.Goals as goal
use Rattle.posting.proofs.readings.DayReadings.lay_out.Goals.{In_ok-spread}

-- the array once its front was lent and is back
laid_here : (c : In_ok-spread) → Laid c.args.reading.now.energy c.args.reading.now.profile_total c.args.reading.now.profile_before c.args.day c.args.weights.now (c.spread.new.readings ++ drop c.from-quarter_hours.result (replicate 100 0))
laid_here c =
    let n = c.from-quarter_hours.result in
    laid _ _ _ _ _ (length (take n (replicate 100 0))) tt c.in_ok-spread.ensures.answer c.spread.new.readings (drop n (replicate 100 0)) c.in_ok-spread.ensures.after

pub invariant_of-result : goal.invariant_of-result
invariant_of-result c = record { readable = (laid_here c).readable }
