use Rattle.std.proofs.Common.{ℕ, cond, ltb, Err, Ok, refl, ap, ◌∙◌}
use Rattle.refusal.specs.declared.Refusal.TheVariants.{SegmentNumber, NoPlace}
use Rattle.posting.specs.Readings.{readings_of as readings_in}
use Rattle.posting.specs.Rows.{crowded, having}
use Rattle.day.specs.Entries.{spread_in, segment_off_roll}
use Rattle.day.specs.Holding.{day_setting, day_slate}
use Rattle.day.specs.Slate.{Setting, Slate}
use Rattle.day.proofs.Profiling.{decided, unspoken, day_long}
use Rattle.day.proofs.states.entries.Day+B+Open+G.post_profiled.Goals as goal

pub returns-clause-answer : goal.returns-clause-answer
returns-clause-answer g c =
    let setting : Setting = day_setting g.B.LoadBook c.args.self.now in
    let slate : Slate = day_slate g.B.LoadBook c.args.self.now in
    let s : ℕ = c.args.segment in
    let reading = c.args.reading.now in
    let weights = c.args.weights.now in
    let got = readings_in c.in_ok-readings.readings in
    c.post_to.ensures.answer
    ∙ ap (λ (n : ℕ). cond (ltb 63 s) (Err SegmentNumber) (cond (crowded slate.reading setting.places s n) (Err NoPlace) (Ok (having slate.reading s n)))) (day_long setting refl reading weights got c.in_ok-readings.ensures)
    ∙ decided (ltb 63 s) (crowded slate.reading setting.places s setting.day) (spread_in setting reading weights) (segment_off_roll setting s) (having slate.reading s setting.day) SegmentNumber NoPlace tt
    c.in_ok-segment_number.ensures (unspoken setting refl reading weights got c.in_ok-readings.ensures) c.in_ok-lists_segment.ensures
