-- The front of the list that has the day's length holds readings.
use Rattle.std.proofs.Common.{◌≡◌, ℕ, ◌≤◌, take, sym, ◌∙◌, subst}
use Rattle.std.specs.List.{AllByRecursion}
use Rattle.roll.specs.Days.{quarters_of}
use Rattle.profile.proofs.Limits.{all_up_to}
use Rattle.posting.proofs.readings.DayReadings.post_to.Goals as goal

pub post_row-requires-clause-readable : goal.post_row-requires-clause-readable
post_row-requires-clause-readable g c =
    let self = c.args.self.now in
    let day : c.from-quarter_hours.result ≡ quarters_of self.day = c.from-quarter_hours.ensures ∙ c.quarter_hours.ensures in
    subst (λ (k : ℕ). AllByRecursion (λ r. r ≤ 1000000) (take k self.list)) (sym day) (all_up_to 1000000 (take (quarters_of self.day) self.list) self.readable)
