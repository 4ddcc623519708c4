use Rattle.std.proofs.Common.{◌≡◌, length, is_some, ◌∙◌, rules, tests}
use Rattle.std.specs.List.{list_any}
use Rattle.std.proofs.lemmas.Iterator.{YieldsList-from_slice}
use Rattle.std.proofs.lemmas.Iterator.Search.{any_from_yields_List}
use Rattle.roll.specs.Entries.{rows_of}
use Rattle.balance.proofs.Totals.{somebody_among}
use Rattle.balance.proofs.questions.QuarterHour.has_segment.Goals as goal

pub returns : goal.returns
returns g c =
    let rows = rows_of c.args.self.now.roll.now in
    let many : length rows ≡ 64 = search rules in
    let any : c.any.result ≡ list_any is_some rows =
    any_from_yields_List is_some _ _ c.any.result c.any.ensures.ran (YieldsList-from_slice rows cc) (λ x b q k. search (rules, tests)) in
    any ∙ somebody_among rows 64 many
