use Rattle.std.proofs.Common.{cond, List, map, ℤ, is_ok, ap, ◌∙◌}
use Rattle.std.specs.List.{range_with_len}
use Rattle.std.proofs.lemmas.Bool.{cond-true}
use Rattle.split.specs.Parts.{sum_of}
use Rattle.balance.specs.Balance.{adjusted}
use Rattle.balance.specs.Gathering.{quarter}
use Rattle.balance.specs.Quarter.{sheet_of}
use Rattle.balance.proofs.Totals.{sum_of_counting}
use Rattle.balance.proofs.questions.QuarterHour.adjusted_loads.Goals as goal

pub returns-clause-adds_up : goal.returns-clause-adds_up
returns-clause-adds_up g c ok =
    let y = sheet_of (quarter g.B.LoadBook c.args.self.now) in
    let list = c.args.list.now in
    let got = c.in_ok-balance.ensures in
    let filled = c.loads.ensures.after ∙ ap (λ (xs : List ℤ). cond (is_ok c.loads.result) xs list) got.1.adjusted in
    ap sum_of (filled ∙ cond-true (is_ok c.loads.result) (map (adjusted y) (range_with_len 0 64)) list ok)
    ∙ sum_of_counting (adjusted y) 64 ∙ got.2.loads_add_up
