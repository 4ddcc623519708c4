use Rattle.std.proofs.Common.{ℤ, Option, sym, ap, ◌∙◌}
use Rattle.refusal.specs.declared.Refusal.{Refusal}
use Rattle.balance.specs.Balance.{rtaml}
use Rattle.balance.specs.Gathering.{quarter}
use Rattle.balance.specs.Quarter.{Quarter, sheet_of, refusal_of_quarter}
use Rattle.balance.specs.Questions.{ok_unless, late_at, nowhere}
use Rattle.balance.proofs.Sharing.{none_between, pair_is}
use Rattle.balance.proofs.questions.QuarterHour.rtaml.Goals as goal

pub returns-clause-answer : goal.returns-clause-answer
returns-clause-answer g c =
    let q = c.args.self.now.quarter_hour in
    let qse = c.args.qse in
    let point = c.args.point in
    let x : Quarter = quarter g.B.LoadBook c.args.self.now in
    let got = c.in_ok-balance.ensures in
    let there = pair_is qse point _ c.in_ok-check_pair.ensures in
    c.rtaml.ensures
    ∙ ap (λ (z : ℤ). ok_unless (nowhere qse point) z) (got.1.pairs qse point there.0 there.1)
    ∙ ap (λ (o : Option Refusal). ok_unless o (rtaml (sheet_of x) qse point)) (sym (none_between (late_at q) (nowhere qse point) (refusal_of_quarter x) got.0))
