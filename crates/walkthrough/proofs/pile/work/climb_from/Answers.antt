use Rattle.std.proofs.Common.{Some, ap, ◌∙◌}
use Rattle.book.specs.Grossing.{Grossing}
use Rattle.book.specs.Tables.{at, put_at}
use Rattle.losses.specs.declared.adjusted.Adjusted.{Adjusted}
use Rattle.losses.specs.declared.distribution.DistributionTable.{DistributionTable}
use Rattle.losses.specs.declared.table.FactorTable.{FactorTable}
use Rattle.losses.specs.Layers.{distributed}
use Rattle.walkthrough.specs.Piles.{answer_for, over_transmission}
use Rattle.walkthrough.proofs.Piles.{answer_same, climb_same, distribution_same, transmission_same}
use Rattle.walkthrough.proofs.pile.work.climb_from.Goals as goal

pub returns : goal.returns
returns g c =
    let s = c.args.segment in
    let q = c.args.quarter_hour in
    let gr = g.B.LoadBook.grossing in
    let st = g.B.LoadBook.standing in
    let bare = c.over-distribution.ensures in
    let coded = c.take_over_codes.ensures in
    let taken = c.in_ok-set_factor.ensures in
    let below = taken.below ∙ coded.below ∙ bare.below in
    let factors = taken.factors ∙ ap (λ (t : FactorTable 5). put_at 0 48 (Some 50000) (at t.rows)) coded.factors ∙ ap (put_at 0 48 (Some 50000)) bare.factors in
    let first = distribution_same _ _ _ _ _ _ (taken.codes ∙ coded.codes) factors (ap gr below) in
    let middle = c.load-distributed.ensures ∙ answer_same _ _ _ _ s q first (ap st below) in
    let over = c.over-transmission.ensures in
    let given = c.in_ok-set_factor-2.ensures in
    let gr2 = λ (d : Adjusted g.row.B.Denot DistributionTable). distributed d.table.codes (at d.table.factors.rows) (gr d.below) in
    let up = transmission_same _ _ _ _ _ _ _ 48 20000 s q over.grossing given.factors (ap gr2 over.below) (ap gr2 (given.below ∙ over.below)) (ap st (ap (λ (d : Adjusted g.row.B.Denot DistributionTable). d.below) (given.below ∙ over.below) ∙ below)) in
    let top = c.load-transmitted.ensures ∙ up ∙ ap (λ (x : Grossing). answer_for (over_transmission 20000 x) (st c.args.book) s q) first in
    climb_same c.load-metered.ensures middle top
