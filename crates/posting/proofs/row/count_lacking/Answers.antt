-- What the filter lets through are the quarter hours that lack a reading.
use Rattle.std.proofs.Common.{ℕ, Bool, not, is_some, ◌∙◌, rules, arith}
use Rattle.std.specs.List.{range_with_len}
use Rattle.std.proofs.lemmas.List.Sums.{length-filter}
use Rattle.std.proofs.lemmas.Iterator.{YieldsList-from_range}
use Rattle.std.proofs.lemmas.Iterator.Consumers.{YieldsList-from_filter, count_from_yields_List}
use Rattle.book.specs.Cells.{Standing}
use Rattle.posting.proofs.Placing.{lacking_counted}
use Rattle.posting.proofs.row.count_lacking.Goals as goal

pub returns-clause-value : goal.returns-clause-value
returns-clause-value g c =
    let st : Standing = g.B.LoadBook.standing c.args.book.now in
    let s = c.args.segment in
    let n = c.args.quarter_hours in
    let lacks : ℕ → Bool = λ q. not (is_some (st s q)) in
    count_from_yields_List c.filter.result c.count.result c.count.ensures.ran (YieldsList-from_filter _ lacks (YieldsList-from_range 0 n n (cc) (omega arith)) c.filter.ensures.closure (λ x b q k. search rules))
    ∙ length-filter lacks (range_with_len 0 n) ∙ lacking_counted st s n
