-- Each segment's marks are its readings, at most 100.
use Rattle.std.proofs.Common.{◌≡◌, ◌^◌, sum_by, sym, ◌∙◌, rules, arith}
use Rattle.std.proofs.iter.runs.Made.{chains}
use Rattle.std.proofs.lemmas.Iterator.{YieldsList-from_slice}
use Rattle.std.proofs.lemmas.Iterator.Adapters.{fits_from_length, at_most_from_yields_List}
use Rattle.grid.specs.Marks.{bit_count}
use Rattle.grid.proofs.Words.{day_counted}
use Rattle.grid.proofs.Cells.{all_counted}
use Rattle.grid.proofs.grid.Grid.count_marks.Goals as goal

pub sum-requires-clause-fits : goal.sum-requires-clause-fits
sum-requires-clause-fits c =
    fits_from_length _ _ 64 (2 ^ 32) (at_most_from_yields_List (YieldsList-from_slice c.args.self.now.marks cc) (omega arith)) c.map.ensures.closure (omega arith) (λ x r q k. search rules)

pub returns : goal.returns
returns c =
    let g = c.args.self.now in
    let summed : c.sum.result ≡ sum_by bit_count g.marks = search (rules, chains) in
    summed ∙ sym (all_counted bit_count g.cells.now g.marks (omega arith) (λ s. sym (day_counted _ (g.day_end s))))
