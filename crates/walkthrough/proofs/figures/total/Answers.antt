use Rattle.std.proofs.Common.{rules, ◌≡◌, ◌^◌, ◌≤◌, sum, arith}
use Rattle.std.proofs.iter.runs.Sources.{sums}
use Rattle.std.proofs.lemmas.List.Elements.{All-from_get_or}
use Rattle.std.proofs.lemmas.List.Sums.{sum_by-le}
use Rattle.walkthrough.proofs.figures.total.Goals as goal

pub sum-requires-clause-fits : goal.sum-requires-clause-fits
sum-requires-clause-fits c = search (rules, sums)

pub returns-clause-limit : goal.returns-clause-limit
returns-clause-limit c =
    let xs = c.args.list.now in
    let whole : c.sum.result ≡ sum xs = search (rules, sums) in
    omega (arith, whole, sum_by-le (λ x. x) (2 ^ 32) xs (All-from_get_or (λ x. x ≤ 2 ^ 32) xs 0 (λ i _. omega (arith, c.fits-list i))))
