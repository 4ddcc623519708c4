use Rattle.std.proofs.Common.{rules, length, ◌≡◌}
use Rattle.std.proofs.iter.runs.Sources.{sums}
use Rattle.balance.proofs.Sheets.{weights_most}
use Rattle.balance.proofs.row.sums.sum_weights.Goals as goal

pub sum-requires-clause-fits : goal.sum-requires-clause-fits
sum-requires-clause-fits c =
    let many : length c.args.rows.now ≡ 64 = search rules in
    search (rules, sums, weights_most c.args.rows.now many)
