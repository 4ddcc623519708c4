use Rattle.std.proofs.Common.{None, sym, subst, zero-le}
use mathlib.Core.Path.{fun_ext}
use Rattle.book.proofs.Tables.{filled_cell, filled_length}
use Rattle.losses.specs.Factors.{Lawful}
use Rattle.losses.proofs.table.FactorTable.empty.Goals as goal

pub invariant_of-result : goal.invariant_of-result
invariant_of-result g c = record {
  quarter_hours = λ k h. filled_length None g.row.ROWS 100 k h;
  lawful = λ k q. subst Lawful (sym (filled_cell None g.row.ROWS 100 k q)) zero-le;
}

pub returns : goal.returns
returns g c = fun_ext (λ k. fun_ext (λ q. filled_cell None g.row.ROWS 100 k q))
