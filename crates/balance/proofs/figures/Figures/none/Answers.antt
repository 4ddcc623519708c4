use Rattle.std.proofs.Common.{◌≤◌, ℤ, pos, nat_abs, None, Option, unwrap_or, sym, subst, zero-le}
use mathlib.Core.Path.{fun_ext}
use Rattle.book.proofs.Tables.{filled_cell, filled_length}
use Rattle.balance.proofs.figures.Figures.none.Goals as goal

pub invariant_of-result : goal.invariant_of-result
invariant_of-result c = record {
  quarter_hours = λ k h. filled_length None 16 100 k h;
  within = λ k q. subst (λ (o : Option ℤ). nat_abs (unwrap_or o (pos 0)) ≤ 10000000) (sym (filled_cell None 16 100 k q)) zero-le;
}

pub returns : goal.returns
returns c = fun_ext (λ k. fun_ext (λ q. filled_cell None 16 100 k q))
