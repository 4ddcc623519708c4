use Rattle.std.proofs.Common.{ℕ, ◌<◌, [], length, get_or, Some, None, Option, ◌∙◌, subst, arith}
use Rattle.std.specs.Option.{unwrap_or}
use mathlib.Core.Path.{fun_ext}
use Rattle.book.proofs.Tables.{put_row_length, put_at_cell, put_keeps}
use Rattle.losses.specs.Factors.{Lawful}
use Rattle.losses.proofs.table.FactorTable.give.Goals as goal

pub invariant_of-self : goal.invariant_of-self
invariant_of-self g c =
    let s = c.args.self.now in
    let rows = s.rows in
    let k = c.in-Some.row in
    let q = c.args.quarter_hour in
    let f = Some c.args.factor in
    let within : k < g.row.ROWS = subst (λ (o : Option ℕ). unwrap_or o 0 < g.row.ROWS) c.in-Some.is c.requires.row in
    let hk : k < length rows = omega arith in
    let hq : q < length (get_or rows k []) = omega (arith, s.quarter_hours k within) in
    record {
      quarter_hours = λ j h. put_row_length None rows k q f hk hq j ∙ s.quarter_hours j h;
      lawful = put_keeps None rows k q f hk hq Lawful c.if-factor-gt500000.false s.lawful;
    }

pub returns-clause-factors : goal.returns-clause-factors
returns-clause-factors g c =
    let s = c.args.self.now in
    let rows = s.rows in
    let k = c.in-Some.row in
    let q = c.args.quarter_hour in
    let f = Some c.args.factor in
    let within : k < g.row.ROWS = subst (λ (o : Option ℕ). unwrap_or o 0 < g.row.ROWS) c.in-Some.is c.requires.row in
    let hk : k < length rows = omega arith in
    let hq : q < length (get_or rows k []) = omega (arith, s.quarter_hours k within) in
    rw c.in-Some.is (fun_ext (λ j. fun_ext (λ p. put_at_cell None rows k q f hk hq j p)))
