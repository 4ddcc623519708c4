use Rattle.std.proofs.Common.{◌<◌, ◌≤◌, [], length, get_or, pos, nat_abs, None, unwrap_or, ◌∙◌, arith}
use mathlib.Core.Path.{fun_ext}
use Rattle.book.proofs.Tables.{put_row_length, put_at_cell, put_keeps}
use Rattle.balance.proofs.figures.Figures.put.Goals as goal

pub invariant_of-self : goal.invariant_of-self
invariant_of-self c =
    let s = c.args.self.now in
    let k = c.args.site in
    let q = c.args.quarter_hour in
    let hk : k < length s.table = omega arith in
    let hq : q < length (get_or s.table k []) = omega (arith, s.quarter_hours k (omega arith)) in record {
      quarter_hours = λ j h. put_row_length None s.table k q _ hk hq j ∙ s.quarter_hours j h;
      within = put_keeps None s.table k q _ hk hq (λ o. nat_abs (unwrap_or o (pos 0)) ≤ 10000000) c.requires.within s.within;
    }

pub returns : goal.returns
returns c =
    let s = c.args.self.now in
    let k = c.args.site in
    let q = c.args.quarter_hour in
    let hk : k < length s.table = omega arith in
    let hq : q < length (get_or s.table k []) = omega (arith, s.quarter_hours k (omega arith)) in
    fun_ext (λ j. fun_ext (λ p. put_at_cell None s.table k q c.args.content hk hq j p))
