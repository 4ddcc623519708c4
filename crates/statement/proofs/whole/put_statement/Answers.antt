use Rattle.std.proofs.Common.{◌≡◌, ℕ, ◌≤◌, ltb, Some, None, Option, sym, ap, ◌∙◌}
use Rattle.std.proofs.lemmas.Bool.{cond-false, le-ltb}
use Rattle.refusal.specs.declared.Refusal.{Refusal}
use Rattle.refusal.specs.declared.Refusal.TheVariants.{QuarterHour}
use Rattle.refusal.specs.Table.{answer_of}
use Rattle.balance.specs.Balance.{ufe, rtaml, shares}
use Rattle.balance.specs.Gathering.{quarter}
use Rattle.balance.specs.Quarter.{Quarter, sheet_of, refusal_of_quarter, refusal_of_shares}
use Rattle.balance.specs.Questions.{late_at}
use Rattle.balance.specs.Totals.{or_else}
use Rattle.statement.specs.Statement.{answer_line, or_refusal, text_of, statement_of}
use Rattle.statement.proofs.Appending.{appends_same}
use Rattle.balance.proofs.Totals.{none_later}
use Rattle.statement.proofs.Reading.{ufe_small, loads_small, text_same}
use Rattle.statement.proofs.whole.put_statement.Goals as goal

pub invariant_of-put : goal.invariant_of-put
invariant_of-put g c =
    let q = c.args.quarter_hour.now in
    let book = q.book.now in
    let x : Quarter = quarter g.B.LoadBook q in
    let got = c.in-Ok.ensures in
    let fine : refusal_of_quarter x ≡ None = none_later (late_at q.quarter_hour) (refusal_of_quarter x) got.0 in
    let bounded = λ (s : ℕ). g.B.LoadBook.bounded book s q.quarter_hour (g.B.LoadBook.standing book s q.quarter_hour) (g.B.LoadBook.readable book s q.quarter_hour) in
    record {
      ufe = ufe_small x c.in-Ok.balance fine got.1 got.2 bounded;
      loads = loads_small x c.in-Ok.balance fine got.1 got.2 bounded;
    }

early_refusal : (q : ℕ) (o : Option Refusal) (e : Refusal) → q ≤ 99 → or_else (late_at q) o ≡ Some e → o ≡ Some e
early_refusal q o e early h =
    sym (ap (λ (l : Option Refusal). or_else l o) (cond-false (ltb 99 q) (Some QuarterHour) None (le-ltb 99 q early))) ∙ h

refused_text : (x : Quarter) (e : Refusal) → refusal_of_quarter x ≡ Some e → statement_of x ≡ answer_line (answer_of e)
unfolding statement_of
refused_text x e h =
    ap (λ (o : Option Refusal). or_refusal o (text_of x.rows (sheet_of x).generation (ufe (sheet_of x)) (rtaml (sheet_of x)) (refusal_of_shares x) (shares (sheet_of x)))) h

pub returns-in-Ok : goal.returns-in-Ok
returns-in-Ok g c =
    let x : Quarter = quarter g.B.LoadBook c.args.quarter_hour.now in
    let got = c.in-Ok.ensures in
    let fine : refusal_of_quarter x ≡ None = none_later (late_at c.args.quarter_hour.now.quarter_hour) (refusal_of_quarter x) got.0 in
    appends_same (text_same x c.in-Ok.balance fine got.1 got.2) c.put.ensures

pub returns-in-Err : goal.returns-in-Err
returns-in-Err g c =
    let x : Quarter = quarter g.B.LoadBook c.args.quarter_hour.now in
    appends_same (sym (refused_text x c.in-Err.refusal (early_refusal c.args.quarter_hour.now.quarter_hour (refusal_of_quarter x) c.in-Err.refusal c.requires.quarter_hour c.in-Err.ensures))) c.put_refusal.ensures
