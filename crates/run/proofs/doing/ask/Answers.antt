use Rattle.std.proofs.Common.{sym, ap, ◌∙◌}
use Rattle.day.specs.Holding.{day_setting, day_slate}
use Rattle.day.specs.Questions.{loads_refusal}
use Rattle.day.specs.Slate.{Setting, Slate}
use Rattle.run.specs.declared.call.Answer.TheVariants as answer
use Rattle.run.specs.Calls.{question_answer}
use Rattle.run.proofs.Answering.{filled}
use Rattle.run.proofs.doing.ask.Goals as goal

pub returns-in-AdjustedLoads : goal.returns-in-AdjustedLoads
returns-in-AdjustedLoads g c =
    let setting : Setting = day_setting g.B.LoadBook c.args.day.now in
    let slate : Slate = day_slate g.B.LoadBook c.args.day.now in
    let got = c.adjusted_loads-filled.ensures in
    ap answer.AdjustedLoads (c.listed.ensures ∙ filled (loads_refusal setting slate c.in-AdjustedLoads.quarter_hour 64) _ _ _ c.adjusted_loads-filled.result got.answer got.after)
    ∙ ap (question_answer setting slate) (sym c.in-AdjustedLoads.is)
