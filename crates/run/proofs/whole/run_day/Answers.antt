use Rattle.std.proofs.Common.{◌≡◌, ℕ, ◌+◌, ◌<◌, Bool, ◌&&◌, length, set, sym, ap, ◌∙◌, subst, arith}
use Rattle.roll.specs.Drafts.{day_of, roll_of}
use Rattle.day.specs.Holding.{setting_by}
use Rattle.day.specs.Slate.{Setting}
use Rattle.run.specs.declared.call.Call.TheVariants.{Entry}
use Rattle.run.specs.declared.call.Entry.TheVariants.{Post}
use Rattle.run.specs.declared.whole.Run.{Run}
use Rattle.run.specs.Calls.{taken}
use Rattle.run.specs.Courses.{opened}
use Rattle.run.proofs.Courses.{SoFar, so_far_opened, so_far_more}
use Rattle.run.proofs.Runs.{run_answered, run_left}
use Rattle.run.proofs.whole.run_day.Goals as goal

pub loop-i-init : goal.loop-i-init
loop-i-init g c = so_far_opened g.B.LoadBook c.args.calls.now _ c.args.answers.now c.open.result c.open.ensures

pub loop-i-preserved : goal.loop-i-preserved
loop-i-preserved g c =
    let setting : Setting = setting_by (day_of c.args.draft) (roll_of c.args.draft) (g.B.LoadBook.places c.args.book) (g.B.LoadBook.grossing c.args.book) in
    let calls = c.args.calls.now in
    let answers = c.loop-i.answers in
    let i = c.loop-i.i in
    let place : i < length answers = omega (arith, c.loop-i-test.true, c.loop-i.auto.answers, c.if-answers-calls.false) in
    let more : SoFar g.B.LoadBook setting opened calls (set answers i c.step-next.result.1) c.step-next.result.0 (c.loop-i.lawful && taken c.step-next.result.1) (i + 1) =
    so_far_more g.B.LoadBook calls setting opened answers c.loop-i.day c.loop-i.lawful i (Entry (Post 0 0 0)) c.loop-i.invariant c.loop-i-test.true place
    c.step-next.result.0 c.step-next.result.1 c.step-next.ensures in
    subst (λ (b : Bool). SoFar g.B.LoadBook setting opened calls (set answers i c.step-next.result.1) c.step-next.result.0 b (i + 1)) (ap (λ (b : Bool). c.loop-i.lawful && b) (sym c.is_taken-lawful.ensures)) more

pub returns : goal.returns
returns g c =
    let setting : Setting = setting_by (day_of c.args.draft) (roll_of c.args.draft) (g.B.LoadBook.places c.args.book) (g.B.LoadBook.grossing c.args.book) in
    let calls = c.args.calls.now in
    let answers = c.loop-i.answers in
    let run : Run g.row.B.Denot = record { day = c.loop-i.day; lawful = c.loop-i.lawful } in
    let whole : c.loop-i.i ≡ length calls = omega (arith, c.loop-i-test.false, c.loop-i.auto.i-end) in
    let done : SoFar g.B.LoadBook setting opened calls answers run.day run.lawful (length calls) =
    subst (λ (n : ℕ). SoFar g.B.LoadBook setting opened calls answers run.day run.lawful n) whole c.loop-i.invariant in
    let many : length answers ≡ length calls = c.loop-i.auto.answers ∙ c.if-answers-calls.false in
    let in_table = c.args.draft.roll.rows_in_range in (
      run_answered setting in_table calls g.B.LoadBook answers run many done,
      run_left setting in_table calls g.B.LoadBook answers run many done,
    )
