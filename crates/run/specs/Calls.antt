-- What each entry and question is answered, and what an entry leaves on the slate. Assumes nothing.
use Rattle.std.specs.Prelude.{Bool, true, false, cond, is_ok, Result}
use Rattle.refusal.specs.declared.Refusal.{Refusal}
use Rattle.balance.specs.Questions.{ok_unless}
use Rattle.day.specs.Entries.{post_answer, profiled_answer, withdraw_answer, figure_answer, strike_answer}
use Rattle.day.specs.Questions.{loads_refusal, loads_at, rtaml_answer, ufe_answer, shares_refusal, shares_at}
use Rattle.day.specs.Slate.{Setting, Slate, posted, profiled, withdrawn, figured, struck}
use Rattle.run.specs.declared.call.Answer.{Answer}
use Rattle.run.specs.declared.call.Answer.TheVariants as answer
use Rattle.run.specs.declared.call.Entry.{Entry}
use Rattle.run.specs.declared.call.Entry.TheVariants.{Post, PostProfiled, Withdraw, Figure, Strike}
use Rattle.run.specs.declared.call.Question.{Question}
use Rattle.run.specs.declared.call.Question.TheVariants.{AdjustedLoads, Rtaml, GenerationAndUfe, Shares}

abbrev pub entry_answer : Setting → Slate → Entry → Answer
entry_answer setting slate (Post s q v) = answer.Posted (post_answer setting slate s q v)
entry_answer setting slate (PostProfiled s reading weights) = answer.Profiled (profiled_answer setting slate s reading weights.now)
entry_answer setting slate (Withdraw s q) = answer.Withdrawn (withdraw_answer setting slate s q)
entry_answer setting slate (Figure i q wh) = answer.Figured (figure_answer setting slate i q wh)
entry_answer setting slate (Strike i q) = answer.Struck (strike_answer setting slate i q)

-- what an entry writes or wipes, unless it is refused
abbrev pub unless_refused : {X : Type 0} → Result X Refusal → Slate → Slate → Slate
unless_refused given written slate = cond (is_ok given) written slate

abbrev pub entered : Setting → Slate → Entry → Slate
entered setting slate (Post s q v) = unless_refused (post_answer setting slate s q v) (posted slate s q v) slate
entered setting slate (PostProfiled s reading weights) =
    unless_refused (profiled_answer setting slate s reading weights.now) (profiled slate s reading weights.now) slate
entered setting slate (Withdraw s q) = unless_refused (withdraw_answer setting slate s q) (withdrawn slate s q) slate
entered setting slate (Figure i q wh) = unless_refused (figure_answer setting slate i q wh) (figured slate i q wh) slate
entered setting slate (Strike i q) = unless_refused (strike_answer setting slate i q) (struck slate i q) slate

-- the lists of a run have their length
abbrev pub question_answer : Setting → Slate → Question → Answer
question_answer setting slate (AdjustedLoads q) = answer.AdjustedLoads (ok_unless (loads_refusal setting slate q 64) (loads_at setting slate q))
question_answer setting slate (Rtaml q qse point) = answer.Rtaml (rtaml_answer setting slate q qse point)
question_answer setting slate (GenerationAndUfe q) = answer.GenerationAndUfe (ufe_answer setting slate q)
question_answer setting slate (Shares q) = answer.Shares (ok_unless (shares_refusal setting slate q 16) (shares_at setting slate q))

-- whether the day's state took the call
abbrev pub taken : Answer → Bool
taken answer.Unlawful = false
taken answer.Done = true
taken (answer.Posted r) = true
taken (answer.Profiled r) = true
taken (answer.Withdrawn r) = true
taken (answer.Figured r) = true
taken (answer.Struck r) = true
taken (answer.AdjustedLoads r) = true
taken (answer.Rtaml r) = true
taken (answer.GenerationAndUfe r) = true
taken (answer.Shares r) = true
