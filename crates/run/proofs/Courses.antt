-- One call more. Assumes nothing.
use Rattle.std.proofs.Common.{◌≡◌, ℕ, ◌+◌, ◌<◌, Bool, true, false, cond, ◌&&◌, List, length, get_or, take, set, Some, None, fold, Option, sym, refl, ap, ◌∙◌, ⊎_elim, arith, get_or-set_other, get_or-set_same}
use Rattle.std.proofs.lemmas.List.{get_or_default}
use Rattle.std.proofs.lemmas.List.Sums.{fold_more}
use Rattle.std.proofs.lemmas.Bool.{cases_eq}
use Rattle.book.specs.declared.LoadBook.{Ghosts}
use Rattle.day.specs.declared.states.Initial.{Initial}
use Rattle.day.specs.declared.states.Open.{Open}
use Rattle.day.specs.declared.states.Day.{Day}
use Rattle.day.specs.Holding.{Holds}
use Rattle.day.specs.Slate.{Setting, Slate, blank_slate}
use Rattle.run.specs.declared.any_day.AnyDay.{AnyDay}
use Rattle.run.specs.declared.any_day.AnyDay.TheVariants.{OpenInitial}
use Rattle.run.specs.declared.call.Answer.{Answer}
use Rattle.run.specs.declared.call.Call.{Call}
use Rattle.run.specs.declared.call.Call.TheVariants as call
use Rattle.run.specs.declared.call.DayState.{DayState}
use Rattle.run.specs.declared.call.DayState.TheVariants as state
use Rattle.run.specs.declared.call.Entry.TheVariants.{Post, PostProfiled, Withdraw, Figure, Strike}
use Rattle.run.specs.declared.call.Question.TheVariants.{AdjustedLoads, Rtaml, GenerationAndUfe, Shares}
use Rattle.run.specs.Calls.{taken}
use Rattle.run.specs.Courses.{Course, next, next_if, opened, written, reply, reply_if, moved_to, stepped, answer_to}
use Rattle.run.specs.Holding.{setting_of_any, course_of_any, Steps}

-- ---- lawfulness is told by the answers

reply_taken : (setting : Setting) (slate : Slate) (c : Call) → taken (reply setting slate c) ≡ true
reply_taken setting slate (call.Entry (Post s q v)) = refl
reply_taken setting slate (call.Entry (PostProfiled s reading weights)) = refl
reply_taken setting slate (call.Entry (Withdraw s q)) = refl
reply_taken setting slate (call.Entry (Figure i q wh)) = refl
reply_taken setting slate (call.Entry (Strike i q)) = refl
reply_taken setting slate (call.Question (AdjustedLoads q)) = refl
reply_taken setting slate (call.Question (Rtaml q qse point)) = refl
reply_taken setting slate (call.Question (GenerationAndUfe q)) = refl
reply_taken setting slate (call.Question (Shares q)) = refl
reply_taken setting slate call.Seal = refl
reply_taken setting slate call.Reopen = refl

state_by : (setting : Setting) (course : Course) (c : Call) (o : Option DayState) → o ≡ cond (taken (reply_if o (reply setting course.slate c))) (Some (moved_to o (written setting course.slate c) course).state) None
state_by setting course c None = refl
state_by setting course c (Some state) =
    sym (ap (λ (b : Bool). cond b (Some state) None) (reply_taken setting course.slate c))

state_more : (setting : Setting) (course : Course) (c : Call) (lawful : Bool) → next_if (cond lawful (Some course.state) None) c ≡ cond (lawful && taken (answer_to setting course c)) (Some (stepped setting course c).state) None
state_more setting course c false = refl
state_more setting course c true = state_by setting course c (next course.state c)

-- ---- what the first calls of a list have come to

pub record SoFar {B : Type 0} (meaning : Ghosts B) (setting : Setting) (start : Course) (calls : List Call) (answers : List Answer) (day : AnyDay B) (lawful : Bool) (i : ℕ) : Type 0 where
  pub course : course_of_any meaning day ≡ fold (stepped setting) start (take i calls)
  pub kept : setting_of_any meaning day ≡ setting
  pub answered : (k : ℕ) (c : Call) (a : Answer) → k < i → get_or answers k a ≡ answer_to setting (fold (stepped setting) start (take k calls)) (get_or calls k c)
  pub state : fold next_if (Some start.state) (take i calls) ≡ cond lawful (Some (course_of_any meaning day).state) None

module _ {B : Type 0} (meaning : Ghosts B) (calls : List Call) where
  pub so_far_none : (answers : List Answer) (day : AnyDay B) → SoFar meaning (setting_of_any meaning day) (course_of_any meaning day) calls answers day true 0
  so_far_none answers day = record { course = refl; kept = refl; answered = λ k c a h. absurd (omega arith); state = refl }

  pub so_far_opened : (setting : Setting) (answers : List Answer) (day : Day B (Open Initial)) → Holds meaning day setting blank_slate → SoFar meaning setting opened calls answers (OpenInitial day) true 0
  so_far_opened setting answers day h = record {
    course = ap (λ (x : Slate). record { state = state.OpenInitial; slate = x }) h.slate;
    kept = h.setting;
    answered = λ k c a h. absurd (omega arith);
    state = refl;
  }

  module _ (setting : Setting) (start : Course) (answers : List Answer) (day : AnyDay B) (lawful : Bool) (i : ℕ) (d : Call) (so_far : SoFar meaning setting start calls answers day lawful i) (here : i < length calls) (place : i < length answers) where
    abbrev c : Call
    c = get_or calls i d

    abbrev before : Course
    before = course_of_any meaning day

    abbrev at : ℕ → Course
    at k = fold (stepped setting) start (take k calls)

    module _ (day' : AnyDay B) (answer : Answer) (step : Steps meaning day c answer day') where
      answer_by : answer ≡ answer_to setting before c
      answer_by = step.answer ∙ ap (λ (x : Setting). answer_to x before c) so_far.kept

      course_by : course_of_any meaning day' ≡ stepped setting before c
      course_by = step.course ∙ ap (λ (x : Setting). stepped x before c) so_far.kept

      course_more : course_of_any meaning day' ≡ at (i + 1)
      course_more =
          course_by ∙ ap (λ (x : Course). stepped setting x c) so_far.course ∙ sym (fold_more (stepped setting) start calls i d here)

      last : (d' : Call) → answer ≡ answer_to setting (at i) (get_or calls i d')
      last d' =
          answer_by ∙ ap (λ (x : Course). answer_to setting x c) so_far.course
          ∙ ap (answer_to setting (at i)) (get_or_default calls i d d' here)

      answered_more : (k : ℕ) (d' : Call) (a : Answer) → k < i + 1 → get_or (set answers i answer) k a ≡ answer_to setting (at k) (get_or calls k d')
      answered_more k d' a h =
          ⊎_elim
          (λ (e : k ≡ i). rw e (get_or-set_same answers i answer a place ∙ last d'))
          (λ (ne : k ≡ i → ⊥). get_or-set_other answers i k answer a ne ∙ so_far.answered k d' a (omega arith))
          (cases_eq k i)

      pub so_far_more : SoFar meaning setting start calls (set answers i answer) day' (lawful && taken answer) (i + 1)
      so_far_more = record {
        course = course_more;
        kept = step.setting ∙ so_far.kept;
        answered = answered_more;
        state = fold_more next_if (Some start.state) calls i d here
            ∙ ap (λ (o : Option DayState). next_if o c) so_far.state
            ∙ state_more setting before c lawful
            ∙ ap (λ (x : Answer). cond (lawful && taken x) (Some (stepped setting before c).state) None) (sym answer_by)
            ∙ ap (λ (x : Course). cond (lawful && taken answer) (Some x.state) None) (sym course_by);
      }
