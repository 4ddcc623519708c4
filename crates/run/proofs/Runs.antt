-- From the last call of a list to the law over it. Assumes nothing.
use Rattle.std.proofs.Common.{◌≡◌, ℕ, ◌<◌, Bool, true, false, cond, List, length, get_or, take, ℤ, pos, is_some, Some, None, Ok, fold, Option, Result, sym, refl, ap, ◌∙◌, le_refl}
use Rattle.std.proofs.lemmas.List.{take_all}
use Rattle.refusal.specs.declared.Refusal.{Refusal}
use Rattle.roll.specs.Ranges.{ranged}
use Rattle.split.specs.Parts.{sum_of}
use Rattle.book.specs.declared.LoadBook.{Ghosts}
use Rattle.balance.specs.Quarter.{Quarter, refusal_of_quarter, refusal_of_shares}
use Rattle.balance.specs.Questions.{ok_unless}
use Rattle.day.specs.Entries.{late}
use Rattle.day.specs.Questions.{quarter_at, sheet_at, loads_refusal, loads_at, shares_refusal, shares_at}
use Rattle.day.specs.Slate.{Setting, Slate}
use Rattle.balance.proofs.Totals.{none_later}
use Rattle.day.proofs.Balances.{quarter_balanced, loads_come_to, shares_come_to}
use Rattle.run.specs.declared.call.Answer.{Answer}
use Rattle.run.specs.declared.call.Answer.TheVariants as answer
use Rattle.run.specs.declared.call.Call.{Call}
use Rattle.run.specs.declared.call.Call.TheVariants as call
use Rattle.run.specs.declared.call.DayState.{DayState}
use Rattle.run.specs.declared.call.Question.TheVariants as ask
use Rattle.run.specs.declared.whole.Run.{Run}
use Rattle.run.specs.Courses.{opened, course_of, answer_to, stepped, next_if}
use Rattle.run.specs.Holding.{course_of_any}
use Rattle.run.specs.Law.{slate_at, Answered, Left}
use Rattle.run.proofs.Courses.{SoFar}

-- what was answered with a list was not refused, and the list is the one that was to be answered
given : (o : Option Refusal) (x list : List ℤ) → Ok list ≡ ok_unless o x → (o ≡ None) × (list ≡ x)
given None x list h = (refl, cc)
given (Some e) x list h = (cc, cc)

same_loads : (r t : Result (List ℤ) Refusal) → answer.AdjustedLoads r ≡ answer.AdjustedLoads t → r ≡ t
same_loads r t h = cc

same_shares : (r t : Result (List ℤ) Refusal) → answer.Shares r ≡ answer.Shares t → r ≡ t
same_shares r t h = cc

some_if : (b : Bool) (state : DayState) → is_some (cond b (Some state) None) ≡ b
some_if true state = refl
some_if false state = refl

module _ (setting : Setting) (in_table : (s : ℕ) → ranged (get_or setting.rows s None) ≡ true) (calls : List Call) where
  module _ (answers : List Answer) (many : length answers ≡ length calls) (agrees : (i : ℕ) (c : Call) (a : Answer) → i < length calls → get_or answers i a ≡ answer_to setting (course_of setting (take i calls)) (get_or calls i c)) where
    abbrev slate : ℕ → Slate
    slate i = slate_at setting calls i

    abbrev quarter : ℕ → ℕ → Quarter
    quarter i q = quarter_at setting (slate i) q

    loads : (i q : ℕ) (c : Call) (a : Answer) (list : List ℤ) → i < length calls → get_or calls i c ≡ call.Question (ask.AdjustedLoads q) → get_or answers i a ≡ answer.AdjustedLoads (Ok list) → sum_of list ≡ (sheet_at setting (slate i) q).generation
    loads i q c a list h asked got =
        let both = given (loads_refusal setting (slate i) q 64) (loads_at setting (slate i) q) list
        (same_loads _ _ (sym got ∙ agrees i c a h ∙ ap (answer_to setting (course_of setting (take i calls))) asked)) in
        let none : refusal_of_quarter (quarter i q) ≡ None = none_later (late setting.day q) (refusal_of_quarter (quarter i q)) both.0 in
        ap sum_of both.1 ∙ loads_come_to (quarter i q) in_table none

    shares : (i q : ℕ) (c : Call) (a : Answer) (list : List ℤ) → i < length calls → get_or calls i c ≡ call.Question (ask.Shares q) → get_or answers i a ≡ answer.Shares (Ok list) → sum_of list ≡ pos 1000000000
    shares i q c a list h asked got =
        let both = given (shares_refusal setting (slate i) q 16) (shares_at setting (slate i) q) list
        (same_shares _ _ (sym got ∙ agrees i c a h ∙ ap (answer_to setting (course_of setting (take i calls))) asked)) in
        let none : refusal_of_shares (quarter i q) ≡ None = none_later (late setting.day q) (refusal_of_shares (quarter i q)) both.0 in
        ap sum_of both.1 ∙ shares_come_to (quarter i q) in_table none

    answered : Answered setting calls answers
    answered = record {
      every_call = many;
      agrees = agrees;
      balances = λ i q none. quarter_balanced (quarter i q) in_table none;
      loads_add_up = loads;
      shares_add_up = shares;
    }

  module _ {B : Type 0} (meaning : Ghosts B) (answers : List Answer) (run : Run B) (many : length answers ≡ length calls) (so_far : SoFar meaning setting opened calls answers run.day run.lawful (length calls)) where
    pub run_answered : Answered setting calls answers
    run_answered = answered answers many (λ i c a h. so_far.answered i c a h)

    pub run_left : Left meaning setting calls run
    run_left = record {
      holds = so_far.course ∙ ap (fold (stepped setting) opened) (take_all (length calls) calls (le_refl (length calls)));
      kept = so_far.kept;
      lawful = sym (ap is_some (sym (ap (fold next_if (Some opened.state)) (take_all (length calls) calls (le_refl (length calls)))) ∙ so_far.state) ∙ some_if run.lawful (course_of_any meaning run.day).state);
    }
