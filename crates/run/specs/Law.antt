-- The law over every run of calls. Assumes nothing.
use Rattle.std.specs.Prelude.{◌≡◌, ℕ, ◌<◌, List, length, take, ℤ, pos, None, Ok, Err, Result, ◌≢◌, slice_index_or}
use Rattle.refusal.specs.declared.Refusal.TheVariants.{ListLength}
use Rattle.roll.specs.declared.draft.Draft.{Draft}
use Rattle.roll.specs.Drafts.{day_of, roll_of}
use Rattle.split.specs.Parts.{sum_of}
use Rattle.book.specs.declared.LoadBook.{Ghosts}
use Rattle.balance.specs.Laws.{Balanced}
use Rattle.balance.specs.Quarter.{refusal_of_quarter}
use Rattle.day.specs.Holding.{setting_by}
use Rattle.day.specs.Questions.{quarter_at, sheet_at}
use Rattle.day.specs.Slate.{Setting, Slate}
use Rattle.run.specs.declared.call.Answer.{Answer}
use Rattle.run.specs.declared.call.Answer.TheVariants as answer
use Rattle.run.specs.declared.call.Call.{Call}
use Rattle.run.specs.declared.call.Call.TheVariants as call
use Rattle.run.specs.declared.call.Question.TheVariants as ask
use Rattle.run.specs.declared.whole.Run.{Run}
use Rattle.run.specs.declared.whole.Unopened.{Unopened}
use Rattle.run.specs.Courses.{course_of, answer_to, lawful_list}
use Rattle.run.specs.Holding.{setting_of_any, course_of_any}

-- the slate at a point of the list: what its first i calls have written
abbrev pub slate_at : Setting → List Call → ℕ → Slate
slate_at setting calls i = (course_of setting (take i calls)).slate

-- what a list of calls and its answers have to do with each other
pub record Answered (setting : Setting) (calls : List Call) (answers : List Answer) : Type 0 where
  pub every_call : length answers ≡ length calls
  -- each answer, refusals as well, is the one that the calls before it lead to
  pub agrees : (i : ℕ) (c : Call) (a : Answer) → i < length calls → slice_index_or answers i a ≡ answer_to setting (course_of setting (take i calls)) (slice_index_or calls i c)
  -- at every point of the list, each quarter hour that has answers is in balance
  pub balances : (i q : ℕ) → refusal_of_quarter (quarter_at setting (slate_at setting calls i) q) ≡ None → Balanced (sheet_at setting (slate_at setting calls i) q)
  -- the loads that were answered come to the standing figures, and the shares to one
  pub loads_add_up : (i q : ℕ) (c : Call) (a : Answer) (loads : List ℤ) → i < length calls → slice_index_or calls i c ≡ call.Question (ask.AdjustedLoads q) → slice_index_or answers i a ≡ answer.AdjustedLoads (Ok loads) → sum_of loads ≡ (sheet_at setting (slate_at setting calls i) q).generation
  pub shares_add_up : (i q : ℕ) (c : Call) (a : Answer) (shares : List ℤ) → i < length calls → slice_index_or calls i c ≡ call.Question (ask.Shares q) → slice_index_or answers i a ≡ answer.Shares (Ok shares) → sum_of shares ≡ pos 1000000000

-- what the day is left with
pub record Left {B : Type 0} (meaning : Ghosts B) (setting : Setting) (calls : List Call) (run : Run B) : Type 0 where
  -- the book and the figures hold what the slate has, and the day is in the state that the calls lead to
  pub holds : course_of_any meaning run.day ≡ course_of setting calls
  -- roll and length are the draft's, places and grossing the book's
  pub kept : setting_of_any meaning run.day ≡ setting
  pub lawful : run.lawful ≡ lawful_list calls

-- a run; or the draft, the book and the list as they were, where the list has not a place for every answer
abbrev pub RunAs : {B : Type 0} → Ghosts B → Draft → B → List Call → List Answer → Result (Run B) (Unopened B) → List Answer → Type 0
RunAs meaning draft book calls before (Ok run) after =
    Answered (setting_by (day_of draft) (roll_of draft) (meaning.places book) (meaning.grossing book)) calls after
    × Left meaning (setting_by (day_of draft) (roll_of draft) (meaning.places book) (meaning.grossing book)) calls run
RunAs meaning draft book calls before (Err unopened) after =
    (length before ≢ length calls) × (unopened ≡ record { draft = draft; book = book; refusal = ListLength }) × (after ≡ before)
