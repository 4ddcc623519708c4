-- The setting and the course that a day has, whichever state it is in. Assumes nothing.
use Rattle.std.specs.Prelude.{◌≡◌}
use Rattle.book.specs.declared.LoadBook.{Ghosts}
use Rattle.day.specs.Holding.{day_setting, day_slate}
use Rattle.day.specs.Slate.{Setting, Slate}
use Rattle.run.specs.declared.any_day.AnyDay.{AnyDay}
use Rattle.run.specs.declared.any_day.AnyDay.TheVariants as any
use Rattle.run.specs.declared.call.Answer.{Answer}
use Rattle.run.specs.declared.call.Call.{Call}
use Rattle.run.specs.declared.call.DayState.{DayState}
use Rattle.run.specs.declared.call.DayState.TheVariants.{OpenInitial, SealedInitial, OpenFinal, SealedFinal}
use Rattle.run.specs.Courses.{Course, stepped, answer_to}

abbrev pub setting_of_any : {B : Type 0} → Ghosts B → AnyDay B → Setting
setting_of_any meaning (any.OpenInitial day) = day_setting meaning day
setting_of_any meaning (any.SealedInitial day) = day_setting meaning day
setting_of_any meaning (any.OpenFinal day) = day_setting meaning day
setting_of_any meaning (any.SealedFinal day) = day_setting meaning day

abbrev pub slate_of_any : {B : Type 0} → Ghosts B → AnyDay B → Slate
slate_of_any meaning (any.OpenInitial day) = day_slate meaning day
slate_of_any meaning (any.SealedInitial day) = day_slate meaning day
slate_of_any meaning (any.OpenFinal day) = day_slate meaning day
slate_of_any meaning (any.SealedFinal day) = day_slate meaning day

abbrev pub state_of : {B : Type 0} → AnyDay B → DayState
state_of (any.OpenInitial day) = OpenInitial
state_of (any.SealedInitial day) = SealedInitial
state_of (any.OpenFinal day) = OpenFinal
state_of (any.SealedFinal day) = SealedFinal

abbrev pub course_of_any : {B : Type 0} → Ghosts B → AnyDay B → Course
course_of_any meaning day = record { state = state_of day; slate = slate_of_any meaning day }

-- one call on a day: what it is answered, and what the day is after it
pub record Steps {B : Type 0} (meaning : Ghosts B) (before : AnyDay B) (call : Call) (given : Answer) (after : AnyDay B) : Type 0 where
  pub answer : given ≡ answer_to (setting_of_any meaning before) (course_of_any meaning before) call
  pub course : course_of_any meaning after ≡ stepped (setting_of_any meaning before) (course_of_any meaning before) call
  pub setting : setting_of_any meaning after ≡ setting_of_any meaning before
