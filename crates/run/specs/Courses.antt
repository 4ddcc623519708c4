-- What a list of calls leads to, worked out from the calls' arguments alone. Assumes nothing.
--     course    the state that the calls so far have brought a day to, and the slate
use Rattle.std.specs.Prelude.{Bool, List, is_some, Some, None, fold, Option}
use Rattle.day.specs.Slate.{Setting, Slate, blank_slate}
use Rattle.run.specs.declared.call.Answer.{Answer}
use Rattle.run.specs.declared.call.Answer.TheVariants.{Unlawful, Done}
use Rattle.run.specs.declared.call.Call.{Call}
use Rattle.run.specs.declared.call.Call.TheVariants.{Entry, Question, Seal, Reopen}
use Rattle.run.specs.declared.call.DayState.{DayState}
use Rattle.run.specs.declared.call.DayState.TheVariants.{OpenInitial, SealedInitial, OpenFinal, SealedFinal}
use Rattle.run.specs.Calls.{entry_answer, entered, question_answer}

-- ---- which calls a state takes

-- an open day takes entries
abbrev pub for_entry : DayState → Option DayState
for_entry OpenInitial = Some OpenInitial
for_entry SealedInitial = None
for_entry OpenFinal = Some OpenFinal
for_entry SealedFinal = None

-- and can be sealed
abbrev pub for_seal : DayState → Option DayState
for_seal OpenInitial = Some SealedInitial
for_seal SealedInitial = None
for_seal OpenFinal = Some SealedFinal
for_seal SealedFinal = None

-- only a day sealed as initial can be reopened
abbrev pub for_reopen : DayState → Option DayState
for_reopen OpenInitial = None
for_reopen SealedInitial = Some OpenFinal
for_reopen OpenFinal = None
for_reopen SealedFinal = None

-- the state after a call, where the day's state takes it
abbrev pub next : DayState → Call → Option DayState
next state (Entry e) = for_entry state
next state (Question q) = Some state
next state Seal = for_seal state
next state Reopen = for_reopen state

-- the state after a list of calls, if each was taken
abbrev pub next_if : Option DayState → Call → Option DayState
next_if None call = None
next_if (Some state) call = next state call

abbrev pub state_after : List Call → Option DayState
state_after calls = fold next_if (Some OpenInitial) calls

abbrev pub lawful_list : List Call → Bool
lawful_list calls = is_some (state_after calls)

-- ---- what a call that is taken writes, and what it is answered

abbrev pub written : Setting → Slate → Call → Slate
written setting slate (Entry e) = entered setting slate e
written setting slate (Question q) = slate
written setting slate Seal = slate
written setting slate Reopen = slate

abbrev pub reply : Setting → Slate → Call → Answer
reply setting slate (Entry e) = entry_answer setting slate e
reply setting slate (Question q) = question_answer setting slate q
reply setting slate Seal = Done
reply setting slate Reopen = Done

-- ---- the course

pub record Course : Type 0 where
  pub state : DayState
  pub slate : Slate

-- a day that was just opened
abbrev pub opened : Course
opened = record { state = OpenInitial; slate = blank_slate }

-- a call that is not taken changes nothing
abbrev pub moved_to : Option DayState → Slate → Course → Course
moved_to None slate course = course
moved_to (Some state) slate course = record { state = state; slate = slate }

abbrev pub stepped : Setting → Course → Call → Course
stepped setting course call = moved_to (next course.state call) (written setting course.slate call) course

abbrev pub reply_if : Option DayState → Answer → Answer
reply_if None answer = Unlawful
reply_if (Some state) answer = answer

abbrev pub answer_to : Setting → Course → Call → Answer
answer_to setting course call = reply_if (next course.state call) (reply setting course.slate call)

-- where a list of calls leads, from the opening of the day on
abbrev pub course_of : Setting → List Call → Course
course_of setting calls = fold (stepped setting) opened calls
