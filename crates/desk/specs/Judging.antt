-- What a line on an opened day does, and what it is answered. Assumes nothing.
use Rattle.std.specs.Prelude.{ℕ, List, Some, None, Ok, Err, Option, Result}
use Rattle.std.specs.Borrow.{Bor}
use Rattle.refusal.specs.declared.Refusal.{Refusal}
use Rattle.day.specs.Slate.{Setting}
use Rattle.run.specs.declared.call.Answer.{Answer}
use Rattle.run.specs.declared.call.Answer.TheVariants as answer
use Rattle.run.specs.declared.call.Call.{Call}
use Rattle.run.specs.declared.call.Call.TheVariants as call
use Rattle.run.specs.declared.call.Entry.TheVariants.{PostProfiled}
use Rattle.run.specs.declared.call.DayState.{DayState}
use Rattle.run.specs.declared.call.DayState.TheVariants as day
use Rattle.run.specs.Courses.{Course, stepped, answer_to}
use Rattle.desk.specs.declared.order.Order.{Order}
use Rattle.desk.specs.declared.order.Order.TheVariants as order
use Rattle.desk.specs.declared.reply.Reply.{Reply}
use Rattle.desk.specs.declared.reply.Reply.TheVariants as reply
use Rattle.desk.specs.declared.reply.Rejection.{Rejection}
use Rattle.desk.specs.declared.reply.Rejection.TheVariants.{Unlawful, Refused}
use Rattle.desk.specs.declared.reply.Untaken.TheVariants.{State}

-- the call of a day that an order is, with the weights of its line; none for an order on a draft, nor for a
-- statement, which changes nothing and is written apart
abbrev pub call_of : Order → Bor (List ℕ) → Option Call
call_of (order.Day n) weights = None
call_of (order.Segment n row) weights = None
call_of (order.Site n) weights = None
call_of order.Grid weights = None
call_of (order.Slips n) weights = None
call_of order.Distribution weights = None
call_of order.Transmission weights = None
call_of (order.DistributionFactor n letter q f) weights = None
call_of (order.TransmissionFactor n q f) weights = None
call_of (order.Codes n) weights = None
call_of order.Open weights = None
call_of (order.Profile s reading) weights = Some (call.Entry (PostProfiled s reading weights))
call_of (order.Statement q) weights = None
call_of (order.Call c) weights = Some c

-- a call is done as the law of a day has it; anything else changes nothing, and is unlawful
abbrev pub course_after : Setting → Course → Option Call → Course
course_after setting course None = course
course_after setting course (Some c) = stepped setting course c

abbrev pub answer_in : Setting → Course → Option Call → Answer
answer_in setting course None = answer.Unlawful
answer_in setting course (Some c) = answer_to setting course c

-- ---- the answer as it is said
-- a reopening is what is done on a day sealed as initial, and a seal on any other
abbrev pub done_in : DayState → Reply
done_in day.OpenInitial = reply.Sealed
done_in day.SealedInitial = reply.Reopened
done_in day.OpenFinal = reply.Sealed
done_in day.SealedFinal = reply.Sealed

abbrev pub or_refused : {X : Type 0} → (X → Reply) → Result X Refusal → Result Reply Rejection
or_refused said (Ok x) = Ok (said x)
or_refused said (Err refusal) = Err (Refused refusal)

-- a call that is not taken is unlawful by the state that the day is in
abbrev pub reply_of : DayState → Answer → Result Reply Rejection
reply_of state answer.Unlawful = Err (Unlawful (State state))
reply_of state answer.Done = Ok (done_in state)
reply_of state (answer.Posted r) = or_refused (λ x. reply.Posted x) r
reply_of state (answer.Profiled r) = or_refused (λ x. reply.Profiled x) r
reply_of state (answer.Withdrawn r) = or_refused (λ x. reply.Withdrawn x) r
reply_of state (answer.Figured r) = or_refused (λ x. reply.Figured x) r
reply_of state (answer.Struck r) = or_refused (λ x. reply.Struck x) r
reply_of state (answer.AdjustedLoads r) = or_refused (λ x. reply.Loads x) r
reply_of state (answer.Rtaml r) = or_refused (λ x. reply.Rtaml x) r
reply_of state (answer.GenerationAndUfe r) = or_refused (λ x. reply.GenerationAndUfe x) r
reply_of state (answer.Shares r) = or_refused (λ x. reply.Shares x) r
