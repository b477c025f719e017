-- What a call says, in the papers' numbers, for each case of each answer: document 01's, and document 02's for marks (R-1) and for purge's counts (R-3).
use Rattle.std.specs.Prelude.{ℕ, zero, suc, ◌^◌, Result, Ok, Err, Option, Some, None}
use Rattle.tables.specs.State.{completion_none, completion_granted, completion_denied, completion_conversion_denied, mark_none}
use Rattle.rules.specs.declared.Said.{Said}
use Rattle.rules.specs.Calls.{accepted, accepted_with, refused}
use Rattle.answers.specs.declared.Refusal.{Refusal}
use Rattle.answers.specs.declared.Requested.{Requested}
use Rattle.answers.specs.declared.Converted.{Converted}
use Rattle.answers.specs.declared.Cancelled.{Cancelled}
use Rattle.answers.specs.declared.Purged.{Purged}
use Rattle.answers.specs.declared.Notice.{Notice}
use Rattle.answers.specs.declared.Requested.TheVariants as requested_cases
use Rattle.answers.specs.declared.Converted.TheVariants as converted_cases
use Rattle.answers.specs.declared.Cancelled.TheVariants as cancelled_cases
use Rattle.answers.specs.declared.Notice.TheVariants as notices
use Rattle.answers.specs.Refusals.{refusal_number}

-- the numbers of a case that no call may give: no refusal has a number that a u32 can't have
abbrev pub never : Said
never = refused (2 ^ 32)

-- what is said where a call is accepted, with an answer that has numbers, or refused
abbrev pub answered : {A : Type 0} → (A → Said) → Result A Refusal → Said
answered numbers (Ok x) = numbers x
answered numbers (Err e) = refused (refusal_number e)

-- "Start, image and load answer 0.", and a release "Answers 0."
abbrev pub nothing : Unit {0} → Said
nothing x = accepted 0 0

-- "Granted (answer 1) ..; else it waits (2). The lock number is returned."
abbrev pub request_answer : Requested → Said
request_answer (requested_cases.Granted k) = accepted 1 k
request_answer (requested_cases.Waiting k) = accepted 2 k

-- "Both answer 1 and sweep. Otherwise it joins the convert chain .. (2)."
abbrev pub convert_answer : Converted → Said
convert_answer converted_cases.Granted = accepted 1 0
convert_answer converted_cases.Waiting = accepted 2 0

-- "A conversion goes back to the grant chain (1), a waiting request is freed (2)"
abbrev pub cancel_answer : Cancelled → Said
cancel_answer cancelled_cases.Conversion = accepted 1 0
cancel_answer cancelled_cases.Request = accepted 2 0

-- "Answers the count", and "two more counts: locks purged while blocked, and with a completion unread"
abbrev pub purge_answer : Purged → Said
purge_answer x = accepted_with x.freed x.blocked x.unread

-- "is denied and its number answered; 0 if there is none". Locks are numbered from 1; the denied one is also given as the lock.
abbrev pub denial : Option ℕ → Said
denial (Some zero) = never
denial (Some (suc k)) = accepted (suc k) (suc k)
denial None = accepted 0 0

-- a mark alone: no completion, and the lock, which tells it from no notice. Locks are numbered from 1.
abbrev pub mark_alone : ℕ → ℕ → Said
mark_alone zero m = never
mark_alone (suc k) m = accepted_with completion_none (suc k) m

-- "completion and lock; 0 and 0 if there is none", and "the mark too", which no denied request has
abbrev pub notice : Option Notice → Said
notice (Some (notices.Granted k m)) = accepted_with completion_granted k m
notice (Some (notices.RequestDenied k)) = accepted_with completion_denied k mark_none
notice (Some (notices.ConversionDenied k m)) = accepted_with completion_conversion_denied k m
notice (Some (notices.Marked k m)) = mark_alone k m
notice None = accepted_with completion_none 0 mark_none

-- "and the true count"
abbrev pub count_answer : ℕ → Said
count_answer n = accepted n 0

-- what each call says
abbrev pub done : Result Unit Refusal → Said
done = answered nothing

abbrev pub requested : Result Requested Refusal → Said
requested = answered request_answer

abbrev pub converted : Result Converted Refusal → Said
converted = answered convert_answer

abbrev pub cancelled : Result Cancelled Refusal → Said
cancelled = answered cancel_answer

abbrev pub purged : Result Purged Refusal → Said
purged = answered purge_answer

abbrev pub broken : Result (Option ℕ) Refusal → Said
broken = answered denial

abbrev pub polled : Result (Option Notice) Refusal → Said
polled = answered notice

abbrev pub list_said : Result ℕ Refusal → Said
list_said = answered count_answer
