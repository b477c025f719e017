-- Runs of the program: its entries called one after the other from `start` on, each lent the words and slots that the one before it left. A turn
-- is what the contract of the call's entry says, `Keeps` (rules/Entries).
use Rattle.std.specs.Prelude.{◌≡◌, false, List, [], ◌∷◌, ℕ, ◌+◌, Option, Result}
use Rattle.tables.specs.State.{granted}
use Rattle.tables.specs.Layout.{read_lock}
use Rattle.rules.specs.declared.Said.{Said}
use Rattle.rules.specs.Entries.{Lent, outcome, Call, to_request, to_convert, to_release, to_cancel, to_purge, to_break, to_poll, Keeps, start_entry}
use Rattle.rules.specs.Theorem.{QueuesHold, SumsHold}
use Rattle.rules.specs.Marks.{MarksRight}
use Rattle.rules.specs.NoOvertaking.{Waits, KeepsOrder}
use Rattle.rules.specs.Heard.{HeardRight}
use Rattle.answers.specs.declared.Refusal.{Refusal}
use Rattle.answers.specs.declared.Requested.{Requested}
use Rattle.answers.specs.declared.Converted.{Converted}
use Rattle.answers.specs.declared.Cancelled.{Cancelled}
use Rattle.answers.specs.declared.Purged.{Purged}
use Rattle.answers.specs.declared.Notice.{Notice}
use Rattle.answers.specs.Answers as answers

-- what the entry of a call answers, and document 01's numbers for it
abbrev pub Answer : Call → Type 0
Answer (to_request c m f n) = Result Requested Refusal
Answer (to_convert c k m f v) = Result Converted Refusal
Answer (to_release c k f v) = Result Unit Refusal
Answer (to_cancel c k) = Result Cancelled Refusal
Answer (to_purge c) = Result Purged Refusal
Answer to_break = Result (Option ℕ) Refusal
Answer (to_poll c) = Result (Option Notice) Refusal

abbrev pub numbers_of : (call : Call) → Answer call → Said
numbers_of (to_request c m f n) x = answers.requested x
numbers_of (to_convert c k m f v) x = answers.converted x
numbers_of (to_release c k f v) x = answers.done x
numbers_of (to_cancel c k) x = answers.cancelled x
numbers_of (to_purge c) x = answers.purged x
numbers_of to_break x = answers.broken x
numbers_of (to_poll c) x = answers.polled x

-- one turn: a call, what its entry answered, and the tables that it left
pub record Turn : Type 0 where
  pub call : Call
  pub answer : Answer call
  pub left : Lent

abbrev pub said : Turn → Said
said u = numbers_of u.call u.answer

-- each turn keeps the contract of its call's entry, and was lent what the one before it left
abbrev pub Run : Lent → List Turn → Type 0
Run t [] = Unit {0}
Run t (u ∷ us) = Keeps u.call t (said u) u.left × Run u.left us

-- the tables after a run, its calls, and a number summed up over its answers
unfoldable pub lent_after_run : Lent → List Turn → Lent
lent_after_run t [] = t
lent_after_run t (u ∷ us) = lent_after_run u.left us

unfoldable pub calls : List Turn → List Call
calls [] = []
calls (u ∷ us) = u.call ∷ calls us

unfoldable pub sum_of_run : (Call → Said → ℕ) → List Turn → ℕ
sum_of_run term [] = 0
sum_of_run term (u ∷ us) = term u.call (said u) + sum_of_run term us

-- demand 3 and R-3's sum, of a run: the queues hold in the tables that it left, and its own answers add up
pub record RunHolds (t : Lent) (us : List Turn) : Type 0 where
  pub queues : QueuesHold (lent_after_run t us).words (lent_after_run t us).slots
  pub sums : SumsHold (λ term. sum_of_run term us) (lent_after_run t us).words

-- THE QUEUE THEOREM ABOUT THE PROGRAM. `start` was lent t, of any content, accepted and left u; then any list of calls. Proved as `program_theorem`.
abbrev pub ProgramTheorem : Type 0
ProgramTheorem =
    (t : Lent) (r l : ℕ) (x : Result Unit Refusal) (u : Lent) → outcome (answers.done x) u ≡ start_entry t r l → (answers.done x).refusal ≡ 0
    → (us : List Turn) → Run u us → RunHolds u us

-- THE MARKS THEOREM ABOUT THE PROGRAM: after every run, every further turn does to the marks what R-1 promises. Proved as `program_marks`.
abbrev pub ProgramMarks : Type 0
ProgramMarks =
    (t : Lent) (r l : ℕ) (x : Result Unit Refusal) (u : Lent) → outcome (answers.done x) u ≡ start_entry t r l → (answers.done x).refusal ≡ 0
    → (us : List Turn) → Run u us → (v : Turn) → Keeps v.call (lent_after_run u us) (said v) v.left
    → MarksRight v.call (lent_after_run u us) (outcome (said v) v.left)

-- EACH LOCK IS HEARD OF ONCE BY THE PROGRAM (R-3): after every run, every further turn opens and closes locks as R-3 promises. Proved as `program_heard`.
abbrev pub ProgramHeard : Type 0
ProgramHeard =
    (t : Lent) (r l : ℕ) (x : Result Unit Refusal) (u : Lent) → outcome (answers.done x) u ≡ start_entry t r l → (answers.done x).refusal ≡ 0
    → (us : List Turn) → Run u us → (v : Turn) → Keeps v.call (lent_after_run u us) (said v) v.left
    → HeardRight v.call (lent_after_run u us) (outcome (said v) v.left)

-- NO OVERTAKING BY THE PROGRAM (R-2). The lock k waits on r before a run and after each of its turns
abbrev pub WaitsThroughRun : ℕ → ℕ → List Turn → Lent → Type 0
WaitsThroughRun r k [] t = Waits t.words r k
WaitsThroughRun r k (u ∷ us) t = Waits t.words r k × WaitsThroughRun r k us u.left

-- every further turn keeps the order; a request with flag 4 is refused with 13 exactly where without it it would answer 2; and of two requests that wait
-- through a run the later is not granted while the earlier still waits
pub record TurnsInOrder (t : Lent) : Type 0 where
  pub each_turn : (v : Turn) → Keeps v.call t (said v) v.left → KeepsOrder v.call t (outcome (said v) v.left)
  pub flag_4 : (client m : ℕ) (n : List ℕ) (u v : Turn) → u.call ≡ to_request client m 0 n → v.call ≡ to_request client m 4 n →
      Keeps u.call t (said u) u.left → Keeps v.call t (said v) v.left →
      ((said u).answer ≡ 2 → (said v).refusal ≡ 13) × ((said v).refusal ≡ 13 → (said u).answer ≡ 2)
  pub in_turn : (q : Turn) (vs : List Turn) (v : Turn) → Run t (q ∷ vs) → Keeps v.call (lent_after_run q.left vs) (said v) v.left →
      (r j k : ℕ) → Waits t.words r j → (Waits t.words r k → ⊥) → WaitsThroughRun r j vs q.left → WaitsThroughRun r k vs q.left →
      Waits v.left.words r j → granted (read_lock v.left.words k) ≡ false

-- after every run. Proved as `program_no_overtaking`.
abbrev pub ProgramNoOvertaking : Type 0
ProgramNoOvertaking =
    (t : Lent) (r l : ℕ) (x : Result Unit Refusal) (u : Lent) → outcome (answers.done x) u ≡ start_entry t r l → (answers.done x).refusal ≡ 0
    → (us : List Turn) → Run u us → TurnsInOrder (lent_after_run u us)
