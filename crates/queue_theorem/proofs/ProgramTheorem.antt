-- The theorems about the program: every run of its entries from `start` on.
use mathlib.Core.Path.{◌≡◌, refl, sym, ap, ap₂, subst, ◌∙◌}
use mathlib.Core.Bool.{false}
use mathlib.Core.List.{List, [], ◌∷◌}
use Prim.Native.Nat.{ℕ, ◌+◌}
use Rattle.tables.specs.State.{granted}
use Rattle.tables.specs.Layout.{read_lock}
use Rattle.rules.specs.declared.Said.{Said}
use Rattle.rules.specs.Entries.{Lent, Outcome, outcome, Call, to_request, call_entry, start_entry, Keeps}
use Rattle.rules.specs.Theorem.{lent_after_calls, sum_of, SumsHold, Demand}
use Rattle.rules.specs.Marks.{MarksRight, MarksAfter}
use Rattle.rules.specs.NoOvertaking.{Waits, KeepsOrder, WaitsThrough, NoOvertaking}
use Rattle.rules.specs.Heard.{HeardRight, HeardAfter}
use Rattle.rules.proofs.QueueTheorem.{queue_theorem}
use Rattle.rules.proofs.MarksTheorem.{marks_theorem}
use Rattle.rules.proofs.NoOvertaking.{no_overtaking}
use Rattle.rules.proofs.HeardTheorem.{heard_theorem}
use Rattle.queue_theorem.specs.Runs.{Turn, said, Run, lent_after_run, calls, sum_of_run, RunHolds, ProgramTheorem, ProgramMarks, ProgramHeard, WaitsThroughRun, TurnsInOrder, ProgramNoOvertaking}

-- what a turn left is what the definition of its call leaves
left_is : (t : Lent) (u : Turn) → Keeps u.call t (said u) u.left → u.left ≡ (call_entry u.call t).lent_after
left_is t u k = ap (λ (o : Outcome). o.lent_after) k

-- a run leaves what the definitions of its calls leave, and answers what they answer
pub last_is : (t : Lent) (us : List Turn) → Run t us → lent_after_run t us ≡ lent_after_calls (calls us) t
unfolding lent_after_run calls lent_after_calls
last_is t [] r = refl
last_is t (u ∷ us) r = last_is u.left us r.1 ∙ ap (lent_after_calls (calls us)) (left_is t u r.0)

pub sum_is : (term : Call → Said → ℕ) (t : Lent) (us : List Turn) → Run t us → sum_of_run term us ≡ sum_of term (calls us) t
unfolding sum_of_run calls sum_of
sum_is term t [] r = refl
sum_is term t (u ∷ us) r =
    ap₂ (λ (m n : ℕ). m + n)
    (ap (λ (o : Outcome). term u.call o.said) r.0)
    (sum_is term u.left us r.1 ∙ ap (sum_of term (calls us)) (left_is t u r.0))

-- the sums hold whatever is summed: the one way of summing is the other
holds : (t : Lent) (us : List Turn) → Run t us → Demand (calls us) t → RunHolds t us
holds t us r d =
    record {
      queues = rw (last_is t us r) d.queues;
      sums =
          rw (last_is t us r)
          (subst (λ (sum : (Call → Said → ℕ) → ℕ). SumsHold sum (lent_after_calls (calls us) t).words) (λ i term. sym (sum_is term t us r) i) d.sums);
    }

-- what start left, and that it accepted, as its definition has it
module _ (t u : Lent) (r l : ℕ) (x : Said) (started : outcome x u ≡ start_entry t r l) (accepted : x.refusal ≡ 0) where
  left_by_start : (start_entry t r l).lent_after ≡ u
  left_by_start = sym (ap (λ (o : Outcome). o.lent_after) started)

  start_accepts : (start_entry t r l).said.refusal ≡ 0
  start_accepts = sym (ap (λ (o : Outcome). o.said.refusal) started) ∙ accepted

pub program_theorem : ProgramTheorem
program_theorem t r l x u started accepted us run =
    holds u us run
    (subst (λ (a : Lent). Demand (calls us) a) (left_by_start t u r l _ started accepted) (queue_theorem t r l (start_accepts t u r l _ started accepted) (calls us)))

pub program_marks : ProgramMarks
program_marks t r l x u started accepted us run v kept =
    subst (λ (o : Outcome). MarksRight v.call (lent_after_run u us) o) (sym kept)
    (subst (λ (a : Lent). MarksRight v.call a (call_entry v.call a)) (sym (last_is u us run))
    (subst (MarksAfter (calls us) v.call) (left_by_start t u r l _ started accepted) (marks_theorem t r l (start_accepts t u r l _ started accepted) (calls us) v.call)))

pub program_heard : ProgramHeard
program_heard t r l x u started accepted us run v kept =
    subst (λ (o : Outcome). HeardRight v.call (lent_after_run u us) o) (sym kept)
    (subst (λ (a : Lent). HeardRight v.call a (call_entry v.call a)) (sym (last_is u us run))
    (subst (HeardAfter (calls us) v.call) (left_by_start t u r l _ started accepted) (heard_theorem t r l (start_accepts t u r l _ started accepted) (calls us) v.call)))

-- who waits through a run waits through its calls
waits_through : (r k : ℕ) (t : Lent) (us : List Turn) → Run t us → WaitsThroughRun r k us t → WaitsThrough r k (calls us) t
unfolding calls
waits_through r k t [] run w = w
waits_through r k t (u ∷ us) run w =
    (w.0, subst (WaitsThrough r k (calls us)) (left_is t u run.0) (waits_through r k u.left us run.1 w.1))

turns_in_order : (t : Lent) → NoOvertaking t → TurnsInOrder t
turns_in_order t h =
    record {
      each_turn = λ v kept. subst (λ (o : Outcome). KeepsOrder v.call t o) (sym kept) (h.each_call v.call);
      flag_4 = λ client m n u v eu ev ku kv.
          let a : (said u).answer ≡ (call_entry (to_request client m 0 n) t).said.answer = ap (λ (o : Outcome). o.said.answer) ku ∙ ap (λ (c : Call). (call_entry c t).said.answer) eu in
          let b : (said v).refusal ≡ (call_entry (to_request client m 4 n) t).said.refusal = ap (λ (o : Outcome). o.said.refusal) kv ∙ ap (λ (c : Call). (call_entry c t).said.refusal) ev in
          let d = h.flag_4 client m n in
          (λ z. b ∙ d.declined (sym a ∙ z), λ z. a ∙ d.no_other (sym b ∙ z));
      in_turn = λ q vs v run kept r j k.
          let e = left_is t q run.0 in
          let left : v.left ≡ (call_entry v.call (lent_after_calls (calls vs) q.left)).lent_after =
          left_is (lent_after_run q.left vs) v kept ∙ ap (λ (a : Lent). (call_entry v.call a).lent_after) (last_is q.left vs run.1) in
          λ a b w x. subst (λ (u : Lent). Waits u.words r j → granted (read_lock u.words k) ≡ false) (sym left)
          (subst (λ (u : Lent).
          let o = (call_entry v.call (lent_after_calls (calls vs) u)).lent_after in
          WaitsThrough r j (calls vs) u → WaitsThrough r k (calls vs) u → Waits o.words r j → granted (read_lock o.words k) ≡ false) (sym e)
          (h.in_turn q.call (calls vs) v.call r j k a b) (waits_through r j q.left vs run.1 w) (waits_through r k q.left vs run.1 x));
    }

pub program_no_overtaking : ProgramNoOvertaking
program_no_overtaking t r l x u started accepted us run =
    turns_in_order (lent_after_run u us)
    (subst NoOvertaking (sym (last_is u us run))
    (subst (λ (a : Lent). NoOvertaking (lent_after_calls (calls us) a)) (left_by_start t u r l _ started accepted) (no_overtaking t r l (start_accepts t u r l _ started accepted) (calls us))))
