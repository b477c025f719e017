-- What R-2 promises (document 02): no overtaking. While a request waits, no later one on its resource is granted, except that NL may be granted at once.
use Rattle.std.specs.Prelude.{◌≡◌, ◌≢◌, true, false, List, [], ◌∷◌, ℕ, ◌≤◌}
use Rattle.modes.specs.Modes.{NL}
use Rattle.tables.specs.Lists.{count}
use Rattle.tables.specs.State.{granted, waiting, waits, queue, of_locks}
use Rattle.tables.specs.Layout.{read_chain, read_lock}
use Rattle.rules.specs.Deadlock.{before}
use Rattle.rules.specs.Entries.{Lent, Outcome, Call, to_request, call_entry, start_entry}
use Rattle.rules.specs.Theorem.{lent_after_calls, IsLock, conversion_waits}
use Rattle.rules.specs.Marks.{words_after, lock_after}

-- THE QUEUE. The lock k waits on r: its record says so
pub record Waits (ws : List ℕ) (r k : ℕ) : Type 0 where
  pub is_lock : IsLock ws k
  pub is_waiting : waiting (read_lock ws k) ≡ true
  pub on_it : (read_lock ws k).resource ≡ r

abbrev pub wait_chain : List ℕ → ℕ → List ℕ
wait_chain ws r = read_chain ws (of_locks (queue r waits))

-- j and k wait on r, and j stands before k
pub record Earlier (ws : List ℕ) (r j k : ℕ) : Type 0 where
  pub first_waits : Waits ws r j
  pub second_waits : Waits ws r k
  pub stands_before : 1 ≤ count j (before k (wait_chain ws r))

-- the lock that an accepted request makes, by the number that it answers, and its resource
abbrev pub its_lock : Outcome → ℕ
its_lock o = o.said.number

abbrev pub its_resource : Outcome → ℕ
its_resource o = (lock_after o (its_lock o)).resource

-- ONE CALL c on the tables t, and its outcome o
pub record KeepsOrder (c : Call) (t : Lent) (o : Outcome) : Type 0 where
  -- (1) "a new request is granted at once only if the wait chain is empty as well": where one of another mode than NL answers 1, nobody waited
  pub none_past : (client m f : ℕ) (n : List ℕ) → c ≡ to_request client m f n → m ≢ NL → o.said.answer ≡ 1 →
      (k : ℕ) → Waits t.words (its_resource o) k → ⊥
  -- one that answers 2 waits, so no call grants its own request past those that wait
  pub two_waits : (client m f : ℕ) (n : List ℕ) → c ≡ to_request client m f n → o.said.answer ≡ 2 →
      Waits (words_after o) (its_resource o) (its_lock o)
  -- NL "needs only an empty convert chain": one waits only where a conversion does
  pub null_passes : (client f : ℕ) (n : List ℕ) → c ≡ to_request client NL f n → o.said.answer ≡ 2 →
      conversion_waits t.words (its_resource o) ≡ true
  -- (2) "first in, first out": of two that wait on one resource the later is not granted while the earlier still waits
  pub not_before : (r j k : ℕ) → Earlier t.words r j k → Waits (words_after o) r j → granted (lock_after o k) ≡ false
  -- those that still wait keep their order
  pub same_order : (r j k : ℕ) → Earlier t.words r j k → Waits (words_after o) r j → Waits (words_after o) r k → Earlier (words_after o) r j k
  -- and one that comes to wait stands behind all that waited before it and still do
  pub joins_behind : (r j k : ℕ) → Waits t.words r j → Waits (words_after o) r j → (Waits t.words r k → ⊥) → Waits (words_after o) r k →
      Earlier (words_after o) r j k

-- "Flag 4 follows the new rule": 13 exactly where the request would answer 2
pub record Declines (client m : ℕ) (n : List ℕ) (t : Lent) : Type 0 where
  pub declined : (call_entry (to_request client m 0 n) t).said.answer ≡ 2 → (call_entry (to_request client m 4 n) t).said.refusal ≡ 13
  pub no_other : (call_entry (to_request client m 4 n) t).said.refusal ≡ 13 → (call_entry (to_request client m 0 n) t).said.answer ≡ 2

-- A LIST OF CALLS. The lock k waits on r before its first call and after each of them. So it stayed in the queue: before a lock's number is used again,
-- some call leaves it free.
abbrev pub WaitsThrough : ℕ → ℕ → List Call → Lent → Type 0
WaitsThrough r k [] t = Waits t.words r k
WaitsThrough r k (c ∷ cs) t = Waits t.words r k × WaitsThrough r k cs (call_entry c t).lent_after

-- the tables t, whatever is called next
pub record NoOvertaking (t : Lent) : Type 0 where
  pub each_call : (c : Call) → KeepsOrder c t (call_entry c t)
  pub flag_4 : (client m : ℕ) (n : List ℕ) → Declines client m n t
  -- j waits, k comes to wait by the call q, and both wait through a list of calls: if j still waits after one call more, that one did not grant k
  pub in_turn : (q : Call) (cs : List Call) (c : Call) (r j k : ℕ) → Waits t.words r j → (Waits t.words r k → ⊥) →
      WaitsThrough r j cs (call_entry q t).lent_after → WaitsThrough r k cs (call_entry q t).lent_after →
      let o = call_entry c (lent_after_calls cs (call_entry q t).lent_after) in
      Waits (words_after o) r j → granted (lock_after o k) ≡ false

-- THE THEOREM: it holds of the tables that any list of calls leaves, from those that `start` leaves. Proved as `no_overtaking`.
abbrev pub NoOvertakingTheorem : Type 0
NoOvertakingTheorem =
    (t : Lent) (r l : ℕ) → (start_entry t r l).said.refusal ≡ 0 → (cs : List Call) → NoOvertaking (lent_after_calls cs (start_entry t r l).lent_after)
