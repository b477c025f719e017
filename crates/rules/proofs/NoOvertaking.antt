-- No overtaking (R-2): the theorem on the words of valid states, and over lists of calls.
use mathlib.Core.Path.{◌≡◌, refl, sym, ap, subst}
use mathlib.Core.Logic.{◌≢◌}
use mathlib.Core.Bool.{true, false, not}
use mathlib.Core.List.{List, [], ◌∷◌}
use Prim.Native.Nat.{ℕ, ◌≤◌}
use native.Mathlib.Omega.{arith}
use lib.ListN.{length}
use lib.Dec.{eqb, leb}
use borrow.Author.Tests.{eqb-true, ne_eqb, leb-true, leb-false}
use Rattle.modes.specs.Modes.{NL}
use Rattle.tables.specs.Lists.{within, count, first, null}
use Rattle.tables.specs.State.{Tables, started, lock, resource, granted, waiting, converts, waits, queue}
use Rattle.tables.specs.Layout.{read_lock, words}
use Rattle.tables.specs.Validity.{used, Valid}
use Rattle.tables.proofs.Cases.{by_cases, clash, eqb_same}
use Rattle.tables.proofs.Counts.{within_le, count_nil, head_in}
use Rattle.tables.proofs.Valid.{ok_at, used_within}
use Rattle.tables.proofs.ChainMembers.{state_within, on_chain, chain_has, on_waits}
use Rattle.rules.specs.Deadlock.{before}
use Rattle.rules.specs.Calls.{Step, request}
use Rattle.rules.specs.Entries.{Lent, lent_of, written, Call, step_of, to_request}
use Rattle.rules.specs.Theorem.{lent_after_calls, IsLock, conversion_waits}
use Rattle.rules.specs.NoOvertaking.{Waits, wait_chain, Earlier, KeepsOrder, Declines, WaitsThrough, NoOvertaking, NoOvertakingTheorem}
use Rattle.rules.proofs.WaitChains.{still_behind, order_kept, comes_behind}
use Rattle.rules.proofs.EveryCall.{Kept, stepped}
use Rattle.rules.proofs.QueueProperties.{lock_is, chain_is, is_lock, is_resource, head_word}
use Rattle.rules.proofs.QueueTheorem.{play, outcome_is, after_is, play_valid, from_start}
use Rattle.rules.proofs.RequestAnswers.{Entered, entered, waits_then, nobody_waited, conversion_there, flag_declines, flag_only}

-- THE WORDS of a valid state and its wait chains
module _ (t : Tables) (val : Valid t) (r : ℕ) where
  waits_in : (k : ℕ) → Waits (words t) r k → (within (length t.resources) r ≡ true) × (1 ≤ count k (resource t r).wait)
  waits_in k w =
      let e = lock_is t val k w.is_lock in
      let a : waiting (lock t k) ≡ true = rw e at w.is_waiting in
      let b : (lock t k).resource ≡ r = rw e at w.on_it in (
        used_within t r (rw b at (ok_at (used t) (lock t k) 3 (val.core.lock_ok k) a).place.in_use),
        omega (arith, chain_has t val.core.linked (queue r waits) k (waiting_within k a) (rw (a, b, eqb_same r))),
      )
    where
      waiting_within : (k : ℕ) → waiting (lock t k) ≡ true → within (length t.locks) k ≡ true
      waiting_within k a = state_within t k 2 (eqb-true (lock t k).state 3 a)

  wait_chain_is : (k : ℕ) → Waits (words t) r k → wait_chain (words t) r ≡ (resource t r).wait
  wait_chain_is k w = chain_is t val (queue r waits) (is_resource t val r (waits_in k w).0)

  in_waits : (k : ℕ) → 1 ≤ count k (resource t r).wait → Waits (words t) r k
  in_waits k m =
      let i = is_lock t val k (on_chain t val.core.linked (queue r waits) k m).0 in
      let e = lock_is t val k i in
      let o = on_waits t val.core.linked r k m in
      record { is_lock = i; is_waiting = rw e o.0; on_it = rw e o.1 }

  waits_not : (k : ℕ) → (Waits (words t) r k → ⊥) → count k (resource t r).wait ≡ 0
  waits_not k n =
      by_cases (leb 1 (count k (resource t r).wait))
      (λ h. absurd (n (in_waits k (leb-true 1 (count k (resource t r).wait) h))))
      (λ h. omega (arith, leb-false 1 (count k (resource t r).wait) h))

-- a convert chain that is not empty has a head
conversion_seen : (t : Tables) → Valid t → (r : ℕ) → within (length t.resources) r ≡ true → null (resource t r).convert ≡ false → conversion_waits (words t) r ≡ true
conversion_seen t val r w z = rw (head_word t val r (is_resource t val r w) converts) (go (resource t r).convert refl z)
  where
    go : (js : List ℕ) → (resource t r).convert ≡ js → null js ≡ false → not (eqb (first js) 0) ≡ true
    go [] e z = clash true refl z
    go (j ∷ js) e z =
        let p = within_le (length t.locks) j (on_chain t val.core.linked (queue r converts) j (head_in _ j js e)).0 in
        rw (ne_eqb j 0 (omega arith))

-- ONE CALL
module _ (c : Call) (t : Tables) (val : Valid t) where
  abbrev t' : Tables
  t' = (step_of c t).tables

  kept : Kept c t (step_of c t)
  kept = stepped c t val

  before_in_chain : (r j k : ℕ) → Earlier (words t) r j k → 1 ≤ count j (before k (resource t r).wait)
  before_in_chain r j k e = rw (wait_chain_is t val r k e.second_waits) at e.stands_before

  behind : (r j k : ℕ) → Earlier (words t) r j k → Waits (words t') r j → granted (read_lock (words t') k) ≡ false
  behind r j k e w =
      let m = (waits_in t val r k e.second_waits).1 in
      let l = (on_chain t val.core.linked (queue r waits) k m).0 in
      rw (lock_is t' kept.valid k (is_lock t' kept.valid k (rw kept.locks_are l)))
      (still_behind t t' val.core kept.valid.core r (kept.in_order r) j k m (before_in_chain r j k e) (waits_in t' kept.valid r j w).1)

  ordered : (r j k : ℕ) → Earlier (words t) r j k → Waits (words t') r j → Waits (words t') r k → Earlier (words t') r j k
  ordered r j k e w x =
      record {
        first_waits = w;
        second_waits = x;
        stands_before = rw (wait_chain_is t' kept.valid r j w)
            (order_kept t t' val.core kept.valid.core r (kept.in_order r) j k (waits_in t val r k e.second_waits).1 (before_in_chain r j k e)
            (waits_in t' kept.valid r j w).1 (waits_in t' kept.valid r k x).1);
      }

  joins : (r j k : ℕ) → Waits (words t) r j → Waits (words t') r j → (Waits (words t) r k → ⊥) → Waits (words t') r k → Earlier (words t') r j k
  joins r j k v w z x =
      record {
        first_waits = w;
        second_waits = x;
        stands_before = rw (wait_chain_is t' kept.valid r j w)
            (comes_behind t t' val.core kept.valid.core r (kept.in_order r) j k (waits_in t val r j v).1 (waits_in t' kept.valid r j w).1 (waits_not t val r k z)
            (waits_in t' kept.valid r k x).1);
      }

-- A REQUEST, and the resource on which it stands after it
module _ (client m f : ℕ) (n : List ℕ) (t : Tables) (val : Valid t) where
  abbrev s : Step
  s = request client m f n t

  stands : s.said.answer ≢ 0 → Entered m n t s
  stands = entered client m f n t val

  after : Kept (to_request client m f n) t s
  after = stepped (to_request client m f n) t val

  made : s.said.answer ≢ 0 → IsLock (words s.tables) s.said.number
  made h = is_lock s.tables after.valid s.said.number (rw after.locks_are (stands h).is_lock)

  stands_there : (h : s.said.answer ≢ 0) → (read_lock (words s.tables) s.said.number).resource ≡ (stands h).r
  stands_there h = rw (lock_is s.tables after.valid s.said.number (made h)) (stands h).on_it

  request_first : m ≢ NL → s.said.answer ≡ 1 → (k : ℕ) → Waits (words t) (read_lock (words s.tables) s.said.number).resource k → ⊥
  request_first z h k =
      let y : s.said.answer ≢ 0 = omega arith in
      rw (stands_there y)
      (λ w. omega (arith, (waits_in t val (stands y).r k w).1, ap (count k) (nobody_waited m n t s (stands y) z h), count_nil k))

  request_waits : s.said.answer ≡ 2 → Waits (words s.tables) (read_lock (words s.tables) s.said.number).resource s.said.number
  request_waits h =
      let y : s.said.answer ≢ 0 = omega arith in
      record { is_lock = made y; is_waiting = rw (lock_is s.tables after.valid s.said.number (made y)) (waits_then m n t s (stands y) h); on_it = refl }

  request_null : m ≡ NL → s.said.answer ≡ 2 → conversion_waits (words t) (read_lock (words s.tables) s.said.number).resource ≡ true
  request_null e h =
      let y : s.said.answer ≢ 0 = omega arith in
      rw (stands_there y) (conversion_seen t val (stands y).r (stands y).is_resource (conversion_there m n t s (stands y) val e h))

keeps_order : (c : Call) (t : Tables) → Valid t → KeepsOrder c (lent_of t) (written (step_of c t))
keeps_order c t val =
    record {
      none_past = λ client m f n e z.
          subst (λ (x : Call). (step_of x t).said.answer ≡ 1 → (k : ℕ) → Waits (words t) (read_lock (words (step_of x t).tables) (step_of x t).said.number).resource k → ⊥) (sym e)
          (request_first client m f n t val z);
      two_waits = λ client m f n e.
          subst (λ (x : Call). (step_of x t).said.answer ≡ 2 → Waits (words (step_of x t).tables) (read_lock (words (step_of x t).tables) (step_of x t).said.number).resource (step_of x t).said.number) (sym e)
          (request_waits client m f n t val);
      null_passes = λ client f n e.
          subst (λ (x : Call). (step_of x t).said.answer ≡ 2 → conversion_waits (words t) (read_lock (words (step_of x t).tables) (step_of x t).said.number).resource ≡ true) (sym e)
          (request_null client NL f n t val refl);
      not_before = behind c t val;
      same_order = ordered c t val;
      joins_behind = joins c t val;
    }

declines : (client m : ℕ) (n : List ℕ) (t : Tables) → Valid t → Declines client m n (lent_of t)
declines client m n t val =
    record {
      declined = rw (outcome_is (to_request client m 0 n) t val, outcome_is (to_request client m 4 n) t val) (flag_declines client m n t val);
      no_other = rw (outcome_is (to_request client m 0 n) t val, outcome_is (to_request client m 4 n) t val) (flag_only client m n t val);
    }

-- LISTS OF CALLS
starts : (r i : ℕ) (cs : List Call) (t : Lent) → WaitsThrough r i cs t → Waits t.words r i
starts r i [] t w = w
starts r i (c ∷ cs) t w = w.0

through : (cs : List Call) (t : Tables) → Valid t → (r j k : ℕ) → Earlier (words t) r j k → WaitsThrough r j cs (lent_of t) → WaitsThrough r k cs (lent_of t) → Earlier (words (play cs t)) r j k
unfolding play
through [] t val r j k e a b = e
through (c ∷ cs) t val r j k e a b =
    let u = lent_of (step_of c t).tables in
    let a1 : WaitsThrough r j cs u = rw (outcome_is c t val) at a.1 in
    let b1 : WaitsThrough r k cs u = rw (outcome_is c t val) at b.1 in
    through cs (step_of c t).tables (stepped c t val).valid r j k (ordered c t val r j k e (starts r j cs u a1) (starts r k cs u b1)) a1 b1

valid_in_order : (t : Tables) → Valid t → NoOvertaking (lent_of t)
valid_in_order t val =
    record {
      each_call = λ c. rw (outcome_is c t val) (keeps_order c t val);
      flag_4 = λ client m n. declines client m n t val;
      in_turn = λ q cs c r j k.
          let u = (step_of q t).tables in
          let vu = (stepped q t val).valid in
          let v = play_valid cs u vu in
          rw (outcome_is q t val, after_is cs u vu, outcome_is c (play cs u) v)
          (λ x y a b w. behind c (play cs u) v r j k (through cs u vu r j k (joins q t val r j k x (starts r j cs (lent_of u) a) y (starts r k cs (lent_of u) b)) a b) w);
    }

-- after every list of calls from fresh tables
pub no_overtaking : NoOvertakingTheorem
no_overtaking t r l accepted cs =
    from_start (λ u. NoOvertaking (lent_after_calls cs u)) r l
    (λ val. rw (after_is cs (started r l) val) (valid_in_order (play cs (started r l)) (play_valid cs (started r l) val))) t accepted
