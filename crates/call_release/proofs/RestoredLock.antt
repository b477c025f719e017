-- A conversion that ends without a grant, and a waiting request that is taken back.
use mathlib.Core.Path.{◌≡◌, refl, sym, ◌∙◌, ap, subst}
use mathlib.Core.Bool.{true, false}
use mathlib.Core.List.{List}
use Prim.Native.Nat.{ℕ, ◌≤◌}
use native.Mathlib.Omega.{arith}
use lib.ListN.{length}
use borrow.Author.Rules.{rules}
use borrow.Author.Tests.{eqb-true, eq-eqb, ne_eqb}
use Rattle.tables.specs.declared.Lock.{Lock}
use Rattle.tables.specs.Lists.{within}
use Rattle.tables.specs.State.{Tables, lock, granted, converting, holds, move}
use Rattle.tables.specs.Layout.{words, slots, locks_in, read_lock}
use Rattle.tables.proofs.Cases.{or_right}
use Rattle.tables.proofs.SlotChanges.{slots_move}
use Rattle.tables.specs.Validity.{used, Place, LockOk}
use Rattle.tables.proofs.Valid.{ok_at, used_within, resources_length, Fits, core_move, blocked_lock_place}
use Rattle.tables.proofs.ChainMembers.{state_within, blocked_within}
use Rattle.table_fields.specs.Sizes.{Sized}
use Rattle.table_fields.proofs.StateWords.{core_sized, lock_high, lock_is, lock_low}
use Rattle.rules.specs.Queues.{sweep, free_lock}
use Rattle.rules.specs.Calls.{restored, accepted_step, cancel_change}
use Rattle.rules.specs.Accepted.{Cancellable}
use Rattle.rules.proofs.CallsKeepSound.{restored_ok}
use Rattle.table_chains.specs.Promises.{Some, Turns, Movable, Moving, Moved, Resourced}
use Rattle.queues.specs.Promises.{Locked}
use Rattle.queues.proofs.ResourceRecord.{slots_sweep, slots_free}
use Rattle.queues.proofs.StateAfter.{freed_resourced}
use Rattle.answers.specs.Answers.{cancel_answer}
use Rattle.answers.specs.declared.Cancelled.TheVariants as cancelled_cases
use Rattle.answers.specs.Promises.{MakesWords}
use Rattle.call_release.specs.Promises.{Restorable, restore}
use Rattle.answers.proofs.Steps.{stepped}

-- STATES. The lock k converts
module _ (k e : ℕ) (t : Tables) (p : Restorable k e t) where
  place : Place (used t) (lock t k)
  place = (ok_at (used t) (lock t k) 2 (p.core.lock_ok k) p.converts).place

  in_range : within (length t.locks) k ≡ true
  in_range = state_within t k 1 (eqb-true (lock t k).state 2 p.converts)

  back_ok : LockOk (used t) (restored e (lock t k))
  back_ok = restored_ok (used t) (lock t k) e place p.notice p.not_denied

  movable : Movable (lock t k).resource k (restored e (lock t k)) t
  movable = record { core = p.core; in_range = in_range; near_old = λ z. refl; near_new = λ z. refl; ok = back_ok }

  abbrev back : Tables
  back = move (lock t k).resource k (restored e (lock t k)) t

  -- it held that mode beside the others before
  back_fits : holds (restored e (lock t k)) ≡ true → Fits t (lock t k).resource k (lock t k).held
  back_fits z j n q o = p.core.agree j k n q (or_right (granted (lock t k)) _ p.converts) o

  back_resourced : Resourced (lock t k).resource back
  back_resourced =
      record {
        core = core_move (lock t k).resource k (restored e (lock t k)) t p.core in_range (λ z. refl) (λ z. refl) back_ok back_fits;
        in_range = rw (resources_length (lock t k).resource k (restored e (lock t k)) t) (used_within t (lock t k).resource place.in_use);
      }

pub slots_restore : (k e : ℕ) (t : Tables) → slots (restore k e t) ≡ slots t
unfolding restore
slots_restore k e t = slots_sweep (lock t k).resource _ ∙ slots_move (lock t k).resource k (restored e (lock t k)) t

-- restore
module _ (k e : ℕ) (a : List ℕ) where
  module _ (s : Some (Restorable k e) a) where
    pub restore_sized : Sized a
    restore_sized = core_sized s.state a s.is s.good.core

    pub restore_low : 1 ≤ k
    restore_low = lock_low s.state a s.is k (in_range k e s.state s.good)

    pub restore_high : k ≤ locks_in a
    restore_high = lock_high s.state a s.is k (in_range k e s.state s.good)

  module _ (l : Lock) (el : l ≡ read_lock a k) (m : Lock) (em : m ≡ restored e l) where
    l_is : (t : Tables) → Restorable k e t → a ≡ words t → l ≡ lock t k
    l_is t p is = lock_is t a is k (in_range k e t p) l el

    m_is : (t : Tables) → Restorable k e t → a ≡ words t → m ≡ restored e (lock t k)
    m_is t p is = em ∙ ap (λ (o : Lock). restored e o) (l_is t p is)

    pub restore_moving : Some (Restorable k e) a → Moving k m a
    restore_moving s =
        record {
          state = s.state;
          resource = (lock s.state k).resource;
          good = rw (m_is s.state s.good s.is) (movable k e s.state s.good);
          is = s.is;
        }

    module _ (b : List ℕ) (moved : Moved k m a b) where
      moved_at : (t : Tables) (p : Restorable k e t) → a ≡ words t → b ≡ words (back k e t p)
      moved_at t p is = (subst (λ (o : Lock). Moved k o a b) (m_is t p is) moved).then (lock t k).resource t (movable k e t p) is

      pub restore_resourced : Some (Restorable k e) a → Some (Resourced l.resource) b
      restore_resourced s =
          record {
            state = back k e s.state s.good;
            good = rw (l_is s.state s.good s.is) (back_resourced k e s.state s.good);
            is = moved_at s.state s.good s.is;
          }

      pub restore_made : (d : List ℕ) → Turns (Resourced l.resource) (sweep l.resource) b d → Turns (Restorable k e) (restore k e) a d
      unfolding restore
      restore_made d sweeps = record {
        then = λ t p is.
            (subst (λ (o : Lock). Turns (Resourced o.resource) (sweep o.resource) b d) (l_is t p is) sweeps).then (back k e t p) (back_resourced k e t p) (moved_at t p is);
      }

pub ruleset restore_laws = (rules, restore_sized, restore_low, restore_high, restore_moving, restore_resourced, restore_made)

-- STATES. The lock k is blocked
module _ (k : ℕ) (t : Tables) (p : Cancellable k t) where
  blocked_there : Place (used t) (lock t k)
  blocked_there = blocked_lock_place (used t) (lock t k) (p.valid.core.lock_ok k) p.is_blocked

  pub blocked_range : within (length t.locks) k ≡ true
  blocked_range = blocked_within t k p.is_blocked

  pub blocked_resource : within (length t.resources) (lock t k).resource ≡ true
  blocked_resource = used_within t (lock t k).resource blocked_there.in_use

  locked : Locked k t
  locked = record { core = p.valid.core; in_range = blocked_range }

cancel_converts : (k : ℕ) (t : Tables) → converting (lock t k) ≡ true → cancel_change k t ≡ accepted_step 1 0 (restore k 0 t)
unfolding cancel_change restore
cancel_converts k t h = rw (h, cancel_change)

cancel_waits : (k : ℕ) (t : Tables) → converting (lock t k) ≡ false → cancel_change k t ≡ accepted_step 2 0 (sweep (lock t k).resource (free_lock k t))
unfolding cancel_change
cancel_waits k t h = rw (h, cancel_change)

-- cancel_change
module _ (k : ℕ) (a : List ℕ) where
  module _ (s : Some (Cancellable k) a) where
    pub cancel_sized : Sized a
    cancel_sized = core_sized s.state a s.is s.good.valid.core

    pub cancel_low : 1 ≤ k
    cancel_low = lock_low s.state a s.is k (blocked_range k s.state s.good)

    pub cancel_high : k ≤ locks_in a
    cancel_high = lock_high s.state a s.is k (blocked_range k s.state s.good)

    pub cancel_locked : Some (Locked k) a
    cancel_locked = record { state = s.state; good = locked k s.state s.good; is = s.is }

  module _ (l : Lock) (el : l ≡ read_lock a k) where
    lock_now : (t : Tables) → Cancellable k t → a ≡ words t → l ≡ lock t k
    lock_now t p is = lock_is t a is k (blocked_range k t p) l el

    module _ (q : l.state ≡ 2) where
      converts_at : (t : Tables) → Cancellable k t → a ≡ words t → converting (lock t k) ≡ true
      converts_at t p is = rw (← (lock_now t p is)) (eq-eqb l.state 2 q)

      pub restorable_at : (e : ℕ) → e ≤ 3 → (e ≡ 2 → ⊥) → (t : Tables) → Cancellable k t → a ≡ words t → Restorable k e t
      restorable_at e low n t p is = record { core = p.valid.core; converts = converts_at t p is; notice = low; not_denied = n }

      pub cancel_restorable : Some (Cancellable k) a → Some (Restorable k 0) a
      cancel_restorable s = record { state = s.state; good = restorable_at 0 (omega arith) (omega arith) s.state s.good s.is; is = s.is }

      pub cancel_conversion : (b : List ℕ) → Turns (Restorable k 0) (restore k 0) a b → MakesWords (Cancellable k) (cancel_change k) a b (cancel_answer cancelled_cases.Conversion)
      cancel_conversion b turns = record {
        then = λ t p is.
            stepped (cancel_change k t) 1 0 (restore k 0 t) b (slots t) (cancel_converts k t (converts_at t p is))
            (turns.then t (restorable_at 0 (omega arith) (omega arith) t p is) is) (sym (slots_restore k 0 t));
      }

    module _ (b : List ℕ) (frees : Turns (Locked k) (free_lock k) a b) where
      freed_at : (t : Tables) → Cancellable k t → a ≡ words t → b ≡ words (free_lock k t)
      freed_at t p is = frees.then t (locked k t p) is

      pub cancel_resourced : Some (Cancellable k) a → Some (Resourced l.resource) b
      cancel_resourced s =
          let t = s.state in
          let p = s.good in
          record {
            state = free_lock k t;
            good = rw (lock_now t p s.is) (freed_resourced k t (locked k t p) (lock t k).resource (blocked_resource k t p));
            is = freed_at t p s.is;
          }

      pub cancel_request : (l.state ≡ 2 → ⊥) → (d : List ℕ) → Turns (Resourced l.resource) (sweep l.resource) b d →
          MakesWords (Cancellable k) (cancel_change k) a d (cancel_answer cancelled_cases.Request)
      cancel_request n d sweeps = record {
        then = λ t p is.
            let r = (lock t k).resource in
            let c : converting (lock t k) ≡ false = rw (← (lock_now t p is)) (ne_eqb l.state 2 n) in
            stepped (cancel_change k t) 2 0 (sweep r (free_lock k t)) d (slots t) (cancel_waits k t c)
            ((subst (λ (o : Lock). Turns (Resourced o.resource) (sweep o.resource) b d) (lock_now t p is) sweeps).then (free_lock k t)
            (freed_resourced k t (locked k t p) r (blocked_resource k t p)) (freed_at t p is))
            (sym (slots_sweep r (free_lock k t) ∙ slots_free k t));
      }

pub ruleset cancel_laws = (rules, cancel_sized, cancel_low, cancel_high, cancel_locked, cancel_restorable, cancel_conversion, cancel_resourced, cancel_request)
