-- One lock is purged: laws of states, and for the code.
use mathlib.Core.Path.{◌≡◌, refl, sym, ◌∙◌, ap}
use mathlib.Core.Logic.{◌≢◌}
use mathlib.Core.Bool.{true}
use mathlib.Core.List.{List, []}
use Prim.Native.Nat.{ℕ, ◌≤◌, ◌<◌}
use lib.ListN.{length}
use borrow.Author.Rules.{rules}
use borrow.Author.Tests.{le-leb, lt-leb}
use Rattle.tables.specs.declared.Lock.{Lock}
use Rattle.tables.specs.State.{Tables, no_lock, lock}
use Rattle.tables.specs.Layout.{words, slots, locks_in, read_lock}
use Rattle.tables.proofs.Cases.{clash}
use Rattle.tables.specs.Validity.{used, Core}
use Rattle.tables.proofs.StateCases.{ok_numbered}
use Rattle.tables.proofs.Valid.{used_within, lock_other, locks_length, resources_length}
use Rattle.rules.specs.Queues.{free_lock}
use Rattle.rules.specs.Calls.{stores, spoils, strong, with_value, leave_value, purge_lock}
use Rattle.rules.proofs.ResourceChanges.{Quiet, leave_quiet}
use Rattle.rules.proofs.PurgeKeepsSound.{strong_used, spoils_only}
use Rattle.table_fields.specs.Sizes.{Sized}
use Rattle.table_fields.proofs.StateWords.{core_sized, lock_low, lock_high, lock_is}
use Rattle.table_chains.specs.Promises.{Some, Turns, Changes}
use Rattle.queues.specs.Promises.{Locked, SomeTables, Valued}
use Rattle.queues.proofs.StateAfter.{freed_core}
use Rattle.queues.proofs.ResourceRecord.{slots_free}
use Rattle.call_purge.specs.PurgedLocks.{spoil}

-- STATES
spoil_weak : (k : ℕ) (t : Tables) → (lock t k).held < 4 → spoil k t ≡ t
unfolding spoil strong leave_value
spoil_weak k t h = rw (lt-leb 4 (lock t k).held h, leave_value)

-- no value is stored: whichever is lent
spoil_strong : (k : ℕ) (t : Tables) (v : List ℕ) → 4 ≤ (lock t k).held → leave_value true 2 v (lock t k).resource t ≡ spoil k t
unfolding spoil strong leave_value with_value stores spoils
spoil_strong k t v h = rw (le-leb 4 (lock t k).held h, leave_value)

-- the lock k is freed, or nothing changes; other locks stay as they are
pub record Freed (k : ℕ) (t u : Tables) : Type 0 where
  pub core : Core u
  pub lock_is : (j : ℕ) → j ≢ k → lock u j ≡ lock t j
  pub locks_are : length u.locks ≡ length t.locks
  pub resources_are : length u.resources ≡ length t.resources

module _ (k : ℕ) (t : Tables) (p : Locked k t) where
  used_there : strong (lock t k).held ≡ true → used t (lock t k).resource ≡ true
  used_there = strong_used (used t) (lock t k) (lock t k).state (ok_numbered (p.core.lock_ok k))

  spoil_quiet : Quiet t (spoil k t)
  unfolding spoil strong
  spoil_quiet =
      leave_quiet (strong (lock t k).held) 2 [] (lock t k).resource t (λ z. clash (stores 2) z spoils_only)
      used_there p.core

  spoil_locked : Locked k (spoil k t)
  spoil_locked = record { core = spoil_quiet.core; in_range = rw spoil_quiet.locks_are p.in_range }

  purge_is : purge_lock k t ≡ free_lock k (spoil k t)
  unfolding purge_lock spoil
  purge_is = refl

  pub lock_freed : Freed k t (purge_lock k t)
  unfolding free_lock
  lock_freed =
      let r = (lock (spoil k t) k).resource in
      rw purge_is (record {
        core = freed_core k (spoil k t) spoil_locked;
        lock_is = λ j n. lock_other r k no_lock (spoil k t) j n ∙ spoil_quiet.lock_is j;
        locks_are = locks_length r k no_lock (spoil k t) ∙ spoil_quiet.locks_are;
        resources_are = resources_length r k no_lock (spoil k t) ∙ spoil_quiet.resources_are;
      })

-- CODE
module _ (k : ℕ) (a sa : List ℕ) where
  module _ (s : SomeTables (Locked k) a sa) where
    pub locked_sized : Sized a
    locked_sized = core_sized s.state a s.is s.good.core

    pub locked_low : 1 ≤ k
    locked_low = lock_low s.state a s.is k s.good.in_range

    pub locked_high : k ≤ locks_in a
    locked_high = lock_high s.state a s.is k s.good.in_range

  -- spoil_value
  module _ (l : Lock) (el : l ≡ read_lock a k) where
    pub lock_told : (t : Tables) → Locked k t → a ≡ words t → l ≡ lock t k
    lock_told t p is = lock_is t a is k p.in_range l el

    pub spoil_idle : l.held < 4 → Changes (Locked k) (spoil k) a sa a sa
    spoil_idle h = record {
      then = λ t p is iss.
          let e = spoil_weak k t (rw (lock_told t p is) at h) in
          (is ∙ ap words (sym e), iss ∙ ap slots (sym e));
    }

    module _ (h : 4 ≤ l.held) (v : List ℕ) where
      valued_at : (t : Tables) → Locked k t → a ≡ words t → Valued 2 v l.resource t
      valued_at t p is =
          record {
            core = p.core;
            in_range = rw (lock_told t p is) (used_within t (lock t k).resource (used_there k t p (unfold strong in le-leb 4 (lock t k).held (rw (lock_told t p is) at h))));
            right = λ z. clash (stores 2) z spoils_only;
          }

      pub spoil_valued : SomeTables (Locked k) a sa → SomeTables (Valued 2 v l.resource) a sa
      spoil_valued s = record { state = s.state; good = valued_at s.state s.good s.is; is = s.is; slots_are = s.slots_are }

      pub spoil_made : (b sb : List ℕ) → Changes (Valued 2 v l.resource) (leave_value true 2 v l.resource) a sa b sb → Changes (Locked k) (spoil k) a sa b sb
      spoil_made b sb left = record {
        then = λ t p is iss.
            let q = left.then t (valued_at t p is) is iss in
            let e : leave_value true 2 v l.resource t ≡ spoil k t = rw (lock_told t p is) (spoil_strong k t v (rw (lock_told t p is) at h)) in
            (q.0 ∙ ap words e, q.1 ∙ ap slots e);
      }

  -- purge_lock
  module _ (b sb : List ℕ) (spoiled : Changes (Locked k) (spoil k) a sa b sb) where
    pub purge_frees : SomeTables (Locked k) a sa → Some (Locked k) b
    purge_frees s =
        record { state = spoil k s.state; good = spoil_locked k s.state s.good; is = (spoiled.then s.state s.good s.is s.slots_are).0 }

    pub purge_made : (d : List ℕ) → Turns (Locked k) (free_lock k) b d → Changes (Locked k) (purge_lock k) a sa d sb
    purge_made d freed = record {
      then = λ t p is iss.
          let q = spoiled.then t p is iss in
          rw (purge_is k t p) (freed.then (spoil k t) (spoil_locked k t p) q.0, q.1 ∙ sym (slots_free k (spoil k t)));
    }

pub ruleset spoil_laws = (rules, locked_sized, locked_low, locked_high, spoil_idle, spoil_valued, spoil_made)

pub ruleset purge_laws = (rules, purge_frees, purge_made)
