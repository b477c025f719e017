-- Denying a blocked lock, and breaking a deadlock.
use mathlib.Core.Path.{◌≡◌, refl, sym, ◌∙◌, ap, subst}
use mathlib.Core.Logic.{◌≢◌}
use mathlib.Core.Bool.{true, false}
use mathlib.Core.List.{List}
use Prim.Native.Nat.{ℕ, zero, suc}
use native.Mathlib.Omega.{arith}
use Rattle.std.specs.Prelude.{Option, None}
use Rattle.std.specs.declared.option.Option.TheVariants as options
use borrow.Author.Rules.{rules}
use borrow.Author.Tests.{ne_eqb}
use Rattle.tables.specs.declared.Lock.{Lock}
use Rattle.tables.specs.State.{Tables, denied_lock, lock, converting, blocked_lock, blocked, move}
use Rattle.tables.specs.Layout.{words, slots, read_lock}
use Rattle.tables.proofs.Cases.{by_cases, clash}
use Rattle.tables.proofs.Counts.{first_in}
use Rattle.tables.proofs.SlotChanges.{slots_move}
use Rattle.tables.specs.Validity.{used, LockOk, Core, Valid}
use Rattle.tables.proofs.Valid.{resources_length, core_move}
use Rattle.tables.proofs.ChainMembers.{on_chain}
use Rattle.rules.specs.Queues.{sweep}
use Rattle.rules.specs.Deadlock.{victim}
use Rattle.rules.specs.Calls.{accepted, accepted_step, deny, deny_victim, break}
use Rattle.rules.specs.Accepted.{Cancellable}
use Rattle.rules.proofs.CallsKeepSound.{denied_ok}
use Rattle.tables.specs.Numbered.{numbered}
use Rattle.table_chains.proofs.NumberOrNone.{is_number, none_is, above_none}
use Rattle.table_chains.specs.Promises.{Some, Turns, Tells, Movable, Moving, Moved, Resourced}
use Rattle.queues.proofs.ResourceRecord.{slots_sweep}
use Rattle.answers.specs.Answers.{denial}
use Rattle.rules.specs.Entries.{Lent, lent, outcome}
use Rattle.table_fields.proofs.StateWords.{lock_is}
use Rattle.answers.specs.Promises.{MakesWords}
use Rattle.call_release.specs.Promises.{Restorable, restore}
use Rattle.answers.proofs.Steps.{stepped}
use Rattle.call_release.proofs.RestoredLock.{slots_restore, blocked_range, blocked_resource, restorable_at, cancel_sized, cancel_low, cancel_high}

-- STATES. The lock k, which waits, is denied
abbrev off : ℕ → Tables → Tables
off k t = move (lock t k).resource k (denied_lock (lock t k)) t

module _ (k : ℕ) (t : Tables) (p : Cancellable k t) (c : converting (lock t k) ≡ false) where
  off_ok : LockOk (used t) (denied_lock (lock t k))
  off_ok = denied_ok (used t) (lock t k) (p.valid.core.lock_ok k) (rw c at p.is_blocked)

  movable : Movable (lock t k).resource k (denied_lock (lock t k)) t
  movable = record { core = p.valid.core; in_range = blocked_range k t p; near_old = λ z. refl; near_new = λ z. absurd (z refl); ok = off_ok }

  off_resourced : Resourced (lock t k).resource (off k t)
  off_resourced =
      record {
        core =
            core_move (lock t k).resource k (denied_lock (lock t k)) t p.valid.core (blocked_range k t p) (λ z. refl) (λ z. absurd (z refl)) off_ok
            (λ z. clash false z refl);
        in_range = rw (resources_length (lock t k).resource k (denied_lock (lock t k)) t) (blocked_resource k t p);
      }

deny_converts : (k : ℕ) (t : Tables) → converting (lock t k) ≡ true → deny k t ≡ restore k 3 t
unfolding deny restore
deny_converts k t h = rw (h, deny)

deny_waits : (k : ℕ) (t : Tables) → converting (lock t k) ≡ false → deny k t ≡ sweep (lock t k).resource (off k t)
unfolding deny
deny_waits k t h = rw (h, deny)

slots_deny : (k : ℕ) (t : Tables) → slots (deny k t) ≡ slots t
slots_deny k t =
    by_cases (converting (lock t k))
    (λ h. rw (deny_converts k t h) (slots_restore k 3 t))
    (λ h. rw (deny_waits k t h) (slots_sweep (lock t k).resource (off k t) ∙ slots_move (lock t k).resource k (denied_lock (lock t k)) t))

-- deny
module _ (k : ℕ) (a : List ℕ) (l : Lock) (el : l ≡ read_lock a k) where
  l_is : (t : Tables) → Cancellable k t → a ≡ words t → l ≡ lock t k
  l_is t p is = lock_is t a is k (blocked_range k t p) l el

  module _ (q : l.state ≡ 2) where
    restorable : (t : Tables) → Cancellable k t → a ≡ words t → Restorable k 3 t
    restorable = restorable_at k a l el q 3 (omega arith) (omega arith)

    pub deny_restorable : Some (Cancellable k) a → Some (Restorable k 3) a
    deny_restorable s = record { state = s.state; good = restorable s.state s.good s.is; is = s.is }

    pub deny_restored : (b : List ℕ) → Turns (Restorable k 3) (restore k 3) a b → Turns (Cancellable k) (deny k) a b
    deny_restored b turns = record {
      then = λ t p is. let h = restorable t p is in turns.then t h is ∙ ap words (sym (deny_converts k t h.converts));
    }

  module _ (n : l.state ≡ 2 → ⊥) (m : Lock) (em : m ≡ denied_lock l) where
    waits_at : (t : Tables) → Cancellable k t → a ≡ words t → converting (lock t k) ≡ false
    waits_at t p is = rw (← (l_is t p is)) (ne_eqb l.state 2 n)

    m_is : (t : Tables) → Cancellable k t → a ≡ words t → m ≡ denied_lock (lock t k)
    m_is t p is = em ∙ ap (λ (o : Lock). denied_lock o) (l_is t p is)

    pub deny_moving : Some (Cancellable k) a → Moving k m a
    deny_moving s =
        record {
          state = s.state;
          resource = (lock s.state k).resource;
          good = rw (m_is s.state s.good s.is) (movable k s.state s.good (waits_at s.state s.good s.is));
          is = s.is;
        }

    module _ (b : List ℕ) (moved : Moved k m a b) where
      moved_at : (t : Tables) → Cancellable k t → a ≡ words t → b ≡ words (off k t)
      moved_at t p is = (subst (λ (o : Lock). Moved k o a b) (m_is t p is) moved).then (lock t k).resource t (movable k t p (waits_at t p is)) is

      pub deny_resourced : Some (Cancellable k) a → Some (Resourced l.resource) b
      deny_resourced s =
          record {
            state = off k s.state;
            good = rw (l_is s.state s.good s.is) (off_resourced k s.state s.good (waits_at s.state s.good s.is));
            is = moved_at s.state s.good s.is;
          }

      pub deny_swept : (d : List ℕ) → Turns (Resourced l.resource) (sweep l.resource) b d → Turns (Cancellable k) (deny k) a d
      deny_swept d sweeps = record {
        then = λ t p is.
            let c = waits_at t p is in
            (subst (λ (o : Lock). Turns (Resourced o.resource) (sweep o.resource) b d) (l_is t p is) sweeps).then (off k t) (off_resourced k t p c) (moved_at t p is)
            ∙ ap words (sym (deny_waits k t c));
      }

pub ruleset deny_laws = (rules, cancel_sized, cancel_low, cancel_high, deny_restorable, deny_restored, deny_moving, deny_resourced, deny_swept)

-- STATES. The victim is blocked
victim_blocked : (t : Tables) → Core t → (k : ℕ) → k ≢ 0 → k ≡ victim t → blocked_lock (lock t k) ≡ true
unfolding victim
victim_blocked t c zero n e = absurd (n refl)
victim_blocked t c (suc k) n e = (on_chain t c.linked blocked (suc k) (first_in _ t.blocked k (sym e))).1

deny_none : (k : ℕ) (t : Tables) → k ≡ 0 → deny_victim k t ≡ accepted_step 0 0 t
unfolding deny_victim
deny_none k t e = rw e

deny_some : (k : ℕ) (t : Tables) → k ≢ 0 → deny_victim k t ≡ accepted_step k k (deny k t)
unfolding deny_victim
deny_some zero t n = absurd (n refl)
deny_some (suc k) t n = refl

break_is : (k : ℕ) (t : Tables) → k ≡ victim t → break t ≡ deny_victim k t
unfolding break
break_is k t e = ap (λ (x : ℕ). deny_victim x t) (sym e)

-- the numbers of a denied lock
denied_is : (k : ℕ) → k ≢ 0 → (u : Lent) → outcome (denial (options.Some k)) u ≡ outcome (accepted k k) u
denied_is zero n u = absurd (n refl)
denied_is (suc k) n u = refl

-- break_change
pub valid_core : (a : List ℕ) → Some Valid a → Some Core a
valid_core a s = record { state = s.state; good = s.good.core; is = s.is }

module _ (a : List ℕ) where
  pub break_none : Tells Core (λ t. numbered (victim t)) a None → (x : Option ℕ) → x ≡ None → MakesWords Valid break a a (denial x)
  break_none tells x e = record {
    then = λ t v is.
        let z : 0 ≡ victim t = sym (none_is (victim t) (tells.then t v.core is)) in
        rw e (stepped (break t) 0 0 t a (slots t) (break_is 0 t z ∙ deny_none 0 t refl) is refl);
  }

  module _ (k : ℕ) (tells : Tells Core (λ t. numbered (victim t)) a (options.Some k)) where
    module _ (t : Tables) (v : Valid t) (is : a ≡ words t) where
      victim_is : k ≡ victim t
      victim_is = is_number k (victim t) (tells.then t v.core is)

      some : k ≢ 0
      some z = let low = above_none k (victim t) (tells.then t v.core is) in omega arith

      blocked_at : Cancellable k t
      blocked_at = record { valid = v; is_blocked = victim_blocked t v.core k some victim_is }

    pub break_blocked : Some Valid a → Some (Cancellable k) a
    break_blocked s = record { state = s.state; good = blocked_at s.state s.good s.is; is = s.is }

    pub break_denied : (b : List ℕ) → Turns (Cancellable k) (deny k) a b → MakesWords Valid break a b (denial (options.Some k))
    break_denied b denies = record {
      then = λ t v is.
          let n = some t v is in
          denied_is k n (lent b (slots t))
          ∙ stepped (break t) k k (deny k t) b (slots t) (break_is k t (victim_is t v is) ∙ deny_some k t n) (denies.then t (blocked_at t v is) is) (sym (slots_deny k t));
    }

pub ruleset break_laws = (rules, valid_core, break_none, break_blocked, break_denied)
