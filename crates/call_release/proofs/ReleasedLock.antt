-- Releasing a granted lock: its value left, the lock freed, its resource settled.
use mathlib.Core.Path.{◌≡◌, sym, ◌∙◌, ap, subst}
use mathlib.Core.Bool.{Bool, true}
use mathlib.Core.List.{List}
use Prim.Native.Nat.{ℕ, ◌≤◌}
use lib.ListN.{length}
use lib.Dec.{leb}
use borrow.Author.Rules.{rules}
use borrow.Author.Tests.{eqb-true}
use Rattle.tables.specs.declared.Lock.{Lock}
use Rattle.tables.specs.Lists.{within}
use Rattle.tables.specs.State.{Tables, lock}
use Rattle.tables.specs.Layout.{words, slots, locks_in, read_lock}
use Rattle.tables.specs.Validity.{used, Place}
use Rattle.tables.proofs.Valid.{ok_at, used_within}
use Rattle.tables.proofs.ChainMembers.{state_within}
use Rattle.table_fields.specs.Sizes.{Sized}
use Rattle.table_fields.proofs.StateWords.{core_sized, lock_high, lock_is, lock_low}
use Rattle.rules.specs.Queues.{free_lock, settle}
use Rattle.rules.specs.Calls.{accepted, strong, leave_value, accepted_step, release_change}
use Rattle.rules.specs.Accepted.{Releasable}
use Rattle.table_chains.specs.Promises.{Some, Turns, Changes, Resourced}
use Rattle.queues.specs.Promises.{Locked, SomeTables, Valued}
use Rattle.queues.proofs.ResourceRecord.{slots_free}
use Rattle.queues.proofs.StateAfter.{left_locked, left_resourced, freed_resourced}
use Rattle.answers.specs.Promises.{Makes}
use Rattle.answers.proofs.Steps.{stepped}

-- STATES
module _ (k f : ℕ) (v : List ℕ) (t : Tables) (p : Releasable k f v t) where
  place : Place (used t) (lock t k)
  place = (ok_at (used t) (lock t k) 1 (p.valid.core.lock_ok k) p.is_granted).place

  in_range : within (length t.locks) k ≡ true
  in_range = state_within t k 0 (eqb-true (lock t k).state 1 p.is_granted)

  on_resource : within (length t.resources) (lock t k).resource ≡ true
  on_resource = used_within t (lock t k).resource place.in_use

  valued : Valued f v (lock t k).resource t
  valued = record { core = p.valid.core; in_range = on_resource; right = p.right }

-- its value is left, or not; then it is freed
abbrev left : Bool → ℕ → ℕ → List ℕ → Tables → Tables
left acts k f v t = leave_value acts f v (lock t k).resource t

module _ (acts : Bool) (k f : ℕ) (v : List ℕ) (t : Tables) (p : Releasable k f v t) where
  freeable : Locked k (left acts k f v t)
  freeable = left_locked acts f v (lock t k).resource t (valued k f v t p) (λ z. (place k f v t p).in_use) k (in_range k f v t p)

  settleable : Resourced (lock t k).resource (free_lock k (left acts k f v t))
  settleable =
      freed_resourced k (left acts k f v t) freeable (lock t k).resource
      (left_resourced acts f v (lock t k).resource t (valued k f v t p) (λ z. (place k f v t p).in_use) (lock t k).resource (on_resource k f v t p)).in_range

-- release_change
module _ (k f : ℕ) (v a sa : List ℕ) where
  module _ (s : SomeTables (Releasable k f v) a sa) where
    pub release_sized : Sized a
    release_sized = core_sized s.state a s.is s.good.valid.core

    pub release_low : 1 ≤ k
    release_low = lock_low s.state a s.is k (in_range k f v s.state s.good)

    pub release_high : k ≤ locks_in a
    release_high = lock_high s.state a s.is k (in_range k f v s.state s.good)

  module _ (l : Lock) (el : l ≡ read_lock a k) where
    l_is : (t : Tables) → Releasable k f v t → a ≡ words t → l ≡ lock t k
    l_is t p is = lock_is t a is k (in_range k f v t p) l el

    pub release_valued : SomeTables (Releasable k f v) a sa → SomeTables (Valued f v l.resource) a sa
    release_valued s =
        record {
          state = s.state;
          good = rw (l_is s.state s.good s.is) (valued k f v s.state s.good);
          is = s.is;
          slots_are = s.slots_are;
        }

    module _ (acts : Bool) (b sb : List ℕ) (leaves : Changes (Valued f v l.resource) (leave_value acts f v l.resource) a sa b sb) where
      left_at : (t : Tables) → Releasable k f v t → a ≡ words t → sa ≡ slots t → (b ≡ words (left acts k f v t)) × (sb ≡ slots (left acts k f v t))
      left_at t p is iss =
          (subst (λ (o : Lock). Changes (Valued f v o.resource) (leave_value acts f v o.resource) a sa b sb) (l_is t p is) leaves).then t (valued k f v t p) is iss

      pub release_locked : SomeTables (Releasable k f v) a sa → Some (Locked k) b
      release_locked s =
          record {
            state = left acts k f v s.state;
            good = freeable acts k f v s.state s.good;
            is = (left_at s.state s.good s.is s.slots_are).0;
          }

      module _ (d : List ℕ) (frees : Turns (Locked k) (free_lock k) b d) where
        freed_at : (t : Tables) → Releasable k f v t → a ≡ words t → sa ≡ slots t → (d ≡ words (free_lock k (left acts k f v t))) × (sb ≡ slots (free_lock k (left acts k f v t)))
        freed_at t p is iss =
            let h = left_at t p is iss in
            (frees.then (left acts k f v t) (freeable acts k f v t p) h.0, h.1 ∙ sym (slots_free k (left acts k f v t)))

        pub release_resourced : SomeTables (Releasable k f v) a sa → SomeTables (Resourced l.resource) d sb
        release_resourced s =
            let h = freed_at s.state s.good s.is s.slots_are in
            record {
              state = free_lock k (left acts k f v s.state);
              good = rw (l_is s.state s.good s.is) (settleable acts k f v s.state s.good);
              is = h.0;
              slots_are = h.1;
            }

        settled_at : (e se : List ℕ) → Changes (Resourced l.resource) (settle l.resource) d sb e se → (t : Tables) → Releasable k f v t → a ≡ words t → sa ≡ slots t →
            (e ≡ words (settle (lock t k).resource (free_lock k (left acts k f v t)))) × (se ≡ slots (settle (lock t k).resource (free_lock k (left acts k f v t))))
        settled_at e se settles t p is iss =
            let h = freed_at t p is iss in
            (subst (λ (o : Lock). Changes (Resourced o.resource) (settle o.resource) d sb e se) (l_is t p is) settles).then (free_lock k (left acts k f v t)) (settleable acts k f v t p) h.0 h.1

    -- PW and EX leave a value
    strong_is : (t : Tables) → Releasable k f v t → a ≡ words t → strong (lock t k).held ≡ leb 4 l.held
    unfolding strong
    strong_is t p is = rw (l_is t p is)

    pub release_made : (b sb d e se : List ℕ) → Changes (Valued f v l.resource) (leave_value (leb 4 l.held) f v l.resource) a sa b sb → Turns (Locked k) (free_lock k) b d →
        Changes (Resourced l.resource) (settle l.resource) d sb e se → Makes (Releasable k f v) (release_change k f v) a sa e se (accepted 0 0)
    unfolding release_change
    release_made b sb d e se leaves frees settles = record {
      then = λ t p is iss.
          let r = (lock t k).resource in
          let h = settled_at (leb 4 l.held) b sb leaves d frees e se settles t p is iss in
          stepped (release_change k f v t) 0 0 (settle r (free_lock k (left (leb 4 l.held) k f v t))) e se
          (ap (λ (x : Bool). accepted_step 0 0 (settle r (free_lock k (left x k f v t)))) (strong_is t p is)) h.0 h.1;
    }

pub ruleset release_laws = (rules, release_sized, release_low, release_high, release_valued, release_locked, release_made)
