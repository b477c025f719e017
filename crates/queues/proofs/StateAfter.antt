-- What holds of the state that each function leaves: what the next one stands on.
use mathlib.Core.Path.{◌≡◌, refl, sym}
use mathlib.Core.Bool.{Bool, true, false}
use mathlib.Core.List.{List}
use Prim.Native.Nat.{ℕ}
use native.Mathlib.Omega.{arith}
use lib.ListN.{length}
use Rattle.tables.specs.Lists.{within, null}
use Rattle.tables.specs.State.{Tables, no_lock, lock, move_resource}
use Rattle.tables.proofs.Cases.{by_cases, clash}
use Rattle.tables.specs.Validity.{used, as_free, Core}
use Rattle.tables.proofs.Valid.{absent, locks_length, resources_length, core_move}
use Rattle.rules.specs.Queues.{sweep, free_lock, settle, find}
use Rattle.rules.specs.Calls.{leave_value, new_resource}
use Rattle.rules.proofs.SweepLaws.{sweep_swept}
use Rattle.rules.proofs.ResourceChanges.{resources_kept, core_resource, no_value_length, leave_quiet}
use Rattle.rules.proofs.ChangesKeepSound.{settle_settles}
use Rattle.rules.proofs.RequestKeepsSound.{missing, unused_chains}
use Rattle.table_chains.specs.Promises.{Resourced}
use Rattle.queues.specs.Promises.{Locked, Takes, Valued}

module _ (k : ℕ) (t : Tables) (p : Locked k t) where
  pub freed_core : Core (free_lock k t)
  unfolding free_lock
  freed_core = core_move (lock t k).resource k no_lock t p.core p.in_range (λ z. refl) (λ z. absurd (z refl)) (as_free refl) (λ z. clash false z refl)

  pub freed_locked : (j : ℕ) → within (length t.locks) j ≡ true → Locked j (free_lock k t)
  freed_locked j w = record { core = freed_core; in_range = unfold free_lock in rw (locks_length (lock t k).resource k no_lock t) w }

  pub freed_resourced : (r : ℕ) → within (length t.resources) r ≡ true → Resourced r (free_lock k t)
  freed_resourced r w = record { core = freed_core; in_range = unfold free_lock in rw (resources_length (lock t k).resource k no_lock t) w }

module _ (r : ℕ) (t : Tables) (p : Resourced r t) where
  pub swept_resourced : (s : ℕ) → within (length t.resources) s ≡ true → Resourced s (sweep r t)
  swept_resourced s w = record { core = (sweep_swept r t p.core).core; in_range = rw (sweep_swept r t p.core).resources_same w }

  pub swept_locked : (k : ℕ) → within (length t.locks) k ≡ true → Locked k (sweep r t)
  swept_locked k w = record { core = (sweep_swept r t p.core).core; in_range = rw (sweep_swept r t p.core).locks_same w }

  pub settled_resourced : (s : ℕ) → within (length t.resources) s ≡ true → Resourced s (settle r t)
  settled_resourced s w = let h = settle_settles r t p.core p.in_range in record { core = h.core; in_range = rw h.resources_same w }

  pub settled_locked : (k : ℕ) → within (length t.locks) k ≡ true → Locked k (settle r t)
  settled_locked k w = let h = settle_settles r t p.core p.in_range in record { core = h.core; in_range = rw h.locks_same w }

module _ (acts : Bool) (f : ℕ) (v : List ℕ) (r : ℕ) (t : Tables) (p : Valued f v r t) (u : acts ≡ true → used t r ≡ true) where
  pub left_resourced : (s : ℕ) → within (length t.resources) s ≡ true → Resourced s (leave_value acts f v r t)
  left_resourced s w = let q = leave_quiet acts f v r t p.right u p.core in record { core = q.core; in_range = rw q.resources_are w }

  pub left_locked : (k : ℕ) → within (length t.locks) k ≡ true → Locked k (leave_value acts f v r t)
  left_locked k w = let q = leave_quiet acts f v r t p.right u p.core in record { core = q.core; in_range = rw q.locks_are w }

-- a new name: no other resource has it
module _ (r : ℕ) (n : List ℕ) (t : Tables) (p : Takes r n t) (some : null n ≡ false) (new : find n t ≡ 0) where
  pub taken_core : Core (move_resource r (new_resource n) t)
  taken_core =
      core_resource r (new_resource n) t p.core p.in_range (unused_chains t p.core r p.free n)
      (record {
        name_length = p.short;
        value_length = no_value_length;
        flag = omega arith;
        unused = λ z. clash (null n) (rw z) some;
        unused_value = λ z. clash (null n) (rw z) some;
      })
      (λ s i z q. by_cases (within (length t.resources) s) (λ h. missing n t new s h (sym q)) (λ h. clash (null n) (rw (q, absent t s h)) some))
      (λ z. clash (null n) z some)

  pub taken_resourced : (s : ℕ) → within (length t.resources) s ≡ true → Resourced s (move_resource r (new_resource n) t)
  taken_resourced s w = record { core = taken_core; in_range = rw (resources_kept r (new_resource n) t) w }

  pub taken_locked : (k : ℕ) → within (length t.locks) k ≡ true → Locked k (move_resource r (new_resource n) t)
  taken_locked k w = record { core = taken_core; in_range = unfold move_resource in w }
