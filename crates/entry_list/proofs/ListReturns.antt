-- A listing by its entry's definition: refused, or what was listed.
use mathlib.Core.Path.{◌≡◌, refl, sym, ◌∙◌, ap, subst}
use mathlib.Core.Bool.{true}
use mathlib.Core.List.{List}
use Prim.Native.Nat.{ℕ, zero, suc}
use native.Mathlib.Omega.{arith}
use Rattle.tables.specs.declared.LockEntry.{LockEntry}
use Rattle.tables.specs.State.{Tables, lock, holds}
use Rattle.tables.specs.Layout.{read}
use Rattle.tables.specs.Sound.{sound}
use Rattle.tables.proofs.Cases.{by_cases}
use Rattle.tables.proofs.Counts.{count_append}
use Rattle.tables.specs.Validity.{Core}
use Rattle.tables.proofs.ChainMembers.{holder_in}
use Rattle.tables.proofs.Written.{Writes, sound_written}
use Rattle.rules.specs.Calls.{accepted, refused, unless}
use Rattle.rules.specs.Entries.{look_refusal, list_locks, list_if, list_entry}
use Rattle.rules.proofs.AcceptedCalls.{passed, next_test}
use Rattle.table_chains.specs.Promises.{Some, Tells, Resourced}
use Rattle.list_walker.specs.Order.{locks_on, Queued}
use Rattle.list_walker.proofs.ResourceLocks.{queued_resourced}
use Rattle.std.specs.Prelude.{Result, IsErrAnd}
use Rattle.answers.specs.declared.Refusal.{Refusal}
use Rattle.answers.specs.Refusals.{refusal_number}
use Rattle.answers.specs.Answers.{list_said}
use Rattle.call_refusals.proofs.PassedUp.{above_zero, passed_up}
use Rattle.entry_list.specs.Listings.{listing, list_refusal, resource_of, listing_of}

locks_refused : (n r : ℕ) (t : Tables) (es : List LockEntry) → (n ≡ 0 → ⊥) → listing (refused n) es ≡ list_locks n r t es
unfolding list_locks
locks_refused zero r t es h = absurd (h refl)
locks_refused (suc n) r t es h = refl

-- a lock that holds a mode stands on its resource
holder_queued : (k : ℕ) (t : Tables) → Core t → holds (lock t k) ≡ true → Queued k t
unfolding locks_on
holder_queued k t core h = record { core = core; on = rw count_append (omega (arith, holder_in t core.linked (lock t k).resource k h refl)) }

module _ (ws ss : List ℕ) (c k n : ℕ) (en : n ≡ list_refusal ws ss c k) where
  refused_listing : (es : List LockEntry) → (n ≡ 0 → ⊥) → listing (refused n) es ≡ list_entry ws ss c k es
  unfolding list_entry list_if list_refusal unless
  refused_listing es h =
      by_cases (sound ws ss)
      (λ s. let e : n ≡ look_refusal c k (read ws ss) = rw s at en in
      rw (s, list_if, sym e) (locks_refused n (lock (read ws ss) k).resource (read ws ss) es h))
      (λ s. let e : n ≡ 1 = rw s at en in
      rw (s, list_if, e))

  module _ (z : n ≡ 0) where
    is_sound : sound ws ss ≡ true
    unfolding list_refusal
    is_sound = passed (sound ws ss) 0 _ (sym en ∙ z)

    looked : look_refusal c k (read ws ss) ≡ 0
    unfolding list_refusal
    looked = next_test (sound ws ss) 0 _ (sym en ∙ z)

    w : Writes ws ss (read ws ss)
    w = sound_written ws ss is_sound

    queued : Queued k (read ws ss)
    unfolding look_refusal
    queued = holder_queued k (read ws ss) w.valid.core (passed _ 9 _ (next_test _ 7 _ (next_test _ 2 _ looked)))

    pub answer_queued : Some (Queued k) ws
    answer_queued = record { state = read ws ss; good = queued; is = w.is }

    module _ (r : ℕ) (er : Tells (Queued k) (resource_of k) ws r) where
      resource_is : r ≡ (lock (read ws ss) k).resource
      unfolding resource_of
      resource_is = er.then (read ws ss) queued w.is

      resourced : Resourced r (read ws ss)
      resourced = subst (λ (s : ℕ). Resourced s (read ws ss)) (sym resource_is) (queued_resourced k (read ws ss) queued)

      pub answer_resourced : Some (Resourced r) ws
      answer_resourced = record { state = read ws ss; good = resourced; is = w.is }

      pub answer_listed : (m : ℕ) (es zs : List LockEntry) → Tells (Resourced r) (listing_of r es) ws (listing (accepted m 0) zs) → listing (accepted m 0) zs ≡ list_entry ws ss c k es
      unfolding list_entry list_if list_locks listing_of
      answer_listed m es zs told =
          rw (is_sound, list_if, looked)
          (told.then (read ws ss) resourced w.is ∙ ap (λ (s : ℕ). list_locks 0 s (read ws ss) es) resource_is)

pub answer_refused : (ws ss : List ℕ) (c k : ℕ) (x : Result ℕ Refusal) (e : Refusal) → IsErrAnd x (λ d. d ≡ e) → refusal_number e ≡ list_refusal ws ss c k
    → (es : List LockEntry) → listing (list_said x) es ≡ list_entry ws ss c k es
answer_refused ws ss c k x e up en es = ap (λ (y : Result ℕ Refusal). listing (list_said y) es) (passed_up x e up) ∙ refused_listing ws ss c k (refusal_number e) en es (above_zero e)
