-- A request that is not refused: its lock and its resource are there.
use mathlib.Core.Path.{◌≡◌, refl, sym, ◌∙◌, ap}
use mathlib.Core.Bool.{true}
use mathlib.Core.List.{List}
use Prim.Native.Nat.{ℕ, zero, suc}
use native.Mathlib.Omega.{arith}
use lib.ListN.{length}
use borrow.Author.Rules.{rules}
use borrow.Author.Tests.{not-true}
use Rattle.tables.specs.Lists.{within, first, null}
use Rattle.tables.specs.State.{Tables, no_lock, lock, move_resource}
use Rattle.tables.specs.Layout.{of_header, words, slots, word_in}
use Rattle.tables.proofs.Links.{next_here}
use Rattle.tables.proofs.ReadBack.{word_read}
use Rattle.tables.proofs.ChainMembers.{on_free}
use Rattle.tables.specs.Validity.{used}
use Rattle.tables.proofs.Valid.{used_within}
use Rattle.rules.specs.Queues.{find}
use Rattle.rules.specs.Calls.{at_once, new_resource, resource_for, with_resource, request_on, request_change}
use Rattle.rules.specs.declared.Said.{Said}
use Rattle.rules.specs.Accepted.{Requestable}
use Rattle.rules.proofs.RequestKeepsSound.{found, first_member, new_at_once}
use Rattle.rules.proofs.ResourceChanges.{lock_kept, used_changed}
use Rattle.table_fields.specs.Sizes.{Sized}
use Rattle.table_fields.proofs.StateWords.{core_sized}
use Rattle.table_chains.specs.Promises.{Some}
use Rattle.answers.specs.Promises.{Makes, MakesWords}
use Rattle.queues.specs.Promises.{SomeTables}
use Rattle.queues.proofs.StateAfter.{taken_core}
use Rattle.call_request.specs.Promises.{Nameable, Houses, Enters}
use Rattle.call_request.proofs.NameResource.{takes_first}

-- the header names the first free lock
first_free : (t : Tables) (a : List ℕ) → a ≡ words t → word_in a (of_header 3) ≡ first t.free_locks
first_free t a is = ap (λ (w : List ℕ). word_in w (of_header 3)) is ∙ word_read t (of_header 3) (omega arith) ∙ next_here 0 0 t.free_locks refl

module _ (c m f : ℕ) (n : List ℕ) (t : Tables) (p : Requestable c m f n t) where
  nameable : Nameable n t
  nameable = record { core = p.valid.core; some = p.some; short = p.short; room = p.room }

  -- the first free lock
  abbrev k : ℕ
  k = first t.free_locks

  its_place : (within (length t.locks) k ≡ true) × (lock t k ≡ no_lock)
  its_place = on_free t p.valid.core k (first_member t.free_locks p.lock_left)

  -- on the state that has a resource of that name
  enters : Enters (resource_for (find n t) t) k c m f (with_resource (find n t) n t)
  unfolding resource_for with_resource
  enters = go (find n t) refl
    where
      go : (x : ℕ) → find n t ≡ x → Enters (resource_for x t) k c m f (with_resource x n t)
      go zero e =
          let r = first t.free_resources in
          let h = takes_first n t nameable e in
          let left = first_member t.free_resources (not-true (null t.free_resources) (rw e at p.room)) in
          let u : used (move_resource r (new_resource n) t) r ≡ true = used_changed r (new_resource n) t h.in_range ∙ (rw p.some) in
          record {
            asks = record {
              here = record { core = taken_core r n t h p.some e; in_range = used_within (move_resource r (new_resource n) t) r u };
              mode = p.mode;
              unqueued = λ z. new_at_once c m n t p.valid p.client_low p.client_high p.mode p.some p.short r e left;
            };
            in_use = u;
            in_range = unfold move_resource in its_place.0;
            free = lock_kept r (new_resource n) t k ∙ its_place.1;
            client_low = p.client_low;
            client_high = p.client_high;
          }
      go (suc r) e =
          let u : used t (suc r) ≡ true = unfold used in rw (found n t r e, p.some) in
          record {
            asks = record {
              here = record { core = p.valid.core; in_range = used_within t (suc r) u };
              mode = p.mode;
              unqueued = unfold at_once in rw e at p.unqueued;
            };
            in_use = u;
            in_range = its_place.0;
            free = its_place.1;
            client_low = p.client_low;
            client_high = p.client_high;
          }

module _ (c m f : ℕ) (n a sa : List ℕ) where
  pub request_sized : SomeTables (Requestable c m f n) a sa → Sized a
  request_sized s = core_sized s.state a s.is s.good.valid.core

  pub request_nameable : SomeTables (Requestable c m f n) a sa → SomeTables (Nameable n) a sa
  request_nameable s = record { state = s.state; good = nameable c m f n s.state s.good; is = s.is; slots_are = s.slots_are }

  module _ (k : ℕ) (ek : k ≡ word_in a (of_header 3)) (b sb : List ℕ) (r : ℕ) (houses : Houses n a sa b sb r) where
    module _ (t : Tables) (p : Requestable c m f n t) (is : a ≡ words t) (iss : sa ≡ slots t) where
      housed : (r ≡ resource_for (find n t) t) × (b ≡ words (with_resource (find n t) n t)) × (sb ≡ slots (with_resource (find n t) n t))
      housed = houses.then t (nameable c m f n t p) is iss

      k_is : k ≡ first t.free_locks
      k_is = ek ∙ first_free t a is

      enters_at : Enters r k c m f (with_resource (find n t) n t)
      enters_at = rw (housed.0, k_is) (enters c m f n t p)

    pub request_enters : SomeTables (Requestable c m f n) a sa → Some (Enters r k c m f) b
    request_enters s =
        record {
          state = with_resource (find n s.state) n s.state;
          good = enters_at s.state s.good s.is s.slots_are;
          is = (housed s.state s.good s.is s.slots_are).1;
        }

    pub request_made : (d : List ℕ) (x : Said) → MakesWords (Enters r k c m f) (request_on r k c m) b d x → Makes (Requestable c m f n) (request_change c m n) a sa d sb x
    unfolding request_change
    request_made d x h = record {
      then = λ t p is iss.
          let g = housed t p is iss in
          rw (sym g.0, sym (k_is t p is iss), g.2) (h.then (with_resource (find n t) n t) (enters_at t p is iss) g.1);
    }

pub ruleset request_laws = (rules, request_sized, request_nameable, request_enters, request_made)
