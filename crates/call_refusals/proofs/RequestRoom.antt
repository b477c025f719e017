-- The refusals of a request for want of a record, or since it would block, from the words of a state.
use mathlib.Core.Path.{◌≡◌, refl, sym, ◌∙◌, ap}
use mathlib.Core.Bool.{Bool, true, false, ◌&&◌, ◌||◌, not}
use mathlib.Core.List.{List}
use Prim.Native.Nat.{ℕ, zero, suc, ◌<◌}
use native.Mathlib.Omega.{arith}
use Rattle.std.specs.Prelude.{Option, Some, None, is_some, unwrap_or, IfSome}
use lib.ListN.{get_or, length}
use lib.Dec.{eqb}
use borrow.Author.Tests.{eq-eqb, ne_eqb, not-true, not-false}
use Rattle.tables.specs.Lists.{within, null, from}
use Rattle.tables.specs.State.{Tables, free_locks}
use Rattle.tables.specs.Layout.{of_header, words}
use Rattle.tables.proofs.Cases.{and_left, and_right, or_right}
use Rattle.tables.proofs.Counts.{count_from, bit_one, first_in}
use Rattle.tables.proofs.Links.{next_here}
use Rattle.tables.proofs.WordChanges.{read_word}
use Rattle.tables.specs.Validity.{Core}
use Rattle.rules.specs.Queues.{find}
use Rattle.rules.specs.Calls.{unless, no_queue, granted_at_once, at_once}
use Rattle.table_fields.proofs.StateWords.{core_sized}
use Rattle.table_chains.specs.Promises.{Tells, Resourced}
use Rattle.table_chains.specs.Promises as chains
use Rattle.queues.proofs.QueueReads.{null_first}
use Rattle.tables.specs.Numbered.{numbered}
use Rattle.call_refusals.specs.Promises.{ResourceIfAny, Finds}
use Rattle.call_refusals.specs.Rests.{room_refusal}

-- a chain of records begins with 0 exactly if it has none
spare_null : (t : Tables) → Core t → (ws : List ℕ) → ws ≡ words t → eqb (get_or ws 2 0) 0 ≡ null t.free_resources
spare_null t g ws is =
    ap (λ (x : ℕ). eqb x 0) (ap (λ (w : List ℕ). get_or w 2 0) is ∙ read_word t (of_header 2) (omega arith) ∙ next_here 0 0 t.free_resources refl)
    ∙ null_first t.free_resources (g.spare 0)

free_null : (t : Tables) → Core t → (ws : List ℕ) → ws ≡ words t → eqb (get_or ws 3 0) 0 ≡ null t.free_locks
free_null t g ws is =
    ap (λ (x : ℕ). eqb x 0) (ap (λ (w : List ℕ). get_or w 3 0) is ∙ read_word t (of_header 3) (omega arith) ∙ next_here 0 0 t.free_locks refl)
    ∙ null_first t.free_locks (g.linked free_locks 0)

-- on a new name a request would be granted at once; on a known one as its resource's queues say
new_at_once : (m : ℕ) (t : Tables) → at_once 0 m t ≡ true
unfolding at_once
new_at_once m t = refl

known_at_once : (r m : ℕ) (t : Tables) → within (length t.resources) r ≡ true → at_once r m t ≡ granted_at_once t r m
unfolding at_once
known_at_once zero m t h = absurd (cc)
known_at_once (suc r) m t h = refl

-- a resource that is found is there
found_within : (t : Tables) (n : List ℕ) (x : ℕ) → find n t ≡ x → IfSome (numbered x) (λ r. within (length t.resources) r ≡ true)
unfolding find
found_within t n zero e = search
found_within t n (suc r) e = bit_one (within (length t.resources) (suc r)) (rw (← (count_from (length t.resources) (suc r))) (first_in _ (from 1 (length t.resources)) r e))

nand : (a b : Bool) → (a && b) ≡ false → (not a || not b) ≡ true
nand true b h = rw h
nand false b h = refl

-- the number of a resource that is there is not 0
numberless : (r : Option ℕ) (t : Tables) → ResourceIfAny r t → eqb (unwrap_or r 0) 0 ≡ not (is_some r)
numberless None t g = refl
numberless (Some zero) t g = absurd (let h : false ≡ true = g.in_range in cc)
numberless (Some (suc k)) t g = ne_eqb (suc k) 0 (omega arith)

not-not : (b : Bool) → not (not b) ≡ b
not-not true = refl
not-not false = refl

unwrap_numbered : (n : ℕ) → unwrap_or (numbered n) 0 ≡ n
unwrap_numbered zero = refl
unwrap_numbered (suc n) = refl

module _ (n : List ℕ) (r : Option ℕ) (t : Tables) (g : Finds n r t) where
  pub finds_resource : ResourceIfAny r t
  finds_resource = record { core = g.core; in_range = rw g.is_found (found_within t n (find n t) refl) }

  pub found_number : unwrap_or r 0 ≡ find n t
  found_number = rw g.is_found (unwrap_numbered (find n t))

module _ (ws : List ℕ) (r : Option ℕ) where
  pub room_long : chains.Some (ResourceIfAny r) ws → 3 < length ws
  room_long s = omega (arith, (core_sized s.state ws s.is s.good.core).long)

  pub room_longer : chains.Some (ResourceIfAny r) ws → 2 < length ws
  room_longer s = omega (arith, room_long s)

  module _ (x : ℕ) (ex : r ≡ Some x) where
    there : (t : Tables) → ResourceIfAny r t → Resourced x t
    there t g = record { core = g.core; in_range = rw ex at g.in_range }

    pub room_resourced : chains.Some (ResourceIfAny r) ws → chains.Some (Resourced x) ws
    room_resourced s = record { state = s.state; good = there s.state s.good; is = s.is }

  module _ (m f : ℕ) (n : Bool) (en : is_some r ≡ not n) where
    new_is : (t : Tables) → ResourceIfAny r t → eqb (unwrap_or r 0) 0 ≡ n
    new_is t g = numberless r t g ∙ rw en (not-not n)

    pub room_none : (n && eqb (get_or ws 2 0) 0) ≡ true → Tells (ResourceIfAny r) (room_refusal (unwrap_or r 0) m f) ws 11
    unfolding room_refusal unless
    room_none h = record {
      then = λ t g is.
          rw (← (spare_null t g.core ws is), new_is t g, and_left n (eqb (get_or ws 2 0) 0) h, and_right n (eqb (get_or ws 2 0) 0) h);
    }

    module _ (some : (n && eqb (get_or ws 2 0) 0) ≡ false) where
      room_is : (t : Tables) → ResourceIfAny r t → ws ≡ words t → (not (eqb (unwrap_or r 0) 0) || not (null t.free_resources)) ≡ true
      room_is t g is = rw (← (spare_null t g.core ws is), new_is t g) (nand n (eqb (get_or ws 2 0) 0) some)

      pub room_locks : get_or ws 3 0 ≡ 0 → Tells (ResourceIfAny r) (room_refusal (unwrap_or r 0) m f) ws 12
      unfolding room_refusal unless
      room_locks h = record { then = λ t g is. rw (room_is t g is, sym (free_null t g.core ws is) ∙ eq-eqb (get_or ws 3 0) 0 h) }

      module _ (left : get_or ws 3 0 ≡ 0 → ⊥) where
        free_is : (t : Tables) → Core t → ws ≡ words t → null t.free_locks ≡ false
        free_is t g is = sym (free_null t g ws is) ∙ ne_eqb (get_or ws 3 0) 0 left

        may_queue : r ≡ None → (t : Tables) → (not (no_queue f) || at_once (unwrap_or r 0) m t) ≡ true
        may_queue e t = or_right (not (no_queue f)) _ (rw e (new_at_once m t))

        pub room_new : r ≡ None → Tells (ResourceIfAny r) (room_refusal (unwrap_or r 0) m f) ws 0
        unfolding room_refusal unless
        room_new e = record { then = λ t g is. rw (room_is t g is, free_is t g.core is, may_queue e t) }

        module _ (x : ℕ) (ex : r ≡ Some x) where
          module _ (q : Bool) (eq : q ≡ no_queue f) where
            pub room_queues : not q ≡ true → Tells (ResourceIfAny r) (room_refusal (unwrap_or r 0) m f) ws 0
            unfolding room_refusal unless
            room_queues h = record { then = λ t g is. rw (room_is t g is, free_is t g.core is, ← eq, not-true q h) }

            module _ (only : not q ≡ false) (b : Bool) (eb : Tells (Resourced x) (λ t. granted_at_once t x m) ws b) where
              at_once_is : (t : Tables) → ResourceIfAny r t → ws ≡ words t → (not (no_queue f) || at_once (unwrap_or r 0) m t) ≡ b
              at_once_is t g is = rw (← eq, not-false q only, ex) (known_at_once x m t (there x ex t g).in_range ∙ sym (eb.then t (there x ex t g) is))

              pub room_at_once : b ≡ true → Tells (ResourceIfAny r) (room_refusal (unwrap_or r 0) m f) ws 0
              unfolding room_refusal unless
              room_at_once h = record { then = λ t g is. rw (room_is t g is, free_is t g.core is, at_once_is t g is, h) }

              pub room_blocks : b ≡ false → Tells (ResourceIfAny r) (room_refusal (unwrap_or r 0) m f) ws 13
              unfolding room_refusal unless
              room_blocks h = record { then = λ t g is. rw (room_is t g is, free_is t g.core is, at_once_is t g is, h) }
