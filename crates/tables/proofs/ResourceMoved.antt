-- A resource becomes another whose queues are the same: what that does to the words and to the slots.
use mathlib.Core.Path.{◌≡◌, refl, sym, ◌∙◌, ap, ap₂, fun_ext}
use mathlib.Core.Bool.{Bool, true, false}
use mathlib.Core.List.{List, ◌++◌, map}
use Prim.Native.Nat.{ℕ, ◌-◌, ◌*◌, ◌≤◌}
use native.Mathlib.Omega.{arith}
use lib.ListN.{length, take, drop}
use Rattle.tables.specs.Lists.{nth, count, null}
use Rattle.tables.specs.State.{Resource, Tables, no_resource, lock, resource, Queue, grants, converts, Chain, free_resources, queue_of, chain_of, shift_front, move_resource}
use Rattle.tables.specs.Grants.{holders, tally}
use Rattle.tables.specs.Layout.{of_resource, place, resource_links, resource_fields, words, slot_width, slot, slots}
use Rattle.tables.proofs.Counts.{le_within}
use Rattle.tables.proofs.Numbered.{put_resource, resource_put_blind}
use Rattle.tables.specs.Stores.{Counts, words_with, store_run}
use Rattle.tables.specs.Threads.{Present}
use Rattle.tables.proofs.Chains.{with_chain}
use Rattle.tables.specs.Threads.{Stands}
use Rattle.tables.proofs.WordChanges.{words_true, stands, put_resource_words}
use Rattle.tables.proofs.ReadBack.{chain_most}
use Rattle.tables.proofs.SlotChanges.{slots_put, slots_move_resource}
use Rattle.tables.specs.Stores.{cell_place}
use Rattle.tables.proofs.WordSteps.{push, leave, push_is, leave_is}
use Rattle.tables.specs.Threads.{Sane}
use Rattle.tables.proofs.HomeChange.{sane_leave, sane_push}
use Rattle.tables.specs.Threads.{Seat}
use Rattle.tables.specs.Validity.{Core}
use Rattle.tables.proofs.ThreadedChains.{core_threaded}
use Rattle.tables.proofs.Wholeness.{counted_seat, core_whole}
use Rattle.tables.specs.Stores.{front_cells}

-- k on a chain of free records, where it was and is to be on it or not: it enters at the front
unfoldable pub front_chain : Bool → Bool → Chain → ℕ → Tables → Tables
front_chain true true c k t = t
front_chain true false c k t = leave c k t
front_chain false true c k t = push c k t
front_chain false false c k t = t

-- the two fields of the resource k, with r resources
unfoldable pub set_resource_cells : ℕ → ℕ → Resource → List ℕ → List ℕ
set_resource_cells r k x ws = store_run (λ f. place r (of_resource k f)) resource_links (resource_fields x) ws

-- the resource k was o and becomes x: it leaves the free chain or joins its front, and its fields become x's
unfoldable pub resource_cells : ℕ → ℕ → Resource → Resource → List ℕ → List ℕ
unfolding set_resource_cells
resource_cells r k o x ws = set_resource_cells r k x (front_cells (null o.name) (null x.name) (cell_place r free_resources) r k ws)

pub sane_front : (r l : ℕ) (t : Tables) → Sane r l t → (b d : Bool) (c : Chain) (k : ℕ) → Present t c → Stands t c k → Seat b k (chain_of c t) → Sane r l (front_chain b d c k t)
unfolding front_chain
sane_front r l t h true true c k p s a = h
sane_front r l t h true false c k p s a = sane_leave r l t h c k p
sane_front r l t h false true c k p s a = sane_push r l t h c k p a s
sane_front r l t h false false c k p s a = h

pub front_words : (ct : Counts) (r l : ℕ) (t : Tables) → Sane r l t → (b d : Bool) (c : Chain) (n k : ℕ) → Present t c → length (chain_of c t) ≤ n → Stands t c k → Seat b k (chain_of c t)
    → front_cells b d (cell_place r c) n k (words_with ct t) ≡ words_with ct (front_chain b d c k t)
unfolding front_chain front_cells
front_words ct r l t h true true c n k p q s a = refl
front_words ct r l t h true false c n k p q s a = leave_is ct t r h.resources c (h.chains c p) n k q a
front_words ct r l t h false true c n k p q s a = push_is ct t r h.resources c (h.chains c p) k s
front_words ct r l t h false false c n k p q s a = refl

front_resources : (b d : Bool) (k : ℕ) (t : Tables) → (front_chain b d free_resources k t).resources ≡ t.resources
unfolding front_chain leave push with_chain
front_resources true true k t = refl
front_resources true false k t = refl
front_resources false true k t = refl
front_resources false false k t = refl

-- the tables with another resource r, and r on the free chain where it is to be
front_put : (b d : Bool) (r : ℕ) (x : Resource) (t : Tables)
    → put_resource r x (front_chain b d free_resources r t) ≡ record {
      resources = (put_resource r x t).resources;
      locks = t.locks;
      free_resources = shift_front b d r t.free_resources;
      free_locks = t.free_locks;
      denied = t.denied;
      blocked = t.blocked;
      notices = t.notices;
    }
unfolding front_chain leave push with_chain shift_front
front_put true true r x t = refl
front_put true false r x t = refl
front_put false true r x t = refl
front_put false false r x t = refl

-- r on the free chain where it is to be, if it becomes x
unfoldable pub relinked : ℕ → Resource → Tables → Tables
relinked r x t = front_chain (null (resource t r).name) (null x.name) free_resources r t

pub put_relinked : (r : ℕ) (x : Resource) (t : Tables) → put_resource r x (relinked r x t) ≡ move_resource r x t
unfolding relinked move_resource
put_relinked r x t = front_put (null (resource t r).name) (null x.name) r x t

module _ (r : ℕ) (x : Resource) (t : Tables) (core : Core t) (low : 1 ≤ r) (high : r ≤ length t.resources) where
  seat : Seat (null (resource t r).name) r t.free_resources
  seat = counted_seat (null (resource t r).name) r t.free_resources (rw (le_within (length t.resources) r low high) at (core.spare r))

  standing : Stands t free_resources r
  standing = stands t free_resources r low (low, high, omega arith) refl

  pub sane_relinked : Sane (length t.resources) (length t.locks) (relinked r x t)
  unfolding relinked
  sane_relinked = sane_front _ _ t (core_whole t core).sane (null (resource t r).name) (null x.name) free_resources r (omega arith) standing seat

  pub relinked_words : (ct : Counts) → front_cells (null (resource t r).name) (null x.name) (cell_place (length t.resources) free_resources) (length t.resources) r (words_with ct t) ≡ words_with ct (relinked r x t)
  unfolding relinked
  relinked_words ct =
      front_words ct _ (length t.locks) t (core_whole t core).sane (null (resource t r).name) (null x.name) free_resources (length t.resources) r (omega arith)
      (chain_most t free_resources (core_threaded t core free_resources (omega arith))) standing seat

  resource_relinked : resource (relinked r x t) r ≡ resource t r
  unfolding relinked resource
  resource_relinked = ap (λ (xs : List Resource). nth xs r no_resource) (front_resources (null (resource t r).name) (null x.name) r t)

  module _ (kept : (q : Queue) → queue_of q x ≡ queue_of q (resource t r)) where
    pub set_relinked : (ct : Counts) → set_resource_cells (length t.resources) r x (words_with ct (relinked r x t)) ≡ words_with ct (move_resource r x t)
    unfolding set_resource_cells
    set_relinked ct =
        sym (ap (words_with ct) (sym (put_relinked r x t))
        ∙ put_resource_words ct (relinked r x t) r x low (omega (arith, sane_relinked.resources)) (λ q. kept q ∙ ap (queue_of q) (sym resource_relinked))
        ∙ ap (λ (n : ℕ). store_run (λ f. place n (of_resource r f)) resource_links (resource_fields x) (words_with ct (relinked r x t))) sane_relinked.resources)

    -- no count changes
    pub tally_refilled : tally (move_resource r x t) ≡ tally t
    unfolding tally holders resource lock move_resource
    tally_refilled =
        fun_ext (λ s. fun_ext (λ h. ap₂ (λ (g c : List ℕ). count h (map (λ k. (lock t k).held) (g ++ c)))
        (resource_put_blind t r x (queue_of grants) (kept grants) s) (resource_put_blind t r x (queue_of converts) (kept converts) s)))

    pub resource_moved_words : words (move_resource r x t) ≡ resource_cells (length t.resources) r (resource t r) x (words t)
    unfolding resource_cells
    resource_moved_words = rw (← (words_true t), ← (words_true (move_resource r x t)), relinked_words (tally t), set_relinked (tally t), tally_refilled)

  pub resource_moved_slots : slots (move_resource r x t) ≡ take (slot_width * (r - 1)) (slots t) ++ (slot x ++ drop (slot_width * r) (slots t))
  resource_moved_slots =
      slots_move_resource r x t ∙ slots_put r x t low high (λ s. (core.resource_ok s).name_length) (λ s. (core.resource_ok s).value_length)
