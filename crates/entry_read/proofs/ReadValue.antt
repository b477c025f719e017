-- The value block that a read gives.
use mathlib.Core.Path.{◌≡◌, refl, sym, ap, ◌∙◌}
use mathlib.Core.Bool.{Bool, true, false}
use mathlib.Core.List.{List}
use Prim.Native.Nat.{ℕ, zero, suc, ◌*◌, ◌≤◌}
use native.Mathlib.Omega.{arith}
use lib.ListN.{length, drop}
use borrow.Author.Rules.{rules}
use Rattle.tables.specs.declared.Lock.{Lock}
use Rattle.tables.specs.Lists.{within}
use Rattle.tables.specs.State.{Tables, name_width, no_value, lock, resource, holds}
use Rattle.tables.specs.Layout.{of_resource, of_lock, slot_width, resources_in, locks_in, word_in, slot_in, words, read, read_lock}
use Rattle.tables.specs.Sound.{sound}
use Rattle.tables.proofs.Counts.{within_le}
use Rattle.tables.proofs.ChainMembers.{holder_within}
use Rattle.tables.specs.Validity.{used, Core}
use Rattle.tables.proofs.Valid.{holder_place, used_within}
use Rattle.tables.proofs.Written.{Writes, sound_written}
use Rattle.rules.specs.Entries.{Reading, look_refusal, read_value, read_if, read_entry}
use Rattle.rules.proofs.AcceptedCalls.{passed, next_test}
use Rattle.table_fields.specs.Sizes.{Sized}
use Rattle.table_fields.proofs.StateWords.{resources_is, core_sized, lock_low, lock_high, lock_is, word_is}
use Rattle.table_chains.specs.Promises.{Tells}
use Rattle.table_names.proofs.StateNames.{slot_there, value_is}
use Rattle.queues.specs.Promises.{SomeTables}
use Rattle.entry_read.specs.Reads.{reading, HoldingLock, TellsBoth, value_beside}
use Rattle.std.specs.Prelude.{Result, Err, IsErrAnd}
use Rattle.table_chains.specs.Promises as chains
use Rattle.answers.specs.declared.Refusal.{Refusal}
use Rattle.answers.specs.declared.Refusal.TheVariants as refusals
use Rattle.answers.specs.Refusals.{refusal_number}
use Rattle.call_refusals.proofs.PassedUp.{above_zero, passed_up}
use Rattle.entry_read.specs.declared.ValueRead.{ValueRead}

-- a lock that holds a mode is one of the locks, and its resource is one of the resources
module _ (k : ℕ) (t : Tables) (p : HoldingLock k t) where
  lock_there : within (length t.locks) k ≡ true
  lock_there = holder_within t k p.is_holder

  resource_there : within (length t.resources) (lock t k).resource ≡ true
  resource_there = used_within t (lock t k).resource (holder_place (used t) (lock t k) (p.core.lock_ok k) p.is_holder).in_use

module _ (k : ℕ) (ws ss : List ℕ) where
  pub placed_sized : SomeTables (HoldingLock k) ws ss → Sized ws
  placed_sized s = core_sized s.state ws s.is s.good.core

  pub placed_lock : SomeTables (HoldingLock k) ws ss → (1 ≤ k) × (k ≤ locks_in ws)
  placed_lock s = let w = lock_there k s.state s.good in (lock_low s.state ws s.is k w, lock_high s.state ws s.is k w)

  module _ (r : ℕ) (e : r ≡ word_in ws (of_lock k 3)) where
    resource_is : (t : Tables) → HoldingLock k t → ws ≡ words t → r ≡ (lock t k).resource
    unfolding read_lock
    resource_is t p is = e ∙ ap (λ (l : Lock). l.resource) (lock_is t ws is k (lock_there k t p) (read_lock ws k) refl)

    in_range : (t : Tables) → HoldingLock k t → ws ≡ words t → (1 ≤ r) × (r ≤ length t.resources)
    in_range t p is = rw (resource_is t p is) (within_le (length t.resources) (lock t k).resource (resource_there k t p))

    pub placed_resource : SomeTables (HoldingLock k) ws ss → (1 ≤ r) × (r ≤ resources_in ws)
    placed_resource s =
        let w = in_range s.state s.good s.is in
        (w.0, omega (arith, w.1, resources_is s.state ws s.is))

    pub placed_slot : SomeTables (HoldingLock k) ws ss → (1 ≤ r) × (slot_width * r ≤ length ss)
    placed_slot s =
        let w = in_range s.state s.good s.is in
        (w.0, rw s.slots_are (slot_there s.state s.good.core r w.0 w.1))

    pub value_told : (v : List ℕ) → v ≡ drop name_width (slot_in ss r) → (n : ℕ) → n ≡ word_in ws (of_resource r 5)
        → TellsBoth (HoldingLock k) (value_beside k) ws ss (record { refusal = 0; value = v; valid = n })
    unfolding value_beside
    value_told v ev n en =
        record {
          then = λ t p is slots_are.
              let w = in_range t p is in
              let same = resource_is t p is in
              let value_same : v ≡ (resource t (lock t k).resource).value =
              ev ∙ ap (λ (x : List ℕ). drop name_width (slot_in x r)) slots_are ∙ value_is t p.core r w.0 w.1 ∙ ap (λ (i : ℕ). (resource t i).value) same in
              let valid_same : n ≡ (resource t (lock t k).resource).valid =
              en ∙ word_is t ws is (of_resource r 5) (w.0, w.1, omega arith) ∙ ap (λ (i : ℕ). (resource t i).valid) same in
              λ i. record { refusal = 0; value = value_same i; valid = valid_same i };
        }

-- THE ENTRY
refused_reading : (e : Refusal) (r : ℕ) (t : Tables) → reading (Err e) ≡ read_value (refusal_number e) r t
unfolding read_value
refused_reading e r t = go (refusal_number e) (above_zero e)
  where
    go : (n : ℕ) → (n ≡ 0 → ⊥) → record { refusal = n; value = no_value; valid = 0 } ≡ read_value n r t
    go zero z = absurd (z refl)
    go (suc n) z = refl

look_passed : (c k : ℕ) (t : Tables) → look_refusal c k t ≡ 0 → holds (lock t k) ≡ true
unfolding look_refusal
look_passed c k t h = passed _ 9 _ (next_test _ 7 _ (next_test _ 2 _ h))

module _ (ws ss : List ℕ) (b : Bool) (checked : b ≡ sound ws ss) (c k : ℕ) where
  pub read_unsound : b ≡ false → reading (Err refusals.Unsound) ≡ read_entry ws ss c k
  unfolding read_entry read_if
  read_unsound q = rw (← checked, q)

  module _ (ok : b ≡ true) where
    abbrev t : Tables
    t = read ws ss

    good_words : sound ws ss ≡ true
    good_words = sym checked ∙ ok

    w : Writes ws ss t
    w = sound_written ws ss good_words

    pub read_core : chains.Some Core ws
    read_core = record { state = t; good = w.valid.core; is = w.is }

    entry_is : read_value (look_refusal c k t) (lock t k).resource t ≡ read_entry ws ss c k
    unfolding read_entry read_if
    entry_is = rw good_words

    pub read_refused : (x : Result ValueRead Refusal) (e : Refusal) → IsErrAnd x (λ d. d ≡ e) → Tells Core (look_refusal c k) ws (refusal_number e) → reading x ≡ read_entry ws ss c k
    read_refused x e up en =
        ap reading (passed_up x e up) ∙ refused_reading e (lock t k).resource t
        ∙ ap (λ (i : ℕ). read_value i (lock t k).resource t) (en.then t w.valid.core w.is) ∙ entry_is

    module _ (goes : Tells Core (look_refusal c k) ws 0) where
      n_is : 0 ≡ look_refusal c k t
      n_is = goes.then t w.valid.core w.is

      good : HoldingLock k t
      good = record { core = w.valid.core; is_holder = look_passed c k t (sym n_is) }

      pub read_lent : SomeTables (HoldingLock k) ws ss
      read_lent = record { state = t; good = good; is = w.is; slots_are = w.slots_are }

      pub read_done : (x : Reading) → TellsBoth (HoldingLock k) (value_beside k) ws ss x → x ≡ read_entry ws ss c k
      unfolding value_beside read_value
      read_done x told =
          told.then t good w.is w.slots_are
          ∙ ap (λ (i : ℕ). read_value i (lock t k).resource t) n_is ∙ entry_is

pub ruleset placing = (rules, placed_sized, placed_lock, placed_resource, placed_slot, value_told)

pub ruleset reads = (rules, read_unsound, read_core, read_refused, read_lent, read_done)
