-- The refusals of a lock, by its number and what its record says, from the words of a state.
use mathlib.Core.Path.{◌≡◌, refl, sym, ◌∙◌, ap}
use mathlib.Core.Bool.{Bool, true, false, ◌&&◌, ◌||◌, not}
use mathlib.Core.List.{List}
use Prim.Native.Nat.{ℕ, ◌≤◌}
use Rattle.std.specs.Prelude.{Result, IsErrAnd}
use lib.ListN.{length}
use lib.Dec.{eqb}
use borrow.Author.Tests.{eq-eqb, ne_eqb, not-true, not-false}
use Rattle.tables.specs.declared.Lock.{Lock}
use Rattle.tables.specs.Lists.{within}
use Rattle.tables.specs.State.{Tables, lock, granted, blocked_lock, holds}
use Rattle.tables.specs.Layout.{words, locks_in, read_lock}
use Rattle.tables.specs.Sound.{client_right}
use Rattle.tables.proofs.Cases.{parts}
use Rattle.tables.proofs.Counts.{within_le}
use Rattle.tables.specs.Validity.{Core}
use Rattle.table_fields.specs.Sizes.{Sized}
use Rattle.table_fields.proofs.StateWords.{locks_is, lock_record}
use Rattle.rules.specs.Calls.{unless, own, cancel_refusal, purge_refusal, poll_refusal}
use Rattle.rules.specs.Entries.{look_refusal}
use Rattle.table_chains.specs.Promises.{Some, Tells}
use Rattle.table_chains.proofs.ChainWalks.{some_sized}
use Rattle.answers.specs.declared.Refusal.{Refusal}
use Rattle.answers.specs.Refusals.{refusal_number, refused_number}
use Rattle.call_refusals.specs.Rests.{granted_refusal}
use Rattle.call_refusals.proofs.PassedUp.{client_goes, client_first}

-- purge and poll
module _ (c : ℕ) (p : Bool) (ep : p ≡ client_right c) where
  pub client_passes : p ≡ true → 0 ≡ purge_refusal c
  unfolding purge_refusal unless
  client_passes h = rw (sym ep ∙ h)

  pub client_wrong : p ≡ false → 3 ≡ purge_refusal c
  unfolding purge_refusal unless
  client_wrong h = rw (sym ep ∙ h)

pub poll_as_purge : (c : ℕ) → poll_refusal c ≡ purge_refusal c
unfolding poll_refusal purge_refusal
poll_as_purge c = refl

own_within : (t : Tables) (c k : ℕ) → own c k t ≡ true → within (length t.locks) k ≡ true
unfolding own
own_within t c k h = search parts

-- neither of two states
neither : (a b : Bool) → (not a && not b) ≡ true → (a || b) ≡ false
neither true b h = sym h
neither false b h = not-true b h

either : (a b : Bool) → (not a && not b) ≡ false → (a || b) ≡ true
either true b h = refl
either false b h = not-false b h

module _ (ws : List ℕ) (c k : ℕ) where
  -- the client's own lock, which the code has read
  module _ (o : Bool) (eo : Tells Core (own c k) ws o) where
    own_not : not o ≡ true → (t : Tables) → Core t → ws ≡ words t → own c k t ≡ false
    own_not h t g is = sym (eo.then t g is) ∙ not-true o h

    module _ (mine : not o ≡ false) where
      own_is : (t : Tables) → Core t → ws ≡ words t → own c k t ≡ true
      own_is t g is = sym (eo.then t g is) ∙ not-false o mine

      range : (t : Tables) → Core t → ws ≡ words t → (1 ≤ k) × (k ≤ length t.locks)
      range t g is = within_le (length t.locks) k (own_within t c k (own_is t g is))

      pub own_there : Some Core ws → Sized ws × ((1 ≤ k) × (k ≤ locks_in ws))
      own_there s =
          let r = range s.state s.good s.is in
          (some_sized s, (r.0, rw (locks_is s.state ws s.is) r.1))

      module _ (l : Lock) (el : l ≡ read_lock ws k) where
        says : (f : Lock → Bool) (b : Bool) → f l ≡ b → (t : Tables) → Core t → ws ≡ words t → f (lock t k) ≡ b
        says f b e t g is = ap f (sym (el ∙ lock_record t ws is k (range t g is).0 (range t g is).1)) ∙ e

        unread : (l.completion ≡ 0 → ⊥) → (t : Tables) → Core t → ws ≡ words t → eqb (lock t k).completion 0 ≡ false
        unread n = says (λ (x : Lock). eqb x.completion 0) false (ne_eqb l.completion 0 n)

        quiet : l.completion ≡ 0 → (t : Tables) → Core t → ws ≡ words t → eqb (lock t k).completion 0 ≡ true
        quiet e = says (λ (x : Lock). eqb x.completion 0) true (eq-eqb l.completion 0 e)

        -- release and convert
        pub granted_unread : (l.completion ≡ 0 → ⊥) → Tells Core (granted_refusal c k) ws 9
        unfolding granted_refusal unless
        granted_unread n = record { then = λ t g is. rw (own_is t g is, unread n t g is) }

        module _ (e : l.completion ≡ 0) where
          pub granted_state : (l.state ≡ 1 → ⊥) → Tells Core (granted_refusal c k) ws 10
          unfolding granted_refusal unless
          granted_state n = record { then = λ t g is. rw (own_is t g is, quiet e t g is, says granted false (ne_eqb l.state 1 n) t g is) }

          pub granted_passes : l.state ≡ 1 → Tells Core (granted_refusal c k) ws 0
          unfolding granted_refusal unless
          granted_passes h = record { then = λ t g is. rw (own_is t g is, quiet e t g is, says granted true (eq-eqb l.state 1 h) t g is) }

    pub granted_lock : not o ≡ true → Tells Core (granted_refusal c k) ws 8
    unfolding granted_refusal unless
    granted_lock h = record { then = λ t g is. rw (own_not h t g is) }

  -- cancel, and read and list
  module _ {A : Type 0} (x : Result A Refusal) (e : Refusal) (up : IsErrAnd x (λ d. d ≡ e)) (ee : refusal_number e ≡ purge_refusal c) where
    pub cancel_client : Tells Core (cancel_refusal c k) ws (refused_number x)
    unfolding cancel_refusal
    cancel_client = record { then = λ t g is. client_first c x e up ee _ }

    pub look_client : Tells Core (look_refusal c k) ws (refused_number x)
    unfolding look_refusal
    look_client = record { then = λ t g is. client_first c x e up ee _ }

  module _ (right : 0 ≡ purge_refusal c) where
    client_is : client_right c ≡ true
    client_is = client_goes c right

    module _ (o : Bool) (eo : Tells Core (own c k) ws o) where
      pub cancel_lock : not o ≡ true → Tells Core (cancel_refusal c k) ws 8
      unfolding cancel_refusal unless
      cancel_lock h = record { then = λ t g is. rw (client_is, own_not o eo h t g is) }

      pub look_lock : not o ≡ true → Tells Core (look_refusal c k) ws 8
      unfolding look_refusal unless
      look_lock h = record { then = λ t g is. rw (client_is, own_not o eo h t g is) }

      module _ (mine : not o ≡ false) (l : Lock) (el : l ≡ read_lock ws k) where
        pub cancel_unread : (l.completion ≡ 0 → ⊥) → Tells Core (cancel_refusal c k) ws 9
        unfolding cancel_refusal unless
        cancel_unread n = record { then = λ t g is. rw (client_is, own_is o eo mine t g is, unread o eo mine l el n t g is) }

        module _ (e : l.completion ≡ 0) where
          pub cancel_state : (not (eqb l.state 2) && not (eqb l.state 3)) ≡ true → Tells Core (cancel_refusal c k) ws 10
          unfolding cancel_refusal unless
          cancel_state h = record {
            then = λ t g is. rw (client_is, own_is o eo mine t g is, quiet o eo mine l el e t g is, says o eo mine l el blocked_lock false (neither (eqb l.state 2) (eqb l.state 3) h) t g is);
          }

          pub cancel_passes : (not (eqb l.state 2) && not (eqb l.state 3)) ≡ false → Tells Core (cancel_refusal c k) ws 0
          unfolding cancel_refusal unless
          cancel_passes h = record {
            then = λ t g is. rw (client_is, own_is o eo mine t g is, quiet o eo mine l el e t g is, says o eo mine l el blocked_lock true (either (eqb l.state 2) (eqb l.state 3) h) t g is);
          }

        pub look_state : (not (eqb l.state 1) && not (eqb l.state 2)) ≡ true → Tells Core (look_refusal c k) ws 10
        unfolding look_refusal unless
        look_state h = record { then = λ t g is. rw (client_is, own_is o eo mine t g is, says o eo mine l el holds false (neither (eqb l.state 1) (eqb l.state 2) h) t g is) }

        pub look_passes : (not (eqb l.state 1) && not (eqb l.state 2)) ≡ false → Tells Core (look_refusal c k) ws 0
        unfolding look_refusal unless
        look_passes h = record { then = λ t g is. rw (client_is, own_is o eo mine t g is, says o eo mine l el holds true (either (eqb l.state 1) (eqb l.state 2) h) t g is) }
