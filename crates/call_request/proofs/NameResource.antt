-- The resource of a name: the one that has it, or the first free one, which takes it.
use mathlib.Core.Path.{◌≡◌, refl, sym, ◌∙◌, ap}
use mathlib.Core.List.{List}
use Prim.Native.Nat.{ℕ, zero, suc, ◌≤◌}
use native.Mathlib.Omega.{arith}
use Rattle.std.specs.Prelude.{Option, Some, None}
use borrow.Author.Rules.{rules}
use borrow.Author.Tests.{not-true}
use Rattle.tables.specs.Lists.{count, first, null}
use Rattle.tables.specs.State.{Tables, resource, move_resource}
use Rattle.tables.specs.Layout.{of_header, words, slots, word_in}
use Rattle.tables.proofs.Links.{next_here}
use Rattle.tables.proofs.ReadBack.{word_read}
use Rattle.tables.proofs.ChainMembers.{and_bit}
use Rattle.tables.specs.Validity.{used}
use Rattle.rules.specs.Queues.{find}
use Rattle.rules.specs.Calls.{new_resource, resource_for, with_resource}
use Rattle.rules.proofs.RequestKeepsSound.{first_member}
use Rattle.table_fields.specs.Sizes.{Sized}
use Rattle.table_fields.proofs.StateWords.{core_sized}
use Rattle.tables.specs.Numbered.{numbered}
use Rattle.table_chains.specs.Promises.{Changes}
use Rattle.table_chains.proofs.NumberOrNone.{is_number, none_is, above_none}
use Rattle.table_names.specs.Names.{find_in}
use Rattle.table_names.proofs.StateNames.{find_is}
use Rattle.queues.specs.Promises.{SomeTables, Takes}
use Rattle.call_request.specs.Promises.{Nameable, Houses}

-- the header names the first free resource
first_free : (t : Tables) (a : List ℕ) → a ≡ words t → word_in a (of_header 2) ≡ first t.free_resources
first_free t a is = ap (λ (w : List ℕ). word_in w (of_header 2)) is ∙ word_read t (of_header 2) (omega arith) ∙ next_here 0 0 t.free_resources refl

-- a name that no resource has
pub takes_first : (n : List ℕ) (t : Tables) → Nameable n t → find n t ≡ 0 → Takes (first t.free_resources) n t
takes_first n t p e =
    let r = first t.free_resources in
    let spare : 1 ≤ count r t.free_resources = first_member t.free_resources (not-true (null t.free_resources) (rw e at p.room)) in
    let b = and_bit _ (null (resource t r).name) (rw (p.core.spare r) at spare) in
    record { core = p.core; in_range = b.0; free = unfold used in rw b.1; short = p.short }

-- resource_for
old_resource : (x : ℕ) (n : List ℕ) (t : Tables) → (x ≡ 0 → ⊥) → (resource_for x t ≡ x) × (with_resource x n t ≡ t)
unfolding resource_for with_resource
old_resource zero n t h = absurd (h refl)
old_resource (suc x) n t h = (refl, refl)

new_resource_is : (x : ℕ) (n : List ℕ) (t : Tables) → x ≡ 0 →
    (resource_for x t ≡ first t.free_resources) × (with_resource x n t ≡ move_resource (first t.free_resources) (new_resource n) t)
unfolding resource_for with_resource
new_resource_is x n t e = rw e (refl, refl)

module _ (n a sa : List ℕ) where
  pub house_sized : SomeTables (Nameable n) a sa → Sized a
  house_sized s = core_sized s.state a s.is s.good.core

  module _ (found : Option ℕ) (found_is : found ≡ numbered (find_in a sa n)) where
    found_at : (t : Tables) → Nameable n t → a ≡ words t → sa ≡ slots t → found ≡ numbered (find n t)
    found_at t p is iss = found_is ∙ ap numbered (rw (is, iss) (find_is t p.core n))

    pub house_old : (x : ℕ) → found ≡ Some x → Houses n a sa a sa x
    house_old x h = record {
      then = λ t p is iss.
          let e : Some x ≡ numbered (find n t) = sym h ∙ found_at t p is iss in
          let low : 1 ≤ x = above_none x (find n t) e in
          let same : x ≡ find n t = is_number x (find n t) e in
          let o = old_resource (find n t) n t (λ z. omega arith) in
          (same ∙ sym o.0, is ∙ ap words (sym o.1), iss ∙ ap slots (sym o.1));
    }

    module _ (z : found ≡ None) (f : ℕ) (ef : f ≡ word_in a (of_header 2)) where
      new_at : (t : Tables) → Nameable n t → a ≡ words t → sa ≡ slots t → find n t ≡ 0
      new_at t p is iss = none_is (find n t) (sym z ∙ found_at t p is iss)

      takes_at : (t : Tables) → Nameable n t → a ≡ words t → sa ≡ slots t → Takes f n t
      takes_at t p is iss = rw (ef ∙ first_free t a is) (takes_first n t p (new_at t p is iss))

      pub house_takes : SomeTables (Nameable n) a sa → SomeTables (Takes f n) a sa
      house_takes s = record { state = s.state; good = takes_at s.state s.good s.is s.slots_are; is = s.is; slots_are = s.slots_are }

      pub house_new : (b sb : List ℕ) → Changes (Takes f n) (move_resource f (new_resource n)) a sa b sb → Houses n a sa b sb f
      house_new b sb h = record {
        then = λ t p is iss.
            let e = ef ∙ first_free t a is in
            let o = new_resource_is (find n t) n t (new_at t p is iss) in
            let d = h.then t (takes_at t p is iss) is iss in
            let same : move_resource f (new_resource n) t ≡ with_resource (find n t) n t = ap (λ (r : ℕ). move_resource r (new_resource n) t) e ∙ sym o.1 in
            (e ∙ sym o.0, d.0 ∙ ap words same, d.1 ∙ ap slots same);
      }

pub ruleset house_laws = (rules, house_sized, house_old, house_takes, house_new)
