-- The marked resources are settled one by one: laws of states, and for the code.
use mathlib.Core.Path.{◌≡◌, refl, sym, ◌∙◌, ap}
use mathlib.Core.Bool.{Bool, true, false, not}
use mathlib.Core.List.{List}
use Prim.Native.Nat.{ℕ, ◌+◌, ◌≤◌, ◌<◌}
use native.Mathlib.Omega.{arith}
use lib.ListN.{length, get_or}
use borrow.Author.Rules.{rules}
use borrow.Author.Tests.{not-true, not-false}
use Rattle.tables.specs.State.{Tables, most_resources}
use Rattle.tables.specs.Layout.{words, slots, resources_in}
use Rattle.tables.proofs.Cases.{by_cases}
use Rattle.tables.proofs.Counts.{within_le, le_within}
use Rattle.tables.specs.Validity.{Core}
use Rattle.rules.specs.Queues.{settle}
use Rattle.rules.specs.Calls.{settle_all}
use Rattle.rules.proofs.ChangesKeepSound.{settle_settles}
use Rattle.table_fields.specs.Sizes.{resource_places}
use Rattle.table_fields.proofs.StateWords.{resources_is}
use Rattle.table_chains.specs.Promises.{Changes, Resourced}
use Rattle.queues.specs.Promises.{SomeTables}
use Rattle.table_chains.specs.Marks.{marked}
use Rattle.call_purge.specs.SettledResources.{settle_if, settle_marked}
use Rattle.call_purge.proofs.NumbersLeft.{ahead, ahead_start, ahead_end, ahead_in, ahead_out}
use Rattle.call_purge.proofs.ClientLocks.{lent_sized}

-- ONE RESOURCE
if_settled : (b : Bool) (r : ℕ) (t : Tables) → b ≡ true → settle_if b r t ≡ settle r t
unfolding settle_if
if_settled b r t h = rw (h, settle_if)

if_kept : (b : Bool) (r : ℕ) (t : Tables) → b ≡ false → settle_if b r t ≡ t
unfolding settle_if
if_kept b r t h = rw (h, settle_if)

pub record Kept (t u : Tables) : Type 0 where
  pub core : Core u
  pub resources_are : length u.resources ≡ length t.resources

settled_kept : (b : Bool) (r : ℕ) (t : Tables) → Resourced r t → Kept t (settle_if b r t)
settled_kept b r t p =
    by_cases b
    (λ h. let s = settle_settles r t p.core p.in_range in rw (if_settled b r t h) (record { core = s.core; resources_are = s.resources_same }))
    (λ h. rw (if_kept b r t h) (record { core = p.core; resources_are = refl }))

-- settle_if_marked
module _ (m : List Bool) (r : ℕ) (a sa : List ℕ) where
  pub settle_not : not (get_or m r false) ≡ true → Changes (Resourced r) (settle_if (marked m r) r) a sa a sa
  unfolding marked
  settle_not h = record {
    then = λ t p is iss. rw (if_kept (marked m r) r t (not-true (get_or m r false) h)) (is, iss);
  }

  pub settle_made : not (get_or m r false) ≡ false → (b sb : List ℕ) → Changes (Resourced r) (settle r) a sa b sb → Changes (Resourced r) (settle_if (marked m r) r) a sa b sb
  unfolding marked
  settle_made h b sb made = record {
    then = λ t p is iss. rw (if_settled (marked m r) r t (not-false (get_or m r false) h)) (made.then t p is iss);
  }

pub ruleset settle_laws = (rules, settle_not, settle_made)

-- THE LOOP: the marked resources from r on are settled
unfoldable pub settle_from : List Bool → ℕ → Tables → Tables
settle_from m r t = settle_all (ahead (marked m) (length t.resources) r) t

from_start : (m : List Bool) (t : Tables) → settle_from m 1 t ≡ settle_marked m t
unfolding settle_from settle_marked
from_start m t = rw (ahead_start (marked m) (length t.resources))

from_end : (m : List Bool) (r : ℕ) (t : Tables) → length t.resources < r → settle_from m r t ≡ t
unfolding settle_from settle_all
from_end m r t h = rw (ahead_end (marked m) (length t.resources) r h)

from_turn : (m : List Bool) (r : ℕ) (t : Tables) → Resourced r t → settle_from m (r + 1) (settle_if (marked m r) r t) ≡ settle_from m r t
unfolding settle_from settle_all
from_turn m r t p =
    let n = length t.resources in
    let high = (within_le n r p.in_range).1 in
    rw (settled_kept (marked m r) r t p).resources_are
    (by_cases (marked m r)
    (λ h. rw (ahead_in (marked m) n r high h, if_settled (marked m r) r t h))
    (λ h. rw (ahead_out (marked m) n r high h, if_kept (marked m r) r t h)))

-- settle_marked: from the words a and slots sa to those of a state from which as much is left to do
pub record Goes (m : List Bool) (r : ℕ) (t : Tables) (b sb : List ℕ) : Type 0 where
  pub here : Tables
  pub core : Core here
  pub is : b ≡ words here
  pub slots_are : sb ≡ slots here
  pub resources_are : length here.resources ≡ length t.resources
  pub same : settle_from m r here ≡ settle_marked m t

pub record Going (m : List Bool) (r : ℕ) (a sa b sb : List ℕ) : Type 0 where
  pub low : 1 ≤ r
  pub wide : length m ≡ resource_places
  pub lent : SomeTables Core b sb
  pub resources_are : resources_in b ≡ resources_in a
  pub then : (t : Tables) → Core t → a ≡ words t → sa ≡ slots t → Goes m r t b sb

module _ (m : List Bool) (a sa : List ℕ) where
  pub settle_starts : SomeTables Core a sa → length m ≡ resource_places → Going m 1 a sa a sa
  settle_starts s w =
      record {
        low = omega arith;
        wide = w;
        lent = s;
        resources_are = refl;
        then = λ t co is iss. record { here = t; core = co; is = is; slots_are = iss; resources_are = refl; same = from_start m t };
      }

  module _ (r : ℕ) (b sb : List ℕ) (g : Going m r a sa b sb) where
    pub settle_ends : resources_in a < r → Changes Core (settle_marked m) a sa b sb
    settle_ends h = record {
      then = λ t co is iss.
          let q = g.then t co is iss in
          let past : length q.here.resources < r = omega (arith, q.resources_are, resources_is t a is) in
          let e : q.here ≡ settle_marked m t = sym (from_end m r q.here past) ∙ q.same in
          (q.is ∙ ap words e, q.slots_are ∙ ap slots e);
    }

    module _ (h : r ≤ resources_in a) where
      there : (t : Tables) → Core t → b ≡ words t → Resourced r t
      there t co is =
          record { core = co; in_range = le_within (length t.resources) r g.low (omega (arith, resources_is t b is, g.resources_are)) }

      pub settle_resourced : SomeTables (Resourced r) b sb
      settle_resourced =
          record { state = g.lent.state; good = there g.lent.state g.lent.good g.lent.is; is = g.lent.is; slots_are = g.lent.slots_are }

      last_few : resources_in a ≤ most_resources
      last_few = omega (arith, (lent_sized b sb g.lent).few_resources, g.resources_are)

      pub settle_place : r < length m
      settle_place = omega (arith, last_few, g.wide)

      pub settle_again : (d sd : List ℕ) → Changes (Resourced r) (settle_if (marked m r) r) b sb d sd → Going m (r + 1) a sa d sd
      settle_again d sd f =
          let s = g.lent in
          let p = there s.state s.good s.is in
          let k = settled_kept (marked m r) r s.state p in
          let w = f.then s.state p s.is s.slots_are in
          record {
            low = omega arith;
            wide = g.wide;
            lent = record { state = settle_if (marked m r) r s.state; good = k.core; is = w.0; slots_are = w.1 };
            resources_are = resources_is (settle_if (marked m r) r s.state) d w.0 ∙ k.resources_are ∙ sym (resources_is s.state b s.is) ∙ g.resources_are;
            then = λ t co is iss.
                let q = g.then t co is iss in
                let o = there q.here q.core q.is in
                let y = settled_kept (marked m r) r q.here o in
                let z = f.then q.here o q.is q.slots_are in
                record {
                  here = settle_if (marked m r) r q.here;
                  core = y.core;
                  is = z.0;
                  slots_are = z.1;
                  resources_are = y.resources_are ∙ q.resources_are;
                  same = from_turn m r q.here o ∙ q.same;
                };
          }

pub ruleset settles_laws = (rules, lent_sized, settle_starts, settle_resourced, settle_place, settle_again, settle_ends)
