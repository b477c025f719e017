-- The locks of a client are purged one by one, and their resources marked: laws of states, and for the code.
use mathlib.Core.Path.{◌≡◌, refl, sym, ◌∙◌, ap}
use mathlib.Core.Bool.{Bool, true, false}
use mathlib.Core.List.{List, [], ◌∷◌}
use Prim.Native.Nat.{ℕ, ◌+◌, ◌≤◌, ◌<◌}
use native.Mathlib.Omega.{arith}
use lib.ListN.{length, set}
use lib.Dec.{eqb}
use borrow.Author.Rules.{rules}
use borrow.Author.Tests.{eq-eqb, ne_eqb}
use Rattle.tables.specs.declared.Lock.{Lock}
use Rattle.tables.specs.Lists.{count}
use Rattle.tables.specs.State.{Tables, lock, most_locks}
use Rattle.tables.specs.Layout.{words, slots, locks_in, read_lock}
use Rattle.tables.proofs.Cases.{by_cases}
use Rattle.tables.proofs.Counts.{within_le, le_within, count_same, count_step}
use Rattle.tables.specs.Validity.{Core}
use Rattle.tables.proofs.StateCases.{ok_numbered}
use Rattle.tables.proofs.Valid.{housed}
use Rattle.rules.specs.Calls.{locks_of, purge_lock, purge_locks}
use Rattle.table_fields.specs.Sizes.{Sized, resource_places}
use Rattle.table_fields.proofs.StateWords.{locks_is, core_sized}
use Rattle.table_chains.specs.Promises.{Changes}
use Rattle.queues.specs.Promises.{Locked, SomeTables}
use Rattle.answers.specs.declared.Purged.{Purged}
use Rattle.call_purge.specs.PurgedLocks.{no_counts, counts_of, added, Few, of_client, purge_own, mark_own, count_own, purge_all, mark_locks, mark_all, count_locks, count_all, Frees}
use Rattle.call_purge.proofs.NumbersLeft.{ahead, ahead_start, ahead_end, ahead_in, ahead_out, ahead_past, ahead_cong}
use Rattle.call_purge.proofs.LockCounts.{none_added, added_none, added_both, none_few, one_few, few_more, added_few, count_none, count_left}
use Rattle.call_purge.proofs.OneLock.{Freed, lock_freed, locked_sized, locked_low, locked_high, lock_told}

-- ONE LOCK
module _ (c k : ℕ) (t : Tables) where
  module _ (h : of_client c t k ≡ true) where
    own_purged : purge_own c k t ≡ purge_lock k t
    unfolding purge_own
    own_purged = rw (h, purge_own)

    own_marked : (m : List Bool) → mark_own c k m t ≡ set m (lock t k).resource true
    unfolding mark_own
    own_marked m = rw h

    own_counted : count_own c k t ≡ counts_of (lock t k)
    unfolding count_own
    own_counted = rw h

  module _ (h : of_client c t k ≡ false) where
    other_kept : purge_own c k t ≡ t
    unfolding purge_own
    other_kept = rw (h, purge_own)

    other_unmarked : (m : List Bool) → mark_own c k m t ≡ m
    unfolding mark_own
    other_unmarked m = rw h

    other_uncounted : count_own c k t ≡ no_counts
    unfolding count_own
    other_uncounted = rw h

  count_few : Few 1 (count_own c k t)
  count_few = by_cases (of_client c t k) (λ h. rw (own_counted h) (one_few (lock t k))) (λ h. rw (other_uncounted h) (none_few 1))

  own_freed : Locked k t → Freed k t (purge_own c k t)
  own_freed p =
      by_cases (of_client c t k)
      (λ h. rw (own_purged h) (lock_freed k t p))
      (λ h. rw (other_kept h) (record { core = p.core; lock_is = λ j n. refl; locks_are = refl; resources_are = refl }))

-- a lock's resource has a place among the marks
resource_few : (k : ℕ) (t : Tables) → Core t → (lock t k).resource < resource_places
resource_few k t co = omega (arith, housed t (lock t k) (lock t k).state (ok_numbered (co.lock_ok k)), co.resources_high)

-- purge_own
module _ (c k : ℕ) (a sa : List ℕ) (l : Lock) (el : l ≡ read_lock a k) where
  pub own_place : (m : List Bool) → SomeTables (Locked k) a sa → length m ≡ resource_places → l.resource < length m
  own_place m s w =
      let q : l.resource < resource_places = rw (lock_told k a sa l el s.state s.good s.is) (resource_few k s.state s.good.core) in
      omega arith

  pub own_none : (m : List Bool) → (l.client ≡ c → ⊥) → Frees (Locked k) (purge_own c k) (mark_own c k m) (count_own c k) a sa a sa m no_counts
  unfolding of_client
  own_none m n = record {
    then = λ t p is iss.
        let h : of_client c t k ≡ false = ne_eqb (lock t k).client c (rw (lock_told k a sa l el t p is) at n) in
        rw (other_kept c k t h, other_unmarked c k t h m, other_uncounted c k t h) (is, iss, refl, refl);
  }

  pub own_one : (m : List Bool) (o : Purged) → l.client ≡ c → (b sb : List ℕ) → Changes (Locked k) (purge_lock k) a sa b sb → o ≡ counts_of l →
      Frees (Locked k) (purge_own c k) (mark_own c k m) (count_own c k) a sa b sb (set m l.resource true) o
  unfolding of_client
  own_one m o y b sb made eo = record {
    then = λ t p is iss.
        let q = lock_told k a sa l el t p is in
        let h : of_client c t k ≡ true = eq-eqb (lock t k).client c (rw q at y) in
        let w = made.then t p is iss in
        rw (own_purged c k t h, own_marked c k t h m, own_counted c k t h) (w.0, w.1, ap (λ (o : Lock). set m o.resource true) q, eo ∙ ap counts_of q);
  }

pub ruleset own_laws = (rules, locked_sized, locked_low, locked_high, own_place, own_none, own_one)

-- THE LOOP: the client's locks from k on
unfoldable pub left : ℕ → ℕ → Tables → List ℕ
left c k t = ahead (of_client c t) (length t.locks) k

left_start : (c : ℕ) (t : Tables) → left c 1 t ≡ locks_of c t
unfolding left locks_of of_client
left_start c t = ahead_start (of_client c t) (length t.locks)

left_end : (c k : ℕ) (t : Tables) → length t.locks < k → left c k t ≡ []
unfolding left
left_end c k t h = ahead_end (of_client c t) (length t.locks) k h

left_kept : (c k : ℕ) (t u : Tables) → Freed k t u → left c (k + 1) u ≡ left c (k + 1) t
unfolding left of_client
left_kept c k t u f =
    rw f.locks_are
    (ahead_cong (of_client c u) (of_client c t) (length t.locks) k (λ j n. ap (λ (l : Lock). eqb l.client c) (f.lock_is j n)))

mark_cong : (ks : List ℕ) (t u : Tables) (m : List Bool) → ((j : ℕ) → 1 ≤ count j ks → lock u j ≡ lock t j) → mark_locks ks u m ≡ mark_locks ks t m
unfolding mark_locks
mark_cong [] t u m h = refl
mark_cong (k ∷ ks) t u m h =
    rw (h k (rw count_same (omega arith)))
    (mark_cong ks t u (set m (lock t k).resource true) (λ j i. h j (omega (arith, count_step j k ks))))

-- after the turn at k as much is left to do, to count and to mark as before
pub record Turned (c k : ℕ) (t u : Tables) : Type 0 where
  pub purges : purge_locks (left c (k + 1) u) u ≡ purge_locks (left c k t) t
  pub counts : added (count_own c k t) (count_locks (left c (k + 1) u) u) ≡ count_locks (left c k t) t
  pub marks : (m : List Bool) → mark_locks (left c (k + 1) u) u (mark_own c k m t) ≡ mark_locks (left c k t) t m

module _ (c k : ℕ) (t : Tables) (p : Locked k t) where
  abbrev after_turn : Tables
  after_turn = purge_own c k t

  same_left : left c (k + 1) after_turn ≡ left c (k + 1) t
  same_left = left_kept c k t after_turn (own_freed c k t p)

  in_range : k ≤ length t.locks
  in_range = (within_le (length t.locks) k p.in_range).1

  others : (j : ℕ) → 1 ≤ count j (left c (k + 1) t) → lock after_turn j ≡ lock t j
  unfolding left
  others j i = (own_freed c k t p).lock_is j (ahead_past (of_client c t) (length t.locks) k j i)

  turned_own : of_client c t k ≡ true → Turned c k t after_turn
  unfolding purge_locks mark_locks
  turned_own h =
      let e : left c k t ≡ k ∷ left c (k + 1) t = unfold left in ahead_in (of_client c t) (length t.locks) k in_range h in
      record {
        purges = rw (same_left, e, own_purged c k t h);
        counts = rw (same_left, e, own_counted c k t h) (count_left k (left c (k + 1) t) t after_turn others);
        marks = λ m. rw (same_left, e, own_marked c k t h m) (mark_cong (left c (k + 1) t) t after_turn (set m (lock t k).resource true) others);
      }

  turned_other : of_client c t k ≡ false → Turned c k t after_turn
  turned_other h =
      let e : left c k t ≡ left c (k + 1) t = unfold left in ahead_out (of_client c t) (length t.locks) k in_range h in
      record {
        purges = rw (same_left, e, other_kept c k t h);
        counts = rw (same_left, e, other_uncounted c k t h, other_kept c k t h) (none_added (count_locks (left c (k + 1) t) t));
        marks = λ m. rw (same_left, e, other_unmarked c k t h m, other_kept c k t h);
      }

  turned : Turned c k t after_turn
  turned = by_cases (of_client c t k) turned_own turned_other

-- purge_locks: from the words a and slots sa, and the marks m₀, to those of a state from which as much is left to do
pub record Goes (c k : ℕ) (a : List ℕ) (t : Tables) (m₀ : List Bool) (b sb : List ℕ) (m : List Bool) (n : Purged) : Type 0 where
  pub here : Tables
  pub core : Core here
  pub is : b ≡ words here
  pub slots_are : sb ≡ slots here
  pub locks_are : length here.locks ≡ locks_in a
  pub purges : purge_locks (left c k here) here ≡ purge_all c t
  pub counts : added n (count_locks (left c k here) here) ≡ count_all c t
  pub marks : mark_locks (left c k here) here m ≡ mark_all c m₀ t

pub record Going (c k : ℕ) (a sa : List ℕ) (m₀ : List Bool) (b sb : List ℕ) (m : List Bool) (n : Purged) : Type 0 where
  pub low : 1 ≤ k
  pub lent : SomeTables Core b sb
  pub wide : length m ≡ resource_places
  pub few : Few k n
  pub last_few : locks_in a ≤ most_locks
  pub locks_are : locks_in b ≡ locks_in a
  pub then : (t : Tables) → Core t → a ≡ words t → sa ≡ slots t → Goes c k a t m₀ b sb m n

pub lent_sized : (a sa : List ℕ) → SomeTables Core a sa → Sized a
lent_sized a sa s = core_sized s.state a s.is s.good

module _ (c : ℕ) (a sa : List ℕ) (m₀ : List Bool) where
  pub purge_starts : (n : Purged) → SomeTables Core a sa → length m₀ ≡ resource_places → n ≡ no_counts → Going c 1 a sa m₀ a sa m₀ n
  unfolding purge_all mark_all count_all
  purge_starts n s w en =
      record {
        low = omega arith;
        lent = s;
        wide = w;
        few = rw en (none_few 1);
        last_few = omega (arith, (lent_sized a sa s).few_locks);
        locks_are = refl;
        then = λ t co is iss. record {
          here = t;
          core = co;
          is = is;
          slots_are = iss;
          locks_are = sym (locks_is t a is);
          purges = rw (left_start c t);
          counts = rw (left_start c t, en) (none_added (count_locks (locks_of c t) t));
          marks = rw (left_start c t);
        };
      }

  module _ (k : ℕ) (b sb : List ℕ) (m : List Bool) (n : Purged) (g : Going c k a sa m₀ b sb m n) where
    pub purge_ends : locks_in a < k → Frees Core (purge_all c) (mark_all c m₀) (count_all c) a sa b sb m n
    unfolding purge_locks mark_locks
    purge_ends h = record {
      then = λ t co is iss.
          let q = g.then t co is iss in
          let past : length q.here.locks < k = omega (arith, q.locks_are) in
          let none = left_end c k q.here past in
          let purges : q.here ≡ purge_all c t = rw none at q.purges in
          let marks : m ≡ mark_all c m₀ t = rw none at q.marks in
          let counts : n ≡ count_all c t = rw (none, count_none q.here, added_none n) at q.counts in
          (q.is ∙ ap words purges, q.slots_are ∙ ap slots purges, marks, counts);
    }

    module _ (h : k ≤ locks_in a) where
      there : (t : Tables) → Core t → b ≡ words t → Locked k t
      there t co is =
          record { core = co; in_range = le_within (length t.locks) k g.low (omega (arith, locks_is t b is, g.locks_are)) }

      pub purge_locked : SomeTables (Locked k) b sb
      purge_locked =
          record { state = g.lent.state; good = there g.lent.state g.lent.good g.lent.is; is = g.lent.is; slots_are = g.lent.slots_are }

      pub so_far_few : Few most_locks n
      so_far_few = few_more k most_locks n (omega (arith, g.last_few)) g.few

      module _ (d sd : List ℕ) (m' : List Bool) (x : Purged) (f : Frees (Locked k) (purge_own c k) (mark_own c k m) (count_own c k) b sb d sd m' x) where
        x_few : Few 1 x
        x_few =
            let s = purge_locked in
            rw (f.then s.state s.good s.is s.slots_are).3 (count_few c k s.state)

        pub purged_few : Few most_locks x
        purged_few = few_more 1 most_locks x (omega arith) x_few

        after : (t : Tables) → Core t → b ≡ words t → sb ≡ slots t → SomeTables Core d sd
        after t co is iss =
            let p = there t co is in
            let q = f.then t p is iss in
            record { state = purge_own c k t; good = (own_freed c k t p).core; is = q.0; slots_are = q.1 }

        pub purge_again : (z : Purged) → length m' ≡ length m → z ≡ added n x → Going c (k + 1) a sa m₀ d sd m' z
        purge_again z y e =
            let s = g.lent in
            let p = there s.state s.good s.is in
            record {
              low = omega arith;
              lent = after s.state s.good s.is s.slots_are;
              wide = y ∙ g.wide;
              few = rw e (added_few k 1 n x g.few x_few);
              last_few = g.last_few;
              locks_are =
                  locks_is (purge_own c k s.state) d (f.then s.state p s.is s.slots_are).0
                  ∙ (own_freed c k s.state p).locks_are
                  ∙ sym (locks_is s.state b s.is)
                  ∙ g.locks_are;
              then = λ t co is iss. onward (g.then t co is iss);
            }
          where
            onward : {t : Tables} → Goes c k a t m₀ b sb m n → Goes c (k + 1) a t m₀ d sd m' z
            onward q =
                let p = there q.here q.core q.is in
                let w = f.then q.here p q.is q.slots_are in
                let v = turned c k q.here p in
                record {
                  here = purge_own c k q.here;
                  core = (own_freed c k q.here p).core;
                  is = w.0;
                  slots_are = w.1;
                  locks_are = (own_freed c k q.here p).locks_are ∙ q.locks_are;
                  purges = v.purges ∙ q.purges;
                  counts = rw (e, w.3, added_both n (count_own c k q.here), v.counts) q.counts;
                  marks = rw w.2 (v.marks m ∙ q.marks);
                }

pub ruleset purges_laws = (rules, lent_sized, purge_starts, purge_locked, so_far_few, purged_few, purge_again, purge_ends)
