-- One lock more that is cleared: from the front, all that it hops to are cleared; from the back, all that hop to it are.
use mathlib.Core.Path.{◌≡◌, sym}
use mathlib.Core.Logic.{◌≢◌}
use mathlib.Core.Bool.{Bool, true, false}
use mathlib.Core.List.{List}
use Prim.Native.Nat.{ℕ, ◌≤◌, ◌<◌}
use native.Mathlib.Omega.{arith}
use lib.ListN.{length, set}
use lib.Dec.{eqb}
use borrow.Author.Tests.{eqb-true}
use Rattle.tables.specs.Lists.{count}
use Rattle.tables.specs.State.{lock, blocked_lock}
use Rattle.tables.specs.Validity.{Core}
use Rattle.tables.proofs.Cases.{by_cases, clash, and_left, and_right}
use Rattle.tables.proofs.Counts.{any_has}
use Rattle.rules.specs.Deadlock.{obstacles, owner}
use Rattle.rules.proofs.NoticesKeepSound.{obstacle_in}
use Rattle.table_fields.specs.Sizes.{lock_places}
use Rattle.table_chains.specs.Promises.{Some}
use Rattle.table_chains.specs.Marks.{marked}
use Rattle.table_chains.specs.Walking.{At}
use Rattle.table_chains.proofs.ChainWalks.{some_sized}
use Rattle.deadlock_graph.specs.Promises.{seen, Blocked}
use Rattle.deadlock_graph.specs.Hops.{nearest, looks, hops}
use Rattle.deadlock_graph.specs.Links.{link_of, Looker}
use Rattle.deadlock_graph.specs.Marks.{unmarked}
use Rattle.deadlock_graph.proofs.LockWords.{is_blocked, blocked_at, blocked_low}
use Rattle.deadlock_graph.proofs.Marks.{Keeping, mark_same, mark_kept, unmarked_less, clear_behind}
use Rattle.deadlock_prune.specs.BothEnds.{looked, FrontPass, BackPass}
use Rattle.deadlock_prune.proofs.BlockedWalks.{linked_more}
use Rattle.deadlock_prune.proofs.ClearedBehind.{clear_before}

-- a mark for each lock
pub mark_place : {ws : List ℕ} {k : ℕ} → At ws k → k < lock_places
mark_place a = omega (arith, a.high, (some_sized a.some).few_locks)

-- ---- a hop

-- a hops to b: b is right ahead of a, or a looks at a holder in its way that has b's owner
pub record Hop (ws : List ℕ) (a b : ℕ) (A : Type 0) : Type 0 where
  pub next : b ≡ nearest (seen ws) a → A
  pub way : (j : ℕ) → looks (seen ws) a ≡ true → 1 ≤ count j (obstacles (seen ws) a) → owner (lock (seen ws) j) ≡ owner (lock (seen ws) b) → A

pub hop_blocked : (ws : List ℕ) (a b : ℕ) → Some Core ws → hops (seen ws) a b ≡ true → Blocked ws b
unfolding hops
hop_blocked ws a b s h = is_blocked ws b s (and_left (blocked_lock (lock (seen ws) b)) _ h)

pub by_hop : {A : Type 0} (ws : List ℕ) (a b : ℕ) → hops (seen ws) a b ≡ true → Hop ws a b A → A
unfolding hops
by_hop ws a b h d =
    let either = and_right (blocked_lock (lock (seen ws) b)) _ h in
    by_cases (eqb b (nearest (seen ws) a))
    (λ g. d.next (eqb-true b _ g))
    (λ g.
    let both = rw g at either in
    let l = and_left (looks (seen ws) a) _ both in
    let o = any_has (λ j. eqb (owner (lock (seen ws) j)) (owner (lock (seen ws) b))) (obstacles (seen ws) a) (and_right (looks (seen ws) a) _ both) in
    d.way o.0 l o.1 (eqb-true _ _ o.2))

looks_at : (ws : List ℕ) (a j : ℕ) → looks (seen ws) a ≡ true → 1 ≤ count j (obstacles (seen ws) a) → 1 ≤ count j (looked (seen ws) a)
unfolding looked
looks_at ws a j l m = rw l m

-- the owner of a holder that a looks at, and b's: the same number
same_number : (ws ls : List ℕ) (a j b : ℕ) → Looker ws ls a → Blocked ws b → 1 ≤ count j (obstacles (seen ws) a) → owner (lock (seen ws) j) ≡ owner (lock (seen ws) b)
    → link_of ls j 2 ≡ link_of ls b 2
same_number ws ls a j b n q m e = (n.same j b (obstacle_in (seen ws) a j m).0 q.stands).1 e

-- ---- one more mark

module _ {ws : List ℕ} (m : List Bool) (k : ℕ) (p : Blocked ws k) (wide : length m ≡ lock_places) where
  inside : k < length m
  inside = omega (arith, mark_place (blocked_at ws k p), wide)

  pub marks_kept : Keeping m (set m k true)
  marks_kept = mark_kept m k inside

  pub marks_less : marked m k ≡ false → unmarked (seen ws).blocked (set m k true) < unmarked (seen ws).blocked m
  marks_less f = unmarked_less (seen ws).blocked m (set m k true) marks_kept k p.stands f (mark_same m k inside)

  not_marked : (x : ℕ) → marked (set m k true) x ≡ false → marked m x ≡ false
  not_marked x f = by_cases (marked m x) (λ g. clash _ (marks_kept x g) f) (λ g. g)

-- ---- from the front

module _ (ws ls : List ℕ) (b m : List Bool) (k : ℕ) (i : FrontPass ws ls b m) (p : Blocked ws k) (left : marked m k ≡ false) where
  abbrev wide : length m ≡ lock_places
  wide = i.ready.cleared.wide

  module _ (front : nearest (seen ws) k ≢ 0 → marked m (nearest (seen ws) k) ≡ true) (free : (j : ℕ) → 1 ≤ count j (looked (seen ws) k) → marked b (link_of ls j 2) ≡ false) where
    only_cleared : (y : ℕ) → hops (seen ws) k y ≡ true → marked m y ≡ true
    only_cleared y h =
        let q = hop_blocked ws k y p.some h in
        by_hop ws k y h
        (record {
          next = λ e. rw e (front (λ z. omega (arith, e, blocked_low q)));
          way = λ j l c e.
              by_cases (marked m y)
              (λ g. g)
              (λ g. clash _ (i.busy.each y q.stands g) (rw (same_number ws ls k j y (i.ready.linked.each k p.stands left) q c e) at (free j (looks_at ws k j l c))));
        })

    pub front_more : FrontPass ws ls b (set m k true)
    front_more =
        record {
          ready = record {
            linked = linked_more (marks_kept m k p wide) i.ready.linked;
            cleared = clear_behind m k i.ready.cleared p.stands only_cleared;
          };
          busy = record { each = λ j s f. i.busy.each j s (not_marked m k p wide j f) };
        }

-- ---- from the back

module _ (ws ls : List ℕ) (w m : List Bool) (k : ℕ) (i : BackPass ws ls w m) (p : Blocked ws k)
    (behind : (x : ℕ) → 1 ≤ count x (seen ws).blocked → nearest (seen ws) x ≡ k → marked m x ≡ true) (f : marked w (link_of ls k 2) ≡ false) where
  cleared_before : (z : ℕ) → 1 ≤ count z (seen ws).blocked → hops (seen ws) z k ≡ true → marked m z ≡ true
  cleared_before z s h =
      by_hop ws z k h
      (record {
        next = λ e. behind z s (sym e);
        way = λ j l c e.
            by_cases (marked m z)
            (λ g. g)
            (λ g. clash _ (rw (same_number ws ls z j k (i.ready.linked.each z s g) p c e) at (i.wanted.each z j s g (looks_at ws z j l c))) f);
      })

  -- its owner is not wanted
  pub back_more : BackPass ws ls w (set m k true)
  back_more =
      let wide = i.ready.cleared.wide in
      record {
        ready = record {
          linked = linked_more (marks_kept m k p wide) i.ready.linked;
          cleared = clear_before m k i.ready.cleared p.stands cleared_before;
        };
        wanted = record { each = λ z j s g. i.wanted.each z j s (not_marked m k p wide z g) };
      }
