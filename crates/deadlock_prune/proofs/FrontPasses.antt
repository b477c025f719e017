-- Passes from the front: a law for each return, turn and call.
use mathlib.Core.Path.{◌≡◌, refl, sym, ◌∙◌}
use mathlib.Core.Logic.{◌≢◌}
use mathlib.Core.Bool.{Bool, true, false, ◌&&◌, ◌||◌, not}
use mathlib.Core.List.{List}
use Prim.Native.Nat.{ℕ, ◌+◌, ◌*◌, ◌≤◌, ◌<◌, ◌^◌}
use native.Mathlib.Omega.{arith}
use lib.ListN.{get_or, set, length}
use lib.Dec.{eqb}
use borrow.Author.Tests.{not-true, not-false, ne_eqb}
use borrow.Author.Rules.{rules}
use Rattle.tables.specs.Lists.{count, bit}
use Rattle.tables.specs.State.{lock}
use Rattle.tables.specs.Layout.{of_header, of_lock, word_in, onward}
use Rattle.tables.proofs.Cases.{by_cases, by_equal, clash}
use Rattle.tables.proofs.Counts.{count_nil, count_other}
use Rattle.rules.specs.Deadlock.{in_the_way}
use Rattle.rules.proofs.NoticesKeepSound.{obstacle_in}
use Rattle.table_fields.specs.Sizes.{lock_places}
use Rattle.table_chains.specs.Marks.{marked}
use Rattle.table_chains.specs.Walking.{At}
use Rattle.table_chains.proofs.ChainWalks.{walk_splits, walk_ends}
use Rattle.deadlock_graph.specs.Promises.{seen, Blocked}
use Rattle.deadlock_graph.specs.Holders.{holders_since}
use Rattle.deadlock_graph.specs.Hops.{nearest}
use Rattle.deadlock_graph.specs.Links.{link_width, link_of, Linked, Leaping}
use Rattle.deadlock_graph.specs.Marks.{unmarked}
use Rattle.deadlock_graph.proofs.HolderWalks.{look_ends, leap_at, leap_on, leap_less, leap_passed}
use Rattle.deadlock_graph.proofs.LinkLaws.{row_inside}
use Rattle.deadlock_graph.proofs.LockWords.{blocked_at}
use Rattle.deadlock_graph.proofs.Marks.{mark_same, mark_kept}
use Rattle.deadlock_graph.proofs.NearestLocks.{nearest_blocked_seen}
use Rattle.deadlock_graph.proofs.SeenChains.{blocked_seen}
use Rattle.deadlock_prune.specs.BothEnds.{Placed, LinkedLock, looked, Ready, Passed, BusyNoted, Busy, hinders, Hindered, FrontPass, FrontStep}
use Rattle.deadlock_prune.proofs.BlockedWalks.{Along, along_starts, along_blocked, along_at, along_on, along_less, rows_placed, linked_row, linked_placed, linked_lock, number_few, number_fits, looked_in, looked_strong, looks_along, looks_meets}
use Rattle.deadlock_prune.proofs.ClearedLocks.{mark_place, marks_less, front_more}
use Rattle.deadlock_prune.proofs.LocksLeft.{bit_or, ready_some, ready_linked, ready_wide}

-- ---- busy owners: one lock

module _ (ls : List ℕ) (m : List Bool) (k : ℕ) (b : List Bool) where
  pub busy_skips : get_or m k false ≡ true → BusyNoted ls m k b b
  unfolding marked
  busy_skips h = record { here = λ f. clash (get_or m k false) h f; kept = λ j e. e }

  pub busy_stores : (x : ℕ) → Placed ls k → x ≡ link_of ls k 2 → length b ≡ lock_places → BusyNoted ls m k b (set b x true)
  busy_stores x p e l =
      let inside : x < length b = omega (arith, number_few p e) in
      record { here = λ f. rw (sym e) (mark_same b x inside); kept = mark_kept b x inside }

pub ruleset note_busy_laws = (rules, number_few, number_fits, busy_skips, busy_stores)

-- ---- all blocked locks

-- at the lock k of the blocked chain: the owners of those before it are written down
pub record BusyBefore (ws ls : List ℕ) (m b : List Bool) (k : ℕ) : Type 0 where
  pub along : Along ws k
  pub wide : length b ≡ lock_places
  pub each : (j : ℕ) → 1 ≤ count j (seen ws).blocked → count j (onward ws 1 k) ≡ 0 → marked m j ≡ false → marked b (link_of ls j 2) ≡ true

pub busy_starts : {ws ls : List ℕ} {b : List Bool} {k : ℕ} (m : List Bool) → Linked ws ls m → length b ≡ lock_places → k ≡ word_in ws (of_header 5) → BusyBefore ws ls m b k
busy_starts {ws} {ls} {b} {k} m d l e =
    record {
      along = along_starts d.some e;
      wide = l;
      each = λ j h z. absurd (omega (arith, h, rw (blocked_seen ws k d.some e) at z));
    }

module _ {ws ls : List ℕ} {m b : List Bool} {k : ℕ} (i : BusyBefore ws ls m b k) where
  pub busy_placed : Linked ws ls m → k ≢ 0 → Placed ls k
  busy_placed l n = linked_placed l (along_at i.along n)

  pub busy_again : {x : ℕ} {b' : List Bool} → k ≢ 0 → BusyNoted ls m k b b' → length b' ≡ lock_places → x ≡ word_in ws (of_lock k 1) → BusyBefore ws ls m b' x
  busy_again {x} {b'} n d s e =
      record {
        along = along_on i.along n e;
        wide = s;
        each = λ j h z f.
            by_equal j k
            (λ q. rw q (d.here (rw q at f)))
            (λ o. d.kept _ (i.each j h (rw (walk_splits ws 1 k i.along.walks n, count_other j k (onward ws 1 (word_in ws (of_lock k 1))) o) (rw e at z)) f));
      }

  pub busy_ends : k ≡ 0 → Busy ws ls m b
  busy_ends e = record { each = λ j h. i.each j h (rw (e, walk_ends ws 1) (count_nil j)) }

pub ruleset busy_laws = (rules, along_less, busy_starts, busy_placed, busy_again, busy_ends)

-- ---- a holder in the way

module _ (ws ls : List ℕ) (b : List Bool) (k j x : ℕ) (e : x ≡ link_of ls j 2) where
  pub hinders_not : not (get_or b x false) ≡ true → false ≡ hinders (seen ws) ls b k j
  unfolding hinders marked
  hinders_not h = rw (sym e, not-true (get_or b x false) h)

  pub hinders_bars : {r : Bool} → not (get_or b x false) ≡ false → r ≡ in_the_way (seen ws) k j → r ≡ hinders (seen ws) ls b k j
  unfolding hinders marked
  hinders_bars h q = q ∙ rw (sym e, not-false (get_or b x false) h)

pub ruleset hinders_laws = (rules, number_few, number_fits, hinders_not, hinders_bars)

-- ---- the holders that a blocked lock looks at

-- at the holder j: those before it that k looks at have owners that are not busy
pub record Hindering (ws ls : List ℕ) (b : List Bool) (k j : ℕ) : Type 0 where
  pub look : Leaping ws ls (lock (seen ws) k).resource j
  pub each : (i : ℕ) → 1 ≤ count i (looked (seen ws) k) → count i (holders_since ws (lock (seen ws) k).resource j) ≡ 0 → marked b (link_of ls i 2) ≡ false

module _ {ws ls : List ℕ} {k : ℕ} (l : LinkedLock ws ls k) where
  pub lock_at : At ws k
  lock_at = blocked_at ws k l.blocked

  pub lock_row : (f : ℕ) → f < link_width → link_width * k + f < length ls
  lock_row f h = row_inside ws ls k f l.roomy lock_at.high h

  pub hindering_starts : {j : ℕ} (b : List Bool) → j ≡ link_of ls k 1 → Hindering ws ls b k j
  hindering_starts b e = record { look = looks_along l e; each = λ i c z. absurd (omega (arith, looks_meets l e i c)) }

module _ {ws ls : List ℕ} {b : List Bool} {k j : ℕ} (i : Hindering ws ls b k j) where
  module _ (n : j ≢ 0) where
    pub hindering_at : At ws j
    hindering_at = leap_at i.look n

    pub hindering_placed : LinkedLock ws ls k → Placed ls j
    hindering_placed l = rows_placed l.roomy l.small (leap_at i.look n)

    pub hindering_row : LinkedLock ws ls k → link_width * j + 4 < length ls
    hindering_row l = row_inside ws ls j 4 l.roomy (leap_at i.look n).high (omega arith)

    pub hindering_less : {x : ℕ} → x ≡ link_of ls j 4 →
        length (holders_since ws (lock (seen ws) k).resource x) < length (holders_since ws (lock (seen ws) k).resource j)
    hindering_less e = leap_less i.look n e

    module _ {r : Bool} (e : r ≡ hinders (seen ws) ls b k j) (h : r ≡ false) where
      not_busy : 1 ≤ count j (looked (seen ws) k) → marked b (link_of ls j 2) ≡ false
      unfolding hinders
      not_busy c =
          let w = (obstacle_in (seen ws) k j (looked_in ws k j c).1).1 in
          by_cases (marked b (link_of ls j 2))
          (λ y. clash (hinders (seen ws) ls b k j) (rw (y, w)) (sym e ∙ h))
          (λ y. y)

      pub hindering_again : {x : ℕ} → x ≡ link_of ls j 4 → Hindering ws ls b k x
      hindering_again {x} q =
          record {
            look = leap_on i.look n q;
            each = λ y c z.
                by_equal y j
                (λ o. rw o (not_busy (rw o at c)))
                (λ o. i.each y c (leap_passed i.look n q y o (looked_strong ws k y i.look.looking.some c) z));
          }

  pub hindering_ends : j ≡ 0 → Hindered ws ls b k false
  hindering_ends e = record { free = λ f y c. i.each y c (rw (look_ends ws (lock (seen ws) k).resource j i.look.looking.some e) (count_nil y)) }

pub hindering_found : (ws ls : List ℕ) (b : List Bool) (k : ℕ) → Hindered ws ls b k true
hindering_found ws ls b k = record { free = λ f. clash true refl f }

pub ruleset hindering_laws = (rules, lock_at, lock_row, hindering_starts, hindering_at, hindering_placed, hindering_row, hindering_less, hindering_found, hindering_again, hindering_ends)

-- ---- one lock

module _ {ws ls : List ℕ} {b m : List Bool} (i : FrontPass ws ls b m) where
  pub front_skips : FrontStep ws ls b m m false
  front_skips = record { pass = i; fewer = omega arith }

  module _ {k : ℕ} (p : Blocked ws k) where
    pub front_place : k < lock_places
    front_place = mark_place (blocked_at ws k p)

    pub front_row : (f : ℕ) → f < link_width → link_width * k + f < length ls
    front_row f h = linked_row i.ready.linked f (blocked_at ws k p) h

    module _ (g : get_or m k false ≡ false) where
      pub front_lock : LinkedLock ws ls k
      unfolding marked
      front_lock = linked_lock i.ready.linked p g

      module _ {x : ℕ} (e : x ≡ link_of ls k 0) where
        right_ahead : x ≡ nearest (seen ws) k
        right_ahead = e ∙ front_lock.looker.ahead

        pub ahead_place : x < lock_places
        ahead_place =
            rw right_ahead
            (by_equal (nearest (seen ws) k) 0
            (λ z. rw z (omega arith))
            (λ n. mark_place (blocked_at ws (nearest (seen ws) k) (nearest_blocked_seen ws k p n))))

        pub ahead_fits : x < 2 ^ 64
        ahead_fits = omega (arith, ahead_place)

        pub front_clears : {r : Bool} → (not (eqb x 0) && not (get_or m x false)) ≡ false → Hindered ws ls b k r → r ≡ false → FrontStep ws ls b m (set m k true) true
        unfolding marked
        front_clears h d f =
            record {
              pass = front_more ws ls b m k i p g ahead_cleared (d.free f);
              fewer = omega (arith, marks_less m k p i.ready.cleared.wide g);
            }
          where
            ahead_cleared : nearest (seen ws) k ≢ 0 → marked m (nearest (seen ws) k) ≡ true
            ahead_cleared n =
                let n' : x ≢ 0 = λ z. n (sym right_ahead ∙ z) in
                rw (sym right_ahead) (not-false (get_or m x false) (rw (ne_eqb x 0 n') at h))

pub ruleset free_laws = (rules, front_skips, front_place, front_row, front_lock, ahead_place, ahead_fits, front_clears)

-- ---- a pass

-- at the lock k of the blocked chain; m₀ are the marks before
pub record FrontAt (ws ls : List ℕ) (b m₀ m : List Bool) (more : Bool) (k : ℕ) : Type 0 where
  pub along : Along ws k
  pub pass : FrontPass ws ls b m
  pub fewer : unmarked (seen ws).blocked m + bit more ≤ unmarked (seen ws).blocked m₀

pub front_starts : {ws ls : List ℕ} {b m : List Bool} {k : ℕ} → Ready ws ls m → Busy ws ls m b → k ≡ word_in ws (of_header 5) → FrontAt ws ls b m m false k
front_starts d y e = record { along = along_starts d.linked.some e; pass = record { ready = d; busy = y }; fewer = omega arith }

module _ {ws ls : List ℕ} {b m₀ m : List Bool} {more : Bool} {k : ℕ} (i : FrontAt ws ls b m₀ m more k) where
  pub front_pass : FrontPass ws ls b m
  front_pass = i.pass

  pub front_again : {x : ℕ} {m' : List Bool} {one : Bool} → k ≢ 0 → FrontStep ws ls b m m' one → x ≡ word_in ws (of_lock k 1)
      → FrontAt ws ls b m₀ m' (more || one) x
  front_again {x} {m'} {one} n p e =
      record { along = along_on i.along n e; pass = p.pass; fewer = omega (arith, i.fewer, p.fewer, bit_or more one) }

  pub front_ends : Passed ws ls m₀ m more
  front_ends = record { ready = i.pass.ready; fewer = i.fewer }

pub ruleset front_laws = (rules, ready_some, ready_linked, ready_wide, along_blocked, along_less, front_starts, front_pass, front_again, front_ends)
