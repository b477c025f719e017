-- Passes from the back: a law for each return, turn and call.
use mathlib.Core.Path.{◌≡◌, refl, sym, ◌∙◌}
use mathlib.Core.Logic.{◌≢◌}
use mathlib.Core.Bool.{Bool, true, false, ◌||◌, not}
use mathlib.Core.List.{List}
use Prim.Native.Nat.{ℕ, ◌+◌, ◌*◌, ◌≤◌, ◌<◌, ◌^◌}
use native.Mathlib.Omega.{arith}
use lib.ListN.{get_or, set, length, length-set}
use lib.Seq.{get_or-set_same, get_or-set_other}
use lib.Dec.{eqb}
use borrow.Author.Tests.{eq-eqb}
use borrow.Author.Rules.{rules}
use Rattle.tables.specs.Lists.{bit, from}
use Rattle.tables.specs.State.{most_resources}
use Rattle.tables.specs.Layout.{resources_in}
use Rattle.tables.specs.Validity.{Core}
use Rattle.tables.proofs.Cases.{by_equal}
use Rattle.tables.proofs.Counts.{bit_le, from_has}
use Rattle.table_fields.specs.Sizes.{Sized, lock_places}
use Rattle.table_chains.specs.Promises.{Some}
use Rattle.table_chains.specs.Marks.{marked}
use Rattle.table_chains.proofs.ChainWalks.{some_sized}
use Rattle.deadlock_graph.specs.Promises.{seen, Blocked}
use Rattle.deadlock_graph.specs.Hops.{nearest}
use Rattle.deadlock_graph.specs.Links.{link_width, link_of, Linked}
use Rattle.deadlock_graph.specs.Marks.{unmarked}
use Rattle.deadlock_graph.proofs.LockWords.{blocked_at, blocked_low}
use Rattle.deadlock_graph.proofs.Marks.{mark_same, mark_kept, unmarked_less}
use Rattle.deadlock_graph.proofs.NearestLocks.{nearest_one_seen, nearest_blocked_seen}
use Rattle.deadlock_prune.specs.Clearing.{Prunable}
use Rattle.deadlock_prune.specs.BothEnds.{Placed, Ready, Wanted, BackPass, Behind, Backed, BackLine, LineBacked, Stopped, BackReady, BackPassed}
use Rattle.deadlock_prune.proofs.BlockedWalks.{linked_row, linked_placed}
use Rattle.deadlock_prune.proofs.ClearedLocks.{mark_place, marks_kept, marks_less, back_more}
use Rattle.deadlock_prune.proofs.LocksLeft.{bit_or, ready_wide, ready_left, ready_none}

-- ---- one line

module _ {ws ls : List ℕ} {w m : List Bool} {k : ℕ} (d : Behind ws ls w m k) (n : k ≢ 0) where
  here : Blocked ws k
  here = record { some = d.pass.ready.linked.some; stands = d.stands n }

  inside : k < length m
  inside = omega (arith, mark_place (blocked_at ws k here), d.pass.ready.cleared.wide)

  placed : Placed ls k
  placed = linked_placed d.pass.ready.linked (blocked_at ws k here)

  -- k is cleared; the only lock right behind the one right ahead of k is k
  behind_next : {y : ℕ} → marked m k ≡ false → marked w (link_of ls k 2) ≡ false → y ≡ link_of ls k 0 → Behind ws ls w (set m k true) y
  behind_next {y} g h q =
      let e : y ≡ nearest (seen ws) k = q ∙ (d.pass.ready.linked.each k here.stands g).ahead in
      record {
        pass = back_more ws ls w m k d.pass here (λ x s c. d.each x s c n) h;
        stands = λ o. rw e (nearest_blocked_seen ws k here (λ z. o (e ∙ z))).stands;
        each = λ x s c o.
            let same : x ≡ k = nearest_one_seen ws here.some x k s here.stands (c ∙ e) (λ z. o (sym c ∙ z)) in
            rw same (mark_same m k inside);
      }

-- at the lock k, from `last` on; m₀ are the marks before
pub record Backing (ls : List ℕ) (w : List Bool) (last : ℕ) (m₀ m : List Bool) (k : ℕ) : Type 0 where
  pub now : BackLine ls w m k
  pub each : (ws : List ℕ) → Behind ws ls w m₀ last → Backed ws ls w m₀ m last k

pub backing_starts : {ls : List ℕ} {k : ℕ} {w m : List Bool} → BackLine ls w m k → Backing ls w k m m k
backing_starts {ls} {k} d =
    record { now = d; each = λ ws b. record { behind = b; kept = λ x h. h; fewer = rw (eq-eqb k k refl) (omega arith) } }

module _ {ls : List ℕ} {w m₀ m : List Bool} {last k : ℕ} (i : Backing ls w last m₀ m k) where
  module _ (n : k ≢ 0) where
    pub backing_place : k < lock_places
    backing_place = mark_place (blocked_at i.now.words k (here i.now.behind n))

    pub backing_fits : k < 2 ^ 64
    backing_fits = omega (arith, (placed i.now.behind n).few)

    pub backing_row : (f : ℕ) → f < link_width → link_width * k + f < length ls
    backing_row f h = linked_row i.now.behind.pass.ready.linked f (blocked_at i.now.words k (here i.now.behind n)) h

    module _ {x : ℕ} (e : x ≡ link_of ls k 2) where
      pub backing_number : x < lock_places
      backing_number = omega (arith, (placed i.now.behind n).number)

      pub backing_number_fits : x < 2 ^ 64
      backing_number_fits = omega (arith, (placed i.now.behind n).number)

    module _ (g : get_or m k false ≡ false) where
      pub backing_less : unmarked (from 1 (length (set m k true))) (set m k true) < unmarked (from 1 (length m)) m
      unfolding marked
      backing_less =
          rw (length-set m k true)
          (unmarked_less (from 1 (length m)) m (set m k true) (mark_kept m k (inside i.now.behind n)) k
          (omega (arith, from_has 1 (length m) k (blocked_low (here i.now.behind n)) (omega (arith, inside i.now.behind n)))) g (mark_same m k (inside i.now.behind n)))

      pub backing_again : {x y : ℕ} → x ≡ link_of ls k 2 → get_or w x false ≡ false → y ≡ link_of ls k 0 → Backing ls w last m₀ (set m k true) y
      unfolding marked
      backing_again {x} {y} e h q =
          let h' : marked w (link_of ls k 2) ≡ false = rw e at h in
          record {
            now = record { words = i.now.words; behind = behind_next i.now.behind n g h' q };
            each = λ ws b.
                let c = i.each ws b in
                let p = here c.behind n in
                let wide = c.behind.pass.ready.cleared.wide in
                record {
                  behind = behind_next c.behind n g h' q;
                  kept = λ z f. marks_kept m k p wide z (c.kept z f);
                  fewer = omega (arith, bit_le (not (eqb y last)), marks_less m k p wide g, c.fewer);
                };
          }

  pub backing_ends : LineBacked ls w m₀ m last k
  backing_ends = record { each = i.each }

pub ruleset backing_laws = (rules, backing_starts, backing_place, backing_fits, backing_row, backing_number, backing_number_fits, backing_less, backing_again, backing_ends)

-- ---- all lines

-- the lines of the resources below r are passed
pub record BackAt (ws ls lasts₀ lasts : List ℕ) (w m₀ m : List Bool) (more : Bool) (r : ℕ) : Type 0 where
  pub low : 1 ≤ r
  pub few : resources_in ws ≤ most_resources
  pub stopped : Stopped ws lasts m
  pub pass : BackPass ws ls w m
  pub width : length lasts ≡ length lasts₀
  pub fewer : unmarked (seen ws).blocked m + bit more ≤ unmarked (seen ws).blocked m₀

module _ {ws ls lasts : List ℕ} {m : List Bool} (p : BackReady ws ls lasts m) where
  pub back_sized : Sized ws
  back_sized = some_sized p.ready.linked.some

  pub back_linked : Linked ws ls m
  back_linked = p.ready.linked

  pub back_wide : length m ≡ lock_places
  back_wide = p.ready.cleared.wide

  pub back_starts : {w : List Bool} → Wanted ws ls m w → BackAt ws ls lasts lasts w m m false 1
  back_starts d =
      record { low = omega arith; few = back_sized.few_resources; stopped = p.stopped; pass = record { ready = p.ready; wanted = d }; width = refl; fewer = omega arith }

module _ {ws ls lasts₀ lasts : List ℕ} {w m₀ m : List Bool} {more : Bool} {r : ℕ} (i : BackAt ws ls lasts₀ lasts w m₀ m more r) where
  module _ {n : ℕ} (e : n ≡ resources_in ws) (h : r < n + 1) where
    pub back_place : r < length lasts
    back_place = omega (arith, i.stopped.wide)

    there : Behind ws ls w m (get_or lasts r 0)
    there = record { pass = i.pass; stands = i.stopped.stands r i.low (omega arith); each = i.stopped.each r i.low (omega arith) }

    pub back_line : BackLine ls w m (get_or lasts r 0)
    back_line = record { words = ws; behind = there }

    pub back_again : {m' : List Bool} {x : ℕ} → LineBacked ls w m m' (get_or lasts r 0) x
        → BackAt ws ls lasts₀ (set lasts r x) w m₀ m' (more || not (eqb x (get_or lasts r 0))) (r + 1)
    back_again {m'} {x} d =
        let b = d.each ws there in
        let at : get_or (set lasts r x) r 0 ≡ x = get_or-set_same lasts r x 0 back_place in
        record {
          low = omega arith;
          few = i.few;
          stopped = record {
            wide = rw (length-set lasts r x) i.stopped.wide;
            stands = λ s l g.
                by_equal s r
                (λ q. rw (q, at) b.behind.stands)
                (λ q. rw (get_or-set_other lasts r s x 0 q) (i.stopped.stands s l g));
            each = λ s l g y t.
                by_equal s r
                (λ q. rw (q, at) (b.behind.each y t))
                (λ q. rw (get_or-set_other lasts r s x 0 q) (λ c o. b.kept y (i.stopped.each s l g y t c o)));
          };
          pass = b.behind.pass;
          width = length-set lasts r x ∙ i.width;
          fewer = omega (arith, i.fewer, b.fewer, bit_or more (not (eqb x (get_or lasts r 0))));
        }

  pub back_ends : BackPassed ws ls lasts m₀ m more
  back_ends = record { ready = record { ready = i.pass.ready; stopped = i.stopped }; fewer = i.fewer }

pub ruleset back_laws = (rules, back_sized, back_linked, back_wide, back_starts, back_place, back_line, back_again, back_ends)

-- ---- pass after pass

pub record Backs (ws ls lasts₀ lasts : List ℕ) (m : List Bool) : Type 0 where
  pub ready : BackReady ws ls lasts m
  pub width : length lasts ≡ length lasts₀

pub backs_start : {ws ls lasts : List ℕ} {m : List Bool} → BackReady ws ls lasts m → Backs ws ls lasts lasts m
backs_start d = record { ready = d; width = refl }

pub backs_less : {ws ls lasts : List ℕ} {m m' : List Bool} {r b : Bool} → BackPassed ws ls lasts m m' r → b ≡ true → unmarked (seen ws).blocked m' + bit r < unmarked (seen ws).blocked m + bit b
backs_less p e = rw e (omega (arith, p.fewer))

module _ {ws ls lasts₀ lasts : List ℕ} {m : List Bool} (i : Backs ws ls lasts₀ lasts m) where
  pub backs_ready : BackReady ws ls lasts m
  backs_ready = i.ready

  pub backs_again : {lasts' : List ℕ} {m' : List Bool} {r : Bool} → BackPassed ws ls lasts' m m' r → length lasts' ≡ length lasts → Backs ws ls lasts₀ lasts' m'
  backs_again p t = record { ready = p.ready; width = t ∙ i.width }

  pub backs_end : Ready ws ls m
  backs_end = i.ready.ready

pub ruleset backs_laws = (rules, backs_start, backs_ready, backs_less, backs_again, backs_end)

-- ---- both ends

module _ {ws ls lasts : List ℕ} {m : List Bool} (p : Prunable ws ls lasts m) where
  pub prunable_some : Some Core ws
  prunable_some = p.linked.some

  pub prunable_ready : Ready ws ls m
  prunable_ready = record { linked = p.linked; cleared = p.cleared }

  -- no lock has a line's last lock right ahead
  pub prunable_back : {m' : List Bool} → Ready ws ls m' → BackReady ws ls lasts m'
  prunable_back d =
      record {
        ready = d;
        stopped = record { wide = p.ended.wide; stands = p.ended.stands; each = λ r l h x s e n. absurd (n (p.ended.last r l h x s e)) };
      }

pub ruleset ends_laws = (rules, ready_wide, ready_left, ready_none, prunable_some, prunable_ready, prunable_back)
