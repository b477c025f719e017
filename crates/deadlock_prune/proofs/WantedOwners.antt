-- The functions that write down the wanted owners: a law for each return, turn and call.
use mathlib.Core.Path.{◌≡◌, sym, ◌∙◌}
use mathlib.Core.Logic.{◌≢◌}
use mathlib.Core.Bool.{Bool, true, false, not}
use mathlib.Core.List.{List}
use Prim.Native.Nat.{ℕ, ◌+◌, ◌*◌, ◌≤◌, ◌<◌}
use native.Mathlib.Omega.{arith}
use lib.ListN.{get_or, set, length}
use borrow.Author.Tests.{not-true}
use borrow.Author.Rules.{rules}
use Rattle.tables.specs.Lists.{count}
use Rattle.tables.specs.State.{lock}
use Rattle.tables.specs.Layout.{of_header, of_lock, word_in, onward}
use Rattle.tables.proofs.Cases.{by_equal, clash}
use Rattle.tables.proofs.Counts.{count_nil, count_other}
use Rattle.rules.specs.Deadlock.{in_the_way}
use Rattle.rules.proofs.NoticesKeepSound.{obstacle_in}
use Rattle.table_fields.specs.Sizes.{lock_places}
use Rattle.table_chains.specs.Marks.{marked}
use Rattle.table_chains.specs.Walking.{At}
use Rattle.table_chains.proofs.ChainWalks.{walk_splits, walk_ends}
use Rattle.deadlock_graph.specs.Promises.{seen, Blocked}
use Rattle.deadlock_graph.specs.Holders.{holders_since}
use Rattle.deadlock_graph.specs.Links.{link_width, link_of, Linked, Leaping}
use Rattle.deadlock_graph.proofs.HolderWalks.{look_ends, leap_at, leap_on, leap_less, leap_passed}
use Rattle.deadlock_graph.proofs.LockWords.{blocked_at, blocked_stands}
use Rattle.deadlock_graph.proofs.Marks.{mark_same, mark_kept}
use Rattle.deadlock_graph.proofs.SeenChains.{blocked_seen}
use Rattle.deadlock_prune.specs.BothEnds.{Placed, looked, OwnerNoted, WantNoted, Wanted}
use Rattle.deadlock_prune.proofs.BlockedWalks.{Along, along_starts, along_blocked, along_on, along_less, linked_row, linked_placed, linked_lock, number_few, number_fits, looked_in, looked_strong, looks_along, looks_meets}
use Rattle.deadlock_prune.proofs.ClearedLocks.{mark_place}

-- ---- one holder

module _ (ws ls : List ℕ) (w : List Bool) (k j : ℕ) where
  pub owner_skips : {r : Bool} → r ≡ in_the_way (seen ws) k j → not r ≡ true → OwnerNoted ws ls k j w w
  owner_skips {r} e h = record { here = λ y. clash _ y (sym e ∙ not-true r h); kept = λ x m. m }

  pub owner_stores : (x : ℕ) → Placed ls j → x ≡ link_of ls j 2 → length w ≡ lock_places → OwnerNoted ws ls k j w (set w x true)
  owner_stores x p e l =
      let inside : x < length w = omega (arith, number_few p e) in
      record { here = λ y. rw (sym e) (mark_same w x inside); kept = mark_kept w x inside }

pub ruleset owner_laws = (rules, number_few, number_fits, owner_skips, owner_stores)

-- ---- the holders that a blocked lock looks at

-- at the holder j: the owners of those before it that k looks at are written down
pub record Wanting (ws ls : List ℕ) (w₀ w : List Bool) (k j : ℕ) : Type 0 where
  pub look : Leaping ws ls (lock (seen ws) k).resource j
  pub wide : length w ≡ lock_places
  pub kept : (x : ℕ) → marked w₀ x ≡ true → marked w x ≡ true
  pub each : (i : ℕ) → 1 ≤ count i (looked (seen ws) k) → count i (holders_since ws (lock (seen ws) k).resource j) ≡ 0 → marked w (link_of ls i 2) ≡ true

pub want_skips : (ws ls : List ℕ) (m w : List Bool) (k : ℕ) → get_or m k false ≡ true → WantNoted ws ls m k w w
unfolding marked
want_skips ws ls m w k h = record { here = λ f. clash (get_or m k false) h f; kept = λ x e. e }

module _ {ws ls : List ℕ} {m : List Bool} {k : ℕ} (l : Linked ws ls m) (p : Blocked ws k) where
  pub want_place : k < lock_places
  want_place = mark_place (blocked_at ws k p)

  pub want_row : (f : ℕ) → f < link_width → link_width * k + f < length ls
  want_row f h = linked_row l f (blocked_at ws k p) h

  pub wanting_starts : {w : List Bool} {j : ℕ} → get_or m k false ≡ false → length w ≡ lock_places → j ≡ link_of ls k 1 → Wanting ws ls w w k j
  unfolding marked
  wanting_starts g d e =
      let o = linked_lock l p g in
      record { look = looks_along o e; wide = d; kept = λ x h. h; each = λ i c z. absurd (omega (arith, looks_meets o e i c)) }

module _ {ws ls : List ℕ} {w₀ w : List Bool} {k j : ℕ} (i : Wanting ws ls w₀ w k j) where
  module _ (n : j ≢ 0) where
    pub wanting_at : At ws j
    wanting_at = leap_at i.look n

    pub wanting_placed : {m : List Bool} → Linked ws ls m → Placed ls j
    wanting_placed l = linked_placed l (leap_at i.look n)

    pub wanting_row : {m : List Bool} → Linked ws ls m → link_width * j + 4 < length ls
    wanting_row l = linked_row l 4 (leap_at i.look n) (omega arith)

    pub wanting_less : {x : ℕ} → x ≡ link_of ls j 4 →
        length (holders_since ws (lock (seen ws) k).resource x) < length (holders_since ws (lock (seen ws) k).resource j)
    wanting_less e = leap_less i.look n e

    pub wanting_again : {x : ℕ} {w' : List Bool} → OwnerNoted ws ls k j w w' → length w' ≡ lock_places → x ≡ link_of ls j 4 → Wanting ws ls w₀ w' k x
    wanting_again {x} {w'} d s e =
        record {
          look = leap_on i.look n e;
          wide = s;
          kept = λ y h. d.kept y (i.kept y h);
          each = λ y c z.
              by_equal y j
              (λ q. rw q (d.here (obstacle_in (seen ws) k j (looked_in ws k j (rw q at c)).1).1))
              (λ o. d.kept _ (i.each y c (leap_passed i.look n e y o (looked_strong ws k y i.look.looking.some c) z)));
        }

  pub wanting_ends : (m : List Bool) → j ≡ 0 → WantNoted ws ls m k w₀ w
  wanting_ends m e =
      record {
        here = λ f y c. i.each y c (rw (look_ends ws (lock (seen ws) k).resource j i.look.looking.some e) (count_nil y));
        kept = i.kept;
      }

pub ruleset wanting_laws = (rules, blocked_stands, want_row, want_place, want_skips, wanting_starts, wanting_at, wanting_placed, wanting_row, wanting_less, wanting_again, wanting_ends)

-- ---- all blocked locks

-- at the lock k of the blocked chain: those whom the locks before it want are written down
pub record WantedBefore (ws ls : List ℕ) (m w : List Bool) (k : ℕ) : Type 0 where
  pub along : Along ws k
  pub wide : length w ≡ lock_places
  pub each : (z j : ℕ) → 1 ≤ count z (seen ws).blocked → count z (onward ws 1 k) ≡ 0 → marked m z ≡ false → 1 ≤ count j (looked (seen ws) z)
      → marked w (link_of ls j 2) ≡ true

pub wanted_starts : {ws ls : List ℕ} {w : List Bool} {k : ℕ} (m : List Bool) → Linked ws ls m → length w ≡ lock_places → k ≡ word_in ws (of_header 5) → WantedBefore ws ls m w k
wanted_starts {ws} {ls} {w} {k} m d l e =
    record {
      along = along_starts d.some e;
      wide = l;
      each = λ z j h c. absurd (omega (arith, h, rw (blocked_seen ws k d.some e) at c));
    }

module _ {ws ls : List ℕ} {m w : List Bool} {k : ℕ} (i : WantedBefore ws ls m w k) where
  pub wanted_again : {x : ℕ} {w' : List Bool} → k ≢ 0 → WantNoted ws ls m k w w' → length w' ≡ lock_places → x ≡ word_in ws (of_lock k 1) → WantedBefore ws ls m w' x
  wanted_again {x} {w'} n d s e =
      record {
        along = along_on i.along n e;
        wide = s;
        each = λ z j h c f l.
            by_equal z k
            (λ q. d.here (rw q at f) j (rw q at l))
            (λ o. d.kept _ (i.each z j h (rw (walk_splits ws 1 k i.along.walks n, count_other z k (onward ws 1 (word_in ws (of_lock k 1))) o) (rw e at c)) f l));
      }

  pub wanted_ends : k ≡ 0 → Wanted ws ls m w
  wanted_ends e = record { each = λ z j h. i.each z j h (rw (e, walk_ends ws 1) (count_nil z)) }

pub ruleset wanted_laws = (rules, along_blocked, along_less, wanted_starts, wanted_again, wanted_ends)
