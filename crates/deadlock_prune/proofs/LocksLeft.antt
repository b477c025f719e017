-- The count of the locks that are left, and pass after pass: a law for each return, turn and call.
use mathlib.Core.Path.{◌≡◌, sym, ap, ◌∙◌}
use mathlib.Core.Logic.{◌≢◌}
use mathlib.Core.Bool.{Bool, true, false, ◌||◌}
use mathlib.Core.List.{List}
use Prim.Native.Nat.{ℕ, suc, ◌+◌, ◌≤◌, ◌<◌, ◌^◌}
use native.Mathlib.Omega.{arith}
use lib.ListN.{get_or, length}
use borrow.Author.Rules.{rules}
use Rattle.tables.specs.Lists.{bit}
use Rattle.tables.specs.Layout.{of_header, of_lock, word_in, onward}
use Rattle.tables.specs.Validity.{Core}
use Rattle.tables.specs.State.{most_locks}
use Rattle.table_fields.specs.Sizes.{lock_places}
use Rattle.table_chains.specs.Promises.{Some}
use Rattle.table_chains.specs.Marks.{marked}
use Rattle.table_chains.specs.Walking.{Walking}
use Rattle.table_chains.proofs.ChainWalks.{some_sized, walk_splits, walk_ends, blocked_walks, walk_stands, walk_less, walk_on}
use Rattle.deadlock_graph.specs.Promises.{seen}
use Rattle.deadlock_graph.specs.Links.{Linked}
use Rattle.deadlock_graph.specs.Marks.{unmarked}
use Rattle.deadlock_graph.proofs.Marks.{unmarked_le}
use Rattle.deadlock_graph.proofs.SeenChains.{blocked_seen, blocked_few}
use Rattle.deadlock_prune.specs.Clearing.{Uncleared}
use Rattle.deadlock_prune.specs.BothEnds.{Ready, Passed}
use Rattle.deadlock_prune.proofs.ClearedLocks.{mark_place}

-- ---- how many are left

-- at the lock k of the blocked chain: n of those before it are not cleared
pub record Counting (ws : List ℕ) (m : List Bool) (n k : ℕ) : Type 0 where
  pub walks : Walking ws 1 k
  pub whole : unmarked (seen ws).blocked m ≡ n + unmarked (onward ws 1 k) m
  pub few : unmarked (seen ws).blocked m ≤ most_locks

left_few : {ws : List ℕ} (m : List Bool) → Some Core ws → unmarked (seen ws).blocked m ≤ most_locks
left_few {ws} m s = omega (arith, unmarked_le (seen ws).blocked m, blocked_few ws s, (some_sized s).few_locks)

pub counting_starts : {ws : List ℕ} {k : ℕ} (m : List Bool) → Some Core ws → k ≡ word_in ws (of_header 5) → Counting ws m 0 k
counting_starts {ws} {k} m s e =
    let all = ap (λ xs. unmarked xs m) (blocked_seen ws k s e) in
    record { walks = blocked_walks s e; whole = omega arith; few = left_few m s }

module _ {ws : List ℕ} {m : List Bool} {n k : ℕ} (i : Counting ws m n k) where
  module _ (e : k ≢ 0) where
    pub counting_place : k < lock_places
    counting_place = mark_place (walk_stands i.walks e)

    pub counting_number : k < 2 ^ 64
    counting_number = omega (arith, counting_place)

    module _ {x : ℕ} (h : x ≡ word_in ws (of_lock k 1)) where
      pub counting_past : get_or m k false ≡ true → Counting ws m n x
      unfolding unmarked marked
      counting_past f =
          record {
            walks = walk_on i.walks e h;
            whole = i.whole ∙ rw (walk_splits ws 1 k i.walks e, f, h);
            few = i.few;
          }

      module _ (f : get_or m k false ≡ false) where
        split : unmarked (onward ws 1 k) m ≡ suc (unmarked (onward ws 1 x) m)
        unfolding unmarked marked
        split = rw (walk_splits ws 1 k i.walks e, f, h)

        pub counting_fits : n + 1 < 2 ^ 16
        counting_fits = omega (arith, i.whole, i.few, split)

        pub counting_again : Counting ws m (n + 1) x
        counting_again = record { walks = walk_on i.walks e h; whole = omega (arith, i.whole, split); few = i.few }

  pub counting_ends : k ≡ 0 → n ≡ unmarked (seen ws).blocked m
  unfolding unmarked
  counting_ends e =
      let none : unmarked (onward ws 1 k) m ≡ 0 = rw (e, walk_ends ws 1) in
      omega (arith, i.whole)

pub ruleset count_laws = (rules, walk_less, counting_starts, counting_place, counting_number, counting_past, counting_fits, counting_again, counting_ends)

-- ---- pass after pass

pub bit_or : (a b : Bool) → bit (a || b) ≤ bit a + bit b
bit_or true b = omega arith
bit_or false b = omega arith

module _ {ws ls : List ℕ} {m : List Bool} (d : Ready ws ls m) where
  pub ready_some : Some Core ws
  ready_some = d.linked.some

  pub ready_linked : Linked ws ls m
  ready_linked = d.linked

  pub ready_wide : length m ≡ lock_places
  ready_wide = d.cleared.wide

  pub ready_left : {n : ℕ} → n ≡ unmarked (seen ws).blocked m → Uncleared ws ls m n
  ready_left e = record { linked = d.linked; cleared = d.cleared; is = e }

  pub ready_none : {n : ℕ} → n ≡ unmarked (seen ws).blocked m → n ≡ 0 → Uncleared ws ls m 0
  ready_none e z = record { linked = d.linked; cleared = d.cleared; is = sym z ∙ e }

-- a pass that is not the last one leaves less
pub passes_less : {ws ls : List ℕ} {m m' : List Bool} {r b : Bool} → Passed ws ls m m' r → b ≡ true → unmarked (seen ws).blocked m' + bit r < unmarked (seen ws).blocked m + bit b
passes_less p e = rw e (omega (arith, p.fewer))

pub ruleset passes_laws = (rules, passes_less, ready_wide)
