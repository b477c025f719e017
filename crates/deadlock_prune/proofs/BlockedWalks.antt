-- Walks along the blocked chain, and what the links of a blocked lock and of a holder are.
use mathlib.Core.Path.{◌≡◌, ◌∙◌}
use mathlib.Core.Logic.{◌≢◌}
use mathlib.Core.Bool.{Bool, true, false}
use mathlib.Core.List.{List}
use Prim.Native.Nat.{ℕ, ◌+◌, ◌*◌, ◌≤◌, ◌<◌, ◌^◌}
use native.Mathlib.Omega.{arith}
use lib.ListN.{length}
use Rattle.tables.specs.Lists.{count, first}
use Rattle.tables.specs.State.{lock}
use Rattle.tables.specs.Layout.{of_header, of_lock, locks_in, word_in, onward}
use Rattle.tables.specs.Grants.{holders}
use Rattle.tables.specs.Validity.{Core}
use Rattle.tables.proofs.Cases.{by_cases, clash}
use Rattle.tables.proofs.Counts.{count_nil, count_same, count_step}
use Rattle.rules.specs.Deadlock.{in_the_way, obstacles}
use Rattle.rules.proofs.NoticesKeepSound.{obstacle_in}
use Rattle.table_fields.specs.Sizes.{lock_places}
use Rattle.table_chains.specs.Promises.{Some}
use Rattle.table_chains.specs.Marks.{marked}
use Rattle.table_chains.specs.Walking.{At, Walking}
use Rattle.table_chains.proofs.ChainWalks.{some_sized, walk_splits, blocked_walks, walk_stands, walk_less, walk_on}
use Rattle.deadlock_graph.specs.Promises.{seen, Blocked}
use Rattle.deadlock_graph.specs.Holders.{holders_since}
use Rattle.deadlock_graph.specs.Hops.{looks}
use Rattle.deadlock_graph.specs.Links.{link_width, link_of, Roomy, Linked, Leaping}
use Rattle.deadlock_graph.proofs.HolderWalks.{no_holder, since_passing, bar_strong, leap_starts}
use Rattle.deadlock_graph.proofs.LinkLaws.{row_inside}
use Rattle.deadlock_graph.proofs.Marks.{Keeping}
use Rattle.deadlock_graph.proofs.SeenChains.{blocked_seen}
use Rattle.deadlock_prune.specs.BothEnds.{Placed, LinkedLock, looked}

-- ---- along the blocked chain

-- at the lock k of it, or at its end
pub record Along (ws : List ℕ) (k : ℕ) : Type 0 where
  pub walks : Walking ws 1 k
  pub stands : (j : ℕ) → 1 ≤ count j (onward ws 1 k) → 1 ≤ count j (seen ws).blocked

module _ {ws : List ℕ} {k : ℕ} where
  pub along_starts : Some Core ws → k ≡ word_in ws (of_header 5) → Along ws k
  along_starts s e = record { walks = blocked_walks s e; stands = λ j m. rw (blocked_seen ws k s e) at m }

  module _ (a : Along ws k) where
    module _ (n : k ≢ 0) where
      pub along_blocked : Blocked ws k
      along_blocked =
          record {
            some = a.walks.some;
            stands = a.stands k (rw (walk_splits ws 1 k a.walks n, count_same) (omega arith));
          }

      pub along_at : At ws k
      along_at = walk_stands a.walks n

      module _ {x : ℕ} (e : x ≡ word_in ws (of_lock k 1)) where
        pub along_on : Along ws x
        along_on =
            record {
              walks = walk_on a.walks n e;
              stands = λ j m. a.stands j (rw (walk_splits ws 1 k a.walks n) (omega (arith, rw e at m, count_step j k (onward ws 1 (word_in ws (of_lock k 1))))));
            }

        pub along_less : length (onward ws 1 x) < length (onward ws 1 k)
        along_less = walk_less x a.walks n e

-- ---- links

-- Linked stays when more marks are set
pub linked_more : {ws ls : List ℕ} {m m' : List Bool} → Keeping m m' → Linked ws ls m → Linked ws ls m'
linked_more {ws} {ls} {m} {m'} k l =
    record {
      some = l.some;
      roomy = l.roomy;
      small = l.small;
      mated = l.mated;
      each = λ x s f. l.each x s (by_cases (marked m x) (λ g. clash _ (k x g) f) (λ g. g));
    }

pub rows_placed : {ws ls : List ℕ} {k : ℕ} → Roomy ws ls → ((j : ℕ) → link_of ls j 2 ≤ locks_in ws) → At ws k → Placed ls k
rows_placed {ws} {ls} {k} r n a =
    record {
      few = omega (arith, a.high, (some_sized a.some).few_locks);
      row = row_inside ws ls k 2 r a.high (omega arith);
      number = omega (arith, n k, (some_sized a.some).few_locks);
    }

module _ {ws ls : List ℕ} {m : List Bool} {k : ℕ} (l : Linked ws ls m) where
  pub linked_row : (f : ℕ) → At ws k → f < link_width → link_width * k + f < length ls
  linked_row f a p = row_inside ws ls k f l.roomy a.high p

  pub linked_placed : At ws k → Placed ls k
  linked_placed a = rows_placed l.roomy l.small a

  pub linked_lock : Blocked ws k → marked m k ≡ false → LinkedLock ws ls k
  linked_lock b f = record { roomy = l.roomy; small = l.small; blocked = b; looker = l.each k b.stands f }

-- the place of its owner's number
module _ {ls : List ℕ} {k : ℕ} (p : Placed ls k) where
  module _ {x : ℕ} (e : x ≡ link_of ls k 2) where
    pub number_few : x < lock_places
    number_few = omega (arith, p.number)

    pub number_fits : x < 2 ^ 64
    number_fits = omega (arith, p.number)

-- ---- where a blocked lock begins to look: at the first holder in its way

module _ (ws : List ℕ) (k j : ℕ) where
  -- one that it looks at
  pub looked_in : 1 ≤ count j (looked (seen ws) k) → (looks (seen ws) k ≡ true) × (1 ≤ count j (obstacles (seen ws) k))
  unfolding looked
  looked_in c =
      by_cases (looks (seen ws) k)
      (λ y. (y, rw y at c))
      (λ f. absurd (omega (arith, count_nil j, rw f at c)))

  -- holds more than NL
  pub looked_strong : Some Core ws → 1 ≤ count j (looked (seen ws) k) → (lock (seen ws) j).held ≢ 0
  looked_strong s c = bar_strong ws k j s (obstacle_in (seen ws) k j (looked_in c).1).1

module _ {ws ls : List ℕ} {k j : ℕ} (l : LinkedLock ws ls k) (e : j ≡ link_of ls k 1) where
  abbrev r : ℕ
  r = (lock (seen ws) k).resource

  pub looks_along : Leaping ws ls r j
  looks_along = leap_starts l.blocked.some l.looker e

  pub looks_meets : (i : ℕ) → 1 ≤ count i (looked (seen ws) k) → 1 ≤ count i (holders_since ws r j)
  unfolding holders_since obstacles
  looks_meets i c =
      let w = looked_in ws k i c in
      let o = obstacle_in (seen ws) k i w.1 in
      let q : j ≡ first (obstacles (seen ws) k) = e ∙ l.looker.holder ∙ rw w.0 in
      rw q (since_passing (in_the_way (seen ws) k) (holders (seen ws) r) (no_holder ws l.blocked.some r) i o.0 o.1)
