-- Lines on which no owner of a blocked lock holds anything in someone's way: a law for each return, turn and call.
use mathlib.Core.Path.{◌≡◌, refl, sym, ap, ◌∙◌}
use mathlib.Core.Logic.{◌≢◌}
use mathlib.Core.Bool.{Bool, true, false, ◌&&◌}
use mathlib.Core.List.{List}
use Prim.Native.Nat.{ℕ, ◌+◌, ◌%◌, ◌≤◌, ◌<◌, ◌^◌}
use native.Mathlib.Omega.{arith}
use lib.ListN.{get_or, set, length, length-set}
use lib.Dec.{eqb}
use borrow.Author.Tests.{eqb-true, ne_eqb}
use borrow.Author.Rules.{rules}
use Rattle.tables.specs.Lists.{count, any, first, next}
use Rattle.tables.specs.State.{lock, resource, converts, waits, most_resources}
use Rattle.tables.specs.Layout.{of_header, of_resource, of_lock, resources_in, word_in, onward}
use Rattle.tables.specs.Grants.{holders}
use Rattle.tables.specs.Validity.{Core, line}
use Rattle.tables.proofs.Cases.{by_equal, clash, or_left, and_left, and_right}
use Rattle.tables.proofs.Counts.{count_nil, count_same, count_other, count_append, by_append, count_step, any_intro}
use Rattle.tables.proofs.ChainMembers.{line_blocked}
use Rattle.rules.specs.Deadlock.{ahead, obstacles, owner}
use Rattle.rules.proofs.NoticesKeepSound.{obstacle_in}
use Rattle.rules.specs.Walks.{Walk, step, through}
use Rattle.table_fields.specs.Sizes.{Sized, lock_places}
use Rattle.table_chains.specs.Promises.{Some}
use Rattle.table_chains.specs.Marks.{marked}
use Rattle.table_chains.specs.Walking.{At}
use Rattle.table_chains.proofs.ChainWalks.{some_sized, walk_splits, walk_ends, converts_walk, waits_walk, walk_stands, walk_less, walk_on}
use Rattle.deadlock_graph.specs.Promises.{seen, Blocked}
use Rattle.deadlock_graph.specs.Holders.{Holds, holders_since, Looking}
use Rattle.deadlock_graph.specs.Hops.{nearest, hops}
use Rattle.deadlock_graph.proofs.HolderWalks.{null_free, look_all, look_ends, look_starts, look_at, look_holds, look_on, look_splits, look_less}
use Rattle.deadlock_graph.proofs.LineAhead.{line_here, line_has, line_alike}
use Rattle.deadlock_graph.proofs.LockWords.{some_alike, asked_few, is_blocked, blocked_low, blocked_home}
use Rattle.deadlock_graph.proofs.Marks.{mark_same, mark_kept, clear_more}
use Rattle.deadlock_graph.proofs.NearestLocks.{seen_node, seen_line, nearest_blocked_seen, nearest_here_seen, nearest_less_seen}
use Rattle.deadlock_graph.proofs.SeenChains.{blocked_seen, queue_seen}
use Rattle.deadlock_prune.specs.Clearing.{Clearable}
use Rattle.deadlock_prune.specs.FreeLines.{filter_places, noted, OwnersNoted, counts, FreePass, FreeChain, ChainCleared, LineCleared, LinesCleared}
use Rattle.deadlock_prune.proofs.BlockedWalks.{Along, along_starts, along_at, along_on, along_less}
use Rattle.deadlock_prune.proofs.ClearedLocks.{mark_place, by_hop, hop_blocked}

-- ---- the filter

-- at the lock k of the blocked chain: the owners of those before it are noted
pub record NotedBefore (ws : List ℕ) (f₀ f : List Bool) (k : ℕ) : Type 0 where
  pub along : Along ws k
  pub wide : length f ≡ filter_places
  pub size : length f ≡ length f₀
  pub each : (j : ℕ) → 1 ≤ count j (seen ws).blocked → count j (onward ws 1 k) ≡ 0 → noted (seen ws) f j ≡ true

pub noting_starts : {ws : List ℕ} {f : List Bool} {k : ℕ} → Some Core ws → length f ≡ filter_places → k ≡ word_in ws (of_header 5) → NotedBefore ws f f k
noting_starts {ws} {f} {k} s l e =
    record { along = along_starts s e; wide = l; size = refl; each = λ j h z. absurd (omega (arith, h, rw (blocked_seen ws k s e) at z)) }

pub filter_place : (f : List Bool) (x : ℕ) → length f ≡ filter_places → x % 256 < length f
filter_place f x e = omega arith

module _ {ws : List ℕ} {f₀ f : List Bool} {k : ℕ} (i : NotedBefore ws f₀ f k) where
  pub noting_again : {x y : ℕ} → k ≢ 0 → y ≡ owner (lock (seen ws) k) → x ≡ word_in ws (of_lock k 1) → NotedBefore ws f₀ (set f (y % 256) true) x
  unfolding noted
  noting_again {x} {y} n o e =
      let inside : y % 256 < length f = filter_place f y i.wide in
      record {
        along = along_on i.along n e;
        wide = length-set f (y % 256) true ∙ i.wide;
        size = length-set f (y % 256) true ∙ i.size;
        each = λ j h z.
            by_equal j k
            (λ q. rw (q, sym o) (mark_same f (y % 256) inside))
            (λ d. mark_kept f (y % 256) inside _ (i.each j h (rw (walk_splits ws 1 k i.along.walks n, count_other j k (onward ws 1 (word_in ws (of_lock k 1))) d) (rw e at z))));
      }

  pub noting_ends : k ≡ 0 → OwnersNoted ws f
  noting_ends e = record { each = λ j h. i.each j h (rw (e, walk_ends ws 1) (count_nil j)) }

pub ruleset noting_laws = (rules, along_at, along_less, filter_place, noting_starts, noting_again, noting_ends)

-- ---- one holder

module _ (ws : List ℕ) (f : List Bool) (k : ℕ) {x : Bool} (e : x ≡ eqb (lock (seen ws) k).held 0) where
  pub counts_null : x ≡ true → false ≡ counts (seen ws) f k
  unfolding counts
  counts_null h = rw (sym e ∙ h)

  pub counts_owner : {y : ℕ} → x ≡ false → y ≡ owner (lock (seen ws) k) → get_or f (y % 256) false ≡ counts (seen ws) f k
  unfolding counts noted marked
  counts_owner h o = rw (sym e ∙ h, o)

pub ruleset counts_laws = (rules, filter_place, counts_null, counts_owner)

-- ---- the holders on a resource

pub record Finding (ws : List ℕ) (f : List Bool) (r k : ℕ) : Type 0 where
  pub look : Looking ws r k
  pub whole : any (counts (seen ws) f) (holders (seen ws) r) ≡ any (counts (seen ws) f) (holders_since ws r k)

pub finding_starts : {ws : List ℕ} {r k : ℕ} (f : List Bool) → Some Core ws → (1 ≤ r) × (r ≤ resources_in ws) → k ≡ first (holders (seen ws) r) → Finding ws f r k
finding_starts {ws} {r} {k} f s there e = record { look = look_starts s there e; whole = ap (any (counts (seen ws) f)) (sym (look_all ws r k e)) }

module _ {ws : List ℕ} {f : List Bool} {r k : ℕ} (i : Finding ws f r k) where
  module _ (n : k ≢ 0) where
    pub finding_at : At ws k
    finding_at = look_at i.look n

    pub finding_holds : Holds ws k
    finding_holds = look_holds i.look n

    module _ {x : Bool} (o : x ≡ counts (seen ws) f k) where
      pub finding_found : x ≡ true → true ≡ any (counts (seen ws) f) (holders (seen ws) r)
      unfolding any
      finding_found h = sym (i.whole ∙ rw (look_splits i.look n refl) (or_left _ _ (sym o ∙ h)))

      pub finding_again : {y : ℕ} → x ≡ false → y ≡ next k (holders (seen ws) (lock (seen ws) k).resource) → Finding ws f r y
      unfolding any
      finding_again h e = record { look = look_on i.look n e; whole = i.whole ∙ rw (look_splits i.look n e, sym o ∙ h) }

  pub finding_ends : k ≡ 0 → false ≡ any (counts (seen ws) f) (holders (seen ws) r)
  unfolding any
  finding_ends e = sym (i.whole ∙ rw (look_ends ws r k i.look.some e))

pub ruleset finding_laws = (rules, finding_starts, finding_at, finding_holds, finding_found, finding_again, finding_ends, look_less)

-- ---- no cycle passes such a line: each hop goes to the lock right ahead

module _ {ws : List ℕ} {f : List Bool} (r : ℕ) (o : OwnersNoted ws f) (none : any (counts (seen ws) f) (holders (seen ws) r) ≡ false) where
  module _ (a : ℕ) (p : Blocked ws a) (h : (lock (seen ws) a).resource ≡ r) where
    -- who is in a's way holds more than NL, and has no blocked lock
    not_owned : (j y : ℕ) → 1 ≤ count j (obstacles (seen ws) a) → 1 ≤ count y (seen ws).blocked → owner (lock (seen ws) j) ≡ owner (lock (seen ws) y) → ⊥
    unfolding counts noted
    not_owned j y m s e =
        let w = obstacle_in (seen ws) a j m in
        let n : (lock (seen ws) j).held ≢ 0 = λ z. clash _ w.1 (null_free (seen ws) a j z (asked_few ws p.some a)) in
        clash _ (any_intro (counts (seen ws) f) (holders (seen ws) r) j (rw h at w.0) (rw (ne_eqb _ 0 n, e) (o.each y s))) none

    only_ahead : (b : ℕ) → hops (seen ws) a b ≡ true → b ≡ nearest (seen ws) a
    only_ahead b g =
        by_hop ws a b g
        (record { next = λ e. e; way = λ j l m e. absurd (not_owned j b m (hop_blocked ws a b p.some g).stands e) })

    not_front : (b : ℕ) → hops (seen ws) a b ≡ true → nearest (seen ws) a ≢ 0
    not_front b g z = omega (arith, blocked_low (hop_blocked ws a b p.some g), only_ahead b g)

  goes_ahead : (a b : ℕ) → Blocked ws a → (lock (seen ws) a).resource ≡ r → Walk (hops (seen ws)) (seen ws).blocked a b → length (ahead (seen ws) b) < length (ahead (seen ws) a)
  goes_ahead a b p h (step _ _ g) = rw (only_ahead a p h b g) (nearest_less_seen ws a p (not_front a p h b g))
  goes_ahead a b p h (through _ c _ m g v) =
      let e = only_ahead a p h c g in
      let n = not_front a p h c g in
      let less : length (ahead (seen ws) c) < length (ahead (seen ws) a) = rw e (nearest_less_seen ws a p n) in
      let q : Blocked ws c = rw e (nearest_blocked_seen ws a p n) in
      omega (arith, less, goes_ahead c b q (rw e (nearest_here_seen ws a p n) ∙ h) v)

  line_free : Some Core ws → (j : ℕ) → 1 ≤ count j (line (seen ws) r) → Walk (hops (seen ws)) (seen ws).blocked j j → ⊥
  line_free s j m w =
      let t = s.state in
      let on : 1 ≤ count j (line t r) = rw (line_alike t (seen ws) (some_alike ws s) r) at m in
      let p = is_blocked ws j s (rw ((some_alike ws s).locks j) (line_blocked t s.good r j on)) in
      let h : (lock (seen ws) j).resource ≡ r = rw ((some_alike ws s).locks j) (line_here t s.good r j on) in
      omega (arith, goes_ahead j j p h w)

-- ---- one chain

-- at the lock k of it, from `first` on; m₀ are the marks before
pub record ChainAt (ws : List ℕ) (m₀ m : List Bool) (first k : ℕ) : Type 0 where
  pub chain : FreeChain ws m k
  pub kept : (x : ℕ) → marked m₀ x ≡ true → marked m x ≡ true
  pub all : (j : ℕ) → 1 ≤ count j (onward ws 0 first) → count j (onward ws 0 k) ≡ 0 → marked m j ≡ true

pub chain_starts : {ws : List ℕ} {m : List Bool} {k : ℕ} → FreeChain ws m k → ChainAt ws m m k k
chain_starts c = record { chain = c; kept = λ x h. h; all = λ j h z. absurd (omega arith) }

module _ {ws : List ℕ} {m₀ m : List Bool} {first k : ℕ} (i : ChainAt ws m₀ m first k) where
  module _ (n : k ≢ 0) where
    pub chain_place : k < lock_places
    chain_place = mark_place (walk_stands i.chain.walks n)

    pub chain_fits : k < 2 ^ 64
    chain_fits = omega (arith, chain_place)

    module _ {x : ℕ} (e : x ≡ word_in ws (of_lock k 0)) where
      pub chain_less : length (onward ws 0 x) < length (onward ws 0 k)
      chain_less = walk_less x i.chain.walks n e

      pub chain_again : ChainAt ws m₀ (set m k true) first x
      chain_again =
          let split = walk_splits ws 0 k i.chain.walks n in
          let inside : k < length m = omega (arith, chain_place, i.chain.cleared.wide) in
          record {
            chain = record {
              walks = walk_on i.chain.walks n e;
              cleared = clear_more m k i.chain.cleared (i.chain.each k (rw (split, count_same) (omega arith)));
              each = λ j c. i.chain.each j (rw split (omega (arith, rw e at c, count_step j k (onward ws 0 (word_in ws (of_lock k 0))))));
            };
            kept = λ y h. mark_kept m k inside y (i.kept y h);
            all = λ j h z.
                by_equal j k
                (λ q. rw q (mark_same m k inside))
                (λ d. mark_kept m k inside j (i.all j h (rw (split, count_other j k (onward ws 0 (word_in ws (of_lock k 0))) d) (rw e at z))));
          }

  pub chain_ends : k ≡ 0 → ChainCleared ws m₀ m first
  chain_ends e = record { cleared = i.chain.cleared; kept = i.kept; all = λ j h. i.all j h (rw (e, walk_ends ws 0) (count_nil j)) }

pub ruleset chain_laws = (rules, chain_starts, chain_place, chain_fits, chain_less, chain_again, chain_ends)

-- ---- one line

module _ {ws : List ℕ} {r : ℕ} (s : Some Core ws) (there : (1 ≤ r) × (r ≤ resources_in ws)) {k : ℕ} where
  converts_are : k ≡ word_in ws (of_resource r 2) → onward ws 0 k ≡ (resource (seen ws) r).convert
  converts_are q = ap (onward ws 0) q ∙ queue_seen ws s r converts there.0 there.1

  waits_are : k ≡ word_in ws (of_resource r 3) → onward ws 0 k ≡ (resource (seen ws) r).wait
  waits_are q = ap (onward ws 0) q ∙ queue_seen ws s r waits there.0 there.1

module _ {ws : List ℕ} {f m : List Bool} {r : ℕ} (p : FreePass ws f m) (there : (1 ≤ r) × (r ≤ resources_in ws)) where
  pub line_noted : LineCleared ws f m m r false
  line_noted = record { pass = p; kept = λ x h. h; all = λ h. clash false h refl }

  module _ {c w : ℕ} (ec : c ≡ word_in ws (of_resource r 2)) (ew : w ≡ word_in ws (of_resource r 3)) where
    -- a lock of the line is on one of its two chains
    by_chain : {A : Type 0} (j : ℕ) → 1 ≤ count j (line (seen ws) r) → (1 ≤ count j (onward ws 0 c) → A) → (1 ≤ count j (onward ws 0 w) → A) → A
    unfolding line
    by_chain j h a b =
        by_append j (resource (seen ws) r).convert (resource (seen ws) r).wait h
        (λ g. a (rw (converts_are p.some there ec) g))
        (λ g. b (rw (waits_are p.some there ew) g))

    pub line_empty : (eqb c 0 && eqb w 0) ≡ true → LineCleared ws f m m r true
    line_empty h =
        let zc : c ≡ 0 = eqb-true c 0 (and_left (eqb c 0) _ h) in
        let zw : w ≡ 0 = eqb-true w 0 (and_right (eqb c 0) _ h) in
        record {
          pass = p;
          kept = λ x g. g;
          all = λ g j o.
              by_chain j o
              (λ y. absurd (omega (arith, count_nil j, rw (zc, walk_ends ws 0) at y)))
              (λ y. absurd (omega (arith, count_nil j, rw (zw, walk_ends ws 0) at y)));
        }

    pub line_cleared : {m₁ m₂ : List Bool} → ChainCleared ws m m₁ c → ChainCleared ws m₁ m₂ w → LineCleared ws f m m₂ r true
    line_cleared d e =
        record {
          pass = record { some = p.some; owners = p.owners; cleared = e.cleared };
          kept = λ x h. e.kept x (d.kept x h);
          all = λ g j o. by_chain j o (λ y. e.kept j (d.all j y)) (e.all j);
        }

  module _ {b : Bool} (e : b ≡ any (counts (seen ws) f) (holders (seen ws) r)) (h : b ≡ false) where
    free : (j : ℕ) → 1 ≤ count j (line (seen ws) r) → Walk (hops (seen ws)) (seen ws).blocked j j → ⊥
    free = line_free r p.owners (sym e ∙ h) p.some

    pub converting_free : {k : ℕ} → k ≡ word_in ws (of_resource r 2) → FreeChain ws m k
    unfolding line
    converting_free {k} q =
        record {
          walks = converts_walk p.some there q;
          cleared = p.cleared;
          each = λ j c. free j (omega (arith, rw (converts_are p.some there q) at c, count_append j (resource (seen ws) r).convert (resource (seen ws) r).wait));
        }

    pub waiting_free : {k c : ℕ} {m' : List Bool} → ChainCleared ws m m' c → k ≡ word_in ws (of_resource r 3) → FreeChain ws m' k
    unfolding line
    waiting_free {k} d q =
        record {
          walks = waits_walk p.some there q;
          cleared = d.cleared;
          each = λ j c. free j (omega (arith, rw (waits_are p.some there q) at c, count_append j (resource (seen ws) r).convert (resource (seen ws) r).wait));
        }

pub ruleset free_line_laws = (rules, line_noted, line_empty, line_cleared, converting_free, waiting_free)

-- ---- all lines

-- the lines of the resources below r are passed; all their locks are cleared if b
pub record FreeAt (ws : List ℕ) (f m : List Bool) (b : Bool) (r : ℕ) : Type 0 where
  pub low : 1 ≤ r
  pub few : resources_in ws ≤ most_resources
  pub pass : FreePass ws f m
  pub all : b ≡ true → (j : ℕ) → 1 ≤ count j (seen ws).blocked → (lock (seen ws) j).resource < r → marked m j ≡ true

pub clearable_sized : {ws : List ℕ} {m : List Bool} → Clearable ws m → Sized ws
clearable_sized c = some_sized c.some

pub lines_start : {ws : List ℕ} {f m : List Bool} → Clearable ws m → OwnersNoted ws f → FreeAt ws f m true 1
lines_start {ws} c o =
    record {
      low = omega arith;
      few = (some_sized c.some).few_resources;
      pass = record { some = c.some; owners = o; cleared = c.cleared };
      all = λ h j s l. absurd (omega (arith, l, (blocked_home ws j (record { some = c.some; stands = s })).0));
    }

-- a blocked lock stands on the line of its resource
on_line : (ws : List ℕ) (s : Some Core ws) (j : ℕ) → 1 ≤ count j (seen ws).blocked → 1 ≤ count j (line (seen ws) (lock (seen ws) j).resource)
on_line ws s j h =
    rw ((some_alike ws s).locks j, seen_line ws s (lock s.state j).resource) (line_has s.state s.good j (seen_node ws s j h))

module _ {ws : List ℕ} {f m : List Bool} {b : Bool} {r : ℕ} (i : FreeAt ws f m b r) where
  pub lines_again : {m' : List Bool} {x : Bool} → LineCleared ws f m m' r x → FreeAt ws f m' (b && x) (r + 1)
  lines_again {m'} {x} p =
      record {
        low = omega arith;
        few = i.few;
        pass = p.pass;
        all = λ h j s l.
            by_equal (lock (seen ws) j).resource r
            (λ q. p.all (and_right b x h) j (rw q at (on_line ws i.pass.some j s)))
            (λ n. p.kept j (i.all (and_left b x h) j s (omega (arith, l, n))));
      }

  pub lines_end : {n : ℕ} → n ≡ resources_in ws → n + 1 ≤ r → LinesCleared ws m b
  lines_end e h =
      record {
        cleared = i.pass.cleared;
        all = λ g k s. i.all g k s (omega (arith, (blocked_home ws k (record { some = i.pass.some; stands = s })).1));
      }

pub ruleset lines_laws = (rules, clearable_sized, lines_start, lines_again, lines_end)
