-- The functions that link the lines: a law for each return, turn and call.
use mathlib.Core.Path.{◌≡◌, refl, sym, ap, ◌∙◌}
use mathlib.Core.Logic.{◌≢◌}
use mathlib.Core.Bool.{Bool, true, false}
use mathlib.Core.List.{List, [], ◌∷◌, ◌++◌}
use Prim.Native.Nat.{ℕ, ◌+◌, ◌*◌, ◌≤◌, ◌<◌}
use native.Mathlib.Omega.{arith}
use lib.ListN.{get_or, set, length}
use lib.Dec.{ltb}
use borrow.Author.Tests.{lt-ltb, le-ltb}
use borrow.Author.Rules.{rules}
use Rattle.tables.specs.Lists.{count, first, next, keep}
use Rattle.tables.specs.State.{Tables, lock, resource, converts, waits}
use Rattle.tables.specs.Layout.{of_resource, of_lock, resources_in, word_in, onward}
use Rattle.tables.specs.Grants.{holders}
use Rattle.tables.specs.Validity.{Core, line}
use Rattle.tables.proofs.ChainMembers.{line_blocked}
use Rattle.tables.proofs.Counts.{count_same, count_append, count_step}
use Rattle.rules.specs.Deadlock.{in_the_way, obstacles}
use Rattle.table_chains.specs.Promises.{Some}
use Rattle.table_chains.specs.Walking.{At, Walking}
use Rattle.table_chains.proofs.ChainWalks.{converts_walk, waits_walk, walk_splits, walk_ends, walk_less, walk_on}
use Rattle.deadlock_graph.specs.Promises.{seen, Blocked, Asks}
use Rattle.deadlock_graph.specs.Holders.{Holds, holders_since, Looking}
use Rattle.deadlock_graph.specs.Hops.{last_or}
use Rattle.deadlock_graph.specs.Links.{link_width, Roomy}
use Rattle.deadlock_graph.proofs.HolderWalks.{look_all, look_ends, look_starts, look_at, look_holds, look_on, look_splits, look_less}
use Rattle.deadlock_graph.proofs.LineAhead.{line_here}
use Rattle.deadlock_graph.proofs.LockWords.{some_alike, is_blocked, blocked_at}
use Rattle.deadlock_graph.proofs.SeenChains.{queue_seen}
use Rattle.deadlock_graph.proofs.NearestLocks.{last_append, seen_line}
use Rattle.deadlock_lines.proofs.WrittenLinks.{length_meet, length_one, length_links}
use Rattle.deadlock_lines.specs.Lines.{mode_places, none_met, few_met, meet, link_one, meet_all, link_all, Faces, ChainFaces, LockLinked, ChainLinked, LineLinked}

-- ---- the first holder in a lock's way

-- at the holder j: those before it are not in k's way
pub record Seeking (ws : List ℕ) (k j : ℕ) : Type 0 where
  pub look : Looking ws (lock (seen ws) k).resource j
  pub whole : first (obstacles (seen ws) k) ≡ first (keep (in_the_way (seen ws) k) (holders_since ws (lock (seen ws) k).resource j))

pub seeking_starts : {ws : List ℕ} {h k : ℕ} → Faces ws h k → Seeking ws k h
unfolding obstacles
seeking_starts {ws} {h} {k} f =
    record {
      look = look_starts f.at.some (f.low, f.high) f.is;
      whole = ap (λ xs. first (keep (in_the_way (seen ws) k) xs)) (sym (look_all ws (lock (seen ws) k).resource h f.is));
    }

module _ {ws : List ℕ} {k j : ℕ} (i : Seeking ws k j) where
  module _ (n : j ≢ 0) where
    pub seeking_at : At ws j
    seeking_at = look_at i.look n

    pub seeking_holds : Holds ws j
    seeking_holds = look_holds i.look n

    module _ {r : Bool} (e : r ≡ in_the_way (seen ws) k j) where
      pub seeking_found : r ≡ true → j ≡ first (obstacles (seen ws) k)
      unfolding keep
      seeking_found h = sym (i.whole ∙ rw (look_splits i.look n refl, sym e ∙ h))

      pub seeking_again : {x : ℕ} → r ≡ false → x ≡ next j (holders (seen ws) (lock (seen ws) j).resource) → Seeking ws k x
      unfolding keep
      seeking_again h q = record { look = look_on i.look n q; whole = i.whole ∙ rw (look_splits i.look n q, sym e ∙ h) }

  pub seeking_ends : j ≡ 0 → 0 ≡ first (obstacles (seen ws) k)
  unfolding keep
  seeking_ends e = sym (i.whole ∙ rw (look_ends ws (lock (seen ws) k).resource j i.look.some e))

pub ruleset bar_laws = (rules, seeking_starts, seeking_at, seeking_holds, seeking_found, seeking_again, seeking_ends, look_less)

-- ---- a lock

module _ (ws ls ls₁ met : List ℕ) (k m ahead : ℕ) (e : ls₁ ≡ set ls (link_width * k + 0) ahead) (asks : Asks ws k m) where
  pub lock_past : 2 ≤ get_or met m 0 → LockLinked ws k ahead met met ls ls₁
  unfolding meet few_met link_one
  lock_past g =
      let many : ltb (get_or met (lock (seen ws) k).asked 0) 2 ≡ false = rw (← asks.is) (le-ltb (get_or met m 0) 2 g) in
      record { counted = rw many; written = rw many e }

  pub lock_looks : (ls₂ : List ℕ) (x : ℕ) → get_or met m 0 < 2 → x ≡ first (obstacles (seen ws) k) → ls₂ ≡ set ls₁ (link_width * k + 1) x → LockLinked ws k ahead met (set met m (get_or met m 0 + 1)) ls ls₂
  unfolding meet few_met link_one
  lock_looks ls₂ x g b q =
      let few : ltb (get_or met (lock (seen ws) k).asked 0) 2 ≡ true = rw (← asks.is) (lt-ltb (get_or met m 0) 2 g) in
      record { counted = rw (few, asks.is); written = rw few (q ∙ rw (e, b)) }

pub ruleset lock_laws = (rules, lock_past, lock_looks)

-- ---- a chain

-- the locks up to k were linked, the last of them is `last`; the rest comes
pub record Linking (ws : List ℕ) (h first ahead : ℕ) (met₀ met ls₀ ls : List ℕ) (k last : ℕ) : Type 0 where
  pub walks : Walking ws 0 k
  pub faces : (j : ℕ) → 1 ≤ count j (onward ws 0 k) → Faces ws h j
  pub wide : length met ≡ mode_places
  pub roomy : Roomy ws ls
  pub size : length ls ≡ length ls₀
  pub ends : last_or ahead (onward ws 0 first) ≡ last_or last (onward ws 0 k)
  pub counts : meet_all (seen ws) (onward ws 0 first) met₀ ≡ meet_all (seen ws) (onward ws 0 k) met
  pub whole : link_all (seen ws) ahead met₀ (onward ws 0 first) ls₀ ≡ link_all (seen ws) last met (onward ws 0 k) ls

pub linking_starts : {ws : List ℕ} {h k : ℕ} (last : ℕ) (met : List ℕ) {ls : List ℕ} → ChainFaces ws h k → length met ≡ mode_places → Roomy ws ls → Linking ws h k last met met ls ls k last
linking_starts last met w l r = record { walks = w.walks; faces = w.each; wide = l; roomy = r; size = refl; ends = refl; counts = refl; whole = refl }

module _ {ws : List ℕ} {h start ahead : ℕ} {met₀ met ls₀ ls : List ℕ} {k last : ℕ} (i : Linking ws h start ahead met₀ met ls₀ ls k last) where
  module _ (n : k ≢ 0) where
    pub linking_faces : Faces ws h k
    linking_faces = i.faces k (rw (walk_splits ws 0 k i.walks n, count_same) (omega arith))

    module _ {met' ls' : List ℕ} (d : LockLinked ws k last met met' ls ls') where
      pub linking_again : {x : ℕ} → x ≡ word_in ws (of_lock k 0) → Linking ws h start ahead met₀ met' ls₀ ls' x k
      unfolding meet_all link_all
      linking_again e =
          let met_size : length met' ≡ length met = ap length d.counted ∙ length_meet (lock (seen ws) k).asked met in
          let size : length ls' ≡ length ls = ap length d.written ∙ length_one (first (obstacles (seen ws) k)) k last met (lock (seen ws) k).asked ls in
          record {
            walks = walk_on i.walks n e;
            faces = λ j m. i.faces j (rw (walk_splits ws 0 k i.walks n) (omega (arith, rw e at m, count_step j k (onward ws 0 (word_in ws (of_lock k 0))))));
            wide = met_size ∙ i.wide;
            roomy = record { rows = rw size i.roomy.rows };
            size = size ∙ i.size;
            ends = i.ends ∙ rw (walk_splits ws 0 k i.walks n, e);
            counts = i.counts ∙ rw (walk_splits ws 0 k i.walks n, e, d.counted);
            whole = i.whole ∙ rw (walk_splits ws 0 k i.walks n, e, d.counted, d.written);
          }

  pub linking_ends : k ≡ 0 → ChainLinked ws start ahead met₀ met ls₀ ls last
  unfolding meet_all link_all
  linking_ends e =
      let none : onward ws 0 k ≡ [] = rw (e, walk_ends ws 0) in
      record {
        last = sym (i.ends ∙ rw none);
        counted = sym (i.counts ∙ rw none);
        written = sym (i.whole ∙ rw none);
      }

pub ruleset chain_laws = (rules, walk_less, linking_starts, linking_faces, linking_again, linking_ends)

-- ---- a line: the convert chain, then the wait chain

link_append : (t : Tables) (ahead : ℕ) (met xs ys ls : List ℕ) →
    link_all t ahead met (xs ++ ys) ls ≡ link_all t (last_or ahead xs) (meet_all t xs met) ys (link_all t ahead met xs ls)
unfolding link_all meet_all
link_append t ahead met [] ys ls = refl
link_append t ahead met (x ∷ xs) ys ls = link_append t x (meet (lock t x).asked met) xs ys (link_one (first (obstacles t x)) x ahead met (lock t x).asked ls)

pub chain_roomy : {ws : List ℕ} {first ahead : ℕ} {met met' ls ls' : List ℕ} {x : ℕ} → ChainLinked ws first ahead met met' ls ls' x → Roomy ws ls → Roomy ws ls'
chain_roomy {ws} {first} {ahead} {met} {met'} {ls} d r =
    record { rows = rw (d.written, length_links (seen ws) ahead met (onward ws 0 first) ls) r.rows }

module _ {ws : List ℕ} {r : ℕ} (s : Some Core ws) (there : (1 ≤ r) × (r ≤ resources_in ws)) where
  converts_are : {x : ℕ} → x ≡ word_in ws (of_resource r 2) → onward ws 0 x ≡ (resource (seen ws) r).convert
  converts_are e = ap (onward ws 0) e ∙ queue_seen ws s r converts there.0 there.1

  waits_are : {x : ℕ} → x ≡ word_in ws (of_resource r 3) → onward ws 0 x ≡ (resource (seen ws) r).wait
  waits_are e = ap (onward ws 0) e ∙ queue_seen ws s r waits there.0 there.1

  module _ {h : ℕ} (eh : h ≡ first (holders (seen ws) r)) where
    line_faces : (j : ℕ) → 1 ≤ count j (line (seen ws) r) → Faces ws h j
    line_faces j m =
        let on : 1 ≤ count j (line s.state r) = rw (seen_line ws s r) at m in
        let here : (lock (seen ws) j).resource ≡ r = rw ((some_alike ws s).locks j) (line_here s.state s.good r j on) in
        let stands : Blocked ws j = is_blocked ws j s (rw ((some_alike ws s).locks j) (line_blocked s.state s.good r j on)) in
        record { at = blocked_at ws j stands; low = rw here there.0; high = rw here there.1; is = rw here eh }

    pub converts_face : {x : ℕ} → x ≡ word_in ws (of_resource r 2) → ChainFaces ws h x
    unfolding line
    converts_face e =
        record {
          walks = converts_walk s there e;
          each = λ j m. line_faces j (omega (arith, rw (converts_are e) at m, count_append j (resource (seen ws) r).convert (resource (seen ws) r).wait));
        }

    pub waits_face : {x : ℕ} → x ≡ word_in ws (of_resource r 3) → ChainFaces ws h x
    unfolding line
    waits_face e =
        record {
          walks = waits_walk s there e;
          each = λ j m. line_faces j (omega (arith, rw (waits_are e) at m, count_append j (resource (seen ws) r).convert (resource (seen ws) r).wait));
        }

  module _ {x y : ℕ} (ex : x ≡ word_in ws (of_resource r 2)) (ey : y ≡ word_in ws (of_resource r 3)) where
    pub line_done : {met₁ met₂ ls ls₁ ls₂ : List ℕ} {n p : ℕ} → ChainLinked ws x 0 none_met met₁ ls ls₁ n → ChainLinked ws y n met₁ met₂ ls₁ ls₂ p → LineLinked ws r ls ls₂ p
    unfolding line
    line_done {met₁} {met₂} {ls} {ls₁} {ls₂} {n} {p} a b =
        record {
          last = b.last ∙ rw (a.last, converts_are ex, waits_are ey) (sym (last_append 0 (resource (seen ws) r).convert (resource (seen ws) r).wait));
          written =
              b.written
              ∙ rw (a.written, a.counted, a.last, converts_are ex, waits_are ey)
              (sym (link_append (seen ws) 0 none_met (resource (seen ws) r).convert (resource (seen ws) r).wait ls));
        }

pub ruleset line_laws = (rules, converts_face)
