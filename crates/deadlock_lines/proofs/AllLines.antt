-- The functions that link the lines of blocked locks: a law for each return, turn and call.
use mathlib.Core.Path.{◌≡◌, refl, sym, ap, ◌∙◌}
use mathlib.Core.Logic.{◌≢◌}
use mathlib.Core.Bool.{Bool, true, false, cond}
use mathlib.Core.List.{List, [], ◌∷◌, map}
use Prim.Native.Nat.{ℕ, ◌+◌, ◌*◌, ◌≤◌, ◌<◌}
use native.Mathlib.Omega.{arith}
use lib.ListN.{get_or, set, length, length-set}
use lib.Seq.{get_or-set_same, get_or-set_other}
use lib.Dec.{leb, ltb}
use borrow.Author.Tests.{leb-true, leb-false}
use borrow.Author.Rules.{rules}
use Rattle.tables.specs.Lists.{count, first}
use Rattle.tables.specs.State.{Tables, lock}
use Rattle.tables.specs.Layout.{of_header, of_lock, word_in, onward}
use Rattle.tables.specs.Validity.{Core, line}
use Rattle.tables.proofs.Cases.{by_cases, by_equal, clash}
use Rattle.tables.proofs.Counts.{get_or_same, count_nil, count_same, count_other, count_step, within_le}
use Rattle.tables.proofs.ChainMembers.{blocked_within, line_blocked, line_once}
use Rattle.rules.specs.Deadlock.{before, ahead, obstacles}
use Rattle.table_fields.specs.Sizes.{lock_places}
use Rattle.table_chains.specs.Promises.{Some}
use Rattle.table_chains.specs.Marks.{marked}
use Rattle.table_chains.specs.Walking.{Walking}
use Rattle.table_chains.proofs.ChainWalks.{some_sized, walk_splits, walk_ends, blocked_walks, walk_less, walk_on}
use Rattle.deadlock_graph.specs.Promises.{seen, Blocked, StandsOn}
use Rattle.deadlock_graph.specs.Hops.{last_or, nearest, looks}
use Rattle.deadlock_graph.specs.Links.{link_width, link_of, Roomy, SameLinks}
use Rattle.deadlock_graph.proofs.SameVictim.{ahead_alike}
use Rattle.deadlock_graph.proofs.LockWords.{some_alike, asked_few, blocked_at}
use Rattle.deadlock_graph.proofs.LineAhead.{line_here, line_has, ahead_line}
use Rattle.deadlock_graph.proofs.LinkLaws.{same_links, joined_links, row_inside}
use Rattle.deadlock_graph.proofs.NearestLocks.{last_in, seen_node, seen_line, end_blocked_seen, end_last_seen}
use Rattle.deadlock_graph.proofs.SeenChains.{blocked_seen}
use Rattle.deadlock_lines.specs.Lines.{mode_places, none_met, LineLinked, SomeLined, LineMade, Unlined, LinesLinked}
use Rattle.deadlock_lines.proofs.WrittenLinks.{length_links, links_field, links_off, links_ahead, links_holder}

some_on : (k : ℕ) (xs : List ℕ) → 1 ≤ count k xs → 1 ≤ length xs
some_on k [] m = absurd (omega (arith, count_nil k))
some_on k (x ∷ xs) m = omega arith

-- ---- the line of a resource, in the state that the words tell

module _ (ws : List ℕ) (s : Some Core ws) where
  abbrev t : Tables
  t = s.state

  abbrev home : ℕ → ℕ
  home k = (lock (seen ws) k).resource

  home_same : (k : ℕ) → home k ≡ (lock t k).resource
  home_same k = ap (λ l. l.resource) ((some_alike ws s).locks k)

  seen_once : (r k : ℕ) → count k (line (seen ws) r) ≤ 1
  seen_once r k = rw (seen_line ws s r) (line_once t s.good r k)

  seen_off : (r k : ℕ) → home k ≢ r → count k (line (seen ws) r) ≡ 0
  seen_off r k n =
      by_cases (leb 1 (count k (line (seen ws) r)))
      (λ p. absurd (n (home_same k ∙ line_here t s.good r k (rw (seen_line ws s r) at (leb-true 1 (count k (line (seen ws) r)) p)))))
      (λ p. omega (arith, leb-false 1 (count k (line (seen ws) r)) p))

  -- no lock has the number 0
  none_on : (r : ℕ) → count 0 (line t r) ≡ 0
  none_on r =
      by_cases (leb 1 (count 0 (line t r)))
      (λ p. absurd (omega (arith, (within_le (length t.locks) 0 (blocked_within t 0 (line_blocked t s.good r 0 (leb-true 1 (count 0 (line t r)) p)))).0)))
      (λ p. omega (arith, leb-false 1 (count 0 (line t r)) p))

  module _ (k : ℕ) (m : 1 ≤ count k (seen ws).blocked) where
    here : Blocked ws k
    here = record { some = s; stands = m }

    pub seen_has : 1 ≤ count k (line (seen ws) (home k))
    seen_has = rw (home_same k, seen_line ws s (lock t k).resource) (line_has t s.good k (seen_node ws s k m))

    pub seen_ahead : ahead (seen ws) k ≡ before k (line (seen ws) (home k))
    seen_ahead =
        ahead_alike t (seen ws) (some_alike ws s) k ∙ ahead_line t s.good k (seen_node ws s k m) ∙ rw (home_same k, seen_line ws s (lock t k).resource)

    -- the row of a blocked lock is inside
    blocked_row : (ls : List ℕ) → Roomy ws ls → link_width * k + 1 < length ls
    blocked_row ls r = row_inside ws ls k 1 r (blocked_at ws k here).high (omega arith)

    -- the last of its line is a lock
    end_real : last_or 0 (line (seen ws) (home k)) ≢ 0
    end_real z = no_zero (some_on k (line (seen ws) (home k)) seen_has)
      where
        no_zero : 1 ≤ length (line (seen ws) (home k)) → ⊥
        no_zero l = omega (arith, rw (z, seen_line ws s (home k)) at (last_in 0 (line (seen ws) (home k)) l), none_on (home k))

    nearest_before : nearest (seen ws) k ≡ last_or 0 (before k (line (seen ws) (home k)))
    unfolding nearest
    nearest_before = ap (last_or 0) seen_ahead

    looks_before : looks (seen ws) k ≡ ltb (count (lock (seen ws) k).asked (map (λ j. (lock (seen ws) j).asked) (before k (line (seen ws) (home k))))) 2
    unfolding looks
    looks_before = rw seen_ahead

none_there : (m : ℕ) → get_or none_met m 0 ≡ 0
unfolding none_met
none_there m = get_or_same 0 mode_places m

none_wide : length none_met ≡ mode_places
unfolding none_met
none_wide = refl

-- ---- the line of a blocked lock

module _ {ws ls lasts : List ℕ} (i : SomeLined ws ls lasts) where
  -- nothing is done: the lock is cleared, or its line was linked before
  stays : (c : List Bool) (k : ℕ) → (marked c k ≡ false → get_or lasts (lock (seen ws) k).resource 0 ≢ 0) → LineMade ws c k ls ls lasts lasts
  stays c k h = record { lined = i; here = h; kept = λ r n. n; owners = same_links 2 ls; mates = same_links 3 ls }

  pub for_cleared : (c : List Bool) (k : ℕ) → get_or c k false ≡ true → LineMade ws c k ls ls lasts lasts
  unfolding marked
  for_cleared c k h = stays c k (λ f. clash (get_or c k false) h f)

  module _ {k r : ℕ} (o : StandsOn ws k r) where
    pub for_place : r < length lasts
    for_place = omega (arith, i.wide, o.high)

    pub for_done : (c : List Bool) → get_or lasts r 0 ≢ 0 → LineMade ws c k ls ls lasts lasts
    for_done c n = stays c k (λ f. rw o.is at n)

    -- the line is linked, and x is the last on it
    module _ (b : Blocked ws k) (z : get_or lasts r 0 ≡ 0) {x : ℕ} {ls' : List ℕ} (d : LineLinked ws r ls ls' x) where
      some : Some Core ws
      some = b.some

      abbrev lasts' : List ℕ
      lasts' = set lasts r x

      last_here : get_or lasts' r 0 ≡ x
      last_here = get_or-set_same lasts r x 0 for_place

      last_there : (q : ℕ) → q ≢ r → get_or lasts' q 0 ≡ get_or lasts q 0
      last_there q n = get_or-set_other lasts r q x 0 n

      last_real : x ≢ 0
      last_real e = end_real ws some k b.stands (rw o.is at (sym d.last ∙ e))

      size : length ls' ≡ length ls
      size = ap length d.written ∙ length_links (seen ws) 0 none_met (line (seen ws) r) ls

      off : (m g : ℕ) → g < link_width → (lock (seen ws) m).resource ≢ r → link_of ls' m g ≡ link_of ls m g
      off m g p q = ap (λ zs. link_of zs m g) d.written ∙ links_off (seen ws) 0 none_met (line (seen ws) r) ls m g p (seen_off ws some r m q)

      same : (g : ℕ) → 2 ≤ g → g < link_width → SameLinks g ls ls'
      same g p q = record { each = λ m. ap (λ zs. link_of zs m g) d.written ∙ links_field (seen ws) 0 none_met (line (seen ws) r) ls m g p q }

      module _ (m : ℕ) (s : 1 ≤ count m (seen ws).blocked) (q : (lock (seen ws) m).resource ≡ r) where
        row : link_width * m + 1 < length ls
        row = blocked_row ws some m s ls i.roomy

        on : 1 ≤ count m (line (seen ws) r)
        on = rw q at (seen_has ws some m s)

        linked_ahead : link_of ls' m 0 ≡ nearest (seen ws) m
        linked_ahead =
            ap (λ zs. link_of zs m 0) d.written
            ∙ links_ahead (seen ws) 0 none_met (line (seen ws) r) ls m (seen_once ws some r m) row on
            ∙ sym (nearest_before ws some m s ∙ rw q)

        linked_holder : link_of ls' m 1 ≡ cond (looks (seen ws) m) (first (obstacles (seen ws) m)) 0
        linked_holder =
            let asked = (lock (seen ws) m).asked in
            let those = count asked (map (λ y. (lock (seen ws) y).asked) (before m (line (seen ws) r))) in
            let all : get_or none_met asked 0 + those ≡ those = omega (arith, none_there asked) in
            ap (λ zs. link_of zs m 1) d.written
            ∙ links_holder (seen ws) 0 none_met (line (seen ws) r) ls m (rw none_wide (asked_few ws some m)) (seen_once ws some r m) row on
            ∙ rw (all, i.left m (rw q z), looks_before ws some m s, q)

      lines_more : SomeLined ws ls' lasts'
      lines_more =
          record {
            roomy = record { rows = rw size i.roomy.rows };
            wide = rw (length-set lasts r x) i.wide;
            ahead = λ m s n.
                by_equal (lock (seen ws) m).resource r
                (λ q. linked_ahead m s q)
                (λ q. off m 0 (omega arith) q ∙ i.ahead m s (λ e. n (last_there (lock (seen ws) m).resource q ∙ e)));
            holder = λ m s n.
                by_equal (lock (seen ws) m).resource r
                (λ q. linked_holder m s q)
                (λ q. off m 1 (omega arith) q ∙ i.holder m s (λ e. n (last_there (lock (seen ws) m).resource q ∙ e)));
            left = λ m e.
                by_equal (lock (seen ws) m).resource r
                (λ q. absurd (last_real (sym last_here ∙ rw q at e)))
                (λ q. off m 1 (omega arith) q ∙ i.left m (sym (last_there (lock (seen ws) m).resource q) ∙ e));
            last = λ q n.
                by_equal q r
                (λ e. rw e (last_here ∙ d.last))
                (λ e. last_there q e ∙ i.last q (λ f. n (last_there q e ∙ f)));
          }

      pub for_makes : (c : List Bool) → LineMade ws c k ls ls' lasts lasts'
      for_makes c =
          record {
            lined = lines_more;
            here = λ f e. last_real (sym last_here ∙ rw (sym o.is) at e);
            kept = λ q n e. by_equal q r (λ f. n (rw f z)) (λ f. n (sym (last_there q f) ∙ e));
            owners = same 2 (omega arith) (omega arith);
            mates = same 3 (omega arith) (omega arith);
          }

-- a mark for each lock
pub mark_place : {ws : List ℕ} {k : ℕ} → Blocked ws k → k < lock_places
mark_place {ws} {k} b = omega (arith, (blocked_at ws k b).high, (some_sized b.some).few_locks)

pub ruleset for_laws = (rules, mark_place, for_cleared, for_place, for_makes)

-- ---- all lines that are needed

-- at the lock k of the blocked chain: the lines of those before it were linked, unless they are cleared
pub record LinedBefore (ws : List ℕ) (c : List Bool) (ls₀ lasts₀ ls lasts : List ℕ) (k : ℕ) : Type 0 where
  pub walks : Walking ws 1 k
  pub stands : (j : ℕ) → 1 ≤ count j (onward ws 1 k) → 1 ≤ count j (seen ws).blocked
  pub size : length ls ≡ length ls₀
  pub lasts_size : length lasts ≡ length lasts₀
  pub lined : SomeLined ws ls lasts
  pub made : (j : ℕ) → 1 ≤ count j (seen ws).blocked → count j (onward ws 1 k) ≡ 0 → marked c j ≡ false → get_or lasts (lock (seen ws) j).resource 0 ≢ 0
  pub owners : SameLinks 2 ls₀ ls
  pub mates : SameLinks 3 ls₀ ls

pub lines_start : {ws ls lasts : List ℕ} {c : List Bool} {k : ℕ} → Unlined ws c ls lasts → k ≡ word_in ws (of_header 5) → LinedBefore ws c ls lasts ls lasts k
lines_start {ws} {ls} {lasts} {c} {k} u e =
    record {
      walks = blocked_walks u.some e;
      stands = λ j m. rw (blocked_seen ws k u.some e) at m;
      size = refl;
      lasts_size = refl;
      lined =
          record {
            roomy = u.roomy;
            wide = u.wide;
            ahead = λ j m n. absurd (n (u.empty (lock (seen ws) j).resource));
            holder = λ j m n. absurd (n (u.empty (lock (seen ws) j).resource));
            left = λ j z. u.none.each j;
            last = λ r n. absurd (n (u.empty r));
          };
      made = λ j m z. absurd (omega (arith, m, rw (blocked_seen ws k u.some e) at z));
      owners = same_links 2 ls;
      mates = same_links 3 ls;
    }

module _ {ws ls₀ lasts₀ ls lasts : List ℕ} {c : List Bool} {k : ℕ} (i : LinedBefore ws c ls₀ lasts₀ ls lasts k) where
  module _ (n : k ≢ 0) where
    pub lines_blocked : Blocked ws k
    lines_blocked = record { some = i.walks.some; stands = i.stands k (rw (walk_splits ws 1 k i.walks n, count_same) (omega arith)) }

    pub lines_again : {x : ℕ} {ls' lasts' : List ℕ} → LineMade ws c k ls ls' lasts lasts' → length ls' ≡ length ls → length lasts' ≡ length lasts → x ≡ word_in ws (of_lock k 1)
        → LinedBefore ws c ls₀ lasts₀ ls' lasts' x
    lines_again {x} d s t e =
        let rest = onward ws 1 (word_in ws (of_lock k 1)) in
        record {
          walks = walk_on i.walks n e;
          stands = λ j m. i.stands j (rw (walk_splits ws 1 k i.walks n) (omega (arith, rw e at m, count_step j k rest)));
          size = s ∙ i.size;
          lasts_size = t ∙ i.lasts_size;
          lined = d.lined;
          made = λ j m z f.
              by_equal j k
              (λ q. rw q (d.here (rw q at f)))
              (λ o. d.kept _ (i.made j m (rw (walk_splits ws 1 k i.walks n, count_other j k rest o) (rw e at z)) f));
          owners = joined_links i.owners d.owners;
          mates = joined_links i.mates d.mates;
        }

  pub lines_end : k ≡ 0 → LinesLinked ws c ls₀ ls lasts
  lines_end e =
      let all : (j : ℕ) → 1 ≤ count j (seen ws).blocked → marked c j ≡ false → get_or lasts (lock (seen ws) j).resource 0 ≢ 0 =
      λ j m. i.made j m (rw (e, walk_ends ws 1) (count_nil j)) in
      let some = i.walks.some in
      let last = i.lined.last in
      record {
        roomy = i.lined.roomy;
        lined = record { ahead = λ j m f. i.lined.ahead j m (all j m f); holder = λ j m f. i.lined.holder j m (all j m f) };
        made = record { each = all };
        ended =
            record {
              wide = i.lined.wide;
              stands = λ r p h n. rw (last r n) (end_blocked_seen ws some r (λ z. n (last r n ∙ z)));
              last = λ r p h j m f.
                  by_equal (get_or lasts r 0) 0
                  (λ z. z)
                  (λ n. last r n ∙ end_last_seen ws some r j m (f ∙ last r n));
            };
        owners = i.owners;
        mates = i.mates;
      }

pub ruleset lines_laws = (rules, walk_less, lines_start, lines_blocked, lines_again, lines_end)
