-- The functions above the search: whether a lock is on a cycle, the first such, the victim.
use mathlib.Core.Path.{◌≡◌, refl, sym, ap, ◌∙◌}
use mathlib.Core.Logic.{◌≢◌, ◌↔◌}
use mathlib.Core.Bool.{Bool, true, false}
use mathlib.Core.List.{List, [], ◌∷◌}
use Prim.Native.Nat.{ℕ, ◌+◌, ◌*◌, ◌≤◌, ◌<◌, ◌^◌}
use native.Mathlib.Omega.{arith}
use lib.ListN.{get_or, set, length, replicate, length-replicate}
use borrow.Author.Rules.{rules}
use Rattle.std.specs.Prelude.{Option, None, Some as Just}
use Rattle.tables.specs.Lists.{count, first_that}
use Rattle.tables.specs.Numbered.{numbered}
use Rattle.tables.specs.Layout.{of_header, of_lock, locks_in, word_in, onward}
use Rattle.tables.proofs.Cases.{by_cases, clash}
use Rattle.tables.proofs.Counts.{count_same, count_step, get_or_same}
use Rattle.tables.specs.Validity.{Core}
use Rattle.rules.specs.Deadlock.{deadlocked, victim}
use Rattle.rules.specs.Walks.{Walk, step, through}
use Rattle.rules.proofs.DeadlockVictim.{deadlocked_walk}
use Rattle.table_fields.specs.Sizes.{lock_places, resource_places}
use Rattle.table_chains.specs.Promises.{Some, Tells}
use Rattle.table_chains.specs.Walking.{Walking}
use Rattle.table_chains.specs.Marks.{marked}
use Rattle.table_chains.proofs.ChainWalks.{some_sized, walk_splits, walk_ends, walk_found, walk_passed, blocked_walks, walk_less, walk_on}
use Rattle.deadlock_graph.specs.Promises.{seen}
use Rattle.deadlock_graph.specs.Hops.{hops}
use Rattle.deadlock_graph.specs.Links.{link_width, link_of, NoLinks, Linked, holds_there}
use Rattle.deadlock_graph.specs.Marks.{Cleared}
use Rattle.deadlock_graph.proofs.LockWords.{blocked_home}
use Rattle.deadlock_graph.proofs.Marks.{mark_kept, clear_more, join, unmarked_mono}
use Rattle.deadlock_graph.proofs.SameVictim.{alike, victim_alike}
use Rattle.deadlock_graph.proofs.SeenChains.{blocked_seen}
use Rattle.deadlock_lines.specs.Lines.{Unlined, LinesLinked}
use Rattle.deadlock_lines.proofs.SameWalks.{same_walks_seen}
use Rattle.deadlock_owners.specs.OwnerNumbers.{Unnumbered, OwnersNumbered}
use Rattle.deadlock_prune.specs.Clearing.{Clearable, Prunable, Uncleared}
use Rattle.deadlock_prune.specs.FreeLines.{LinesCleared}
use Rattle.deadlock_search.specs.Searches.{Searching, Searched, Tried, Vain, Trying, Ready, Room, Free}
use Rattle.deadlock_search.proofs.OwnerLists.{standing_at, numbered_met}
use Rattle.deadlock_search.proofs.SearchSteps.{more_marks}
use Rattle.deadlock_search.proofs.SearchMarks.{some_left}

-- ---- whether a lock is on a cycle

-- a blocked lock is on a cycle exactly if it hops back to itself
module _ (ws : List ℕ) (s : Some Core ws) (a : ℕ) (stands : 1 ≤ count a (seen ws).blocked) where
  pub cycle_hops : (deadlocked (seen ws) a ≡ true) ↔ Walk (hops (seen ws)) (seen ws).blocked a a
  cycle_hops =
      let d = deadlocked_walk (seen ws) a stands in
      let w = same_walks_seen ws s a a stands in
      (λ h. w.0 (d.0 h), λ h. d.1 (w.1 h))

  no_cycle : (Walk (hops (seen ws)) (seen ws).blocked a a → ⊥) → deadlocked (seen ws) a ≡ false
  no_cycle n = by_cases (deadlocked (seen ws) a) (λ h. absurd (n (cycle_hops.0 h))) (λ h. h)

  -- what a search in vain entered is closed, so that a walk leaves it only by a cleared lock, which would be on a cycle
  module _ {ls hs hs' : List ℕ} {m m' : List Bool} (clear : Cleared (hops (seen ws)) (seen ws).blocked m) (v : Vain ws ls a hs m hs' m') where
    no_walk : (c : ℕ) → 1 ≤ count c (seen ws).blocked → marked m' c ≡ true → Walk (hops (seen ws)) (seen ws).blocked a c → Walk (hops (seen ws)) (seen ws).blocked c a → ⊥
    no_walk c k h u (step _ _ e) =
        by_cases (marked m c)
        (λ q. clear.none c q (join c a c stands (step c a e) u))
        (λ f. clash (marked m' a) ((v.closed c f h).each a e) v.clean)
    no_walk c k h u (through _ d _ l e w) =
        by_cases (marked m c)
        (λ q. clear.none c q (join c a c stands (through c d a l e w) u))
        (λ f. no_walk d l ((v.closed c f h).each d e) (join a c d k u (step c d e)) w)

    vain_free : Tried ws m' a → Walk (hops (seen ws)) (seen ws).blocked a a → ⊥
    vain_free t (step _ _ e) = clash (marked m' a) (t.each a e) v.clean
    vain_free t (through _ d _ l e w) = no_walk d l (t.each d e) (step a d e) w

module _ {ws ls : List ℕ} {a d : ℕ} {fs : List ℕ} {m : List Bool} (i : Trying ws ls a d fs m) where
  abbrev some : Some Core ws
  some = i.ready.linked.some

  pub cycle_place : a < lock_places
  cycle_place = omega (arith, (standing_at some a i.stands).high, (some_sized some).few_locks)

  pub cycle_none : get_or m a false ≡ true → false ≡ deadlocked (seen ws) a
  unfolding marked
  cycle_none h = sym (no_cycle ws some a i.stands (i.ready.cleared.none a h))

  module _ (f : get_or m a false ≡ false) where
    pub cycle_searches : {hs : List ℕ} → hs ≡ fs → Searching ws ls a a d hs m
    unfolding marked
    cycle_searches e =
        record {
          lists = record { linked = i.ready.linked; listed = rw e (i.ready.listed m); wide = i.ready.cleared.wide };
          links = i.ready.linked.each a i.stands f;
          target = i.stands;
          clean = f;
          deep = i.ready.deep;
        }

    pub cycle_known : {hs hs' : List ℕ} {m' : List Bool} {r : Bool} → Searched ws ls a a hs m hs' m' r → r ≡ deadlocked (seen ws) a
    cycle_known {hs} {hs'} {m'} {r} g =
        by_cases r
        (λ e. e ∙ sym ((cycle_hops ws some a i.stands).1 (g.found e)))
        (λ e. e ∙ sym (no_cycle ws some a i.stands (vain_free ws some a i.stands i.ready.cleared (g.vain e) (g.tried e))))

pub ruleset cycle_laws = (rules, cycle_place, cycle_none, cycle_searches, cycle_known)

-- ---- the first on the blocked chain that is

-- at the lock k of the chain, c the cleared locks
pub record Seeking (ws ls : List ℕ) (d : ℕ) (fs hs₀ hs : List ℕ) (k : ℕ) (c : List Bool) : Type 0 where
  pub ready : Ready ws ls d fs c
  pub same : length hs ≡ length fs
  pub size : length hs ≡ length hs₀
  pub walks : Walking ws 1 k
  pub inside : (j : ℕ) → 1 ≤ count j (onward ws 1 k) → 1 ≤ count j (seen ws).blocked
  pub whole : victim (seen ws) ≡ first_that (deadlocked (seen ws)) (onward ws 1 k)

pub seeking_starts : {ws ls : List ℕ} {d k : ℕ} {fs hs : List ℕ} {c : List Bool} → Ready ws ls d fs c → length hs ≡ length fs → k ≡ word_in ws (of_header 5) → Seeking ws ls d fs hs hs k c
unfolding victim
seeking_starts {ws} {ls} {d} {k} r l e =
    let all = blocked_seen ws k r.linked.some e in
    record {
      ready = r;
      same = l;
      size = refl;
      walks = blocked_walks r.linked.some e;
      inside = λ j h. rw all at h;
      whole = rw all;
    }

module _ {ws ls : List ℕ} {d : ℕ} {fs hs₀ hs : List ℕ} {k : ℕ} {c : List Bool} (i : Seeking ws ls d fs hs₀ hs k c) where
  pub seeking_same : length hs ≡ length fs
  seeking_same = i.same

  pub seeking_size : length hs ≡ length hs₀
  seeking_size = i.size

  module _ (n : k ≢ 0) where
    from_here : onward ws 1 k ≡ k ∷ onward ws 1 (word_in ws (of_lock k 1))
    from_here = walk_splits ws 1 k i.walks n

    here : 1 ≤ count k (onward ws 1 k)
    here = rw (from_here, count_same) (omega arith)

    pub seeking_tries : Trying ws ls k d fs c
    seeking_tries =
        record { ready = i.ready; stands = i.inside k here }

    pub seeking_place : k < lock_places
    seeking_place =
        omega (arith, (standing_at i.walks.some k (i.inside k here)).high, (some_sized i.walks.some).few_locks)

    pub seeking_fits : k < 2 ^ 64
    seeking_fits = omega (arith, seeking_place)

    module _ {r : Bool} (e : r ≡ deadlocked (seen ws) k) where
      pub seeking_found : r ≡ true → {x : ℕ} → x ≡ k → Just x ≡ numbered (victim (seen ws))
      seeking_found h q = rw (q, i.whole ∙ walk_found ws 1 k i.walks n (deadlocked (seen ws)) (sym e ∙ h)) (numbered_met k n)

      module _ {x : ℕ} (h : r ≡ false) (q : x ≡ word_in ws (of_lock k 1)) where
        -- a lock that stands behind k on the chain
        later : (j : ℕ) → 1 ≤ count j (onward ws 1 x) → 1 ≤ count j (onward ws 1 k)
        later j l = rw from_here (omega (arith, rw q at l, count_step j k (onward ws 1 (word_in ws (of_lock k 1)))))

        pub seeking_again : {hs' : List ℕ} → length hs' ≡ length hs → Seeking ws ls d fs hs₀ hs' x (set c k true)
        seeking_again l =
            let s = i.walks.some in
            record {
              ready = record {
                linked = more_marks (mark_kept c k (omega (arith, seeking_place, i.ready.cleared.wide))) i.ready.linked;
                listed = i.ready.listed;
                cleared = clear_more c k i.ready.cleared (λ w. clash (deadlocked (seen ws) k) ((cycle_hops ws s k (i.inside k here)).1 w) (sym e ∙ h));
                deep = omega (arith, i.ready.deep, unmarked_mono (seen ws).blocked c (set c k true) (mark_kept c k (omega (arith, seeking_place, i.ready.cleared.wide))));
              };
              same = l ∙ i.same;
              size = l ∙ i.size;
              walks = walk_on i.walks n q;
              inside = λ j m. i.inside j (later j m);
              whole = i.whole ∙ walk_passed ws 1 k i.walks n (deadlocked (seen ws)) (sym e ∙ h) ∙ rw q;
            }

  pub seeking_ends : k ≡ 0 → None ≡ numbered (victim (seen ws))
  unfolding first_that
  seeking_ends e = rw (i.whole, e, walk_ends ws 1)

pub ready_some : {ws ls : List ℕ} {d : ℕ} {fs : List ℕ} {c : List Bool} → Ready ws ls d fs c → Some Core ws
ready_some r = r.linked.some

pub seeking_walks : {ws ls : List ℕ} {d : ℕ} {fs hs₀ hs : List ℕ} {k : ℕ} {c : List Bool} → Seeking ws ls d fs hs₀ hs k c → Walking ws 1 k
seeking_walks i = i.walks

pub ruleset seek_first_laws = (rules, walk_less, ready_some, seeking_walks, seeking_starts, seeking_same, seeking_size, seeking_tries, seeking_place, seeking_fits, seeking_found, seeking_again, seeking_ends)

-- ---- with links and lists

module _ {ws : List ℕ} {m : List Bool} {ls fs hs : List ℕ} (r : Room ws m ls fs hs) where
  none_linked : (f : ℕ) → NoLinks f ls
  unfolding link_of
  none_linked f = record { each = λ k. r.blank (link_width * k + f) }

  pub room_lines : Unlined ws m ls (replicate resource_places 0)
  room_lines =
      record {
        some = r.some;
        roomy = r.roomy;
        none = none_linked 1;
        wide = rw (length-replicate {A = ℕ} resource_places 0) (omega (arith, (some_sized r.some).few_resources));
        empty = get_or_same {A = ℕ} 0 resource_places;
      }

  module _ {ls₁ lasts : List ℕ} (l : LinesLinked ws m ls ls₁ lasts) where
    pub room_owners : Unnumbered ws lasts ls₁ fs hs
    room_owners =
        record {
          some = r.some;
          lines = l.ended.wide;
          rows = l.roomy;
          none = record { each = λ k. l.owners.each k ∙ (none_linked 2).each k };
          wide = r.lists;
          empty = r.empty;
          room = omega (arith, r.lists, r.same);
        }

    module _ {ls₂ fs₁ : List ℕ} (size : length ls₂ ≡ length ls₁) (o : OwnersNumbered ws lasts ls₁ ls₂ fs₁) where
      all_linked : Linked ws ls₂ m
      all_linked =
          record {
            some = r.some;
            roomy = record { rows = rw size l.roomy.rows };
            small = o.numbered.small;
            mated = o.mated;
            each = λ k p f.
                record {
                  stands = p;
                  ahead = o.ahead.each k ∙ l.lined.ahead k p f;
                  holder = o.holder.each k ∙ l.lined.holder k p f;
                  same = λ j b h q. o.numbered.same j b (holds_there k p (l.made.each k p f) h) q;
                  chained = let h = blocked_home ws k (record { some = r.some; stands = p }) in o.chained _ h.0 h.1 (l.made.each k p f);
                };
          }

      pub room_prunes : Prunable ws ls₂ lasts m
      room_prunes = record { linked = all_linked; ended = l.ended; cleared = r.cleared }

      pub room_ready : {m₁ : List Bool} {n : ℕ} → Uncleared ws ls₂ m₁ n → Ready ws ls₂ n fs₁ m₁
      room_ready u = record { linked = u.linked; listed = o.listed; cleared = u.cleared; deep = omega (arith, u.is) }

first_none : (p : ℕ → Bool) (xs : List ℕ) → ((j : ℕ) → 1 ≤ count j xs → p j ≡ false) → first_that p xs ≡ 0
unfolding first_that
first_none p [] h = refl
first_none p (x ∷ xs) h = rw (h x (rw count_same (omega arith)), first_that) (first_none p xs (λ j m. h j (omega (arith, count_step j x xs))))

-- where all blocked locks are cleared, none is on a cycle
all_cleared : {ws : List ℕ} {m : List Bool} → Some Core ws → Cleared (hops (seen ws)) (seen ws).blocked m → ((k : ℕ) → 1 ≤ count k (seen ws).blocked → marked m k ≡ true) → 0 ≡ victim (seen ws)
unfolding victim
all_cleared {ws} {m} s l each = sym (first_none (deadlocked (seen ws)) (seen ws).blocked (λ j c. no_cycle ws s j c (l.none j (each j c))))

pub all_free : {ws ls : List ℕ} {m : List Bool} {n : ℕ} → Uncleared ws ls m n → n ≡ 0 → None ≡ numbered (victim (seen ws))
all_free {ws} {ls} {m} l z =
    ap numbered
    (all_cleared l.linked.some l.cleared
    (λ j c. by_cases (marked m j) (λ k. k) (λ k. absurd (omega (arith, l.is, some_left (seen ws).blocked m j c k)))))

-- ---- the victim

pub none_cleared : {ws : List ℕ} → Some Core ws → Clearable ws (replicate lock_places false)
unfolding marked
none_cleared s =
    record {
      some = s;
      cleared = record { wide = length-replicate lock_places false; none = λ x h. clash (marked (replicate lock_places false) x) h (get_or_same false lock_places x) };
    }

module _ {ws : List ℕ} {m : List Bool} {r : Bool} (s : Some Core ws) (u : LinesCleared ws m r) where
  pub free_tables : {l : ℕ} → l ≡ locks_in ws → (p : ℕ) → l < p → Free p ws m
  free_tables e p h = record { some = s; cleared = u.cleared; few = rw (sym e) h }

  pub free_large : Free lock_places ws m
  free_large = record { some = s; cleared = u.cleared; few = omega (arith, (some_sized s).few_locks) }

pub free_room : {ws : List ℕ} {m : List Bool} (p n : ℕ) → Free p ws m → n ≡ link_width * p → Room ws m (replicate n 0) (replicate p 0) (replicate p 0)
free_room {ws} p n f e =
    record {
      some = f.some;
      cleared = f.cleared;
      roomy = record { rows = rw (length-replicate {A = ℕ} n 0) (omega (arith, f.few, e)) };
      blank = get_or_same {A = ℕ} 0 n;
      lists = rw (length-replicate {A = ℕ} p 0) f.few;
      empty = get_or_same {A = ℕ} 0 p;
      same = refl;
    }

pub victim_told : {ws : List ℕ} {r : Option ℕ} → r ≡ numbered (victim (seen ws)) → Tells Core (λ t. numbered (victim t)) ws r
victim_told {ws} e = record { then = λ t c is. e ∙ ap numbered (victim_alike t (seen ws) (alike t c ws is)) }

pub victim_none : {ws : List ℕ} {m : List Bool} {r : Bool} → Some Core ws → LinesCleared ws m r → r ≡ true → Tells Core (λ t. numbered (victim t)) ws None
victim_none s u e = victim_told (ap numbered (all_cleared s u.cleared (u.all e)))

pub ruleset room_laws = (rules, room_lines, room_owners, room_prunes, room_ready, all_free)

pub ruleset victim_laws = (rules, some_sized, none_cleared, victim_none, victim_told, free_tables, free_large)
