-- The search: a law for each return, turn and call of `follow` and `search`.
use mathlib.Core.Path.{◌≡◌, refl, sym, ap, ◌∙◌}
use mathlib.Core.Logic.{◌≢◌}
use mathlib.Core.Bool.{Bool, true, false, cond}
use mathlib.Core.List.{List}
use Prim.Native.Nat.{ℕ, ◌+◌, ◌-◌, ◌*◌, ◌≤◌, ◌<◌}
use native.Mathlib.Omega.{arith}
use lib.ListN.{get_or, set, length, length-set}
use lib.Dec.{leb}
use borrow.Author.Tests.{leb-true, leb-false}
use Rattle.std.specs.Prelude.{None, Some as Just}
use Rattle.tables.specs.Lists.{count, first}
use Rattle.tables.specs.State.{lock}
use Rattle.tables.specs.Grants.{holders}
use Rattle.tables.specs.Validity.{Core}
use Rattle.tables.proofs.Cases.{by_cases, by_equal, clash}
use Rattle.tables.proofs.Counts.{count_nil}
use Rattle.rules.specs.Deadlock.{in_the_way, obstacles}
use Rattle.rules.specs.Walks.{step, through}
use Rattle.table_fields.specs.Sizes.{lock_places}
use Rattle.table_chains.specs.Promises.{Some}
use Rattle.table_chains.specs.Marks.{marked}
use Rattle.table_chains.proofs.ChainWalks.{some_sized}
use Rattle.deadlock_graph.specs.Promises.{seen}
use Rattle.deadlock_graph.specs.Hops.{nearest, looks}
use Rattle.deadlock_graph.specs.Holders.{holders_since}
use Rattle.deadlock_graph.specs.Links.{link_width, link_of, Looker, Linked}
use Rattle.deadlock_graph.specs.Marks.{unmarked}
use Rattle.deadlock_graph.proofs.Marks.{Keeping, mark_same, mark_other, mark_kept, unmarked_mono, unmarked_less}
use Rattle.deadlock_graph.proofs.NearestLocks.{nearest_blocked_seen}
use Rattle.deadlock_graph.proofs.HolderWalks.{holder_at, obstacle_on, leap_starts, look_ends}
use Rattle.deadlock_graph.proofs.LinkLaws.{row_inside}
use Rattle.deadlock_search.specs.Searches.{Lists, first_of, HasList, Looks, Stop, Sought, SoughtLock, Following, Followed, Searching, Entered, Searched, Vain}
use Rattle.deadlock_search.proofs.OwnerLists.{lists_mark, lists_row, shorter_on, numbered_some, numbered_none}
use Rattle.deadlock_search.proofs.SearchMarks.{some_left, hop_ahead, hop_owner, hops_tried, empty_marked, vain_none, vain_on}

-- the links of those that are left, when more locks have marks
pub more_marks : {ws ls : List ℕ} {m m' : List Bool} → Keeping m m' → Linked ws ls m → Linked ws ls m'
more_marks {ws} {ls} {m} {m'} k l =
    record {
      some = l.some;
      roomy = l.roomy;
      small = l.small;
      mated = l.mated;
      each = λ x b f. l.each x b (by_cases (marked m x) (λ h. clash (marked m' x) (k x h) f) (λ h. h));
    }

-- ---- a step

module _ {ws ls : List ℕ} {b t d : ℕ} {hs : List ℕ} {m : List Bool} (i : Following ws ls b t d hs m) where
  module _ (n : b ≢ 0) where
    pub follow_hit : b ≡ t → Followed ws ls b t hs m hs m true
    follow_hit q =
        record {
          there = λ e. n;
          found = λ e a h. step a t (rw q at h);
          vain = λ e. clash true refl e;
          passed = λ e. clash true refl e;
        }

    pub follow_mark : b < length m
    follow_mark = lists_mark i.lists b (i.stands n)

    pub follow_place : b < lock_places
    follow_place = omega (arith, follow_mark, i.lists.wide)

    pub follow_seen : get_or m b false ≡ true → Followed ws ls b t hs m hs m false
    unfolding marked
    follow_seen g =
        record {
          there = λ e. clash false e refl;
          found = λ e. clash false e refl;
          vain = λ e. vain_none i.lists i.clean;
          passed = λ e o. g;
        }

    module _ (o : b ≢ t) (f : get_or m b false ≡ false) where
      abbrev entered : List Bool
      entered = set m b true

      fewer : unmarked (seen ws).blocked entered < unmarked (seen ws).blocked m
      unfolding marked
      fewer = unmarked_less (seen ws).blocked m entered (mark_kept m b follow_mark) b (i.stands n) f (mark_same m b follow_mark)

      pub follow_depth : 1 ≤ d
      follow_depth = omega (arith, fewer, i.deep)

      still_clean : marked entered t ≡ false
      still_clean = mark_other m b t (λ q. o (sym q)) ∙ i.clean

      entered_lists : Lists ws ls hs entered
      entered_lists =
          let old = i.lists.listed in
          record {
            linked = more_marks (mark_kept m b follow_mark) i.lists.linked;
            wide = length-set m b true ∙ i.lists.wide;
            listed = record {
              wide = old.wide;
              stands = old.stands;
              same = old.same;
              each = λ y k g. old.each y k (by_cases (marked m y) (λ h. clash (marked entered y) (mark_kept m b follow_mark y h) g) (λ h. h));
            };
          }

      pub follow_searches : Searching ws ls b t (d - 1) hs entered
      unfolding marked
      follow_searches =
          record { lists = entered_lists; links = i.lists.linked.each b (i.stands n) f; target = i.target; clean = still_clean; deep = omega (arith, fewer, i.deep) }

      pub follow_deeper : {hs' : List ℕ} {m' : List Bool} {r : Bool} → Searched ws ls b t hs entered hs' m' r → Followed ws ls b t hs m hs' m' r
      follow_deeper {hs'} {m'} {r} s =
          record {
            there = λ e. n;
            found = λ e a h. through a b t (i.stands n) h (s.found e);
            vain = λ e.
                let v = s.vain e in
                record {
                  lists = v.lists;
                  shorter = v.shorter;
                  clean = v.clean;
                  kept = λ x h. v.kept x (mark_kept m b follow_mark x h);
                  closed = λ x g h.
                      by_equal x b
                      (λ q. rw q (s.tried e))
                      (λ q. v.closed x (mark_other m b x q ∙ g) h);
                };
            passed = λ e q. (s.vain e).kept b (mark_same m b follow_mark);
          }

-- ---- from a lock on

-- at the holder `at`, or at the end, which is 0: the lock right ahead has been entered, and so have the blocked locks of the owners passed
pub record Turning (ws ls : List ℕ) (from t d : ℕ) (hs₀ : List ℕ) (m₀ : List Bool) (hs : List ℕ) (m : List Bool) (at : ℕ) : Type 0 where
  pub links : Looker ws ls from
  pub vain : Vain ws ls t hs₀ m₀ hs m
  pub target : 1 ≤ count t (seen ws).blocked
  pub deep : unmarked (seen ws).blocked m ≤ d
  pub front : nearest (seen ws) from ≢ 0 → marked m (nearest (seen ws) from) ≡ true
  pub look : Looks ws ls from at hs m
  pub looker : at ≢ 0 → looks (seen ws) from ≡ true
  pub passed :
      looks (seen ws) from ≡ true → (j : ℕ) → 1 ≤ count j (holders (seen ws) (lock (seen ws) from).resource) →
      count j (holders_since ws (lock (seen ws) from).resource at) ≡ 0 → in_the_way (seen ws) from j ≡ true → first_of ls hs j ≡ 0

module _ {ws ls : List ℕ} {from t d : ℕ} {hs : List ℕ} {m : List Bool} (s : Searching ws ls from t d hs m) where
  abbrev some : Some Core ws
  some = s.lists.linked.some

  pub search_deep : d ≡ 0 → ⊥
  search_deep e = omega (arith, s.deep, some_left (seen ws).blocked m t s.target s.clean)

  pub search_row : link_width * from + 0 < length ls
  search_row = lists_row s.lists from 0 s.links.stands (omega arith)

  module _ {x : ℕ} (e : x ≡ link_of ls from 0) where
    x_is : x ≡ nearest (seen ws) from
    x_is = e ∙ s.links.ahead

    pub search_follows : Following ws ls x t d hs m
    search_follows =
        record {
          lists = s.lists;
          stands = λ n. rw x_is (nearest_blocked_seen ws from (record { some = some; stands = s.links.stands }) (λ z. n (x_is ∙ z))).stands;
          target = s.target;
          clean = s.clean;
          deep = s.deep;
        }

    module _ {hs' : List ℕ} {m' : List Bool} {r : Bool} (f : Followed ws ls x t hs m hs' m' r) where
      pub search_ahead : r ≡ true → Searched ws ls from t hs m hs' m' true
      search_ahead h =
          record {
            found = λ q. f.found h from (rw x_is (hop_ahead ws some from s.links.stands (λ z. f.there h (x_is ∙ z))));
            vain = λ q. clash true refl q;
            tried = λ q. clash true refl q;
          }

      module _ (h : r ≡ false) where
        pub search_enters : Entered ws ls from t d hs' m'
        search_enters =
            let v = f.vain h in
            record {
              searching = record {
                lists = v.lists;
                links = s.links;
                target = s.target;
                clean = v.clean;
                deep = omega (arith, s.deep, unmarked_mono (seen ws).blocked m m' v.kept);
              };
              front = λ n. rw (sym x_is) (f.passed h (λ z. n (sym x_is ∙ z)));
            }

        pub search_whole : {hs'' : List ℕ} {m'' : List Bool} {q : Bool} → Searched ws ls from t hs' m' hs'' m'' q → Searched ws ls from t hs m hs'' m'' q
        search_whole g = record { found = g.found; vain = λ q. vain_on (f.vain h) (g.vain q); tried = g.tried }

-- ---- the owners in its way

module _ {ws ls : List ℕ} {from t d : ℕ} {hs : List ℕ} {m : List Bool} (s : Entered ws ls from t d hs m) where
  abbrev some_words : Some Core ws
  some_words = s.searching.lists.linked.some

  pub owners_row : link_width * from + 1 < length ls
  owners_row = lists_row s.searching.lists from 1 s.searching.links.stands (omega arith)

  module _ {k : ℕ} (ek : k ≡ link_of ls from 1) where
    k_is : k ≡ cond (looks (seen ws) from) (first (obstacles (seen ws) from)) 0
    k_is = ek ∙ s.searching.links.holder

    pub owners_look : Looks ws ls from k hs m
    owners_look =
        record {
          lists = s.searching.lists;
          stands = s.searching.links.stands;
          leaping = leap_starts some_words s.searching.links ek;
        }

    pub turning_starts : Turning ws ls from t d hs m hs m k
    turning_starts =
        record {
          links = s.searching.links;
          vain = vain_none s.searching.lists s.searching.clean;
          target = s.searching.target;
          deep = s.searching.deep;
          front = s.front;
          look = owners_look;
          looker = λ n. by_cases (looks (seen ws) from) (λ l. l) (λ l. absurd (n (k_is ∙ rw l)));
          passed = λ l j p z w. absurd (omega (arith, obstacle_on ws from k some_words j (k_is ∙ rw l) p w, z));
        }

-- the same at the next stop, or at the end
pub record Stopping (ws ls : List ℕ) (from t d : ℕ) (hs₀ : List ℕ) (m₀ : List Bool) (hs : List ℕ) (m : List Bool) (at : ℕ) : Type 0 where
  pub turning : Turning ws ls from t d hs₀ m₀ hs m at
  pub stop : at ≢ 0 → Stop ws ls from at hs m

module _ {ws ls : List ℕ} {from t d : ℕ} {hs₀ : List ℕ} {m₀ : List Bool} {hs : List ℕ} {m : List Bool} {at : ℕ} (i : Turning ws ls from t d hs₀ m₀ hs m at) where
  goes_on : {hs' : List ℕ} {k : ℕ} → Sought ws ls from at hs m hs' k → Stopping ws ls from t d hs₀ m₀ hs' m k
  unfolding first_of
  goes_on {hs'} {k} g =
      let v = i.vain in
      record {
        turning = record {
          links = i.links;
          vain = record { lists = g.looks.lists; shorter = shorter_on v.shorter g.shorter; clean = v.clean; kept = v.kept; closed = v.closed };
          target = i.target;
          deep = i.deep;
          front = i.front;
          look = g.looks;
          looker = λ q. i.looker (λ z. q (g.none z));
          passed = λ l j p z w.
              by_cases (leb 1 (count j (holders_since ws (lock (seen ws) from).resource at)))
              (λ c. g.passed j (leb-true 1 _ c) z w)
              (λ c. g.shorter.spent (link_of ls j 2) (i.passed l j p (omega (arith, leb-false 1 (count j (holders_since ws (lock (seen ws) from).resource at)) c)) w));
        };
        stop = g.stop;
      }

  -- the stop j was found, or none was
  pub turn_stops : {hs' : List ℕ} {j : ℕ} → SoughtLock ws ls from at hs m hs' (Just j) → Stopping ws ls from t d hs₀ m₀ hs' m j
  turn_stops {hs'} {j} g = rw (numbered_some g.lock j g.is).0 at (goes_on g.sought)

  pub turn_ends : {hs' : List ℕ} → SoughtLock ws ls from at hs m hs' None → Stopping ws ls from t d hs₀ m₀ hs' m 0
  turn_ends {hs'} g = rw (numbered_none g.lock g.is) at (goes_on g.sought)

pub stop_some : {ws ls : List ℕ} {a at : ℕ} {hs hs' : List ℕ} {m : List Bool} {j : ℕ} → SoughtLock ws ls a at hs m hs' (Just j) → j ≢ 0
stop_some {ws} {ls} {a} {at} {hs} {hs'} {m} {j} g = (numbered_some g.lock j g.is).1

module _ {ws ls : List ℕ} {from t d : ℕ} {hs₀ : List ℕ} {m₀ : List Bool} {hs : List ℕ} {m : List Bool} {at : ℕ} (s : Stopping ws ls from t d hs₀ m₀ hs m at) where
  abbrev i : Turning ws ls from t d hs₀ m₀ hs m at
  i = s.turning

  module _ (n : at ≢ 0) where
    holder : 1 ≤ count at (holders (seen ws) (lock (seen ws) from).resource)
    holder = i.look.leaping.looking.stands n

    pub turn_list : HasList ls at hs
    turn_list =
        let l = i.vain.lists in
        let small = l.linked.small at in
        record {
          row = row_inside ws ls at 2 l.linked.roomy (holder_at ws l.linked.some _ at holder).high (omega arith);
          place = omega (arith, small, l.listed.wide);
          few = omega (arith, small, (some_sized l.linked.some).few_locks);
        }

    module _ {b : ℕ} (e : b ≡ first_of ls hs at) where
      b_some : b ≢ 0
      b_some z = (s.stop n).some (sym e ∙ z)

      b_first : get_or hs (link_of ls at 2) 0 ≡ b
      unfolding first_of
      b_first = sym e

      b_stands : 1 ≤ count b (seen ws).blocked
      b_stands = rw b_first at (i.vain.lists.listed.stands (link_of ls at 2) (λ z. b_some (sym b_first ∙ z)))

      pub turn_follows : Following ws ls b t d hs m
      turn_follows = record { lists = i.vain.lists; stands = λ q. b_stands; target = i.target; clean = i.vain.clean; deep = i.deep }

      module _ {hs' : List ℕ} {m' : List Bool} {r : Bool} (f : Followed ws ls b t hs m hs' m' r) where
        pub turn_found : r ≡ true → Searched ws ls from t hs₀ m₀ hs' m' true
        turn_found h =
            let own : link_of ls at 2 ≡ link_of ls b 2 = sym (rw b_first at (i.vain.lists.listed.same (link_of ls at 2) (λ z. b_some (sym b_first ∙ z)))) in
            record {
              found = λ q.
                  f.found h from
                  (hop_owner ws i.vain.lists.linked.some from i.look.stands at b (i.looker n) holder (s.stop n).bars b_stands
                  ((i.links.same at b holder b_stands).0 own));
              vain = λ q. clash true refl q;
              tried = λ q. clash true refl q;
            }

        module _ (h : r ≡ false) where
          now_vain : Vain ws ls t hs₀ m₀ hs' m'
          now_vain = vain_on i.vain (f.vain h)

          pub turn_less : unmarked (seen ws).blocked m' < unmarked (seen ws).blocked m
          turn_less =
              unmarked_less (seen ws).blocked m m' (f.vain h).kept b b_stands (ap (marked m) e ∙ (s.stop n).fresh) (f.passed h b_some)

          pub turn_again : Turning ws ls from t d hs₀ m₀ hs' m' at
          unfolding first_of
          turn_again =
              record {
                links = i.links;
                vain = now_vain;
                target = i.target;
                deep = omega (arith, i.deep, turn_less);
                front = λ q. (f.vain h).kept (nearest (seen ws) from) (i.front q);
                look = record { lists = now_vain.lists; stands = i.look.stands; leaping = i.look.leaping };
                looker = i.looker;
                passed = λ l j p z w. (f.vain h).shorter.spent (link_of ls j 2) (i.passed l j p z w);
              }

  pub turning_done : at ≡ 0 → Searched ws ls from t hs₀ m₀ hs m false
  turning_done z =
      let some = i.vain.lists.linked.some in
      record {
        found = λ q. clash false q refl;
        vain = λ q. i.vain;
        tried = λ q.
            hops_tried ws some from i.look.stands m i.front
            (λ l j b p w k e.
            empty_marked i.vain.lists j b ((i.links.same j b p k).1 e)
            (i.passed l j p (rw (look_ends ws (lock (seen ws) from).resource at some z) (count_nil j)) w)
            k);
      }
