-- The owners' lists of blocked locks, from whose fronts marked locks go: a law for each return, turn and call of `stops` and `seek`.
use mathlib.Core.Path.{◌≡◌, refl, sym, ap, ◌∙◌}
use mathlib.Core.Logic.{◌≢◌}
use mathlib.Core.Bool.{Bool, true, false, not}
use mathlib.Core.List.{List}
use Prim.Native.Nat.{ℕ, zero, suc, ◌+◌, ◌*◌, ◌≤◌, ◌<◌, ◌^◌}
use native.Mathlib.Omega.{arith}
use lib.ListN.{get_or, set, length, length-set}
use lib.Seq.{get_or-set_same, get_or-set_other}
use borrow.Author.Tests.{not-true, not-false}
use borrow.Author.Rules.{rules}
use Rattle.std.specs.Prelude.{None, Some as Just}
use Rattle.tables.specs.Lists.{count}
use Rattle.tables.specs.Numbered.{numbered}
use Rattle.tables.specs.State.{lock}
use Rattle.tables.specs.Validity.{Core}
use Rattle.tables.proofs.Cases.{by_equal, clash}
use Rattle.rules.specs.Deadlock.{in_the_way}
use Rattle.table_fields.specs.Sizes.{lock_places}
use Rattle.table_chains.specs.Promises.{Some}
use Rattle.table_chains.specs.Walking.{At}
use Rattle.table_chains.specs.Marks.{marked}
use Rattle.table_chains.proofs.ChainWalks.{some_sized}
use Rattle.deadlock_graph.specs.Promises.{seen}
use Rattle.deadlock_graph.specs.Holders.{holders_since}
use Rattle.deadlock_graph.specs.Links.{link_width, link_of, mate, On}
use Rattle.deadlock_graph.proofs.LockWords.{blocked_at}
use Rattle.deadlock_graph.proofs.HolderWalks.{bar_strong, leap_at, leap_on, leap_less, leap_passed}
use Rattle.deadlock_graph.proofs.LinkLaws.{row_inside, on_past, turns, turns_less}
use Rattle.deadlock_search.specs.Searches.{Lists, HasList, OnList, FirstUnmarked, first_of, Shorter, Looks, Looked, SoughtLock}

-- ---- the number of a lock, or none

pub numbered_met : (k : ℕ) → k ≢ 0 → Just k ≡ numbered k
numbered_met zero n = absurd (n refl)
numbered_met (suc k) n = refl

pub numbered_some : (k x : ℕ) → Just x ≡ numbered k → (k ≡ x) × (x ≢ 0)
numbered_some zero x e = absurd (cc)
numbered_some (suc k) x e = let same : suc k ≡ x = cc in (same, λ z. absurd (omega (arith, same, z)))

pub numbered_none : (k : ℕ) → None ≡ numbered k → k ≡ 0
numbered_none zero e = refl
numbered_none (suc k) e = absurd (cc)

-- ---- lists

pub standing_at : {ws : List ℕ} → Some Core ws → (k : ℕ) → 1 ≤ count k (seen ws).blocked → At ws k
standing_at {ws} s k m = blocked_at ws k (record { some = s; stands = m })

module _ {ws ls hs : List ℕ} {m : List Bool} (l : Lists ws ls hs m) where
  abbrev s : Some Core ws
  s = l.linked.some

  -- a lock that is blocked has a mark's place, and a row of links
  pub lists_mark : (k : ℕ) → 1 ≤ count k (seen ws).blocked → k < length m
  lists_mark k b = omega (arith, (standing_at s k b).high, (some_sized s).few_locks, l.wide)

  pub lists_row : (k f : ℕ) → 1 ≤ count k (seen ws).blocked → f < link_width → link_width * k + f < length ls
  lists_row k f b p = row_inside ws ls k f l.linked.roomy (standing_at s k b).high p

  pub lists_head : (j : ℕ) → link_of ls j 2 < length hs
  lists_head j = omega (arith, l.linked.small j, l.listed.wide)

-- ---- one list

-- at the lock b: those that were passed have marks
pub record Popping (ws ls : List ℕ) (m : List Bool) (first b : ℕ) : Type 0 where
  pub at : OnList ws ls m b
  pub number : b ≢ 0 → link_of ls b 2 ≡ link_of ls first 2
  pub spent : first ≡ 0 → b ≡ 0
  pub rest : (y : ℕ) → marked m y ≡ false → On (mate ls) first y → On (mate ls) b y

pub popping_starts : {ws ls : List ℕ} {m : List Bool} {b : ℕ} → OnList ws ls m b → Popping ws ls m b b
popping_starts l = record { at = l; number = λ n. refl; spent = λ z. z; rest = λ y f o. o }

module _ {ws ls : List ℕ} {m : List Bool} {first b : ℕ} (i : Popping ws ls m first b) where
  module _ (n : b ≢ 0) where
    stands_at : At ws b
    stands_at = standing_at i.at.linked.some b (i.at.stands n)

    pub popping_mark : b < lock_places
    popping_mark = omega (arith, stands_at.high, (some_sized i.at.linked.some).few_locks)

    pub popping_fits : b < 2 ^ 64
    popping_fits = omega (arith, popping_mark)

    pub popping_row : link_width * b + 3 < length ls
    popping_row = row_inside ws ls b 3 i.at.linked.roomy stands_at.high (omega arith)

    pub popping_found : not (get_or m b false) ≡ true → FirstUnmarked ws ls m first b
    unfolding marked
    popping_found f = record { stands = i.at.stands; number = i.number; spent = i.spent; rest = i.rest; fresh = λ o. not-true (get_or m b false) f }

    module _ {x : ℕ} (e : x ≡ link_of ls b 3) where
      pub popping_less : turns ws x < turns ws b
      popping_less = turns_less ws x b n (λ o. rw e (i.at.linked.mated.falls b (i.at.stands n) (λ z. o (e ∙ z))))

      pub popping_again : not (get_or m b false) ≡ false → Popping ws ls m first x
      unfolding marked
      popping_again f =
          let mates = i.at.linked.mated in
          let g : get_or m b false ≡ true = not-false (get_or m b false) f in
          record {
            at = record { linked = i.at.linked; wide = i.at.wide; stands = λ o. rw e (mates.stands b (i.at.stands n) (λ z. o (e ∙ z))) };
            number = λ o. rw e (mates.same b (i.at.stands n) (λ z. o (e ∙ z))) ∙ i.number n;
            spent = λ z. absurd (n (i.spent z));
            rest = λ y k w. rw e (on_past (mate ls) b y (λ q. clash (get_or m b false) g (rw q at k)) (i.rest y k w));
          }

  pub popping_ends : b ≡ 0 → FirstUnmarked ws ls m first 0
  popping_ends e =
      rw (sym e)
      (record { stands = i.at.stands; number = i.number; spent = i.spent; rest = i.rest; fresh = λ n. absurd (n e) })

pub ruleset list_laws = (rules, popping_starts, popping_mark, popping_fits, popping_row, popping_found, popping_less, popping_again, popping_ends)

-- ---- one holder

module _ {ls : List ℕ} {j : ℕ} {hs : List ℕ} (l : HasList ls j hs) where
  pub has_place : {o : ℕ} → o ≡ link_of ls j 2 → o < length hs
  has_place e = rw e l.place

  pub has_fits : {o : ℕ} → o ≡ link_of ls j 2 → o < 2 ^ 64
  has_fits e = rw e (omega (arith, l.few))

  pub has_first : {o : ℕ} → o ≡ link_of ls j 2 → get_or hs o 0 ≡ first_of ls hs j
  unfolding first_of
  has_first e = rw e

pub ruleset first_laws = (rules, has_place, has_fits, has_first)

module _ {ws ls : List ℕ} {a j : ℕ} {hs : List ℕ} {m : List Bool} (l : Looks ws ls a j hs m) where
  pub stops_at : At ws a
  stops_at = standing_at l.lists.linked.some a l.stands

  module _ (n : j ≢ 0) where
    pub stops_holder : At ws j
    stops_holder = leap_at l.leaping n

    pub stops_row : link_width * j + 2 < length ls
    stops_row = row_inside ws ls j 2 l.lists.linked.roomy stops_holder.high (omega arith)

    pub stops_has : HasList ls j hs
    stops_has =
        let small = l.lists.linked.small j in
        record { row = stops_row; place = lists_head l.lists j; few = omega (arith, small, (some_sized l.lists.linked.some).few_locks) }

  -- there is no lock on the list
  pub stops_empty : {x : ℕ} → x ≡ first_of ls hs j → x ≡ 0 → Looked ws ls a j hs m hs false
  stops_empty e z =
      record {
        lists = l.lists;
        shorter = record { size = refl; spent = λ o w. w };
        stop = λ q. clash false q refl;
        none = λ q w. sym e ∙ z;
      }

  pub stops_list : {x : ℕ} → x ≡ first_of ls hs j → OnList ws ls m x
  unfolding first_of
  stops_list e = rw e (record { linked = l.lists.linked; wide = l.lists.wide; stands = l.lists.listed.stands (link_of ls j 2) })

  module _ {o : ℕ} (q : o ≡ link_of ls j 2) where
    pub stops_head : o < length hs
    stops_head = rw q (lists_head l.lists j)

    pub stops_fits : o < 2 ^ 64
    stops_fits = rw q (omega (arith, l.lists.linked.small j, (some_sized l.lists.linked.some).few_locks))

    -- b becomes the first on the list
    module _ {x b : ℕ} (ex : x ≡ first_of ls hs j) (ux : FirstUnmarked ws ls m x b) where
      u : FirstUnmarked ws ls m (get_or hs o 0) b
      unfolding first_of
      u = rw q (rw ex at ux)

      abbrev later : List ℕ
      later = set hs o b

      first_later : first_of ls later j ≡ b
      unfolding first_of
      first_later = rw (sym q) (get_or-set_same hs o b 0 stops_head)

      -- b has the owner's number too
      own : b ≢ 0 → link_of ls b 2 ≡ o
      own n = u.number n ∙ l.lists.listed.same o (λ z. n (u.spent z))

      later_lists : Lists ws ls later m
      later_lists =
          let old = l.lists.listed in
          record {
            linked = l.lists.linked;
            wide = l.lists.wide;
            listed = record {
              wide = rw (length-set hs o b) old.wide;
              stands = λ p. by_equal p o
                  (λ e. rw (e, get_or-set_same hs o b 0 stops_head) u.stands)
                  (λ n. rw (get_or-set_other hs o p b 0 n) (old.stands p));
              same = λ p. by_equal p o
                  (λ e. rw (e, get_or-set_same hs o b 0 stops_head) own)
                  (λ n. rw (get_or-set_other hs o p b 0 n) (old.same p));
              each = λ y k f. by_equal (link_of ls y 2) o
                  (λ e. rw (e, get_or-set_same hs o b 0 stops_head) (u.rest y f (rw e at (old.each y k f))))
                  (λ n. rw (get_or-set_other hs o (link_of ls y 2) b 0 n) (old.each y k f));
            };
          }

      later_shorter : Shorter hs later
      later_shorter =
          record {
            size = length-set hs o b;
            spent = λ p z. by_equal p o
                (λ e. rw (e, get_or-set_same hs o b 0 stops_head) (u.spent (rw e at z)))
                (λ n. get_or-set_other hs o p b 0 n ∙ z);
          }

      pub stops_spent : b ≡ 0 → Looked ws ls a j hs m later false
      stops_spent z =
          record {
            lists = later_lists;
            shorter = later_shorter;
            stop = λ t. clash false t refl;
            none = λ t w. first_later ∙ z;
          }

      pub stops_known : {r : Bool} → b ≢ 0 → r ≡ in_the_way (seen ws) a j → Looked ws ls a j hs m later r
      stops_known {r} n e =
          record {
            lists = later_lists;
            shorter = later_shorter;
            stop = λ t. record { bars = sym e ∙ t; some = λ z. n (sym first_later ∙ z); fresh = ap (marked m) first_later ∙ u.fresh n };
            none = λ t w. clash r (e ∙ w) t;
          }

pub ruleset stops_laws = (rules, stops_at, stops_holder, stops_row, stops_has, stops_empty, stops_head, stops_fits, stops_list, stops_spent, stops_known)

-- ---- the holders, one after the other

pub shorter_on : {hs hs' hs'' : List ℕ} → Shorter hs hs' → Shorter hs' hs'' → Shorter hs hs''
shorter_on p q = record { size = q.size ∙ p.size; spent = λ o z. q.spent o (p.spent o z) }

-- at the holder k, which holds more than NL: those that were passed, from `at` on, are no stops
pub record Seeking (ws ls : List ℕ) (a at : ℕ) (hs₀ hs : List ℕ) (m : List Bool) (k : ℕ) : Type 0 where
  pub looks : Looks ws ls a k hs m
  pub shorter : Shorter hs₀ hs
  pub none : at ≡ 0 → k ≡ 0
  pub passed :
      (j : ℕ) → 1 ≤ count j (holders_since ws (lock (seen ws) a).resource at) → count j (holders_since ws (lock (seen ws) a).resource k) ≡ 0
      → in_the_way (seen ws) a j ≡ true → first_of ls hs j ≡ 0

pub seek_starts : {ws ls : List ℕ} {a at : ℕ} {hs : List ℕ} {m : List Bool} → Looks ws ls a at hs m → Seeking ws ls a at hs hs m at
seek_starts l = record { looks = l; shorter = record { size = refl; spent = λ o z. z }; none = λ z. z; passed = λ j p z. absurd (omega (arith, p, z)) }

module _ {ws ls : List ℕ} {a at : ℕ} {hs₀ hs : List ℕ} {m : List Bool} {k : ℕ} (i : Seeking ws ls a at hs₀ hs m k) where
  pub seek_size : length hs ≡ length hs₀
  seek_size = i.shorter.size

  module _ (n : k ≢ 0) where
    pub seek_row : link_width * k + 4 < length ls
    seek_row = row_inside ws ls k 4 i.looks.lists.linked.roomy (leap_at i.looks.leaping n).high (omega arith)

    pub seek_less : {x : ℕ} → x ≡ link_of ls k 4 →
        length (holders_since ws (lock (seen ws) a).resource x) < length (holders_since ws (lock (seen ws) a).resource k)
    seek_less e = leap_less i.looks.leaping n e

    module _ {hs' : List ℕ} {r : Bool} (l : Looked ws ls a k hs m hs' r) where
      -- what was empty still is
      still : (j : ℕ) → first_of ls hs j ≡ 0 → first_of ls hs' j ≡ 0
      unfolding first_of
      still j z = l.shorter.spent (link_of ls j 2) z

      pub seek_found : r ≡ true → SoughtLock ws ls a at hs₀ m hs' (Just k)
      seek_found h =
          record {
            lock = k;
            is = numbered_met k n;
            sought = record {
              looks = record { lists = l.lists; stands = i.looks.stands; leaping = i.looks.leaping };
              shorter = shorter_on i.shorter l.shorter;
              stop = λ o. l.stop h;
              none = i.none;
              passed = λ j p z w. still j (i.passed j p z w);
            };
          }

      pub seek_again : {x : ℕ} → r ≡ false → x ≡ link_of ls k 4 → Seeking ws ls a at hs₀ hs' m x
      seek_again {x} h e =
          record {
            looks = record { lists = l.lists; stands = i.looks.stands; leaping = leap_on i.looks.leaping n e };
            shorter = shorter_on i.shorter l.shorter;
            none = λ z. absurd (n (i.none z));
            passed = λ j p z w.
                by_equal j k
                (λ q. rw q (l.none h (rw q at w)))
                (λ o. still j (i.passed j p (leap_passed i.looks.leaping n e j o (bar_strong ws a j l.lists.linked.some w) z) w));
          }

  pub seek_ends : k ≡ 0 → SoughtLock ws ls a at hs₀ m hs None
  seek_ends e =
      record {
        lock = k;
        is = rw e;
        sought = record {
          looks = i.looks;
          shorter = i.shorter;
          stop = λ n. absurd (n e);
          none = i.none;
          passed = i.passed;
        };
      }

pub ruleset seek_laws = (rules, seek_starts, seek_size, seek_row, seek_less, seek_found, seek_again, seek_ends)
