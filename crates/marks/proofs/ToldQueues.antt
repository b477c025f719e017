-- Telling the locks along a queue, and then all obstacles, by the words.
use mathlib.Core.Path.{◌≡◌, refl, sym, ◌∙◌, ap}
use mathlib.Core.Logic.{◌≢◌}
use mathlib.Core.Bool.{Bool, true, false, not}
use mathlib.Core.List.{List, [], ◌∷◌, ◌++◌, append_assoc, nil≢cons, head-eq_of_cons-eq, tail-eq_of_cons-eq}
use Prim.Native.Nat.{ℕ, ◌<◌, ◌≤◌}
use native.Mathlib.Omega.{arith}
use lib.ListN.{length}
use borrow.Author.Rules.{rules}
use borrow.Author.Tests.{not-true, not-false}
use Rattle.tables.specs.declared.Lock.{Lock}
use Rattle.tables.specs.Lists.{within, count, first}
use Rattle.tables.specs.State.{Tables, lock, resource, Queue, grants, converts, queue, queue_of}
use Rattle.tables.specs.Layout.{of_resource, of_lock, queue_head, words, resources_in, locks_in, word_in, onward, read_lock}
use Rattle.tables.specs.Grants.{holders}
use Rattle.tables.specs.Validity.{Core}
use Rattle.tables.proofs.Counts.{count_same, count_append, within_le}
use Rattle.tables.proofs.Valid.{used_within}
use Rattle.tables.proofs.ChainMembers.{blocked_place, in_holder}
use Rattle.rules.specs.Deadlock.{in_the_way, obstacles}
use Rattle.rules.specs.Calls.{mark_lock, tell_obstacles}
use Rattle.rules.proofs.NoticesKeepSound.{holder_stands}
use Rattle.table_fields.specs.Sizes.{Sized, Kept}
use Rattle.table_fields.proofs.Laws.{kept_all}
use Rattle.table_fields.proofs.StateWords.{core_sized, resources_is, lock_record, lock_low, lock_high}
use Rattle.table_chains.specs.Promises.{Some, Turns, Resourced}
use Rattle.table_chains.specs.Walking.{At, Walking}
use Rattle.table_chains.proofs.ChainWalks.{walk_ends, walk_splits, walk_goes, walk_on, walk_low, walk_high, queue_present, chain_begins, queue_onward}
use Rattle.table_chains.proofs.ChainCells.{kept_trans}
use Rattle.deadlock_graph.specs.Promises.{seen}
use Rattle.deadlock_graph.proofs.SameVictim.{alike}
use Rattle.deadlock_graph.proofs.LineAhead.{line_has}
use Rattle.marks.specs.Telling.{tell, tell_each, notices_end}
use Rattle.marks.specs.Promises.{Markable, Tellable, Heeds, Hearing, Heard, Begun}
use Rattle.marks.proofs.MarkedWords.{kept_length}
use Rattle.marks.proofs.ToldLocks.{told_one, told_none, way_markable, tell_resource, heeds_tellable, tell_heeds, each_marks, each_append, each_resource, each_heeds}

-- tell
module _ (k j : ℕ) (a : List ℕ) where
  module _ (s : Some (Tellable k j) a) where
    stands : (i : ℕ) → within (length s.state.locks) i ≡ true → At a i
    stands i w =
        record {
          some = record { state = s.state; good = s.good.core; is = s.is };
          low = lock_low s.state a s.is i w;
          high = lock_high s.state a s.is i w;
        }

    pub tell_waits : At a k
    tell_waits = stands k s.good.in_range

    pub tell_holds : At a j
    tell_holds = stands j (holder_stands s.state j s.good.holder).0

    pub tell_sized : Sized a
    tell_sized = core_sized s.state a s.is s.good.core

    pub tell_low : 1 ≤ k
    tell_low = tell_waits.low

    pub tell_high : k ≤ locks_in a
    tell_high = tell_waits.high

  module _ (x : Bool) (ex : x ≡ in_the_way (seen a) k j) where
    way_is : (t : Tables) → Core t → a ≡ words t → x ≡ in_the_way t k j
    unfolding in_the_way
    way_is t core is = let same = alike t core a is in ex ∙ rw (same.locks j, same.locks k)

    pub tell_none : not x ≡ true → Turns (Tellable k j) (tell k j) a a
    tell_none h = record { then = λ t p is. is ∙ ap words (sym (told_none k j t (sym (way_is t p.core is) ∙ not-true x h))) }

    module _ (h : not x ≡ false) (m : ℕ) (em : m ≡ word_in a (of_lock k 7)) where
      asked_is : (t : Tables) → Tellable k j t → a ≡ words t → m ≡ (lock t k).asked
      unfolding read_lock
      asked_is t p is =
          let w = within_le (length t.locks) k p.in_range in
          em ∙ ap (λ (l : Lock). l.asked) (lock_record t a is k w.0 w.1)

      marks_at : (t : Tables) → Tellable k j t → a ≡ words t → Markable j m t
      marks_at t p is = rw (asked_is t p is) (way_markable k j t p (sym (way_is t p.core is) ∙ not-false x h))

      pub tell_marks : Some (Tellable k j) a → Some (Markable j m) a
      tell_marks s = record { state = s.state; good = marks_at s.state s.good s.is; is = s.is }

      pub tell_told : (b : List ℕ) → Turns (Markable j m) (mark_lock m j) a b → Turns (Tellable k j) (tell k j) a b
      tell_told b made = record {
        then = λ t p is.
            made.then t (marks_at t p is) is
            ∙ ap words (ap (λ (z : ℕ). mark_lock z j t) (asked_is t p is) ∙ sym (told_one k j t (sym (way_is t p.core is) ∙ not-false x h)));
      }

pub ruleset tell_laws = (rules, tell_waits, tell_holds, tell_sized, tell_low, tell_high, tell_none, tell_marks, tell_told)

-- A WALK that meets the locks of a list: it comes to any of them, and then meets the rest
heads : (ws : List ℕ) (f h : ℕ) → Walking ws f h → (y : ℕ) (ys : List ℕ) → onward ws f h ≡ y ∷ ys → h ≢ 0
heads ws f h w y ys e z = absurd (nil≢cons (sym (walk_ends ws f) ∙ rw z at e))

module _ (ws : List ℕ) (f : ℕ) where
  splits : (h : ℕ) → Walking ws f h → (y : ℕ) (ys : List ℕ) → onward ws f h ≡ y ∷ ys → (h ≡ y) × (onward ws f (word_in ws (of_lock h f)) ≡ ys)
  splits h w y ys e = let q = sym (walk_splits ws f h w (heads ws f h w y ys e)) ∙ e in (head-eq_of_cons-eq q, tail-eq_of_cons-eq q)

  along : (past : List ℕ) (y : ℕ) (ys : List ℕ) (h : ℕ) → Walking ws f h → onward ws f h ≡ past ++ (y ∷ ys) → Walking ws f y × (onward ws f y ≡ y ∷ ys)
  along [] y ys h w e = let s = splits h w y ys e in (rw (sym s.0) w, rw s.0 at e)
  along (x ∷ past) y ys h w e =
      let s = splits h w x (past ++ (y ∷ ys)) e in
      along past y ys (word_in ws (of_lock h f)) (walk_goes ws f h w (heads ws f h w x (past ++ (y ∷ ys)) e)) s.1

-- tell_each: at the lock j, in the words b, telling those that are still ahead leaves what telling all of the queue leaves of t
pub record Goes (r : ℕ) (q : Queue) (k j : ℕ) (b : List ℕ) (t : Tables) : Type 0 where
  pub here : Tables
  pub good : Heeds r q k here
  pub is : b ≡ words here
  pub walks : Walking b 0 j
  pub past : List ℕ
  pub split : queue_of q (resource here r) ≡ past ++ onward b 0 j
  pub same : tell_each k (onward b 0 j) here ≡ tell_each k (queue_of q (resource t r)) t

module _ (r : ℕ) (q : Queue) (k : ℕ) (t : Tables) (p : Heeds r q k t) (ws : List ℕ) (is : ws ≡ words t) where
  there : Resourced r t
  there = record { core = p.core; in_range = p.there }

  queue_walks : Walking ws 0 (word_in ws (of_resource r (queue_head q)))
  queue_walks = chain_begins t p.core (queue r q) 0 (λ i. refl) (queue_present r t there q) ws is

  starts : (first : ℕ) → first ≡ word_in ws (of_resource r (queue_head q)) → Goes r q k first ws t
  starts first e =
      rw e
      (record {
        here = t;
        good = p;
        is = is;
        walks = queue_walks;
        past = [];
        split = sym (queue_onward r t there q ws is);
        same = ap (λ (xs : List ℕ). tell_each k xs t) (queue_onward r t there q ws is);
      })

module _ (r : ℕ) (q : Queue) (k j : ℕ) (b : List ℕ) (t : Tables) (g : Goes r q k j b t) (some : j ≢ 0) where
  abbrev rest : List ℕ
  rest = onward b 0 (word_in b (of_lock j 0))

  here_splits : onward b 0 j ≡ j ∷ rest
  here_splits = walk_splits b 0 j g.walks some

  whole : queue_of q (resource g.here r) ≡ g.past ++ (j ∷ rest)
  whole = g.split ∙ ap (λ (xs : List ℕ). g.past ++ xs) here_splits

  on_it : 1 ≤ count j (queue_of q (resource g.here r))
  on_it = rw (whole, count_append, count_same) (omega arith)

  pub goes_tellable : Tellable k j g.here
  goes_tellable = heeds_tellable r q k g.here g.good j on_it

  module _ (d : List ℕ) (told : Turns (Tellable k j) (tell k j) b d) (x : ℕ) (ex : x ≡ word_in d (of_lock j 0)) where
    u : Tables
    u = tell k j g.here

    good_after : Heeds r q k u
    unfolding u
    good_after = tell_heeds r q k g.here g.good j goes_tellable

    is_after : d ≡ words u
    unfolding u
    is_after = told.then g.here goes_tellable g.is

    whole_after : queue_of q (resource u r) ≡ g.past ++ (j ∷ rest)
    unfolding u
    whole_after = ap (queue_of q) (tell_resource k j g.here r) ∙ whole

    after : Walking d 0 j × (onward d 0 j ≡ j ∷ rest)
    after =
        along d 0 g.past j rest (word_in d (of_resource r (queue_head q))) (queue_walks r q k u good_after d is_after)
        (queue_onward r u (there r q k u good_after d is_after) q d is_after ∙ whole_after)

    rest_after : onward d 0 x ≡ rest
    rest_after = ap (onward d 0) ex ∙ (splits d 0 j after.0 j rest after.1).1

    pub goes_on : Goes r q k x d t
    unfolding u tell_each
    goes_on =
        record {
          here = u;
          good = good_after;
          is = is_after;
          walks = walk_on after.0 some ex;
          past = g.past ++ (j ∷ []);
          split = whole_after ∙ sym (append_assoc g.past (j ∷ []) rest) ∙ ap (λ (xs : List ℕ). (g.past ++ (j ∷ [])) ++ xs) (sym rest_after);
          same = ap (λ (xs : List ℕ). tell_each k xs u) rest_after ∙ sym (ap (λ (xs : List ℕ). tell_each k xs g.here) here_splits) ∙ g.same;
        }

    pub goes_less : length (onward d 0 x) < length (onward b 0 j)
    goes_less = rw (rest_after, here_splits) (omega arith)

pub record Telling (k first : ℕ) (a b : List ℕ) (last j : ℕ) : Type 0 where
  pub some : Hearing k first a
  pub kept : Kept a b
  pub end : last ≡ notices_end b
  pub then : (r : ℕ) (q : Queue) (t : Tables) → Heeds r q k t → first ≡ word_in a (of_resource r (queue_head q)) → a ≡ words t → Goes r q k j b t

pub telling_starts : (k first : ℕ) (a : List ℕ) (end : ℕ) → Hearing k first a → end ≡ notices_end a → Telling k first a a end first
telling_starts k first a end s e =
    record {
      some = s;
      kept = kept_all a (core_sized s.state a s.is s.good.core);
      end = e;
      then = λ r q t p f is. starts r q k t p a is first f;
    }

module _ (k first : ℕ) (a b : List ℕ) (last j : ℕ) (g : Telling k first a b last j) where
  now : Goes g.some.resource g.some.queue k j b g.some.state
  now = g.then g.some.resource g.some.queue g.some.state g.some.good g.some.begins g.some.is

  pub telling_end : last ≡ notices_end b
  telling_end = g.end

  pub telling_ends : j ≡ 0 → Heard k first a b
  unfolding tell_each
  telling_ends z = record {
    then = λ r q t p f is.
        let h = g.then r q t p f is in
        h.is ∙ ap words (sym (rw (z, walk_ends b 0)) ∙ h.same);
  }

  pub telling_kept : Kept a b
  telling_kept = g.kept

  pub telling_length : length b ≡ length a
  telling_length = kept_length a b g.kept (core_sized g.some.state a g.some.is g.some.good.core)

  module _ (some : j ≡ 0 → ⊥) where
    pub telling_tells : Some (Tellable k j) b
    telling_tells = record { state = now.here; good = goes_tellable _ _ k j b _ now some; is = now.is }

    pub telling_low : 1 ≤ j
    telling_low = walk_low now.walks some

    module _ (d : List ℕ) (told : Turns (Tellable k j) (tell k j) b d) (kd : Kept b d) where
      pub telling_sized : Sized d
      telling_sized = kd.sized

      pub telling_high : j ≤ locks_in d
      telling_high = omega (arith, walk_high now.walks some, kd.same_locks)

      module _ (x : ℕ) (ex : x ≡ word_in d (of_lock j 0)) where
        pub telling_less : length (onward d 0 x) < length (onward b 0 j)
        telling_less = goes_less _ _ k j b _ now some d told x ex

        pub telling_on : (end : ℕ) → end ≡ notices_end d → Telling k first a d end x
        telling_on end e =
            record {
              some = g.some;
              kept = kept_trans a b d g.kept kd;
              end = e;
              then = λ r q t p f is. goes_on r q k j b t (g.then r q t p f is) some d told x ex;
            }

pub ruleset telling_laws = (rules, telling_starts, telling_end, telling_ends, telling_kept, telling_length, telling_tells, telling_low, telling_sized, telling_high, telling_less, telling_on)

-- tell_obstacles: the queues of the holders heed k
module _ (k : ℕ) (t : Tables) (p : Begun k t) where
  abbrev r : ℕ
  r = (lock t k).resource

  pub begun_place : (within (length t.locks) k ≡ true) × (within (length t.resources) r ≡ true)
  begun_place =
      let b = blocked_place t p.core r k (line_has t p.core k p.is_blocked) in
      (b.2, used_within t r b.0.in_use)

  heeds_grants : Heeds r grants k t
  unfolding holders
  heeds_grants =
      record {
        core = p.core;
        there = begun_place.1;
        in_range = begun_place.0;
        holders = λ j m. (in_holder t p.core.linked r j (rw count_append (omega arith))).0;
      }

  heeds_converts : Heeds r converts k t
  unfolding holders
  heeds_converts =
      record {
        core = p.core;
        there = begun_place.1;
        in_range = begun_place.0;
        holders = λ j m. (in_holder t p.core.linked r j (rw count_append (omega arith))).0;
      }

  -- telling the granted ones and then the converting ones is telling all
  told_all : tell_each k (resource (tell_each k (resource t r).grant t) r).convert (tell_each k (resource t r).grant t) ≡ tell_obstacles k t
  unfolding tell_obstacles obstacles holders
  told_all =
      ap (λ (xs : List ℕ). tell_each k xs (tell_each k (resource t r).grant t)) (ap (queue_of converts) (each_resource k (resource t r).grant t r))
      ∙ sym (each_append k (resource t r).grant (resource t r).convert t)
      ∙ each_marks k (holders t r) t p.core begun_place.0 (λ j m. (in_holder t p.core.linked r j m).0)

  -- after the granted ones
  heeds_then : Heeds r converts k (tell_each k (resource t r).grant t)
  heeds_then = each_heeds k r converts (resource t r).grant t heeds_converts heeds_grants.holders

module _ (k : ℕ) (a : List ℕ) where
  module _ (s : Some (Begun k) a) where
    pub begun_core : Some Core a
    begun_core = record { state = s.state; good = s.good.core; is = s.is }

    pub begun_sized : Sized a
    begun_sized = core_sized s.state a s.is s.good.core

    pub begun_low : 1 ≤ k
    begun_low = lock_low s.state a s.is k (begun_place k s.state s.good).0

    pub begun_high : k ≤ locks_in a
    begun_high = lock_high s.state a s.is k (begun_place k s.state s.good).0

  module _ (x : ℕ) (ex : x ≡ word_in a (of_lock k 3)) where
    resource_is : (t : Tables) → Begun k t → a ≡ words t → x ≡ (lock t k).resource
    unfolding read_lock
    resource_is t p is =
        let w = within_le (length t.locks) k (begun_place k t p).0 in
        ex ∙ ap (λ (l : Lock). l.resource) (lock_record t a is k w.0 w.1)

    there_at : (s : Some (Begun k) a) → (1 ≤ x) × (x ≤ resources_in a)
    there_at s = rw (resource_is s.state s.good s.is, resources_is s.state a s.is) (within_le (length s.state.resources) (lock s.state k).resource (begun_place k s.state s.good).1)

    pub begun_there : Some (Begun k) a → 1 ≤ x
    begun_there s = (there_at s).0

    pub begun_within : Some (Begun k) a → x ≤ resources_in a
    begun_within s = (there_at s).1

    pub begun_after : Some (Begun k) a → (b : List ℕ) → Kept a b → x ≤ resources_in b
    begun_after s b kb = omega (arith, there_at s, kb.same_resources)

    module _ (g : ℕ) (eg : g ≡ word_in a (of_resource x 1)) where
      grants_at : (t : Tables) (p : Begun k t) (is : a ≡ words t) → g ≡ word_in a (of_resource (lock t k).resource (queue_head grants))
      grants_at t p is = eg ∙ ap (λ (z : ℕ). word_in a (of_resource z 1)) (resource_is t p is)

      pub begun_hears : Some (Begun k) a → Hearing k g a
      begun_hears s =
          record {
            state = s.state;
            resource = (lock s.state k).resource;
            queue = grants;
            good = heeds_grants k s.state s.good;
            begins = grants_at s.state s.good s.is;
            is = s.is;
          }

      module _ (b : List ℕ) (heard : Heard k g a b) where
        first_is : (t : Tables) → Begun k t → a ≡ words t → b ≡ words (tell_each k (resource t (lock t k).resource).grant t)
        first_is t p is = heard.then (lock t k).resource grants t (heeds_grants k t p) (grants_at t p is) is

        module _ (c : ℕ) (ec : c ≡ word_in b (of_resource x 2)) where
          converts_at : (t : Tables) (p : Begun k t) (is : a ≡ words t) → c ≡ word_in b (of_resource (lock t k).resource (queue_head converts))
          converts_at t p is = ec ∙ ap (λ (z : ℕ). word_in b (of_resource z 2)) (resource_is t p is)

          pub begun_hears_on : Some (Begun k) a → Hearing k c b
          begun_hears_on s =
              record {
                state = tell_each k (resource s.state (lock s.state k).resource).grant s.state;
                resource = (lock s.state k).resource;
                queue = converts;
                good = heeds_then k s.state s.good;
                begins = converts_at s.state s.good s.is;
                is = first_is s.state s.good s.is;
              }

          pub begun_told : (d : List ℕ) → Heard k c b d → Turns (Begun k) (tell_obstacles k) a d
          begun_told d told = record {
            then = λ t p is.
                told.then (lock t k).resource converts (tell_each k (resource t (lock t k).resource).grant t) (heeds_then k t p) (converts_at t p is) (first_is t p is)
                ∙ ap words (told_all k t p);
          }

pub ruleset begun_reads = (rules, begun_sized, begun_low, begun_high, begun_there, begun_within)
