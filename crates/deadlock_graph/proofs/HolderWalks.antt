-- Walks along the holders on a resource: those that are granted, then those that convert.
use mathlib.Core.Path.{◌≡◌, refl, sym, ap, ◌∙◌}
use mathlib.Core.Logic.{◌≢◌}
use mathlib.Core.Bool.{Bool, true, false, not, ◌&&◌, and-false}
use mathlib.Core.List.{List, [], ◌∷◌, ◌++◌}
use Prim.Native.Nat.{ℕ, ◌+◌, ◌*◌, ◌≤◌, ◌<◌}
use native.Mathlib.Omega.{arith}
use lib.ListN.{get_or, length}
use lib.Dec.{eqb, leb}
use borrow.Author.Tests.{eqb-true, eq-eqb, ne_eqb, leb-true, leb-false}
use borrow.Author.Rules.{rules}
use Rattle.modes.specs.Modes.{compatible, matrix, all_modes}
use Rattle.modes.proofs.Laws.{all_modes_at}
use Rattle.tables.specs.Lists.{count, first, next, keep}
use Rattle.tables.specs.State.{Tables, lock, resource, grants, converts, queue, most_locks}
use Rattle.tables.specs.Layout.{of_header, of_resource, of_lock, resources_in, locks_in, word_in, onward}
use Rattle.tables.specs.Grants.{holders}
use Rattle.tables.proofs.Cases.{by_cases, by_equal, clash}
use Rattle.tables.proofs.Counts.{count_nil, count_same, count_other, count_append, by_append, count_step, within_le}
use Rattle.tables.specs.Validity.{Core}
use Rattle.tables.proofs.Valid.{used_within}
use Rattle.tables.proofs.ChainMembers.{on_grants, on_converts, in_holder, holder_range, holder_used, chain_once}
use Rattle.rules.specs.Deadlock.{in_the_way, obstacles}
use Rattle.table_fields.specs.Sizes.{Sized}
use Rattle.table_chains.specs.Promises.{Some}
use Rattle.table_chains.specs.Walking.{At, Walking}
use Rattle.table_chains.proofs.LockLimits.{at_sized, held_mode, asked_mode}
use Rattle.table_chains.proofs.ChainWalks.{some_sized, walk_ends, walk_splits, walk_goes, walk_high, walk_on, walk_sized, walk_low, blocked_walks, grants_walk, converts_walk, waits_walk}
use Rattle.deadlock_graph.specs.Promises.{seen, Blocked, Asks, StandsOn}
use Rattle.deadlock_graph.specs.Hops.{looks}
use Rattle.deadlock_graph.specs.Links.{link_width, link_of, Leaps, Leaping, Looker}
use Rattle.deadlock_graph.specs.Holders.{Holds, since, holders_since, Looking}
use Rattle.deadlock_graph.proofs.SeenChains.{queue_seen}
use Rattle.deadlock_graph.proofs.LockWords.{some_alike, locks_told, resources_told, resource_told, state_told, asked_told, asked_few, held_told, blocked_at, blocked_home, owner_known, way_known}

-- ---- what follows a member of two lists that are joined

next_here : (k j : ℕ) (xs : List ℕ) → k ≡ j → next k (j ∷ xs) ≡ first xs
unfolding next
next_here k j xs e = rw (eq-eqb k j e, next)

next_past : (k j : ℕ) (xs : List ℕ) → k ≢ j → next k (j ∷ xs) ≡ next k xs
unfolding next
next_past k j xs e = rw (ne_eqb k j e, next)

first_joined : (xs ys : List ℕ) → first xs ≢ 0 → first (xs ++ ys) ≡ first xs
first_joined [] ys n = absurd (n refl)
first_joined (x ∷ xs) ys n = refl

next_joined : (k : ℕ) (xs ys : List ℕ) → 1 ≤ count k xs → next k xs ≢ 0 → next k (xs ++ ys) ≡ next k xs
next_joined k [] ys m n = absurd (omega (arith, count_nil k))
next_joined k (x ∷ xs) ys m n =
    by_equal k x
    (λ e. next_here k x (xs ++ ys) e ∙ first_joined xs ys (λ z. n (next_here k x xs e ∙ z)) ∙ sym (next_here k x xs e))
    (λ e. next_past k x (xs ++ ys) e ∙ next_joined k xs ys (rw (count_other k x xs e) at m) (λ z. n (next_past k x xs e ∙ z)) ∙ sym (next_past k x xs e))

none_first : (xs ys : List ℕ) → count 0 xs ≡ 0 → first xs ≡ 0 → first (xs ++ ys) ≡ first ys
none_first [] ys z e = refl
none_first (x ∷ xs) ys z e = absurd (omega (arith, rw (e, count_same) at z))

next_after : (k : ℕ) (xs ys : List ℕ) → 1 ≤ count k xs → count 0 xs ≡ 0 → next k xs ≡ 0 → next k (xs ++ ys) ≡ first ys
next_after k [] ys m z n = absurd (omega (arith, count_nil k))
next_after k (x ∷ xs) ys m z n =
    let z' : count 0 xs ≡ 0 = omega (arith, count_step 0 x xs) in
    by_equal k x
    (λ e. next_here k x (xs ++ ys) e ∙ none_first xs ys z' (sym (next_here k x xs e) ∙ n))
    (λ e. next_past k x (xs ++ ys) e ∙ next_after k xs ys (rw (count_other k x xs e) at m) z' (sym (next_past k x xs e) ∙ n))

next_behind : (k : ℕ) (xs ys : List ℕ) → count k xs ≡ 0 → next k (xs ++ ys) ≡ next k ys
next_behind k [] ys m = refl
next_behind k (x ∷ xs) ys m =
    by_equal k x
    (λ e. absurd (omega (arith, rw (e, count_same) at m)))
    (λ e. next_past k x (xs ++ ys) e ∙ next_behind k xs ys (rw (count_other k x xs e) at m))

-- ---- a list from a member on

since_here : (k j : ℕ) (xs : List ℕ) → k ≡ j → since k (j ∷ xs) ≡ j ∷ xs
unfolding since
since_here k j xs e = rw (eq-eqb k j e, since)

since_past : (k j : ℕ) (xs : List ℕ) → k ≢ j → since k (j ∷ xs) ≡ since k xs
unfolding since
since_past k j xs e = rw (ne_eqb k j e, since)

since_none : (k : ℕ) (xs : List ℕ) → count k xs ≡ 0 → since k xs ≡ []
unfolding since
since_none k [] z = refl
since_none k (x ∷ xs) z =
    by_equal k x
    (λ e. absurd (omega (arith, rw (e, count_same) at z)))
    (λ e. since_past k x xs e ∙ since_none k xs (rw (count_other k x xs e) at z))

since_first : (xs : List ℕ) → since (first xs) xs ≡ xs
unfolding since
since_first [] = refl
since_first (x ∷ xs) = since_here x x xs refl

first_absent : (x : ℕ) (xs : List ℕ) → (count x xs ≡ 0) → count 0 (x ∷ xs) ≡ 0 → since (first xs) (x ∷ xs) ≡ xs
unfolding since
first_absent x [] z o = since_none 0 (x ∷ []) o
first_absent x (y ∷ ys) z o =
    by_equal y x
    (λ e. absurd (omega (arith, rw (e, count_same) at z)))
    (λ e. since_past y x (y ∷ ys) e ∙ since_here y y ys refl)

next_in : (k : ℕ) (xs : List ℕ) → next k xs ≢ 0 → 1 ≤ count (next k xs) xs
next_in k [] n = absurd (n (unfold next in refl))
next_in k (x ∷ xs) n =
    by_equal k x
    (λ e. rw (next_here k x xs e) (go xs (λ z. n (next_here k x xs e ∙ z))))
    (λ e. rw (next_past k x xs e) (omega (arith, count_step (next k xs) x xs, next_in k xs (λ z. n (next_past k x xs e ∙ z)))))
  where
    go : (ys : List ℕ) → first ys ≢ 0 → 1 ≤ count (first ys) (x ∷ ys)
    go [] m = absurd (m refl)
    go (y ∷ ys) m = omega (arith, count_step y x (y ∷ ys), count_same y ys)

-- each stands on it once, and none has the number 0
since_splits : (k : ℕ) (xs : List ℕ) → ((j : ℕ) → count j xs ≤ 1) → count 0 xs ≡ 0 → 1 ≤ count k xs → since k xs ≡ k ∷ since (next k xs) xs
since_splits k [] once z m = absurd (omega (arith, count_nil k))
since_splits k (x ∷ xs) once z m =
    by_equal k x
    (λ e.
    let alone : count x xs ≡ 0 = omega (arith, once x, count_same x xs) in
    since_here k x xs e ∙ rw (e, next_here x x xs refl, first_absent x xs alone z))
    (λ e.
    let m' : 1 ≤ count k xs = rw (count_other k x xs e) at m in
    let rest = since_splits k xs (λ j. omega (arith, once j, count_step j x xs)) (omega (arith, count_step 0 x xs)) m' in
    let same : since (next k xs) (x ∷ xs) ≡ since (next k xs) xs =
    by_equal (next k xs) x
    (λ q. by_equal x 0
    (λ o. absurd (omega (arith, rw (o, count_same) at z)))
    (λ o. absurd (omega (arith, once x, count_same x xs, rw q at (next_in k xs (λ p. o (sym q ∙ p)))))))
    (λ q. since_past (next k xs) x xs q) in
    since_past k x xs e ∙ rest ∙ rw (next_past k x xs e, same))

-- ---- the links of a chain are what follows its members

pub walk_first : (ws : List ℕ) (f k : ℕ) → Walking ws f k → first (onward ws f k) ≡ k
walk_first ws f k w = by_equal k 0 (λ e. rw (e, walk_ends)) (λ n. rw (walk_splits ws f k w n))

walk_next : (ws : List ℕ) (f k : ℕ) (xs : List ℕ) (g : ℕ) → Walking ws f g → onward ws f g ≡ xs → 1 ≤ count k xs → next k xs ≡ word_in ws (of_lock k f)
walk_next ws f k [] g w e m = absurd (omega (arith, count_nil k))
walk_next ws f k (x ∷ xs) g w e m =
    by_equal g 0
    (λ z.
    let empty : onward ws f g ≡ [] = rw z (walk_ends ws f) in
    absurd (omega (arith, count_nil k, rw (sym e ∙ empty) at m)))
    (λ n.
    let split : x ∷ xs ≡ g ∷ onward ws f (word_in ws (of_lock g f)) = sym e ∙ walk_splits ws f g w n in
    let hd : x ≡ g = ap first split in
    let tl : onward ws f (word_in ws (of_lock g f)) ≡ xs = sym (ap rest split) in
    by_equal k x
    (λ q. next_here k x xs q ∙ sym (ap first tl) ∙ walk_first ws f (word_in ws (of_lock g f)) (walk_goes ws f g w n) ∙ rw (q, hd))
    (λ q. next_past k x xs q ∙ walk_next ws f k xs (word_in ws (of_lock g f)) (walk_goes ws f g w n) tl (rw (count_other k x xs q) at m)))
  where
    rest : List ℕ → List ℕ
    rest [] = []
    rest (y ∷ ys) = ys

-- ---- lock numbers are small

pub walk_small : (ws : List ℕ) (f k : ℕ) → Walking ws f k → k ≤ most_locks
walk_small ws f k w = by_equal k 0 (λ e. rw e (omega arith)) (λ n. omega (arith, walk_high w n, (walk_sized w).few_locks))

module _ {ws : List ℕ} (s : Some Core ws) {x : ℕ} where
  pub blocked_small : x ≡ word_in ws (of_header 5) → x ≤ most_locks
  blocked_small e = walk_small ws 1 x (blocked_walks s e)

  module _ {r : ℕ} (in_range : (1 ≤ r) × (r ≤ resources_in ws)) where
    pub granted_small : x ≡ word_in ws (of_resource r 1) → x ≤ most_locks
    granted_small e = walk_small ws 0 x (grants_walk s in_range e)

    pub converting_small : x ≡ word_in ws (of_resource r 2) → x ≤ most_locks
    converting_small e = walk_small ws 0 x (converts_walk s in_range e)

    pub waiting_small : x ≡ word_in ws (of_resource r 3) → x ≤ most_locks
    waiting_small e = walk_small ws 0 x (waits_walk s in_range e)

pub next_small : {ws : List ℕ} {f k x : ℕ} → Walking ws f k → k ≢ 0 → x ≡ word_in ws (of_lock k f) → x ≤ most_locks
next_small {ws} {f} {k} {x} w n e = walk_small ws f x (walk_on w n e)

-- ---- the holders on a resource

module _ (ws : List ℕ) (s : Some Core ws) where
  abbrev t : Tables
  t = s.state

  holders_same : (r : ℕ) → holders (seen ws) r ≡ holders t r
  unfolding holders
  holders_same r = rw ((some_alike ws s).queues grants r, (some_alike ws s).queues converts r)

  pub holder_here : (r k : ℕ) → 1 ≤ count k (holders (seen ws) r) → (lock (seen ws) k).resource ≡ r
  holder_here r k m = ap (λ l. l.resource) ((some_alike ws s).locks k) ∙ (in_holder t s.good.linked r k (rw (holders_same r) at m)).1

  pub holder_at : (r k : ℕ) → 1 ≤ count k (holders (seen ws) r) → At ws k
  holder_at r k m =
      let w = holder_range t s.good.linked r k (rw (holders_same r) at m) in
      record { some = s; low = w.0; high = omega (arith, w.1, locks_told ws s) }

  holder_home : (r k : ℕ) → 1 ≤ count k (holders (seen ws) r) → (1 ≤ r) × (r ≤ resources_in ws)
  holder_home r k m =
      let w = within_le (length t.resources) r (used_within t r (holder_used t s.good r k (rw (holders_same r) at m))) in
      (w.0, omega (arith, w.1, resources_told ws s))

  grant_state : (r k : ℕ) → 1 ≤ count k (resource (seen ws) r).grant → (lock (seen ws) k).state ≡ 1
  grant_state r k m =
      ap (λ l. l.state) ((some_alike ws s).locks k) ∙ eqb-true (lock t k).state 1 (on_grants t s.good.linked r k (rw ((some_alike ws s).queues grants r) at m)).0

  convert_state : (r k : ℕ) → 1 ≤ count k (resource (seen ws) r).convert → (lock (seen ws) k).state ≡ 2
  convert_state r k m =
      ap (λ l. l.state) ((some_alike ws s).locks k) ∙ eqb-true (lock t k).state 2 (on_converts t s.good.linked r k (rw ((some_alike ws s).queues converts r) at m)).0

  grants_once : (r k : ℕ) → count k (resource (seen ws) r).grant ≤ 1
  grants_once r k = rw ((some_alike ws s).queues grants r) (chain_once t s.good.linked (queue r grants) k)

  converts_once : (r k : ℕ) → count k (resource (seen ws) r).convert ≤ 1
  converts_once r k = rw ((some_alike ws s).queues converts r) (chain_once t s.good.linked (queue r converts) k)

  holders_once : (r k : ℕ) → count k (holders (seen ws) r) ≤ 1
  unfolding holders
  holders_once r k =
      rw count_append
      (by_cases (leb 1 (count k (resource (seen ws) r).grant))
      (λ g.
      by_cases (leb 1 (count k (resource (seen ws) r).convert))
      (λ c. absurd (omega (arith, grant_state r k (leb-true 1 _ g), convert_state r k (leb-true 1 _ c))))
      (λ c. omega (arith, leb-false 1 (count k (resource (seen ws) r).convert) c, grants_once r k)))
      (λ g. omega (arith, leb-false 1 (count k (resource (seen ws) r).grant) g, converts_once r k)))

  pub no_holder : (r : ℕ) → count 0 (holders (seen ws) r) ≡ 0
  no_holder r =
      by_cases (leb 1 (count 0 (holders (seen ws) r)))
      (λ g. absurd (omega (arith, (holder_at r 0 (leb-true 1 _ g)).low)))
      (λ g. omega (arith, leb-false 1 (count 0 (holders (seen ws) r)) g))

-- ---- the first holder, and the next one

module _ {ws : List ℕ} (s : Some Core ws) {r : ℕ} (in_range : (1 ≤ r) × (r ≤ resources_in ws)) where
  grants_are : {g : ℕ} → g ≡ word_in ws (of_resource r 1) → onward ws 0 g ≡ (resource (seen ws) r).grant
  grants_are e = ap (onward ws 0) e ∙ queue_seen ws s r grants in_range.0 in_range.1

  converts_are : {g : ℕ} → g ≡ word_in ws (of_resource r 2) → onward ws 0 g ≡ (resource (seen ws) r).convert
  converts_are e = ap (onward ws 0) e ∙ queue_seen ws s r converts in_range.0 in_range.1

  pub holder_granted : {g x : ℕ} → g ≡ word_in ws (of_resource r 1) → g ≢ 0 → x ≡ g → x ≡ first (holders (seen ws) r)
  unfolding holders
  holder_granted {g} {x} e n q =
      let is : first (resource (seen ws) r).grant ≡ g = sym (ap first (grants_are e)) ∙ walk_first ws 0 g (grants_walk s in_range e) in
      q ∙ sym (first_joined (resource (seen ws) r).grant (resource (seen ws) r).convert (λ z. n (sym is ∙ z)) ∙ is)

  first_converts : {x : ℕ} → x ≡ word_in ws (of_resource r 2) → x ≡ first (resource (seen ws) r).convert
  first_converts {x} e = sym (walk_first ws 0 x (converts_walk s in_range e)) ∙ ap first (converts_are e)

  pub holder_converting : {g x : ℕ} → g ≡ word_in ws (of_resource r 1) → g ≡ 0 → x ≡ word_in ws (of_resource r 2) → x ≡ first (holders (seen ws) r)
  unfolding holders
  holder_converting {g} {x} e z q =
      let none : (resource (seen ws) r).grant ≡ [] = sym (grants_are e) ∙ rw z (walk_ends ws 0) in
      rw none (first_converts q)

module _ {ws : List ℕ} {k : ℕ} (h : Holds ws k) where
  abbrev home : ℕ
  home = (lock (seen ws) k).resource

  pub holds_at : At ws k
  holds_at = holder_at ws h.some home k h.stands

  home_range : (1 ≤ home) × (home ≤ resources_in ws)
  home_range = holder_home ws h.some home k h.stands

  pub holds_sized : Sized ws
  holds_sized = some_sized h.some

  pub holds_low : 1 ≤ k
  holds_low = holds_at.low

  pub holds_high : k ≤ locks_in ws
  holds_high = holds_at.high

  module _ {r : ℕ} (e : r ≡ word_in ws (of_lock k 3)) where
    pub home_low : 1 ≤ r
    home_low = rw (e ∙ resource_told ws k holds_at) home_range.0

    pub home_high : r ≤ resources_in ws
    home_high = rw (e ∙ resource_told ws k holds_at) home_range.1

  module _ {a : ℕ} (e : a ≡ word_in ws (of_lock k 0)) where
    grant_next : 1 ≤ count k (resource (seen ws) home).grant → next k (resource (seen ws) home).grant ≡ a
    grant_next m =
        walk_next ws 0 k (resource (seen ws) home).grant (word_in ws (of_resource home 1)) (grants_walk h.some home_range refl) (grants_are h.some home_range refl) m
        ∙ sym e

    convert_next : 1 ≤ count k (resource (seen ws) home).convert → next k (resource (seen ws) home).convert ≡ a
    convert_next m =
        walk_next ws 0 k (resource (seen ws) home).convert (word_in ws (of_resource home 2)) (converts_walk h.some home_range refl) (converts_are h.some home_range refl) m
        ∙ sym e

    not_both : 1 ≤ count k (resource (seen ws) home).convert → count k (resource (seen ws) home).grant ≡ 0
    unfolding holders
    not_both m = omega (arith, holders_once ws h.some home k, count_append k (resource (seen ws) home).grant (resource (seen ws) home).convert)

    pub after_next : {x : ℕ} → a ≢ 0 → x ≡ a → x ≡ next k (holders (seen ws) home)
    unfolding holders
    after_next n q =
        q ∙ sym (by_append k (resource (seen ws) home).grant (resource (seen ws) home).convert h.stands
        (λ m. next_joined k (resource (seen ws) home).grant (resource (seen ws) home).convert m (λ z. n (sym (grant_next m) ∙ z)) ∙ grant_next m)
        (λ m. next_behind k (resource (seen ws) home).grant (resource (seen ws) home).convert (not_both m) ∙ convert_next m))

    module _ (z : a ≡ 0) {y : ℕ} (ey : y ≡ word_in ws (of_lock k 5)) where
      state_is : y ≡ (lock (seen ws) k).state
      state_is = ey ∙ state_told ws k holds_at

      pub after_last : y ≢ 1 → 0 ≡ next k (holders (seen ws) home)
      unfolding holders
      after_last n =
          sym (by_append k (resource (seen ws) home).grant (resource (seen ws) home).convert h.stands
          (λ m. absurd (n (state_is ∙ grant_state ws h.some home k m)))
          (λ m. next_behind k (resource (seen ws) home).grant (resource (seen ws) home).convert (not_both m) ∙ convert_next m ∙ z))

      pub after_granted : {r x : ℕ} → y ≡ 1 → r ≡ word_in ws (of_lock k 3) → x ≡ word_in ws (of_resource r 2) → x ≡ next k (holders (seen ws) home)
      unfolding holders
      after_granted {r} {x} q er ex =
          let here : r ≡ home = er ∙ resource_told ws k holds_at in
          first_converts h.some home_range (rw here at ex)
          ∙ sym (by_append k (resource (seen ws) home).grant (resource (seen ws) home).convert h.stands
          (λ m. next_after k (resource (seen ws) home).grant (resource (seen ws) home).convert m (no_grant m) (grant_next m ∙ z))
          (λ m. absurd (omega (arith, state_is, convert_state ws h.some home k m))))
        where
          no_grant : 1 ≤ count k (resource (seen ws) home).grant → count 0 (resource (seen ws) home).grant ≡ 0
          no_grant m = omega (arith, no_holder ws h.some home, count_append 0 (resource (seen ws) home).grant (resource (seen ws) home).convert)

  pub after_small : {a : ℕ} → a ≡ word_in ws (of_lock k 0) → a ≤ most_locks
  unfolding holders
  after_small {a} e =
      by_append k (resource (seen ws) home).grant (resource (seen ws) home).convert h.stands
      (λ m. small (resource (seen ws) home).grant (λ j i. omega (arith, (holder_at ws h.some home j (in_grants j i)).high, (some_sized h.some).few_locks)) (grant_next e m))
      (λ m. small (resource (seen ws) home).convert (λ j i. omega (arith, (holder_at ws h.some home j (in_converts j i)).high, (some_sized h.some).few_locks)) (convert_next e m))
    where
      in_grants : (j : ℕ) → 1 ≤ count j (resource (seen ws) home).grant → 1 ≤ count j (holders (seen ws) home)
      in_grants j i = omega (arith, i, count_append j (resource (seen ws) home).grant (resource (seen ws) home).convert)

      in_converts : (j : ℕ) → 1 ≤ count j (resource (seen ws) home).convert → 1 ≤ count j (holders (seen ws) home)
      in_converts j i = omega (arith, i, count_append j (resource (seen ws) home).grant (resource (seen ws) home).convert)

      small : (xs : List ℕ) → ((j : ℕ) → 1 ≤ count j xs → j ≤ most_locks) → next k xs ≡ a → a ≤ most_locks
      small xs each q =
          by_equal a 0
          (λ z. rw z (omega arith))
          (λ n. each a (rw q at (next_in k xs (λ z. n (sym q ∙ z)))))

-- ---- a walk along the holders on r

module _ (ws : List ℕ) (r k : ℕ) where
  pub look_all : k ≡ first (holders (seen ws) r) → holders_since ws r k ≡ holders (seen ws) r
  unfolding holders_since
  look_all e = rw e (since_first (holders (seen ws) r))

  pub look_ends : Some Core ws → k ≡ 0 → holders_since ws r k ≡ []
  unfolding holders_since
  look_ends s e = rw e (since_none 0 (holders (seen ws) r) (no_holder ws s r))

module _ {ws : List ℕ} {r k : ℕ} where
  pub look_starts : Some Core ws → (1 ≤ r) × (r ≤ resources_in ws) → k ≡ first (holders (seen ws) r) → Looking ws r k
  look_starts s i e =
      record { some = s; low = i.0; high = i.1; stands = λ n. rw e (go (holders (seen ws) r) (λ z. n (e ∙ z))) }
    where
      go : (xs : List ℕ) → first xs ≢ 0 → 1 ≤ count (first xs) xs
      go [] m = absurd (m refl)
      go (x ∷ xs) m = omega (arith, count_same x xs)

  module _ (l : Looking ws r k) where
    module _ (n : k ≢ 0) where
      pub look_at : At ws k
      look_at = holder_at ws l.some r k (l.stands n)

      pub look_here : (lock (seen ws) k).resource ≡ r
      look_here = holder_here ws l.some r k (l.stands n)

      pub look_holds : Holds ws k
      look_holds = record { some = l.some; stands = rw look_here (l.stands n) }

      look_next : {x : ℕ} → x ≡ next k (holders (seen ws) (lock (seen ws) k).resource) → x ≡ next k (holders (seen ws) r)
      look_next e = e ∙ rw look_here

      -- x is the next holder
      module _ {x : ℕ} (e : x ≡ next k (holders (seen ws) (lock (seen ws) k).resource)) where
        pub look_on : Looking ws r x
        look_on =
            record { some = l.some; low = l.low; high = l.high; stands = λ m. rw (look_next e) (next_in k (holders (seen ws) r) (λ z. m (look_next e ∙ z))) }

        pub look_splits : holders_since ws r k ≡ k ∷ holders_since ws r x
        unfolding holders_since
        look_splits =
            since_splits k (holders (seen ws) r) (holders_once ws l.some r) (no_holder ws l.some r) (l.stands n) ∙ rw (look_next e)

        pub look_less : length (holders_since ws r x) < length (holders_since ws r k)
        look_less = rw look_splits (omega arith)

-- the mode that a lock asks for
pub asks_known : {ws : List ℕ} {k x : ℕ} → At ws k → x ≡ word_in ws (of_lock k 7) → Asks ws k x
asks_known {ws} {k} {x} a e =
    let is : x ≡ (lock (seen ws) k).asked = e ∙ asked_told ws k a in
    record { is = is; few = rw is (asked_few ws a.some k) }

-- the resource of a blocked lock, and whether a lock holds NL
module _ {ws : List ℕ} {k : ℕ} (b : Blocked ws k) where
  pub stands_sized : Sized ws
  stands_sized = some_sized b.some

  pub stands_low : 1 ≤ k
  stands_low = (blocked_at ws k b).low

  pub stands_high : k ≤ locks_in ws
  stands_high = (blocked_at ws k b).high

  pub stands_on : {r : ℕ} → r ≡ word_in ws (of_lock k 3) → StandsOn ws k r
  stands_on {r} e =
      let is : r ≡ (lock (seen ws) k).resource = e ∙ resource_told ws k (blocked_at ws k b) in
      record { is = is; low = rw is (blocked_home ws k b).0; high = rw is (blocked_home ws k b).1 }

pub null_known : (ws : List ℕ) (k x : ℕ) → At ws k → x ≡ word_in ws (of_lock k 6) → eqb x 0 ≡ eqb (lock (seen ws) k).held 0
null_known ws k x a e = rw (e ∙ held_told ws k a)

-- NL is compatible with every mode
null_compatible : (m : ℕ) → m < 6 → compatible 0 m ≡ true
unfolding all_modes compatible matrix
null_compatible m p = all_modes_at (λ x. compatible 0 x) refl m (omega arith)

-- a lock that holds NL is in nobody's way
pub null_free : (t : Tables) (a j : ℕ) → (lock t j).held ≡ 0 → (lock t a).asked < 6 → in_the_way t a j ≡ false
unfolding in_the_way
null_free t a j e l = rw e (go (lock t a).asked l)
  where
    go : (m : ℕ) → m < 6 → (not (eqb j a) && not (compatible 0 m)) ≡ false
    go m p = rw (null_compatible m p) (and-false (not (eqb j a)))

pub bars_none : (ws : List ℕ) (a j : ℕ) (r : Bool) → At ws a → r ≡ eqb (lock (seen ws) j).held 0 → r ≡ true → false ≡ in_the_way (seen ws) a j
bars_none ws a j r p e h = sym (null_free (seen ws) a j (eqb-true (lock (seen ws) j).held 0 (sym e ∙ h)) (asked_few ws p.some a))

-- ---- the first holder in a lock's way

-- what passes a test is on the list from the first that passes on
pub since_passing : (p : ℕ → Bool) (xs : List ℕ) → count 0 xs ≡ 0 → (j : ℕ) → 1 ≤ count j xs → p j ≡ true → 1 ≤ count j (since (first (keep p xs)) xs)
unfolding since keep
since_passing p [] z j m h = absurd (omega (arith, count_nil j))
since_passing p (x ∷ xs) z j m h =
    by_cases (p x)
    (λ q. rw (q, since_here x x xs refl) m)
    (λ q.
    by_equal j x
    (λ e. clash (p j) h (rw e q))
    (λ e.
    let m' : 1 ≤ count j xs = rw (count_other j x xs e) at m in
    let rest = since_passing p xs (omega (arith, count_step 0 x xs)) j m' h in
    rw q
    (by_equal (first (keep p xs)) x
    (λ d. rw (d, since_here x x xs refl) m)
    (λ d. rw (since_past (first (keep p xs)) x xs d) rest))))

kept_first : (p : ℕ → Bool) (xs : List ℕ) → first (keep p xs) ≢ 0 → 1 ≤ count (first (keep p xs)) xs
unfolding keep
kept_first p [] n = absurd (n refl)
kept_first p (x ∷ xs) n =
    by_cases (p x)
    (λ q. rw q (omega (arith, count_same x xs)))
    (λ q. rw q (omega (arith, count_step (first (keep p xs)) x xs, kept_first p xs (λ z. n (rw q z)))))

kept_passes : (p : ℕ → Bool) (xs : List ℕ) → first (keep p xs) ≢ 0 → p (first (keep p xs)) ≡ true
unfolding keep
kept_passes p [] n = absurd (n refl)
kept_passes p (x ∷ xs) n = by_cases (p x) (λ q. rw q q) (λ q. rw q (kept_passes p xs (λ z. n (rw q z))))

-- what is in a lock's way holds more than NL, and so does the first that is
pub bar_strong : (ws : List ℕ) (a j : ℕ) → Some Core ws → in_the_way (seen ws) a j ≡ true → (lock (seen ws) j).held ≢ 0
bar_strong ws a j s h e = clash (in_the_way (seen ws) a j) h (null_free (seen ws) a j e (asked_few ws s a))

obstacle_strong : (ws : List ℕ) (a k : ℕ) → Some Core ws → k ≡ first (obstacles (seen ws) a) → k ≢ 0 → (lock (seen ws) k).held ≢ 0
unfolding obstacles
obstacle_strong ws a k s e n =
    bar_strong ws a k s (rw e (kept_passes (in_the_way (seen ws) a) (holders (seen ws) (lock (seen ws) a).resource) (λ z. n (e ∙ z))))

-- a walk that begins at the first holder in the way of a meets all that are
look_obstacles : {ws : List ℕ} {k : ℕ} → Some Core ws → (a : ℕ) → (1 ≤ (lock (seen ws) a).resource) × ((lock (seen ws) a).resource ≤ resources_in ws) →
    k ≡ first (obstacles (seen ws) a) → Looking ws (lock (seen ws) a).resource k
unfolding obstacles
look_obstacles {ws} {k} s a i e =
    record {
      some = s;
      low = i.0;
      high = i.1;
      stands = λ n. rw e (kept_first (in_the_way (seen ws) a) (holders (seen ws) (lock (seen ws) a).resource) (λ z. n (e ∙ z)));
    }

pub obstacle_on : (ws : List ℕ) (a k : ℕ) → Some Core ws → (j : ℕ) → k ≡ first (obstacles (seen ws) a) → 1 ≤ count j (holders (seen ws) (lock (seen ws) a).resource) →
    in_the_way (seen ws) a j ≡ true → 1 ≤ count j (holders_since ws (lock (seen ws) a).resource k)
unfolding obstacles holders_since
obstacle_on ws a k s j e p w =
    rw e (since_passing (in_the_way (seen ws) a) (holders (seen ws) (lock (seen ws) a).resource) (no_holder ws s (lock (seen ws) a).resource) j p w)

-- ---- a walk along the holders on r that hold more than NL

module _ {ws ls : List ℕ} {r k : ℕ} (l : Leaping ws ls r k) (n : k ≢ 0) where
  leaps : Leaps ws r k (link_of ls k 4)
  leaps = l.chained.each k (l.looking.stands n) (l.strong n)

  pub leap_at : At ws k
  leap_at = look_at l.looking n

  -- x is the next one
  module _ {x : ℕ} (e : x ≡ link_of ls k 4) where
    pub leap_on : Leaping ws ls r x
    leap_on =
        rw e
        (record {
          looking = record { some = l.looking.some; low = l.looking.low; high = l.looking.high; stands = leaps.stands };
          strong = leaps.strong;
          chained = l.chained;
        })

    pub leap_less : length (holders_since ws r x) < length (holders_since ws r k)
    leap_less = rw e leaps.less

    -- one that was passed, and holds more than NL, is k or was passed before
    pub leap_passed : (j : ℕ) → j ≢ k → (lock (seen ws) j).held ≢ 0 → count j (holders_since ws r x) ≡ 0 → count j (holders_since ws r k) ≡ 0
    leap_passed j o h z =
        by_cases (leb 1 (count j (holders_since ws r k)))
        (λ c. absurd (omega (arith, leaps.rest j (leb-true 1 _ c) o h, rw e at z)))
        (λ c. omega (arith, leb-false 1 (count j (holders_since ws r k)) c))

-- it begins where the blocked lock a begins to look
pub leap_starts : {ws ls : List ℕ} {a k : ℕ} → Some Core ws → Looker ws ls a → k ≡ link_of ls a 1 → Leaping ws ls (lock (seen ws) a).resource k
leap_starts {ws} {ls} {a} {k} s l e =
    let home = blocked_home ws a (record { some = s; stands = l.stands }) in
    by_cases (looks (seen ws) a)
    (λ y.
    let q : k ≡ first (obstacles (seen ws) a) = e ∙ l.holder ∙ rw y in
    record { looking = look_obstacles s a home q; strong = obstacle_strong ws a k s q; chained = l.chained })
    (λ f.
    let z : k ≡ 0 = e ∙ l.holder ∙ rw f in
    record {
      looking = record { some = s; low = home.0; high = home.1; stands = λ n. absurd (n z) };
      strong = λ n. absurd (n z);
      chained = l.chained;
    })

-- a row of links
pub link_read : (ls : List ℕ) (k f : ℕ) → get_or ls (link_width * k + f) 0 ≡ link_of ls k f
unfolding link_of
link_read ls k f = refl

pub ruleset holder_laws = (rules, some_sized, walk_sized, walk_low, walk_high, blocked_small, granted_small, converting_small, waiting_small, next_small, holder_granted, holder_converting, holds_sized, holds_low, holds_high, home_low, home_high, after_small, after_next, after_last, after_granted, asks_known, at_sized, owner_known, held_mode, asked_mode, way_known, link_read, stands_sized, stands_low, stands_high, stands_on, null_known, bars_none)
