-- Hops are enough: along them there are the walks that there are along `leads`.
use mathlib.Core.Path.{◌≡◌, refl, sym}
use mathlib.Core.Logic.{◌≢◌, ◌↔◌}
use mathlib.Core.Bool.{Bool, true, false, ◌&&◌, ◌||◌}
use mathlib.Core.List.{List, [], ◌∷◌, map}
use Prim.Native.Nat.{ℕ, zero, suc, ◌≤◌}
use native.Mathlib.Omega.{arith}
use lib.ListN.{length}
use lib.Dec.{eqb, ltb}
use borrow.Author.Tests.{eqb-true, eq-eqb, ne_eqb, ltb-false}
use Rattle.tables.specs.Lists.{count, any}
use Rattle.tables.specs.State.{Tables, lock, blocked_lock}
use Rattle.tables.proofs.Cases.{by_cases, by_equal, clash, eqb_same, and_left, and_right, and_intro, or_left, or_right}
use Rattle.tables.proofs.Counts.{count_nil, count_same, count_other, count_append, count_step, count_keep, any_has, any_intro}
use Rattle.tables.proofs.ChainMembers.{line_once}
use Rattle.tables.specs.Validity.{Core, line}
use Rattle.rules.specs.Deadlock.{ahead, in_the_way, obstacles, owner, leads}
use Rattle.rules.specs.Walks.{Walk, step, through}
use Rattle.rules.proofs.DeadlockVictim.{count_before}
use Rattle.table_chains.specs.Promises.{Some}
use Rattle.deadlock_graph.specs.Promises.{seen}
use Rattle.deadlock_graph.specs.Hops.{last_or, nearest, looks, hops}
use Rattle.deadlock_graph.proofs.SameVictim.{Alike, ahead_alike, obstacles_alike, leads_alike}
use Rattle.deadlock_graph.proofs.LockWords.{some_alike}
use Rattle.deadlock_graph.proofs.LineAhead.{any_counted, ahead_line}
use Rattle.deadlock_graph.proofs.Marks.{join}
use Rattle.deadlock_graph.proofs.NearestLocks.{last_in, blocked_node, node_blocked, ahead_here, ahead_blocked, ahead_less, nearest_ahead, ahead_nearest, nearest_alike}

-- ---- two of a list have the value m: one of them is not j

module _ (f : ℕ → ℕ) (m : ℕ) where
  one_with : (xs : List ℕ) → 1 ≤ count m (map f xs) → (x : ℕ) × (1 ≤ count x xs) × (f x ≡ m)
  one_with [] h = absurd (omega (arith, count_nil m))
  one_with (x ∷ xs) h =
      by_equal m (f x)
      (λ e. (x, omega (arith, count_same x xs), sym e))
      (λ e. let w = one_with xs (rw (count_other m (f x) (map f xs) e) at h) in (w.0, omega (arith, w.1, count_step w.0 x xs), w.2))

  another : (j : ℕ) (xs : List ℕ) → count j xs ≤ 1 → 2 ≤ count m (map f xs) → (x : ℕ) × (1 ≤ count x xs) × (f x ≡ m) × (x ≢ j)
  another j [] o h = absurd (omega (arith, count_nil m))
  another j (x ∷ xs) o h =
      by_equal m (f x)
      (λ e. by_equal x j
      (λ d.
      let w = one_with xs (omega (arith, rw (← e, count_same m (map f xs)) at h)) in
      (w.0, omega (arith, w.1, count_step w.0 x xs), w.2, λ q. omega (arith, rw q at w.1, rw (d, count_same j xs) at o)))
      (λ d. (x, omega (arith, count_same x xs), sym e, d)))
      (λ e.
      let w = another j xs (omega (arith, count_step j x xs)) (rw (count_other m (f x) (map f xs) e) at h) in
      (w.0, omega (arith, w.1, count_step w.0 x xs), w.2, w.3))

count_few : (k : ℕ) (xs : List ℕ) → count k xs ≤ length xs
count_few k [] = omega (arith, count_nil k)
count_few k (x ∷ xs) = by_equal k x (λ e. rw (e, count_same x xs) (omega (arith, count_few x xs))) (λ e. rw (count_other k x xs e) (omega (arith, count_few k xs)))

-- ---- one step of the one is a walk along the other

module _ (t : Tables) where
  -- some obstacle of a has b's owner
  abbrev barred : ℕ → ℕ → Bool
  barred a b = any (λ j. eqb (owner (lock t j)) (owner (lock t b))) (obstacles t a)

  to_nearest : (a b : ℕ) → blocked_lock (lock t b) ≡ true → b ≡ nearest t a → hops t a b ≡ true
  unfolding hops
  to_nearest a b h e = rw (h, eq-eqb b (nearest t a) e)

  to_barred : (a b : ℕ) → blocked_lock (lock t b) ≡ true → looks t a ≡ true → barred a b ≡ true → hops t a b ≡ true
  unfolding hops
  to_barred a b h l o = rw (h, l, o) (or_right (eqb b (nearest t a)) true refl)

module _ (t : Tables) (c : Core t) where
  abbrev hopping : ℕ → ℕ → Type 0
  hopping a b = Walk (hops t) t.blocked a b

  -- to those ahead, one after the other
  hop_ahead : (n a b : ℕ) → length (ahead t a) ≤ n → blocked_lock (lock t a) ≡ true → 1 ≤ count b (ahead t a) → hopping a b
  hop_ahead zero a b l h m = absurd (omega (arith, count_few b (ahead t a)))
  hop_ahead (suc n) a b l h m =
      let p = nearest t a in
      let some : 1 ≤ length (ahead t a) = omega (arith, m, count_few b (ahead t a)) in
      let there = nearest_ahead t c a h some in
      let hp : blocked_lock (lock t p) ≡ true = ahead_blocked t c a h p there in
      let hop : hops t a p ≡ true = to_nearest t a p hp refl in
      by_equal b p
      (λ e. step a b (to_nearest t a b (rw e hp) e))
      (λ e.
      let m' : 1 ≤ count b (ahead t p) = omega (arith, rw (ahead_nearest t c a h some, count_append b (ahead t p) (p ∷ []), count_other b p [] e, count_nil b) at m) in
      through a p b (node_blocked t c p hp) hop (hop_ahead n p b (omega (arith, l, ahead_less t c a h p there)) hp m'))

  -- what is in a's way is in the way of another lock there that asks for the same mode
  way_shared : (a x j : ℕ) → (lock t x).resource ≡ (lock t a).resource → (lock t x).asked ≡ (lock t a).asked → x ≢ j → 1 ≤ count j (obstacles t a) → 1 ≤ count j (obstacles t x)
  unfolding obstacles in_the_way
  way_shared a x j er em n m =
      rw (count_keep, er, em, ne_eqb j x (λ e. n (sym e)))
      (by_cases (eqb j a) (λ q. absurd (omega (arith, rw (count_keep, q) at m))) (λ q. rw (count_keep, q) at m))

  ahead_once : (a j : ℕ) → blocked_lock (lock t a) ≡ true → count j (ahead t a) ≤ 1
  ahead_once a j h = rw (ahead_line t c a h) (omega (arith, count_before j a (line t (lock t a).resource), line_once t c (lock t a).resource j))

  -- a does not look for itself: one ahead of it leads where a does
  barred_ahead : (a b : ℕ) → blocked_lock (lock t a) ≡ true → looks t a ≡ false → barred t a b ≡ true → (x : ℕ) × (1 ≤ count x (ahead t a)) × (barred t x b ≡ true)
  unfolding looks
  barred_ahead a b h l o =
      let w = any_has (λ j. eqb (owner (lock t j)) (owner (lock t b))) (obstacles t a) o in
      let v = another (λ k. (lock t k).asked) (lock t a).asked w.0 (ahead t a) (ahead_once a w.0 h) (ltb-false (count (lock t a).asked (map (λ k. (lock t k).asked) (ahead t a))) 2 l) in
      (v.0, v.1, any_intro (λ j. eqb (owner (lock t j)) (owner (lock t b))) (obstacles t v.0) w.0 (way_shared a v.0 w.0 (ahead_here t c a h v.0 v.1) v.2 v.3 w.1) w.2)

  hop_barred : (n a b : ℕ) → length (ahead t a) ≤ n → blocked_lock (lock t a) ≡ true → blocked_lock (lock t b) ≡ true → barred t a b ≡ true → hopping a b
  hop_barred zero a b l h hb o =
      by_cases (looks t a)
      (λ q. step a b (to_barred t a b hb q o))
      (λ q. let v = barred_ahead a b h q o in absurd (omega (arith, l, v.1, count_few v.0 (ahead t a))))
  hop_barred (suc n) a b l h hb o =
      by_cases (looks t a)
      (λ q. step a b (to_barred t a b hb q o))
      (λ q.
      let v = barred_ahead a b h q o in
      let hx : blocked_lock (lock t v.0) ≡ true = ahead_blocked t c a h v.0 v.1 in
      join a v.0 b (node_blocked t c v.0 hx)
      (hop_ahead (length (ahead t a)) a v.0 (omega arith) h v.1)
      (hop_barred n v.0 b (omega (arith, l, ahead_less t c a h v.0 v.1)) hx hb v.2))

  lead_hops : (a b : ℕ) → 1 ≤ count a t.blocked → leads t a b ≡ true → hopping a b
  unfolding leads
  lead_hops a b m e =
      let h : blocked_lock (lock t a) ≡ true = blocked_node t c a m in
      let hb : blocked_lock (lock t b) ≡ true = and_left (blocked_lock (lock t b)) _ e in
      let k : (any (eqb b) (ahead t a) || barred t a b) ≡ true = and_right (blocked_lock (lock t b)) _ e in
      by_cases (any (eqb b) (ahead t a))
      (λ q. hop_ahead (length (ahead t a)) a b (omega arith) h (any_counted b (ahead t a) q))
      (λ q. hop_barred (length (ahead t a)) a b (omega arith) h hb (rw q at k))

  -- .. and each hop is a lead
  hop_leads : (a b : ℕ) → hops t a b ≡ true → leads t a b ≡ true
  unfolding hops leads nearest
  hop_leads a b e =
      let hb : blocked_lock (lock t b) ≡ true = and_left (blocked_lock (lock t b)) _ e in
      let k : (eqb b (nearest t a) || (looks t a && barred t a b)) ≡ true = and_right (blocked_lock (lock t b)) _ e in
      and_intro (blocked_lock (lock t b)) _ hb
      (by_cases (eqb b (nearest t a))
      (λ q. or_left (any (eqb b) (ahead t a)) (barred t a b) (near (ahead t a) hb (eqb-true b (nearest t a) q)))
      (λ q. or_right (any (eqb b) (ahead t a)) (barred t a b) (and_right (looks t a) (barred t a b) (rw q at k))))
    where
      near : (xs : List ℕ) → blocked_lock (lock t b) ≡ true → b ≡ last_or 0 xs → any (eqb b) xs ≡ true
      near [] hb e = clash (blocked_lock (lock t 0)) (rw e at hb) (unfold lock in refl)
      near (x ∷ xs) hb e = any_intro (eqb b) (x ∷ xs) b (rw e (last_in 0 (x ∷ xs) (omega arith))) (eqb_same b)

-- ---- walks

module _ {p q : ℕ → ℕ → Bool} {nodes : List ℕ} (f : (a b : ℕ) → 1 ≤ count a nodes → p a b ≡ true → Walk q nodes a b) where
  walk_by : (a b : ℕ) → 1 ≤ count a nodes → Walk p nodes a b → Walk q nodes a b
  walk_by a b m (step _ _ e) = f a b m e
  walk_by a b m (through _ c _ k e w) = join a c b k (f a c m e) (walk_by c b k w)

pub same_walks : (t : Tables) → Core t → (a b : ℕ) → 1 ≤ count a t.blocked → Walk (leads t) t.blocked a b ↔ Walk (hops t) t.blocked a b
same_walks t c a b m = (walk_by (lead_hops t c) a b m, walk_by (λ x y k e. step x y (hop_leads t c x y e)) a b m)

-- ---- the same of the state that the words tell

module _ (t u : Tables) (a : Alike t u) where
  pub looks_alike : (k : ℕ) → looks u k ≡ looks t k
  unfolding looks
  looks_alike k = λ i. ltb (count (a.locks k i).asked (map (λ j. (a.locks j i).asked) (ahead_alike t u a k i))) 2

  pub hops_alike : (j k : ℕ) → hops u j k ≡ hops t j k
  unfolding hops
  hops_alike j k = simp (a.locks, nearest_alike t u a, looks_alike, obstacles_alike t u a)

  leads_same : leads u ≡ leads t
  leads_same = λ i j k. leads_alike t u a j k i

  hops_same : hops u ≡ hops t
  hops_same = λ i j k. hops_alike j k i

pub same_walks_seen : (ws : List ℕ) → Some Core ws → (a b : ℕ) → 1 ≤ count a (seen ws).blocked → Walk (leads (seen ws)) (seen ws).blocked a b ↔ Walk (hops (seen ws)) (seen ws).blocked a b
same_walks_seen ws s a b m =
    let alike = some_alike ws s in
    rw (leads_same s.state (seen ws) alike, hops_same s.state (seen ws) alike, alike.stopped) (same_walks s.state s.good a b (rw alike.stopped at m))
