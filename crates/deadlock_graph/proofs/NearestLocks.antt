-- The lock right ahead of a blocked lock is the one before it on its line.
use mathlib.Core.Path.{◌≡◌, refl, sym, ap, ◌∙◌}
use mathlib.Core.Logic.{◌≢◌}
use mathlib.Core.Bool.{true}
use mathlib.Core.List.{List, [], ◌∷◌, ◌++◌, append-nil}
use Prim.Native.Nat.{ℕ, ◌≤◌, ◌<◌}
use native.Mathlib.Omega.{arith}
use lib.ListN.{get_or, length}
use borrow.Author.Tests.{eq-eqb, ne_eqb}
use Rattle.tables.specs.Lists.{count}
use Rattle.tables.specs.State.{Tables, lock, blocked_lock, blocked}
use Rattle.tables.proofs.Cases.{by_equal}
use Rattle.tables.proofs.Counts.{count_nil, count_same, count_other, count_append, count_step}
use Rattle.tables.specs.Validity.{Core, line}
use Rattle.tables.proofs.ChainMembers.{on_chain, chain_has, blocked_within, line_blocked, line_once}
use Rattle.rules.specs.Deadlock.{before, ahead}
use Rattle.rules.proofs.DeadlockVictim.{count_before}
use Rattle.table_chains.specs.Promises.{Some}
use Rattle.deadlock_graph.specs.Promises.{seen, Blocked}
use Rattle.deadlock_graph.specs.Hops.{last_or, nearest}
use Rattle.deadlock_graph.specs.Holders.{since}
use Rattle.deadlock_graph.proofs.SameVictim.{Alike, ahead_alike}
use Rattle.deadlock_graph.proofs.LockWords.{some_alike}
use Rattle.deadlock_graph.proofs.LineAhead.{before_here, before_past, line_here, line_has, ahead_line, line_alike}

-- ---- the last of a list

pub last_in : (d : ℕ) (xs : List ℕ) → 1 ≤ length xs → 1 ≤ count (last_or d xs) xs
last_in d [] h = absurd (omega arith)
last_in d (x ∷ []) h = omega (arith, count_same x [])
last_in d (x ∷ y ∷ ys) h = omega (arith, last_in x (y ∷ ys) (omega arith), count_step (last_or y ys) x (y ∷ ys))

pub last_some : (xs : List ℕ) → last_or 0 xs ≢ 0 → 1 ≤ length xs
last_some [] n = absurd (n refl)
last_some (x ∷ xs) n = omega arith

pub last_append : (d : ℕ) (xs ys : List ℕ) → last_or d (xs ++ ys) ≡ last_or (last_or d xs) ys
last_append d [] ys = refl
last_append d (x ∷ xs) ys = last_append x xs ys

-- ---- before and since

before_nil : (a : ℕ) → before a [] ≡ []
unfolding before
before_nil a = refl

pub before_since : (a : ℕ) (xs : List ℕ) → xs ≡ before a xs ++ since a xs
before_since a [] = unfold before since in refl
before_since a (x ∷ xs) =
    by_equal a x
    (λ e. rw (before_here a x xs e) (unfold since in sym (rw (eq-eqb a x e, since))))
    (λ e. rw (before_past a x xs e) (ap (λ zs. x ∷ zs) (before_since a xs ∙ unfold since in sym (rw (ne_eqb a x e, since)))))

-- what stands before a member of a list has fewer before it, and the place of a member tells which it is
pub before_less : (x a : ℕ) (xs : List ℕ) → 1 ≤ count x (before a xs) → length (before x xs) < length (before a xs)
before_less x a [] m = absurd (omega (arith, count_nil x, rw (before_nil a) at m))
before_less x a (z ∷ zs) m =
    by_equal a z
    (λ e. absurd (omega (arith, count_nil x, rw (before_here a z zs e) at m)))
    (λ e. by_equal x z
    (λ d. rw (before_here x z zs d, before_past a z zs e) (omega arith))
    (λ d. rw (before_past x z zs d, before_past a z zs e) (omega (arith, before_less x a zs (rw (before_past a z zs e, count_other x z (before a zs) d) at m)))))

at_before : (a : ℕ) (xs : List ℕ) → 1 ≤ count a xs → get_or xs (length (before a xs)) 0 ≡ a
at_before a [] m = absurd (omega (arith, count_nil a))
at_before a (x ∷ xs) m =
    by_equal a x
    (λ e. rw (before_here a x xs e) (sym e))
    (λ e. rw (before_past a x xs e) (at_before a xs (rw (count_other a x xs e) at m)))

before_one : (a b : ℕ) (xs : List ℕ) → 1 ≤ count a xs → 1 ≤ count b xs → before a xs ≡ before b xs → a ≡ b
before_one a b xs m n e = sym (at_before a xs m) ∙ ap (λ zs. get_or xs (length zs) 0) e ∙ at_before b xs n

before_short : (a : ℕ) (xs : List ℕ) → 1 ≤ count a xs → length (before a xs) < length xs
before_short a [] m = absurd (omega (arith, count_nil a))
before_short a (x ∷ xs) m =
    by_equal a x
    (λ e. rw (before_here a x xs e) (omega arith))
    (λ e. rw (before_past a x xs e) (omega (arith, before_short a xs (rw (count_other a x xs e) at m))))

-- the first part of a list, in which nothing stands twice: what stands before its last, and that
pub before_last : (d : ℕ) (xs ys : List ℕ) → ((k : ℕ) → count k (xs ++ ys) ≤ 1) → 1 ≤ length xs → xs ≡ before (last_or d xs) (xs ++ ys) ++ (last_or d xs ∷ [])
before_last d [] ys o h = absurd (omega arith)
before_last d (x ∷ []) ys o h = rw (before_here x x ys refl)
before_last d (x ∷ y ∷ xs) ys o h =
    let p = last_or y xs in
    let o' : (k : ℕ) → count k ((y ∷ xs) ++ ys) ≤ 1 = λ k. omega (arith, o k, count_step k x ((y ∷ xs) ++ ys)) in
    let far : p ≢ x =
    λ e. omega (arith, rw (count_same x ((y ∷ xs) ++ ys)) at (o x), count_append x (y ∷ xs) ys, rw e at (last_in x (y ∷ xs) (omega arith))) in
    rw (before_past p x ((y ∷ xs) ++ ys) far) (ap (λ zs. x ∷ zs) (before_last x (y ∷ xs) ys o' (omega arith)))

-- ---- the lock right ahead

module _ (t : Tables) (c : Core t) where
  pub blocked_node : (k : ℕ) → 1 ≤ count k t.blocked → blocked_lock (lock t k) ≡ true
  blocked_node k m = (on_chain t c.linked blocked k m).1

  pub node_blocked : (k : ℕ) → blocked_lock (lock t k) ≡ true → 1 ≤ count k t.blocked
  node_blocked k h = omega (arith, chain_has t c.linked blocked k (blocked_within t k h) h)

  module _ (a : ℕ) (h : blocked_lock (lock t a) ≡ true) where
    abbrev home_line : List ℕ
    home_line = line t (lock t a).resource

    -- who stands ahead of a stands on a's line
    pub ahead_on : (x : ℕ) → 1 ≤ count x (ahead t a) → 1 ≤ count x home_line
    ahead_on x m = omega (arith, count_before x a home_line, rw (ahead_line t c a h) at m)

    pub ahead_here : (x : ℕ) → 1 ≤ count x (ahead t a) → (lock t x).resource ≡ (lock t a).resource
    ahead_here x m = line_here t c (lock t a).resource x (ahead_on x m)

    pub ahead_blocked : (x : ℕ) → 1 ≤ count x (ahead t a) → blocked_lock (lock t x) ≡ true
    ahead_blocked x m = line_blocked t c (lock t a).resource x (ahead_on x m)

    ahead_before : (x : ℕ) → 1 ≤ count x (ahead t a) → ahead t x ≡ before x home_line
    ahead_before x m = ahead_line t c x (ahead_blocked x m) ∙ ap (λ r. before x (line t r)) (ahead_here x m)

    -- .. and has fewer ahead of it
    pub ahead_less : (x : ℕ) → 1 ≤ count x (ahead t a) → length (ahead t x) < length (ahead t a)
    ahead_less x m = rw (ahead_before x m, ahead_line t c a h) (before_less x a home_line (rw (ahead_line t c a h) at m))

    -- those ahead of a are those ahead of the lock right ahead, and this
    pub nearest_ahead : 1 ≤ length (ahead t a) → 1 ≤ count (nearest t a) (ahead t a)
    unfolding nearest
    nearest_ahead l = last_in 0 (ahead t a) l

    split_line : 1 ≤ length (ahead t a) → before a home_line ≡ before (nearest t a) home_line ++ (nearest t a ∷ [])
    unfolding nearest
    split_line l =
        rw (ahead_line t c a h)
        (rw (← before_since a home_line) at (before_last 0 (before a home_line) (since a home_line) (λ k. rw (← before_since a home_line) (line_once t c (lock t a).resource k)) (rw (ahead_line t c a h) at l)))

    pub ahead_nearest : 1 ≤ length (ahead t a) → ahead t a ≡ ahead t (nearest t a) ++ (nearest t a ∷ [])
    ahead_nearest l = ahead_line t c a h ∙ split_line l ∙ ap (λ zs. zs ++ (nearest t a ∷ [])) (sym (ahead_before (nearest t a) (nearest_ahead l)))

    -- a lock that is right ahead of a stands there
    pub nearest_some : nearest t a ≢ 0 → 1 ≤ length (ahead t a)
    unfolding nearest
    nearest_some n = last_some (ahead t a) n

    pub nearest_stands : nearest t a ≢ 0 → 1 ≤ count (nearest t a) (ahead t a)
    nearest_stands n = nearest_ahead (nearest_some n)

    pub nearest_here : nearest t a ≢ 0 → (lock t (nearest t a)).resource ≡ (lock t a).resource
    nearest_here n = ahead_here (nearest t a) (nearest_stands n)

    pub nearest_blocked : nearest t a ≢ 0 → blocked_lock (lock t (nearest t a)) ≡ true
    nearest_blocked n = ahead_blocked (nearest t a) (nearest_stands n)

    pub nearest_less : nearest t a ≢ 0 → length (ahead t (nearest t a)) < length (ahead t a)
    nearest_less n = ahead_less (nearest t a) (nearest_stands n)

  -- no two blocked locks have the same lock right ahead
  pub nearest_one : (x y : ℕ) → blocked_lock (lock t x) ≡ true → blocked_lock (lock t y) ≡ true → nearest t x ≡ nearest t y → nearest t x ≢ 0 → x ≡ y
  nearest_one x y hx hy e n =
      let ny : nearest t y ≢ 0 = λ z. n (e ∙ z) in
      let same : (lock t x).resource ≡ (lock t y).resource = sym (nearest_here x hx n) ∙ ap (λ p. (lock t p).resource) e ∙ nearest_here y hy ny in
      before_one x y (line t (lock t x).resource) (line_has t c x hx) (rw same (line_has t c y hy))
      (split_line x hx (nearest_some x hx n)
      ∙ ap (λ p. before p (line t (lock t x).resource) ++ (p ∷ [])) e
      ∙ ap (λ r. before (nearest t y) (line t r) ++ (nearest t y ∷ [])) same
      ∙ sym (split_line y hy (nearest_some y hy ny))
      ∙ ap (λ r. before y (line t r)) (sym same))

  -- none has the last lock of a line right ahead
  module _ (r : ℕ) where
    abbrev end : ℕ
    end = last_or 0 (line t r)

    pub end_on : end ≢ 0 → 1 ≤ count end (line t r)
    end_on n = last_in 0 (line t r) (last_some (line t r) n)

    pub end_blocked : end ≢ 0 → blocked_lock (lock t end) ≡ true
    end_blocked n = line_blocked t c r end (end_on n)

    pub end_last : (x : ℕ) → blocked_lock (lock t x) ≡ true → nearest t x ≡ end → end ≡ 0
    end_last x h e = by_equal end 0 (λ z. z) (λ n. absurd (none n))
      where
        none : end ≢ 0 → ⊥
        none n =
            let m : nearest t x ≢ 0 = λ z. n (sym e ∙ z) in
            let here : (lock t x).resource ≡ r = sym (nearest_here x h m) ∙ ap (λ p. (lock t p).resource) e ∙ line_here t c r end (end_on n) in
            let whole : line t r ≡ before end (line t r) ++ (end ∷ []) =
            rw (append-nil (line t r)) at (before_last 0 (line t r) [] (λ k. rw (append-nil (line t r)) (line_once t c r k)) (last_some (line t r) n)) in
            let all : before x (line t r) ≡ line t r = rw (here, e) at (split_line x h (nearest_some x h m)) ∙ sym whole in
            omega (arith, before_short x (line t r) (rw here at (line_has t c x h)), ap length all)

-- ---- the same of the state that the words tell

pub nearest_alike : (t u : Tables) → Alike t u → (k : ℕ) → nearest u k ≡ nearest t k
unfolding nearest
nearest_alike t u a k = ap (last_or 0) (ahead_alike t u a k)

module _ (ws : List ℕ) (s : Some Core ws) where
  pub seen_node : (k : ℕ) → 1 ≤ count k (seen ws).blocked → blocked_lock (lock s.state k) ≡ true
  seen_node k m = blocked_node s.state s.good k (rw (some_alike ws s).stopped at m)

  node_seen : (k : ℕ) → blocked_lock (lock s.state k) ≡ true → 1 ≤ count k (seen ws).blocked
  node_seen k h = rw (some_alike ws s).stopped (node_blocked s.state s.good k h)

  pub nearest_seen : (k : ℕ) → nearest (seen ws) k ≡ nearest s.state k
  nearest_seen k = nearest_alike s.state (seen ws) (some_alike ws s) k

  pub seen_line : (r : ℕ) → line (seen ws) r ≡ line s.state r
  seen_line r = line_alike s.state (seen ws) (some_alike ws s) r

  pub nearest_one_seen : (x y : ℕ) → 1 ≤ count x (seen ws).blocked → 1 ≤ count y (seen ws).blocked → nearest (seen ws) x ≡ nearest (seen ws) y → nearest (seen ws) x ≢ 0 → x ≡ y
  nearest_one_seen x y mx my e n =
      nearest_one s.state s.good x y (seen_node x mx) (seen_node y my) (rw (nearest_seen x, nearest_seen y) at e) (λ z. n (nearest_seen x ∙ z))

  module _ (r : ℕ) where
    pub end_blocked_seen : last_or 0 (line (seen ws) r) ≢ 0 → 1 ≤ count (last_or 0 (line (seen ws) r)) (seen ws).blocked
    end_blocked_seen n = rw (seen_line r) (node_seen (last_or 0 (line s.state r)) (end_blocked s.state s.good r (rw (seen_line r) at n)))

    pub end_last_seen : (x : ℕ) → 1 ≤ count x (seen ws).blocked → nearest (seen ws) x ≡ last_or 0 (line (seen ws) r) → last_or 0 (line (seen ws) r) ≡ 0
    end_last_seen x m e = rw (seen_line r) (end_last s.state s.good r x (seen_node x m) (rw (nearest_seen x, seen_line r) at e))

-- the lock right ahead of a blocked lock, if there is one, is blocked on the same resource, and has fewer ahead of it
module _ (ws : List ℕ) (a : ℕ) (b : Blocked ws a) where
  abbrev told : Some Core ws
  told = b.some

  there : blocked_lock (lock told.state a) ≡ true
  there = seen_node ws told a b.stands

  module _ (n : nearest (seen ws) a ≢ 0) where
    some_near : nearest told.state a ≢ 0
    some_near z = n (nearest_seen ws told a ∙ z)

    pub nearest_blocked_seen : Blocked ws (nearest (seen ws) a)
    nearest_blocked_seen =
        record { some = told; stands = rw (nearest_seen ws told a) (node_seen ws told (nearest told.state a) (nearest_blocked told.state told.good a there some_near)) }

    pub nearest_here_seen : (lock (seen ws) (nearest (seen ws) a)).resource ≡ (lock (seen ws) a).resource
    nearest_here_seen =
        rw (nearest_seen ws told a, (some_alike ws told).locks (nearest told.state a), (some_alike ws told).locks a)
        (nearest_here told.state told.good a there some_near)

    pub nearest_less_seen : length (ahead (seen ws) (nearest (seen ws) a)) < length (ahead (seen ws) a)
    nearest_less_seen =
        let like = ahead_alike told.state (seen ws) (some_alike ws told) in
        rw (nearest_seen ws told a, like (nearest told.state a), like a) (nearest_less told.state told.good a there some_near)
