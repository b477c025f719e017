-- The marks of a search: how many blocked locks have none, and which locks one hops to. A search in vain, after another.
use mathlib.Core.Path.{◌≡◌, refl}
use mathlib.Core.Logic.{◌≢◌}
use mathlib.Core.Bool.{Bool, true, false}
use mathlib.Core.List.{List, [], ◌∷◌}
use Prim.Native.Nat.{ℕ, ◌≤◌}
use native.Mathlib.Omega.{arith}
use lib.Dec.{eqb}
use borrow.Author.Tests.{eqb-true, eq-eqb}
use Rattle.tables.specs.Lists.{count, any, keep}
use Rattle.tables.specs.State.{lock, blocked_lock}
use Rattle.tables.specs.Grants.{holders}
use Rattle.tables.specs.Validity.{Core}
use Rattle.tables.proofs.Cases.{by_cases, by_equal, clash, and_left, and_right, or_right}
use Rattle.tables.proofs.Counts.{count_nil, count_other, count_keep, any_has, any_intro}
use Rattle.rules.specs.Deadlock.{in_the_way, obstacles, owner}
use Rattle.table_chains.specs.Promises.{Some}
use Rattle.table_chains.specs.Marks.{marked}
use Rattle.deadlock_graph.specs.Promises.{seen}
use Rattle.deadlock_graph.specs.Hops.{nearest, looks, hops}
use Rattle.deadlock_graph.specs.Links.{link_of, mate}
use Rattle.deadlock_graph.specs.Marks.{unmarked}
use Rattle.deadlock_graph.proofs.Marks.{Keeping}
use Rattle.deadlock_graph.proofs.LinkLaws.{on_none}
use Rattle.deadlock_graph.proofs.NearestLocks.{nearest_blocked_seen}
use Rattle.deadlock_graph.proofs.LockWords.{blocked_is, is_blocked}
use Rattle.deadlock_search.specs.Searches.{Lists, first_of, Tried, Vain}
use Rattle.deadlock_search.proofs.OwnerLists.{standing_at, shorter_on}

-- ---- how many are left

-- an unmarked node is one of those left
pub some_left : (xs : List ℕ) (m : List Bool) (x : ℕ) → 1 ≤ count x xs → marked m x ≡ false → 1 ≤ unmarked xs m
unfolding unmarked
some_left [] m x l f = absurd (omega (arith, count_nil x))
some_left (y ∷ xs) m x l f =
    by_equal x y
    (λ e. let f' : marked m y ≡ false = rw e at f in rw f' (omega arith))
    (λ e. let rest = some_left xs m x (rw (count_other x y xs e) at l) f in
    by_cases (marked m y) (λ h. rw h rest) (λ h. rw h (omega arith)))

-- ---- where a lock hops to

module _ (ws : List ℕ) (s : Some Core ws) (a : ℕ) (k : 1 ≤ count a (seen ws).blocked) where
  pub hop_ahead : nearest (seen ws) a ≢ 0 → hops (seen ws) a (nearest (seen ws) a) ≡ true
  unfolding hops
  hop_ahead n =
      rw (blocked_is ws (nearest (seen ws) a) (nearest_blocked_seen ws a (record { some = s; stands = k }) n), eq-eqb (nearest (seen ws) a) (nearest (seen ws) a) refl)

  -- the holder j is in a's way, and b has its owner
  module _ (j b : ℕ) where
    pub hop_owner : looks (seen ws) a ≡ true → 1 ≤ count j (holders (seen ws) (lock (seen ws) a).resource) → in_the_way (seen ws) a j ≡ true →
        1 ≤ count b (seen ws).blocked → owner (lock (seen ws) j) ≡ owner (lock (seen ws) b) → hops (seen ws) a b ≡ true
    unfolding hops obstacles
    hop_owner l h w m e =
        let in_way : 1 ≤ count j (keep (in_the_way (seen ws) a) (holders (seen ws) (lock (seen ws) a).resource)) =
        rw (count_keep (in_the_way (seen ws) a) j (holders (seen ws) (lock (seen ws) a).resource), w) h in
        let some : any (λ i. eqb (owner (lock (seen ws) i)) (owner (lock (seen ws) b))) (keep (in_the_way (seen ws) a) (holders (seen ws) (lock (seen ws) a).resource)) ≡ true =
        any_intro _ _ j in_way (eq-eqb (owner (lock (seen ws) j)) (owner (lock (seen ws) b)) e) in
        rw (blocked_is ws b (record { some = s; stands = m }), l, some) (or_right (eqb b (nearest (seen ws) a)) true refl)

  -- all that a hops to have marks, if the lock right ahead has one and so have all locks of the owners in a's way
  pub hops_tried : (m : List Bool) → (nearest (seen ws) a ≢ 0 → marked m (nearest (seen ws) a) ≡ true) →
      (looks (seen ws) a ≡ true → (j b : ℕ) → 1 ≤ count j (holders (seen ws) (lock (seen ws) a).resource) → in_the_way (seen ws) a j ≡ true → 1 ≤ count b (seen ws).blocked →
      owner (lock (seen ws) j) ≡ owner (lock (seen ws) b) → marked m b ≡ true) → Tried ws m a
  unfolding hops obstacles
  hops_tried m front rest =
      record {
        each = λ y h.
            let stands = is_blocked ws y s (and_left (blocked_lock (lock (seen ws) y)) _ h) in
            let way = and_right (blocked_lock (lock (seen ws) y)) _ h in
            by_cases (eqb y (nearest (seen ws) a))
            (λ e.
            let q = eqb-true y (nearest (seen ws) a) e in
            rw q (front (λ z. absurd (omega (arith, (standing_at s y stands.stands).low)))))
            (λ e.
            let both = rw e at way in
            let o = any_has (λ i. eqb (owner (lock (seen ws) i)) (owner (lock (seen ws) y))) _ (and_right (looks (seen ws) a) _ both) in
            by_cases (in_the_way (seen ws) a o.0)
            (λ w. rest (and_left (looks (seen ws) a) _ both) o.0 y (rw (count_keep (in_the_way (seen ws) a) o.0 (holders (seen ws) (lock (seen ws) a).resource), w) at o.1) w stands.stands (eqb-true _ _ o.2))
            (λ w. absurd (omega (arith, rw (count_keep (in_the_way (seen ws) a) o.0 (holders (seen ws) (lock (seen ws) a).resource), w) at o.1))));
      }

-- ---- owners by their numbers

module _ {ws ls hs : List ℕ} {m : List Bool} (l : Lists ws ls hs m) where
  -- where the list of j's owner is empty, all locks of that owner have marks
  pub empty_marked : (j b : ℕ) → link_of ls j 2 ≡ link_of ls b 2 → first_of ls hs j ≡ 0 → 1 ≤ count b (seen ws).blocked → marked m b ≡ true
  unfolding first_of
  empty_marked j b same z h =
      by_cases (marked m b)
      (λ g. g)
      (λ g. absurd (omega (arith, (standing_at l.linked.some b h).low, on_none (mate ls) _ b (rw same at z) (l.listed.each b h g))))

-- ---- searches in vain

tried_kept : {ws : List ℕ} {m m' : List Bool} {x : ℕ} → Keeping m m' → Tried ws m x → Tried ws m' x
tried_kept k h = record { each = λ y e. k y (h.each y e) }

module _ {ws ls : List ℕ} {t : ℕ} where
  pub vain_none : {hs : List ℕ} {m : List Bool} → Lists ws ls hs m → marked m t ≡ false → Vain ws ls t hs m hs m
  vain_none {hs} {m} l c =
      record { lists = l; shorter = record { size = refl; spent = λ o z. z }; clean = c; kept = λ x h. h; closed = λ x f h. clash (marked m x) h f }

  pub vain_on : {hs hs' hs'' : List ℕ} {m m' m'' : List Bool} → Vain ws ls t hs m hs' m' → Vain ws ls t hs' m' hs'' m'' → Vain ws ls t hs m hs'' m''
  vain_on {hs} {hs'} {hs''} {m} {m'} {m''} p q =
      record {
        lists = q.lists;
        shorter = shorter_on p.shorter q.shorter;
        clean = q.clean;
        kept = λ x h. q.kept x (p.kept x h);
        closed = λ x f h. by_cases (marked m' x) (λ g. tried_kept q.kept (p.closed x f g)) (λ g. q.closed x g h);
      }
