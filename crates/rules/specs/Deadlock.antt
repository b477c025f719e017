-- Deadlock: a blocked lock that leads back to itself.
use Rattle.std.specs.Prelude.{◌≡◌, ◌↔◌, Bool, true, false, ◌&&◌, ◌||◌, not, cond, List, [], ◌∷◌, ◌++◌, ℕ, suc, ◌≤◌, length, eqb}
use Rattle.modes.specs.Modes.{compatible}
use Rattle.tables.specs.Lists.{count, any, keep, first_that}
use Rattle.tables.specs.declared.Lock.{Lock}
use Rattle.tables.specs.State.{Tables, lock, resource, waiting, blocked_lock}
use Rattle.tables.specs.Grants.{holders}
use Rattle.tables.specs.Validity.{Core}
use Rattle.rules.specs.Walks.{reaches, Walk}

-- those before k
unfoldable pub before : ℕ → List ℕ → List ℕ
before k [] = []
before k (j ∷ js) = elim (eqb k j) [ true ↦ [] | false ↦ j ∷ before k js ]

-- "ahead (on a's own chain; for a waiting a, also all of the convert chain)"
unfoldable pub ahead : Tables → ℕ → List ℕ
ahead t a =
    let x = resource t (lock t a).resource in
    cond (waiting (lock t a)) (x.convert ++ before a x.wait) (before a x.convert)

-- "any lock other than a whose held mode there is incompatible with a's asked mode"
unfoldable pub in_the_way : Tables → ℕ → ℕ → Bool
in_the_way t a j = not (eqb j a) && not (compatible (lock t j).held (lock t a).asked)

unfoldable pub obstacles : Tables → ℕ → List ℕ
obstacles t a = keep (in_the_way t a) (holders t (lock t a).resource)

-- who owns a lock; a blocked lock leads to the blocked locks of the owners that are in its way
abbrev pub owner : Lock → ℕ
owner l = l.client

-- the blocked lock a *leads to* b
unfoldable pub leads : Tables → ℕ → ℕ → Bool
leads t a b =
    blocked_lock (lock t b) && (any (eqb b) (ahead t a) || any (λ j. eqb (owner (lock t j)) (owner (lock t b))) (obstacles t a))

-- it leads back to itself in one or more steps; the search is never deeper than the count of blocked locks
unfoldable pub deadlocked : Tables → ℕ → Bool
deadlocked t a = reaches (leads t) t.blocked (length t.blocked) a a

-- "the first lock on the blocked chain that leads back to itself", or 0
unfoldable pub victim : Tables → ℕ
victim t = first_that (deadlocked t) t.blocked

-- WHAT BREAK FINDS, of whatever length a cycle is. k is the first lock on the blocked chain that leads back to itself in one or more steps
pub record Victim (t : Tables) (k : ℕ) : Type 0 where
  pub stands : 1 ≤ count k t.blocked
  pub cycle : Walk (leads t) t.blocked k k
  pub first : (j : ℕ) → 1 ≤ count j (before k t.blocked) → Walk (leads t) t.blocked j j → ⊥

-- no blocked lock leads back to itself
pub record NoCycle (t : Tables) : Type 0 where
  pub none : (a : ℕ) → 1 ≤ count a t.blocked → Walk (leads t) t.blocked a a → ⊥

-- a lock is the victim exactly then, and there is none exactly if there is no cycle. Proved as `victim_found`.
abbrev pub VictimFound : Type 0
VictimFound = (t : Tables) → Core t → ((k : ℕ) → (victim t ≡ suc k) ↔ Victim t (suc k)) × ((victim t ≡ 0) ↔ NoCycle t)
