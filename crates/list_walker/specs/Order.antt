-- The locks on a resource in grant, convert, wait order, and what follows one there.
use Rattle.std.specs.Prelude.{◌≡◌, cond, List, [], ◌++◌, ℕ, ◌≤◌, get_or, length, eqb}
use Rattle.tables.specs.Lists.{count, first, next}
use Rattle.tables.specs.State.{Resource, Tables, lock, resource, state_free, state_granted, state_converting}
use Rattle.tables.specs.Layout.{words}
use Rattle.tables.specs.Grants.{holders}
use Rattle.tables.specs.Validity.{Core}
use Rattle.table_chains.specs.Promises.{Resourced}

unfoldable pub locks_on : ℕ → Tables → List ℕ
locks_on r t = holders t r ++ (resource t r).wait

-- the first of them, or 0
unfoldable pub first_on : ℕ → Tables → ℕ
first_on r t = first (locks_on r t)

-- those on the queues past the one where locks in a state stand (free: all of them), and the first of these, or 0
abbrev pub queues_past : ℕ → Resource → List ℕ
queues_past s x =
    cond (eqb s state_free) (x.grant ++ (x.convert ++ x.wait))
    (cond (eqb s state_granted) (x.convert ++ x.wait)
    (cond (eqb s state_converting) x.wait []))

unfoldable pub first_past : ℕ → ℕ → Tables → ℕ
first_past r s t = first (queues_past s (resource t r))

-- the lock k stands on its resource
pub record Queued (k : ℕ) (t : Tables) : Type 0 where
  pub core : Core t
  pub on : 1 ≤ count k (locks_on (lock t k).resource t)

-- what follows it there, or 0
unfoldable pub next_on : ℕ → Tables → ℕ
next_on k t = next k (locks_on (lock t k).resource t)

-- n locks stand on r before k, which is the next there, or 0 past the last
pub record PlaceOn (r n k : ℕ) (t : Tables) : Type 0 where
  pub there : Resourced r t
  pub near : n ≤ length (locks_on r t)
  pub here : k ≡ get_or (locks_on r t) n 0

-- these are the words of a state in which k stands there, on some resource
pub record SomePlaceOn (n k : ℕ) (ws : List ℕ) : Type 0 where
  pub state : Tables
  pub resource : ℕ
  pub good : PlaceOn resource n k state
  pub is : ws ≡ words state
