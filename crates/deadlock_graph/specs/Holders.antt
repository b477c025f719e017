-- The holders on a resource, one after the other.
use Rattle.std.specs.Prelude.{◌≡◌, true, false, List, [], ◌∷◌, ℕ, ◌≤◌, eqb}
use Rattle.tables.specs.Lists.{count}
use Rattle.tables.specs.State.{lock}
use Rattle.tables.specs.Layout.{resources_in}
use Rattle.tables.specs.Grants.{holders}
use Rattle.tables.specs.Validity.{Core}
use Rattle.table_chains.specs.Promises.{Some}
use Rattle.deadlock_graph.specs.Promises.{seen}

-- k holds a mode on its resource
pub record Holds (ws : List ℕ) (k : ℕ) : Type 0 where
  pub some : Some Core ws
  pub stands : 1 ≤ count k (holders (seen ws) (lock (seen ws) k).resource)

-- a list from k on; nothing if k is not on it
unfoldable pub since : ℕ → List ℕ → List ℕ
since k [] = []
since k (j ∷ js) = elim (eqb k j) [ true ↦ j ∷ js | false ↦ since k js ]

-- the holders on r from k on; none from 0 on
unfoldable pub holders_since : List ℕ → ℕ → ℕ → List ℕ
holders_since ws r k = since k (holders (seen ws) r)

-- a walk along the holders on r is at k, or at its end, which is 0
pub record Looking (ws : List ℕ) (r k : ℕ) : Type 0 where
  pub some : Some Core ws
  pub low : 1 ≤ r
  pub high : r ≤ resources_in ws
  pub stands : (k ≡ 0 → ⊥) → 1 ≤ count k (holders (seen ws) r)
