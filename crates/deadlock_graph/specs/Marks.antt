-- Marks on the nodes of a graph.
use Rattle.std.specs.Prelude.{◌≡◌, Bool, true, cond, List, [], ◌∷◌, ℕ, suc, length}
use Rattle.rules.specs.Walks.{Walk}
use Rattle.table_fields.specs.Sizes.{lock_places}
use Rattle.table_chains.specs.Marks.{marked}

-- how many of the nodes have no mark
unfoldable pub unmarked : List ℕ → List Bool → ℕ
unmarked [] m = 0
unmarked (x ∷ xs) m = cond (marked m x) (unmarked xs m) (suc (unmarked xs m))

-- no node that is marked leads back to itself
pub record Cleared (leads : ℕ → ℕ → Bool) (nodes : List ℕ) (m : List Bool) : Type 0 where
  pub wide : length m ≡ lock_places
  pub none : (x : ℕ) → marked m x ≡ true → Walk leads nodes x x → ⊥
