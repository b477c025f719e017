-- Reachability: what leads to what, in one or more steps.
use Rattle.std.specs.Prelude.{◌≡◌, ◌↔◌, Bool, true, false, ◌||◌, List, ℕ, zero, suc, ◌≤◌, length}
use Rattle.tables.specs.Lists.{any, count}

-- from a to b in at most n steps, and at least one; on the way only such nodes
unfoldable pub reaches : (ℕ → ℕ → Bool) → List ℕ → ℕ → ℕ → ℕ → Bool
reaches leads nodes zero a b = false
reaches leads nodes (suc n) a b =
    leads a b || any (λ c. elim (leads a c) [ true ↦ reaches leads nodes n c b | false ↦ false ]) nodes

-- a walk of any length from a to b
pub data Walk (leads : ℕ → ℕ → Bool) (nodes : List ℕ) : ℕ → ℕ → Type 0 where
  step : (a b : ℕ) → leads a b ≡ true → Walk leads nodes a b
  through : (a c b : ℕ) → 1 ≤ count c nodes → leads a c ≡ true → Walk leads nodes c b → Walk leads nodes a b

-- THE SEARCH IS COMPLETE: as many steps as there are nodes find a walk of any length. Proved as `search_complete`.
abbrev pub SearchComplete : Type 0
SearchComplete =
    (leads : ℕ → ℕ → Bool) (nodes : List ℕ) (a b : ℕ) → 1 ≤ count a nodes → (reaches leads nodes (length nodes) a b ≡ true) ↔ Walk leads nodes a b
