-- Walks along the chains in the words of a state.
use Rattle.std.specs.Prelude.{◌≡◌, true, List, ℕ, ◌≤◌, eqb}
use Rattle.tables.specs.Lists.{first_that}
use Rattle.tables.specs.Layout.{of_lock, locks_in, word_in, lock_link, onward}
use Rattle.tables.specs.Sound.{ends}
use Rattle.tables.specs.Threads.{Each}
use Rattle.tables.specs.Validity.{Core}
use Rattle.table_chains.specs.Promises.{Some}

-- k is one of the locks in the words of a state
pub record At (ws : List ℕ) (k : ℕ) : Type 0 where
  pub some : Some Core ws
  pub low : 1 ≤ k
  pub high : k ≤ locks_in ws

-- a walk from k on, where the field f of each lock names the next, comes to its end, and meets such locks only
pub record Walking (ws : List ℕ) (f k : ℕ) : Type 0 where
  pub some : Some Core ws
  pub ended : ends (lock_link ws f) (locks_in ws) k ≡ true
  pub met : Each (λ j. (1 ≤ j) × (j ≤ locks_in ws)) (onward ws f k)

-- the first lock from k on whose field g is v, or 0
unfoldable pub first_with : List ℕ → ℕ → ℕ → ℕ → ℕ → ℕ
first_with ws f g v k = first_that (λ j. eqb (word_in ws (of_lock j g)) v) (onward ws f k)
