-- How many records belong on a chain, and what the walks stand on.
use Rattle.std.specs.Prelude.{not, List, ℕ, ◌≤◌, length}
use Rattle.tables.specs.Lists.{from, keep}
use Rattle.tables.specs.State.{blocked_lock, noticed}
use Rattle.tables.specs.Layout.{resources_in, locks_in, read_lock}
use Rattle.table_fields.specs.Sizes.{Sized}
use Rattle.table_names.specs.Names.{named}

-- how many records belong on the chain of free resources, on the blocked and on the notice chain
unfoldable pub free_count : List ℕ → ℕ
free_count ws = length (keep (λ r. not (named ws r)) (from 1 (resources_in ws)))

unfoldable pub blocked_count : List ℕ → ℕ
blocked_count ws = length (keep (λ k. blocked_lock (read_lock ws k)) (from 1 (locks_in ws)))

unfoldable pub noticed_count : List ℕ → ℕ
noticed_count ws = length (keep (λ k. noticed (read_lock ws k)) (from 1 (locks_in ws)))

-- words whose sizes are right
pub record Fine (ws : List ℕ) : Type 0 where
  pub sized : Sized ws
  pub some : 1 ≤ locks_in ws
