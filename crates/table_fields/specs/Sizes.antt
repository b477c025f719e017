-- Words that are as long as their first two say, and how many places arrays by record have.
use Rattle.std.specs.Prelude.{◌≡◌, List, ℕ, ◌+◌, ◌≤◌, length}
use Rattle.tables.specs.State.{most_resources, most_locks}
use Rattle.tables.specs.Layout.{size, resources_in, locks_in}

-- places for what is kept of each record, at its number; 0 is no record's
abbrev pub resource_places : ℕ
resource_places = most_resources + 1

abbrev pub lock_places : ℕ
lock_places = most_locks + 1

-- what every access to the words stands on
pub record Sized (ws : List ℕ) : Type 0 where
  pub long : length ws ≡ size (resources_in ws) (locks_in ws)
  pub few_resources : resources_in ws ≤ most_resources
  pub few_locks : locks_in ws ≤ most_locks

-- the words vs, after a store into ws, are as long and say so
pub record Kept (ws vs : List ℕ) : Type 0 where
  pub sized : Sized vs
  pub same_resources : resources_in vs ≡ resources_in ws
  pub same_locks : locks_in vs ≡ locks_in ws
