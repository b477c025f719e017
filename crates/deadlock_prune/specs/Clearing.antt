-- What is known before and after clearing: cleared locks are on no cycle.
use Rattle.std.specs.Prelude.{◌≡◌, Bool, List, ℕ}
use Rattle.tables.specs.Validity.{Core}
use Rattle.table_chains.specs.Promises.{Some}
use Rattle.deadlock_graph.specs.Promises.{seen}
use Rattle.deadlock_graph.specs.Hops.{hops}
use Rattle.deadlock_graph.specs.Links.{Ended, Linked}
use Rattle.deadlock_graph.specs.Marks.{unmarked, Cleared}

-- n blocked locks are not cleared, and their links are there
pub record Uncleared (ws ls : List ℕ) (m : List Bool) (n : ℕ) : Type 0 where
  pub linked : Linked ws ls m
  pub cleared : Cleared (hops (seen ws)) (seen ws).blocked m
  pub is : n ≡ unmarked (seen ws).blocked m

-- what the cheap pass along the lines stands on
pub record Clearable (ws : List ℕ) (m : List Bool) : Type 0 where
  pub some : Some Core ws
  pub cleared : Cleared (hops (seen ws)) (seen ws).blocked m

-- what clearing from both ends stands on
pub record Prunable (ws ls lasts : List ℕ) (m : List Bool) : Type 0 where
  pub linked : Linked ws ls m
  pub ended : Ended ws lasts
  pub cleared : Cleared (hops (seen ws)) (seen ws).blocked m
