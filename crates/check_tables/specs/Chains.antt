-- What the pass over the resources finds, and what is looked at after it.
use Rattle.std.specs.Prelude.{◌≡◌, Bool, ◌&&◌, List, ℕ, ◌+◌, eqb, Option, is_some, IfSome}
use Rattle.tables.specs.Lists.{all, from}
use Rattle.tables.specs.Layout.{resources_in, locks_in}
use Rattle.table_fields.specs.Sizes.{Sized}
use Rattle.table_names.specs.Names.{names_differ}
use Rattle.table_names.specs.Promises.{Tidy}
use Rattle.check_laws.specs.Check.{resource_fine, free_resources_fine, homes_fine, blocked_fine, notices_fine, queues_walk, blocked_at, noticed_at, sum_over}
use Rattle.check_resources.specs.Passes.{free_count, blocked_count, noticed_count}
pub use Rattle.check_tables.specs.declared.HomeCounts.{HomeCounts}

-- each resource is fine
unfoldable pub resources_fine : List ℕ → List ℕ → Bool
resources_fine ws ss = all (resource_fine ws ss) (from 1 (resources_in ws))

-- the side chains and the names
unfoldable pub sides_fine : List ℕ → List ℕ → Bool
sides_fine ws ss = free_resources_fine ws && (blocked_fine ws && (notices_fine ws && names_differ ws ss))

-- what the pass finds, if there are `others` locks on the other home chains, `denied` of them denied, which belong on the notice chain: something
-- exactly if each resource is fine and these locks and those on the queues are all that there are; and then how many records belong on the side chains
pub record Queues (ws ss : List ℕ) (others denied : ℕ) (x : Option HomeCounts) : Type 0 where
  pub fine : is_some x ≡ (resources_fine ws ss && eqb (others + queues_walk ws (from 1 (resources_in ws))) (locks_in ws))
  pub free : IfSome x (λ c. c.free ≡ free_count ws)
  pub blocked : IfSome x (λ c. c.blocked ≡ sum_over (blocked_at ws) (from 1 (resources_in ws)))
  pub noticed : IfSome x (λ c. c.noticed ≡ denied + sum_over (noticed_at ws) (from 1 (resources_in ws)))

-- what is found of the resources and on all home chains
pub record Homes (ws ss : List ℕ) (x : Option HomeCounts) : Type 0 where
  pub fine : is_some x ≡ (resources_fine ws ss && homes_fine ws)
  pub free : IfSome x (λ c. c.free ≡ free_count ws)
  pub blocked : IfSome x (λ c. c.blocked ≡ blocked_count ws)
  pub noticed : IfSome x (λ c. c.noticed ≡ noticed_count ws)

-- words and slots whose resources passed, and how many records belong on the side chains
pub record Checked (ws ss : List ℕ) (x : HomeCounts) : Type 0 where
  pub sized : Sized ws
  pub tidy : Tidy ws ss
  pub free : x.free ≡ free_count ws
  pub blocked : x.blocked ≡ blocked_count ws
  pub noticed : x.noticed ≡ noticed_count ws
