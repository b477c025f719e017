-- The second half of a purge: each resource that is marked is settled.
use Rattle.std.specs.Prelude.{Bool, true, false, List, ℕ, length}
use Rattle.tables.specs.Lists.{keep, from}
use Rattle.tables.specs.State.{Tables}
use Rattle.rules.specs.Queues.{settle}
use Rattle.rules.specs.Calls.{settle_all}
use Rattle.table_chains.specs.Marks.{marked}

unfoldable pub settle_if : Bool → ℕ → Tables → Tables
settle_if b r t = elim b [ true ↦ settle r t | false ↦ t ]

unfoldable pub settle_marked : List Bool → Tables → Tables
settle_marked m t = settle_all (keep (marked m) (from 1 (length t.resources))) t
