-- Telling whoever is in the way of a lock, one lock after the other, as code meets them along a queue; and where the notice chain ends.
use Rattle.std.specs.Prelude.{true, false, List, [], ◌∷◌, ℕ}
use Rattle.tables.specs.State.{Tables, lock, notices, of_locks}
use Rattle.tables.specs.Stores.{cell_holding}
use Rattle.rules.specs.Deadlock.{in_the_way}
use Rattle.rules.specs.Calls.{mark_lock}
use Rattle.table_chains.specs.Cells.{cell_of, cells_at}

-- the lock j is marked if it is in the way of k; the same for each lock of a list
unfoldable pub tell : ℕ → ℕ → Tables → Tables
tell k j t = elim (in_the_way t k j) [ true ↦ mark_lock (lock t k).asked j t | false ↦ t ]

unfoldable pub tell_each : ℕ → List ℕ → Tables → Tables
tell_each k [] t = t
tell_each k (j ∷ js) t = tell_each k js (tell k j t)

-- the place of the last cell of the notice chain, which holds 0
unfoldable pub notices_end : List ℕ → ℕ
notices_end ws =
    let c = cells_at (of_locks notices) ws in
    cell_holding ws (cell_of c) 0 c.most c.head
