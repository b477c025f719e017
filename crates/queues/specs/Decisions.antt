-- What is granted, decided from numbers in the record of the resource, and in that of the lock where there is one. Nothing else is read.
use Rattle.std.specs.Prelude.{Bool, ◌&&◌, ◌||◌, List, ℕ, eqb}
use Rattle.modes.specs.Modes.{NL, down}
use Rattle.tables.specs.declared.Lock.{Lock}
use Rattle.tables.specs.State.{converts, waits}
use Rattle.tables.specs.Layout.{of_resource, queue_head, word_in}
use Rattle.table_fields.specs.declared.ModeCounts.{ModeCounts}
use Rattle.table_fields.specs.Records.{read_counts}
use Rattle.queues.specs.declared.Occupancy.{Occupancy}
use Rattle.queues.specs.Holders.{no_mode, own_mode, goes_beside}

-- the heads of the convert and wait chains of r, and its counts
unfoldable pub read_occupancy : List ℕ → ℕ → Occupancy
read_occupancy ws r =
    record {
      convert = word_in ws (of_resource r (queue_head converts));
      wait = word_in ws (of_resource r (queue_head waits));
      counts = read_counts ws r;
    }

-- a new request of the mode m is granted at once. Of a state this is `granted_at_once` (rules/Calls)
unfoldable pub admits_request : Occupancy → ℕ → Bool
admits_request s m = eqb s.convert 0 && (eqb m NL || eqb s.wait 0) && goes_beside s.counts no_mode m

-- a granted lock that holds `own` takes the mode m where it stands. Of a state this is `in_place` (rules/Calls)
unfoldable pub admits_conversion : Occupancy → ℕ → ℕ → Bool
admits_conversion s own m = down own m || (eqb s.convert 0 && goes_beside s.counts own m)

-- the lock that is next to be granted, whose record is l, gets what it asks for. Of a state this is `convert_grantable` and `wait_grantable`
-- (tables/Grants)
unfoldable pub admits_head : ModeCounts → Lock → Bool
admits_head c l = goes_beside c (own_mode l) l.asked
