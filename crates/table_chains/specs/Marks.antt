-- Marks: a list with a place for the number of each record.
use Rattle.std.specs.Prelude.{Bool, false, List, ℕ, get_or}

-- k has its mark
unfoldable pub marked : List Bool → ℕ → Bool
marked m k = get_or m k false
