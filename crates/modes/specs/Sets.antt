-- A set of modes is a number below 64: bit m says whether mode m is in it.
use Rattle.std.specs.Prelude.{◌≡◌, Bool, false, cond, ◌||◌, not, List, ℕ, ◌+◌, ◌/◌, ◌%◌, ◌^◌, ◌<◌, eqb, get_or}
use Rattle.modes.specs.Modes.{all_modes, compatible}

-- the mode is in the set: its bit is 1
unfoldable pub in_set : ℕ → ℕ → Bool
in_set set mode = eqb (set / 2 ^ mode % 2) 1

-- the asked mode is compatible with every mode of the set
unfoldable pub fits_set : ℕ → ℕ → Bool
fits_set set asked = all_modes (λ m. not (in_set set m) || compatible m asked)

-- the row tells it of each asked mode
pub record FitsRow (set : ℕ) (row : List Bool) : Type 0 where
  pub entry : (asked : ℕ) → asked < 6 → get_or row asked false ≡ fits_set set asked

-- the set with one mode more, or the same set if the mode is in it
unfoldable pub with_mode : ℕ → ℕ → ℕ
with_mode set mode = cond (in_set set mode) set (set + 2 ^ mode)
