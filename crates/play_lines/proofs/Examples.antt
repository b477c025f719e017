-- The lines of inputs that document 01's wording leaves easy to miss, computed from the definition.
use mathlib.Core.Path.{◌≡◌, refl}
use mathlib.Core.List.{[], ◌∷◌}
use Rattle.play_lines.specs.InputLines.{lines}

-- no input, no line
no_input : lines ([]) ≡ []
unfolding lines
no_input = refl

-- after a last byte 10 there is no further line
ended : lines (97 ∷ 98 ∷ 10 ∷ 99 ∷ 10 ∷ []) ≡ ((97 ∷ 98 ∷ []) ∷ (99 ∷ []) ∷ [])
unfolding lines
ended = refl

-- a last line without byte 10
not_ended : lines (97 ∷ 98 ∷ 10 ∷ 99 ∷ []) ≡ ((97 ∷ 98 ∷ []) ∷ (99 ∷ []) ∷ [])
unfolding lines
not_ended = refl

-- empty lines
empty_lines : lines (10 ∷ 10 ∷ 97 ∷ []) ≡ (([]) ∷ ([]) ∷ (97 ∷ []) ∷ [])
unfolding lines
empty_lines = refl
