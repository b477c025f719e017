-- Lock modes as numbers, NL 0, CR 1, CW 2, PR 3, PW 4, EX 5, and which of them may be held together (guide, Tables 2-1 and 2-2).
use Rattle.std.specs.Prelude.{Bool, true, false, ◌&&◌, ◌||◌, not, List, [], ◌∷◌, ℕ, get_or}

abbrev pub NL : ℕ
NL = 0

abbrev pub CR : ℕ
CR = 1

abbrev pub CW : ℕ
CW = 2

abbrev pub PR : ℕ
PR = 3

abbrev pub PW : ℕ
PW = 4

abbrev pub EX : ℕ
EX = 5

-- the matrix: a row for each held mode, NL to EX, and in it a column for each asked mode
unfoldable pub matrix : List (List Bool)
matrix =
    (true ∷ true ∷ true ∷ true ∷ true ∷ true ∷ [])
    ∷ (true ∷ true ∷ true ∷ true ∷ true ∷ false ∷ [])
    ∷ (true ∷ true ∷ true ∷ false ∷ false ∷ false ∷ [])
    ∷ (true ∷ true ∷ false ∷ true ∷ false ∷ false ∷ [])
    ∷ (true ∷ true ∷ false ∷ false ∷ false ∷ false ∷ [])
    ∷ (true ∷ false ∷ false ∷ false ∷ false ∷ false ∷ [])
    ∷ []

-- whether the asked mode may be granted beside the held one; a number above 5 goes with none
unfoldable pub compatible : ℕ → ℕ → Bool
compatible held asked = get_or (get_or matrix held []) asked false

-- the test passes for each of the six modes
unfoldable pub all_modes : (ℕ → Bool) → Bool
all_modes test = test 0 && test 1 && test 2 && test 3 && test 4 && test 5

-- a conversion from the old mode to the new is down: every mode compatible with the old is compatible with the new
unfoldable pub down : ℕ → ℕ → Bool
down old new = all_modes (λ m. not (compatible old m) || compatible new m)
