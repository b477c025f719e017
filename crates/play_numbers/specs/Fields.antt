-- The fields of a line.
use Rattle.std.specs.Prelude.{ℕ, zero, suc, Bool, false, ◌||◌, cond, List, [], ◌∷◌, eqb}
use Rattle.play_numbers.specs.Characters.{space}

-- there is a space
abbrev pub spaced : List ℕ → Bool
spaced [] = false
spaced (b ∷ bs) = eqb b space || spaced bs

-- what stands before the first space; all, where there is none
abbrev pub until : List ℕ → List ℕ
until [] = []
until (b ∷ bs) = cond (eqb b space) [] (b ∷ until bs)

-- what stands after the first space; nothing, where there is none
abbrev pub past : List ℕ → List ℕ
past [] = []
past (b ∷ bs) = cond (eqb b space) bs (past bs)

-- the fields that the first n spaces part: the last of n + 1 fields is all after the n-th space
unfoldable pub parted : ℕ → List ℕ → List (List ℕ)
parted zero bs = bs ∷ []
parted (suc n) bs = let rest = parted n (past bs) in cond (spaced bs) (until bs ∷ rest) (bs ∷ [])
