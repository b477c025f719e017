-- Lists of numbers, and lists of records that are numbered from 1.
use Rattle.std.specs.Prelude.{Bool, true, false, ◌&&◌, ◌||◌, cond, List, [], ◌∷◌, ℕ, zero, suc, get_or, set, eqb, ltb}

-- the record k of a list, or d: no record has the number 0
abbrev pub nth {ℓ} : {A : Type ℓ} → List A → ℕ → A → A
nth xs zero d = d
nth xs (suc k) d = get_or xs k d

-- the list with another record k
abbrev pub put {ℓ} : {A : Type ℓ} → List A → ℕ → A → List A
put xs zero x = xs
put xs (suc k) x = set xs k x

-- k is the number of one of n records
abbrev pub within : ℕ → ℕ → Bool
within n zero = false
within n (suc k) = ltb k n

-- how often k stands on a list; and a test as a number, 1 or 0
unfoldable pub count : ℕ → List ℕ → ℕ
count k [] = 0
count k (j ∷ js) = cond (eqb k j) (suc (count k js)) (count k js)

abbrev pub bit : Bool → ℕ
bit true = 1
bit false = 0

-- the list without k
unfoldable pub remove : ℕ → List ℕ → List ℕ
remove k [] = []
remove k (j ∷ js) = cond (eqb k j) (remove k js) (j ∷ remove k js)

unfoldable pub all : (ℕ → Bool) → List ℕ → Bool
all p [] = true
all p (j ∷ js) = p j && all p js

unfoldable pub any : (ℕ → Bool) → List ℕ → Bool
any p [] = false
any p (j ∷ js) = p j || any p js

-- those that pass a test, in their order; the first of them, or 0
unfoldable pub keep : (ℕ → Bool) → List ℕ → List ℕ
keep p [] = []
keep p (j ∷ js) = cond (p j) (j ∷ keep p js) (keep p js)

unfoldable pub first_that : (ℕ → Bool) → List ℕ → ℕ
first_that p [] = 0
first_that p (j ∷ js) = elim (p j) [ true ↦ j | false ↦ first_that p js ]

abbrev pub first : List ℕ → ℕ
first [] = 0
first (j ∷ js) = j

-- what follows k, or 0
unfoldable pub next : ℕ → List ℕ → ℕ
next k [] = 0
next k (j ∷ js) = elim (eqb k j) [ true ↦ first js | false ↦ next k js ]

abbrev pub null : List ℕ → Bool
null [] = true
null (j ∷ js) = false

-- n numbers, upward from a
abbrev pub from : ℕ → ℕ → List ℕ
from a zero = []
from a (suc n) = a ∷ from (suc a) n

-- two lists are equal
unfoldable pub same : List ℕ → List ℕ → Bool
same [] [] = true
same [] (y ∷ ys) = false
same (x ∷ xs) [] = false
same (x ∷ xs) (y ∷ ys) = eqb x y && same xs ys
