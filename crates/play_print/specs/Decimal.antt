-- Numbers as bytes: how a number is printed.
use Rattle.std.specs.Prelude.{ℕ, zero, suc, ◌+◌, ◌/◌, ◌%◌, cond, List, [], ◌∷◌, ◌++◌, ltb}
use Rattle.play_numbers.specs.Characters.{digit_0}

-- a number's digits in base ten, without leading zeros (0 is `0`): those of its tenth part, if that is not 0, and then the last digit. The first
-- argument bounds how many digits there are
unfoldable pub digits : ℕ → ℕ → List ℕ
digits zero n = []
digits (suc k) n = let front = digits k (n / 10) in cond (ltb n 10) ((digit_0 + n) ∷ []) (front ++ ((digit_0 + n % 10) ∷ []))

unfoldable pub decimal : ℕ → List ℕ
decimal n = digits (suc n) n
