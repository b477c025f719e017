-- Numbers as bytes: how a field is read as a number.
use Rattle.std.specs.Prelude.{ℕ, ◌+◌, ◌-◌, ◌*◌, Bool, true, ◌&&◌, List, [], ◌∷◌, leb, length}
use Rattle.play_numbers.specs.Characters.{digit_0, digit_9}

-- the bytes `0` to `9`
abbrev pub is_digit : ℕ → Bool
is_digit b = leb digit_0 b && leb b digit_9

abbrev pub all_digits : List ℕ → Bool
all_digits [] = true
all_digits (b ∷ bs) = is_digit b && all_digits bs

-- "numbers of 1 to 9 digits": leading zeros are digits; ten digits, none, or a sign are no number
unfoldable pub is_number : List ℕ → Bool
is_number xs = leb 1 (length xs) && (leb (length xs) 9 && all_digits xs)

-- the value of digits after others of the value before
abbrev pub value_of_digits : ℕ → List ℕ → ℕ
value_of_digits before [] = before
value_of_digits before (b ∷ bs) = value_of_digits (10 * before + (b - digit_0)) bs

unfoldable pub number : List ℕ → ℕ
number xs = value_of_digits 0 xs
