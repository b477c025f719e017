-- What is read of the rest of a line: a number, and a number with what stands after the space that ends it.
use Rattle.std.specs.Prelude.{ℕ, cond, List, Option, None, Some}
use Rattle.play_numbers.specs.Numbers.{is_number, number}
use Rattle.play_numbers.specs.Fields.{spaced, until, past}

unfoldable pub number_in : List ℕ → Option ℕ
number_in xs = cond (is_number xs) (Some (number xs)) None

unfoldable pub next_field : List ℕ → Option (ℕ × List ℕ)
next_field xs = cond (spaced xs) (cond (is_number (until xs)) (Some (number (until xs), past xs)) None) None
