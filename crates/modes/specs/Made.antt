-- What making a mode from a number answers.
use Rattle.std.specs.Prelude.{cond, ℕ, leb, Option, Some, None}
use Rattle.modes.specs.declared.Mode.{Mode}
use Rattle.modes.specs.declared.Mode.TheVariants as modes

-- an answer in numbers: 0 and the mode's number, or the refusal's number and zero
pub record MadeNumbers : Type 0 where
  pub refusal : ℕ
  pub mode : ℕ

-- the number of each mode
abbrev pub mode_number : Mode → ℕ
mode_number modes.Null = 0
mode_number modes.ConcurrentRead = 1
mode_number modes.ConcurrentWrite = 2
mode_number modes.ProtectedRead = 3
mode_number modes.ProtectedWrite = 4
mode_number modes.Exclusive = 5

-- each case of the answer in numbers; "The mode is above 5" is refusal 4
abbrev pub made_numbers : Option Mode → MadeNumbers
made_numbers (Some m) = record { refusal = 0; mode = mode_number m }
made_numbers None = record { refusal = 4; mode = 0 }

-- what is answered for the number n: the mode n up to 5, and a refusal above
unfoldable pub made : ℕ → MadeNumbers
made n = cond (leb n 5) (record { refusal = 0; mode = n }) (record { refusal = 4; mode = 0 })
