-- Holder's answer as one number.
use Rattle.std.specs.Prelude.{ℕ, ◌+◌, Option, Some, None, Result, Ok, Err}
use Rattle.answers.specs.declared.Refusal.{Refusal}
use Rattle.answers.specs.Refusals.{refusal_number}

-- The takeover program gets a refusal as 256 plus its number, and 0 where nobody holds EX.
abbrev pub holder_number : Result (Option ℕ) Refusal → ℕ
holder_number (Ok (Some c)) = c
holder_number (Ok None) = 0
holder_number (Err e) = 256 + refusal_number e
