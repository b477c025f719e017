-- What is printed for a line: "the letter, then the answer; or the letter, `!`, the refusal; or `?`", each line with byte 10 at its end.
use Rattle.std.specs.Prelude.{ℕ, ◌+◌, ◌*◌, ◌≤◌, ◌≡◌, List, [], ◌∷◌, ◌++◌, length, take, drop}
use Rattle.play_numbers.specs.Characters.{exclamation_mark, question_mark, space, newline}
use Rattle.play_print.specs.Decimal.{decimal}
use Rattle.play_print.specs.declared.LineAnswer.{LineAnswer}
use Rattle.play_print.specs.declared.LineAnswer.TheVariants.{Answer, Refusal, Unknown}

-- a space and a number; numbers, each after a space
unfoldable pub spaced_number : ℕ → List ℕ
spaced_number n = space ∷ decimal n

unfoldable pub spaced_numbers : List ℕ → List ℕ
spaced_numbers [] = []
spaced_numbers (n ∷ ns) = spaced_number n ++ spaced_numbers ns

abbrev pub one : ℕ → List ℕ
one b = b ∷ []

-- the longest of each: a number of 32 bits has ten digits, a field is a space and a number, a line has a letter, three fields and byte 10
abbrev pub number_width : ℕ
number_width = 10

abbrev pub field_width : ℕ
field_width = 1 + number_width

abbrev pub printed_width : ℕ
printed_width = 1 + 3 * field_width + 1

-- the letter and the answer's first numbers, as many as the line prints: "`lockplay` prints a field that an answer gains, here or later, after the
-- others"; the letter, `!` and the refusal; or `?`
unfoldable pub printed : LineAnswer → List ℕ
printed (Answer letter fields answer number extra) = letter ∷ (spaced_numbers (take fields (answer ∷ number ∷ extra ∷ [])) ++ one newline)
printed (Refusal letter refusal) = letter ∷ space ∷ exclamation_mark ∷ (spaced_number refusal ++ one newline)
printed Unknown = question_mark ∷ newline ∷ []

-- the list xs with ys in it from place a on
abbrev pub overwritten : ℕ → List ℕ → List ℕ → List ℕ
overwritten a xs ys = take a xs ++ (ys ++ drop (a + length ys) xs)

-- ys was written into xs at a, which gave zs; r is the place after it
pub record Wrote (xs : List ℕ) (a : ℕ) (ys zs : List ℕ) (r : ℕ) : Type 0 where
  pub is : zs ≡ overwritten a xs ys
  pub next : r ≡ a + length ys
  pub long : length zs ≡ length xs
  pub within : r ≤ length xs
