-- The bytes of lockplay's lines by their characters; the letters are in `play_commands/Forms`.
use Rattle.std.specs.Prelude.{ℕ}

-- `!` stands before a refusal, `?` for a line of another form
abbrev pub exclamation_mark : ℕ
exclamation_mark = 33

abbrev pub question_mark : ℕ
question_mark = 63

-- what parts fields, and what ends a line
abbrev pub space : ℕ
space = 32

abbrev pub newline : ℕ
newline = 10

-- the digits stand one after the other
abbrev pub digit_0 : ℕ
digit_0 = 48

abbrev pub digit_9 : ℕ
digit_9 = 57
