-- The lines of an input, and a line that is gathered byte by byte.
use Rattle.std.specs.Prelude.{ℕ, ◌≤◌, ◌≡◌, Bool, true, cond, List, [], ◌∷◌, ◌++◌, eqb, ltb, leb, length, take}
use Rattle.play_numbers.specs.Characters.{newline}
use Rattle.play_commands.specs.Forms.{Meaning, malformed, meant}
pub use Rattle.play_commands.specs.Forms.{line_width}
use Rattle.play_lines.specs.declared.Line.{Line}
use Rattle.play_lines.specs.declared.Fed.{Fed}
use Rattle.play_lines.specs.declared.Fed.TheVariants.{More, Whole}

-- a byte in front of the first line; where there is none, the first line
abbrev pub byte_in_front : ℕ → List (List ℕ) → List (List ℕ)
byte_in_front b [] = (b ∷ []) ∷ []
byte_in_front b (l ∷ ls) = (b ∷ l) ∷ ls

-- "a line runs to byte 10 or the end of input; after a last byte 10 there is no further line"
unfoldable pub lines : List ℕ → List (List ℕ)
lines [] = []
lines (b ∷ bs) = let rest = lines bs in cond (eqb b newline) ([] ∷ rest) (byte_in_front b rest)

-- what is kept of a line: its first bytes, as many as the longest may have, and whether there are more
pub record KeptLine : Type 0 where
  pub bytes : List ℕ
  pub over : Bool

abbrev pub kept_line : List ℕ → KeptLine
kept_line line = record { bytes = take line_width line; over = ltb line_width (length line) }

-- what it means
unfoldable pub meant_kept : KeptLine → Meaning
meant_kept k = cond k.over malformed (meant k.bytes)

-- one byte more
unfoldable pub longer : KeptLine → ℕ → KeptLine
longer k b = cond (ltb (length k.bytes) line_width) (record { bytes = k.bytes ++ (b ∷ []); over = k.over }) (record { bytes = k.bytes; over = true })

-- what the code's buffer and line keep
abbrev pub keeps : List ℕ → Line → KeptLine
keeps buffer s = record { bytes = take s.len buffer; over = s.over }

-- a byte came: byte 10 makes the line whole, any other makes it longer
pub data Came : Type 0 where
  whole : KeptLine → Came
  more : KeptLine → Came

unfoldable pub comes : KeptLine → ℕ → Came
comes k b = cond (eqb b newline) (whole k) (more (longer k b))

-- what the code's answer says of a byte that came
abbrev pub came : List ℕ → Fed → Came
came buffer (Whole s) = whole (keeps buffer s)
came buffer (More s) = more (keeps buffer s)

abbrev pub line_in : Fed → Line
line_in (Whole s) = s
line_in (More s) = s

-- the buffer has room for the longest line, and what is kept of the line is no longer than that
pub record Room (xs : List ℕ) (s : Line) : Type 0 where
  pub buffer : line_width ≤ length xs
  pub line : s.len ≤ line_width

-- with the byte b the buffer xs, of the line s, became ys, and r was answered
pub record Feeds (xs : List ℕ) (s : Line) (b : ℕ) (ys : List ℕ) (r : Fed) : Type 0 where
  pub right : came ys r ≡ comes (keeps xs s) b
  pub room : Room ys (line_in r)
  pub long : length ys ≡ length xs

-- some bytes came that no byte 10 has ended
abbrev pub begun : KeptLine → Bool
begun k = leb 1 (length k.bytes)

-- the lines that bytes give, fed one by one: k is kept so far, a whole line is followed by a new one, and what is
-- begun at the end is a line
abbrev pub given : Came → (KeptLine → List KeptLine) → List KeptLine
given (whole k) on = k ∷ on (kept_line [])
given (more k) on = on k

unfoldable pub gives : List ℕ → KeptLine → List KeptLine
gives [] k = cond (begun k) (k ∷ []) []
gives (b ∷ bs) k = given (comes k b) (gives bs)
