-- The bytes of an input, in chunks as they come: where a session of lockplay stands after each byte, and what it has printed.
use Rattle.std.specs.Prelude.{◌≡◌, cond, List, [], ◌∷◌, ◌++◌, ℕ, ◌+◌, ◌*◌, ◌≤◌, length, take}
use Rattle.tables.specs.State.{started}
use Rattle.tables.specs.Layout.{words, slots, size, slot_width}
use Rattle.rules.specs.Entries.{Lent, lent}
use Rattle.play_commands.specs.Forms.{meant}
use Rattle.play_lines.specs.declared.Line.{Line}
use Rattle.play_lines.specs.InputLines.{KeptLine, kept_line, keeps, meant_kept, Came, whole, more, comes, begun, Room}
use Rattle.play_print.specs.PrintedLines.{printed, printed_width}
use Rattle.play_session.specs.declared.Progress.{Progress}
use Rattle.play_calls.specs.Plays.{played}

-- "R 4, L 8": lockplay's tables as they are started, and the lengths that they need
abbrev pub played_resources : ℕ
played_resources = 4

abbrev pub played_locks : ℕ
played_locks = 8

abbrev pub fresh_tables : Lent
fresh_tables = record { words = words (started played_resources played_locks); slots = slots (started played_resources played_locks) }

pub record Lengths (words slots : List ℕ) : Type 0 where
  pub words_long : length words ≡ size played_resources played_locks
  pub slots_long : length slots ≡ slot_width * played_resources

-- how many bytes are read at once, and how many their lines can print: each of them may end a line
abbrev pub chunk_width : ℕ
chunk_width = 1024

abbrev pub output_width : ℕ
output_width = printed_width * chunk_width

-- all lines of an input: what is printed for them, line by line
unfoldable pub printed_for : List (List ℕ) → Lent → List ℕ
printed_for [] t = []
printed_for (line ∷ lines) t = printed (played (meant line) t).answer ++ printed_for lines (played (meant line) t).tables

-- what is kept of the line that has begun, the tables, and all that has been printed
pub record Session : Type 0 where
  pub line : KeptLine
  pub tables : Lent
  pub output : List ℕ

-- a byte came: a whole line is played, and a new one begins
unfoldable pub taken : Session → Came → Session
taken s (more k) = record { line = k; tables = s.tables; output = s.output }
taken s (whole k) =
    record {
      line = kept_line [];
      tables = (played (meant_kept k) s.tables).tables;
      output = s.output ++ printed (played (meant_kept k) s.tables).answer;
    }

unfoldable pub fed : Session → ℕ → Session
fed s b = taken s (comes s.line b)

unfoldable pub fed_all : Session → List ℕ → Session
fed_all s [] = s
fed_all s (b ∷ bs) = fed_all (fed s b) bs

-- "a line runs to byte 10 or the end of input": a line that has begun is whole there
unfoldable pub ended : Session → Session
ended s = cond (begun s.line) (taken s (whole s.line)) s

-- nothing has been printed yet
abbrev pub from_line : KeptLine → Lent → Session
from_line k t = record { line = k; tables = t; output = [] }

-- what is printed for all chunks of an input: for each what its bytes give, then what the end gives
unfoldable pub printed_in_chunks : List (List ℕ) → KeptLine → Lent → List ℕ
printed_in_chunks [] k t = (ended (from_line k t)).output
printed_in_chunks (c ∷ cs) k t =
    let s = fed_all (from_line k t) c in
    s.output ++ printed_in_chunks cs s.line s.tables

-- where the code stands: a line in the buffer, words and slots, and what has been printed
abbrev pub standing : (buffer words slots : List ℕ) → Line → List ℕ → Session
standing buffer words slots s output = record { line = keeps buffer s; tables = lent words slots; output = output }

-- the buffer has room for the line, and out for what a byte more can print
pub record Ready (buffer out : List ℕ) (p : Progress) : Type 0 where
  pub room : Room buffer p.line
  pub space : p.at + printed_width ≤ length out

-- the same for n bytes more
pub record Spacious (buffer out : List ℕ) (s : Line) (n : ℕ) : Type 0 where
  pub room : Room buffer s
  pub space : printed_width * n ≤ length out

-- after n bytes: the line is in the buffer, at most a line has been printed for each, and out is as long as before
pub record WroteWithin (buffer before after : List ℕ) (at n : ℕ) (p : Progress) : Type 0 where
  pub room : Room buffer p.line
  pub most : p.at ≤ at + printed_width * n
  pub long : length after ≡ length before

-- at the end of a session: its tables, and what has been printed in the first r bytes of out
pub record Ends (s : Session) (words slots out : List ℕ) (r : ℕ) : Type 0 where
  pub tables : lent words slots ≡ s.tables
  pub output : take r out ≡ s.output
  pub within : r ≤ length out
