-- What a line means. Fields are parted by one space; "the name is all after the fourth space, possibly empty".
use Rattle.std.specs.Prelude.{ℕ, zero, suc, Option, None, Some, Bool, false, ◌&&◌, cond, List, [], ◌∷◌, eqb, ltb, length, get_or, drop}
use Rattle.play_numbers.specs.Numbers.{is_number, number}
use Rattle.play_numbers.specs.Fields.{parted}
use Rattle.play_commands.specs.declared.Command.{Command}
use Rattle.play_commands.specs.declared.Command.TheVariants.{Request, Convert, Release, Cancel, Purge, Break, Poll}

-- the letters of the lines, as bytes: request, convert, release, cancel, purge, break, poll
abbrev pub letter_q : ℕ
letter_q = 113

abbrev pub letter_c : ℕ
letter_c = 99

abbrev pub letter_r : ℕ
letter_r = 114

abbrev pub letter_x : ℕ
letter_x = 120

abbrev pub letter_p : ℕ
letter_p = 112

abbrev pub letter_d : ℕ
letter_d = 100

abbrev pub letter_n : ℕ
letter_n = 110

pub data Meaning : Type 0 where
  request : (client mode flags : ℕ) (name : List ℕ) → Meaning
  convert : (client lock mode flags : ℕ) → Meaning
  release : (client lock flags : ℕ) → Meaning
  cancel : (client lock : ℕ) → Meaning
  purge : (client : ℕ) → Meaning
  break : Meaning
  poll : (client : ℕ) → Meaning
  malformed : Meaning

-- the fields are n numbers, and then as many fields as more says
unfoldable pub numbers_then : ℕ → ℕ → List (List ℕ) → Bool
numbers_then zero more fs = eqb (length fs) more
numbers_then (suc n) more [] = false
numbers_then (suc n) more (f ∷ fs) = is_number f && numbers_then n more fs

-- the field of that place, counted from 0, and its number
abbrev pub field : List (List ℕ) → ℕ → List ℕ
field fs k = get_or fs k []

abbrev pub field_number : List (List ℕ) → ℕ → ℕ
field_number fs k = number (field fs k)

-- the forms: what stands after the letter
-- `q` client mode flags name
unfoldable pub as_request : List (List ℕ) → Meaning
as_request fs = cond (numbers_then 3 1 fs) (request (field_number fs 0) (field_number fs 1) (field_number fs 2) (field fs 3)) malformed

-- `c` client lock mode flags
unfoldable pub as_convert : List (List ℕ) → Meaning
as_convert fs = cond (numbers_then 4 0 fs) (convert (field_number fs 0) (field_number fs 1) (field_number fs 2) (field_number fs 3)) malformed

-- `r` client lock flags
unfoldable pub as_release : List (List ℕ) → Meaning
as_release fs = cond (numbers_then 3 0 fs) (release (field_number fs 0) (field_number fs 1) (field_number fs 2)) malformed

-- `x` client lock
unfoldable pub as_cancel : List (List ℕ) → Meaning
as_cancel fs = cond (numbers_then 2 0 fs) (cancel (field_number fs 0) (field_number fs 1)) malformed

-- `p` client
unfoldable pub as_purge : List (List ℕ) → Meaning
as_purge fs = cond (numbers_then 1 0 fs) (purge (field_number fs 0)) malformed

-- `d`
unfoldable pub as_break : List (List ℕ) → Meaning
as_break fs = cond (numbers_then 0 0 fs) break malformed

-- `n` client
unfoldable pub as_poll : List (List ℕ) → Meaning
as_poll fs = cond (numbers_then 1 0 fs) (poll (field_number fs 0)) malformed

-- the forms by their letters
unfoldable pub of_letter : ℕ → List (List ℕ) → Meaning
of_letter b fs =
    cond (eqb b letter_q) (as_request fs)
    (cond (eqb b letter_c) (as_convert fs)
    (cond (eqb b letter_r) (as_release fs)
    (cond (eqb b letter_x) (as_cancel fs)
    (cond (eqb b letter_p) (as_purge fs)
    (cond (eqb b letter_d) (as_break fs)
    (cond (eqb b letter_n) (as_poll fs)
    malformed))))))

-- the first field is the letter, one byte
unfoldable pub of_fields : List (List ℕ) → Meaning
of_fields fs = cond (eqb (length (field fs 0)) 1) (of_letter (get_or (field fs 0) 0 0) (drop 1 fs)) malformed

-- "or `?` for another form or a line over 256 bytes"
abbrev pub line_width : ℕ
line_width = 256

unfoldable pub meant : List ℕ → Meaning
meant line = cond (ltb line_width (length line)) malformed (of_fields (parted 4 line))

-- what the code's answer says of a line: the command that it asks, or none
abbrev pub meaning : Option Command → Meaning
meaning None = malformed
meaning (Some (Request client mode flags name)) = request client mode flags name.now
meaning (Some (Convert client lock mode flags)) = convert client lock mode flags
meaning (Some (Release client lock flags)) = release client lock flags
meaning (Some (Cancel client lock)) = cancel client lock
meaning (Some (Purge client)) = purge client
meaning (Some Break) = break
meaning (Some (Poll client)) = poll client
