-- What a line of lockplay does to the tables and what is printed for it. "empty values"
use Rattle.std.specs.Prelude.{cond, List, [], ℕ, eqb}
use Rattle.rules.specs.declared.Said.{Said}
use Rattle.rules.specs.Entries.{Lent, lent, Call, to_request, to_convert, to_release, to_cancel, to_purge, to_break, to_poll, call_entry}
use Rattle.play_print.specs.declared.LineAnswer.{LineAnswer}
use Rattle.play_print.specs.declared.LineAnswer.TheVariants.{Answer, Refusal, Unknown}
use Rattle.play_commands.specs.Forms.{letter_q, letter_c, letter_r, letter_x, letter_p, letter_d, letter_n, Meaning, request, convert, release, cancel, purge, break, poll, malformed}

-- what is printed, and the tables that are left
pub record Played : Type 0 where
  pub answer : LineAnswer
  pub tables : Lent

-- "the letter, then the answer; or the letter, `!`, the refusal". Refusal 0: accepted. Of the answer's numbers the first are printed, as many as the
-- line has fields
unfoldable pub answered : (letter fields : ℕ) → Said → LineAnswer
answered letter fields x = cond (eqb x.refusal 0) (Answer letter fields x.answer x.number x.extra) (Refusal letter x.refusal)

-- a line: its call is made, and so many fields of the answer are printed
abbrev pub plays : (letter fields : ℕ) → Call → Lent → Played
plays letter fields c t =
    let o = call_entry c t in
    record { answer = answered letter fields o.said; tables = o.lent_after }

-- `q` "prints answer, lock"; `n` "prints completion, lock", then the mark, and `p` its count, then the two that it gained, as "`lockplay` prints a field
-- that an answer gains, here or later, after the others"; any other letter prints the answer alone
unfoldable pub played : Meaning → Lent → Played
played (request c m f n) t = plays letter_q 2 (to_request c m f n) t
played (convert c k m f) t = plays letter_c 1 (to_convert c k m f []) t
played (release c k f) t = plays letter_r 1 (to_release c k f []) t
played (cancel c k) t = plays letter_x 1 (to_cancel c k) t
played (purge c) t = plays letter_p 3 (to_purge c) t
played break t = plays letter_d 1 to_break t
played (poll c) t = plays letter_n 3 (to_poll c) t
played malformed t = record { answer = Unknown; tables = t }

-- what the code has: a line's answer beside words and slots
abbrev pub played_with : LineAnswer → List ℕ → List ℕ → Played
played_with o ws ss = record { answer = o; tables = lent ws ss }
