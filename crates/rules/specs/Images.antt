-- Image, load and holder: the tables as bytes, and back.
use Rattle.std.specs.Prelude.{Bool, ◌&&◌, List, [], ◌∷◌, ◌++◌, map, ℕ, zero, suc, ◌+◌, ◌*◌, ◌/◌, ◌%◌, get_or, length, drop, eqb}
use Rattle.tables.specs.Lists.{first_that, from}
use Rattle.tables.specs.State.{Tables, lock}
use Rattle.tables.specs.Layout.{size, slot_width, flat_map, read}
use Rattle.tables.specs.Grants.{holders}
use Rattle.tables.specs.Sound.{sound}
use Rattle.rules.specs.Queues.{find}
use Rattle.rules.specs.Calls.{accepted, refused, unless, name_right}
use Rattle.rules.specs.Entries.{Lent, lent, Outcome, outcome}

-- a word little-endian
abbrev pub word_bytes : ℕ → List ℕ
word_bytes w = w % 256 ∷ w / 256 % 256 ∷ w / 65536 % 256 ∷ w / 16777216 % 256 ∷ []

-- "words little-endian, then slots"
unfoldable pub image_bytes : List ℕ → List ℕ → List ℕ
image_bytes ws ss = flat_map word_bytes ws ++ ss

abbrev pub image_length : ℕ → ℕ → ℕ
image_length words slots = 4 * words + slots

-- IMAGE into a lent area: 1 where the tables aren't sound, then 14 where the area has the wrong length
pub record Imaged : Type 0 where
  pub refusal : ℕ
  pub area : List ℕ

unfoldable pub image_refusal : List ℕ → List ℕ → List ℕ → ℕ
image_refusal ws ss area = unless (sound ws ss) 1 (unless (eqb (length area) (image_length (length ws) (length ss))) 14 0)

unfoldable pub image_into : ℕ → List ℕ → List ℕ → List ℕ → Imaged
image_into zero ws ss area = record { refusal = 0; area = image_bytes ws ss }
image_into (suc n) ws ss area = record { refusal = suc n; area = area }

unfoldable pub image_entry : List ℕ → List ℕ → List ℕ → Imaged
unfolding image_refusal image_into
image_entry ws ss area = image_into (image_refusal ws ss area) ws ss area

-- the word whose bytes stand at i, and what an image says its R and L are
abbrev pub word_from : List ℕ → ℕ → ℕ
word_from bs i = get_or bs i 0 + 256 * get_or bs (i + 1) 0 + 65536 * get_or bs (i + 2) 0 + 16777216 * get_or bs (i + 3) 0

abbrev pub image_size : List ℕ → ℕ
image_size bs = size (word_from bs 0) (word_from bs 4)

unfoldable pub image_words : List ℕ → List ℕ
image_words bs = map (λ i. word_from bs (4 * i)) (from 0 (image_size bs))

unfoldable pub image_slots : List ℕ → List ℕ
image_slots bs = drop (4 * image_size bs) bs

-- the bytes are the image of sound tables, length included
unfoldable pub image_sound : List ℕ → Bool
image_sound bs =
    eqb (length bs) (image_length (image_size bs) (slot_width * word_from bs 0)) && sound (image_words bs) (image_slots bs)

-- LOAD into lent tables that may hold anything before: 1 where it is no image of sound tables, then 14 where the tables' lengths are wrong
unfoldable pub load_refusal : List ℕ → List ℕ → List ℕ → ℕ
load_refusal bs ws ss =
    unless (image_sound bs) 1
    (unless (eqb (length ws) (length (image_words bs)) && eqb (length ss) (length (image_slots bs))) 14 0)

unfoldable pub load_into : ℕ → List ℕ → Lent → Outcome
load_into zero bs t = outcome (accepted 0 0) (lent (image_words bs) (image_slots bs))
load_into (suc n) bs t = outcome (refused (suc n)) t

unfoldable pub load_entry : List ℕ → Lent → Outcome
unfolding load_refusal load_into
load_entry bs t = load_into (load_refusal bs t.words t.slots) bs t

-- HOLDER: the client that holds EX on that name, or 0; no lock has the number 0, nor a client
abbrev pub ex : ℕ
ex = 5

unfoldable pub holder_of : ℕ → Tables → ℕ
holder_of r t = (lock t (first_that (λ k. eqb (lock t k).held ex) (holders t r))).client

unfoldable pub holder_refusal : List ℕ → List ℕ → ℕ
holder_refusal bs n = unless (image_sound bs) 1 (unless (name_right n) 6 0)

-- one number: a refusal is 256 and its number
unfoldable pub holder_answer : ℕ → List ℕ → List ℕ → ℕ
holder_answer zero bs n = let t = read (image_words bs) (image_slots bs) in holder_of (find n t) t
holder_answer (suc x) bs n = 256 + suc x

unfoldable pub holder_entry : List ℕ → List ℕ → ℕ
unfolding holder_refusal holder_answer
holder_entry bs n = holder_answer (holder_refusal bs n) bs n
