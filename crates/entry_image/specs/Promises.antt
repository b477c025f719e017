-- What the functions on images stand on, and what they say.
use Rattle.std.specs.Prelude.{◌≡◌, Bool, true, ◌&&◌, List, ℕ, ◌*◌, ◌≤◌, length, eqb, leb, Option, is_some, IfSome}
use Rattle.tables.specs.State.{most_resources, most_locks}
use Rattle.tables.specs.Layout.{size, slot_width}
use Rattle.rules.specs.Images.{Imaged, image_length, word_from, image_size, image_sound}
use Rattle.rules.specs.declared.Said.{Said}
use Rattle.table_bytes.specs.Bytes.{decoded}

-- the answer, and what the lent area then holds
abbrev pub imaged : Said → List ℕ → Imaged
imaged x area = record { refusal = x.refusal; area = area }

-- the words of the largest tables
abbrev pub most_words : ℕ
most_words = size most_resources most_locks

-- R, L and the length are those of an image
unfoldable pub measures : List ℕ → Bool
measures bs =
    leb 1 (word_from bs 0) && leb (word_from bs 0) most_resources && leb 1 (word_from bs 4) && leb (word_from bs 4) most_locks
    && eqb (length bs) (image_length (image_size bs) (slot_width * word_from bs 0))

-- they are, and n is the number of its words
pub record Counted (bs : List ℕ) (n : ℕ) : Type 0 where
  pub measures : measures bs ≡ true
  pub many : n ≡ image_size bs
  pub inside : 4 * n ≤ length bs
  pub few : n ≤ most_words

-- the number of its words if they are, else none
pub record Measured (bs : List ℕ) (x : Option ℕ) : Type 0 where
  pub right : is_some x ≡ measures bs
  pub counted : IfSome x (Counted bs)

-- ws are the words that it has
pub record Decoded (bs ws : List ℕ) : Type 0 where
  pub counted : Counted bs (length ws)
  pub read : ws ≡ decoded bs (length ws)

-- the number of its words if it is the image of sound tables, else none
pub record SoundWords (bs : List ℕ) (x : Option ℕ) : Type 0 where
  pub sound : is_some x ≡ image_sound bs
  pub many : IfSome x (λ n. n ≡ image_size bs)
