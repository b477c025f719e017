-- Words as bytes, and back. A word's four bytes are document 01's image's: little-endian.
use Rattle.std.specs.Prelude.{List, ◌++◌, map, ℕ, ◌+◌, ◌*◌, take, drop}
use Rattle.tables.specs.Lists.{from}
use Rattle.tables.specs.Layout.{flat_map}
use Rattle.rules.specs.Images.{word_bytes, word_from}

-- the bytes of each word, one word after the other
unfoldable pub encoded : List ℕ → List ℕ
encoded ws = flat_map word_bytes ws

-- the first n words whose bytes stand in bs
unfoldable pub decoded : List ℕ → ℕ → List ℕ
decoded bs n = map (λ i. word_from bs (4 * i)) (from 0 n)

-- the bytes bs, with those of the word w from the place i on
unfoldable pub with_word : ℕ → ℕ → List ℕ → List ℕ
with_word i w bs = take i bs ++ (word_bytes w ++ drop (i + 4) bs)
