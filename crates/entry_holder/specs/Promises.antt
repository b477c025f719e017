-- What reading an image in place stands on, and what the walk for the lock that holds EX says.
use Rattle.std.specs.Prelude.{List, ℕ, ◌*◌, ◌≤◌, length, eqb}
use Rattle.tables.specs.Lists.{first_that}
use Rattle.tables.specs.State.{Tables, lock}
use Rattle.tables.specs.Grants.{holders}
use Rattle.rules.specs.Images.{image_size, image_words, ex}
use Rattle.table_fields.specs.Sizes.{Sized}

-- the bytes have all the words that their first two say
pub record HasAllWords (bs : List ℕ) : Type 0 where
  pub sized : Sized (image_words bs)
  pub inside : 4 * image_size bs ≤ length bs

-- on a state, the first lock on the resource r that holds EX, or 0
unfoldable pub ex_lock : ℕ → Tables → ℕ
ex_lock r t = first_that (λ k. eqb (lock t k).held ex) (holders t r)
