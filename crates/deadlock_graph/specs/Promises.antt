-- What a function is told, and says, of the state whose words it is lent.
use Rattle.std.specs.Prelude.{◌≡◌, ◌≢◌, List, [], ℕ, ◌≤◌, ◌<◌, Option, None, Some as Just}
use Rattle.tables.specs.Lists.{count}
use Rattle.tables.specs.State.{Tables, lock}
use Rattle.tables.specs.Layout.{lock_width, of_lock, resources_in, word_in, read}
use Rattle.tables.specs.Validity.{Core}
use Rattle.table_chains.specs.Promises.{Some}
use Rattle.table_chains.specs.Walking.{Walking}

-- the state in the words, which tell no names and no values
unfoldable pub seen : List ℕ → Tables
seen ws = read ws []

-- k is a blocked lock of the state in the words
pub record Blocked (ws : List ℕ) (k : ℕ) : Type 0 where
  pub some : Some Core ws
  pub stands : 1 ≤ count k (seen ws).blocked

-- the mode m is what the lock k asks for
pub record Asks (ws : List ℕ) (k m : ℕ) : Type 0 where
  pub is : m ≡ (lock (seen ws) k).asked
  pub few : m < 6

-- r is the resource on which the blocked lock k stands
pub record StandsOn (ws : List ℕ) (k r : ℕ) : Type 0 where
  pub is : r ≡ (lock (seen ws) k).resource
  pub low : 1 ≤ r
  pub high : r ≤ resources_in ws

-- a walk along a chain, where the field f of each lock names the next, is at k, or at its end, which is 0
pub record OnChain (f : ℕ) (ws : List ℕ) (k : ℕ) : Type 0 where
  pub field : f < lock_width
  pub walks : Walking ws f k

-- there it meets the lock r, if there is one, and goes on to k'
pub record Stepped (f : ℕ) (ws : List ℕ) (k : ℕ) (r : Option ℕ) (ws' : List ℕ) (k' : ℕ) : Type 0 where
  pub same : ws' ≡ ws
  pub met : (j : ℕ) → r ≡ Just j → (k ≡ j) × (j ≢ 0) × (k' ≡ word_in ws (of_lock j f))
  pub ended : r ≡ None → k ≡ 0
