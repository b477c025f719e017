-- Fresh words, as the code makes them from zeros: a header, and in each free record the number of the next one.
use Rattle.std.specs.Prelude.{◌≡◌, List, ℕ, zero, suc, ◌+◌, ◌*◌, ◌≤◌, length, set}
use Rattle.tables.specs.State.{started, most_resources, most_locks}
use Rattle.tables.specs.Layout.{size, words}

-- what start has checked: the numbers of records are in range, and the words have the length for them
pub record Sizes (r l : ℕ) (ws : List ℕ) : Type 0 where
  pub some_resource : 1 ≤ r
  pub few_resources : r ≤ most_resources
  pub some_lock : 1 ≤ l
  pub few_locks : l ≤ most_locks
  pub long : length ws ≡ size r l

-- R and L, and record 1 as the head of both free chains
unfoldable pub headed : ℕ → ℕ → List ℕ → List ℕ
headed r l ws = set (set (set (set ws 0 r) 1 l) 2 1) 3 1

-- the links of n records, w apart, are all among the words
pub record Links (first w n : ℕ) (ws : List ℕ) : Type 0 where
  pub some : 1 ≤ n
  pub few : n ≤ most_locks
  pub apart : 1 ≤ w
  pub room : first + w * n ≤ length ws

-- each of the first n records names the one after it
unfoldable pub linked_up : ℕ → ℕ → ℕ → List ℕ → List ℕ
linked_up first w zero ws = ws
linked_up first w (suc n) ws = set (linked_up first w n ws) (first + w * n) (n + 2)

abbrev pub fresh_words : ℕ → ℕ → List ℕ
fresh_words r l = words (started r l)
