-- What the functions of this crate stand on, and what they say of the state whose words they are lent.
use Rattle.std.specs.Prelude.{◌≡◌, true, List, ℕ, ◌≤◌, length}
use Rattle.tables.specs.Lists.{within, count}
use Rattle.tables.specs.State.{Tables, lock, resource, holds, blocked_lock, Queue, queue_of, last_mode}
use Rattle.tables.specs.Layout.{of_resource, queue_head, words, word_in}
use Rattle.tables.specs.Validity.{Core}
use Rattle.marks.specs.Telling.{tell_each}

-- the lock j holds a mode, and m is a mode other than NL
pub record Markable (j m : ℕ) (t : Tables) : Type 0 where
  pub core : Core t
  pub holder : holds (lock t j) ≡ true
  pub low : 1 ≤ m
  pub high : m ≤ last_mode

-- the lock j holds a mode, and the lock k is there
pub record Tellable (k j : ℕ) (t : Tables) : Type 0 where
  pub core : Core t
  pub holder : holds (lock t j) ≡ true
  pub in_range : within (length t.locks) k ≡ true

-- the locks of the queue q of the resource r hold modes, and the lock k is there
pub record Heeds (r : ℕ) (q : Queue) (k : ℕ) (t : Tables) : Type 0 where
  pub core : Core t
  pub there : within (length t.resources) r ≡ true
  pub in_range : within (length t.locks) k ≡ true
  pub holders : (j : ℕ) → 1 ≤ count j (queue_of q (resource t r)) → holds (lock t j) ≡ true

-- these are the words of such a state, in which `first` is the queue's first
pub record Hearing (k first : ℕ) (ws : List ℕ) : Type 0 where
  pub state : Tables
  pub resource : ℕ
  pub queue : Queue
  pub good : Heeds resource queue k state
  pub begins : first ≡ word_in ws (of_resource resource (queue_head queue))
  pub is : ws ≡ words state

-- each lock of the queue was told
pub record Heard (k first : ℕ) (a b : List ℕ) : Type 0 where
  pub then : (r : ℕ) (q : Queue) (t : Tables) → Heeds r q k t → first ≡ word_in a (of_resource r (queue_head q)) → a ≡ words t →
      b ≡ words (tell_each k (queue_of q (resource t r)) t)

-- the lock k has begun to wait
pub record Begun (k : ℕ) (t : Tables) : Type 0 where
  pub core : Core t
  pub is_blocked : blocked_lock (lock t k) ≡ true
