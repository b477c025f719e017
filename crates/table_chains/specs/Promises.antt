-- What a function is told, and says, of the state whose words it is lent.
use Rattle.std.specs.Prelude as option
use Rattle.std.specs.Prelude.{◌≡◌, ◌≢◌, true, List, ℕ, Option, ◌≤◌, get_or, length}
use Rattle.tables.specs.declared.Lock.{Lock}
use Rattle.tables.specs.Lists.{within}
use Rattle.tables.specs.State.{Resource, Tables, last_mode, lock, resource, holds, noticed, Queue, queue_of, of_locks, chain_of, home, move, move_resource}
use Rattle.tables.specs.Layout.{words, slots, resources_in, locks_in, read_lock}
use Rattle.tables.specs.Threads.{Absent, Present, Sane, Whole}
use Rattle.tables.specs.Stores.{Counts, words_with, stays, count_place}
use Rattle.tables.specs.Validity.{used, LockOk, Core, Near}
use Rattle.table_fields.specs.Sizes.{Sized}

-- these are the words of a state of which P holds
pub record Some (P : Tables → Type 0) (ws : List ℕ) : Type 0 where
  pub state : Tables
  pub good : P state
  pub is : ws ≡ words state

-- the words of a state of which P holds became those of f of it
pub record Turns (P : Tables → Type 0) (f : Tables → Tables) (a b : List ℕ) : Type 0 where
  pub then : (t : Tables) → P t → a ≡ words t → b ≡ words (f t)

-- x is what g says of the state
pub record Tells {ℓ} {A : Type ℓ} (P : Tables → Type 0) (g : Tables → A) (ws : List ℕ) (x : A) : Type ℓ where
  pub then : (t : Tables) → P t → ws ≡ words t → x ≡ g t

-- both
pub record Answers {ℓ} {A : Type ℓ} (P : Tables → Type 0) (g : Tables → A) (f : Tables → Tables) (a b : List ℕ) (x : A) : Type ℓ where
  pub then : (t : Tables) → P t → a ≡ words t → (x ≡ g t) × (b ≡ words (f t))

-- words and slots both became those of f of the state
pub record Changes (P : Tables → Type 0) (f : Tables → Tables) (a sa b sb : List ℕ) : Type 0 where
  pub then : (t : Tables) → P t → a ≡ words t → sa ≡ slots t → (b ≡ words (f t)) × (sb ≡ slots (f t))

-- MOVES. On the chains of the resource r the lock k may become m
pub record Movable (r k : ℕ) (m : Lock) (t : Tables) : Type 0 where
  pub core : Core t
  pub in_range : within (length t.locks) k ≡ true
  pub near_old : Near r (lock t k)
  pub near_new : Near r m
  pub ok : LockOk (used t) m

-- these are the words of a state in which it may
pub record Moving (k : ℕ) (m : Lock) (ws : List ℕ) : Type 0 where
  pub state : Tables
  pub resource : ℕ
  pub good : Movable resource k m state
  pub is : ws ≡ words state

-- it became m
pub record Moved (k : ℕ) (m : Lock) (a b : List ℕ) : Type 0 where
  pub then : (r : ℕ) (t : Tables) → Movable r k m t → a ≡ words t → b ≡ words (move r k m t)

-- the resource r is there
pub record Resourced (r : ℕ) (t : Tables) : Type 0 where
  pub core : Core t
  pub in_range : within (length t.resources) r ≡ true

-- x is r with another name, of n bytes, with another value, and with the flag v
pub record Refilled (r n v : ℕ) (x : Resource) (t : Tables) : Type 0 where
  pub core : Core t
  pub in_range : within (length t.resources) r ≡ true
  pub queues : (q : Queue) → queue_of q x ≡ queue_of q (resource t r)
  pub name_is : length x.name ≡ n
  pub valid_is : x.valid ≡ v

-- r became such an x
pub record ResourceMoved (r n v : ℕ) (a b : List ℕ) : Type 0 where
  pub then : (t : Tables) (x : Resource) → Refilled r n v x t → a ≡ words t → b ≡ words (move_resource r x t)

-- COUNTS. If the lock l holds a mode, it is counted in a word of the tables, of which P holds
pub record Counting (P : ℕ → Type 0) (l : Lock) (ws : List ℕ) : Type 0 where
  pub sized : Sized ws
  pub low : holds l ≡ true → 1 ≤ l.resource
  pub high : holds l ≡ true → l.resource ≤ resources_in ws
  pub mode : holds l ≡ true → l.held ≤ last_mode
  pub number : holds l ≡ true → P (get_or ws (count_place (resources_in ws) l) 0)

-- HINTS. The lock that x names, if it names one, is another one than k at the home of l; it belongs on the notice chain
pub record AtHome (ws : List ℕ) (l : Lock) (k : ℕ) (x : Option ℕ) : Type 0 where
  pub low : (j : ℕ) → x ≡ option.Some j → 1 ≤ j
  pub high : (j : ℕ) → x ≡ option.Some j → j ≤ locks_in ws
  pub other : (j : ℕ) → x ≡ option.Some j → j ≢ k
  pub home : (j : ℕ) → x ≡ option.Some j → stays (read_lock ws j) l ≡ true

pub record WithNotice (ws : List ℕ) (x : Option ℕ) : Type 0 where
  pub low : (j : ℕ) → x ≡ option.Some j → 1 ≤ j
  pub high : (j : ℕ) → x ≡ option.Some j → j ≤ locks_in ws
  pub notice : (j : ℕ) → x ≡ option.Some j → noticed (read_lock ws j) ≡ true

-- STEPS of a move. The lock k is o and may become m: every lock stands where its record says. The counts may be those of another state
pub record Sided (k : ℕ) (o m : Lock) (ws : List ℕ) : Type 0 where
  pub sized : Sized ws
  pub low : 1 ≤ k
  pub high : k ≤ locks_in ws
  pub state : Tables
  pub whole : Whole (length state.resources) (length state.locks) state
  pub here : lock state k ≡ o
  pub new : Present state (of_locks (home m))
  pub counts : Counts
  pub is : ws ≡ words_with counts state

-- k is o and may go to the home of m: every lock stands on the home that its record says
pub record Homing (k : ℕ) (o m : Lock) (ws : List ℕ) : Type 0 where
  pub sized : Sized ws
  pub low : 1 ≤ k
  pub high : k ≤ locks_in ws
  pub state : Tables
  pub sane : Sane (length state.resources) (length state.locks) state
  pub here : lock state k ≡ o
  pub old : Present state (of_locks (home o))
  pub at_home : (j : ℕ) → 1 ≤ j → j ≤ length state.locks → Absent j (chain_of (of_locks (home (lock state j))) state) → ⊥
  pub new : Present state (of_locks (home m))
  pub counts : Counts
  pub is : ws ≡ words_with counts state
