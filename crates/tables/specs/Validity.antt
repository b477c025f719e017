-- Valid states: what the state of sound tables is like. Every statement holds of every number, in range or not.
use Rattle.std.specs.Prelude.{◌≡◌, ◌≢◌, Bool, true, false, ◌&&◌, not, List, [], ◌∷◌, ◌++◌, ℕ, ◌≤◌, length}
use Rattle.modes.specs.Modes.{compatible}
use Rattle.tables.specs.Lists.{within, count, bit, null}
use Rattle.tables.specs.State.{Lock, Resource, Tables, most_resources, most_locks, last_client, last_mode, name_width, value_width, no_value, no_lock, lock, resource, holds, LockChain, chain, belongs, state_granted, state_converting, state_waiting, state_denied, completion_none, completion_denied, completion_conversion_denied, mark_none}
use Rattle.tables.specs.Grants.{convert_grantable, empty}

-- a resource in use has a name
unfoldable pub used : Tables → ℕ → Bool
used t r = not (null (resource t r).name)

-- a lock's fields, by its state. u: the resources in use
pub record Place (u : ℕ → Bool) (l : Lock) : Type 0 where
  pub in_use : u l.resource ≡ true
  pub client_low : 1 ≤ l.client
  pub client_high : l.client ≤ last_client
  pub held_mode : l.held ≤ last_mode
  pub asked_mode : l.asked ≤ last_mode
  pub mark_mode : l.mark ≤ last_mode

pub record Granted (u : ℕ → Bool) (l : Lock) : Type 0 where
  pub place : Place u l
  pub asks : l.asked ≡ 0
  pub notice : l.completion ≤ completion_conversion_denied
  pub not_denied : l.completion ≢ completion_denied

pub record Converting (u : ℕ → Bool) (l : Lock) : Type 0 where
  pub place : Place u l
  pub notice : l.completion ≡ completion_none

pub record Waiting (u : ℕ → Bool) (l : Lock) : Type 0 where
  pub place : Place u l
  pub notice : l.completion ≡ completion_none
  pub holds : l.held ≡ 0
  pub no_mark : l.mark ≡ mark_none

pub record Denied (l : Lock) : Type 0 where
  pub client_low : 1 ≤ l.client
  pub client_high : l.client ≤ last_client
  pub nowhere : l.resource ≡ 0
  pub holds : l.held ≡ 0
  pub asks : l.asked ≡ 0
  pub notice : l.completion ≡ completion_denied
  pub no_mark : l.mark ≡ mark_none

-- a lock is in one of the five states, and has that state's fields
pub data LockOk (u : ℕ → Bool) (l : Lock) : Type 0 where
  as_free : l ≡ no_lock → LockOk u l
  as_granted : l.state ≡ state_granted → Granted u l → LockOk u l
  as_converting : l.state ≡ state_converting → Converting u l → LockOk u l
  as_waiting : l.state ≡ state_waiting → Waiting u l → LockOk u l
  as_denied : l.state ≡ state_denied → Denied l → LockOk u l

pub record ResourceOk (x : Resource) : Type 0 where
  pub name_length : length x.name ≤ name_width
  pub value_length : length x.value ≡ value_width
  pub flag : x.valid ≤ 1
  pub unused : x.name ≡ [] → x.valid ≡ 0
  pub unused_value : x.name ≡ [] → x.value ≡ no_value

-- each chain has the locks that belong on it, once, and no others
abbrev pub Linked : Tables → Type 0
Linked t = (c : LockChain) (k : ℕ) → count k (chain t c) ≡ bit (within (length t.locks) k && belongs c (lock t k))

pub record Core (t : Tables) : Type 0 where
  pub resources_low : 1 ≤ length t.resources
  pub resources_high : length t.resources ≤ most_resources
  pub locks_low : 1 ≤ length t.locks
  pub locks_high : length t.locks ≤ most_locks
  pub linked : Linked t
  pub spare : (r : ℕ) → count r t.free_resources ≡ bit (within (length t.resources) r && null (resource t r).name)
  pub lock_ok : (k : ℕ) → LockOk (used t) (lock t k)
  pub resource_ok : (r : ℕ) → ResourceOk (resource t r)
  pub names : (r s : ℕ) → r ≢ s → used t r ≡ true → (resource t r).name ≢ (resource t s).name
  pub agree : (j k : ℕ) → j ≢ k → holds (lock t j) ≡ true → holds (lock t k) ≡ true → (lock t j).resource ≡ (lock t k).resource →
      compatible (lock t j).held (lock t k).held ≡ true

-- the locks blocked on r, the next to be granted first
unfoldable pub line : Tables → ℕ → List ℕ
line t r = (resource t r).convert ++ (resource t r).wait

-- no head of r is grantable, and r is free or has a lock
unfoldable pub idle : Tables → ℕ → List ℕ → Bool
idle t r [] = true
idle t r (k ∷ ks) = not (convert_grantable t r k)

pub record Settled (t : Tables) (r : ℕ) : Type 0 where
  pub still : idle t r (line t r) ≡ true
  pub peopled : used t r ≡ true → empty (resource t r) ≡ false

pub record Valid (t : Tables) : Type 0 where
  pub core : Core t
  pub settled : (r : ℕ) → Settled t r

-- a lock's resource is r, or it has none
abbrev pub Near : ℕ → Lock → Type 0
Near r l = l.resource ≢ 0 → l.resource ≡ r
