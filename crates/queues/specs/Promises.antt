-- What the functions of this crate stand on, and one turn of a sweep.
use Rattle.std.specs.Prelude.{◌≡◌, Bool, true, false, cond, List, ℕ, Option, None, ◌≤◌, length}
use Rattle.tables.specs.Lists.{within, first}
use Rattle.tables.specs.Numbered.{numbered}
use Rattle.tables.specs.State.{Tables, name_width, value_width, lock, resource, granted}
use Rattle.tables.specs.Layout.{words, slots}
use Rattle.tables.specs.Grants.{convert_grantable, grantable_head, empty}
use Rattle.tables.specs.Validity.{used, Core, line}
use Rattle.rules.specs.Queues.{grant_lock}
use Rattle.rules.specs.Calls.{stores}

-- the lock k is there
pub record Locked (k : ℕ) (t : Tables) : Type 0 where
  pub core : Core t
  pub in_range : within (length t.locks) k ≡ true

-- the lock k is granted
pub record GrantedLock (k : ℕ) (t : Tables) : Type 0 where
  pub core : Core t
  pub is_granted : granted (lock t k) ≡ true

-- ONE TURN of a sweep. The line of r is its convert chain and then its wait chain. Its head can be granted; the head, if it can be; and it is granted
unfoldable pub ready : ℕ → Tables → Bool
ready r t = grantable_head (convert_grantable t r) (line t r)

unfoldable pub next_granted : ℕ → Tables → Option ℕ
next_granted r t = cond (ready r t) (numbered (first (line t r))) None

unfoldable pub advance : ℕ → Tables → Tables
advance r t = elim (ready r t) [ true ↦ grant_lock r (first (line t r)) t | false ↦ t ]

-- WORDS AND SLOTS of a state of which P holds
pub record SomeTables (P : Tables → Type 0) (ws ss : List ℕ) : Type 0 where
  pub state : Tables
  pub good : P state
  pub is : ws ≡ words state
  pub slots_are : ss ≡ slots state

-- no lock stands on the resource r
pub record Vacant (r : ℕ) (t : Tables) : Type 0 where
  pub core : Core t
  pub in_range : within (length t.resources) r ≡ true
  pub none : empty (resource t r) ≡ true

-- r is free, and can be named n
pub record Takes (r : ℕ) (n : List ℕ) (t : Tables) : Type 0 where
  pub core : Core t
  pub in_range : within (length t.resources) r ≡ true
  pub free : used t r ≡ false
  pub short : length n ≤ name_width

-- r is there, and where the flags f store a value, v is one
pub record Valued (f : ℕ) (v : List ℕ) (r : ℕ) (t : Tables) : Type 0 where
  pub core : Core t
  pub in_range : within (length t.resources) r ≡ true
  pub right : stores f ≡ true → length v ≡ value_width
