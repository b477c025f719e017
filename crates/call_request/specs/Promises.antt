-- What the functions of this crate stand on, and what the resource of a name is.
use Rattle.std.specs.Prelude.{◌≡◌, true, false, ◌||◌, not, List, ℕ, ◌≤◌, length, eqb}
use Rattle.tables.specs.Lists.{within, null}
use Rattle.tables.specs.State.{Tables, name_width, no_lock, lock, last_client, last_mode}
use Rattle.tables.specs.Layout.{words, slots}
use Rattle.tables.specs.Validity.{used, Core}
use Rattle.rules.specs.Queues.{find}
use Rattle.rules.specs.Calls.{no_queue, granted_at_once, resource_for, with_resource}
use Rattle.table_chains.specs.Promises.{Resourced}

-- n is a name, and a resource has it or is left for it
pub record Nameable (n : List ℕ) (t : Tables) : Type 0 where
  pub core : Core t
  pub some : null n ≡ false
  pub short : length n ≤ name_width
  pub room : (not (eqb (find n t) 0) || not (null t.free_resources)) ≡ true

-- the words and slots of such a state became those of the state in which the resource r has the name n
pub record Houses (n a sa b sb : List ℕ) (r : ℕ) : Type 0 where
  pub then : (t : Tables) → Nameable n t → a ≡ words t → sa ≡ slots t →
      (r ≡ resource_for (find n t) t) × (b ≡ words (with_resource (find n t) n t)) × (sb ≡ slots (with_resource (find n t) n t))

-- the mode m may be requested on the resource r, and where flag 4 forbids to queue it is granted at once
pub record AsksOn (r m f : ℕ) (t : Tables) : Type 0 where
  pub here : Resourced r t
  pub mode : m ≤ last_mode
  pub unqueued : no_queue f ≡ true → granted_at_once t r m ≡ true

-- .. and the free lock k may become a lock of the client c there; r is in use
pub record Enters (r k c m f : ℕ) (t : Tables) : Type 0 where
  pub asks : AsksOn r m f t
  pub in_use : used t r ≡ true
  pub in_range : within (length t.locks) k ≡ true
  pub free : lock t k ≡ no_lock
  pub client_low : 1 ≤ c
  pub client_high : c ≤ last_client
