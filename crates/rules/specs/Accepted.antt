-- What a call that is not refused has passed: what its change stands on.
use Rattle.std.specs.Prelude.{◌≡◌, true, false, ◌||◌, not, List, ℕ, ◌≤◌, length, eqb}
use Rattle.tables.specs.Lists.{null}
use Rattle.tables.specs.State.{Tables, lock, granted, blocked_lock, unread, last_client, last_mode, name_width, value_width}
use Rattle.tables.specs.Validity.{Valid}
use Rattle.rules.specs.Queues.{find}
use Rattle.rules.specs.Calls.{stores, no_queue, at_once, in_place}

-- the client c may request the mode m on the name n: a resource and a lock are left for it, and where flag 4 forbids to queue it is granted at once
pub record Requestable (c m f : ℕ) (n : List ℕ) (t : Tables) : Type 0 where
  pub valid : Valid t
  pub client_low : 1 ≤ c
  pub client_high : c ≤ last_client
  pub mode : m ≤ last_mode
  pub some : null n ≡ false
  pub short : length n ≤ name_width
  pub room : (not (eqb (find n t) 0) || not (null t.free_resources)) ≡ true
  pub lock_left : null t.free_locks ≡ false
  pub unqueued : no_queue f ≡ true → at_once (find n t) m t ≡ true

-- the lock k is granted, and where the flags f store a value, v is one
pub record Releasable (k f : ℕ) (v : List ℕ) (t : Tables) : Type 0 where
  pub valid : Valid t
  pub is_granted : granted (lock t k) ≡ true
  pub right : stores f ≡ true → length v ≡ value_width

-- .. its completion is read, m is a mode, and where flag 4 forbids to queue the lock takes it in place
pub record Convertible (k m f : ℕ) (v : List ℕ) (t : Tables) : Type 0 where
  pub valid : Valid t
  pub is_read : unread (lock t k) ≡ false
  pub is_granted : granted (lock t k) ≡ true
  pub mode : m ≤ last_mode
  pub right : stores f ≡ true → length v ≡ value_width
  pub unqueued : no_queue f ≡ true → in_place k m t ≡ true

-- the lock k is blocked
pub record Cancellable (k : ℕ) (t : Tables) : Type 0 where
  pub valid : Valid t
  pub is_blocked : blocked_lock (lock t k) ≡ true

-- no free lock is the client's
pub record Purgeable (c : ℕ) (t : Tables) : Type 0 where
  pub valid : Valid t
  pub client_low : 1 ≤ c
