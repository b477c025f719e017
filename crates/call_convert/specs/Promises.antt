-- The two ways of a conversion, and what the functions of this crate stand on.
use Rattle.std.specs.Prelude.{◌≡◌, Bool, true, ◌&&◌, List, ℕ, ◌≤◌, length, ltb}
use Rattle.tables.specs.State.{Tables, value_width, lock, move, last_mode}
use Rattle.rules.specs.Queues.{sweep}
use Rattle.rules.specs.Calls.{stores, no_queue, strong, leave_value, tell_obstacles, held_at, asking, in_place}
use Rattle.queues.specs.Promises.{GrantedLock}

-- from PW or EX to a smaller mode
unfoldable pub lowers : ℕ → ℕ → Bool
lowers held m = strong held && ltb m held

-- the lock k takes the mode m in place, and its resource is swept
unfoldable pub granted_in_place : ℕ → ℕ → ℕ → List ℕ → Tables → Tables
granted_in_place k m f v t =
    let r = (lock t k).resource in
    sweep r (move r k (held_at m (lock t k)) (leave_value (lowers (lock t k).held m) f v r t))

-- the lock k joins the convert chain, keeping its held mode, and whoever is in its way is told
unfoldable pub on_convert_queue : ℕ → ℕ → Tables → Tables
on_convert_queue k m t = tell_obstacles k (move (lock t k).resource k (asking m (lock t k)) t)

-- the lock k is granted, and may ask for the mode m
pub record Asks (k m : ℕ) (t : Tables) : Type 0 where
  pub held : GrantedLock k t
  pub mode : m ≤ last_mode

-- .. with the flags f: where flag 4 forbids to queue, it can take m in place
pub record AsksWith (k m f : ℕ) (t : Tables) : Type 0 where
  pub asks : Asks k m t
  pub unqueued : no_queue f ≡ true → in_place k m t ≡ true

-- it can take m in place; and where the flags f store a value, v is one
pub record ConvertsInPlace (k m f : ℕ) (v : List ℕ) (t : Tables) : Type 0 where
  pub asks : Asks k m t
  pub at_once : in_place k m t ≡ true
  pub right : stores f ≡ true → length v ≡ value_width
