-- How a conversion ends without a grant, and what that stands on.
use Rattle.std.specs.Prelude.{◌≡◌, ◌≢◌, true, ℕ, ◌≤◌}
use Rattle.tables.specs.State.{Tables, lock, converting, move, completion_denied, completion_conversion_denied}
use Rattle.tables.specs.Validity.{Core}
use Rattle.rules.specs.Queues.{sweep}
use Rattle.rules.specs.Calls.{restored}

-- the lock k converts, and e is a completion that a granted lock may have
pub record Restorable (k e : ℕ) (t : Tables) : Type 0 where
  pub core : Core t
  pub converts : converting (lock t k) ≡ true
  pub notice : e ≤ completion_conversion_denied
  pub not_denied : e ≢ completion_denied

-- it is back on the grant queue at the mode it held, with that completion, and its resource is swept
unfoldable pub restore : ℕ → ℕ → Tables → Tables
restore k e t = sweep (lock t k).resource (move (lock t k).resource k (restored e (lock t k)) t)
