-- A client's first notice, and what taking one stands on.
use Rattle.std.specs.Prelude.{◌≡◌, true, ℕ, eqb}
use Rattle.tables.specs.Lists.{first_that}
use Rattle.tables.specs.State.{Tables, lock, noticed}
use Rattle.tables.specs.Validity.{Core}

-- the first lock of the client on the notice chain, or 0
unfoldable pub first_notice : ℕ → Tables → ℕ
first_notice c t = first_that (λ k. eqb (lock t k).client c) t.notices

-- the lock k belongs on the notice chain
pub record Noticed (k : ℕ) (t : Tables) : Type 0 where
  pub core : Core t
  pub has_notice : noticed (lock t k) ≡ true
