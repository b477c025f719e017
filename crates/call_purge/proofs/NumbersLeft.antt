-- The numbers to n that pass a test, from k on: what a loop over records has still to do.
use mathlib.Core.Path.{◌≡◌}
use mathlib.Core.Logic.{◌≢◌}
use mathlib.Core.Bool.{Bool, true, false}
use mathlib.Core.List.{List, [], ◌∷◌}
use Prim.Native.Nat.{ℕ, suc, ◌+◌, ◌-◌, ◌≤◌, ◌<◌}
use native.Mathlib.Omega.{arith}
use native.Mathlib.Numerals.{add-one}
use Rattle.tables.specs.Lists.{count, keep, from}
use Rattle.tables.proofs.Cases.{by_cases}
use Rattle.tables.proofs.Counts.{from_below, count_keep, keep_cong}

unfoldable pub ahead : (ℕ → Bool) → ℕ → ℕ → List ℕ
ahead p n k = keep p (from k (suc n - k))

pub ahead_start : (p : ℕ → Bool) (n : ℕ) → ahead p n 1 ≡ keep p (from 1 n)
unfolding ahead
ahead_start p n = let q : suc n - 1 ≡ n = omega arith in rw q

pub ahead_end : (p : ℕ → Bool) (n k : ℕ) → n < k → ahead p n k ≡ []
unfolding ahead keep
ahead_end p n k h = let q : suc n - k ≡ 0 = omega arith in rw q

module _ (p : ℕ → Bool) (n k : ℕ) (h : k ≤ n) where
  one_more : suc n - k ≡ suc (suc n - (k + 1))
  one_more = omega arith

  pub ahead_in : p k ≡ true → ahead p n k ≡ k ∷ ahead p n (k + 1)
  unfolding ahead keep
  ahead_in e = rw (one_more, add-one k, e)

  pub ahead_out : p k ≡ false → ahead p n k ≡ ahead p n (k + 1)
  unfolding ahead keep
  ahead_out e = rw (one_more, add-one k, e)

-- k itself is not past k
from_past : (k n j : ℕ) → 1 ≤ count j (from (k + 1) n) → j ≢ k
from_past k n j m e = omega (arith, from_below (k + 1) n j (omega arith))

pub ahead_past : (p : ℕ → Bool) (n k j : ℕ) → 1 ≤ count j (ahead p n (k + 1)) → j ≢ k
unfolding ahead
ahead_past p n k j m =
    let q = count_keep p j (from (k + 1) (suc n - (k + 1))) in
    by_cases (p j)
    (λ h. from_past k (suc n - (k + 1)) j (rw (q, h) at m))
    (λ h. absurd (omega (arith, rw (q, h) at m)))

pub ahead_cong : (p q : ℕ → Bool) (n k : ℕ) → ((j : ℕ) → j ≢ k → p j ≡ q j) → ahead p n (k + 1) ≡ ahead q n (k + 1)
unfolding ahead
ahead_cong p q n k h =
    keep_cong p q (from (k + 1) (suc n - (k + 1))) (λ j m. h j (from_past k (suc n - (k + 1)) j m))
