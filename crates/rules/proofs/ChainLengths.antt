-- How long chains are.
use mathlib.Core.Path.{◌≡◌, refl, ◌∙◌}
use mathlib.Core.Bool.{Bool, not}
use mathlib.Core.List.{List, [], ◌∷◌}
use Prim.Native.Nat.{ℕ, ◌+◌, ◌≤◌}
use native.Mathlib.Omega.{arith}
use lib.ListN.{length}
use Rattle.tables.specs.Lists.{within, count, keep, from}
use Rattle.tables.specs.State.{Tables, lock, LockChain, chain, belongs}
use Rattle.tables.proofs.Cases.{by_cases}
use Rattle.tables.proofs.Counts.{count_kept, kept_once}
use Rattle.tables.specs.Validity.{Core}
use Rattle.tables.proofs.Pigeonhole.{length_from, same_length}

pub length_keep : (p : ℕ → Bool) (xs : List ℕ) → length (keep p xs) + length (keep (λ j. not (p j)) xs) ≡ length xs
unfolding keep
length_keep p [] = refl
length_keep p (x ∷ xs) = by_cases (p x) (λ h. rw h (omega (arith, length_keep p xs))) (λ h. rw h (omega (arith, length_keep p xs)))

module _ (t : Tables) (c : Core t) where
  count_in : (x : LockChain) (j : ℕ) → count j (chain t x) ≡ count j (keep (λ k. belongs x (lock t k)) (from 1 (length t.locks)))
  count_in x j = c.linked x j ∙ (rw (count_kept (λ k. belongs x (lock t k)) (length t.locks) j)
      (by_cases (within (length t.locks) j)
      (λ w. rw w (by_cases (belongs x (lock t j)) (λ b. rw b) (λ b. rw b)))
      (λ w. rw w (by_cases (belongs x (lock t j)) (λ b. rw b) (λ b. rw b)))))

  pub chain_length : (x : LockChain) → length (chain t x) ≡ length (keep (λ k. belongs x (lock t k)) (from 1 (length t.locks)))
  chain_length x =
      same_length (chain t x) (keep (λ k. belongs x (lock t k)) (from 1 (length t.locks))) (kept_once (λ k. belongs x (lock t k)) (length t.locks)) (count_in x)

  -- every chain of locks has at most L locks
  pub chain_short : (x : LockChain) → length (chain t x) ≤ length t.locks
  chain_short x = omega (arith, chain_length x, length_keep (λ k. belongs x (lock t k)) (from 1 (length t.locks)), length_from 1 (length t.locks))
