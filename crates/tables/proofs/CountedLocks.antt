-- The count of a mode on a resource is the number of locks whose records say that they hold it there.
use mathlib.Core.Path.{◌≡◌, refl, sym, ◌∙◌, ap}
use mathlib.Core.Bool.{Bool, true, false, ◌&&◌, cond}
use mathlib.Core.List.{List, [], ◌∷◌, map}
use Prim.Native.Nat.{ℕ, suc}
use lib.Dec.{eqb}
use lib.ListN.{length}
use Rattle.tables.specs.Lists.{within, count, bit, keep, from}
use Rattle.tables.specs.State.{Tables, lock, holds}
use Rattle.tables.specs.Grants.{holders, holds_mode, tally}
use Rattle.tables.specs.Validity.{Core}
use Rattle.tables.proofs.Cases.{by_cases}
use Rattle.tables.proofs.Counts.{count_keep, count_kept, kept_once}
use Rattle.tables.proofs.Pigeonhole.{same_length}
use Rattle.tables.proofs.CountedFits.{holder_count}

kept_length : (g : ℕ → ℕ) (h : ℕ) (xs : List ℕ) → length (keep (λ k. eqb h (g k)) xs) ≡ count h (map g xs)
unfolding keep count
kept_length g h [] = refl
kept_length g h (x ∷ xs) = by_cases (eqb h (g x)) (λ e. rw e (ap suc (kept_length g h xs))) (λ e. rw e (kept_length g h xs))

pub tally_locks : (t : Tables) → Core t → (r m : ℕ)
    → tally t r m ≡ length (keep (λ k. holds_mode (lock t k) r m) (from 1 (length t.locks)))
unfolding tally holds_mode
tally_locks t core r m =
    sym (kept_length (λ k. (lock t k).held) m (holders t r)) ∙ same_length _ _ (kept_once (λ k. holds_mode (lock t k) r m) (length t.locks)) same
  where
    -- w: there is such a lock; a: it holds a mode there; e: that mode is m
    pick : (w a e : Bool) → cond e (bit (w && a)) 0 ≡ cond (a && e) (bit w) 0
    pick true true e = refl
    pick true false true = refl
    pick true false false = refl
    pick false true e = refl
    pick false false true = refl
    pick false false false = refl

    same : (j : ℕ) → count j (keep (λ k. eqb m (lock t k).held) (holders t r)) ≡ count j (keep (λ k. holds_mode (lock t k) r m) (from 1 (length t.locks)))
    same j =
        count_keep (λ k. eqb m (lock t k).held) j (holders t r)
        ∙ ap (λ (n : ℕ). cond (eqb m (lock t j).held) n 0) (holder_count t core r j)
        ∙ pick (within (length t.locks) j) (holds (lock t j) && eqb (lock t j).resource r) (eqb m (lock t j).held)
        ∙ sym (count_kept (λ k. holds_mode (lock t k) r m) (length t.locks) j)
