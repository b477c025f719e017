-- Who stands before whom on a list, and on what is left of it when some go or are taken from the front.
use mathlib.Core.Path.{◌≡◌, refl, sym, ap, ◌∙◌}
use mathlib.Core.Bool.{Bool, true, ◌&&◌, not}
use mathlib.Core.List.{List, [], ◌∷◌, ◌++◌, append_assoc}
use Prim.Native.Nat.{ℕ, ◌≤◌}
use native.Mathlib.Omega.{arith}
use lib.Dec.{eqb, leb}
use borrow.Author.Tests.{ne_eqb, eq-eqb, leb-true, leb-false}
use Rattle.tables.specs.Lists.{count, remove, keep}
use Rattle.tables.proofs.Cases.{by_cases, by_equal, eqb_same}
use Rattle.tables.proofs.Counts.{count_same, count_other, count_append, count_nil}
use Rattle.rules.specs.Deadlock.{before}
use Rattle.rules.proofs.DeadlockVictim.{count_before}

-- BEFORE k, in two lists in a row: k is not on the first, or is
pub before_out : (k : ℕ) (xs ys : List ℕ) → count k xs ≡ 0 → before k (xs ++ ys) ≡ xs ++ before k ys
unfolding before
before_out k [] ys z = refl
before_out k (x ∷ xs) ys z =
    by_equal k x
    (λ e. absurd (omega (arith, rw (e, count_same) at z)))
    (λ n. rw (ne_eqb k x n, before) (ap (λ (us : List ℕ). x ∷ us) (before_out k xs ys (sym (count_other k x xs n) ∙ z))))

pub before_in : (k : ℕ) (xs ys : List ℕ) → 1 ≤ count k xs → before k (xs ++ ys) ≡ before k xs
unfolding before
before_in k [] ys m = absurd (omega (arith, count_nil k))
before_in k (x ∷ xs) ys m =
    by_equal k x
    (λ e. rw (eq-eqb k x e, before))
    (λ n. rw (ne_eqb k x n, before) (ap (λ (us : List ℕ). x ∷ us) (before_in k xs ys (omega (arith, count_other k x xs n)))))

-- .. and among those that stay
pub before_keep : (p : ℕ → Bool) (k : ℕ) (xs : List ℕ) → p k ≡ true → before k (keep p xs) ≡ keep p (before k xs)
unfolding before keep
before_keep p k [] h = refl
before_keep p k (x ∷ xs) h =
    by_equal k x
    (λ e. rw (← e, h, eqb_same k, before))
    (λ n. by_cases (p x)
    (λ y. rw (y, ne_eqb k x n, before) (rw y (ap (λ (us : List ℕ). x ∷ us) (before_keep p k xs h))))
    (λ y. rw (y, ne_eqb k x n, before) (rw y (before_keep p k xs h))))

-- what stands before k and is not taken from the front still stands before k, and k is not taken either
pub before_drop : (j k : ℕ) (taken xs : List ℕ) → count j taken ≡ 0 → 1 ≤ count j (before k (taken ++ xs)) → (count k taken ≡ 0) × (1 ≤ count j (before k xs))
before_drop j k taken xs z m =
    by_cases (leb 1 (count k taken))
    (λ h. absurd (omega (arith, rw (before_in k taken xs (leb-true 1 (count k taken) h)) at m, count_before j k taken)))
    (λ h. let n : count k taken ≡ 0 = omega (arith, leb-false 1 (count k taken) h) in
    (n, omega (arith, rw (before_out k taken xs n, count_append j taken (before k xs)) at m)))

-- WHO STAYS: all; all but k; those who stay twice
pub keep_all : (xs : List ℕ) → keep (λ j. true) xs ≡ xs
unfolding keep
keep_all [] = refl
keep_all (x ∷ xs) = ap (λ (us : List ℕ). x ∷ us) (keep_all xs)

pub remove_keep : (k : ℕ) (xs : List ℕ) → remove k xs ≡ keep (λ j. not (eqb k j)) xs
unfolding remove keep
remove_keep k [] = refl
remove_keep k (x ∷ xs) = by_cases (eqb k x) (λ h. rw h (remove_keep k xs)) (λ h. rw h (ap (λ (us : List ℕ). x ∷ us) (remove_keep k xs)))

pub keep_keep : (p q : ℕ → Bool) (xs : List ℕ) → keep p (keep q xs) ≡ keep (λ j. q j && p j) xs
unfolding keep
keep_keep p q [] = refl
keep_keep p q (x ∷ xs) = by_cases (q x) (λ h. rw (h, keep, keep_keep p q xs)) (λ h. rw (h, keep_keep p q xs))

-- WHAT IS LEFT when some are taken from the front
pub record FromFront (old new : List ℕ) : Type 0 where
  pub taken : List ℕ
  pub split : old ≡ taken ++ new

pub front_none : (xs : List ℕ) → FromFront xs xs
front_none xs = record { taken = []; split = refl }

pub front_then : (xs ys zs : List ℕ) → FromFront xs ys → FromFront ys zs → FromFront xs zs
front_then xs ys zs p q =
    record {
      taken = p.taken ++ q.taken;
      split = p.split ∙ ap (λ (us : List ℕ). p.taken ++ us) q.split ∙ sym (append_assoc p.taken q.taken zs);
    }
