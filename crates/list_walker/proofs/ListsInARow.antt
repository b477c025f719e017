-- Lists of numbers: what follows a number on two lists in a row, and what stands at a place.
use mathlib.Core.Path.{◌≡◌, refl, sym, ◌∙◌}
use mathlib.Core.List.{List, [], ◌∷◌, ◌++◌}
use Prim.Native.Nat.{ℕ, zero, suc, ◌≤◌, ◌<◌}
use native.Mathlib.Omega.{arith}
use lib.ListN.{get_or, length}
use Rattle.tables.specs.Lists.{count, first, next}
use Rattle.tables.proofs.Cases.{by_equal}
use Rattle.tables.proofs.Counts.{count_nil, count_same, count_other, count_step}
use Rattle.tables.proofs.Links.{next_here, next_past, first_of, first_after}

-- what follows k there: something on its own list, or the first of what comes after it
pub next_skip : (k : ℕ) (xs ys : List ℕ) → count k xs ≡ 0 → next k (xs ++ ys) ≡ next k ys
next_skip k [] ys z = refl
next_skip k (x ∷ xs) ys z =
    by_equal k x
    (λ e. absurd (omega (arith, count_same x xs, rw e at z)))
    (λ n. next_past k x (xs ++ ys) n ∙ next_skip k xs ys (rw (count_other k x xs n) at z))

pub next_in : (k : ℕ) (xs ys : List ℕ) → 1 ≤ count k xs → (next k xs ≡ 0 → ⊥) → next k (xs ++ ys) ≡ next k xs
next_in k [] ys m n = absurd (omega (arith, rw (count_nil k) at m))
next_in k (x ∷ xs) ys m n =
    by_equal k x
    (λ e. next_here k x (xs ++ ys) e ∙ first_of xs ys (λ z. n (next_here k x xs e ∙ z)) ∙ sym (next_here k x xs e))
    (λ d. next_past k x (xs ++ ys) d ∙ next_in k xs ys (rw (count_other k x xs d) at m) (λ z. n (next_past k x xs d ∙ z)) ∙ sym (next_past k x xs d))

pub next_end : (k : ℕ) (xs ys : List ℕ) → 1 ≤ count k xs → count 0 xs ≡ 0 → next k xs ≡ 0 → next k (xs ++ ys) ≡ first ys
next_end k [] ys m z n = absurd (omega (arith, rw (count_nil k) at m))
next_end k (x ∷ xs) ys m z n =
    by_equal k x
    (λ e. next_here k x (xs ++ ys) e ∙ first_after xs ys (omega (arith, count_step 0 x xs)) (sym (next_here k x xs e) ∙ n))
    (λ d. next_past k x (xs ++ ys) d ∙ next_end k xs ys (rw (count_other k x xs d) at m) (omega (arith, count_step 0 x xs)) (sym (next_past k x xs d) ∙ n))

-- places
pub first_at : (xs : List ℕ) → first xs ≡ get_or xs 0 0
first_at [] = refl
first_at (x ∷ xs) = refl

pub at_on : (xs : List ℕ) (i : ℕ) → i < length xs → 1 ≤ count (get_or xs i 0) xs
at_on [] i h = absurd (omega arith)
at_on (x ∷ xs) zero h = rw (count_same x xs) (omega arith)
at_on (x ∷ xs) (suc i) h = omega (arith, count_step (get_or xs i 0) x xs, at_on xs i (omega arith))

pub at_inside : (xs : List ℕ) (i : ℕ) → (get_or xs i 0 ≡ 0 → ⊥) → i < length xs
at_inside [] i n = absurd (n refl)
at_inside (x ∷ xs) zero n = omega arith
at_inside (x ∷ xs) (suc i) n = omega (arith, at_inside xs i n)

pub at_end : (xs : List ℕ) (i : ℕ) → count 0 xs ≡ 0 → i ≤ length xs → get_or xs i 0 ≡ 0 → i ≡ length xs
at_end [] i z h e = omega arith
at_end (x ∷ xs) zero z h e = absurd (omega (arith, count_same 0 xs, rw e at z))
at_end (x ∷ xs) (suc i) z h e = omega (arith, at_end xs i (omega (arith, count_step 0 x xs)) (omega arith) e)

-- where each stands once, what follows the one at a place is the one at the next place
pub at_next : (xs : List ℕ) (i : ℕ) → ((k : ℕ) → count k xs ≤ 1) → i < length xs → next (get_or xs i 0) xs ≡ get_or xs (suc i) 0
at_next [] i d h = absurd (omega arith)
at_next (x ∷ xs) zero d h = next_here x x xs refl ∙ first_at xs
at_next (x ∷ xs) (suc i) d h =
    next_past (get_or xs i 0) x xs (λ e. omega (arith, count_same x xs, d x, rw e at (at_on xs i (omega arith))))
    ∙ at_next xs i (λ k. omega (arith, count_step k x xs, d k)) (omega arith)
