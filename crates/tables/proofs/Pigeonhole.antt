-- Lists without repeats, by their lengths.
use mathlib.Core.Path.{◌≡◌, refl, sym, ap, ◌∙◌}
use mathlib.Core.List.{List, [], ◌∷◌}
use Prim.Native.Nat.{ℕ, zero, suc, ◌+◌, ◌≤◌}
use native.Mathlib.Omega.{arith}
use lib.ListN.{length}
use lib.Dec.{eqb}
use Rattle.tables.specs.Lists.{count, remove, from}
use Rattle.tables.proofs.Cases.{by_cases, by_equal}
use Rattle.tables.proofs.Counts.{count_same, count_other, count_remove, count_remove_other, count_step}

pub length_remove : (k : ℕ) (xs : List ℕ) → length xs ≡ count k xs + length (remove k xs)
unfolding count remove
length_remove k [] = omega arith
length_remove k (x ∷ xs) =
    by_cases (eqb k x) (λ h. rw h (omega (arith, length_remove k xs))) (λ h. rw h (omega (arith, length_remove k xs)))

-- pigeonhole: a list without repeats, each of whose members is on another, is no longer
pub length_le : (xs ys : List ℕ) → ((j : ℕ) → count j xs ≤ 1) → ((j : ℕ) → count j xs ≤ count j ys) → length xs ≤ length ys
length_le [] ys once h = omega arith
length_le (x ∷ xs) ys once h =
    let ih = length_le xs (remove x ys) (λ j. omega (arith, once j, count_step j x xs)) less in
    omega (arith, ih, length_remove x ys, h x, count_same x xs)
  where
    less : (j : ℕ) → count j xs ≤ count j (remove x ys)
    less j =
        by_equal j x
        (λ e. rw (e, count_remove) (omega (arith, count_same x xs, once x)))
        (λ n. rw (count_remove_other j x ys n) (omega (arith, count_other j x xs n, h j)))

pub length_from : (a n : ℕ) → length (from a n) ≡ n
length_from a zero = refl
length_from a (suc n) = ap suc (length_from (suc a) n)

-- and if it is as long as the other, without repeats too, it has each of its members
pub all_of : (xs ys : List ℕ) → ((j : ℕ) → count j ys ≤ 1) → ((j : ℕ) → count j xs ≤ count j ys) → length xs ≡ length ys → (j : ℕ) → count j xs ≡ count j ys
all_of xs ys once h e j =
    by_equal (count j xs) 0
    (λ z. by_equal (count j ys) 0
    (λ y. z ∙ sym y)
    (λ n. absurd (omega (arith, e, length_remove j ys, length_le xs (remove j ys) (λ i. omega (arith, h i, once i)) (less z)))))
    (λ n. omega (arith, h j, once j))
  where
    less : count j xs ≡ 0 → (i : ℕ) → count i xs ≤ count i (remove j ys)
    less z i =
        by_equal i j
        (λ q. rw (q, count_remove) (omega arith))
        (λ n. rw (count_remove_other i j ys n) (h i))

-- lists without repeats and with the same members are of one length
pub same_length : (xs ys : List ℕ) → ((j : ℕ) → count j ys ≤ 1) → ((j : ℕ) → count j xs ≡ count j ys) → length xs ≡ length ys
same_length xs ys once h =
    omega (
      arith,
      length_le xs ys (λ j. omega (arith, h j, once j)) (λ j. omega (arith, h j)),
      length_le ys xs once (λ j. omega (arith, h j)),
    )
