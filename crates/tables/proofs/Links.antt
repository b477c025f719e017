-- Lists of record numbers: what follows a number, what stands before it, and how these change with the list.
use mathlib.Core.Path.{◌≡◌, refl, sym, ◌∙◌}
use mathlib.Core.Logic.{◌≢◌}
use mathlib.Core.Bool.{true, false}
use mathlib.Core.List.{List, [], ◌∷◌, ◌++◌}
use Prim.Native.Nat.{ℕ, zero, suc, ◌≤◌}
use native.Mathlib.Omega.{arith}
use native.Mathlib.Decide.{ℕ_discrete}
use lib.ListN.{length}
use lib.Dec.{eqb}
use borrow.Author.Tests.{eq-eqb, ne_eqb}
use Rattle.tables.specs.Lists.{count, remove, first, next}
use Rattle.tables.proofs.Cases.{by_equal}
use Rattle.tables.proofs.Counts.{count_nil, count_same, count_other, count_step, count_remove, count_remove_other, remove_absent}
use Rattle.tables.proofs.Pigeonhole.{length_remove}
use Rattle.tables.specs.Threads.{Absent, Distinct, Each}

-- what stands before k, where j stands before the list; what stands last, if k is not on it
unfoldable pub holder : ℕ → ℕ → List ℕ → ℕ
holder j k [] = j
holder j k (x ∷ xs) = elim (eqb k x) [ true ↦ j | false ↦ holder x k xs ]

-- by counts
pub count_absent : (k : ℕ) (xs : List ℕ) → count k xs ≡ 0 → Absent k xs
count_absent k [] h = tt
count_absent k (x ∷ xs) h =
    by_equal k x
    (λ e. absurd (omega (arith, count_same x xs, rw e at h)))
    (λ n. (n, count_absent k xs (rw (count_other k x xs n) at h)))

pub absent_count : (k : ℕ) (xs : List ℕ) → Absent k xs → count k xs ≡ 0
absent_count k [] a = count_nil k
absent_count k (x ∷ xs) a = count_other k x xs a.0 ∙ absent_count k xs a.1

pub counted_distinct : (xs : List ℕ) → ((k : ℕ) → count k xs ≤ 1) → Distinct xs
counted_distinct [] h = tt
counted_distinct (x ∷ xs) h = (
  count_absent x xs (omega (arith, count_same x xs, h x)),
  counted_distinct xs (λ k. omega (arith, count_step k x xs, h k)),
)

pub distinct_count : (k : ℕ) (xs : List ℕ) → Distinct xs → count k xs ≤ 1
distinct_count k [] d = rw (count_nil k) (omega arith)
distinct_count k (x ∷ xs) d =
    by_equal k x
    (λ e. rw (e, count_same x xs, absent_count x xs d.0) (omega arith))
    (λ n. rw (count_other k x xs n) (distinct_count k xs d.1))

-- the first of two lists in a row
pub first_of : (xs ys : List ℕ) → (first xs ≡ 0 → ⊥) → first (xs ++ ys) ≡ first xs
first_of [] ys n = absurd (n refl)
first_of (x ∷ xs) ys n = refl

pub first_after : (xs ys : List ℕ) → count 0 xs ≡ 0 → first xs ≡ 0 → first (xs ++ ys) ≡ first ys
first_after [] ys z e = refl
first_after (zero ∷ xs) ys z e = absurd (omega (arith, count_same 0 xs))
first_after (suc x ∷ xs) ys z e = absurd (omega arith)

-- it is on the list
pub counted_on : (k : ℕ) (xs : List ℕ) → 1 ≤ count k xs → Absent k xs → ⊥
counted_on k xs h a = omega (arith, absent_count k xs a)

pub on_counted : (k : ℕ) (xs : List ℕ) → (Absent k xs → ⊥) → 1 ≤ count k xs
on_counted k xs o = elim (ℕ_discrete (count k xs) 0) [ yes e ↦ absurd (o (count_absent k xs e)) | no n ↦ omega arith ]

pub each_on : (P : ℕ → Type 0) (xs : List ℕ) (k : ℕ) → Each P xs → (Absent k xs → ⊥) → P k
each_on P [] k e o = absurd (o tt)
each_on P (x ∷ xs) k e o = elim (ℕ_discrete k x) [ yes f ↦ rw f e.0 | no n ↦ each_on P xs k e.1 (λ a. o (n, a)) ]

pub each_absent : (P : ℕ → Type 0) (xs : List ℕ) (k : ℕ) → Each P xs → (P k → ⊥) → Absent k xs
each_absent P [] k e n = tt
each_absent P (x ∷ xs) k e n = (λ f. n (rw f e.0), each_absent P xs k e.1 n)

module _ (k j : ℕ) where
  pub next_here : (xs : List ℕ) → k ≡ j → next k (j ∷ xs) ≡ first xs
  unfolding next
  next_here xs e = rw (eq-eqb k j e, next)

  pub next_past : (xs : List ℕ) → k ≢ j → next k (j ∷ xs) ≡ next k xs
  unfolding next
  next_past xs n = rw (ne_eqb k j n, next)

  pub holder_here : (i : ℕ) (xs : List ℕ) → k ≡ j → holder i k (j ∷ xs) ≡ i
  unfolding holder
  holder_here i xs e = rw (eq-eqb k j e, holder)

  pub holder_past : (i : ℕ) (xs : List ℕ) → k ≢ j → holder i k (j ∷ xs) ≡ holder j k xs
  unfolding holder
  holder_past i xs n = rw (ne_eqb k j n, holder)

  pub remove_here : (xs : List ℕ) → k ≡ j → remove k (j ∷ xs) ≡ remove k xs
  unfolding remove
  remove_here xs e = rw (eq-eqb k j e)

  pub remove_past : (xs : List ℕ) → k ≢ j → remove k (j ∷ xs) ≡ j ∷ remove k xs
  unfolding remove
  remove_past xs n = rw (ne_eqb k j n)

pub next_absent : (k : ℕ) (xs : List ℕ) → Absent k xs → next k xs ≡ 0
unfolding next
next_absent k [] a = refl
next_absent k (x ∷ xs) a = next_past k x xs a.0 ∙ next_absent k xs a.1

pub next_last : (k x : ℕ) → next k (x ∷ []) ≡ 0
unfolding next
next_last k x = elim (ℕ_discrete k x) [ yes e ↦ next_here k x [] e | no n ↦ next_past k x [] n ]

-- what follows a number stands further on in the list
pub next_further : (j x y : ℕ) (xs : List ℕ) → x ≢ 0 → Absent x xs → next j (y ∷ xs) ≢ x
next_further j x y [] z a e = z (sym (sym (next_last j y) ∙ e))
next_further j x y (w ∷ xs) z a e =
    elim (ℕ_discrete j y) [
      | yes f ↦ a.0 (sym (sym (next_here j y (w ∷ xs) f) ∙ e))
      | no n ↦ next_further j x w xs z a.1 (sym (next_past j y (w ∷ xs) n) ∙ e)
    ]

-- the number on the list that k follows is the one that stands before k
pub next_holder : (j k y : ℕ) (xs : List ℕ) → Distinct (y ∷ xs) → Absent 0 xs → (Absent j (y ∷ xs) → ⊥) → next j (y ∷ xs) ≡ k → holder y k xs ≡ j
unfolding holder
next_holder j k y [] d z o e = elim (ℕ_discrete j y) [ yes f ↦ sym f | no n ↦ absurd (o (n, tt)) ]
next_holder j k y (x ∷ xs) d z o e =
    elim (ℕ_discrete j y) [
      | yes f ↦ holder_here k x y xs (sym e ∙ next_here j y (x ∷ xs) f) ∙ sym f
      | no n ↦
          let g : next j (x ∷ xs) ≡ k = sym (next_past j y (x ∷ xs) n) ∙ e in
          holder_past k x y xs (λ f. next_further j x x xs (λ h. z.0 (sym h)) d.1.0 (g ∙ f)) ∙ next_holder j k x xs d.1 z.1 (λ a. o (n, a)) g
    ]

-- the holder stands on the list, or is what stands before it
pub holder_differs : (i j k : ℕ) (xs : List ℕ) → Absent i (j ∷ xs) → holder j k xs ≢ i
unfolding holder
holder_differs i j k [] a = omega arith
holder_differs i j k (x ∷ xs) a =
    elim (ℕ_discrete k x) [ yes e ↦ rw (holder_here k x j xs) (omega arith) | no n ↦ rw (holder_past k x j xs) (holder_differs i x k xs a.1) ]

pub holder_on : (j k : ℕ) (xs : List ℕ) → Absent (holder j k xs) (j ∷ xs) → ⊥
holder_on j k xs a = holder_differs (holder j k xs) j k xs a refl

pub without : (k : ℕ) (xs : List ℕ) → Absent k xs → remove k xs ≡ xs
without k xs a = remove_absent k xs (absent_count k xs a)

pub removed : (k : ℕ) (xs : List ℕ) → Absent k (remove k xs)
removed k xs = count_absent k (remove k xs) (count_remove k xs)

pub absent_remove : (j k : ℕ) (xs : List ℕ) → Absent j xs → Absent j (remove k xs)
absent_remove j k xs a =
    by_equal j k (λ e. rw e (removed k xs)) (λ n. count_absent j (remove k xs) (count_remove_other j k xs n ∙ absent_count j xs a))

pub on_remove : (j k : ℕ) (xs : List ℕ) → j ≢ k → Absent j (remove k xs) → Absent j xs
on_remove j k xs n a = count_absent j xs (sym (count_remove_other j k xs n) ∙ absent_count j (remove k xs) a)

-- k joins at the end: what stands last, or y before an empty list, is now followed by k, and nothing else changes
pub next_append_here : (y k : ℕ) (xs : List ℕ) → Distinct (y ∷ xs) → Absent 0 xs → next (holder y 0 xs) (y ∷ (xs ++ (k ∷ []))) ≡ k
unfolding holder
next_append_here y k [] d a = next_here y y (k ∷ []) refl
next_append_here y k (x ∷ xs) d a =
    rw (holder_past 0 x y xs a.0) (next_past (holder x 0 xs) y _ (holder_differs y x 0 xs d.0) ∙ next_append_here x k xs d.1 a.1)

pub next_append_past : (j y k : ℕ) (xs : List ℕ) → Absent 0 xs → j ≢ holder y 0 xs → next j (y ∷ (xs ++ (k ∷ []))) ≡ next j (y ∷ xs)
unfolding holder
next_append_past j y k [] a n = next_past j y (k ∷ []) n ∙ next_last j k ∙ sym (next_last j y)
next_append_past j y k (x ∷ xs) a n =
    elim (ℕ_discrete j y) [
      | yes e ↦ next_here j y _ e ∙ sym (next_here j y _ e)
      | no m ↦ next_past j y _ m ∙ next_append_past j x k xs a.1 (rw (holder_past 0 x y xs a.0) at n) ∙ sym (next_past j y _ m)
    ]

-- k leaves: what stood before it is followed by what followed it, nothing follows k, and nothing else changes
pub next_remove_here : (y k : ℕ) (xs : List ℕ) → Distinct (y ∷ xs) → (Absent k xs → ⊥) → next (holder y k xs) (y ∷ remove k xs) ≡ next k xs
next_remove_here y k [] d o = absurd (o tt)
next_remove_here y k (x ∷ xs) d o =
    elim (ℕ_discrete k x) [
      | yes e ↦
          rw (holder_here k x y xs, remove_here k x xs, next_here k x xs, without k xs (rw e d.1.0)) (next_here y y xs refl)
      | no n ↦
          rw (holder_past k x y xs, remove_past k x xs, next_past k x xs)
          (next_past (holder x k xs) y _ (holder_differs y x k xs d.0) ∙ next_remove_here x k xs d.1 (λ a. o (n, a)))
    ]

pub next_remove_gone : (y k : ℕ) (xs : List ℕ) → k ≢ y → next k (y ∷ remove k xs) ≡ 0
next_remove_gone y k xs n = next_absent k (y ∷ remove k xs) (n, removed k xs)

pub next_remove_past : (j y k : ℕ) (xs : List ℕ) → Distinct xs → j ≢ holder y k xs → j ≢ k → next j (y ∷ remove k xs) ≡ next j (y ∷ xs)
unfolding remove
next_remove_past j y k [] d h n = refl
next_remove_past j y k (x ∷ xs) d h n =
    elim (ℕ_discrete k x) [
      | yes e ↦
          let m : j ≢ y = rw (holder_here k x y xs e) at h in
          let p : j ≢ x = omega arith in
          rw (remove_here k x xs, without k xs (rw e d.0)) (next_past j y xs m ∙ sym (next_past j x xs p) ∙ sym (next_past j y (x ∷ xs) m))
      | no q ↦
          rw (remove_past k x xs)
          (elim (ℕ_discrete j y) [
            | yes e ↦ next_here j y _ e ∙ sym (next_here j y _ e)
            | no m ↦ next_past j y _ m ∙ next_remove_past j x k xs d.1 (rw (holder_past k x y xs q) at h) n ∙ sym (next_past j y _ m)
          ])
    ]

-- k joins in front
pub next_push_past : (j y k : ℕ) (xs : List ℕ) → j ≢ y → j ≢ k → next j (y ∷ k ∷ xs) ≡ next j (y ∷ xs)
next_push_past j y k xs m n = simp next_past

-- a list without repeats that stays below n is no longer than n
pub distinct_remove : (k : ℕ) (xs : List ℕ) → Distinct xs → Distinct (remove k xs)
unfolding remove
distinct_remove k [] d = tt
distinct_remove k (x ∷ xs) d =
    elim (ℕ_discrete k x) [
      | yes e ↦ rw (remove_here k x xs) (distinct_remove k xs d.1)
      | no n ↦ rw (remove_past k x xs) (absent_remove x k xs d.0, distinct_remove k xs d.1)
    ]

pub each_remove : (P Q : ℕ → Type 0) (k : ℕ) → ((j : ℕ) → j ≢ k → P j → Q j) → (xs : List ℕ) → Each P xs → Each Q (remove k xs)
unfolding remove
each_remove P Q k h [] e = tt
each_remove P Q k h (x ∷ xs) e =
    elim (ℕ_discrete k x) [
      | yes f ↦ rw (remove_here k x xs) (each_remove P Q k h xs e.1)
      | no n ↦ rw (remove_past k x xs) (h x (omega arith) e.0, each_remove P Q k h xs e.1)
    ]

pub few : (n : ℕ) (xs : List ℕ) → Distinct xs → Each (λ k. (1 ≤ k) × (k ≤ n)) xs → length xs ≤ n
few zero [] d e = omega arith
few zero (x ∷ xs) d e = absurd (omega arith)
few (suc n) xs d e =
    omega (
      arith,
      length_remove (suc n) xs,
      distinct_count (suc n) xs d,
      few n (remove (suc n) xs) (distinct_remove (suc n) xs d) (each_remove _ (λ k. (1 ≤ k) × (k ≤ n)) (suc n) (λ j m p. (p.0, omega arith)) xs e),
    )

-- k joins at the end
pub absent_append : (j k : ℕ) (xs : List ℕ) → Absent j xs → j ≢ k → Absent j (xs ++ (k ∷ []))
absent_append j k [] a n = (n, tt)
absent_append j k (x ∷ xs) a n = (a.0, absent_append j k xs a.1 n)

pub distinct_append : (k : ℕ) (xs : List ℕ) → Distinct xs → Absent k xs → Distinct (xs ++ (k ∷ []))
distinct_append k [] d a = (tt, tt)
distinct_append k (x ∷ xs) d a = (absent_append x k xs d.0 (omega arith), distinct_append k xs d.1 a.1)

pub each_append : (P : ℕ → Type 0) (k : ℕ) (xs : List ℕ) → Each P xs → P k → Each P (xs ++ (k ∷ []))
each_append P k [] e p = (p, tt)
each_append P k (x ∷ xs) e p = (e.0, each_append P k xs e.1 p)

pub each_map : (P Q : ℕ → Type 0) → ((k : ℕ) → P k → Q k) → (xs : List ℕ) → Each P xs → Each Q xs
each_map P Q h [] e = tt
each_map P Q h (x ∷ xs) e = (h x e.0, each_map P Q h xs e.1)

-- the same, of its members
pub each_map_on : (P Q : ℕ → Type 0) (xs : List ℕ) → ((k : ℕ) → (Absent k xs → ⊥) → P k → Q k) → Each P xs → Each Q xs
each_map_on P Q [] h e = tt
each_map_on P Q (x ∷ xs) h e = (h x (λ a. a.0 refl) e.0, each_map_on P Q xs (λ k o p. h k (λ a. o a.1) p) e.1)

pub on_append : (j k : ℕ) (xs : List ℕ) → Absent j (xs ++ (k ∷ [])) → Absent j xs
on_append j k [] a = tt
on_append j k (x ∷ xs) a = (a.0, on_append j k xs a.1)

pub on_end : (k : ℕ) (xs : List ℕ) → Absent k (xs ++ (k ∷ [])) → ⊥
on_end k [] a = a.0 refl
on_end k (x ∷ xs) a = on_end k xs a.1
