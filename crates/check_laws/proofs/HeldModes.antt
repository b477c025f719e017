-- Held modes along a chain: each fits the set of those before it exactly if they are pairwise compatible.
use mathlib.Core.Path.{◌≡◌, refl, sym, ◌∙◌}
use mathlib.Core.Logic.{◌≢◌}
use mathlib.Core.Bool.{Bool, true, ◌&&◌, and-true, and_assoc}
use mathlib.Core.List.{List, [], ◌∷◌, ◌++◌}
use Prim.Native.Nat.{ℕ, ◌≤◌, ◌<◌}
use native.Mathlib.Omega.{arith}
use Rattle.modes.specs.Modes.{compatible}
use Rattle.modes.specs.Sets.{fits_set, with_mode}
use Rattle.modes.proofs.Laws.{compatible_sym, fits_with, with_mode_small}
use Rattle.tables.specs.Lists.{count, all}
use Rattle.tables.proofs.Cases.{by_equal, and_left, and_right, and_intro, parts, same_truth}
use Rattle.tables.proofs.Counts.{count_nil, count_same, count_other, count_step, all_at, all_intro}
use Rattle.tables.specs.Threads.{Each}
use Rattle.check_laws.specs.Check.{fitting, gather, fits_beside}

-- TESTS that say the same
pub four : (a b c d : Bool) → ((a && b) && (c && d)) ≡ ((a && c) && (b && d))
four a b c d =
    same_truth _ _
    (λ h. and_intro (a && c) (b && d) (and_intro a c (search parts) (search parts)) (and_intro b d (search parts) (search parts)))
    (λ h. and_intro (a && b) (c && d) (and_intro a b (search parts) (search parts)) (and_intro c d (search parts) (search parts)))

three : (a b c d : Bool) → (a && ((b && c) && d)) ≡ ((a && b) && (c && d))
three a b c d =
    same_truth _ _
    (λ h. and_intro (a && b) (c && d) (and_intro a b (search parts) (search parts)) (and_intro c d (search parts) (search parts)))
    (λ h. and_intro a ((b && c) && d) (search parts) (and_intro (b && c) d (and_intro b c (search parts) (search parts)) (search parts)))

six : (a b c d e f : Bool) → ((a && b) && ((c && d) && (e && f))) ≡ ((a && c) && ((b && e) && (d && f)))
six a b c d e f =
    same_truth _ _
    (λ h. and_intro (a && c) ((b && e) && (d && f)) (and_intro a c (search parts) (search parts))
    (and_intro (b && e) (d && f) (and_intro b e (search parts) (search parts)) (and_intro d f (search parts) (search parts))))
    (λ h. and_intro (a && b) ((c && d) && (e && f)) (and_intro a b (search parts) (search parts))
    (and_intro (c && d) (e && f) (and_intro c d (search parts) (search parts)) (and_intro e f (search parts) (search parts))))

pub all_and : (p q : ℕ → Bool) (xs : List ℕ) → all (λ k. p k && q k) xs ≡ (all p xs && all q xs)
unfolding all
all_and p q [] = refl
all_and p q (x ∷ xs) = rw (all_and p q xs) (four (p x) (q x) (all p xs) (all q xs))

pub all_append : (p : ℕ → Bool) (xs ys : List ℕ) → all p (xs ++ ys) ≡ (all p xs && all p ys)
unfolding all
all_append p [] ys = refl
all_append p (x ∷ xs) ys = rw (all_append p xs ys) (same_truth _ _
    (λ h. and_intro (p x && all p xs) (all p ys) (and_intro (p x) (all p xs) (search parts) (search parts)) (search parts))
    (λ h. and_intro (p x) (all p xs && all p ys) (search parts) (and_intro (all p xs) (all p ys) (search parts) (search parts))))

pub all_true : (xs : List ℕ) → all (λ k. true) xs ≡ true
unfolding all
all_true [] = refl
all_true (x ∷ xs) = all_true xs

pub all_each : (p q : ℕ → Bool) (P : ℕ → Type 0) (xs : List ℕ) → Each P xs → ((k : ℕ) → P k → p k ≡ q k) → all p xs ≡ all q xs
unfolding all
all_each p q P [] e h = refl
all_each p q P (x ∷ xs) e h = rw (h x e.0, all_each p q P xs e.1 h)

-- pairwise compatible
unfoldable pub pairs : (ℕ → ℕ) → List ℕ → Bool
pairs held [] = true
pairs held (k ∷ ks) = all (λ j. compatible (held k) (held j)) ks && pairs held ks

module _ (held : ℕ → ℕ) where
  abbrev pub Low : List ℕ → Type 0
  Low xs = Each (λ k. held k ≤ 5) xs

  pub gather_small : (s : ℕ) (xs : List ℕ) → s < 64 → Low xs → gather held s xs < 64
  unfolding gather
  gather_small s [] p e = p
  gather_small s (k ∷ ks) p e = gather_small (with_mode s (held k)) ks (with_mode_small s (held k) p (omega (arith, e.0))) e.1

  pub gather_fits : (s a : ℕ) (xs : List ℕ) → s < 64 → a ≤ 5 → Low xs → fits_set (gather held s xs) a ≡ (fits_set s a && all (λ k. compatible (held k) a) xs)
  unfolding gather all
  gather_fits s a [] p q e = sym (and-true (fits_set s a))
  gather_fits s a (k ∷ ks) p q e =
      gather_fits (with_mode s (held k)) a ks (with_mode_small s (held k) p (omega (arith, e.0))) q e.1
      ∙ (rw (fits_with s (held k) a p (omega (arith, e.0)) (omega arith)) (and_assoc (fits_set s a) (compatible (held k) a) (all (λ k. compatible (held k) a) ks)))

  -- the locks behind k each fit the set with k's mode
  fits_more : (s m : ℕ) (ks : List ℕ) → s < 64 → m ≤ 5 → Low ks →
      all (λ j. fits_set (with_mode s m) (held j)) ks ≡ (all (λ j. fits_set s (held j)) ks && all (λ j. compatible m (held j)) ks)
  fits_more s m ks p q e =
      all_each (λ j. fits_set (with_mode s m) (held j)) (λ j. fits_set s (held j) && compatible m (held j)) (λ k. held k ≤ 5) ks e
      (λ j l. fits_with s m (held j) p (omega arith) (omega arith))
      ∙ all_and (λ j. fits_set s (held j)) (λ j. compatible m (held j)) ks

  pub fitting_is : (s : ℕ) (xs : List ℕ) → s < 64 → Low xs → fitting fits_set held s xs ≡ (all (λ k. fits_set s (held k)) xs && pairs held xs)
  unfolding fitting pairs all
  fitting_is s [] p e = refl
  fitting_is s (k ∷ ks) p e =
      rw (fitting_is (with_mode s (held k)) ks (with_mode_small s (held k) p (omega (arith, e.0))) e.1, fits_more s (held k) ks p e.0 e.1)
      (three (fits_set s (held k)) (all (λ j. fits_set s (held j)) ks) (all (λ j. compatible (held k) (held j)) ks) (pairs held ks))

  pub beside_is : (h s : ℕ) (xs : List ℕ) → h ≤ 5 → s < 64 → Low xs →
      fitting (fits_beside h) held s xs ≡ (all (λ k. fits_set s (held k)) xs && (all (λ k. compatible h (held k)) xs && pairs held xs))
  unfolding fitting fits_beside pairs all
  beside_is h s [] q p e = refl
  beside_is h s (k ∷ ks) q p e =
      rw (
        beside_is h (with_mode s (held k)) ks q (with_mode_small s (held k) p (omega (arith, e.0))) e.1,
        fits_more s (held k) ks p e.0 e.1,
        fits_with s h (held k) p (omega arith) (omega (arith, e.0)),
      )
      (six (fits_set s (held k)) (compatible h (held k)) (all (λ j. fits_set s (held j)) ks) (all (λ j. compatible (held k) (held j)) ks) (all (λ j. compatible h (held j)) ks) (pairs held ks))

  pub pairs_append : (xs ys : List ℕ) → pairs held (xs ++ ys) ≡ (pairs held xs && (all (λ k. all (λ j. compatible (held j) (held k)) xs) ys && pairs held ys))
  unfolding pairs all
  pairs_append [] ys = rw (all_true ys)
  pairs_append (x ∷ xs) ys =
      rw (all_append (λ j. compatible (held x) (held j)) xs ys, pairs_append xs ys, all_and (λ k. compatible (held x) (held k)) (λ k. all (λ j. compatible (held j) (held k)) xs) ys)
      (same_truth _ _
      (λ h. search (and_intro, and_left, and_right) depth 20)
      (λ h. search (and_intro, and_left, and_right) depth 20))

  -- pairwise, whatever the order
  pub pairs_true : (xs : List ℕ) → pairs held xs ≡ true → (j k : ℕ) → 1 ≤ count j xs → 1 ≤ count k xs → j ≢ k → compatible (held j) (held k) ≡ true
  unfolding pairs
  pairs_true [] h j k a b n = absurd (omega (arith, count_nil j))
  pairs_true (x ∷ xs) h j k a b n =
      let first = and_left (all (λ j. compatible (held x) (held j)) xs) _ h in
      by_equal j x
      (λ e. let away : k ≢ x = λ q. n (e ∙ sym q) in
      rw e (all_at (λ j. compatible (held x) (held j)) xs first k (rw (count_other k x xs away) at b)))
      (λ d. by_equal k x
      (λ e. rw e (compatible_sym (held j) (held x) ∙ all_at (λ j. compatible (held x) (held j)) xs first j (rw (count_other j x xs d) at a)))
      (λ c. pairs_true xs (and_right (all (λ j. compatible (held x) (held j)) xs) _ h) j k (rw (count_other j x xs d) at a) (rw (count_other k x xs c) at b) n))

  pub true_pairs : (xs : List ℕ) → ((j : ℕ) → count j xs ≤ 1) → ((j k : ℕ) → 1 ≤ count j xs → 1 ≤ count k xs → j ≢ k → compatible (held j) (held k) ≡ true) → pairs held xs ≡ true
  unfolding pairs
  true_pairs [] once h = refl
  true_pairs (x ∷ xs) once h =
      and_intro (all (λ j. compatible (held x) (held j)) xs) (pairs held xs)
      (all_intro (λ j. compatible (held x) (held j)) xs
      (λ k m. h x k (omega (arith, count_same x xs)) (omega (arith, count_step k x xs)) (λ e. let z : 1 ≤ count x xs = rw e m in omega (arith, once x, count_same x xs))))
      (true_pairs xs (λ j. omega (arith, once j, count_step j x xs)) (λ j k a b n. h j k (omega (arith, count_step j x xs)) (omega (arith, count_step k x xs)) n))
