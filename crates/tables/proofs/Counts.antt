-- Laws of lists of numbers: how often each stands on them.
use mathlib.Core.Path.{◌≡◌, refl, sym, ap, ◌∙◌}
use mathlib.Core.Logic.{◌≢◌}
use mathlib.Core.Bool.{Bool, true, false, cond}
use mathlib.Core.List.{List, [], ◌∷◌, ◌++◌}
use Prim.Native.Nat.{ℕ, zero, suc, ◌+◌, ◌≤◌, ◌<◌}
use native.Mathlib.Omega.{arith}
use lib.ListN.{length, get_or, replicate, length-set, get_or-eq_default}
use lib.Seq.{get_or-set_same, get_or-set_other, set-get_or}
use lib.Dec.{eqb, leb}
use borrow.Author.Tests.{eqb-true, eq-eqb, ne_eqb, leb-true, leb-false, ltb-true, ltb-false, lt-ltb}
use Rattle.tables.specs.Lists.{nth, put, within, count, bit, remove, all, any, keep, first_that, from, null, same}
use Rattle.tables.specs.State.{shift, shift_front}
use Rattle.tables.proofs.Cases.{by_cases, by_equal, clash, eqb_same, and_left, and_right, and_intro, or_left, or_right}

pub within_le : (n k : ℕ) → within n k ≡ true → (1 ≤ k) × (k ≤ n)
within_le n zero h = absurd (let z : ◌≡◌ {A = ℕ} 0 1 = cc in omega arith)
within_le n (suc k) h = (omega arith, ltb-true k n h)

pub le_within : (n k : ℕ) → 1 ≤ k → k ≤ n → within n k ≡ true
le_within n zero h g = absurd (omega arith)
le_within n (suc k) h g = lt-ltb k n g

module _ {A : Type 0} (d : A) where
  pub length_put : (xs : List A) (k : ℕ) (a : A) → length (put xs k a) ≡ length xs
  length_put xs zero a = refl
  length_put xs (suc k) a = length-set xs k a

  pub nth_put_same : (xs : List A) (k : ℕ) (a : A) → within (length xs) k ≡ true → nth (put xs k a) k d ≡ a
  nth_put_same xs zero a h = absurd (let z : ◌≡◌ {A = ℕ} 0 1 = cc in omega arith)
  nth_put_same xs (suc k) a h = get_or-set_same xs k a d (ltb-true k (length xs) h)

  pub nth_put_other : (xs : List A) (k : ℕ) (a : A) (j : ℕ) → j ≢ k → nth (put xs k a) j d ≡ nth xs j d
  nth_put_other xs k a zero h = refl
  nth_put_other xs zero a (suc j) h = refl
  nth_put_other xs (suc k) a (suc j) h = get_or-set_other xs k j a d (λ e. h (ap suc e))

  pub nth_out : (xs : List A) (k : ℕ) → within (length xs) k ≡ false → nth xs k d ≡ d
  nth_out xs zero h = refl
  nth_out xs (suc k) h = get_or-eq_default xs d (ltb-false k (length xs) h)

  -- a record that is put where it stands
  pub put_own : (xs : List A) (k : ℕ) → put xs k (nth xs k d) ≡ xs
  put_own xs zero = refl
  put_own xs (suc k) = set-get_or xs k d

  -- a list of one record over and over, of which each place has it
  pub get_or_same : (n k : ℕ) → get_or (replicate n d) k d ≡ d
  get_or_same zero k = refl
  get_or_same (suc n) zero = refl
  get_or_same (suc n) (suc k) = get_or_same n k

  pub nth_same : (n k : ℕ) → nth (replicate n d) k d ≡ d
  nth_same n zero = refl
  nth_same n (suc k) = get_or_same n k

pub count_same : (k : ℕ) (xs : List ℕ) → count k (k ∷ xs) ≡ suc (count k xs)
unfolding count
count_same k xs = rw (eqb_same k)

pub count_other : (j k : ℕ) (xs : List ℕ) → j ≢ k → count j (k ∷ xs) ≡ count j xs
unfolding count
count_other j k xs h = rw (ne_eqb j k h)

pub count_cons : (j k : ℕ) (xs : List ℕ) → count j (k ∷ xs) ≡ bit (eqb j k) + count j xs
unfolding count
count_cons j k xs = by_cases (eqb j k) (λ h. rw h (omega arith)) (λ h. rw h (omega arith))

-- the first of a list is on it, and not behind itself where nothing stands twice
pub head_in : (xs : List ℕ) (k : ℕ) (ks : List ℕ) → xs ≡ k ∷ ks → 1 ≤ count k xs
head_in xs k ks e = rw (e, count_same) (omega arith)

pub head_once : (xs : List ℕ) (k : ℕ) (ks : List ℕ) → xs ≡ k ∷ ks → count k xs ≤ 1 → count k ks ≡ 0
head_once xs k ks e h = omega (arith, rw (e, count_same) at h)

pub count_append : (k : ℕ) (xs ys : List ℕ) → count k (xs ++ ys) ≡ count k xs + count k ys
unfolding count
count_append k [] ys = omega arith
count_append k (x ∷ xs) ys =
    by_cases (eqb k x)
    (λ h. rw h (omega (arith, count_append k xs ys)))
    (λ h. rw h (count_append k xs ys))

pub count_remove : (k : ℕ) (xs : List ℕ) → count k (remove k xs) ≡ 0
unfolding count remove
count_remove k [] = refl
count_remove k (x ∷ xs) =
    by_cases (eqb k x) (λ h. rw h (count_remove k xs)) (λ h. rw (h, h) (count_remove k xs))

pub count_remove_other : (j k : ℕ) (xs : List ℕ) → j ≢ k → count j (remove k xs) ≡ count j xs
unfolding count remove
count_remove_other j k [] n = refl
count_remove_other j k (x ∷ xs) n =
    by_equal k x
    (λ e. rw (eq-eqb k x e, ne_eqb j x (λ q. n (q ∙ sym e))) (count_remove_other j k xs n))
    (λ e. rw (ne_eqb k x e) (by_cases (eqb j x) (λ h. rw h (ap suc (count_remove_other j k xs n))) (λ h. rw h (count_remove_other j k xs n))))

pub remove_absent : (k : ℕ) (xs : List ℕ) → count k xs ≡ 0 → remove k xs ≡ xs
unfolding count remove
remove_absent k [] h = refl
remove_absent k (x ∷ xs) h =
    by_cases (eqb k x)
    (λ e. absurd (omega (arith, rw e at h)))
    (λ e. rw e (ap (λ (r : List ℕ). x ∷ r) (remove_absent k xs (rw e at h))))

pub remove_head : (k : ℕ) (xs : List ℕ) → count k xs ≡ 0 → remove k (k ∷ xs) ≡ xs
unfolding remove
remove_head k xs h = rw (eqb_same k) (remove_absent k xs h)

pub count_shift : (b c : Bool) (k : ℕ) (xs : List ℕ) → count k xs ≡ bit b → count k (shift b c k xs) ≡ bit c
unfolding shift count
count_shift true true k xs h = h
count_shift true false k xs h = count_remove k xs
count_shift false true k xs h = rw (count_append, count_same, h)
count_shift false false k xs h = h

pub count_shift_other : (b c : Bool) (j k : ℕ) (xs : List ℕ) → j ≢ k → count j (shift b c k xs) ≡ count j xs
unfolding shift
count_shift_other true true j k xs n = refl
count_shift_other true false j k xs n = count_remove_other j k xs n
count_shift_other false true j k xs n = rw (count_append, count_other j k [] n) (unfold count in omega arith)
count_shift_other false false j k xs n = refl

pub count_front : (b c : Bool) (k : ℕ) (xs : List ℕ) → count k xs ≡ bit b → count k (shift_front b c k xs) ≡ bit c
unfolding shift_front
count_front true true k xs h = h
count_front true false k xs h = count_remove k xs
count_front false true k xs h = rw (count_same, h)
count_front false false k xs h = h

pub count_front_other : (b c : Bool) (j k : ℕ) (xs : List ℕ) → j ≢ k → count j (shift_front b c k xs) ≡ count j xs
unfolding shift_front
count_front_other true true j k xs n = refl
count_front_other true false j k xs n = count_remove_other j k xs n
count_front_other false true j k xs n = count_other j k xs n
count_front_other false false j k xs n = refl

pub count_nil : (k : ℕ) → count k [] ≡ 0
unfolding count
count_nil k = refl

pub all_at : (p : ℕ → Bool) (xs : List ℕ) → all p xs ≡ true → (j : ℕ) → 1 ≤ count j xs → p j ≡ true
unfolding all count
all_at p [] h j m = absurd (omega arith)
all_at p (x ∷ xs) h j m =
    by_equal j x
    (λ e. rw e (and_left (p x) (all p xs) h))
    (λ e. all_at p xs (and_right (p x) (all p xs) h) j (rw (ne_eqb j x e) at m))

pub all_intro : (p : ℕ → Bool) (xs : List ℕ) → ((j : ℕ) → 1 ≤ count j xs → p j ≡ true) → all p xs ≡ true
unfolding all
all_intro p [] h = refl
all_intro p (x ∷ xs) h =
    and_intro (p x) (all p xs) (h x (rw count_same (omega arith)))
    (all_intro p xs (λ j m. h j (unfold count in by_cases (eqb j x) (λ e. rw e (omega arith)) (λ e. rw e m))))

pub all_cong : (p q : ℕ → Bool) (xs : List ℕ) → ((j : ℕ) → 1 ≤ count j xs → p j ≡ q j) → all p xs ≡ all q xs
unfolding all
all_cong p q [] h = refl
all_cong p q (x ∷ xs) h =
    rw (h x (rw count_same (omega arith)), all_cong p q xs (λ j m. h j (unfold count in by_cases (eqb j x) (λ e. rw e (omega arith)) (λ e. rw e m))))

pub remove_append : (k : ℕ) (xs ys : List ℕ) → remove k (xs ++ ys) ≡ remove k xs ++ remove k ys
unfolding remove
remove_append k [] ys = refl
remove_append k (x ∷ xs) ys = by_cases (eqb k x) (λ h. rw h (remove_append k xs ys)) (λ h. rw h (ap (λ (r : List ℕ). x ∷ r) (remove_append k xs ys)))

pub shift_off : (b : Bool) (k : ℕ) (xs : List ℕ) → count k xs ≡ bit b → shift b false k xs ≡ remove k xs
unfolding shift
shift_off true k xs h = refl
shift_off false k xs h = sym (remove_absent k xs h)

pub bit_le : (b : Bool) → bit b ≤ 1
bit_le true = omega arith
bit_le false = omega arith

pub bit_one : (b : Bool) → 1 ≤ bit b → b ≡ true
bit_one true h = refl
bit_one false h = absurd (omega arith)

-- a member of two lists in a row is a member of one
pub by_append : {A : Type 0} (j : ℕ) (xs ys : List ℕ) → 1 ≤ count j (xs ++ ys) → (1 ≤ count j xs → A) → (1 ≤ count j ys → A) → A
by_append j xs ys m f g =
    by_cases (leb 1 (count j xs))
    (λ h. f (leb-true 1 (count j xs) h))
    (λ h. g (omega (arith, leb-false 1 (count j xs) h, rw count_append at m)))

pub count_step : (k j : ℕ) (xs : List ℕ) → count k xs ≤ count k (j ∷ xs)
unfolding count
count_step k j xs = by_cases (eqb k j) (λ h. rw h (omega arith)) (λ h. rw h (omega arith))

-- the numbers from a
pub from_below : (a n s : ℕ) → s < a → count s (from a n) ≡ 0
from_below a zero s h = count_nil s
from_below a (suc n) s h = count_other s a _ (omega arith) ∙ from_below (suc a) n s (omega arith)

pub from_has : (a n s : ℕ) → a ≤ s → s < a + n → count s (from a n) ≡ 1
from_has a zero s h g = absurd (omega arith)
from_has a (suc n) s h g =
    by_equal s a
    (λ e. rw (e, count_same, from_below (suc a) n a (omega arith)))
    (λ e. count_other s a _ e ∙ from_has (suc a) n s (omega arith) (omega arith))

pub from_above : (a n s : ℕ) → a + n ≤ s → count s (from a n) ≡ 0
from_above a zero s h = count_nil s
from_above a (suc n) s h = count_other s a _ (omega arith) ∙ from_above (suc a) n s (omega arith)

-- each number once
pub count_from : (n s : ℕ) → count s (from 1 n) ≡ bit (within n s)
count_from n s =
    by_cases (within n s)
    (λ h. rw h (from_has 1 n s (within_le n s h).0 (omega (arith, (within_le n s h).1))))
    (λ h. rw h (outside s h))
  where
    outside : (s : ℕ) → within n s ≡ false → count s (from 1 n) ≡ 0
    outside zero h = from_below 1 n 0 (omega arith)
    outside (suc s) h = from_above 1 n (suc s) (omega (arith, ltb-false s n h))

pub from_in : (n s : ℕ) → 1 ≤ count s (from 1 n) → (1 ≤ s) × (s ≤ n)
from_in n s m = within_le n s (bit_one (within n s) (rw (count_from n s) at m))

pub null_nil : (xs : List ℕ) → null xs ≡ true → xs ≡ []
null_nil [] h = refl
null_nil (x ∷ xs) h = clash true refl (sym h)

pub null_length : (xs : List ℕ) → null xs ≡ eqb (length xs) 0
null_length [] = refl
null_length (x ∷ xs) = sym (ne_eqb (suc (length xs)) 0 (omega arith))

pub null_some : (xs : List ℕ) → null xs ≡ false → 1 ≤ length xs
null_some [] h = clash true refl h
null_some (x ∷ xs) h = omega arith

pub nil_of_counts : (xs : List ℕ) → ((j : ℕ) → count j xs ≡ 0) → xs ≡ []
nil_of_counts [] h = refl
nil_of_counts (x ∷ xs) h = absurd (omega (arith, count_same x xs, h x))

pub same_eq : (xs ys : List ℕ) → same xs ys ≡ true → xs ≡ ys
unfolding same
same_eq [] [] h = refl
same_eq [] (y ∷ ys) h = clash false h refl
same_eq (x ∷ xs) [] h = clash false h refl
same_eq (x ∷ xs) (y ∷ ys) h =
    rw (eqb-true x y (and_left (eqb x y) (same xs ys) h), same_eq xs ys (and_right (eqb x y) (same xs ys) h))

pub same_refl : (xs : List ℕ) → same xs xs ≡ true
unfolding same
same_refl [] = refl
same_refl (x ∷ xs) = rw (eqb_same x, same_refl xs)

pub count_keep : (p : ℕ → Bool) (s : ℕ) (xs : List ℕ) → count s (keep p xs) ≡ cond (p s) (count s xs) 0
unfolding keep
count_keep p s [] = by_cases (p s) (λ h. rw h) (λ h. rw (h, count_nil s))
count_keep p s (x ∷ xs) =
    by_equal s x
    (λ e. rw e (by_cases (p x)
    (λ h. rw (h, count_same x (keep p xs), count_same x xs) (ap suc (count_keep p x xs ∙ rw h)))
    (λ h. rw h (count_keep p x xs ∙ rw h))))
    (λ n. rw (count_other s x xs n) (by_cases (p x)
    (λ h. rw (h, count_other s x (keep p xs) n) (count_keep p s xs))
    (λ h. rw h (count_keep p s xs))))

pub keep_cong : (p q : ℕ → Bool) (xs : List ℕ) → ((j : ℕ) → 1 ≤ count j xs → p j ≡ q j) → keep p xs ≡ keep q xs
unfolding keep
keep_cong p q [] h = refl
keep_cong p q (x ∷ xs) h =
    rw (h x (rw count_same (omega arith)), keep_cong p q xs (λ j m. h j (omega (arith, count_step j x xs))))

-- a test that holds of some member holds of one
pub any_has : (p : ℕ → Bool) (xs : List ℕ) → any p xs ≡ true → (j : ℕ) × (1 ≤ count j xs) × (p j ≡ true)
unfolding any
any_has p [] h = clash false h refl
any_has p (x ∷ xs) h =
    by_cases (p x)
    (λ t. (x, omega (arith, count_same x xs), t))
    (λ f. let w = any_has p xs (rw f at h) in (w.0, omega (arith, w.1, count_step w.0 x xs), w.2))

pub any_intro : (p : ℕ → Bool) (xs : List ℕ) (j : ℕ) → 1 ≤ count j xs → p j ≡ true → any p xs ≡ true
unfolding any
any_intro p [] j m h = absurd (omega (arith, rw (count_nil j) at m))
any_intro p (x ∷ xs) j m h =
    by_equal j x
    (λ e. or_left _ _ (rw e at h))
    (λ n. or_right (p x) _ (any_intro p xs j (rw (count_other j x xs n) at m) h))

-- the numbers of 1..n that pass a test
module _ (p : ℕ → Bool) (n s : ℕ) where
  pub count_kept : count s (keep p (from 1 n)) ≡ cond (p s) (bit (within n s)) 0
  count_kept = count_keep p s (from 1 n) ∙ (rw (count_from n s))

  pub kept_in : 1 ≤ count s (keep p (from 1 n)) → (within n s ≡ true) × (p s ≡ true)
  kept_in m = by_cases (p s) (λ h. (bit_one (within n s) (rw (count_kept, h) at m), h)) (λ h. absurd (omega (arith, rw (count_kept, h) at m)))

  pub kept_once : count s (keep p (from 1 n)) ≤ 1
  kept_once = rw count_kept (by_cases (p s) (λ h. rw h (by_cases (within n s) (λ w. rw w (omega arith)) (λ w. rw w (omega arith)))) (λ h. rw h (omega arith)))

  pub kept_out : count s (keep p (from 1 n)) ≡ 0 → p s ≡ true → within n s ≡ false
  kept_out z h = by_cases (within n s) (λ w. absurd (omega (arith, rw (count_kept, h, w) at z))) (λ w. w)

-- the first that passes a test passes it, and stands on the list; where there is none, no member passes
pub first_in : (p : ℕ → Bool) (xs : List ℕ) (k : ℕ) → first_that p xs ≡ suc k → 1 ≤ count (suc k) xs
unfolding first_that
first_in p [] k e = absurd (omega arith)
first_in p (j ∷ js) k e =
    by_cases (p j)
    (λ h. let q : j ≡ suc k = rw (h, first_that) at e in rw (q, count_same) (omega arith))
    (λ h. let i = first_in p js k (rw (h, first_that) at e) in omega (arith, count_step (suc k) j js, i))

pub first_passes : (p : ℕ → Bool) (xs : List ℕ) (k : ℕ) → first_that p xs ≡ suc k → p (suc k) ≡ true
unfolding first_that
first_passes p [] k e = absurd (omega arith)
first_passes p (j ∷ js) k e =
    by_cases (p j)
    (λ h. let q : j ≡ suc k = rw (h, first_that) at e in rw q at h)
    (λ h. first_passes p js k (rw (h, first_that) at e))

pub first_none : (p : ℕ → Bool) (xs : List ℕ) → first_that p xs ≡ 0 → count 0 xs ≡ 0 → (j : ℕ) → 1 ≤ count j xs → p j ≡ false
unfolding first_that
first_none p [] e z j m = absurd (omega (arith, rw (count_nil j) at m))
first_none p (x ∷ xs) e z j m =
    by_cases (p x)
    (λ h. let q : x ≡ 0 = rw (h, first_that) at e in absurd (omega (arith, rw (q, count_same) at z)))
    (λ h. by_equal j x
    (λ d. rw d h)
    (λ d. first_none p xs (rw (h, first_that) at e) (omega (arith, count_step 0 x xs)) j (rw (count_other j x xs d) at m)))

-- the first of a list: it passes, or the search goes on behind it; two tests that agree on the list find the same
module _ (p : ℕ → Bool) (j : ℕ) (js : List ℕ) where
  pub first_here : p j ≡ true → first_that p (j ∷ js) ≡ j
  unfolding first_that
  first_here h = rw (h, first_that)

  pub first_later : p j ≡ false → first_that p (j ∷ js) ≡ first_that p js
  unfolding first_that
  first_later h = rw (h, first_that)

pub first_cong : (p q : ℕ → Bool) (xs : List ℕ) → ((j : ℕ) → 1 ≤ count j xs → p j ≡ q j) → first_that p xs ≡ first_that q xs
first_cong p q [] h = unfold first_that in refl
first_cong p q (x ∷ xs) h =
    let e : p x ≡ q x = h x (rw count_same (omega arith)) in
    by_cases (q x)
    (λ y. first_here p x xs (e ∙ y) ∙ sym (first_here q x xs y))
    (λ y. first_later p x xs (e ∙ y) ∙ first_cong p q xs (λ j m. h j (omega (arith, count_step j x xs))) ∙ sym (first_later q x xs y))
