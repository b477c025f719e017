-- One test that antt computes over a whole table or range of numbers, and laws that turn it into the rule at each entry.
-- Assumes nothing.
use mathlib.Core.Path.{◌≡◌, refl, subst, sym}
use mathlib.Core.Bool.{Bool, true, false, ◌&&◌}
use mathlib.Core.Logic.{⊎_elim}
use mathlib.Core.List.{List, [], ◌∷◌}
use Prim.Native.Nat.{ℕ, zero, suc, ◌≤◌, ◌<◌}
use native.Mathlib.Nat.{eq-or-lt_of_le, le_of_suc-le-suc, not-suc-le-zero}
use lib.Dec.{ltb}
use lib.ListN.{get_or}
use borrow.Author.Tests.{ltb-true, ltb-false}

pub and_left : (a b : Bool) → (a && b) ≡ true → a ≡ true
and_left true b h = refl
and_left false b h = h

pub and_right : (a b : Bool) → (a && b) ≡ true → b ≡ true
and_right true b h = h
and_right false true h = refl
and_right false false h = h

-- finds a part of a conjunction
pub ruleset parts = (and_left, and_right)

-- inside the range, or past it
pub by_range : {A : Type 0} (k n : ℕ) → (k < n → A) → (n ≤ k → A) → A
by_range {A} k n inside past = go (ltb k n) refl
  where
    go : (b : Bool) → ltb k n ≡ b → A
    go true h = inside (ltb-true k n h)
    go false h = past (ltb-false k n h)

-- the two are equal, as a test
abbrev pub same : Bool → Bool → Bool
same true b = b
same false true = false
same false false = true

pub same_true : (a b : Bool) → same a b ≡ true → a ≡ b
same_true true b h = sym h
same_true false true h = h
same_true false false h = refl

-- the test passes at each number below n
abbrev pub upto : ℕ → (ℕ → Bool) → Bool
upto zero test = true
upto (suc n) test = test n && upto n test

pub below : (test : ℕ → Bool) (n : ℕ) → upto n test ≡ true → (k : ℕ) → k < n → test k ≡ true
below test zero t k h = absurd (not-suc-le-zero h)
below test (suc n) t k h =
    ⊎_elim (λ e. subst (λ (m : ℕ). test m ≡ true) (sym e) (and_left (test n) (upto n test) t))
    (λ l. below test n (and_right (test n) (upto n test) t) k l)
    (eq-or-lt_of_le (le_of_suc-le-suc h))

-- the same over two ranges, and over three
pub below2 : (test : ℕ → ℕ → Bool) (n m : ℕ) → upto n (λ a. upto m (test a)) ≡ true → (a b : ℕ) → a < n → b < m → test a b ≡ true
below2 test n m t a b ha hb = below (test a) m (below (λ a. upto m (test a)) n t a ha) b hb

pub below3 : (test : ℕ → ℕ → ℕ → Bool) (n m l : ℕ) → upto n (λ a. upto m (λ b. upto l (test a b))) ≡ true → (a b d : ℕ) → a < n → b < m → d < l
    → test a b d ≡ true
below3 test n m l t a b d ha hb hd = below2 (test a) m l (below (λ a. upto m (λ b. upto l (test a b))) n t a ha) b d hb hd

-- two rules that agree at each pair, and at each three numbers
pub agree2 : (f g : ℕ → ℕ → Bool) (n m : ℕ) → upto n (λ a. upto m (λ b. same (f a b) (g a b))) ≡ true → (a b : ℕ) → a < n → b < m
    → f a b ≡ g a b
agree2 f g n m t a b ha hb = same_true (f a b) (g a b) (below2 (λ a b. same (f a b) (g a b)) n m t a b ha hb)

pub agree3 : (f g : ℕ → ℕ → ℕ → Bool) (n m l : ℕ) → upto n (λ a. upto m (λ b. upto l (λ d. same (f a b d) (g a b d)))) ≡ true → (a b d : ℕ)
    → a < n → b < m → d < l → f a b d ≡ g a b d
agree3 f g n m l t a b d ha hb hd = same_true (f a b d) (g a b d) (below3 (λ a b d. same (f a b d) (g a b d)) n m l t a b d ha hb hd)

-- the rule's values at the n numbers from 0 on: a table of the code is compared with it, each entry once
abbrev pub entries : {A : Type 0} → ℕ → (ℕ → A) → List A
entries zero f = []
entries (suc n) f = f 0 ∷ entries n (λ k. f (suc k))

pub entry_at : {A : Type 0} (n : ℕ) (f : ℕ → A) (k : ℕ) (d : A) → k < n → get_or (entries n f) k d ≡ f k
entry_at zero f k d h = absurd (not-suc-le-zero h)
entry_at (suc n) f zero d h = refl
entry_at (suc n) f (suc k) d h = entry_at n (λ k. f (suc k)) k d (le_of_suc-le-suc h)
