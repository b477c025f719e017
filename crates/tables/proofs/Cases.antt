-- Case analysis that keeps the equation, and what a test of several parts says.
use mathlib.Core.Path.{◌≡◌, refl, sym}
use mathlib.Core.Logic.{◌≢◌}
use mathlib.Core.Bool.{Bool, true, false, ◌&&◌, ◌||◌}
use Prim.Native.Nat.{ℕ}
use native.Mathlib.Omega.{arith}
use lib.Dec.{eqb}
use borrow.Author.Tests.{eqb-true, eqb-false, eq-eqb}
-- the parts of `(a && b && ..) ≡ true`; `search parts depth 20` finds one of a conjunction in scope
pub use Rattle.modes.proofs.Table.{and_left, and_right, parts}

pub by_cases : {A : Type 0} (b : Bool) → (b ≡ true → A) → (b ≡ false → A) → A
by_cases true f g = f refl
by_cases false f g = g refl

pub by_equal : {A : Type 0} (j k : ℕ) → (j ≡ k → A) → (j ≢ k → A) → A
by_equal j k f g = by_cases (eqb j k) (λ h. f (eqb-true j k h)) (λ h. g (eqb-false j k h))

pub clash : {A : Type 0} (b : Bool) → b ≡ true → b ≡ false → A
clash b p q = absurd (let z : ◌≡◌ {A = ℕ} 0 1 = cc in omega arith)

pub eqb_same : (k : ℕ) → eqb k k ≡ true
eqb_same k = eq-eqb k k refl

pub and_intro : (a b : Bool) → a ≡ true → b ≡ true → (a && b) ≡ true
and_intro a b p q = rw (p, q)

pub or_left : (a b : Bool) → a ≡ true → (a || b) ≡ true
or_left a b h = rw h

pub or_right : (a b : Bool) → b ≡ true → (a || b) ≡ true
or_right true b h = refl
or_right false b h = h

pub nor_left : (a b : Bool) → (a || b) ≡ false → a ≡ false
nor_left true b h = h
nor_left false b h = refl

pub nor_right : (a b : Bool) → (a || b) ≡ false → b ≡ false
nor_right true b h = cc
nor_right false b h = h

-- tests that give each other are equal
pub same_truth : (a b : Bool) → (a ≡ true → b ≡ true) → (b ≡ true → a ≡ true) → a ≡ b
same_truth true b f g = sym (f refl)
same_truth false true f g = g refl
same_truth false false f g = refl
