-- Laws of loops that test each number of a run.
use mathlib.Core.Path.{◌≡◌, refl, sym, ap, ◌∙◌}
use mathlib.Core.Bool.{Bool, true, false, ◌&&◌, not, and_comm, and_assoc}
use Prim.Native.Nat.{ℕ, zero, suc, ◌+◌, ◌-◌, ◌<◌, ◌≤◌}
use native.Mathlib.Omega.{arith}
use native.Mathlib.Nat.{add-zero}
use borrow.Author.Tests.{not-true, not-false}
use borrow.Author.Rules.{rules}
use Rattle.tables.specs.Lists.{all, from}
use Rattle.tables.proofs.Cases.{and_intro}
use Rattle.table_names.proofs.NumberRuns.{upto, upto_more, upto_none}

-- `while a <= b { if !p(a) { return false; } a += 1; } true`: what is left to test from a on decides the whole
pub all_next : (p : ℕ → Bool) {a b : ℕ} {whole r : Bool} → whole ≡ all p (upto a b) → a ≤ b → r ≡ p a → not r ≡ false → whole ≡ all p (upto (a + 1) b)
unfolding all
all_next p {r = r} i h e t = i ∙ rw (upto_more h, ← e, not-false r t)

pub all_stop : (p : ℕ → Bool) {a b : ℕ} {whole r : Bool} → whole ≡ all p (upto a b) → a ≤ b → r ≡ p a → not r ≡ true → false ≡ whole
unfolding all
all_stop p {r = r} i h e t = sym (i ∙ rw (upto_more h, ← e, not-true r t))

pub all_end : (p : ℕ → Bool) {a b : ℕ} {whole : Bool} → whole ≡ all p (upto a b) → b < a → true ≡ whole
unfolding all
all_end p i h = sym (i ∙ rw (upto_none h))

pub ruleset all_loop = (rules, all_next, all_stop, all_end)

-- `while 1 <= r { if !p(r) { return false; } r -= 1; } true`: what is left to test from r down decides the whole
all_last : (p : ℕ → Bool) (n a : ℕ) → all p (from a (suc n)) ≡ (all p (from a n) && p (a + n))
unfolding all
all_last p zero a = rw (add-zero a) (and_comm (p a) true)
all_last p (suc n) a =
    let q : suc a + n ≡ a + suc n = omega arith in
    ap (λ (b : Bool). p a && b) (all_last p n (suc a)) ∙ rw q (sym (and_assoc (p a) (all p (from (suc a) n)) (p (a + suc n))))

down_last : (p : ℕ → Bool) (r : ℕ) → 1 ≤ r → all p (upto 1 r) ≡ (all p (upto 1 (r - 1)) && p r)
unfolding upto
down_last p r h =
    let m : r + 1 - 1 ≡ suc (r - 1) = omega arith in
    let n : r - 1 + 1 - 1 ≡ r - 1 = omega arith in
    let k : 1 + (r - 1) ≡ r = omega arith in
    rw (m, n) (all_last p (r - 1) 1 ∙ ap (λ (j : ℕ). all p (from 1 (r - 1)) && p j) k)

module _ (p : ℕ → Bool) (r : ℕ) {whole x : Bool} (left : whole ≡ all p (upto 1 r)) where
  pub down_next : 1 ≤ r → x ≡ p r → not x ≡ false → whole ≡ all p (upto 1 (r - 1))
  down_next h e t = left ∙ down_last p r h ∙ rw (← e, not-false x t) (and_comm (all p (upto 1 (r - 1))) true)

  pub down_stop : 1 ≤ r → x ≡ p r → not x ≡ true → false ≡ whole
  down_stop h e t = sym (left ∙ down_last p r h ∙ rw (← e, not-true x t) (and_comm (all p (upto 1 (r - 1))) false))

pub down_end : (p : ℕ → Bool) (r : ℕ) {whole : Bool} → whole ≡ all p (upto 1 r) → r < 1 → true ≡ whole
unfolding all
down_end p r left h = sym (left ∙ rw (upto_none h))

-- what holds of each number of a run holds of all
pub all_each : (p : ℕ → Bool) (n a : ℕ) → ((k : ℕ) → a ≤ k → k < a + n → p k ≡ true) → all p (from a n) ≡ true
unfolding all
all_each p zero a h = refl
all_each p (suc n) a h = and_intro (p a) _ (h a (omega arith) (omega arith)) (all_each p n (suc a) (λ k u v. h k (omega arith) (omega arith)))
