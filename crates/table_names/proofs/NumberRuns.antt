-- Laws of loops over a run of numbers.
use mathlib.Core.Path.{◌≡◌, sym, ap, ◌∙◌}
use mathlib.Core.Bool.{Bool, true, false}
use mathlib.Core.List.{List, [], ◌∷◌}
use Rattle.std.proofs.Common.{Some, None}
use Prim.Native.Nat.{ℕ, zero, suc, ◌+◌, ◌-◌, ◌<◌, ◌≤◌}
use native.Mathlib.Omega.{arith}
use native.Mathlib.Numerals.{add-one}
use borrow.Author.Rules.{rules}
use Rattle.tables.specs.Lists.{first_that, from}
use Rattle.tables.specs.Numbered.{numbered}
use Rattle.tables.proofs.Counts.{first_here, first_later}

-- the numbers from a up to b
unfoldable pub upto : ℕ → ℕ → List ℕ
upto a b = from a (b + 1 - a)

-- a run that is not over has its first number, and the run from the next one on
pub upto_more : {a b : ℕ} → a ≤ b → upto a b ≡ a ∷ upto (a + 1) b
unfolding upto
upto_more {a} {b} h = let q : b + 1 - a ≡ suc (b + 1 - (a + 1)) = omega arith in rw (q, add-one a)

pub upto_none : {a b : ℕ} → b < a → upto a b ≡ []
unfolding upto
upto_none {a} {b} h = let q : b + 1 - a ≡ 0 = omega arith in rw q

-- the run of the definitions
pub from_first : (n : ℕ) → from 1 n ≡ upto 1 n
unfolding upto
from_first n = let q : n + 1 - 1 ≡ n = omega arith in rw q

-- `while a <= b { if p(a) { return a; } a += 1; } 0`
pub first_found : (p : ℕ → Bool) {a b whole : ℕ} {r : Bool} → whole ≡ first_that p (upto a b) → a ≤ b → r ≡ p a → r ≡ true → a ≡ whole
first_found p {a} {b} i h e t = sym (i ∙ ap (first_that p) (upto_more h) ∙ first_here p a (upto (a + 1) b) (sym e ∙ t))

pub first_next : (p : ℕ → Bool) {a b whole : ℕ} {r : Bool} → whole ≡ first_that p (upto a b) → a ≤ b → r ≡ p a → r ≡ false → whole ≡ first_that p (upto (a + 1) b)
first_next p {a} {b} i h e t = i ∙ ap (first_that p) (upto_more h) ∙ first_later p a (upto (a + 1) b) (sym e ∙ t)

pub first_end : (p : ℕ → Bool) {a b whole : ℕ} → whole ≡ first_that p (upto a b) → b < a → 0 ≡ whole
unfolding first_that
first_end p i h = sym (i ∙ rw (upto_none h))

pub ruleset first_loop = (rules, first_found, first_next, first_end)

-- the same where the answer is a number or none: `for r in a..b + 1 { if p(r) { return Some(r); } } None`
pub found_some : (k : ℕ) {whole : ℕ} → 1 ≤ k → k ≡ whole → Some k ≡ numbered whole
found_some zero p e = absurd (omega arith)
found_some (suc k) p e = ap numbered e

pub found_none : {whole : ℕ} → 0 ≡ whole → None ≡ numbered whole
found_none e = ap numbered e

pub ruleset some_loop = (first_loop, found_some, found_none)
