-- The loop of `modes::down`: what is known of the modes passed, and how it goes on. Assumes nothing.
use mathlib.Core.Path.{◌≡◌, ◌∙◌, refl, sym}
use mathlib.Core.Bool.{Bool, true, false, ◌&&◌, ◌||◌, not}
use Prim.Native.Nat.{ℕ, ◌+◌, ◌≤◌, ◌<◌}
use native.Mathlib.Omega.{arith}
use Rattle.modes.specs.Modes.{compatible, down}
use Rattle.modes.proofs.Table.{by_range}
use Rattle.modes.proofs.Laws.{all_modes_at, all_modes_intro}

-- each mode below n that is compatible with the old is compatible with the new
pub record Kept (old new n : ℕ) : Type 0 where
  pub each : (x : ℕ) → x < n → (not (compatible old x) || compatible new x) ≡ true

-- the loop's test is the rule's, turned round
test_is : (a b : Bool) → (not a || b) ≡ not (a && not b)
test_is true true = refl
test_is true false = refl
test_is false b = refl

module _ (old new : ℕ) where
  pub kept_none : Kept old new 0
  kept_none = record { each = λ x h. absurd (omega arith) }

  module _ (n : ℕ) where
    -- mode n passes the loop's test
    pub kept_next : (compatible old n && not (compatible new n)) ≡ false → Kept old new n → Kept old new (n + 1)
    kept_next t k =
        record {
          each = λ x h. by_range x n (λ l. k.each x l) (λ p. let e : x ≡ n = omega arith in rw (e, test_is (compatible old n) (compatible new n), t));
        }

    -- mode n does not pass it
    pub lost : n < 6 → (compatible old n && not (compatible new n)) ≡ true → false ≡ down old new
    unfolding down
    lost l t = go (down old new) refl
      where
        rule : (not (compatible old n) || compatible new n) ≡ false
        rule = rw (test_is (compatible old n) (compatible new n), t)

        go : (d : Bool) → down old new ≡ d → false ≡ d
        go false h = refl
        go true h = sym rule ∙ all_modes_at (λ m. not (compatible old m) || compatible new m) h n (omega arith)

    pub kept_all : 6 ≤ n → Kept old new n → true ≡ down old new
    unfolding down
    kept_all h k = sym (all_modes_intro (λ m. not (compatible old m) || compatible new m) (λ x l. k.each x (omega arith)))
