-- A walk along a chain: what is met, and what is left of it, is the whole.
use mathlib.Core.Path.{◌≡◌, ◌∙◌}
use mathlib.Core.Bool.{Bool, true, false, not}
use Prim.Native.Nat.{ℕ, suc, ◌+◌, ◌-◌, ◌≤◌, ◌<◌}
use native.Mathlib.Omega.{arith}
use borrow.Author.Tests.{not-true, not-false, le-leb, lt-leb}
use Rattle.check_laws.specs.Check.{steps}
use Rattle.check_laws.proofs.ChainSteps.{steps_zero, steps_none, steps_turn}
use Rattle.check_chains.specs.Walks.{guarded, steps_left, Met}
use Rattle.std.proofs.Common.{Some, None}

-- it ends; it is too long; it leaves the table; it meets what doesn't pass; it goes on
module _ (link : ℕ → ℕ) (q : ℕ → Bool) {n left k whole : ℕ} (i : whole ≡ steps_left link q n left k) (l : left ≤ n) where
  pub walk_end : k ≡ 0 → n - left ≡ whole
  unfolding steps_left
  walk_end e = let w : whole ≡ n - left + 0 = i ∙ rw (e, steps_zero link (guarded n q) left) in omega arith

  module _ (e : k ≡ 0 → ⊥) where
    pub walk_long : left ≡ 0 → n + 1 ≡ whole
    unfolding steps_left
    walk_long z = let w : whole ≡ n - 0 + 1 = i ∙ rw (z, steps_none link (guarded n q) k e) in omega arith

    walk_fail : (left ≡ 0 → ⊥) → guarded n q k ≡ false → n + 1 ≡ whole
    unfolding steps_left
    walk_fail h f =
        let w : whole ≡ n - left + suc left = i ∙ rw (steps_turn link (guarded n q) left k (omega arith) e, f) in
        omega arith

    pub walk_off : (left ≡ 0 → ⊥) → n < k → n + 1 ≡ whole
    unfolding guarded
    walk_off h o = walk_fail h (rw (lt-leb k n o))

    module _ {r : Bool} (h : left ≡ 0 → ⊥) (o : k ≤ n) (t : r ≡ q k) where
      pub walk_other : not r ≡ true → n + 1 ≡ whole
      unfolding guarded
      walk_other f = walk_fail h (rw (le-leb k n o, ← t, not-true r f))

      pub walk_on : {x fewer : ℕ} → not r ≡ false → x ≡ link k → fewer ≡ left - 1 → whole ≡ steps_left link q n fewer x
      unfolding steps_left guarded
      walk_on {x} {fewer} f g p =
          let w : whole ≡ n - left + suc (steps link (guarded n q) (left - 1) x) = i ∙ rw (steps_turn link (guarded n q) left k (omega arith) e, le-leb k n o, ← t, not-false r f, g) in
          rw p (omega arith)

-- a walk starts
pub walk_start : (link : ℕ → ℕ) (q : ℕ → Bool) (n k : ℕ) → steps link (guarded n q) n k ≡ steps_left link q n n k
unfolding steps_left
walk_start link q n k = omega arith

-- what is found
pub met_over : {n whole : ℕ} → n + 1 ≡ whole → Met n whole None
met_over e = record { is = e; few = tt }

pub met_in : {n m whole : ℕ} → m ≡ whole → m ≤ n → Met n whole (Some m)
met_in e h = record { is = e; few = h }

pub ruleset walk_loop = (walk_end, walk_long, walk_off, walk_other, walk_on, met_over, met_in)
