-- What a refused read leaves in the area that C lends.
use mathlib.Core.Path.{◌≡◌, refl}
use mathlib.Core.List.{List}
use Prim.Native.Nat.{ℕ, zero, suc}
use Rattle.c_answers.specs.Areas.{value_in}

pub value_stays : (n : ℕ) (v a : List ℕ) → (n ≡ 0 → ⊥) → a ≡ value_in n v a
unfolding value_in
value_stays zero v a some = absurd (some refl)
value_stays (suc n) v a some = refl
