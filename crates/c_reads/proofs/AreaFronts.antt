-- The front of an area that C lends.
use mathlib.Core.Path.{◌≡◌, sym, ap, ◌∙◌}
use mathlib.Core.List.{List, ◌++◌, append-nil}
use Prim.Native.Nat.{ℕ, ◌<◌, ◌≤◌}
use native.Mathlib.Omega.{arith}
use lib.ListN.{length, take, drop, drop_of_length-le}
use lib.Seq.{take_all}
use Rattle.c_answers.specs.Areas.{in_front}

module _ (bytes area : List ℕ) where
  module _ (short : length area < length bytes) where
    pub front_full : (zs : List ℕ) → zs ≡ take (length area) bytes → zs ≡ in_front bytes area
    unfolding in_front
    front_full zs e =
        let over : length area ≤ length bytes = omega arith in
        e ∙ sym (ap (λ (l : List ℕ). take (length area) bytes ++ l) (drop_of_length-le area over) ∙ append-nil (take (length area) bytes))

  module _ (long : length bytes ≤ length area) where
    pub front_rest : (zs : List ℕ) → zs ≡ bytes → zs ++ drop (length bytes) area ≡ in_front bytes area
    unfolding in_front
    front_rest zs e = ap (λ (l : List ℕ). l ++ drop (length bytes) area) (e ∙ sym (take_all (length area) bytes long))
