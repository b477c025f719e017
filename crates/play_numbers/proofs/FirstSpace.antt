-- Laws of the first space, and of a number before it.
use Prim.Native.Nat.{ℕ, suc, ◌+◌, ◌-◌, ◌≤◌, ◌<◌}
use mathlib.Core.Bool.{true, false, cond, false≢true}
use mathlib.Core.Path.{◌≡◌, refl, sym, ap, ◌∙◌}
use mathlib.Core.List.{List, [], ◌∷◌}
use native.Mathlib.Numerals.{add-one}
use native.Mathlib.Omega.{arith}
use borrow.Author.Tests.{lt-ltb, le-ltb}
use lib.Dec.{eqb}
use lib.ListN.{length, take, drop, length-drop}
use lib.Seq.{take_all}
use Rattle.std.proofs.Common.{Option, None, Some, ◌==◌}
use Rattle.std.specs.List.{position, position_or_len}
use Rattle.play_numbers.specs.Fields.{spaced, until, past}
use Rattle.play_numbers.specs.Steps.{number_in, next_field}
use Rattle.play_numbers.proofs.Basics.{by_cases, clash}
use Rattle.play_numbers.proofs.Numerals.{number_not, number_is, number_of}

until_take : (xs : List ℕ) → take (length (until xs)) xs ≡ until xs
until_take [] = refl
until_take (b ∷ bs) = by_cases (eqb b 32) (λ t. rw t) (λ t. rw t (ap (λ l. b ∷ l) (until_take bs)))

past_drop : (xs : List ℕ) → drop (suc (length (until xs))) xs ≡ past xs
past_drop [] = refl
past_drop (b ∷ bs) = by_cases (eqb b 32) (λ t. rw t) (λ t. rw t (past_drop bs))

spaced_until : (xs : List ℕ) → spaced xs ≡ true → length (until xs) < length xs
spaced_until [] e = absurd (false≢true e)
spaced_until (b ∷ bs) e = by_cases (eqb b 32) (λ t. rw t (omega arith)) (λ t. rw t (let h = spaced_until bs (rw t at e) in omega arith))

unspaced_until : (xs : List ℕ) → spaced xs ≡ false → until xs ≡ xs
unspaced_until [] e = refl
unspaced_until (b ∷ bs) e = by_cases (eqb b 32) (λ t. clash true refl (rw t at e)) (λ t. rw t (ap (λ l. b ∷ l) (unspaced_until bs (rw t at e))))

until_place : (xs : List ℕ) → position_or_len (λ b. b == 32) xs ≡ length (until xs)
until_place [] = refl
until_place (b ∷ bs) = by_cases (eqb b 32) (λ t. rw t) (λ t. rw t (let h = until_place bs in omega arith))

space_place : (xs : List ℕ) → position (λ b. b == 32) xs ≡ cond (spaced xs) (Some (length (until xs))) None
space_place xs =
    by_cases (spaced xs)
    (λ t. rw (until_place xs, lt-ltb (length (until xs)) (length xs) (spaced_until xs t), t))
    (λ t. rw (until_place xs, unspaced_until xs t, le-ltb (length xs) (length xs) (omega arith), t))

-- the first space's place is answered
module _ (xs : List ℕ) {r : Option ℕ} (is : r ≡ position (λ b. b == 32) xs) where
  pub next_none : r ≡ None → next_field xs ≡ None
  unfolding next_field
  next_none f =
      by_cases (spaced xs)
      (λ t. absurd (let q : Some (length (until xs)) ≡ None = sym (is ∙ space_place xs ∙ rw t) ∙ f in cc))
      (λ t. rw t)

  module _ {e : ℕ} (at : r ≡ Some e) where
    stands : spaced xs ≡ true
    stands = by_cases (spaced xs) (λ t. t) (λ t. absurd (let q : Some e ≡ None = sym at ∙ is ∙ space_place xs ∙ rw t in cc))

    place : e ≡ length (until xs)
    place = let t = stands in let q : Some e ≡ Some (length (until xs)) = sym at ∙ is ∙ space_place xs ∙ rw t in cc

    part : take e xs ≡ until xs
    part = rw place (until_take xs)

    rest : take (length xs - (e + 1)) (drop (e + 1) xs) ≡ past xs
    rest =
        let all : length (drop (e + 1) xs) ≤ length xs - (e + 1) = rw (length-drop (e + 1) xs) (omega arith) in
        rw (take_all (length xs - (e + 1)) (drop (e + 1) xs) all, place, add-one) (past_drop xs)

    module _ {n : Option ℕ} (read : n ≡ number_in (take e xs)) where
      read_until : n ≡ number_in (until xs)
      read_until = read ∙ ap number_in part

      pub next_wrong : n ≡ None → next_field xs ≡ None
      unfolding next_field
      next_wrong f = rw (stands, number_not (until xs) (sym f ∙ read_until))

      pub next_right : {v : ℕ} → n ≡ Some v → next_field xs ≡ Some (v, take (length xs - (e + 1)) (drop (e + 1) xs))
      unfolding next_field
      next_right {v} f =
          let p : Some v ≡ number_in (until xs) = sym f ∙ read_until in
          rw (stands, number_is (until xs) p, rest, ← number_of (until xs) p)
