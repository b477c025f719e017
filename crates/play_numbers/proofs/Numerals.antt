-- Laws of reading a number.
use Prim.Native.Nat.{ℕ, ◌^◌, ◌≤◌, ◌<◌}
use mathlib.Core.Bool.{Bool, true, false, cond}
use mathlib.Core.Path.{◌≡◌, ◌∙◌}
use mathlib.Core.List.{List}
use native.Mathlib.Nat.{pow-le-pow_right}
use native.Mathlib.Omega.{arith}
use borrow.Author.Tests.{le-leb, lt-leb}
use borrow.Author.Rules.{rules}
use lib.Dec.{leb}
use lib.ListN.{length}
use Rattle.play_numbers.specs.Numbers.{is_number, number, value_of_digits, all_digits}
use Rattle.play_numbers.specs.Steps.{number_in}
use Rattle.std.proofs.lemmas.Bool.Decides.{nat_tests}
use Rattle.std.proofs.Common.{◌==◌, Option, None, Some, ◌⊎◌, inl, inr}
use Rattle.play_numbers.proofs.Basics.{and_no, by_cases}

-- what is read from here on, after digits of the value v
abbrev pub reads : ℕ → List ℕ → Option ℕ
reads v xs = cond (all_digits xs) (Some (value_of_digits v xs)) None

-- too few or too many bytes; the loop starts
module _ (l : List ℕ) {t : Bool} (is : t ≡ (length l == 0)) where
  pub reads_refused : {m : ℕ} → (t ≡ true) ⊎ (t ≡ false × m < length l) → 9 ≤ m → None ≡ number_in l
  unfolding number_in is_number
  reads_refused (inl e) k = let h : length l < 1 = grind (arith, nat_tests) in rw (lt-leb 1 (length l) h)
  reads_refused (inr e) k = let h : 9 < length l = omega (arith, e.1) in rw (lt-leb (length l) 9 h, and_no (leb 1 (length l)))

  pub reads_start : t ≡ false → length l ≤ 9 → number_in l ≡ reads 0 l
  unfolding number_in is_number number
  reads_start e k = let h : 1 ≤ length l = grind (arith, nat_tests) in rw (le-leb 1 (length l) h, le-leb (length l) 9 k)

-- the value of i digits
pub digits_small : (v i n : ℕ) → v < 10 ^ i → i < n → n ≤ 9 → v < 100000000
digits_small v i n a b k = let p : 10 ^ i ≤ 10 ^ 8 = pow-le-pow_right (search rules) (let q : i ≤ 8 = omega arith in q) in omega arith

-- what an answer tells of the bytes
pub number_not : (xs : List ℕ) → None ≡ number_in xs → is_number xs ≡ false
unfolding number_in
number_not xs e = by_cases (is_number xs) (λ t. absurd (let q : None ≡ Some (number xs) = e ∙ rw t in cc)) (λ t. t)

pub number_is : (xs : List ℕ) {n : ℕ} → Some n ≡ number_in xs → is_number xs ≡ true
unfolding number_in
number_is xs {n} e = by_cases (is_number xs) (λ t. t) (λ t. absurd (let q : Some n ≡ None = e ∙ rw t in cc))

pub number_of : (xs : List ℕ) {n : ℕ} → Some n ≡ number_in xs → n ≡ number xs
unfolding number_in
number_of xs {n} e = let t : is_number xs ≡ true = number_is xs e in let q : Some n ≡ Some (number xs) = e ∙ rw t in cc
