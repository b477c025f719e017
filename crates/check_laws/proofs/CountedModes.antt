-- How many hold each mode, and their modes added up: the one tells the other.
use mathlib.Core.Path.{◌≡◌}
use mathlib.Core.List.{List, [], ◌∷◌, ◌++◌, map}
use Prim.Native.Nat.{ℕ, zero, suc, ◌+◌, ◌*◌, ◌≤◌, ◌<◌}
use native.Mathlib.Omega.{arith}
use lib.ListN.{length}
use Rattle.tables.specs.Lists.{count}
use Rattle.check_laws.specs.Check.{sum_over, digit, total, digits_in}
use Rattle.check_laws.proofs.HeldModes.{Low}

-- ONE LOCK MORE
module _ (xs : List ℕ) where
  total_more : (h : ℕ) → h ≤ 5 → total (λ m. count m (h ∷ xs)) ≡ suc (total (λ m. count m xs))
  unfolding total count
  total_more zero l = omega arith
  total_more (suc zero) l = omega arith
  total_more (suc (suc zero)) l = omega arith
  total_more (suc (suc (suc zero))) l = omega arith
  total_more (suc (suc (suc (suc zero)))) l = omega arith
  total_more (suc (suc (suc (suc (suc zero))))) l = omega arith
  total_more (suc (suc (suc (suc (suc (suc n)))))) l = absurd (omega arith)

  digits_more : (h : ℕ) → h ≤ 5 → digits_in (λ m. count m (h ∷ xs)) ≡ digit h + digits_in (λ m. count m xs)
  unfolding digits_in digit count
  digits_more zero l = omega arith
  digits_more (suc zero) l = omega arith
  digits_more (suc (suc zero)) l = omega arith
  digits_more (suc (suc (suc zero))) l = omega arith
  digits_more (suc (suc (suc (suc zero)))) l = omega arith
  digits_more (suc (suc (suc (suc (suc zero))))) l = omega arith
  digits_more (suc (suc (suc (suc (suc (suc n)))))) l = absurd (omega arith)

-- LOCKS whose held modes are modes: there are as many as hold one, and their modes added up are those counts as digits
module _ (held : ℕ → ℕ) where
  pub held_total : (ks : List ℕ) → Low held ks → length ks ≡ total (λ m. count m (map held ks))
  unfolding total count
  held_total [] e = omega arith
  held_total (k ∷ ks) e = rw (total_more (map held ks) (held k) e.0) (omega (arith, held_total ks e.1))

  pub held_digits : (ks : List ℕ) → Low held ks → sum_over (λ k. digit (held k)) ks ≡ digits_in (λ m. count m (map held ks))
  unfolding sum_over digits_in count
  held_digits [] e = omega arith
  held_digits (k ∷ ks) e = rw (digits_more (map held ks) (held k) e.0) (omega (arith, held_digits ks e.1))

-- and so of two lists together
pub sum_append : (f : ℕ → ℕ) (xs ys : List ℕ) → sum_over f (xs ++ ys) ≡ sum_over f xs + sum_over f ys
unfolding sum_over
sum_append f [] ys = omega arith
sum_append f (x ∷ xs) ys = omega (arith, sum_append f xs ys)

-- SIX NUMBERS: their sum and their digits
pub same_sums : (c a : ℕ → ℕ) → ((m : ℕ) → m ≤ 5 → c m ≡ a m) → (total c ≡ total a) × (digits_in c ≡ digits_in a)
unfolding total digits_in
same_sums c a h = (
  rw (h 0 (omega arith), h 1 (omega arith), h 2 (omega arith), h 3 (omega arith), h 4 (omega arith), h 5 (omega arith)),
  rw (h 1 (omega arith), h 2 (omega arith), h 3 (omega arith), h 4 (omega arith), h 5 (omega arith)),
)

-- they are known from their sum and their digits, if the sum is less than what a digit can be
low_digit : (x y a b : ℕ) → (x < 4096) × (a < 4096) → x + 4096 * y ≡ a + 4096 * b → (x ≡ a) × (y ≡ b)
low_digit x y a b p e = (omega arith, omega arith)

module _ (c a : ℕ → ℕ) (few : total a < 4096) (sums : total c ≡ total a) where
  small : ((c 1 < 4096) × (a 1 < 4096)) × ((c 2 < 4096) × (a 2 < 4096)) × ((c 3 < 4096) × (a 3 < 4096)) × ((c 4 < 4096) × (a 4 < 4096))
  unfolding total
  small = omega arith

  module _ (digits : digits_in c ≡ digits_in a) where
    from_1 : (c 1 ≡ a 1) × (c 2 + 4096 * (c 3 + 4096 * (c 4 + 4096 * c 5)) ≡ a 2 + 4096 * (a 3 + 4096 * (a 4 + 4096 * a 5)))
    unfolding digits_in digit
    from_1 = low_digit (c 1) _ (a 1) _ small.0 (omega arith)

    from_2 : (c 2 ≡ a 2) × (c 3 + 4096 * (c 4 + 4096 * c 5) ≡ a 3 + 4096 * (a 4 + 4096 * a 5))
    from_2 = low_digit (c 2) _ (a 2) _ small.1 from_1.1

    from_3 : (c 3 ≡ a 3) × (c 4 + 4096 * c 5 ≡ a 4 + 4096 * a 5)
    from_3 = low_digit (c 3) _ (a 3) _ small.2 from_2.1

    from_4 : (c 4 ≡ a 4) × (c 5 ≡ a 5)
    from_4 = low_digit (c 4) _ (a 4) _ small.3 from_3.1

    pub same_counts : (m : ℕ) → m ≤ 5 → c m ≡ a m
    unfolding total
    same_counts zero l = omega (arith, from_1.0, from_2.0, from_3.0, from_4)
    same_counts (suc zero) l = from_1.0
    same_counts (suc (suc zero)) l = from_2.0
    same_counts (suc (suc (suc zero))) l = from_3.0
    same_counts (suc (suc (suc (suc zero)))) l = from_4.0
    same_counts (suc (suc (suc (suc (suc zero))))) l = from_4.1
    same_counts (suc (suc (suc (suc (suc (suc n)))))) l = absurd (omega arith)
