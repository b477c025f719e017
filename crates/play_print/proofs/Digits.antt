-- Laws of a number's digits.
use Prim.Native.Nat.{ℕ, zero, suc, ◌+◌, ◌-◌, ◌*◌, ◌/◌, ◌%◌, ◌^◌, ◌≤◌, ◌<◌}
use mathlib.Core.Path.{◌≡◌, refl, ap, ◌∙◌}
use mathlib.Core.List.{List, [], ◌∷◌, ◌++◌}
use native.Mathlib.Nat.{pow-suc}
use native.Mathlib.Omega.{arith}
use borrow.Author.Tests.{lt-ltb, le-ltb, ltb-true, ltb-false}
use lib.Dec.{ltb}
use lib.ListN.{length, length-append}
use Rattle.play_print.specs.Decimal.{digits, decimal}
use Rattle.play_numbers.specs.Numbers.{value_of_digits}
use Rattle.play_numbers.proofs.Basics.{by_cases}
use Rattle.play_print.specs.PrintedLines.{number_width}

-- any bound that is large enough gives the same digits
digits_enough : (j k n : ℕ) → n < j → n < k → digits j n ≡ digits k n
unfolding digits
digits_enough zero k n h g = absurd (omega arith)
digits_enough (suc j) zero n h g = absurd (omega arith)
digits_enough (suc j) (suc k) n h g =
    by_cases (ltb n 10)
    (λ t. rw t)
    (λ t.
    let m : 10 ≤ n = ltb-false n 10 t in
    let p : n / 10 < j = omega arith in
    let q : n / 10 < k = omega arith in
    rw t (ap (λ l. l ++ ((48 + n % 10) ∷ [])) (digits_enough j k (n / 10) p q)))

pub decimal_one : (n : ℕ) → n < 10 → decimal n ≡ (48 + n) ∷ []
unfolding decimal digits
decimal_one n h = rw (lt-ltb n 10 h)

pub decimal_more : (n : ℕ) → 10 ≤ n → decimal n ≡ decimal (n / 10) ++ ((48 + n % 10) ∷ [])
unfolding decimal digits
decimal_more n h =
    let p : n / 10 < n = omega arith in
    let q : n / 10 < suc (n / 10) = omega arith in
    rw (le-ltb n 10 h) (ap (λ l. l ++ ((48 + n % 10) ∷ [])) (digits_enough n (suc (n / 10)) (n / 10) p q))

-- one digit more than the tenth part
pub decimal_longer : (n : ℕ) → 10 ≤ n → length (decimal n) ≡ length (decimal (n / 10)) + 1
decimal_longer n h = ap length (decimal_more n h) ∙ length-append (decimal (n / 10)) ((48 + n % 10) ∷ [])

pub decimal_short : (n : ℕ) → n < 10 → length (decimal n) ≡ 1
decimal_short n h = ap length (decimal_one n h)

decimal_power : (k n : ℕ) → n < 10 ^ suc k → length (decimal n) ≤ suc k
decimal_power zero n h = let e = decimal_short n (let q : n < 10 = h in q) in omega arith
decimal_power (suc k) n h =
    by_cases (ltb n 10)
    (λ t. let e = decimal_short n (ltb-true n 10 t) in omega arith)
    (λ t.
    let e = decimal_longer n (ltb-false n 10 t) in
    let w : 10 ^ suc (suc k) ≡ 10 ^ suc k * 10 = pow-suc 10 (suc k) in
    let p : n / 10 < 10 ^ suc k = omega arith in
    let i = decimal_power k (n / 10) p in
    omega arith)

-- a number of 32 bits has at most ten digits
pub decimal_ten : (n : ℕ) → n < 4294967296 → length (decimal n) ≤ number_width
decimal_ten n h = decimal_power 9 n (let q : n < 10000000000 = omega arith in q)

pub decimal_some : (n : ℕ) → 1 ≤ length (decimal n)
decimal_some n =
    by_cases (ltb n 10)
    (λ t. let e = decimal_short n (ltb-true n 10 t) in omega arith)
    (λ t. let e = decimal_longer n (ltb-false n 10 t) in omega arith)

-- read back, the digits give the number
value_more : (v : ℕ) (xs : List ℕ) (d : ℕ) → value_of_digits v (xs ++ (d ∷ [])) ≡ 10 * value_of_digits v xs + (d - 48)
value_more v [] d = refl
value_more v (x ∷ xs) d = value_more (10 * v + (x - 48)) xs d

digits_value : (k n : ℕ) → n < k → value_of_digits 0 (digits k n) ≡ n
unfolding digits
digits_value zero n h = absurd (omega arith)
digits_value (suc k) n h =
    by_cases (ltb n 10)
    (λ t. rw t (omega arith))
    (λ t.
    let m : 10 ≤ n = ltb-false n 10 t in
    let p : n / 10 < k = omega arith in
    let i = digits_value k (n / 10) p in
    rw (t, value_more 0 (digits k (n / 10)) (48 + n % 10), i) (omega arith))

pub decimal_value : (n : ℕ) → value_of_digits 0 (decimal n) ≡ n
unfolding decimal
decimal_value n = digits_value (suc n) n (omega arith)
