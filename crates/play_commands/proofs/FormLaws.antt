-- Laws of the forms: each number read from the left, and the field where a line stops being of its form.
use Prim.Native.Nat.{ℕ, zero, suc, ◌+◌, ◌≤◌}
use mathlib.Core.Bool.{true, false, ◌&&◌}
use mathlib.Core.Path.{◌≡◌, refl, sym, ap, ◌∙◌}
use mathlib.Core.List.{List, [], ◌∷◌}
use native.Mathlib.Omega.{arith}
use borrow.Author.Tests.{ne_eqb, leb-true}
use lib.Dec.{eqb, leb, eqb-suc-zero}
use lib.ListN.{length}
use Rattle.std.proofs.Common.{Option, None, Some}
use Rattle.play_numbers.specs.Numbers.{is_number, number, is_digit, all_digits}
use Rattle.play_numbers.specs.Fields.{spaced, until, past, parted}
use Rattle.play_commands.specs.Forms.{numbers_then}
use Rattle.play_numbers.specs.Steps.{number_in, next_field}
use Rattle.play_numbers.proofs.Basics.{by_cases, and_no, and_left, and_right}
use Rattle.play_numbers.proofs.Numerals.{number_not, number_is, number_of}

-- digits have no space among them
digit_no_space : (b : ℕ) → is_digit b ≡ true → eqb b 32 ≡ false
digit_no_space b e = let h : 48 ≤ b = leb-true 48 b (and_left (leb 48 b) (leb b 57) e) in ne_eqb b 32 (λ q. omega arith)

digits_unspaced : (xs : List ℕ) → all_digits xs ≡ true → spaced xs ≡ false
digits_unspaced [] e = refl
digits_unspaced (b ∷ bs) e = rw (digit_no_space b (and_left (is_digit b) (all_digits bs) e)) (digits_unspaced bs (and_right (is_digit b) (all_digits bs) e))

number_unspaced : (xs : List ℕ) → is_number xs ≡ true → spaced xs ≡ false
unfolding is_number
number_unspaced xs e = digits_unspaced xs (and_right (leb (length xs) 9) (all_digits xs) (and_right (leb 1 (length xs)) (leb (length xs) 9 && all_digits xs) e))

-- the fields where there is a space, and where there is none
parted_more : (n : ℕ) (xs : List ℕ) → spaced xs ≡ true → parted (suc n) xs ≡ until xs ∷ parted n (past xs)
unfolding parted
parted_more n xs e = rw e

parted_one : (n : ℕ) (xs : List ℕ) → spaced xs ≡ false → parted n xs ≡ xs ∷ []
unfolding parted
parted_one zero xs e = refl
parted_one (suc n) xs e = rw e

pub parted_some : (n : ℕ) (xs : List ℕ) → eqb (length (parted n xs)) 0 ≡ false
unfolding parted
parted_some zero xs = refl
parted_some (suc n) xs = by_cases (spaced xs) (λ t. rw t (eqb-suc-zero (length (parted n (past xs))))) (λ t. rw t)

-- a number with a space after it was read: v of xs, and ys is left
pub record Took (xs : List ℕ) (v : ℕ) (ys : List ℕ) : Type 0 where
  pub field : List ℕ
  pub is : is_number field ≡ true
  pub of : v ≡ number field
  pub fields : (n : ℕ) → parted (suc n) xs ≡ field ∷ parted n ys

none_left : (k more : ℕ) → 1 ≤ k + more → numbers_then k more [] ≡ false
unfolding numbers_then
none_left zero more h = ne_eqb 0 more (λ q. omega arith)
none_left (suc k) more h = refl

-- one number less to read
pub less : (xs : List ℕ) (v : ℕ) (ys : List ℕ) → Took xs v ys → (k more n : ℕ) → numbers_then (suc k) more (parted (suc n) xs) ≡ numbers_then k more (parted n ys)
unfolding numbers_then
less xs v ys t k more n = rw (t.fields n, t.is)

module _ (xs : List ℕ) where
  pub took : {v : ℕ} {ys : List ℕ} → next_field xs ≡ Some (v, ys) → Took xs v ys
  unfolding next_field
  took {v} {ys} f =
      by_cases (spaced xs)
      (λ s. by_cases (is_number (until xs))
      (λ t.
      let q : Some (number (until xs), past xs) ≡ Some (v, ys) = rw (s, t) at f in
      let w : ◌≡◌ {A = ℕ × List ℕ} (number (until xs), past xs) (v, ys) = cc in
      let p : past xs ≡ ys = ap (λ (u : ℕ × List ℕ). u.1) w in
      record { field = until xs; is = t; of = sym (ap (λ (u : ℕ × List ℕ). u.0) w); fields = λ n. rw (← p) (parted_more n xs s) })
      (λ t. absurd (let q : None ≡ Some (v, ys) = rw (s, t) at f in cc)))
      (λ s. absurd (let q : None ≡ Some (v, ys) = rw s at f in cc))

  -- no number with a space after it stands there, where more is to come
  pub missed : next_field xs ≡ None → (k more n : ℕ) → 1 ≤ k + more → numbers_then (suc k) more (parted (suc n) xs) ≡ false
  unfolding next_field numbers_then
  missed f k more n h =
      by_cases (spaced xs)
      (λ s. by_cases (is_number (until xs))
      (λ t. absurd (let q : Some (number (until xs), past xs) ≡ None = rw (s, t) at f in cc))
      (λ t. rw (parted_more n xs s, t)))
      (λ s. rw (parted_one (suc n) xs s, none_left k more h, and_no (is_number xs)))

-- the rest of the line is a number, or is none
module _ (xs : List ℕ) {r : Option ℕ} (e : r ≡ number_in xs) where
  pub last_is : {v : ℕ} → r ≡ Some v → is_number xs ≡ true
  last_is f = number_is xs (sym f ∙ e)

  pub last_of : {v : ℕ} → r ≡ Some v → v ≡ number xs
  last_of f = number_of xs (sym f ∙ e)

  pub last_fields : {v : ℕ} → r ≡ Some v → (n : ℕ) → parted n xs ≡ xs ∷ []
  last_fields f n = parted_one n xs (number_unspaced xs (last_is f))

  pub last_missed : r ≡ None → (n : ℕ) → numbers_then 1 0 (parted n xs) ≡ false
  unfolding numbers_then parted
  last_missed f zero = rw (number_not xs (sym f ∙ e))
  last_missed f (suc n) =
      by_cases (spaced xs)
      (λ s. rw (s, parted_some n (past xs), and_no (is_number (until xs))))
      (λ s. rw (s, number_not xs (sym f ∙ e)))
