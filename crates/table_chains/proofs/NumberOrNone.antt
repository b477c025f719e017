-- A word of the tables as the number of a record, or none.
use Rattle.std.proofs.Common.{◌≡◌, not, ℕ, zero, suc, ◌≤◌, Some, None, refl, arith}
use Rattle.std.specs.Bool.{then_some}
use borrow.Author.Tests.{ne_eqb}
use lib.Dec.{eqb}
use Rattle.tables.specs.Numbered.{numbered}

module _ (k : ℕ) where
  pub some_number : (k ≡ 0 → ⊥) → Some k ≡ numbered k
  some_number n = cases k n
    where
      cases : (k : ℕ) → (k ≡ 0 → ⊥) → Some k ≡ numbered k
      cases zero n = absurd (n refl)
      cases (suc k) n = refl

  pub no_number : k ≡ 0 → None ≡ numbered k
  no_number e = rw e

-- as code makes it of a word
pub then_number : (k : ℕ) → then_some (not (eqb k 0)) k ≡ numbered k
then_number zero = refl
then_number (suc k) = rw (ne_eqb (suc k) 0 (omega arith))

-- what a number, or none, says of the word
pub is_number : (k n : ℕ) → Some k ≡ numbered n → k ≡ n
is_number k zero e = absurd (cc)
is_number k (suc n) e = cc

pub none_is : (n : ℕ) → None ≡ numbered n → n ≡ 0
none_is zero e = refl
none_is (suc n) e = absurd (cc)

pub above_none : (k n : ℕ) → Some k ≡ numbered n → 1 ≤ k
above_none k zero e = absurd (cc)
above_none k (suc n) e = let h : k ≡ suc n = cc in omega arith
