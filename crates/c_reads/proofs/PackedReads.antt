-- What read and list say of their answer, they say of the one that C gets.
use mathlib.Core.Path.{◌≡◌, refl, sym, ap, ap₂, subst, ◌∙◌}
use mathlib.Core.List.{List}
use Prim.Native.Nat.{ℕ}
use Rattle.std.specs.Prelude.{Result, Ok, Err}
use Rattle.tables.specs.declared.LockEntry.{LockEntry}
use Rattle.rules.specs.declared.Said.{Said}
use Rattle.rules.specs.Entries.{Reading, read_entry, list_entry}
use Rattle.rules.specs.Numbers.{Small, reading_said, listing_said}
use Rattle.rules.proofs.SmallNumbers.{numbers_small}
use Rattle.answers.specs.declared.Refusal.{Refusal}
use Rattle.answers.specs.Answers.{answered, list_said}
use Rattle.answers.specs.Promises.{Says}
use Rattle.entry_read.specs.declared.ValueRead.{ValueRead}
use Rattle.entry_read.specs.Reads.{reading, read_answer}
use Rattle.entry_list.specs.Listings.{listing}
use Rattle.call_refusals.proofs.PassedUp.{above_zero}
use Rattle.c_answers.specs.Areas.{filled, in_front, value_in, value_filled}
use Rattle.c_answers.specs.PackedAnswers.{unpacked}
use Rattle.c_answers.proofs.PackedContracts.{said_small, said_packed}
use Rattle.c_answers.proofs.LentAreas.{value_stays}

-- what a read says beside the value block
read_said : (x : Result ValueRead Refusal) → reading_said (reading x) ≡ answered read_answer x
read_said (Ok v) = refl
read_said (Err e) = refl

has_refusal : (x : Result ValueRead Refusal) → ((v : ValueRead) → x ≡ Ok v → ⊥) → (reading x).refusal ≡ 0 → ⊥
has_refusal (Ok v) n z = n v refl
has_refusal (Err e) n z = above_zero e z

-- a read, refused and accepted
module _ (ws ss : List ℕ) (c k : ℕ) (x : Result ValueRead Refusal) (is : reading x ≡ read_entry ws ss c k) where
  answer_small : Small (answered read_answer x)
  answer_small = subst Small (sym (sym (read_said x) ∙ ap reading_said is)) (numbers_small.of_read ws ss c k)

  module _ (y : Said) (says : Says (answered read_answer x) y) where
    pub read_small : Small y
    read_small = said_small (answered read_answer x) y answer_small says

    module _ (r : ℕ) (packs : unpacked r ≡ y) where
      packed : unpacked r ≡ reading_said (reading x)
      packed = said_packed (answered read_answer x) y answer_small says r packs ∙ sym (read_said x)

      pub read_refused : (a : List ℕ) → ((v : ValueRead) → x ≡ Ok v → ⊥) → filled (unpacked r) a ≡ value_filled (read_entry ws ss c k) a
      unfolding value_filled
      read_refused a bad = ap₂ filled packed (value_stays (reading x).refusal (reading x).value a (has_refusal x bad)) ∙ ap (λ (z : Reading). value_filled z a) is

      pub read_carried : (v : ValueRead) (a b : List ℕ) → x ≡ Ok v → b ≡ in_front v.value a → filled (unpacked r) b ≡ value_filled (read_entry ws ss c k) a
      unfolding value_filled value_in
      read_carried v a b good front =
          ap₂ filled packed (front ∙ ap (λ (s : Result ValueRead Refusal). value_in (reading s).refusal (reading s).value a) (sym good))
          ∙ ap (λ (z : Reading). value_filled z a) is

-- a listing answers the true count
list_is : (y : Result ℕ Refusal) (es : List LockEntry) → listing_said (listing (list_said y) es) ≡ list_said y
list_is (Ok n) es = refl
list_is (Err e) es = refl

module _ (ws ss : List ℕ) (c k : ℕ) (es zs : List LockEntry) (y : Result ℕ Refusal) (is : listing (list_said y) zs ≡ list_entry ws ss c k es) where
  count_small : Small (list_said y)
  count_small = subst Small (sym (ap listing_said is) ∙ list_is y zs) (numbers_small.of_list ws ss c k es)

  module _ (x : Said) (says : Says (list_said y) x) where
    pub list_small : Small x
    list_small = said_small (list_said y) x count_small says

    pub list_packed : (r : ℕ) → unpacked r ≡ x → listing (unpacked r) zs ≡ list_entry ws ss c k es
    list_packed r packs = ap (λ (s : Said). listing s zs) (said_packed (list_said y) x count_small says r packs) ∙ is
