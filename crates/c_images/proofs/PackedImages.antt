-- What image says of its answer, it says of the packed one.
use mathlib.Core.Path.{◌≡◌, refl, sym, ap, subst, ◌∙◌}
use mathlib.Core.List.{List}
use Prim.Native.Nat.{ℕ}
use borrow.Author.Rules.{rules}
use Rattle.rules.specs.declared.Said.{Said}
use Rattle.rules.specs.Images.{image_entry}
use Rattle.rules.specs.Numbers.{Small, imaged_said}
use Rattle.rules.proofs.SmallNumbers.{numbers_small}
use Rattle.std.specs.Prelude.{Result, Ok, Err}
use Rattle.answers.specs.declared.Refusal.{Refusal}
use Rattle.answers.specs.Answers.{done}
use Rattle.answers.specs.Promises.{Says}
use Rattle.entry_image.specs.Promises.{imaged}
use Rattle.c_answers.specs.Areas.{filled, image_filled}
use Rattle.c_answers.specs.PackedAnswers.{unpacked}
use Rattle.c_answers.proofs.PackedContracts.{said_small, said_packed}

-- an image answers 0
done_is : (d : Result Unit Refusal) (a : List ℕ) → imaged_said (imaged (done d) a) ≡ done d
done_is (Ok x) a = refl
done_is (Err e) a = refl

module _ (ws ss area a : List ℕ) (d : Result Unit Refusal) (is : imaged (done d) a ≡ image_entry ws ss area) where
  done_small : Small (done d)
  done_small = subst Small (sym (ap imaged_said is) ∙ done_is d a) (numbers_small.of_image ws ss area)

  module _ (x : Said) (says : Says (done d) x) where
    pub image_small : Small x
    image_small = said_small (done d) x done_small says

    pub image_packed : (r : ℕ) → unpacked r ≡ x → filled (unpacked r) a ≡ image_filled (image_entry ws ss area)
    unfolding image_filled
    image_packed r packs =
        ap (λ (s : Said). filled s a) (said_packed (done d) x done_small says r packs ∙ sym (done_is d a)) ∙ ap image_filled is

pub ruleset image_laws = (rules, image_small, image_packed)
