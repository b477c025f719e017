-- The ways out of holder.
use mathlib.Core.Path.{◌≡◌, refl, sym, ap, subst, ◌∙◌}
use mathlib.Core.Bool.{Bool, true, false}
use mathlib.Core.List.{List}
use Prim.Native.Nat.{ℕ, zero, suc, ◌+◌, ◌*◌, ◌-◌, ◌≤◌}
use borrow.Author.Rules.{rules}
use lib.ListN.{length, take, drop}
use Rattle.tables.specs.Layout.{read}
use Rattle.tables.specs.Sound.{sound}
use Rattle.tables.proofs.Conditions.{resources_high, locks_high, words_sized}
use Rattle.rules.specs.Queues.{find}
use Rattle.rules.specs.Calls.{unless, name_right}
use Rattle.rules.specs.Images.{image_size, image_words, image_slots, image_sound, holder_of, holder_refusal, holder_answer, holder_entry}
use Rattle.std.specs.Prelude.{Option, Some, None, Ok, Err, ok_or}
use native.Mathlib.Omega.{arith}
use Rattle.tables.specs.Numbered.{numbered}
use Rattle.answers.specs.declared.Refusal.{Refusal}
use Rattle.answers.specs.declared.Refusal.TheVariants as refusals
use Rattle.answers.specs.Refusals.{refusal_number}
use Rattle.entry_image.specs.Promises.{SoundWords}
use Rattle.entry_image.proofs.ImageMeasure.{sound_measure, sound_inside, rest_slots}
use Rattle.entry_holder.specs.Holders.{holder_number}
use Rattle.entry_holder.specs.Promises.{HasAllWords}

module _ (bs nm : List ℕ) (x : Option ℕ) (m : SoundWords bs x) where
  pub answer_unsound : (e : Refusal) → ok_or x refusals.Unsound ≡ Err e → holder_number (Err e) ≡ holder_entry bs nm
  unfolding holder_entry holder_refusal unless holder_answer
  answer_unsound e h = rw (unsound_is x m e h) (ap (λ (d : Refusal). 256 + refusal_number d) (refusal_is x e h))
    where
      refusal_is : (x : Option ℕ) (e : Refusal) → ok_or x refusals.Unsound ≡ Err e → e ≡ refusals.Unsound
      refusal_is None e h = cc
      refusal_is (Some n) e h = absurd (cc)

      unsound_is : (x : Option ℕ) → SoundWords bs x → (e : Refusal) → ok_or x refusals.Unsound ≡ Err e → image_sound bs ≡ false
      unsound_is None m e h = sym m.sound
      unsound_is (Some n) m e h = absurd (cc)

  module _ (n : ℕ) (is : ok_or x refusals.Unsound ≡ Ok n) where
    some_here : x ≡ Some n
    some_here = go x is
      where
        go : (x : Option ℕ) → ok_or x refusals.Unsound ≡ Ok n → x ≡ Some n
        go None h = absurd (cc)
        go (Some k) h = cc

    here : SoundWords bs (Some n)
    here = subst (SoundWords bs) some_here m

    sound_here : image_sound bs ≡ true
    sound_here = sym here.sound

    size_here : n ≡ image_size bs
    size_here = here.many

    pub answer_unnamed : (y : Bool) → y ≡ name_right nm → y ≡ false → 262 ≡ holder_entry bs nm
    unfolding holder_entry holder_refusal unless holder_answer
    answer_unnamed y ey h = let r : name_right nm ≡ false = sym ey ∙ h in rw (sound_here, r)

    pub answer_inside : 4 * n ≤ length bs
    answer_inside = rw size_here (let m = sound_measure bs sound_here in omega (arith, m.long))

    slots_here : take (length bs - 4 * n) (drop (4 * n) bs) ≡ image_slots bs
    slots_here = rest_slots bs n size_here

    pub answer_whole : HasAllWords bs
    answer_whole =
        let s = sound_inside bs sound_here in
        record {
          sized = record { long = words_sized _ _ s; few_resources = resources_high _ _ s; few_locks = locks_high _ _ s };
          inside = rw size_here at answer_inside;
        }

    pub answer_sound : sound (image_words bs) (take (length bs - 4 * n) (drop (4 * n) bs)) ≡ true
    answer_sound = ap (sound (image_words bs)) slots_here ∙ sound_inside bs sound_here

    pub answer_told : (y : Bool) → y ≡ name_right nm → y ≡ true → (z : Option ℕ)
        → z ≡ numbered (holder_of (find nm (read (image_words bs) (take (length bs - 4 * n) (drop (4 * n) bs)))) (read (image_words bs) (take (length bs - 4 * n) (drop (4 * n) bs))))
        → holder_number (Ok z) ≡ holder_entry bs nm
    unfolding holder_entry holder_refusal unless holder_answer
    answer_told y ey h z e =
        let r : name_right nm ≡ true = sym ey ∙ h in
        ap (λ (o : Option ℕ). holder_number (Ok o)) e ∙ back _
        ∙ ap (λ (ss : List ℕ). holder_of (find nm (read (image_words bs) ss)) (read (image_words bs) ss)) slots_here ∙ rw (sound_here, r)
      where
        back : (k : ℕ) → holder_number (Ok (numbered k)) ≡ k
        back zero = refl
        back (suc k) = refl

pub ruleset answering = (rules, answer_unsound, answer_inside, answer_whole, answer_sound, answer_unnamed, answer_told)
