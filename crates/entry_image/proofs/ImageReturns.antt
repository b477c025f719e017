-- The ways out of image and load_from.
use mathlib.Core.Path.{◌≡◌, refl, sym, ap, ap₂, ◌∙◌}
use mathlib.Core.Bool.{Bool, true, false, ◌&&◌, not}
use mathlib.Core.List.{List, [], ◌++◌, append-nil}
use Prim.Native.Nat.{ℕ, zero, suc, ◌+◌, ◌*◌, ◌-◌, ◌≤◌}
use native.Mathlib.Omega.{arith}
use borrow.Author.Rules.{rules}
use borrow.Author.Tests.{eq-eqb, ne_eqb, not-true, not-false}
use borrow.Rule.Slice.PartMut.{put_mid}
use lib.Dec.{eqb}
use lib.ListN.{length, take, drop, length-drop, drop_of_length-le}
use lib.Seq.{take_at}
use Rattle.tables.specs.Sound.{sound}
use Rattle.tables.proofs.Cases.{by_cases, clash}
use Rattle.tables.proofs.Conditions.{words_sized}
use Rattle.rules.specs.Calls.{accepted, refused, unless}
use Rattle.rules.specs.Entries.{Lent, lent, Outcome, outcome}
use Rattle.rules.specs.Images.{image_bytes, image_refusal, image_into, image_entry, image_size, image_words, image_slots, image_sound, load_refusal, load_into, load_entry}
use Rattle.std.proofs.Common.{Option, Some, None, Result, Ok, Err, ok_or}
use Rattle.std.specs.Result.{result_eq}
use Rattle.std.specs.contracts.prelude.UnitPartialEq.TheImpl.{eq-value as unit_same}
use Rattle.answers.specs.contracts.RefusalPartialEq.TheImpl.{eq-value as refusal_same}
use Rattle.answers.specs.declared.Refusal.{Refusal}
use Rattle.answers.specs.declared.Refusal.TheVariants.{Unsound, Lengths}
use Rattle.answers.specs.Refusals.{refused_number}
use Rattle.answers.specs.Answers.{done}
use Rattle.table_bytes.specs.Bytes.{encoded}
use Rattle.table_bytes.proofs.Loops.{length_encoded}
use Rattle.entry_image.specs.Promises.{imaged, Measured, Decoded, SoundWords}
use Rattle.entry_image.proofs.ImageMeasure.{not_sound, sound_inside, rest_slots, words_there}

-- image
module _ (ws ss area : List ℕ) (x : Bool) (ex : x ≡ sound ws ss) where
  pub image_unsound : not x ≡ true → imaged (refused 1) area ≡ image_entry ws ss area
  unfolding image_entry image_refusal unless image_into
  image_unsound h = let s : sound ws ss ≡ false = sym ex ∙ not-true x h in rw s

  module _ (right : not x ≡ false) where
    is_sound : sound ws ss ≡ true
    is_sound = sym ex ∙ not-false x right

    pub image_misfit : (length area ≡ 4 * length ws + length ss → ⊥) → imaged (refused 14) area ≡ image_entry ws ss area
    unfolding image_entry image_refusal unless image_into
    image_misfit n = rw (is_sound, ne_eqb (length area) (4 * length ws + length ss) n)

    module _ (long : length area ≡ 4 * length ws + length ss) where
      image_done : imaged (accepted 0 0) (image_bytes ws ss) ≡ image_entry ws ss area
      unfolding image_entry image_refusal unless image_into
      image_done = rw (is_sound, eq-eqb (length area) (4 * length ws + length ss) long)

      pub image_made : (zs ys : List ℕ) → zs ≡ encoded ws → ys ≡ ss
          → imaged (accepted 0 0) (put_mid (4 * length ws) (length (zs ++ drop (4 * length ws) area) - 4 * length ws) (zs ++ drop (4 * length ws) area) ys) ≡ image_entry ws ss area
      unfolding image_bytes encoded
      image_made zs ys ez ey = ap (imaged (accepted 0 0)) (whole (zs ++ drop (4 * length ws) area) refl) ∙ image_done
        where
          zs_long : length zs ≡ 4 * length ws
          zs_long = ap length ez ∙ length_encoded ws

          whole : (all : List ℕ) → zs ++ drop (4 * length ws) area ≡ all → put_mid (4 * length ws) (length all - 4 * length ws) all ys ≡ image_bytes ws ss
          whole all e =
              let front : take (4 * length ws) all ≡ encoded ws = ap (take (4 * length ws)) (sym e) ∙ take_at zs (drop (4 * length ws) area) (4 * length ws) zs_long ∙ ez in
              let short : length (drop (4 * length ws) all) ≤ length all - 4 * length ws = rw (length-drop (4 * length ws) all) (omega arith) in
              ap₂ (λ (us vs : List ℕ). us ++ (ys ++ vs)) front (drop_of_length-le (drop (4 * length ws) all) short) ∙ ap (λ (vs : List ℕ). encoded ws ++ vs) (append-nil ys ∙ ey)

pub ruleset imaging = (rules, image_unsound, image_misfit, image_made)

-- load_from
module _ (bs ws ss : List ℕ) (x : Bool) (ex : x ≡ image_sound bs) where
  pub load_unsound : not x ≡ true → outcome (refused 1) (lent ws ss) ≡ load_entry bs (lent ws ss)
  unfolding load_entry load_refusal unless load_into
  load_unsound h = let s : image_sound bs ≡ false = sym ex ∙ not-true x h in rw s

  module _ (right : not x ≡ false) (zs : List ℕ) (d : Decoded bs zs) where
    sound_here : image_sound bs ≡ true
    sound_here = sym ex ∙ not-false x right

    words_long : length (image_words bs) ≡ length zs
    words_long = sym (ap length (words_there bs zs d))

    slots_long : length (image_slots bs) ≡ length bs - 4 * length zs
    unfolding image_slots
    slots_long = length-drop (4 * image_size bs) bs ∙ ap (λ (k : ℕ). length bs - 4 * k) (sym (d.counted.many))

    pub load_misfit : not (eqb (length ws) (length zs) && eqb (length ss) (length bs - 4 * length zs)) ≡ true → outcome (refused 14) (lent ws ss) ≡ load_entry bs (lent ws ss)
    unfolding load_entry load_refusal unless load_into
    load_misfit h = rw (sound_here, words_long, slots_long, not-true (eqb (length ws) (length zs) && eqb (length ss) (length bs - 4 * length zs)) h)

    module _ (fit : not (eqb (length ws) (length zs) && eqb (length ss) (length bs - 4 * length zs)) ≡ false) where
      both : (eqb (length ws) (length zs) && eqb (length ss) (length bs - 4 * length zs)) ≡ true
      both = not-false (eqb (length ws) (length zs) && eqb (length ss) (length bs - 4 * length zs)) fit

      part_is : take (length bs - 4 * length zs) (drop (4 * length zs) bs) ≡ image_slots bs
      part_is = rest_slots bs (length zs) (d.counted.many)

      pub load_done : (vs ts : List ℕ) → vs ≡ zs → ts ≡ take (length bs - 4 * length zs) (drop (4 * length zs) bs)
          → outcome (accepted 0 0) (lent vs ts) ≡ load_entry bs (lent ws ss)
      unfolding load_entry load_refusal unless load_into
      load_done vs ts ev et =
          rw (sound_here, words_long, slots_long, both)
          (ap₂ (λ (v z : List ℕ). outcome (accepted 0 0) (lent v z)) (ev ∙ words_there bs zs d) (et ∙ part_is))

-- load: what has no words is none of sound tables
pub load_unmeasured : (bs ws ss : List ℕ) (x : Option ℕ) (e : Refusal) → Measured bs x → ok_or x Unsound ≡ Err e → outcome (done (Err e)) (lent ws ss) ≡ load_entry bs (lent ws ss)
unfolding load_entry load_refusal unless load_into
load_unmeasured bs ws ss None e m is = let s : image_sound bs ≡ false = not_sound bs (sym m.right) in rw s (ap (λ (r : Result ℕ Refusal). outcome (refused (refused_number r)) (lent ws ss)) (sym is))
load_unmeasured bs ws ss (Some n) e m is = absurd (cc)

pub ruleset loading = (rules, load_unsound, load_misfit, load_done, load_unmeasured)

-- sound_words: what is loaded into nothing is refused for the lengths where it is sound
refusal_kept : (bs : List ℕ) (t : Lent) (n : ℕ) → (load_into n bs t).said.refusal ≡ n
unfolding load_into
refusal_kept bs t zero = refl
refusal_kept bs t (suc n) = refl

-- whether it is refused so, by the number
lengths_number : (d : Result Unit Refusal) → result_eq unit_same.it refusal_same.it d (Err Lengths) ≡ eqb (done d).refusal 14
lengths_number (Ok x) = refl
lengths_number (Err e) = grind arith

module _ (bs ws ss : List ℕ) (d : Result Unit Refusal) (told : outcome (done d) (lent ws ss) ≡ load_entry bs (lent [] [])) where
  refusal_told : (done d).refusal ≡ load_refusal bs [] []
  unfolding load_entry
  refusal_told = ap (λ (o : Outcome). o.said.refusal) told ∙ refusal_kept bs (lent [] []) (load_refusal bs [] [])

  nothing_fits : image_sound bs ≡ true → load_refusal bs [] [] ≡ 14
  unfolding load_refusal unless
  nothing_fits s =
      let long : length (image_words bs) ≡ 0 → ⊥ = λ e. omega (arith, words_sized (image_words bs) (image_slots bs) (sound_inside bs s)) in
      rw (s, ne_eqb 0 (length (image_words bs)) (λ e. long (sym e)))

  nothing_sound : image_sound bs ≡ false → load_refusal bs [] [] ≡ 1
  unfolding load_refusal unless
  nothing_sound s = rw s

  same_sound : result_eq unit_same.it refusal_same.it d (Err Lengths) ≡ image_sound bs
  same_sound = lengths_number d ∙ by_cases (image_sound bs) (λ s. rw (refusal_told, nothing_fits s) (sym s)) (λ s. rw (refusal_told, nothing_sound s) (sym s))

  pub nothing_loaded : true ≡ not (result_eq unit_same.it refusal_same.it d (Err Lengths)) → SoundWords bs None
  nothing_loaded h = record { sound = sym (not-true (image_sound bs) (rw same_sound at (sym h))); many = tt }

  pub nothing_refused : (x : Option ℕ) → false ≡ not (result_eq unit_same.it refusal_same.it d (Err Lengths)) → Measured bs x → SoundWords bs x
  nothing_refused None h m = clash (image_sound bs) (not-false (image_sound bs) (rw same_sound at (sym h))) (not_sound bs (sym m.right))
  nothing_refused (Some n) h m = record { sound = sym (not-false (image_sound bs) (rw same_sound at (sym h))); many = m.counted.many }

pub ruleset nothing = (rules, nothing_loaded, nothing_refused)
