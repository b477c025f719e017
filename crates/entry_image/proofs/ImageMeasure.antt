-- What the bytes of an image say: how many words it has, which they are, and whether they are those of sound tables.
use mathlib.Core.Path.{◌≡◌, refl, sym, ap, ap₂, ◌∙◌}
use mathlib.Core.Bool.{Bool, true, false, ◌&&◌, not}
use mathlib.Core.List.{List}
use Rattle.std.proofs.Common.{Some, None}
use Prim.Native.Nat.{ℕ, ◌+◌, ◌*◌, ◌-◌, ◌<◌, ◌≤◌}
use native.Mathlib.Omega.{arith}
use borrow.Author.Rules.{rules}
use borrow.Author.Tests.{leb-true, le-leb, eqb-true, eq-eqb, not-false}
use lib.Dec.{leb}
use lib.ListN.{length, take, drop, length-drop, get_or}
use lib.Seq.{take_all}
use Rattle.tables.specs.State.{most_resources, most_locks}
use Rattle.tables.specs.Layout.{slot_width, resources_in, locks_in, header_width, resource_width, lock_width}
use Rattle.tables.specs.Sound.{sound}
use Rattle.tables.proofs.Cases.{by_cases, clash, parts}
use Rattle.tables.proofs.Conditions.{resources_low, resources_high, locks_low, locks_high}
use Rattle.rules.specs.Images.{word_from, image_size, image_words, image_slots, image_sound}
use Rattle.table_bytes.specs.Bytes.{decoded}
use Rattle.table_bytes.proofs.Loops.{decoded_at}
use Rattle.entry_image.specs.Promises.{measures, Measured, Decoded}

module _ (bs : List ℕ) where
  pub words_decoded : image_words bs ≡ decoded bs (image_size bs)
  unfolding image_words decoded
  words_decoded = refl

  -- a word, where it stands in the bytes; the first two
  pub image_word : (i : ℕ) → i < image_size bs → get_or (image_words bs) i 0 ≡ word_from bs (4 * i)
  image_word i h = ap (λ (ws : List ℕ). get_or ws i 0) words_decoded ∙ decoded_at bs (image_size bs) i h

  pub first_word : resources_in (image_words bs) ≡ word_from bs 0
  first_word = image_word 0 (omega arith)

  pub second_word : locks_in (image_words bs) ≡ word_from bs 4
  second_word = image_word 1 (omega arith)

  -- R and L are in range, and the length is right
  pub record Measure : Type 0 where
    pub resources_low : 1 ≤ word_from bs 0
    pub resources_high : word_from bs 0 ≤ most_resources
    pub locks_low : 1 ≤ word_from bs 4
    pub locks_high : word_from bs 4 ≤ most_locks
    pub long : length bs ≡ 4 * image_size bs + slot_width * word_from bs 0

  pub measure : measures bs ≡ true → Measure
  unfolding measures
  measure h =
      record {
        resources_low = leb-true _ _ (search parts depth 20);
        resources_high = leb-true _ _ (search parts depth 20);
        locks_low = leb-true _ _ (search parts depth 20);
        locks_high = leb-true _ _ (search parts depth 20);
        long = eqb-true _ _ (search parts depth 20);
      }

  pub measured : Measure → measures bs ≡ true
  unfolding measures
  measured m = rw (le-leb _ _ m.resources_low, le-leb _ _ m.resources_high, le-leb _ _ m.locks_low, le-leb _ _ m.locks_high, eq-eqb _ _ m.long)

  -- an image of sound tables has them so
  pub sound_inside : image_sound bs ≡ true → sound (image_words bs) (image_slots bs) ≡ true
  unfolding image_sound
  sound_inside h = search parts depth 20

  pub sound_measure : image_sound bs ≡ true → Measure
  unfolding image_sound
  sound_measure h =
      let s = sound_inside h in
      record {
        resources_low = rw first_word at (resources_low (image_words bs) (image_slots bs) s);
        resources_high = rw first_word at (resources_high (image_words bs) (image_slots bs) s);
        locks_low = rw second_word at (locks_low (image_words bs) (image_slots bs) s);
        locks_high = rw second_word at (locks_high (image_words bs) (image_slots bs) s);
        long = eqb-true _ _ (search parts depth 20);
      }

  pub not_sound : measures bs ≡ false → image_sound bs ≡ false
  not_sound h = by_cases (image_sound bs) (λ s. clash (measures bs) (measured (sound_measure s)) h) (λ s. s)

  sound_is : measures bs ≡ true → image_sound bs ≡ sound (image_words bs) (image_slots bs)
  unfolding image_sound
  sound_is h = rw (eq-eqb _ _ (measure h).long)

  -- what stands after n words is the slots, if n is their number
  pub rest_slots : (n : ℕ) → n ≡ image_size bs → take (length bs - 4 * n) (drop (4 * n) bs) ≡ image_slots bs
  unfolding image_slots
  rest_slots n e =
      let l : length (drop (4 * n) bs) ≤ length bs - 4 * n = rw (length-drop (4 * n) bs) (omega arith) in
      take_all (length bs - 4 * n) (drop (4 * n) bs) l ∙ ap (λ (k : ℕ). drop (4 * k) bs) e

  -- words_in
  no_words : measures bs ≡ false → Measured bs None
  no_words h = record { right = sym h; counted = tt }

  unless_measure : (Measure → ⊥) → Measured bs None
  unless_measure n = no_words (by_cases (measures bs) (λ h. absurd (n (measure h))) (λ h. h))

  pub words_short : length bs < 8 → Measured bs None
  words_short h = unless_measure (λ m. omega (arith, m.long))

  module _ (r l : ℕ) (er : r ≡ word_from bs 0) (el : l ≡ word_from bs 4) where
    pub words_beyond : not (leb 1 r && leb r most_resources && leb 1 l && leb l most_locks) ≡ true → Measured bs None
    words_beyond h =
        unless_measure (λ m.
        let a : 1 ≤ r = rw er m.resources_low in
        let b : r ≤ most_resources = rw er m.resources_high in
        let c : 1 ≤ l = rw el m.locks_low in
        let d : l ≤ most_locks = rw el m.locks_high in
        clash false (rw (le-leb 1 r a, le-leb r most_resources b, le-leb 1 l c, le-leb l most_locks d) at h) refl)

    size_is : header_width + resource_width * r + lock_width * l ≡ image_size bs
    size_is = rw (er, el) (omega arith)

    pub words_misfit : not (leb 1 r && leb r most_resources && leb 1 l && leb l most_locks) ≡ false → (length bs ≡ 4 * (header_width + resource_width * r + lock_width * l) + slot_width * r → ⊥) → Measured bs None
    words_misfit h n = unless_measure (λ m. n (rw (size_is, er) m.long))

    pub words_fit : not (leb 1 r && leb r most_resources && leb 1 l && leb l most_locks) ≡ false → length bs ≡ 4 * (header_width + resource_width * r + lock_width * l) + slot_width * r → Measured bs (Some (header_width + resource_width * r + lock_width * l))
    words_fit h long =
        let t = not-false (leb 1 r && leb r most_resources && leb 1 l && leb l most_locks) h in
        let a : 1 ≤ r = leb-true 1 r (search parts depth 20) in
        let b : r ≤ most_resources = leb-true r most_resources (search parts depth 20) in
        let c : 1 ≤ l = leb-true 1 l (search parts depth 20) in
        let d : l ≤ most_locks = leb-true l most_locks (search parts depth 20) in
        let m : Measure = record {
          resources_low = rw (← er) a;
          resources_high = rw (← er) b;
          locks_low = rw (← el) c;
          locks_high = rw (← el) d;
          long = rw (size_is, er) at long;
        } in
        record { right = sym (measured m); counted = record { measures = measured m; many = size_is; inside = omega arith; few = omega arith } }

pub ruleset measuring = (rules, words_short, words_beyond, words_misfit, words_fit)

-- is_sound
module _ (bs zs : List ℕ) (d : Decoded bs zs) where
  pub words_there : zs ≡ image_words bs
  words_there = d.read ∙ ap (decoded bs) d.counted.many ∙ sym (words_decoded bs)

  pub sound_told : (x : Bool) → x ≡ sound zs (take (length bs - 4 * length zs) (drop (4 * length zs) bs)) → x ≡ image_sound bs
  sound_told x ex = ex ∙ ap₂ sound words_there (rest_slots bs (length zs) d.counted.many) ∙ sym (sound_is bs d.counted.measures)

pub ruleset judging = (rules, sound_told)
