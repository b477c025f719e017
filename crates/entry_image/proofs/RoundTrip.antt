-- For the reader: tables that are imaged are loaded back, and an image that is loaded is imaged back.
use mathlib.Core.Path.{◌≡◌, refl, sym, ap, ap₂, ◌∙◌}
use mathlib.Core.Bool.{true}
use mathlib.Core.List.{List, ◌++◌}
use Prim.Native.Nat.{ℕ, ◌+◌, ◌*◌, ◌<◌, ◌≤◌, ◌^◌}
use native.Mathlib.Omega.{arith}
use borrow.Author.Tests.{eq-eqb}
use lib.ListN.{length, get_or, drop, length-append, take-append-drop}
use lib.Seq.{drop_at}
use Rattle.tables.specs.Layout.{size, slot_width, resources_in, locks_in}
use Rattle.tables.specs.Sound.{sound}
use Rattle.tables.specs.Threads.{Each}
use Rattle.tables.proofs.Conditions.{words_sized, slots_sized}
use Rattle.rules.specs.Calls.{accepted, unless}
use Rattle.rules.specs.Entries.{lent, outcome}
use Rattle.rules.specs.Images.{image_bytes, word_from, image_size, image_words, image_slots, image_sound, load_refusal, load_into, load_entry}
use Rattle.table_bytes.specs.Bytes.{encoded, decoded}
use Rattle.table_bytes.proofs.Loops.{length_encoded, decoded_at}
use Rattle.table_bytes.proofs.Inverse.{decoded_encoded, encoded_decoded}
use Rattle.entry_image.proofs.ImageMeasure.{words_decoded, sound_measure}

-- an image's first two words, its words and its slots. Words lent as `&[u32]` are below 2 ^ 32.
module _ (ws ss : List ℕ) (h : sound ws ss ≡ true) (small : Each (λ w. w < 2 ^ 32) ws) where
  bytes_are : image_bytes ws ss ≡ encoded ws ++ ss
  unfolding image_bytes encoded
  bytes_are = refl

  all_words : decoded (image_bytes ws ss) (length ws) ≡ ws
  all_words = ap (λ (bs : List ℕ). decoded bs (length ws)) bytes_are ∙ decoded_encoded ws ss small

  long : 8 ≤ length ws
  long = omega (arith, words_sized ws ss h)

  first_is : word_from (image_bytes ws ss) 0 ≡ resources_in ws
  first_is = sym (decoded_at (image_bytes ws ss) (length ws) 0 (omega (arith, long))) ∙ ap (λ (l : List ℕ). get_or l 0 0) all_words

  second_is : word_from (image_bytes ws ss) 4 ≡ locks_in ws
  second_is = sym (decoded_at (image_bytes ws ss) (length ws) 1 (omega (arith, long))) ∙ ap (λ (l : List ℕ). get_or l 1 0) all_words

  size_is : image_size (image_bytes ws ss) ≡ length ws
  size_is = ap₂ size first_is second_is ∙ sym (words_sized ws ss h)

  words_are : image_words (image_bytes ws ss) ≡ ws
  words_are = words_decoded (image_bytes ws ss) ∙ ap (decoded (image_bytes ws ss)) size_is ∙ all_words

  slots_are : image_slots (image_bytes ws ss) ≡ ss
  unfolding image_slots
  slots_are = ap₂ (λ (n : ℕ) (bs : List ℕ). drop (4 * n) bs) size_is bytes_are ∙ drop_at (encoded ws) ss (4 * length ws) (length_encoded ws)

  length_is : length (image_bytes ws ss) ≡ 4 * image_size (image_bytes ws ss) + slot_width * word_from (image_bytes ws ss) 0
  length_is =
      ap length bytes_are ∙ length-append (encoded ws) ss ∙ ap₂ ◌+◌ (length_encoded ws ∙ ap (λ (n : ℕ). 4 * n) (sym size_is)) (slots_sized ws ss h ∙ ap (λ (n : ℕ). slot_width * n) (sym first_is))

  image_is_sound : image_sound (image_bytes ws ss) ≡ true
  unfolding image_sound
  image_is_sound = rw (eq-eqb _ _ length_is, words_are, slots_are) h

  -- LOAD OF IMAGE: into tables of these lengths the image of sound tables is loaded as it was
  pub load_of_image : (vs ts : List ℕ) → length vs ≡ length ws → length ts ≡ length ss → load_entry (image_bytes ws ss) (lent vs ts) ≡ outcome (accepted 0 0) (lent ws ss)
  unfolding load_entry load_refusal unless load_into
  load_of_image vs ts p q =
      rw (image_is_sound, words_are, slots_are, eq-eqb (length vs) (length ws) p, eq-eqb (length ts) (length ss) q)
      (ap₂ (λ (v z : List ℕ). outcome (accepted 0 0) (lent v z)) words_are slots_are)

-- IMAGE OF LOAD: what is loaded from an image has that image. Bytes are below 256.
pub image_of_load : (bs : List ℕ) → image_sound bs ≡ true → Each (λ b. b < 256) bs → image_bytes (image_words bs) (image_slots bs) ≡ bs
unfolding image_bytes encoded image_slots
image_of_load bs h small =
    let inside : 4 * image_size bs ≤ length bs = omega (arith, (sound_measure bs h).long) in
    ap (λ (xs : List ℕ). xs ++ drop (4 * image_size bs) bs) (ap encoded (words_decoded bs) ∙ encoded_decoded (image_size bs) bs inside small)
    ∙ take-append-drop (4 * image_size bs) bs
