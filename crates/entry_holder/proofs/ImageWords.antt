-- The words of an image, read where they stand in its bytes.
use mathlib.Core.Path.{◌≡◌, sym, ap, ◌∙◌}
use mathlib.Core.List.{List}
use Prim.Native.Nat.{ℕ, ◌+◌, ◌*◌, ◌-◌, ◌<◌, ◌≤◌}
use native.Mathlib.Omega.{arith}
use borrow.Author.Rules.{rules}
use lib.ListN.{get_or}
use Rattle.tables.specs.Layout.{size, header_width, resource_width, lock_width, of_lock, resources_in, locks_in, word_in}
use Rattle.tables.proofs.Blocks.{length_map_from}
use Rattle.rules.specs.Images.{word_from, image_size, image_words}
use Rattle.entry_image.proofs.ImageMeasure.{image_word}
use Rattle.entry_holder.specs.Promises.{HasAllWords}

module _ (bs : List ℕ) (w : HasAllWords bs) where
  pub word_there : (i x : ℕ) → i < image_size bs → x ≡ word_from bs (4 * i) → x ≡ get_or (image_words bs) i 0
  word_there i x h e = e ∙ sym (image_word bs i h)

  size_is : image_size bs ≡ size (resources_in (image_words bs)) (locks_in (image_words bs))
  unfolding image_words
  size_is = sym (length_map_from (λ i. word_from bs (4 * i)) 0 (image_size bs)) ∙ w.sized.long

  pub resource_place : (r f : ℕ) → 1 ≤ r → r ≤ resources_in (image_words bs) → f < resource_width → header_width + resource_width * (r - 1) + f < image_size bs
  resource_place r f low high field = omega (arith, size_is)

  module _ (k f n z : ℕ) (read : z ≡ resources_in (image_words bs)) (widened : n ≡ z) (low : 1 ≤ k) (high : k ≤ locks_in (image_words bs)) (field : f < lock_width) where
    pub lock_place : header_width + resource_width * n + lock_width * (k - 1) + f < image_size bs
    lock_place = omega (arith, size_is)

    pub lock_there : (x : ℕ) → x ≡ get_or (image_words bs) (header_width + resource_width * n + lock_width * (k - 1) + f) 0 → x ≡ word_in (image_words bs) (of_lock k f)
    lock_there x e = e ∙ ap (λ (m : ℕ). get_or (image_words bs) (header_width + resource_width * m + lock_width * (k - 1) + f) 0) (widened ∙ read)

pub ruleset places = (rules, resource_place, lock_place)
