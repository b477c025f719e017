-- Words that are written as bytes are read back, and bytes that are read as words are written back.
use mathlib.Core.Path.{◌≡◌, refl, ap, ap₂, ◌∙◌}
use mathlib.Core.List.{List, [], ◌∷◌, ◌++◌, map}
use Prim.Native.Nat.{ℕ, zero, suc, ◌+◌, ◌*◌, ◌/◌, ◌%◌, ◌<◌, ◌≤◌, ◌^◌}
use native.Mathlib.Omega.{arith}
use lib.ListN.{length, get_or, take}
use Rattle.std.proofs.lemmas.Nat.{le_bytes_4, from_le_bytes-to_le_bytes_4}
use Rattle.tables.specs.Lists.{from}
use Rattle.tables.specs.Threads.{Each}
use Rattle.rules.specs.Images.{word_bytes, word_from}
use Rattle.table_bytes.specs.Bytes.{encoded, decoded}

-- one word
pub word_back : (w : ℕ) (bs : List ℕ) → w < 2 ^ 32 → word_from (word_bytes w ++ bs) 0 ≡ w
word_back w bs h = omega (arith, from_le_bytes-to_le_bytes_4 w h)

-- four bytes
module _ (b c d e : ℕ) (p : b < 256) (q : c < 256) (r : d < 256) (s : e < 256) where
  four_small : (i : ℕ) → get_or (b ∷ c ∷ d ∷ e ∷ []) i 0 < 256
  four_small zero = p
  four_small (suc zero) = q
  four_small (suc (suc zero)) = r
  four_small (suc (suc (suc zero))) = s
  four_small (suc (suc (suc (suc i)))) = omega arith

  pub bytes_back : word_bytes (b + 256 * c + 65536 * d + 16777216 * e) ≡ b ∷ c ∷ d ∷ e ∷ []
  bytes_back = le_bytes_4 (b ∷ c ∷ d ∷ e ∷ []) (b + 256 * c + 65536 * d + 16777216 * e) refl four_small (omega arith)

-- what stands four places further on
module _ (b c d e : ℕ) (bs : List ℕ) where
  four_on : (j k : ℕ) → j ≡ suc (suc (suc (suc k))) → get_or (b ∷ c ∷ d ∷ e ∷ bs) j 0 ≡ get_or bs k 0
  four_on j k h = rw h

  word_on : (i : ℕ) → word_from (b ∷ c ∷ d ∷ e ∷ bs) (4 * suc i) ≡ word_from bs (4 * i)
  word_on i =
      rw (four_on (4 * suc i) (4 * i) (omega arith), four_on (4 * suc i + 1) (4 * i + 1) (omega arith), four_on (4 * suc i + 2) (4 * i + 2) (omega arith), four_on (4 * suc i + 3) (4 * i + 3) (omega arith))

from_on : (f g : ℕ → ℕ) → ((i : ℕ) → f (suc i) ≡ g i) → (a n : ℕ) → map f (from (suc a) n) ≡ map g (from a n)
from_on f g h a zero = refl
from_on f g h a (suc n) = ap₂ (λ (x : ℕ) (xs : List ℕ). x ∷ xs) (h a) (from_on f g h (suc a) n)

decoded_cons : (b c d e : ℕ) (bs : List ℕ) (n : ℕ) → decoded (b ∷ c ∷ d ∷ e ∷ bs) (suc n) ≡ (b + 256 * c + 65536 * d + 16777216 * e) ∷ decoded bs n
unfolding decoded
decoded_cons b c d e bs n = ap (λ (xs : List ℕ). (b + 256 * c + 65536 * d + 16777216 * e) ∷ xs) (from_on (λ i. word_from (b ∷ c ∷ d ∷ e ∷ bs) (4 * i)) (λ i. word_from bs (4 * i)) (word_on b c d e bs) 0 n)

-- WORDS that are written are read back
pub decoded_encoded : (ws bs : List ℕ) → Each (λ w. w < 2 ^ 32) ws → decoded (encoded ws ++ bs) (length ws) ≡ ws
unfolding encoded
decoded_encoded [] bs h = unfold decoded in refl
decoded_encoded (w ∷ ws) bs h =
    decoded_cons (w % 256) (w / 256 % 256) (w / 65536 % 256) (w / 16777216 % 256) (encoded ws ++ bs) (length ws)
    ∙ ap₂ (λ (x : ℕ) (xs : List ℕ). x ∷ xs) (word_back w [] h.0) (decoded_encoded ws bs h.1)

-- BYTES that are read are written back
pub encoded_decoded : (n : ℕ) (bs : List ℕ) → 4 * n ≤ length bs → Each (λ b. b < 256) bs → encoded (decoded bs n) ≡ take (4 * n) bs
unfolding encoded
encoded_decoded zero bs l h = unfold decoded in refl
encoded_decoded (suc n) [] l h = absurd (omega arith)
encoded_decoded (suc n) (b ∷ []) l h = absurd (omega arith)
encoded_decoded (suc n) (b ∷ c ∷ []) l h = absurd (omega arith)
encoded_decoded (suc n) (b ∷ c ∷ d ∷ []) l h = absurd (omega arith)
encoded_decoded (suc n) (b ∷ c ∷ d ∷ e ∷ bs) l h =
    let m : 4 * suc n ≡ suc (suc (suc (suc (4 * n)))) = omega arith in
    rw (decoded_cons b c d e bs n, m)
    (ap₂ (λ (xs ys : List ℕ). xs ++ ys) (bytes_back b c d e h.0 h.1.0 h.1.1.0 h.1.1.1.0) (encoded_decoded n bs (omega arith) h.1.1.1.1))
