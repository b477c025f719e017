-- Laws of the two loops: the words so far are bytes, the bytes so far are words, and the others are as they were.
use mathlib.Core.Path.{◌≡◌, refl, sym, ap, ap₂, ◌∙◌}
use mathlib.Core.List.{List, [], ◌∷◌, ◌++◌, map, append_assoc}
use Prim.Native.Nat.{ℕ, zero, suc, ◌+◌, ◌*◌, ◌-◌, ◌<◌}
use native.Mathlib.Omega.{arith}
use native.Mathlib.Numerals.{add-one}
use native.Mathlib.Nat.{add-zero, zero-add}
use borrow.Author.Rules.{rules}
use borrow.Rule.Slice.PartMut.{put_mid, Post-is}
use Rattle.std.specs.Int.{w32, to_le_bytes}
use lib.ListN.{length, get_or, set, take, drop, length-append}
use lib.Seq.{drop-cons, drop-drop, set_at, take-suc, take_at, drop-append-add, length-take-le}
use Rattle.tables.specs.Lists.{from}
use Rattle.tables.proofs.Blocks.{length_map_from, get_or_map_from}
use Rattle.rules.specs.Images.{word_bytes, word_from}
use Rattle.table_bytes.specs.Bytes.{encoded, decoded, with_word}

-- put_word
pub word_put : (a : List ℕ) (i x : ℕ) {zs : List ℕ} → zs ≡ to_le_bytes w32 x → put_mid i (i + 4 - i) a zs ≡ with_word i x a
unfolding with_word
word_put a i x e = ap₂ (λ (bs cs : List ℕ). take i a ++ (bs ++ cs)) e (Post-is i (i + 4) a (omega arith))

pub ruleset put_laws = (rules, word_put)

-- encode
pub length_encoded : (ws : List ℕ) → length (encoded ws) ≡ 4 * length ws
unfolding encoded
length_encoded [] = refl
length_encoded (w ∷ ws) = let e = length_encoded ws in rw length-append (omega arith)

pub encoded_append : (vs ws : List ℕ) → encoded (vs ++ ws) ≡ encoded vs ++ encoded ws
unfolding encoded
encoded_append [] ws = refl
encoded_append (v ∷ vs) ws = ap (λ (bs : List ℕ). word_bytes v ++ bs) (encoded_append vs ws) ∙ sym (append_assoc (word_bytes v) (encoded vs) (encoded ws))

-- a word more, after the bytes p of those before it
word_after : (p d : List ℕ) (i w : ℕ) → length p ≡ i → with_word i w (p ++ drop i d) ≡ (p ++ word_bytes w) ++ drop (i + 4) d
unfolding with_word
word_after p d i w e =
    let m : i + 4 ≡ length p + 4 = omega arith in
    ap₂ (λ (xs ys : List ℕ). xs ++ (word_bytes w ++ ys)) (take_at p (drop i d) i e) (ap (λ (n : ℕ). drop n (p ++ drop i d)) m ∙ drop-append-add p (drop i d) 4 ∙ drop-drop 4 i d)
    ∙ sym (append_assoc p (word_bytes w) (drop (i + 4) d))

module _ (ws a d : List ℕ) {i : ℕ} (long : length d ≡ 4 * length ws) (left : a ≡ encoded (take i ws) ++ drop (4 * i) d) where
  pub encode_next : (b : List ℕ) → i < length ws → b ≡ with_word (4 * i) (get_or ws i 0) a → b ≡ encoded (take (i + 1) ws) ++ drop (4 * (i + 1)) d
  encode_next b h e =
      let n : length (take i ws) ≡ i = length-take-le i ws (omega arith) in
      let l : length (encoded (take i ws)) ≡ 4 * i = length_encoded (take i ws) ∙ ap (λ (k : ℕ). 4 * k) n in
      let m : 4 * (i + 1) ≡ 4 * i + 4 = omega arith in
      let w : encoded (get_or ws i 0 ∷ []) ≡ word_bytes (get_or ws i 0) = unfold encoded in refl in
      e ∙ rw (left, m, add-one i, take-suc ws i 0 h, encoded_append (take i ws) (get_or ws i 0 ∷ []), w) (word_after (encoded (take i ws)) d (4 * i) (get_or ws i 0) l)

pub encode_none : (ws d : List ℕ) → d ≡ encoded (take 0 ws) ++ drop (4 * 0) d
unfolding encoded
encode_none ws d = refl

pub ruleset encode_loop = (rules, encode_none, encode_next)

-- decode
from_last : (f : ℕ → ℕ) (a n : ℕ) → map f (from a (suc n)) ≡ map f (from a n) ++ f (a + n) ∷ []
from_last f a zero = rw add-zero
from_last f a (suc n) = ap (λ (xs : List ℕ). f a ∷ xs) (from_last f (suc a) n ∙ ap (λ (k : ℕ). map f (from (suc a) n) ++ f k ∷ []) (omega arith))

pub length_decoded : (bs : List ℕ) (n : ℕ) → length (decoded bs n) ≡ n
unfolding decoded
length_decoded bs n = length_map_from (λ i. word_from bs (4 * i)) 0 n

-- a word, where it stands
pub decoded_at : (bs : List ℕ) (n i : ℕ) → i < n → get_or (decoded bs n) i 0 ≡ word_from bs (4 * i)
unfolding decoded
decoded_at bs n i h = get_or_map_from (λ j. word_from bs (4 * j)) 0 0 n i h ∙ ap (λ (j : ℕ). word_from bs (4 * j)) (zero-add i)

decoded_more : (bs : List ℕ) (n : ℕ) → decoded bs (n + 1) ≡ decoded bs n ++ word_from bs (4 * n) ∷ []
unfolding decoded
decoded_more bs n = rw (add-one n) (from_last (λ i. word_from bs (4 * i)) 0 n ∙ ap (λ (k : ℕ). map (λ i. word_from bs (4 * i)) (from 0 n) ++ word_from bs (4 * k) ∷ []) (zero-add n))

pub decode_none : (bs d : List ℕ) → d ≡ decoded bs 0 ++ drop 0 d
unfolding decoded
decode_none bs d = refl

module _ (bs a d : List ℕ) {i : ℕ} (long : length a ≡ length d) (left : a ≡ decoded bs i ++ drop i d) where
  pub decode_next : (x : ℕ) → i < length a → x ≡ word_from bs (4 * i) → set a i x ≡ decoded bs (i + 1) ++ drop (i + 1) d
  decode_next x h e =
      let k : i < length d = omega arith in
      rw (left, drop-cons d i 0 k, decoded_more bs i, ← e, add-one i)
      (set_at (decoded bs i) (get_or d i 0) (drop (suc i) d) x i (length_decoded bs i) ∙ sym (append_assoc (decoded bs i) (x ∷ []) (drop (suc i) d)))

pub ruleset decode_loop = (rules, decode_none, decode_next)
