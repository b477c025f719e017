-- Four bytes at once: two words are equal exactly if their bytes are, and a word is zero exactly if its bytes are.
use mathlib.Core.Path.{◌≡◌, refl, sym, ap, subst, ◌∙◌}
use mathlib.Core.Bool.{Bool, true, false, ◌&&◌, not, and_comm, and_assoc}
use mathlib.Core.List.{List, [], ◌∷◌, ◌++◌}
use Prim.Native.Nat.{ℕ, suc, ◌+◌, ◌-◌, ◌*◌, ◌≤◌}
use native.Mathlib.Omega.{arith}
use native.Mathlib.Numerals.{add-one, add-two, add-three}
use borrow.Author.Tests.{eq-eqb, ne_eqb, not-true, not-false}
use borrow.Author.Rules.{rules}
use mir.Syntax.{w8}
use mir.Val.{Fits}
use lib.Dec.{eqb}
use lib.ListN.{length, get_or, take, replicate, get_or-replicate}
use lib.Seq.{take-add, take-length, length-take-le, get_or-take, drop-cons}
use Rattle.tables.specs.Lists.{all, same}
use Rattle.tables.specs.Sound.{all_zero}
use Rattle.tables.proofs.Cases.{by_cases, by_equal}
use Rattle.tables.proofs.Counts.{same_eq, same_refl}
use Rattle.tables.proofs.ReadState.{zeros_are}
use Rattle.rules.specs.Images.{word_bytes, word_from}
use Rattle.table_bytes.proofs.Inverse.{bytes_back}
use Rattle.table_names.proofs.Spans.{same_short}

-- the bytes of the word at i
abbrev bytes_at : List ℕ → ℕ → List ℕ
bytes_at a i = get_or a i 0 ∷ get_or a (i + 1) 0 ∷ get_or a (i + 2) 0 ∷ get_or a (i + 3) 0 ∷ []

-- equal words have equal bytes
equal_words : (a b : List ℕ) (i : ℕ) → ((k : ℕ) → Fits w8 (get_or a k 0)) → ((k : ℕ) → Fits w8 (get_or b k 0)) → word_from a i ≡ word_from b i → bytes_at a i ≡ bytes_at b i
equal_words a b i p q e =
    sym (bytes_back (get_or a i 0) (get_or a (i + 1) 0) (get_or a (i + 2) 0) (get_or a (i + 3) 0) (p i).fits (p (i + 1)).fits (p (i + 2)).fits (p (i + 3)).fits)
    ∙ ap word_bytes e
    ∙ bytes_back (get_or b i 0) (get_or b (i + 1) 0) (get_or b (i + 2) 0) (get_or b (i + 3) 0) (q i).fits (q (i + 1)).fits (q (i + 2)).fits (q (i + 3)).fits

-- a word that is zero has zeros
zero_word : (a : List ℕ) (i : ℕ) → word_from a i ≡ 0 → bytes_at a i ≡ 0 ∷ 0 ∷ 0 ∷ 0 ∷ []
zero_word a i e =
    let p : get_or a i 0 ≡ 0 = omega arith in
    let q : get_or a (i + 1) 0 ≡ 0 = omega arith in
    let r : get_or a (i + 2) 0 ≡ 0 = omega arith in
    let s : get_or a (i + 3) 0 ≡ 0 = omega arith in
    rw (p, q, r, s)

-- the last word of the first n bytes
module _ (a : List ℕ) (n : ℕ) (more : 4 ≤ n) where
  last_bytes : n ≤ length a → take n a ≡ take (n - 4) a ++ bytes_at a (n - 4)
  last_bytes h =
      let i : ℕ = n - 4 in
      let e : n ≡ i + 4 = omega arith in
      ap (λ (m : ℕ). take m a) e ∙ take-add i 4 a
      ∙ rw (drop-cons a i 0 (omega arith), drop-cons a (suc i) 0 (omega arith), drop-cons a (suc (suc i)) 0 (omega arith), drop-cons a (suc (suc (suc i))) 0 (omega arith), add-one i, add-two i, add-three i)

  last_word : word_from (take n a) (n - 4) ≡ word_from a (n - 4)
  last_word =
      let i : ℕ = n - 4 in
      rw (get_or-take n a i 0 (omega arith), get_or-take n a (i + 1) 0 (omega arith), get_or-take n a (i + 2) 0 (omega arith), get_or-take n a (i + 3) 0 (omega arith))

pub front_long : (n : ℕ) (a : List ℕ) → n ≤ length a → n ≡ length (take n a)
front_long n a h = sym (length-take-le n a h)

pub fronts_long : (n : ℕ) (a b : List ℕ) → n ≤ length a → n ≤ length b → length (take n a) ≡ length (take n b)
fronts_long n a b h k = length-take-le n a h ∙ front_long n b k

-- what both end with decides nothing
same_front : (p q u : List ℕ) → length p ≡ length q → same (p ++ u) (q ++ u) ≡ same p q
unfolding same
same_front [] [] u h = same_refl u
same_front [] (y ∷ q) u h = absurd (omega arith)
same_front (x ∷ p) [] u h = absurd (omega arith)
same_front (x ∷ p) (y ∷ q) u h = ap (λ (z : Bool). eqb x y && z) (same_front p q u (omega arith))

-- the words from the end, and what is left in front of w of them
pub words_first : (a b : List ℕ) → length a ≡ length b → same a b ≡ same (take (length a) a) (take (length a) b)
words_first a b e = rw (take-length a, e, take-length b)

module _ (a b : List ℕ) (n : ℕ) (left : same a b ≡ same (take n a) (take n b)) where
  module _ {x y : ℕ} (more : 4 ≤ n) (read_a : x ≡ word_from a (n - 4)) (read_b : y ≡ word_from b (n - 4)) where
    pub words_next : n ≤ length a → n ≤ length b → ((k : ℕ) → Fits w8 (get_or a k 0)) → ((k : ℕ) → Fits w8 (get_or b k 0)) → x ≡ y → same a b ≡ same (take (n - 4) a) (take (n - 4) b)
    words_next h k p q e =
        let w : bytes_at a (n - 4) ≡ bytes_at b (n - 4) = equal_words a b (n - 4) p q (sym read_a ∙ e ∙ read_b) in
        left ∙ rw (last_bytes a n more h, last_bytes b n more k, w)
        (same_front (take (n - 4) a) (take (n - 4) b) (bytes_at b (n - 4)) (fronts_long (n - 4) a b (omega arith) (omega arith)))

    pub words_stop : (x ≡ y → ⊥) → false ≡ same a b
    words_stop f =
        by_cases (same (take n a) (take n b))
        (λ t. absurd (f (read_a ∙ sym (last_word a n more) ∙ ap (λ (l : List ℕ). word_from l (n - 4)) (same_eq (take n a) (take n b) t) ∙ last_word b n more ∙ sym read_b)))
        (λ t. sym (left ∙ t))

  pub words_end : {r : Bool} → r ≡ same (take n a) (take n b) → r ≡ same a b
  words_end e = e ∙ sym left

-- `for w in 0..words { let at = a.len() - 4 * (w + 1); if word_at(a, at) != word_at(b, at) { return false; } }`
module _ (a b : List ℕ) (w : ℕ) (left : same a b ≡ same (take (length a - 4 * w) a) (take (length a - 4 * w) b)) (long : length a ≡ length b) where
  abbrev n : ℕ
  n = length a - 4 * w

  further : n - 4 ≡ length a - 4 * (w + 1)
  further = omega arith

  module _ {x y : ℕ} (more : 4 * (w + 1) ≤ length a) (read_a : x ≡ word_from a (length a - 4 * (w + 1))) (read_b : y ≡ word_from b (length a - 4 * (w + 1))) where
    at_a : x ≡ word_from a (n - 4)
    at_a = read_a ∙ ap (λ (i : ℕ). word_from a i) (sym further)

    at_b : y ≡ word_from b (n - 4)
    at_b = read_b ∙ ap (λ (i : ℕ). word_from b i) (sym further)

    pub turn_next : ((k : ℕ) → Fits w8 (get_or a k 0)) → ((k : ℕ) → Fits w8 (get_or b k 0)) → x ≡ y → same a b ≡ same (take (length a - 4 * (w + 1)) a) (take (length a - 4 * (w + 1)) b)
    turn_next p q e = subst (λ (m : ℕ). same a b ≡ same (take m a) (take m b)) further (words_next a b n left (omega arith) at_a at_b (omega arith) (omega arith) p q e)

    pub turn_stop : (x ≡ y → ⊥) → false ≡ same a b
    turn_stop f = words_stop a b n left (omega arith) at_a at_b f

pub ruleset words_loop = (rules, same_short, front_long, fronts_long, words_first, turn_next, turn_stop, words_end)

-- zeros at the end decide nothing
zero_front : (p u : List ℕ) → all_zero u ≡ true → all_zero (p ++ u) ≡ all_zero p
unfolding all_zero all
zero_front [] u h = h
zero_front (x ∷ p) u h = ap (λ (z : Bool). eqb 0 x && z) (zero_front p u h)

-- the last word of the first n bytes, and the last two
module _ (a : List ℕ) (n : ℕ) (inside : n ≤ length a) where
  last_zero : 4 ≤ n → all_zero (take n a) ≡ (all_zero (take (n - 4) a) && eqb (word_from a (n - 4)) 0)
  unfolding all_zero all
  last_zero more =
      let i : ℕ = n - 4 in
      let z : word_from (replicate n 0) i ≡ 0 =
      rw (get_or-replicate {A = ℕ} n i 0 0 (omega arith), get_or-replicate {A = ℕ} n (i + 1) 0 0 (omega arith), get_or-replicate {A = ℕ} n (i + 2) 0 0 (omega arith), get_or-replicate {A = ℕ} n (i + 3) 0 0 (omega arith)) in
      by_equal (word_from a i) 0
      (λ e.
      rw (last_bytes a n more inside, zero_word a i e) (zero_front (take i a) (0 ∷ 0 ∷ 0 ∷ 0 ∷ []) refl) ∙ sym (ap (λ (b : Bool). all_zero (take i a) && b) (eq-eqb _ _ e) ∙ and_comm (all_zero (take i a)) true))
      (λ f.
      by_cases (all_zero (take n a))
      (λ t. absurd (f (sym (last_word a n more) ∙ ap (λ (l : List ℕ). word_from l i) (zeros_are (take n a) n t (length-take-le n a inside)) ∙ z)))
      (λ t. t ∙ sym (ap (λ (b : Bool). all_zero (take i a) && b) (ne_eqb _ _ f) ∙ and_comm (all_zero (take i a)) false)))

last_zeros : (a : List ℕ) (n : ℕ) → n ≤ length a → 8 ≤ n → all_zero (take n a) ≡ (all_zero (take (n - 8) a) && (eqb (word_from a (n - 8)) 0 && eqb (word_from a (n - 8 + 4)) 0))
last_zeros a n inside more =
    let i : ℕ = n - 8 in
    let p : n - 4 ≡ i + 4 = omega arith in
    let q : i + 4 - 4 ≡ i = omega arith in
    let h : all_zero (take (i + 4) a) ≡ (all_zero (take i a) && eqb (word_from a i) 0) = last_zero a (i + 4) (omega arith) (omega arith) ∙ rw q in
    last_zero a n inside (omega arith) ∙ rw (p, h) (and_assoc (all_zero (take i a)) (eqb (word_from a i) 0) (eqb (word_from a (i + 4)) 0))

pub rest_first : (a : List ℕ) → all_zero a ≡ all_zero (take (length a) a)
rest_first a = rw (take-length a)

module _ (a : List ℕ) (n : ℕ) (left : all_zero a ≡ all_zero (take n a)) where
  module _ {x y : ℕ} (more : 8 ≤ n) (inside : n ≤ length a) (read : x ≡ word_from a (n - 8)) (read' : y ≡ word_from a (n - 8 + 4)) where
    rest_last : all_zero a ≡ (all_zero (take (n - 8) a) && (eqb x 0 && eqb y 0))
    rest_last = left ∙ rw (read, read') (last_zeros a n inside more)

    pub rest_next : not (eqb x 0 && eqb y 0) ≡ false → all_zero a ≡ all_zero (take (n - 8) a)
    rest_next h = rest_last ∙ rw (not-false (eqb x 0 && eqb y 0) h) (and_comm (all_zero (take (n - 8) a)) true)

    pub rest_stop : not (eqb x 0 && eqb y 0) ≡ true → false ≡ all_zero a
    rest_stop h = sym (rest_last ∙ rw (not-true (eqb x 0 && eqb y 0) h) (and_comm (all_zero (take (n - 8) a)) false))

  pub rest_end : {r : Bool} → r ≡ all_zero (take n a) → r ≡ all_zero a
  rest_end e = e ∙ sym left

-- `for p in 0..pairs { let at = a.len() - 8 * (p + 1); if !((word_at(a, at) == 0) & (word_at(a, at + 4) == 0)) { return false; } }`
module _ (a : List ℕ) (w : ℕ) (left : all_zero a ≡ all_zero (take (length a - 8 * w) a)) where
  abbrev rest_n : ℕ
  rest_n = length a - 8 * w

  rest_further : rest_n - 8 ≡ length a - 8 * (w + 1)
  rest_further = omega arith

  module _ {x y : ℕ} (more : 8 * (w + 1) ≤ length a) (read : x ≡ word_from a (length a - 8 * (w + 1))) (read' : y ≡ word_from a (length a - 8 * (w + 1) + 4)) where
    at_first : x ≡ word_from a (rest_n - 8)
    at_first = read ∙ ap (λ (i : ℕ). word_from a i) (sym rest_further)

    at_second : y ≡ word_from a (rest_n - 8 + 4)
    at_second = read' ∙ ap (λ (i : ℕ). word_from a (i + 4)) (sym rest_further)

    pub pair_next : not (eqb x 0 && eqb y 0) ≡ false → all_zero a ≡ all_zero (take (length a - 8 * (w + 1)) a)
    pair_next h = subst (λ (m : ℕ). all_zero a ≡ all_zero (take m a)) rest_further (rest_next a rest_n left (omega arith) (omega arith) at_first at_second h)

    pub pair_stop : not (eqb x 0 && eqb y 0) ≡ true → false ≡ all_zero a
    pair_stop h = rest_stop a rest_n left (omega arith) (omega arith) at_first at_second h

pub ruleset rest_loop = (rules, front_long, rest_first, pair_next, pair_stop, rest_end)
