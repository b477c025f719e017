-- Laws of loops over a list's elements.
use mathlib.Core.Path.{◌≡◌, refl, sym, ap, ◌∙◌}
use mathlib.Core.Bool.{Bool, true, false, ◌&&◌, and_comm, and_assoc}
use mathlib.Core.List.{List, [], ◌∷◌, ◌++◌, append_assoc, append-nil}
use Prim.Native.Nat.{ℕ, suc, ◌+◌, ◌≤◌, ◌<◌}
use native.Mathlib.Omega.{arith}
use native.Mathlib.Numerals.{add-one}
use borrow.Author.Tests.{eq-eqb, ne_eqb}
use borrow.Author.Rules.{rules}
use lib.Dec.{eqb}
use lib.ListN.{length, get_or, set, take, drop, drop_of_length-le}
use lib.Seq.{drop-cons, take-suc, take_all, set_at, length-take-le}
use Rattle.tables.specs.Lists.{all, same}
use Rattle.tables.specs.Sound.{all_zero}
use Rattle.tables.proofs.Cases.{by_equal}
use Rattle.std.proofs.Common.{Option, Some, None, Bor, nat_eq, fold}

pub drop_more : (l : List ℕ) {i : ℕ} → i < length l → drop i l ≡ get_or l i 0 ∷ drop (i + 1) l
drop_more l {i} h = rw (add-one, drop-cons l i 0 h)

-- `l.iter().fold(true, |zeros, x| zeros & (*x == 0))`
pub eqb_sym : (x y : ℕ) → eqb x y ≡ eqb y x
eqb_sym x y = by_equal x y (λ e. rw e) (λ n. rw (ne_eqb x y n, ne_eqb y x (λ e. n (sym e))))

zeros_from : (z : Bool) (l : List ℕ) → fold (λ (b : Bool) (x : ℕ). b && eqb x 0) z l ≡ (z && all_zero l)
unfolding all_zero all
zeros_from z [] = and_comm true z
zeros_from z (x ∷ l) = zeros_from (z && eqb x 0) l ∙ and_assoc z (eqb x 0) (all_zero l) ∙ ap (λ (b : Bool). z && (b && all_zero l)) (eqb_sym x 0)

pub zeros_folded : (l : List ℕ) → fold (λ (b : Bool) (x : ℕ). b && eqb x 0) true l ≡ all_zero l
zeros_folded l = zeros_from true l

-- `for i in 0..a.len() { if a[i] != b[i] { return false; } } true`
module _ (a b : List ℕ) {i : ℕ} {whole : Bool} (left : whole ≡ same (drop i a) (drop i b)) (long : length a ≡ length b) where
  pub same_next : i < length a → get_or a i 0 ≡ get_or b i 0 → whole ≡ same (drop (i + 1) a) (drop (i + 1) b)
  unfolding same
  same_next h e = let k : i < length b = omega arith in left ∙ rw (drop_more a h, drop_more b k, eq-eqb _ _ e)

  pub same_stop : i < length a → (get_or a i 0 ≡ get_or b i 0 → ⊥) → false ≡ whole
  unfolding same
  same_stop h e = let k : i < length b = omega arith in sym (left ∙ rw (drop_more a h, drop_more b k, ne_eqb _ _ e))

  pub same_end : length a ≤ i → true ≡ whole
  unfolding same
  same_end h = let k : length b ≤ i = omega arith in sym (left ∙ rw (drop_of_length-le a h, drop_of_length-le b k))

and_no : (t : Bool) → false ≡ (t && false)
and_no true = refl
and_no false = refl

pub same_short : (a b : List ℕ) → (length a ≡ length b → ⊥) → false ≡ same a b
unfolding same
same_short [] [] e = absurd (e refl)
same_short [] (y ∷ b) e = refl
same_short (x ∷ a) [] e = refl
same_short (x ∷ a) (y ∷ b) e = and_no (eqb x y) ∙ ap (λ z. eqb x y && z) (same_short a b (λ q. e (ap suc q)))

pub ruleset same_loop = (rules, same_next, same_stop, same_end)

-- `for i in 0..l.len() { if l[i] != 0 { return false; } } true`
module _ (l : List ℕ) {i : ℕ} {whole : Bool} (left : whole ≡ all_zero (drop i l)) where
  pub zero_bytes_next : i < length l → get_or l i 0 ≡ 0 → whole ≡ all_zero (drop (i + 1) l)
  unfolding all_zero all
  zero_bytes_next h e = left ∙ rw (drop_more l h, e)

  pub zero_bytes_stop : i < length l → (get_or l i 0 ≡ 0 → ⊥) → false ≡ whole
  unfolding all_zero all
  zero_bytes_stop h e = sym (left ∙ rw (drop_more l h, ne_eqb 0 (get_or l i 0) (λ z. e (sym z))))

  pub zero_bytes_end : length l ≤ i → true ≡ whole
  unfolding all_zero all
  zero_bytes_end h = sym (left ∙ rw (drop_of_length-le l h))

pub ruleset zero_bytes_loop = (rules, zero_bytes_next, zero_bytes_stop, zero_bytes_end)

-- a store at i, where the first i elements are p and the others are still d's
set_next : (p d : List ℕ) (i v : ℕ) → length p ≡ i → i < length d → set (p ++ drop i d) i v ≡ (p ++ v ∷ []) ++ drop (i + 1) d
set_next p d i v e h = rw (drop_more d h) (set_at p (get_or d i 0) (drop (i + 1) d) v i e ∙ sym (append_assoc p (v ∷ []) (drop (i + 1) d)))

-- `for i in 0..s.len() { d[i] = s[i]; }`
module _ (s a d : List ℕ) {i : ℕ} (long : length d ≡ length s) (left : a ≡ take i s ++ drop i d) where
  pub copy_next : i < length s → set a i (get_or s i 0) ≡ take (i + 1) s ++ drop (i + 1) d
  copy_next h = rw (left, add-one, take-suc s i 0 h, ← add-one i) (set_next (take i s) d i (get_or s i 0) (length-take-le i s (omega arith)) (omega arith))

  pub copy_end : i ≤ length s → length s ≤ i → a ≡ s
  copy_end h k = let q : take i s ≡ s = take_all i s k in let l : length d ≤ i = omega arith in let w : drop i d ≡ [] = drop_of_length-le d l in left ∙ rw (q, w, append-nil)

pub ruleset copy_loop = (rules, copy_next, copy_end)
