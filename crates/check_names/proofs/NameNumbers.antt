-- A name's number: the loops that make it and look for it, and that equal names have equal numbers.
use mathlib.Core.Path.{◌≡◌, refl, sym, ap, ap₂, ◌∙◌}
use mathlib.Core.Bool.{Bool, true, false, ◌||◌, or_comm, or_assoc}
use mathlib.Core.List.{List, [], ◌∷◌, ◌++◌}
use Prim.Native.Nat.{ℕ, ◌+◌, ◌-◌, ◌*◌, ◌%◌, ◌<◌, ◌≤◌, ◌^◌}
use native.Mathlib.Nat.{le_trans, mul-le-mul_left, mul-le-mul_right}
use native.Mathlib.Numerals.{add-one}
use native.Mathlib.Omega.{arith}
use borrow.Author.Rules.{rules}
use lib.Dec.{eqb}
use Rattle.std.proofs.Common.{fold}
use lib.ListN.{length, get_or, take, drop, replicate, take-append-drop, length-drop}
use lib.Seq.{take-take, length-take-le}
use Rattle.tables.specs.Lists.{any, same}
use Rattle.tables.specs.State.{name_width}
use Rattle.tables.specs.Layout.{of_resource, slot_width, resources_in, word_in, slot_in}
use Rattle.tables.proofs.Counts.{same_eq}
use Rattle.tables.proofs.ReadState.{zeros_are}
use Rattle.rules.specs.Images.{word_from}
use Rattle.table_names.specs.Names.{named, name_in, slot_fine}
use Rattle.table_names.specs.Promises.{Tidy}
use Rattle.table_names.proofs.Spans.{eqb_sym}
use Rattle.table_names.proofs.SlotParts.{slot_head, slot_long, slot_inside, name_long}
use Rattle.check_names.specs.Numbers.{name_words, number_range, weighed, name_number}

-- ---- the sum of the words by weights: 16 weights below 2 ^ 16, words below 2 ^ 32

-- the largest weight times the largest word
abbrev pub heaviest : ℕ
heaviest = 65535 * 4294967295

product_small : {k w : ℕ} → k < 2 ^ 16 → w < 2 ^ 32 → k * w ≤ heaviest
product_small {k} {w} p q =
    let u : w ≤ 4294967295 = omega arith in
    let v : k ≤ 65535 = omega arith in
    le_trans (mul-le-mul_left k u) (mul-le-mul_right 4294967295 v)

pub product_fits : {k w : ℕ} → k < 2 ^ 16 → w < 2 ^ 32 → k * w < 2 ^ 64
product_fits {k} {w} p q = let h : k * w ≤ heaviest = product_small p q in omega arith

module _ (sum i : ℕ) {k w : ℕ} (small : sum ≤ i * heaviest) (light : k < 2 ^ 16) (word : w < 2 ^ 32) where
  pub weigh_small : sum + k * w ≤ (i + 1) * heaviest
  weigh_small = let h : k * w ≤ heaviest = product_small light word in omega arith

  pub weigh_fits : i < name_words → sum + k * w < 2 ^ 64
  weigh_fits h = let f : k * w ≤ heaviest = product_small light word in omega arith

pub weigh_none : (ks bs : List ℕ) → 0 ≡ weighed ks bs 0
unfolding weighed
weigh_none ks bs = refl

pub weigh_next : (ks bs : List ℕ) (sum i : ℕ) {k w v : ℕ} → sum ≡ weighed ks bs i → k ≡ get_or ks i 0 → v ≡ word_from bs (4 * i) → w ≡ v → sum + k * w ≡ weighed ks bs (i + 1)
unfolding weighed
weigh_next ks bs sum i p e f g = rw (add-one i, p, e, g, f)

pub weigh_end : (ks bs : List ℕ) (sum i : ℕ) → sum ≡ weighed ks bs i → i ≤ name_words → name_words ≤ i → sum ≡ weighed ks bs name_words
weigh_end ks bs sum i p g h = let e : i ≡ name_words = omega arith in p ∙ ap (weighed ks bs) e

pub ruleset weigh_loop = (rules, product_fits, weigh_small, weigh_fits, weigh_none, weigh_next, weigh_end)

-- what the function `number` returns
pub number_read : (ks ss : List ℕ) (r start : ℕ) {x : ℕ} → start ≡ slot_width * (r - 1) → x ≡ weighed ks (take (start + name_width - start) (drop start ss)) name_words → x % 4294967296 ≡ name_number ks ss r
unfolding name_number
number_read ks ss r start {x} e h =
    let q : start + name_width - start ≡ name_width = omega arith in
    let f : take (start + name_width - start) (drop start ss) ≡ take name_width (slot_in ss r) = rw (q, e) (slot_head ss r name_width (omega arith)) in
    rw (h, f)

pub ruleset number_laws = (rules, number_read)

-- ---- `l.iter().fold(false, |met, y| met | (*y == x))`

any_from : (x : ℕ) (m : Bool) (l : List ℕ) → fold (λ (b : Bool) (y : ℕ). b || eqb y x) m l ≡ (m || any (eqb x) l)
unfolding any
any_from x m [] = or_comm false m
any_from x m (y ∷ l) = any_from x (m || eqb y x) l ∙ or_assoc m (eqb y x) (any (eqb x) l) ∙ ap (λ (b : Bool). m || (b || any (eqb x) l)) (eqb_sym y x)

pub any_folded : (x : ℕ) (l : List ℕ) → fold (λ (b : Bool) (y : ℕ). b || eqb y x) false l ≡ any (eqb x) l
any_folded x l = any_from x false l

-- ---- equal names stand in equal bytes, so they have equal numbers

module _ (ws ss : List ℕ) (tidy : Tidy ws ss) where
  -- the bytes where a name stands are the name and zeros
  name_bytes : (r : ℕ) → 1 ≤ r → r ≤ resources_in ws → named ws r ≡ true
      → take name_width (slot_in ss r) ≡ name_in ws ss r ++ replicate (name_width - word_in ws (of_resource r 4)) 0
  unfolding name_in slot_fine
  name_bytes r p q u =
      let n : ℕ = word_in ws (of_resource r 4) in
      let h : n ≤ name_width = tidy.named.lengths.short r p q in
      let l : length (slot_in ss r) ≡ slot_width = slot_long ss r p (slot_inside ws ss r tidy.named.slotted p q) in
      let bytes : List ℕ = take name_width (slot_in ss r) in
      let front : take n bytes ≡ take n (slot_in ss r) = take-take n name_width (slot_in ss r) h in
      let wide : length bytes ≡ name_width = length-take-le name_width (slot_in ss r) (omega arith) in
      let rest : length (drop n bytes) ≡ name_width - n = length-drop n bytes ∙ ap (λ (m : ℕ). m - n) wide in
      let back : drop n bytes ≡ replicate (name_width - n) 0 = zeros_are (drop n bytes) (name_width - n) (rw u at (tidy.fine r p q)) rest in
      sym (take-append-drop n bytes) ∙ ap₂ (λ (xs ys : List ℕ). xs ++ ys) front back

  module _ (r s : ℕ) (low : 1 ≤ r) (high : r ≤ resources_in ws) (low' : 1 ≤ s) (high' : s ≤ resources_in ws) (used : named ws r ≡ true) (equal : same (name_in ws ss r) (name_in ws ss s) ≡ true) where
    names_are : name_in ws ss r ≡ name_in ws ss s
    names_are = same_eq (name_in ws ss r) (name_in ws ss s) equal

    lengths_are : word_in ws (of_resource r 4) ≡ word_in ws (of_resource s 4)
    lengths_are = sym (name_long ws ss r tidy.named low high) ∙ ap length names_are ∙ name_long ws ss s tidy.named low' high'

    pub both_named : named ws s ≡ true
    unfolding named
    both_named = rw lengths_are at used

    pub same_number : (ks : List ℕ) → name_number ks ss r ≡ name_number ks ss s
    unfolding name_number
    same_number ks =
        let e : take name_width (slot_in ss r) ≡ take name_width (slot_in ss s) =
        name_bytes r low high used ∙ ap₂ (λ (xs : List ℕ) (m : ℕ). xs ++ replicate (name_width - m) 0) names_are lengths_are ∙ sym (name_bytes s low' high' both_named) in
        ap (λ (bs : List ℕ). weighed ks bs name_words % number_range) e
