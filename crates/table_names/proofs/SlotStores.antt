-- What a store into a part of a slot leaves.
use mathlib.Core.Path.{◌≡◌, sym, ap, ap₂, ◌∙◌}
use mathlib.Core.List.{List, ◌++◌, append_assoc, append-nil}
use Prim.Native.Nat.{ℕ, ◌+◌, ◌-◌, ◌*◌, ◌≤◌}
use native.Mathlib.Omega.{arith}
use borrow.Author.Rules.{rules}
use borrow.Rule.Slice.PartMut.{put_mid}
use lib.ListN.{length, take, drop, replicate, take-append-drop, length-drop, drop_of_length-le, replicate-append-replicate}
use lib.Seq.{take_all, take-add, drop-drop, drop-append-le, length-take-le}
use Rattle.tables.specs.State.{name_width, value_width, no_value, no_resource}
use Rattle.tables.specs.Layout.{slot_width, slot, slot_in}
use Rattle.rules.specs.Calls.{new_resource}
use Rattle.table_names.specs.Promises.{with_slot, blank}
use Rattle.table_names.proofs.SlotParts.{drop_zeros, slot_part, slot_head, slot_long}

module _ (ss : List ℕ) (r : ℕ) (low : 1 ≤ r) where
  slot_split : drop (slot_width * (r - 1)) ss ≡ slot_in ss r ++ drop (slot_width * r) ss
  unfolding slot_in
  slot_split =
      let q : slot_width * (r - 1) + slot_width ≡ slot_width * r = omega arith in
      sym (take-append-drop slot_width (drop (slot_width * (r - 1)) ss))
      ∙ ap (λ (xs : List ℕ). take slot_width (drop (slot_width * (r - 1)) ss) ++ xs) (drop-drop slot_width (slot_width * (r - 1)) ss ∙ ap (λ (m : ℕ). drop m ss) q)

  module _ (inside : slot_width * r ≤ length ss) where
    -- zs in the place of n bytes of the slot of r, from a on
    pub part_stored : (a n : ℕ) (zs : List ℕ) → a + n ≤ slot_width
        → put_mid (slot_width * (r - 1) + a) n ss zs ≡ with_slot r (take a (slot_in ss r) ++ (zs ++ drop (a + n) (slot_in ss r))) ss
    part_stored a n zs h =
        let s : ℕ = slot_width * (r - 1) in
        let rest : List ℕ = drop (slot_width * r) ss in
        let back : List ℕ = drop (a + n) (slot_in ss r) in
        let l : length (slot_in ss r) ≡ slot_width = slot_long ss r low inside in
        let front : take (s + a) ss ≡ take s ss ++ take a (slot_in ss r) = take-add s a ss ∙ ap (λ (xs : List ℕ). take s ss ++ xs) (slot_head ss r a (omega arith)) in
        let behind : drop n (drop (s + a) ss) ≡ back ++ rest =
        ap (drop n) (sym (drop-drop a s ss)) ∙ drop-drop n a (drop s ss) ∙ ap (drop (a + n)) slot_split ∙ drop-append-le (a + n) (slot_in ss r) rest (omega arith) in
        ap₂ (λ (xs ys : List ℕ). xs ++ (zs ++ ys)) front behind
        ∙ append_assoc (take s ss) (take a (slot_in ss r)) (zs ++ (back ++ rest))
        ∙ ap (λ (xs : List ℕ). take s ss ++ xs)
        (sym (append_assoc (take a (slot_in ss r)) (zs ++ back) rest ∙ ap (λ (xs : List ℕ). take a (slot_in ss r) ++ xs) (append_assoc zs back rest)))

-- a name in a slot of zeros
abbrev zeros : ℕ → List ℕ
zeros n = replicate n 0

pub new_slot : (nm : List ℕ) → length nm ≤ name_width → nm ++ drop (length nm) blank ≡ slot (new_resource nm)
unfolding slot blank no_value
new_slot nm h =
    let n : ℕ = name_width - length nm in
    let q : slot_width ≡ length nm + (n + value_width) = omega arith in
    ap (λ (xs : List ℕ). nm ++ xs) (ap (λ (m : ℕ). drop (length nm) (replicate m 0)) q ∙ drop_zeros (length nm) (n + value_width) ∙ sym (replicate-append-replicate n value_width 0))

pub blank_slot : blank ≡ slot no_resource
unfolding slot blank no_value
blank_slot = sym (replicate-append-replicate name_width value_width 0)

-- what `store_name`, `store_value` and `clear_slot` leave, and what `value_at` returns
module _ (ss : List ℕ) (r start : ℕ) (low : 1 ≤ r) (inside : slot_width * r ≤ length ss) (begin : start ≡ slot_width * (r - 1)) where
  pub name_stored : (nm : List ℕ) {zs : List ℕ} → length nm ≤ name_width → slot_in ss r ≡ blank → zs ≡ nm → put_mid start (start + length nm - start) ss zs ≡ with_slot r (slot (new_resource nm)) ss
  name_stored nm h e f =
      let q : start + length nm - start ≡ length nm = omega arith in
      let b : start ≡ slot_width * (r - 1) + 0 = omega arith in
      let z : 0 + length nm ≡ length nm = omega arith in
      rw (q, b, f) (part_stored ss r low inside 0 (length nm) nm (omega arith)
      ∙ ap (λ (xs : List ℕ). with_slot r xs ss) (ap₂ (λ (m : ℕ) (xs : List ℕ). nm ++ drop m xs) z e ∙ new_slot nm h))

  whole_stored : (xs : List ℕ) → put_mid start (start + slot_width - start) ss xs ≡ with_slot r xs ss
  whole_stored xs =
      let q : start + slot_width - start ≡ slot_width = omega arith in
      let b : start ≡ slot_width * (r - 1) + 0 = omega arith in
      let l : length (slot_in ss r) ≤ 0 + slot_width = rw (slot_long ss r low inside) (omega arith) in
      rw (q, b) (part_stored ss r low inside 0 slot_width xs (omega arith)
      ∙ ap (λ (ys : List ℕ). with_slot r ys ss) (ap (λ (ys : List ℕ). xs ++ ys) (drop_of_length-le (slot_in ss r) l) ∙ append-nil xs))

  pub slot_cleared : {zs : List ℕ} → zs ≡ replicate (length (take (start + slot_width - start) (drop start ss))) 0 → put_mid start (start + slot_width - start) ss zs ≡ with_slot r blank ss
  unfolding blank
  slot_cleared {zs} e =
      let q : start + slot_width - start ≡ slot_width = omega arith in
      let l : slot_width ≤ length (drop start ss) = rw (length-drop start ss) (omega arith) in
      let n : length (take (start + slot_width - start) (drop start ss)) ≡ slot_width = rw q (length-take-le slot_width (drop start ss) l) in
      let f : zs ≡ blank = e ∙ ap zeros n in
      ap (put_mid start (start + slot_width - start) ss) f ∙ whole_stored blank

  pub value_stored : (v : List ℕ) {zs : List ℕ} → length v ≡ value_width → zs ≡ v
      → put_mid (start + name_width) (start + name_width + value_width - (start + name_width)) ss zs ≡ with_slot r (take name_width (slot_in ss r) ++ v) ss
  value_stored v h f =
      let q : start + name_width + value_width - (start + name_width) ≡ value_width = omega arith in
      let l : length (slot_in ss r) ≤ name_width + value_width = rw (slot_long ss r low inside) (omega arith) in
      rw (q, begin, f) (part_stored ss r low inside name_width value_width v (omega arith)
      ∙ ap (λ (xs : List ℕ). with_slot r (take name_width (slot_in ss r) ++ xs) ss) (ap (λ (xs : List ℕ). v ++ xs) (drop_of_length-le (slot_in ss r) l) ∙ append-nil v))

  pub value_copied : {zs : List ℕ} → zs ≡ take (start + name_width + value_width - (start + name_width)) (drop (start + name_width) ss) → zs ≡ drop name_width (slot_in ss r)
  value_copied e =
      let q : start + name_width + value_width - (start + name_width) ≡ value_width = omega arith in
      let l : length (slot_in ss r) ≤ name_width + value_width = rw (slot_long ss r low inside) (omega arith) in
      e ∙ rw (q, begin) (slot_part ss r name_width value_width (omega arith) ∙ ap (drop name_width) (take_all (name_width + value_width) (slot_in ss r) l))

pub ruleset store_laws = (rules, name_stored, slot_cleared, value_stored, value_copied)
