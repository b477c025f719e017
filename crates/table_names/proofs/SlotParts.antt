-- Parts of a slot, as the code reads them.
use mathlib.Core.Path.{◌≡◌, refl, sym, ap, ◌∙◌}
use mathlib.Core.Bool.{Bool, true, false}
use mathlib.Core.List.{List, [], ◌∷◌}
use Prim.Native.Nat.{ℕ, zero, suc, ◌+◌, ◌-◌, ◌*◌, ◌≤◌, ◌<◌}
use native.Mathlib.Omega.{arith}
use borrow.Author.Tests.{eq-eqb, ne_eqb}
use borrow.Author.Rules.{rules}
use lib.ListN.{length, take, drop, replicate, drop_of_length-le, length-drop, length-take}
use lib.Seq.{drop-drop, take-take, take_all, length-take-le, take-nil}
use Rattle.tables.specs.Lists.{all, first_that, same}
use Rattle.tables.specs.State.{name_width}
use Rattle.tables.specs.Layout.{of_resource, slot_width, resources_in, word_in, slot_in}
use Rattle.tables.specs.Sound.{all_zero}
use Rattle.table_names.specs.Names.{named, name_in, slot_fine, find_in}
use Rattle.table_names.specs.Promises.{Slotted, Short, Named}
use Rattle.table_names.proofs.NumberRuns.{upto, from_first, some_loop}
use Rattle.table_names.proofs.Spans.{same_short}

pub drop_take : (a n : ℕ) (l : List ℕ) → drop a (take (a + n) l) ≡ take n (drop a l)
drop_take zero n l = let q : 0 + n ≡ n = omega arith in rw q
drop_take (suc a) n [] = let q : suc a + n ≡ suc (a + n) = omega arith in rw (q, take-nil n)
drop_take (suc a) n (x ∷ l) = let q : suc a + n ≡ suc (a + n) = omega arith in rw q (drop_take a n l)

-- n bytes of the slot of r, from a on
pub slot_part : (ss : List ℕ) (r a n : ℕ) → a + n ≤ slot_width → take n (drop (slot_width * (r - 1) + a) ss) ≡ drop a (take (a + n) (slot_in ss r))
unfolding slot_in
slot_part ss r a n h =
    sym (ap (drop a) (take-take (a + n) slot_width (drop (slot_width * (r - 1)) ss) h) ∙ drop_take a n (drop (slot_width * (r - 1)) ss)
    ∙ ap (take n) (drop-drop a (slot_width * (r - 1)) ss))

pub slot_head : (ss : List ℕ) (r n : ℕ) → n ≤ slot_width → take n (drop (slot_width * (r - 1)) ss) ≡ take n (slot_in ss r)
unfolding slot_in
slot_head ss r n h = sym (take-take n slot_width (drop (slot_width * (r - 1)) ss) h)

pub slot_long : (ss : List ℕ) (r : ℕ) → 1 ≤ r → slot_width * r ≤ length ss → length (slot_in ss r) ≡ slot_width
unfolding slot_in
slot_long ss r p h = let l : slot_width ≤ length (drop (slot_width * (r - 1)) ss) = rw (length-drop (slot_width * (r - 1)) ss) (omega arith) in length-take-le slot_width (drop (slot_width * (r - 1)) ss) l

pub slot_inside : (ws ss : List ℕ) (r : ℕ) → Slotted ws ss → 1 ≤ r → r ≤ resources_in ws → slot_width * r ≤ length ss
slot_inside ws ss r stand low high = let l = stand.long in omega arith

-- what `slot_fine` returns: for a free resource; for one whose name's length is no length; for one in use
module _ (ws ss : List ℕ) (r : ℕ) {w : ℕ} (read : w ≡ word_in ws (of_resource r 4)) where
  pub fine_free : (start : ℕ) {x : Bool} → w ≡ 0 → start ≡ slot_width * (r - 1) → x ≡ all_zero (take (start + slot_width - start) (drop start ss)) → x ≡ slot_fine ws ss r
  unfolding slot_fine named slot_in
  fine_free start n e h =
      let q : start + slot_width - start ≡ slot_width = omega arith in
      let f : word_in ws (of_resource r 4) ≡ 0 = omega arith in
      rw (eq-eqb _ _ f, ← e, ← q) h

  pub fine_long : name_width < w → true ≡ slot_fine ws ss r
  unfolding slot_fine named all_zero all
  fine_long n =
      let f : word_in ws (of_resource r 4) ≡ 0 → ⊥ = λ e. omega arith in
      let g : length (take name_width (slot_in ss r)) ≤ word_in ws (of_resource r 4) = rw (length-take name_width (slot_in ss r)) (omega arith) in
      rw (ne_eqb _ _ f, drop_of_length-le (take name_width (slot_in ss r)) g)

  pub fine_used : (start : ℕ) {x : Bool} → (w ≡ 0 → ⊥) → w ≤ name_width → start ≡ slot_width * (r - 1) → x ≡ all_zero (take (start + name_width - (start + w)) (drop (start + w) ss)) → x ≡ slot_fine ws ss r
  unfolding slot_fine named
  fine_used start n m e h =
      let f : word_in ws (of_resource r 4) ≡ 0 → ⊥ = λ e. n (omega arith) in
      let q : start + name_width - (start + w) ≡ name_width - w = omega arith in
      let s : w + (name_width - w) ≡ name_width = omega arith in
      let p : take (name_width - w) (drop (start + w) ss) ≡ drop w (take name_width (slot_in ss r)) =
      ap (λ (t : ℕ). take (name_width - w) (drop (t + w) ss)) e ∙ slot_part ss r w (name_width - w) (omega arith) ∙ ap (λ (m : ℕ). drop w (take m (slot_in ss r))) s in
      rw (ne_eqb _ _ f, ← read, ← p, ← q) h

pub drop_zeros : (n m : ℕ) → drop {A = ℕ} n (replicate (n + m) 0) ≡ replicate m 0
drop_zeros zero m = let q : 0 + m ≡ m = omega arith in rw q
drop_zeros (suc n) m = let q : suc n + m ≡ suc (n + m) = omega arith in rw q (drop_zeros n m)

-- where a name stands, and how long it is
pub name_part : (ws ss : List ℕ) (r n start : ℕ) → n ≡ word_in ws (of_resource r 4) → n ≤ name_width → start ≡ slot_width * (r - 1) → take (start + n - start) (drop start ss) ≡ name_in ws ss r
unfolding name_in
name_part ws ss r n start e h f =
    let q : start + n - start ≡ n = omega arith in
    rw (q, f, ← e) (slot_head ss r n (omega arith))

pub name_long : (ws ss : List ℕ) (r : ℕ) → Named ws ss → 1 ≤ r → r ≤ resources_in ws → length (name_in ws ss r) ≡ word_in ws (of_resource r 4)
unfolding name_in
name_long ws ss r stand low high =
    let h : word_in ws (of_resource r 4) ≤ name_width = stand.lengths.short r low high in
    let l : length (slot_in ss r) ≡ slot_width = slot_long ss r low (slot_inside ws ss r stand.slotted low high) in
    length-take-le (word_in ws (of_resource r 4)) (slot_in ss r) (omega arith)

-- what `name_length` returns
pub short_at : (ws : List ℕ) (r : ℕ) {w z : ℕ} → Short ws → 1 ≤ r → r ≤ resources_in ws → z ≡ word_in ws (of_resource r 4) → w ≡ z → w ≤ name_width
short_at ws r s p q e f = rw (f, e) (s.short r p q)

pub length_read : (ws : List ℕ) (r : ℕ) {w z : ℕ} → z ≡ word_in ws (of_resource r 4) → w ≡ z → w ≡ word_in ws (of_resource r 4)
length_read ws r e f = f ∙ e

-- what `name_span` returns: of a slot that is all name, and of one that has a name
module _ (ws ss : List ℕ) (r : ℕ) {w : ℕ} (stand : Slotted ws ss) (low : 1 ≤ r) (high : r ≤ resources_in ws) (read : w ≡ word_in ws (of_resource r 4)) where
  whole_slot : length (slot_in ss r) ≡ slot_width
  whole_slot = slot_long ss r low (slot_inside ws ss r stand low high)

  pub span_all : slot_width < w → slot_width ≡ length (name_in ws ss r)
  unfolding name_in
  span_all h = let l = whole_slot in rw (take_all (word_in ws (of_resource r 4)) (slot_in ss r) (omega arith)) (sym l)

  pub span_named : w ≤ slot_width → w ≡ length (name_in ws ss r)
  unfolding name_in
  span_named h = let l = whole_slot in read ∙ sym (length-take-le (word_in ws (of_resource r 4)) (slot_in ss r) (omega arith))

-- what `has_name` returns
take_taken : (w : ℕ) (l : List ℕ) → take (length (take w l)) l ≡ take w l
take_taken zero l = refl
take_taken (suc w) [] = refl
take_taken (suc w) (x ∷ l) = ap (λ (m : List ℕ). x ∷ m) (take_taken w l)

module _ (ws ss nm : List ℕ) (r : ℕ) {n : ℕ} (span : n ≡ length (name_in ws ss r)) where
  pub named_other : (n ≡ length nm → ⊥) → false ≡ same (name_in ws ss r) nm
  named_other f = same_short (name_in ws ss r) nm (λ e. f (span ∙ e))

  pub named_same : (start : ℕ) {x : Bool} → n ≤ slot_width → start ≡ slot_width * (r - 1) → x ≡ same (take (start + n - start) (drop start ss)) nm → x ≡ same (name_in ws ss r) nm
  unfolding name_in
  named_same start h f e =
      let q : start + n - start ≡ n = omega arith in
      let p : take n (slot_in ss r) ≡ name_in ws ss r = ap (λ (m : ℕ). take m (slot_in ss r)) span ∙ take_taken (word_in ws (of_resource r 4)) (slot_in ss r) in
      rw (q, f, slot_head ss r n h, p) at e

-- the same where the lengths of names are known to be right
module _ (ws ss nm : List ℕ) (r : ℕ) {n : ℕ} (read : n ≡ word_in ws (of_resource r 4)) where
  pub short_other : Named ws ss → 1 ≤ r → r ≤ resources_in ws → (n ≡ length nm → ⊥) → false ≡ same (name_in ws ss r) nm
  short_other stand low high = named_other ws ss nm r (read ∙ sym (name_long ws ss r stand low high))

  pub short_same : (start : ℕ) {x : Bool} → n ≤ name_width → start ≡ slot_width * (r - 1) → x ≡ same (take (start + n - start) (drop start ss)) nm → x ≡ same (name_in ws ss r) nm
  short_same start h f e = rw (name_part ws ss r n start read h f) at e

-- the name of r is nm
abbrev pub called : List ℕ → List ℕ → List ℕ → ℕ → Bool
called ws ss nm r = same (name_in ws ss r) nm

pub find_run : (ws ss nm : List ℕ) {n : ℕ} → n ≡ resources_in ws → find_in ws ss nm ≡ first_that (called ws ss nm) (upto 1 n)
unfolding find_in
find_run ws ss nm {n} e = rw (e, from_first (resources_in ws))

pub ruleset slot_laws = (rules, fine_free, fine_long, fine_used, short_at, length_read, span_all, span_named, named_other, named_same, short_other, short_same)

pub ruleset find_loop = (some_loop, find_run)
