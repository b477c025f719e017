-- Names that are told apart by their numbers: what each return of `new_name` says, and the loop over it.
use mathlib.Core.Path.{◌≡◌, sym, ap, ◌∙◌}
use mathlib.Core.Bool.{Bool, true, false, ◌&&◌, not}
use mathlib.Core.List.{List, [], ◌∷◌}
use Prim.Native.Nat.{ℕ, zero, suc, ◌+◌, ◌-◌, ◌<◌, ◌≤◌}
use native.Mathlib.Omega.{arith}
use borrow.Author.Tests.{eq-eqb, not-true, not-false}
use borrow.Author.Rules.{rules}
use lib.Dec.{eqb}
use lib.ListN.{length, get_or, set, take, drop, length-drop, length-set}
use lib.Seq.{length-take-le, get_or-take, get_or-drop, get_or-set_same, get_or-set_other}
use Rattle.tables.specs.Lists.{all, any, same}
use Rattle.tables.specs.Layout.{of_resource, resources_in, word_in}
use Rattle.tables.proofs.Cases.{by_cases, by_equal, clash, and_left, and_right, nor_left, nor_right}
use Rattle.table_fields.specs.Sizes.{resource_places}
use Rattle.table_names.specs.Names.{named, name_in, apart, apart_after, names_differ}
use Rattle.table_names.specs.Promises.{Tidy}
use Rattle.table_names.proofs.NumberRuns.{upto}
use Rattle.check_names.specs.declared.Met.{Met}
use Rattle.check_names.specs.Numbers.{name_words, places, mark_place, name_number, Noted, TellsApart}
use Rattle.check_names.proofs.RunTests.{all_each, down_next, down_stop, down_end}
use Rattle.check_names.proofs.ComparedNames.{free_after, differ_run}
use Rattle.check_names.proofs.NameNumbers.{both_named, same_number}

not_any : (x : ℕ) (xs : List ℕ) → any (eqb x) xs ≡ false → (i : ℕ) → i < length xs → x ≡ get_or xs i 0 → ⊥
unfolding any
not_any x [] h i p e = absurd (omega arith)
not_any x (y ∷ ys) h zero p e = clash (eqb x y) (eq-eqb x y e) (nor_left (eqb x y) _ h)
not_any x (y ∷ ys) h (suc i) p e = not_any x ys (nor_right (eqb x y) _ h) i (omega arith) e

-- a number that is not among those from a up to b
not_among : (x a b : ℕ) (ns : List ℕ) → b ≤ length ns → any (eqb x) (take (b - a) (drop a ns)) ≡ false → (s : ℕ) → a ≤ s → s < b → x ≡ get_or ns s 0 → ⊥
not_among x a b ns l h s p q e =
    let m : b - a ≤ length (drop a ns) = rw (length-drop a ns) (omega arith) in
    let k : length (take (b - a) (drop a ns)) ≡ b - a = length-take-le (b - a) (drop a ns) m in
    let i : s - a < b - a = omega arith in
    let j : a + (s - a) ≡ s = omega arith in
    not_any x (take (b - a) (drop a ns)) h (s - a) (omega arith)
    (e ∙ sym (get_or-take (b - a) (drop a ns) (s - a) 0 i ∙ get_or-drop a ns (s - a) 0 ∙ ap (λ (t : ℕ). get_or ns t 0) j))

module _ (ws ss ks : List ℕ) (m : Met) (r : ℕ) (noted : Noted ws ss ks m r) (low : 1 ≤ r) (high : r ≤ resources_in ws) where
  -- r is free: nothing is written
  pub tells_free : {n : ℕ} → n ≡ word_in ws (of_resource r 4) → n ≡ 0 → TellsApart ws ss ks m r true
  unfolding named
  tells_free e f =
      let free : named ws r ≡ false = rw (eq-eqb _ _ (sym e ∙ f)) in
      record {
        answer = free_after ws ss r e f;
        next = record {
          weights = noted.weights;
          numbers = noted.numbers;
          marks = noted.marks;
          noted = λ s p q u. by_equal s r (λ e. clash (named ws r) (rw e at u) free) (λ e. noted.noted s (omega arith) q u);
          marked = λ s p q u. by_equal s r (λ e. clash (named ws r) (rw e at u) free) (λ e. noted.marked s (omega arith) q u);
        };
      }

  module _ (tidy : Tidy ws ss) {x : ℕ} (own : x ≡ name_number ks ss r) where
    -- its number is written down, and its place is marked
    note : (ms' : List Bool) → length ms' ≡ places → ((i : ℕ) → get_or m.marks i false ≡ true → get_or ms' i false ≡ true) → get_or ms' (mark_place x) false ≡ true
        → Noted ws ss ks (record { numbers = set m.numbers r x; marks = ms' }) (r - 1)
    note ms' l keep here =
        let few = tidy.named.slotted.sized.few_resources in
        let many = noted.numbers in
        record {
          weights = noted.weights;
          numbers = length-set m.numbers r x ∙ many;
          marks = l;
          noted = λ s p q u. by_equal s r
              (λ e. rw e (get_or-set_same m.numbers r x 0 (omega arith) ∙ own))
              (λ e. get_or-set_other m.numbers r s x 0 e ∙ noted.noted s (omega arith) q u);
          marked = λ s p q u. by_equal s r
              (λ e. rw (e, ← own) here)
              (λ e. keep (mark_place (name_number ks ss s)) (noted.marked s (omega arith) q u));
        }

    -- no name after r is its own if none has its number
    apart_by_number : ((s : ℕ) → r < s → s ≤ resources_in ws → named ws s ≡ true → x ≡ name_number ks ss s → ⊥) → apart_after ws ss r ≡ true
    unfolding apart_after apart
    apart_by_number other =
        all_each (apart ws ss r) (resources_in ws - r) (suc r)
        (λ s p q.
        let m : s ≤ resources_in ws = omega arith in
        let l : 1 ≤ s = omega arith in
        by_cases (named ws r && same (name_in ws ss r) (name_in ws ss s))
        (λ e.
        let u : named ws r ≡ true = and_left (named ws r) _ e in
        let f : same (name_in ws ss r) (name_in ws ss s) ≡ true = and_right (named ws r) _ e in
        absurd (other s p m (both_named ws ss tidy r s low high l m u f) (own ∙ same_number ws ss tidy r s low high l m u f ks)))
        (λ e. rw e))

    -- a name of its number would have marked its place
    new_apart : get_or m.marks (mark_place x) false ≡ false → apart_after ws ss r ≡ true
    new_apart h = apart_by_number (λ s p q u e. clash (get_or m.marks (mark_place x) false) (rw e (noted.marked s p q u)) h)

    new_noted : Noted ws ss ks (record { numbers = set m.numbers r x; marks = set m.marks (mark_place x) true }) (r - 1)
    new_noted =
        let l : mark_place x < length m.marks = let m = noted.marks in omega arith in
        note (set m.marks (mark_place x) true) (length-set m.marks (mark_place x) true ∙ noted.marks)
        (λ i h. by_equal i (mark_place x) (λ e. rw e (get_or-set_same m.marks (mark_place x) true false l)) (λ e. get_or-set_other m.marks (mark_place x) i true false e ∙ h))
        (get_or-set_same m.marks (mark_place x) true false l)

    -- .. and would be among the numbers after r
    other_apart : any (eqb x) (take (resources_in ws + 1 - (r + 1)) (drop (r + 1) (set m.numbers r x))) ≡ false → apart_after ws ss r ≡ true
    other_apart h =
        let few = tidy.named.slotted.sized.few_resources in
        let long : length (set m.numbers r x) ≡ resource_places = length-set m.numbers r x ∙ noted.numbers in
        apart_by_number (λ s p q u e.
        not_among x (r + 1) (resources_in ws + 1) (set m.numbers r x) (omega arith) h s (omega arith) (omega arith)
        (e ∙ sym (get_or-set_other m.numbers r s x 0 (λ f. omega arith) ∙ noted.noted s p q u)))

    -- its place was not marked, and is now
    pub tells_new : not (get_or m.marks (mark_place x) false) ≡ true → TellsApart ws ss ks (record { numbers = set m.numbers r x; marks = set m.marks (mark_place x) true }) r true
    tells_new h = record { answer = sym (new_apart (not-true (get_or m.marks (mark_place x) false) h)); next = new_noted }

    module _ (met : not (get_or m.marks (mark_place x) false) ≡ false) where
      met_noted : Noted ws ss ks (record { numbers = set m.numbers r x; marks = m.marks }) (r - 1)
      met_noted = note m.marks noted.marks (λ i h. h) (not-false (get_or m.marks (mark_place x) false) met)

      -- another number marked it
      pub tells_other : {n : ℕ} {y : Bool} → n ≡ resources_in ws → y ≡ any (eqb x) (take (n + 1 - (r + 1)) (drop (r + 1) (set m.numbers r x))) → not y ≡ true
          → TellsApart ws ss ks (record { numbers = set m.numbers r x; marks = m.marks }) r true
      tells_other {n} {y} e g h = record { answer = sym (other_apart (rw (← e) (sym g ∙ not-true y h))); next = met_noted }

      -- an equal number marked it: the names were compared
      pub tells_compared : {y : Bool} → y ≡ apart_after ws ss r → TellsApart ws ss ks (record { numbers = set m.numbers r x; marks = m.marks }) r y
      tells_compared e = record { answer = e; next = met_noted }

-- how far the numbers reach that are looked at
pub among_inside : (ws ss ks : List ℕ) (m : Met) (r : ℕ) (x : ℕ) {n : ℕ} → Tidy ws ss → Noted ws ss ks m r → n ≡ resources_in ws → n + 1 ≤ length (set m.numbers r x)
among_inside ws ss ks m r x tidy noted e =
    let few = tidy.named.slotted.sized.few_resources in
    let many = noted.numbers in
    rw (length-set m.numbers r x) (omega arith)

pub ruleset telling = (rules, tells_free, among_inside, tells_new, tells_other, tells_compared)

-- ---- `for r in (1..n + 1).rev()`: what is left to tell below e decides the whole

pub record Left (ws ss ks : List ℕ) (m : Met) (e : ℕ) : Type 0 where
  pub noted : Noted ws ss ks m (e - 1)
  pub high : e ≤ resources_in ws + 1
  pub whole : names_differ ws ss ≡ all (apart_after ws ss) (upto 1 (e - 1))

pub left_all : (ws ss ks : List ℕ) (m : Met) (n : ℕ) → length ks ≡ name_words → length m.numbers ≡ resource_places → length m.marks ≡ places → n ≡ resources_in ws → Left ws ss ks m (n + 1)
left_all ws ss ks m n k l p e =
    let q : n + 1 - 1 ≡ n = omega arith in
    record {
      noted = record { weights = k; numbers = l; marks = p; noted = λ s p q u. absurd (omega arith); marked = λ s p q u. absurd (omega arith) };
      high = omega arith;
      whole = rw q (differ_run ws ss e);
    }

module _ (ws ss ks : List ℕ) {m : Met} (e : ℕ) (left : Left ws ss ks m e) where
  pub left_next : {m' : Met} {x : Bool} → 1 < e → TellsApart ws ss ks m' (e - 1) x → not x ≡ false → Left ws ss ks m' (e - 1)
  left_next h t n =
      let top = left.high in
      record { noted = t.next; high = omega arith; whole = down_next (apart_after ws ss) (e - 1) left.whole (omega arith) t.answer n }

  pub left_stop : {m' : Met} {x : Bool} → 1 < e → TellsApart ws ss ks m' (e - 1) x → not x ≡ true → false ≡ names_differ ws ss
  left_stop h t n = down_stop (apart_after ws ss) (e - 1) left.whole (omega arith) t.answer n

  pub left_end : e ≤ 1 → true ≡ names_differ ws ss
  left_end h = down_end (apart_after ws ss) (e - 1) left.whole (omega arith)

pub ruleset left_loop = (rules, left_all, left_next, left_stop, left_end)
