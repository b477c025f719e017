-- Names that are compared: what `apart` returns, and the runs over which names are compared.
use mathlib.Core.Path.{◌≡◌, refl, sym, ◌∙◌}
use mathlib.Core.Bool.{Bool, true, false, ◌&&◌, not}
use mathlib.Core.List.{List, [], ◌∷◌}
use Prim.Native.Nat.{ℕ, suc, ◌+◌, ◌-◌, ◌*◌, ◌≤◌}
use native.Mathlib.Numerals.{add-one}
use native.Mathlib.Omega.{arith}
use borrow.Author.Tests.{eq-eqb}
use borrow.Author.Rules.{rules}
use lib.Dec.{eqb}
use lib.ListN.{take, drop}
use Rattle.tables.specs.Lists.{all, from, same}
use Rattle.tables.specs.State.{name_width}
use Rattle.tables.specs.Layout.{of_resource, slot_width, resources_in, word_in}
use Rattle.table_names.specs.Names.{named, name_in, apart, apart_after, names_differ}
use Rattle.table_names.proofs.NumberRuns.{upto, from_first}
use Rattle.table_names.proofs.Spans.{eqb_sym}
use Rattle.table_names.proofs.SlotParts.{name_part}
use Rattle.check_names.proofs.RunTests.{all_loop, all_each}

same_sym : (xs ys : List ℕ) → same xs ys ≡ same ys xs
unfolding same
same_sym [] [] = refl
same_sym [] (y ∷ ys) = refl
same_sym (x ∷ xs) [] = refl
same_sym (x ∷ xs) (y ∷ ys) = rw (same_sym xs ys, eqb_sym x y)

pub apart_read : (ws ss : List ℕ) (r s start : ℕ) {n : ℕ} {x : Bool} → n ≡ word_in ws (of_resource r 4) → n ≤ name_width → start ≡ slot_width * (r - 1)
    → x ≡ same (name_in ws ss s) (take (start + n - start) (drop start ss)) → not (not (eqb n 0) && x) ≡ apart ws ss r s
unfolding apart named
apart_read ws ss r s start {n} e h f g = rw (g, name_part ws ss r n start e h f, same_sym (name_in ws ss s) (name_in ws ss r), e)

pub ruleset apart_laws = (rules, apart_read)

from_after : (r n : ℕ) → from (suc r) (n - r) ≡ upto (r + 1) n
unfolding upto
from_after r n = let q : n + 1 - (r + 1) ≡ n - r = omega arith in rw (q, add-one r)

pub after_run : (ws ss : List ℕ) (r : ℕ) {n : ℕ} → n ≡ resources_in ws → apart_after ws ss r ≡ all (apart ws ss r) (upto (r + 1) n)
unfolding apart_after
after_run ws ss r {n} e = rw (e, from_after r (resources_in ws))

pub differ_run : (ws ss : List ℕ) {n : ℕ} → n ≡ resources_in ws → names_differ ws ss ≡ all (apart_after ws ss) (upto 1 n)
unfolding names_differ
differ_run ws ss {n} e = rw (e, from_first (resources_in ws))

-- a resource without a name is apart from every other
pub free_apart : (ws ss : List ℕ) (r s : ℕ) → named ws r ≡ false → apart ws ss r s ≡ true
unfolding apart
free_apart ws ss r s h = rw h

pub free_after : (ws ss : List ℕ) (r : ℕ) {n : ℕ} → n ≡ word_in ws (of_resource r 4) → n ≡ 0 → true ≡ apart_after ws ss r
unfolding apart_after named
free_after ws ss r e f = sym (all_each (apart ws ss r) (resources_in ws - r) (suc r) (λ s p q. free_apart ws ss r s (rw (eq-eqb _ _ (sym e ∙ f)))))

pub ruleset compare_loop = (all_loop, free_after, after_run, differ_run)
