-- What records that passed give to what comes after.
use mathlib.Core.Path.{◌≡◌, sym, ◌∙◌}
use mathlib.Core.Bool.{Bool, true, false, not}
use mathlib.Core.List.{List}
use Prim.Native.Nat.{ℕ, ◌*◌, ◌≤◌}
use native.Mathlib.Omega.{arith}
use lib.Dec.{eqb, leb}
use lib.ListN.{length}
use borrow.Author.Tests.{not-false, leb-true, eqb-true}
use Rattle.tables.specs.Lists.{all, from}
use Rattle.tables.specs.State.{name_width, most_resources, most_locks}
use Rattle.tables.specs.Layout.{of_resource, size, slot_width, resources_in, locks_in, word_in}
use Rattle.tables.specs.Sound.{sizes_right}
use Rattle.tables.proofs.Cases.{by_cases, and_left, and_right, parts}
use Rattle.tables.proofs.Conditions.{each_at}
use Rattle.table_fields.specs.Sizes.{Sized}
use Rattle.table_names.specs.Names.{slot_fine}
use Rattle.table_names.specs.Promises.{Slotted, Tidy}
use Rattle.check_laws.specs.Check.{row_in, used_row, row_fine, resource_fine}
use Rattle.check_resources.specs.Passes.{Fine}

-- SIZES
module _ (ws ss : List ℕ) {a : Bool} (e : a ≡ sizes_right ws ss) (f : not a ≡ false) where
  right : sizes_right ws ss ≡ true
  right = sym e ∙ not-false a f

  pub slotted : Slotted ws ss
  unfolding sizes_right
  slotted =
      let h = right in
      let p : eqb (length ws) (size (resources_in ws) (locks_in ws)) ≡ true = search parts depth 20 in
      let q : leb (resources_in ws) most_resources ≡ true = search parts depth 20 in
      let r : leb (locks_in ws) most_locks ≡ true = search parts depth 20 in
      let s : eqb (length ss) (slot_width * resources_in ws) ≡ true = search parts depth 20 in
      record {
        sized = record { long = eqb-true _ _ p; few_resources = leb-true _ _ q; few_locks = leb-true _ _ r };
        long = eqb-true _ _ s;
      }

  pub sized : Sized ws
  sized = slotted.sized

  some_lock : 1 ≤ locks_in ws
  unfolding sizes_right
  some_lock = let h = right in let p : leb 1 (locks_in ws) ≡ true = search parts depth 20 in leb-true _ _ p

  pub fine : Fine ws
  fine = record { sized = sized; some = some_lock }

  -- RESOURCES
  module _ (g : all (resource_fine ws ss) (from 1 (resources_in ws)) ≡ true) where
    fine_at : (r : ℕ) → 1 ≤ r → r ≤ resources_in ws → resource_fine ws ss r ≡ true
    fine_at = each_at (resource_fine ws ss) (resources_in ws) g

    rows : (r : ℕ) → 1 ≤ r → r ≤ resources_in ws → row_fine ws r ≡ true
    unfolding resource_fine
    rows r l h = and_left (row_fine ws r) (slot_fine ws ss r) (fine_at r l h)

    short_at : (r : ℕ) → 1 ≤ r → r ≤ resources_in ws → word_in ws (of_resource r 4) ≤ name_width
    unfolding resource_fine row_fine used_row row_in
    short_at r l h =
        let x = rows r l h in
        let w = word_in ws (of_resource r 4) in
        by_cases (eqb w 0)
        (λ z. omega (arith, eqb-true w 0 z))
        (λ z.
        let y = rw z at x in
        let v : leb w name_width ≡ true = search parts depth 20 in
        leb-true w name_width v)

    pub tidy : Tidy ws ss
    unfolding resource_fine
    tidy =
        record {
          named = record { slotted = slotted; lengths = record { sized = sized; short = short_at } };
          fine = λ r l h. and_right (row_fine ws r) (slot_fine ws ss r) (fine_at r l h);
        }
