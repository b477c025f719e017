-- Names and slots as they stand in the words and slots.
use Rattle.std.specs.Prelude.{Bool, ◌&&◌, not, cond, List, ℕ, suc, ◌-◌, take, drop, eqb}
use Rattle.tables.specs.Lists.{all, first_that, from, same}
use Rattle.tables.specs.State.{name_width}
use Rattle.tables.specs.Layout.{of_resource, resources_in, word_in, slot_in}
use Rattle.tables.specs.Sound.{all_zero}

-- a resource in use has a name
unfoldable pub named : List ℕ → ℕ → Bool
named ws r = not (eqb (word_in ws (of_resource r 4)) 0)

unfoldable pub name_in : List ℕ → List ℕ → ℕ → List ℕ
name_in ws ss r = take (word_in ws (of_resource r 4)) (slot_in ss r)

-- its slot: zeros when free, else zeros after the name
unfoldable pub slot_fine : List ℕ → List ℕ → ℕ → Bool
slot_fine ws ss r =
    cond (named ws r) (all_zero (drop (word_in ws (of_resource r 4)) (take name_width (slot_in ss r)))) (all_zero (slot_in ss r))

-- no two names are equal: each is compared with those after it
unfoldable pub apart : List ℕ → List ℕ → ℕ → ℕ → Bool
apart ws ss r s = not (named ws r && same (name_in ws ss r) (name_in ws ss s))

unfoldable pub apart_after : List ℕ → List ℕ → ℕ → Bool
apart_after ws ss r = all (apart ws ss r) (from (suc r) (resources_in ws - r))

unfoldable pub names_differ : List ℕ → List ℕ → Bool
names_differ ws ss = all (apart_after ws ss) (from 1 (resources_in ws))

-- the first resource of that name, or 0
unfoldable pub find_in : List ℕ → List ℕ → List ℕ → ℕ
find_in ws ss n = first_that (λ r. same (name_in ws ss r) n) (from 1 (resources_in ws))
