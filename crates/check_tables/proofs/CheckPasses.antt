-- The passes in turn: each says no for the whole, or gives to those after it what they stand on.
use mathlib.Core.Path.{◌≡◌, refl, sym}
use mathlib.Core.Bool.{Bool, true, false, not, ◌&&◌}
use mathlib.Core.List.{List}
use Prim.Native.Nat.{ℕ}
use lib.Dec.{eqb}
use borrow.Author.Rules.{rules}
use borrow.Author.Tests.{not-true, not-false}
use Rattle.tables.specs.Layout.{of_header, word_in}
use Rattle.tables.specs.Sound.{sizes_right, sound}
use Rattle.tables.proofs.Cases.{and_left, and_right}
use Rattle.table_names.specs.Names.{find_in}
use Rattle.check_laws.specs.Check.{homes_fine, check}
use Rattle.check_laws.proofs.Equal.{check_is_sound}
use Rattle.check_resources.proofs.PassedRecords.{slotted, sized, tidy, fine}
use Rattle.std.proofs.Common.{Option, Some, None}
use Rattle.tables.specs.Numbered.{numbered}
use Rattle.check_tables.specs.Surveys.{Surveyed}
use Rattle.check_tables.specs.Chains.{HomeCounts, resources_fine, sides_fine, Homes, Checked}

module _ (ws ss : List ℕ) {a : Bool} (ea : a ≡ sizes_right ws ss) where
  pub sound_sizes : not a ≡ true → false ≡ sound ws ss
  unfolding check
  sound_sizes n = rw (← check_is_sound ws ss, ← ea, not-true a n)

  module _ {b : Bool} (na : not a ≡ false) (eb : b ≡ eqb (word_in ws (of_header 7)) 0) where
    pub sound_header : not b ≡ true → false ≡ sound ws ss
    unfolding check
    sound_header n = rw (← check_is_sound ws ss, ← ea, not-false a na, ← eb, not-true b n)

    module _ (nb : not b ≡ false) where
      pub sound_homes : Homes ws ss None → false ≡ sound ws ss
      unfolding check resources_fine
      sound_homes h =
          rw (← check_is_sound ws ss, ← ea, not-false a na, ← eb, not-false b nb)
          (no_more (resources_fine ws ss) (homes_fine ws) _ (sym h.fine))
        where
          no_more : (p q r : Bool) → (p && q) ≡ false → false ≡ (p && (q && r))
          no_more true q r e = rw e
          no_more false q r e = refl

      module _ {x : HomeCounts} (h : Homes ws ss (Some x)) {y : Bool} (ey : y ≡ sides_fine ws ss) where
        sides_sound : y ≡ sound ws ss
        unfolding check resources_fine sides_fine
        sides_sound =
            let t : (resources_fine ws ss && homes_fine ws) ≡ true = sym h.fine in
            rw (
              ← check_is_sound ws ss,
              ← ea,
              not-false a na,
              ← eb,
              not-false b nb,
              and_left (resources_fine ws ss) (homes_fine ws) t,
              and_right (resources_fine ws ss) (homes_fine ws) t,
            ) ey

        pub sound_sides : not y ≡ true → false ≡ sound ws ss
        sound_sides n = rw (not-true y n) at sides_sound

        pub all_sound : not y ≡ false → true ≡ sound ws ss
        all_sound n = rw (not-false y n) at sides_sound

-- what is found of resources that passed, and on the home chains, is what the rest stands on
pub checked : (ws ss : List ℕ) {a : Bool} {x : HomeCounts} → a ≡ sizes_right ws ss → not a ≡ false → Homes ws ss (Some x) → Checked ws ss x
unfolding resources_fine
checked ws ss {x = x} ea na h =
    record {
      sized = sized ws ss ea na;
      tidy = tidy ws ss ea na (and_left (resources_fine ws ss) (homes_fine ws) (sym h.fine));
      free = h.free;
      blocked = h.blocked;
      noticed = h.noticed;
    }

pub ruleset sounding = (slotted, sized, fine, sound_sizes, sound_header, sound_homes, sound_sides, all_sound, checked)

-- where a name was looked up
module _ (ws ss name : List ℕ) where
  pub surveyed : {r : Option ℕ} {n : ℕ} → true ≡ sound ws ss → r ≡ numbered (find_in ws ss name) → Surveyed ws ss name (Some (record { found = r; last = n }))
  surveyed e f = record { sound = e; found = f }

  pub unsurveyed : false ≡ sound ws ss → Surveyed ws ss name None
  unsurveyed e = record { sound = e; found = tt }

pub ruleset surveying = (slotted, sound_sizes, surveyed, unsurveyed)

-- the tests of a conjunction, one after the other, each with its own `return false`
pub and_stop : {p r : Bool} (q : Bool) → r ≡ p → not r ≡ true → false ≡ p && q
and_stop {r = r} q e f = rw (← e, not-true r f)

pub and_go : {p q r x : Bool} → r ≡ p → not r ≡ false → x ≡ q → x ≡ p && q
and_go {r = r} e f g = rw (← e, not-false r f) g

pub ruleset and_chain = (rules, and_stop, and_go)
