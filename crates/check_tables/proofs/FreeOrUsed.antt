-- A resource that passed is free, and has no queues, or it is in use.
use mathlib.Core.Path.{◌≡◌, refl, sym}
use mathlib.Core.Bool.{Bool, true, false, not, ◌&&◌}
use mathlib.Core.List.{List, []}
use Prim.Native.Nat.{ℕ}
use native.Mathlib.Omega.{arith}
use lib.Dec.{eqb}
use borrow.Author.Tests.{eqb-true, eq-eqb, ne_eqb, le-leb}
use Rattle.tables.specs.Lists.{keep}
use Rattle.tables.specs.Layout.{of_resource, locks_in, word_in, lock_link, onward}
use Rattle.tables.proofs.Cases.{and_left, and_right, parts}
use Rattle.tables.proofs.FollowedChains.{follow_zero}
use Rattle.table_names.specs.Names.{named, slot_fine}
use Rattle.check_laws.specs.declared.ResourceRow.{ResourceRow}
use Rattle.check_laws.specs.Check.{row_in, unheld, free_row, row_fine, resource_fine, home_on, home_steps, grant_walk, convert_walk, heads_wait, wait_part, convert_part, resource_walk, blocked_at, noticed_at}
use Rattle.check_laws.proofs.RecordTests.{unheld_fine}
use Rattle.check_laws.proofs.ChainSteps.{steps_zero, modes_zero, convert_zero}
use Rattle.std.proofs.Common.{Some}
use Rattle.table_chains.specs.declared.Hints.{Hints}
use Rattle.check_queues.specs.QueueWalks.{Counted}

-- by its words a resource has a name or not
module _ (ws : List ℕ) (r : ℕ) {x : ResourceRow} (e : x ≡ row_in ws r) where
  bytes : x.bytes ≡ word_in ws (of_resource r 4)
  unfolding row_in
  bytes = rw e

  pub in_use : (x.bytes ≡ 0 → ⊥) → named ws r ≡ true
  unfolding named
  in_use n = rw (← bytes, ne_eqb x.bytes 0 n)

  pub nameless : x.bytes ≡ 0 → named ws r ≡ false
  unfolding named
  nameless z = rw (← bytes, eq-eqb x.bytes 0 z)

module _ (ws ss : List ℕ) (r : ℕ) (fine : resource_fine ws ss r ≡ true) (free : named ws r ≡ false) where
  no_name : eqb (word_in ws (of_resource r 4)) 0 ≡ true
  unfolding named
  no_name = go (eqb (word_in ws (of_resource r 4)) 0) free
    where
      go : (b : Bool) → not b ≡ false → b ≡ true
      go true h = refl
      go false h = sym h

  row : (free_row (row_in ws r) && unheld ws r) ≡ true
  unfolding resource_fine row_fine row_in
  row = rw no_name at (and_left (row_fine ws r) (slot_fine ws ss r) fine)

  no_grant : word_in ws (of_resource r 1) ≡ 0
  unfolding free_row row_in
  no_grant = let z = row in eqb-true (word_in ws (of_resource r 1)) 0 (search parts depth 20)

  no_convert : word_in ws (of_resource r 2) ≡ 0
  unfolding free_row row_in
  no_convert = let z = row in eqb-true (word_in ws (of_resource r 2)) 0 (search parts depth 20)

  no_wait : word_in ws (of_resource r 3) ≡ 0
  unfolding free_row row_in
  no_wait = let z = row in eqb-true (word_in ws (of_resource r 3)) 0 (search parts depth 20)

  no_walk : resource_walk ws r ≡ 0
  unfolding resource_walk convert_part wait_part convert_walk heads_wait grant_walk home_steps
  no_walk =
      rw (
        no_grant,
        no_convert,
        no_wait,
        modes_zero ws 1 r _ 0 0 0 (locks_in ws),
        convert_zero ws r 0,
        unheld_fine ws r (and_right (free_row (row_in ws r)) (unheld ws r) row),
        steps_zero (lock_link ws 0) (home_on ws 3 r) (locks_in ws),
        le-leb 0 (locks_in ws) (omega arith),
      )

  no_queue : (f : ℕ) → word_in ws (of_resource r f) ≡ 0 → onward ws 0 (word_in ws (of_resource r f)) ≡ []
  unfolding onward
  no_queue f z = rw (z, follow_zero (lock_link ws 0) (locks_in ws))

  pub no_queues : {seen : Hints} → Counted ws r (Some (record { met = 0; blocked = 0; noticed = 0; hints = seen }))
  unfolding blocked_at noticed_at keep
  no_queues =
      record {
        met = sym no_walk;
        short = omega arith;
        blocked = rw (no_queue 2 no_convert, no_queue 3 no_wait);
        noticed = rw (no_queue 1 no_grant, no_queue 2 no_convert);
        few = (omega arith, omega arith);
      }
