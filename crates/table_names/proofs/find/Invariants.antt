-- The first from r on is the first.
use mathlib.Core.Path.{◌≡◌}
use Rattle.tables.specs.Lists.{first_that}
use Rattle.table_names.specs.Names.{find_in}
use Rattle.table_names.proofs.NumberRuns.{upto}
use Rattle.table_names.proofs.SlotParts.{called}
use Rattle.table_names.proofs.find.Given as goal

abbrev pub invariant-loop-r : goal.invariant-loop-r
invariant-loop-r l = find_in l.words l.slots l.name ≡ first_that (called l.words l.slots l.name) (upto l.r l.n)
