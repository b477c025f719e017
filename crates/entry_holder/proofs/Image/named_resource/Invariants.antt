-- The first from r on is the first.
use mathlib.Core.Path.{◌≡◌}
use Rattle.tables.specs.Lists.{first_that}
use Rattle.rules.specs.Images.{image_words}
use Rattle.table_names.specs.Names.{find_in}
use Rattle.table_names.proofs.NumberRuns.{upto}
use Rattle.table_names.proofs.SlotParts.{called}
use Rattle.entry_holder.proofs.Image.named_resource.Given as goal

abbrev pub invariant-loop-r : goal.invariant-loop-r
invariant-loop-r l = find_in (image_words l.self.bytes.now) l.self.slots.now l.name ≡ first_that (called (image_words l.self.bytes.now) l.self.slots.now l.name) (upto l.r l.n)
