-- `modes::fits_row` meets its contract: every mode is compatible with those of the empty set, and the 384 entries of the
-- code's table are the rule's, by computing. Assumes nothing.
use mathlib.Core.Path.{refl}
use borrow.Author.Rules.{rules}
use Rattle.modes.specs.Modes.{matrix, compatible, all_modes}
use Rattle.modes.specs.Sets.{in_set, fits_set}
use Rattle.modes.proofs.Laws.{row_of, row_in}
use Rattle.modes.proofs.fits_row.Goals as goal

pub returns-then-set-eq0 : goal.returns-then-set-eq0
unfolding fits_set in_set all_modes compatible matrix
returns-then-set-eq0 c = rw c.if-set-eq0.true (row_of _ 0 refl)

-- the `_` is the code's own table
pub returns : goal.returns
unfolding fits_set in_set all_modes compatible matrix
returns c = row_in _ refl c.args.set (search rules)
