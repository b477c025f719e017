-- `modes::fits` meets its contract: it reads the asked mode's entry in the row of the set. Assumes nothing.
use borrow.Author.Rules.{rules}
use Rattle.modes.proofs.fits.Goals as goal

pub returns : goal.returns
returns c = c.fits_row-row.ensures.entry _ (search rules)
