-- `modes::fits_by_masks` meets its contract: one computed test over the 64 sets and the six masks. Assumes nothing.
use mathlib.Core.Path.{refl}
use mathlib.Core.List.{List, [], ◌∷◌}
use Prim.Native.Nat.{ℕ}
use lib.Bits.{bit_and}
use lib.Dec.{eqb}
use lib.ListN.{get_or}
use borrow.Author.Rules.{rules}
use Rattle.modes.specs.Modes.{matrix, compatible, all_modes}
use Rattle.modes.specs.Sets.{in_set, fits_set}
use Rattle.modes.proofs.Table.{agree2}
use Rattle.modes.proofs.fits_by_masks.Goals as goal

-- the code's masks
abbrev masks : List ℕ
masks = 0 ∷ 32 ∷ 56 ∷ 52 ∷ 60 ∷ 62 ∷ []

pub returns : goal.returns
unfolding fits_set in_set all_modes compatible matrix
returns c = agree2 (λ s a. eqb (bit_and s (get_or masks a 0)) 0) fits_set 64 6 refl c.args.set c.args.asked (search rules) (search rules)
