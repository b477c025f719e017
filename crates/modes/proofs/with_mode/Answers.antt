-- `modes::with_mode` meets its contract: one computed test over the 64 sets and the six modes. Assumes nothing.
use borrow.Author.Rules.{rules}
use Rattle.modes.proofs.Laws.{or_mode, with_mode_small}
use Rattle.modes.proofs.with_mode.Goals as goal

pub returns : goal.returns
returns c =
    let set = c.args.set in
    let mode = c.args.mode in
    let is = or_mode set mode (search rules) (search rules) in
    (is, rw is (with_mode_small set mode (search rules) (search rules)))
