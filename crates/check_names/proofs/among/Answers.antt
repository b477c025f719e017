use mathlib.Core.Path.{◌∙◌}
use mathlib.Core.Bool.{Bool, false, ◌||◌}
use Prim.Native.Nat.{ℕ}
use lib.Dec.{eqb}
use Rattle.std.proofs.Common.{rules, tests}
use Rattle.std.proofs.lemmas.Iterator.{YieldsList-from_slice}
use Rattle.std.proofs.lemmas.Iterator.Consumers.{fold_from_yields_List}
use Rattle.check_names.proofs.NameNumbers.{any_folded}
use Rattle.check_names.proofs.among.Goals as goal

pub returns : goal.returns
returns c =
    fold_from_yields_List _ (λ (m : Bool) (y : ℕ). m || eqb y c.args.x) false c.fold.result c.fold.ensures.ran (YieldsList-from_slice c.args.a.now cc) (λ a y b q k. search (rules, tests))
    ∙ any_folded c.args.x c.args.a.now
