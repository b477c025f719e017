use mathlib.Core.Path.{◌∙◌}
use mathlib.Core.Bool.{Bool, true, ◌&&◌}
use Prim.Native.Nat.{ℕ}
use lib.Dec.{eqb}
use Rattle.std.proofs.Common.{rules, tests}
use Rattle.std.proofs.lemmas.Iterator.{YieldsList-from_slice}
use Rattle.std.proofs.lemmas.Iterator.Consumers.{fold_from_yields_List}
use Rattle.table_names.proofs.Spans.{zeros_folded}
use Rattle.table_names.proofs.all_zero.Goals as goal

pub returns : goal.returns
returns c =
    fold_from_yields_List _ (λ (z : Bool) (x : ℕ). z && eqb x 0) true c.fold.result c.fold.ensures.ran (YieldsList-from_slice c.args.a.now cc) (λ a x b q k. search (rules, tests))
    ∙ zeros_folded c.args.a.now
