-- What is left to compare from s on decides the whole.
use mathlib.Core.Path.{◌≡◌}
use Rattle.tables.specs.Lists.{all}
use Rattle.table_names.specs.Names.{apart, apart_after}
use Rattle.table_names.proofs.NumberRuns.{upto}
use Rattle.check_names.proofs.compare_after.Given as goal

abbrev pub invariant-loop-s : goal.invariant-loop-s
invariant-loop-s l = apart_after l.words l.slots l.r ≡ all (apart l.words l.slots l.r) (upto l.s l.n)
