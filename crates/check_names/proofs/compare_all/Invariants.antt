-- What is left to compare from r on decides the whole.
use mathlib.Core.Path.{◌≡◌}
use Rattle.tables.specs.Lists.{all}
use Rattle.table_names.specs.Names.{apart_after, names_differ}
use Rattle.table_names.proofs.NumberRuns.{upto}
use Rattle.check_names.proofs.compare_all.Given as goal

abbrev pub invariant-loop-r : goal.invariant-loop-r
invariant-loop-r l = names_differ l.words l.slots ≡ all (apart_after l.words l.slots) (upto l.r l.n)
