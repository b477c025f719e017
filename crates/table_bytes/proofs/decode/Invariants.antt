-- i words are read, and the others are as they were.
use mathlib.Core.Path.{◌≡◌}
use mathlib.Core.List.{◌++◌}
use lib.ListN.{drop}
use Rattle.table_bytes.specs.Bytes.{decoded}
use Rattle.table_bytes.proofs.decode.Given as goal

abbrev pub invariant-loop-i : goal.invariant-loop-i
invariant-loop-i l = l.words ≡ decoded l.bytes l.i ++ drop l.i l.initial.words
