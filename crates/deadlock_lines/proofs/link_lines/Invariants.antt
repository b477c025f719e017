use mathlib.Core.Path.{◌≡◌}
use Rattle.deadlock_lines.proofs.AllLines.{LinedBefore}
use Rattle.deadlock_lines.proofs.link_lines.Given as goal

abbrev pub invariant-loop-k : goal.invariant-loop-k
invariant-loop-k l = record { same : l.k-iterator.words.now ≡ l.words; at : LinedBefore l.words l.cleared l.initial.links l.initial.lasts l.links l.lasts l.k-iterator.next }
