use mathlib.Core.Path.{◌≡◌}
use Rattle.deadlock_lines.proofs.LinkedLines.{Linking}
use Rattle.deadlock_lines.proofs.link_chain.Given as goal

abbrev pub invariant-loop-k : goal.invariant-loop-k
invariant-loop-k l =
    record { same : l.k-iterator.words.now ≡ l.words; at : Linking l.words l.holder l.first l.ahead l.initial.met l.met l.initial.links l.links l.k-iterator.next l.last }
