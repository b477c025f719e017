use mathlib.Core.Path.{◌≡◌}
use Rattle.deadlock_search.proofs.FirstVictim.{Seeking}
use Rattle.deadlock_search.proofs.first_on_cycle.Given as goal

abbrev pub invariant-loop-k : goal.invariant-loop-k
invariant-loop-k l =
    record { same : l.k-iterator.words.now ≡ l.words; at : Seeking l.words l.links l.left l.firsts l.initial.heads l.heads l.k-iterator.next l.cleared }
