use Rattle.entry_list.proofs.FilledList.{Filling}
use Rattle.entry_list.proofs.list_into.Given as goal

abbrev pub invariant-loop-k : goal.invariant-loop-k
invariant-loop-k l = Filling l.r l.words l.initial.entries l.k-iterator l.count l.entries
