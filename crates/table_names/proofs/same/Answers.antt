use borrow.Author.Rules.{rules}
use Rattle.table_names.proofs.FourBytes.{turn_next, turn_stop}
use Rattle.table_names.proofs.same.Goals as goal

pub returns-then-word_at : goal.returns-then-word_at
returns-then-word_at c = turn_stop _ _ _ c.loop-w.invariant (search rules) (search rules) c.word_at.ensures c.word_at-in-loop-w.ensures (search rules)

pub loop-w-preserved : goal.loop-w-preserved
loop-w-preserved c =
    turn_next _ _ _ c.loop-w.invariant (search rules) (search rules) c.word_at.ensures c.word_at-in-loop-w.ensures c.shared_slice_known-1.given c.shared_slice_known-2-1.given (search rules)
