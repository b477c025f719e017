use borrow.Author.Rules.{rules}
use Rattle.table_chains.proofs.ChainWalks.{walk_less, walk_on}
use Rattle.deadlock_graph.proofs.ChainIterator.next.Goals as goal

pub returns-clause-goes : goal.returns-clause-goes
returns-clause-goes g c =
    let onward = walk_on c.requires.walks c.if-k-eq0.false c.lock_word.ensures in
    let less = walk_less _ c.requires.walks c.if-k-eq0.false c.lock_word.ensures in
    search rules
