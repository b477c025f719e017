use Rattle.table_chains.proofs.ChainWalks.{seeking_on}
use Rattle.call_notice.proofs.NoticeWalk.{looks_found, looks_end, look_laws}
use Rattle.call_notice.proofs.first_notice.Goals as goal

pub header_word-k-requires : goal.header_word-k-requires
header_word-k-requires c = search look_laws

pub loop-k-init : goal.loop-k-init
loop-k-init c = search look_laws

pub lock_word-requires : goal.lock_word-requires
lock_word-requires c = search look_laws

pub returns-then-lock_word-client : goal.returns-then-lock_word-client
returns-then-lock_word-client c =
    looks_found _ _ _ c.header_word-k.ensures _ c.loop-k.invariant c.loop-k-test.true _ c.lock_word.ensures c.if-lock_word-client.true

pub lock_word-k-requires : goal.lock_word-k-requires
lock_word-k-requires c = search look_laws

pub loop-k-smaller : goal.loop-k-smaller
loop-k-smaller c = search look_laws

pub loop-k-preserved : goal.loop-k-preserved
loop-k-preserved c =
    seeking_on _ _ _ _ _ _ c.loop-k.invariant c.loop-k-test.true _
    c.lock_word.ensures c.if-lock_word-client.false _ c.lock_word-k.ensures

pub returns : goal.returns
returns c = looks_end _ _ _ c.header_word-k.ensures _ c.loop-k.invariant c.loop-k-test.false
