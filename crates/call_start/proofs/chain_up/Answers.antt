use native.Mathlib.Omega.{arith}
use Rattle.call_start.proofs.UpwardLinks.{link_starts, link_next}
use Rattle.call_start.proofs.chain_up.Goals as goal

pub loop-next-init : goal.loop-next-init
loop-next-init c = search link_starts

pub loop-next-preserved : goal.loop-next-preserved
loop-next-preserved c = link_next _ _ _ _ c.requires _ _ _ c.loop-next.invariant (omega arith) (omega arith)
