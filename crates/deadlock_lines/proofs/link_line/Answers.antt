use Rattle.deadlock_lines.specs.Lines.{none_met}
use Rattle.deadlock_lines.proofs.LinkedLines.{waits_face, chain_roomy, line_done, line_laws}
use Rattle.deadlock_lines.proofs.link_line.Goals as goal

pub link_chain-last-requires : goal.link_chain-last-requires
link_chain-last-requires c = search line_laws

pub link_chain-requires-clause-chain_faces : goal.link_chain-requires-clause-chain_faces
link_chain-requires-clause-chain_faces c = search waits_face

pub link_chain-requires-clause-roomy : goal.link_chain-requires-clause-roomy
link_chain-requires-clause-roomy c = search chain_roomy

pub returns : goal.returns
unfolding none_met
returns c =
    let p = c.requires in
    line_done p.some p.le_r c.first_converting-converting.ensures c.first_waiting-waiting.ensures c.link_chain-last.ensures c.link_chain.ensures
