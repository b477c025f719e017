use Rattle.deadlock_prune.proofs.FreeLines.{free_line_laws, waiting_free, line_cleared}
use Rattle.deadlock_prune.proofs.clear_line.Goals as goal

pub first_converting-converting-requires : goal.first_converting-converting-requires
first_converting-converting-requires c = search free_line_laws

pub first_waiting-waiting-requires : goal.first_waiting-waiting-requires
first_waiting-waiting-requires c = search free_line_laws

pub returns-then-converting-waiting : goal.returns-then-converting-waiting
returns-then-converting-waiting c = search free_line_laws

pub is_noted-requires : goal.is_noted-requires
is_noted-requires c = search free_line_laws

pub returns-then-is_noted : goal.returns-then-is_noted
returns-then-is_noted c = search free_line_laws

pub clear_chain-requires : goal.clear_chain-requires
clear_chain-requires c = search free_line_laws

pub clear_chain-requires-2 : goal.clear_chain-requires-2
clear_chain-requires-2 c =
    let p = c.requires in
    waiting_free p.free_pass p.le_r c.is_noted.ensures c.if-is_noted.false c.clear_chain.ensures c.first_waiting-waiting.ensures

pub returns : goal.returns
returns c =
    let p = c.requires in
    line_cleared p.free_pass p.le_r c.first_converting-converting.ensures c.first_waiting-waiting.ensures c.clear_chain.ensures c.clear_chain-2.ensures
