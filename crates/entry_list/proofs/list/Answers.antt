use mathlib.Core.Path.{refl}
use borrow.Author.Rules.{rules}
use Rattle.entry_list.proofs.ListReturns.{answer_refused, answer_queued, answer_resourced, answer_listed}
use Rattle.entry_list.proofs.list.Goals as goal

pub returns-in_err-list_refusal : goal.returns-in_err-list_refusal
returns-in_err-list_refusal c = search (rules, answer_refused, c.in_err-list_refusal.ensures)

pub resource_of-requires : goal.resource_of-requires
resource_of-requires c = answer_queued _ _ _ _ 0 c.in_ok-list_refusal.ensures refl

pub list_into-requires : goal.list_into-requires
list_into-requires c = answer_resourced _ _ _ _ 0 c.in_ok-list_refusal.ensures refl _ c.resource_of.ensures

pub returns : goal.returns
returns c = answer_listed _ _ _ _ 0 c.in_ok-list_refusal.ensures refl _ c.resource_of.ensures _ _ _ c.list_into.ensures
