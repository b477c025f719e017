-- What an entry says of its answer, it says of the packed one.
use mathlib.Core.Path.{◌≡◌, sym, ap, subst, ◌∙◌}
use Prim.Native.Nat.{ℕ}
use borrow.Author.Rules.{rules}
use Rattle.rules.specs.declared.Said.{Said}
use Rattle.rules.specs.Entries.{Lent, Outcome, outcome}
use Rattle.rules.specs.Numbers.{Small}
use Rattle.rules.proofs.SmallNumbers.{call_small, start_small, load_small}
use Rattle.answers.specs.Promises.{Says}
use Rattle.answers.proofs.SaidNumbers.{said_is, outcome_said}
use Rattle.c_answers.specs.PackedAnswers.{unpacked}

-- an entry that leaves words and slots
pub outcome_small : (o : Outcome) (n x : Said) (u : Lent) → outcome n u ≡ o → Says n x → Small o.said → Small x
outcome_small o n x u e says small = subst Small (sym (ap (λ (p : Outcome). p.said) (outcome_said o n x u small e says))) small

pub outcome_packed : (o : Outcome) (n x : Said) (u : Lent) (r : ℕ) → outcome n u ≡ o → Says n x → unpacked r ≡ x → Small o.said → outcome (unpacked r) u ≡ o
outcome_packed o n x u r e says packs small = rw packs (outcome_said o n x u small e says)

pub ruleset carrying = (rules, call_small, start_small, load_small, outcome_small, outcome_packed)

-- the answer alone
module _ (n x : Said) (small : Small n) (says : Says n x) where
  pub said_small : Small x
  said_small = subst Small (sym (said_is n x small says)) small

  pub said_packed : (r : ℕ) → unpacked r ≡ x → unpacked r ≡ n
  said_packed r packs = packs ∙ said_is n x small says
