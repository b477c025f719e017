-- What an entry says is no case that no call may give: its numbers are small.
use mathlib.Core.Path.{◌≡◌, sym, ap, subst, ◌∙◌}
use native.Mathlib.Omega.{arith}
use Rattle.rules.specs.declared.Said.{Said}
use Rattle.rules.specs.Entries.{Lent, Outcome, outcome, Call, call_entry, Keeps}
use Rattle.rules.specs.Numbers.{Small}
use Rattle.rules.proofs.SmallNumbers.{numbers_small}
use Rattle.answers.specs.Answers.{never}
use Rattle.answers.specs.Promises.{Says}

pub said_is : (n x : Said) → Small n → Says n x → x ≡ n
said_is n x small says = says.is (λ e. let big : n.refusal ≡ never.refusal = ap (λ (s : Said). s.refusal) e in omega (arith, small.refusal, big))

pub outcome_said : (o : Outcome) (n x : Said) (u : Lent) → Small o.said → outcome n u ≡ o → Says n x → outcome x u ≡ o
outcome_said o n x u small e says =
    ap (λ (s : Said). outcome s u) (said_is n x (subst Small (sym (ap (λ (p : Outcome). p.said) e)) small) says) ∙ e

pub said_kept : (c : Call) (n x : Said) (t u : Lent) → Keeps c t n u → Says n x → Keeps c t x u
said_kept c n x t u e says = outcome_said (call_entry c t) n x u (numbers_small.of_call c t) e says
