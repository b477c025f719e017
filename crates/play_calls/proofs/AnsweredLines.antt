-- What is printed for an answer, and the line that is so played.
use mathlib.Core.Path.{◌≡◌, ap}
use mathlib.Core.List.{List}
use Prim.Native.Nat.{ℕ}
use borrow.Author.Rules.{rules}
use Rattle.rules.specs.declared.Said.{Said}
use Rattle.rules.specs.Entries.{lent, Outcome, Call, Keeps}
use Rattle.answers.specs.Promises.{Says}
use Rattle.answers.proofs.SaidNumbers.{said_kept}
use Rattle.play_print.specs.declared.LineAnswer.{LineAnswer}
use Rattle.play_calls.specs.Plays.{answered, plays, played_with}

-- a line: the entry's answer says x, of which o is printed
module _ (letter fields : ℕ) (a sa b sb : List ℕ) (call : Call) (n : Said) (entered : Keeps call (lent a sa) n (lent b sb))
    (x : Said) (says : Says n x) (o : LineAnswer) where
  kept : Keeps call (lent a sa) x (lent b sb)
  kept = said_kept call n x (lent a sa) (lent b sb) entered says

  pub plays_line : o ≡ answered letter fields x → played_with o b sb ≡ plays letter fields call (lent a sa)
  plays_line e = rw e (ap (λ (p : Outcome). record { answer = answered letter fields p.said; tables = p.lent_after }) kept)

pub ruleset line_rules = (rules, plays_line)
