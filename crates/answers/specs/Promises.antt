-- What a function that makes a call's change says of the state whose words, and slots, it is lent; and what one says that gives an answer's numbers.
use Rattle.std.specs.Prelude.{◌≡◌, List, ℕ}
use Rattle.tables.specs.State.{Tables}
use Rattle.tables.specs.Layout.{words, slots}
use Rattle.rules.specs.declared.Said.{Said}
use Rattle.rules.specs.Calls.{Step}
use Rattle.rules.specs.Entries.{lent, outcome, written}
use Rattle.answers.specs.Answers.{never}

-- the words and slots of a state of which P holds became those of its step s, and x is the step's answer
pub record Makes (P : Tables → Type 0) (s : Tables → Step) (a sa b sb : List ℕ) (x : Said) : Type 0 where
  pub then : (t : Tables) → P t → a ≡ words t → sa ≡ slots t → outcome x (lent b sb) ≡ written (s t)

-- the same of a step that leaves the slots alone
pub record MakesWords (P : Tables → Type 0) (s : Tables → Step) (a b : List ℕ) (x : Said) : Type 0 where
  pub then : (t : Tables) → P t → a ≡ words t → outcome x (lent b (slots t)) ≡ written (s t)

-- s is what an answer says whose numbers are n, unless no call may give that answer
pub record Says (n s : Said) : Type 0 where
  pub is : (n ≡ never → ⊥) → s ≡ n
