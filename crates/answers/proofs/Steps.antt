-- What a function that makes a change answers and leaves, as the step of its call.
use mathlib.Core.Path.{◌≡◌, sym, ◌∙◌, ap, ap₂}
use mathlib.Core.List.{List}
use Prim.Native.Nat.{ℕ}
use Rattle.tables.specs.State.{Tables}
use Rattle.tables.specs.Layout.{words, slots}
use Rattle.rules.specs.declared.Said.{Said}
use Rattle.rules.specs.Calls.{accepted, Step, accepted_step}
use Rattle.rules.specs.Entries.{lent, outcome, written}

-- the words and slots b and sb are those of the state that the step leaves
pub step_left : (s : Step) (x : Said) (t : Tables) (b sb : List ℕ) → s ≡ record { said = x; tables = t } → b ≡ words t → sb ≡ slots t → outcome x (lent b sb) ≡ written s
step_left s x t b sb e h hs = ap₂ (λ (v z : List ℕ). outcome x (lent v z)) h hs ∙ ap (λ (z : Step). written z) (sym e)

pub stepped : (s : Step) (x n : ℕ) (t : Tables) (b sb : List ℕ) → s ≡ accepted_step x n t → b ≡ words t → sb ≡ slots t → outcome (accepted x n) (lent b sb) ≡ written s
stepped s x n t b sb e h hs = step_left s (accepted x n) t b sb e h hs
