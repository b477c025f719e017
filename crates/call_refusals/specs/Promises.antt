-- What the functions of this crate stand on, and what they say.
use Rattle.std.specs.Prelude.{◌≡◌, ◌<◌, true, List, ℕ, length, Option, IfSome, Result, MatchResult}
use Rattle.tables.specs.Lists.{within}
use Rattle.tables.specs.State.{Tables}
use Rattle.tables.specs.Numbered.{numbered}
use Rattle.tables.specs.Validity.{Core}
use Rattle.rules.specs.Queues.{find}
use Rattle.modes.specs.declared.Mode.{Mode}
use Rattle.modes.specs.Made.{mode_number}
use Rattle.answers.specs.declared.Refusal.{Refusal}
use Rattle.answers.specs.Refusals.{refusal_number}

-- a resource that is there, or none
pub record ResourceIfAny (found : Option ℕ) (t : Tables) : Type 0 where
  pub core : Core t
  pub in_range : IfSome found (λ r. within (length t.resources) r ≡ true)

-- the resource that has the name n, if one has it
pub record Finds (n : List ℕ) (found : Option ℕ) (t : Tables) : Type 0 where
  pub core : Core t
  pub is_found : found ≡ numbered (find n t)

-- "The mode is above 5" is refusal 4, and else it is the mode of that number
abbrev pub Asked : ℕ → Result Mode Refusal → Type 0
Asked mode r = MatchResult r (λ m. (mode_number m ≡ mode) × (mode < 6)) (λ e. (refusal_number e ≡ 4) × (5 < mode))
