-- What the walks along a resource's queues find, and what is left in the middle of one.
use Rattle.std.specs.Prelude.{◌≡◌, Bool, true, ◌||◌, List, ℕ, ◌+◌, ◌*◌, ◌-◌, ◌^◌, ◌≤◌, ◌<◌, eqb, Option, Some, None, IfSome}
use Rattle.tables.specs.State.{state_converting, state_waiting}
use Rattle.tables.specs.Layout.{of_resource, locks_in, word_in}
use Rattle.check_laws.specs.declared.HolderCount.{HolderCount}
use Rattle.check_laws.specs.Check.{home_on, too_many, mode_steps, grant_walk, convert_walk, counts_fine, resource_walk, blocked_at, noticed_at}
pub use Rattle.check_queues.specs.declared.Census.{Census}
pub use Rattle.check_queues.specs.declared.Grants.{Grants}

-- what is met, and what is left from k on with the set so far, and with those before k: how many belong on the notice chain, and their modes added up
unfoldable pub modes_left : List ℕ → ℕ → ℕ → (ℕ → ℕ → Bool) → ℕ → ℕ → ℕ → ℕ → ℕ → ℕ → HolderCount
modes_left ws s r fit n met k set before added =
    let rest = mode_steps ws s r fit (n - met) k set before added in
    record { met = met + rest.met; modes = rest.modes; noticed = rest.noticed; digits = rest.digits }

-- what a walk along at most n holders found, by the definition's record: one lock more than the n if something is wrong
abbrev pub found_or_over : ℕ → Option HolderCount → HolderCount
found_or_over n None = too_many n
found_or_over n (Some x) = x

-- the numbers of a walk along at most n holders are small
pub record Small (n : ℕ) (x : HolderCount) : Type 0 where
  pub short : x.met ≤ n
  pub small : x.modes < 64
  pub few : x.noticed ≤ n + 1
  pub light : x.digits ≤ (n + 1) * 2 ^ 48

-- such a walk gives what the definition says
pub record Walked (n : ℕ) (whole : HolderCount) (x : Option HolderCount) : Type 0 where
  pub is : found_or_over n x ≡ whole
  pub fits : IfSome x (Small n)

-- the same of a walk along a grant chain, which found two locks too
abbrev pub holders_in : Option Grants → Option HolderCount
holders_in None = None
holders_in (Some g) = Some g.found

-- what the walks along the holders of a resource found, where nothing is wrong with them and the counts: g of the granted ones, c of the converting ones
pub record HoldersWalked (ws : List ℕ) (r : ℕ) (g c : HolderCount) : Type 0 where
  pub granted : Walked (locks_in ws) (grant_walk ws r) (Some g)
  pub converting : Walked (locks_in ws) (convert_walk ws r g.modes) (Some c)
  pub counts : counts_fine ws r (g.met + c.met) (g.digits + c.digits) ≡ true

-- the first lock of a resource's convert chain, and of its wait chain, belongs there, if there is one
unfoldable pub head_on : List ℕ → ℕ → ℕ → ℕ → Bool
head_on ws s r k = eqb k 0 || home_on ws s r k

pub record Heads (ws : List ℕ) (r : ℕ) : Type 0 where
  pub convert : head_on ws state_converting r (word_in ws (of_resource r 2)) ≡ true
  pub wait : head_on ws state_waiting r (word_in ws (of_resource r 3)) ≡ true

-- how many locks were found on a resource's queues: one more than there are if something is wrong with them
abbrev pub census_or_over : ℕ → Option Census → ℕ
census_or_over n None = n + 1
census_or_over n (Some x) = x.met

-- what is found of a resource, or nothing if something is wrong: how many locks are on its queues, how many of them are blocked, and how many belong on
-- the notice chain, all small numbers
pub record Counted (ws : List ℕ) (r : ℕ) (x : Option Census) : Type 0 where
  pub met : census_or_over (locks_in ws) x ≡ resource_walk ws r
  pub short : IfSome x (λ c. c.met ≤ 3 * locks_in ws)
  pub blocked : IfSome x (λ c. c.blocked ≡ blocked_at ws r)
  pub noticed : IfSome x (λ c. c.noticed ≡ noticed_at ws r)
  pub few : IfSome x (λ c. (c.blocked ≤ 3 * locks_in ws + 1) × (c.noticed ≤ 3 * locks_in ws + 1))
