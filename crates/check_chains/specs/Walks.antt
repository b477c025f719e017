-- How many records a chain has, and what is left of it in the middle of a walk.
use Rattle.std.specs.Prelude.{◌≡◌, Bool, true, ◌&&◌, List, ℕ, ◌+◌, ◌-◌, ◌≤◌, leb, Option, Some, None, IfSome}
use Rattle.tables.specs.State.{blocked_lock, noticed, state_free, state_waiting}
use Rattle.tables.specs.Layout.{of_header, of_resource, resources_in, locks_in, word_in, lock_link, read_lock}
use Rattle.table_names.specs.Names.{named}
use Rattle.check_laws.specs.Check.{steps, free_resource_on, stands}
pub use Rattle.check_chains.specs.declared.Chain.{Chain}
use Rattle.check_chains.specs.declared.Chain.TheVariants.{Free, Blocked, Notices, Waiting}

-- the record k is one of n, and passes
unfoldable pub guarded : ℕ → (ℕ → Bool) → ℕ → Bool
guarded n q k = leb k n && q k

-- the records that were met on a chain, where so many of the n are left to meet, and those that follow from k on, each of which passes
unfoldable pub steps_left : (ℕ → ℕ) → (ℕ → Bool) → ℕ → ℕ → ℕ → ℕ
steps_left link q n left k = n - left + steps link (guarded n q) left k

-- how many records are met on the chain of free resources
unfoldable pub free_met : List ℕ → ℕ
free_met ws = steps (λ r. word_in ws (of_resource r 0)) (free_resource_on ws) (resources_in ws) (word_in ws (of_header 2))

-- what a walk found, as a number: one more than the n records that there are if something is wrong
abbrev pub met_or_over : ℕ → Option ℕ → ℕ
met_or_over n None = n + 1
met_or_over n (Some x) = x

-- it found the number of records that a chain has by its definition, which is n + 1 if something is wrong with the chain
pub record Met (n whole : ℕ) (x : Option ℕ) : Type 0 where
  pub is : met_or_over n x ≡ whole
  pub few : IfSome x (λ m. m ≤ n)

-- LOCKS. The lock k belongs on the chain c (the chains are the code's enum)
unfoldable pub belongs_on : List ℕ → Chain → ℕ → Bool
belongs_on ws Free k = stands ws state_free 0 k
belongs_on ws Blocked k = blocked_lock (read_lock ws k)
belongs_on ws Notices k = noticed (read_lock ws k)
belongs_on ws (Waiting r) k = stands ws state_waiting r k

-- the resource of a wait chain is in use
pub record OnUsed (ws : List ℕ) (c : Chain) : Type 0 where
  pub le_r : (r : ℕ) → c ≡ Waiting r → (1 ≤ r) × (r ≤ resources_in ws)
  pub r_value : (r : ℕ) → c ≡ Waiting r → named ws r ≡ true

-- how many locks are met on it from k on, where the field f of each names the next
unfoldable pub locks_met : List ℕ → Chain → ℕ → ℕ → ℕ
locks_met ws c f k = steps (lock_link ws f) (guarded (locks_in ws) (belongs_on ws c)) (locks_in ws) k
