-- Where each walk starts: the whole is what is left of the chain from its head. What a walk along a chain of locks finds.
use mathlib.Core.Path.{◌≡◌, sym, ◌∙◌}
use mathlib.Core.Bool.{Bool, true, not}
use mathlib.Core.List.{List}
use Prim.Native.Nat.{ℕ, ◌≤◌, ◌+◌}
use native.Mathlib.Omega.{arith}
use lib.Dec.{eqb}
use lib.ListN.{length}
use borrow.Author.Tests.{ne_eqb}
use Rattle.std.proofs.Common.{Option, Some, None}
use Rattle.std.specs.Option.{option_eq}
use Rattle.tables.specs.Lists.{keep, from}
use Rattle.tables.specs.State.{blocked_lock, noticed, state_free, state_waiting}
use Rattle.tables.specs.Layout.{of_header, of_resource, resources_in, locks_in, word_in, lock_link, read_lock}
use Rattle.tables.proofs.Pigeonhole.{length_from}
use Rattle.table_names.specs.Names.{named}
use Rattle.check_laws.specs.Check.{free_resource_on, free_resources_fine, blocked_on, blocked_fine, notice_on, notices_fine, stands, home_on, home_steps}
use Rattle.check_laws.proofs.Sides.{keep_short}
use Rattle.check_resources.specs.Passes.{free_count, blocked_count, noticed_count}
use Rattle.check_chains.specs.declared.Chain.TheVariants.{Free, Blocked, Notices, Waiting}
use Rattle.check_chains.specs.Walks.{guarded, steps_left, Met, free_met, Chain, belongs_on, OnUsed, locks_met}
use Rattle.check_chains.proofs.ChainWalk.{walk_start}

pub free_start : (ws : List ℕ) → free_met ws ≡ steps_left (λ r. word_in ws (of_resource r 0)) (λ r. not (named ws r)) (resources_in ws) (resources_in ws) (word_in ws (of_header 2))
unfolding free_met free_resource_on guarded
free_start ws = walk_start (λ r. word_in ws (of_resource r 0)) (λ r. not (named ws r)) (resources_in ws) (word_in ws (of_header 2))

pub home_start : (ws : List ℕ) (s r head : ℕ) {k : ℕ} → k ≡ head → home_steps ws s r head ≡ steps_left (lock_link ws 0) (stands ws s r) (locks_in ws) (locks_in ws) k
unfolding home_steps home_on guarded
home_start ws s r head e = rw e (walk_start (lock_link ws 0) (stands ws s r) (locks_in ws) head)

pub locks_start : (ws : List ℕ) (c : Chain) (f k : ℕ) → locks_met ws c f k ≡ steps_left (lock_link ws f) (belongs_on ws c) (locks_in ws) (locks_in ws) k
unfolding locks_met
locks_start ws c f k = walk_start (lock_link ws f) (belongs_on ws c) (locks_in ws) k

pub ruleset starts = (free_start, home_start, locks_start)

-- as many were met as are counted, which are records
kept_few : (p : ℕ → Bool) (n : ℕ) → length (keep p (from 1 n)) ≤ n
kept_few p n = omega (arith, keep_short p (from 1 n), length_from 1 n)

same_met : {n whole c : ℕ} (x : Option ℕ) → Met n whole x → c ≤ n → option_eq eqb x (Some c) ≡ eqb whole c
same_met {n} {whole} {c} None m h = rw (← m.is) (sym (ne_eqb (n + 1) c (λ e. omega arith)))
same_met (Some y) m h = rw (← m.is)

module _ (ws : List ℕ) {c : ℕ} {x : Option ℕ} where
  pub free_count_is : c ≡ free_count ws → Met (resources_in ws) (free_met ws) x → {r : Bool} → r ≡ option_eq eqb x (Some c) → r ≡ free_resources_fine ws
  unfolding free_met free_resources_fine free_count
  free_count_is h m e = e ∙ same_met x m (rw h (kept_few (λ r. not (named ws r)) (resources_in ws))) ∙ rw h

-- the chains
module _ (ws : List ℕ) where
  pub free_walked : OnUsed ws Free
  free_walked = record { le_r = λ r e. cc; r_value = λ r e. cc }

  pub blocked_walked : OnUsed ws Blocked
  blocked_walked = record { le_r = λ r e. cc; r_value = λ r e. cc }

  pub notices_walked : OnUsed ws Notices
  notices_walked = record { le_r = λ r e. cc; r_value = λ r e. cc }

  pub wait_walked : (r : ℕ) → (1 ≤ r) × (r ≤ resources_in ws) → named ws r ≡ true → OnUsed ws (Waiting r)
  wait_walked r i h = record { le_r = λ s e. let q : r ≡ s = cc in rw (← q) i; r_value = λ s e. let q : r ≡ s = cc in rw (← q) h }

module _ (ws : List ℕ) {x : Option ℕ} where
  pub free_are : Met (locks_in ws) (locks_met ws Free 0 (word_in ws (of_header 3))) x → Met (locks_in ws) (home_steps ws state_free 0 (word_in ws (of_header 3))) x
  unfolding locks_met home_steps home_on guarded belongs_on
  free_are e = e

  pub waiting_are : {k : ℕ} (r : ℕ) → k ≡ word_in ws (of_resource r 3) → Met (locks_in ws) (locks_met ws (Waiting r) 0 k) x → Met (locks_in ws) (home_steps ws state_waiting r (word_in ws (of_resource r 3))) x
  unfolding locks_met home_steps home_on guarded belongs_on
  waiting_are r h e = rw (← h) e

  pub blocked_are : {c : ℕ} {r : Bool} → c ≡ blocked_count ws → Met (locks_in ws) (locks_met ws Blocked 1 (word_in ws (of_header 5))) x → r ≡ option_eq eqb x (Some c) → r ≡ blocked_fine ws
  unfolding locks_met blocked_fine blocked_on blocked_count guarded belongs_on
  blocked_are h m e = e ∙ same_met x m (rw h (kept_few (λ k. blocked_lock (read_lock ws k)) (locks_in ws))) ∙ rw h

  pub notices_are : {c : ℕ} {r : Bool} → c ≡ noticed_count ws → Met (locks_in ws) (locks_met ws Notices 2 (word_in ws (of_header 6))) x → r ≡ option_eq eqb x (Some c) → r ≡ notices_fine ws
  unfolding locks_met notices_fine notice_on noticed_count guarded belongs_on
  notices_are h m e = e ∙ same_met x m (rw h (kept_few (λ k. noticed (read_lock ws k)) (locks_in ws))) ∙ rw h

pub ruleset chains = (free_walked, blocked_walked, notices_walked, wait_walked, free_count_is, free_are, waiting_are, blocked_are, notices_are)
