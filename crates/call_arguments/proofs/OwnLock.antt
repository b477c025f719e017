-- Whose lock a number is, from the words of a state.
use mathlib.Core.Path.{◌≡◌, refl, ◌∙◌}
use mathlib.Core.Bool.{false, ◌&&◌, not}
use mathlib.Core.List.{List}
use Prim.Native.Nat.{ℕ, zero, suc, ◌≤◌, ◌<◌}
use native.Mathlib.Omega.{arith}
use lib.ListN.{get_or, length}
use lib.Dec.{eqb}
use borrow.Author.Tests.{le-ltb}
use borrow.Author.Rules.{rules}
use Rattle.tables.specs.declared.Lock.{Lock}
use Rattle.tables.specs.Lists.{within}
use Rattle.tables.specs.State.{lock}
use Rattle.tables.specs.Layout.{locks_in, read_lock}
use Rattle.tables.proofs.Counts.{le_within}
use Rattle.tables.specs.Validity.{Core}
use Rattle.rules.specs.Calls.{own}
use Rattle.table_fields.proofs.StateWords.{locks_is, lock_record}
use Rattle.table_chains.proofs.ChainWalks.{some_sized}
use Rattle.table_chains.specs.Promises.{Some, Tells}
use Rattle.table_chains.proofs.ChainWalks.{some_sized}

outside : (n k : ℕ) → n < k → within n k ≡ false
outside n zero h = refl
outside n (suc k) h = le-ltb k n (omega arith)

module _ (ws : List ℕ) where
  pub second_word : Some Core ws → 1 < length ws
  second_word s = omega (arith, (some_sized s).long)

  module _ (c k : ℕ) where
    pub own_range : (k ≡ 0 → ⊥) → k ≤ get_or ws 1 0 → (1 ≤ k) × (k ≤ locks_in ws)
    own_range n h = (omega arith, h)

    pub own_none : k ≡ 0 → Tells Core (own c k) ws false
    unfolding own
    own_none e = record { then = λ t core is. rw e }

    pub own_high : get_or ws 1 0 < k → Tells Core (own c k) ws false
    unfolding own
    own_high h = record { then = λ t core is. rw (outside (length t.locks) k (omega (arith, locks_is t ws is))) }

    pub own_is : (l : Lock) → (k ≡ 0 → ⊥) → k ≤ get_or ws 1 0 → l ≡ read_lock ws k → Tells Core (own c k) ws (not (eqb l.state 0) && eqb l.client c)
    unfolding own
    own_is l n h e =
        record {
          then = λ t core is.
              let high : k ≤ length t.locks = omega (arith, locks_is t ws is) in
              let low : 1 ≤ k = omega arith in
              let same : l ≡ lock t k = e ∙ lock_record t ws is k low high in
              rw (le_within (length t.locks) k low high, same);
        }

pub ruleset owning = (rules, some_sized, second_word, own_range, own_none, own_high, own_is)
