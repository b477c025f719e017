-- Lines that lead nowhere: no owner of a blocked lock holds anything there that is in someone's way.
use Rattle.std.specs.Prelude.{◌≡◌, Bool, true, ◌&&◌, not, List, ℕ, ◌%◌, ◌≤◌, eqb}
use Rattle.tables.specs.Lists.{count}
use Rattle.tables.specs.State.{Tables, lock}
use Rattle.tables.specs.Layout.{onward}
use Rattle.tables.specs.Validity.{Core, line}
use Rattle.rules.specs.Deadlock.{owner}
use Rattle.rules.specs.Walks.{Walk}
use Rattle.table_chains.specs.Promises.{Some}
use Rattle.table_chains.specs.Marks.{marked}
use Rattle.table_chains.specs.Walking.{Walking}
use Rattle.deadlock_graph.specs.Promises.{seen}
use Rattle.deadlock_graph.specs.Hops.{hops}
use Rattle.deadlock_graph.specs.Marks.{Cleared}

-- a filter has a place for the low bits of an owner, and so may take an owner for another that is noted
abbrev pub filter_places : ℕ
filter_places = 256

unfoldable pub noted : Tables → List Bool → ℕ → Bool
noted t f j = marked f (owner (lock t j) % filter_places)

-- whoever has a blocked lock is noted
pub record OwnersNoted (ws : List ℕ) (f : List Bool) : Type 0 where
  pub each : (j : ℕ) → 1 ≤ count j (seen ws).blocked → noted (seen ws) f j ≡ true

-- a pass: the locks cleared so far, and the filter
pub record FreePass (ws : List ℕ) (f m : List Bool) : Type 0 where
  pub some : Some Core ws
  pub owners : OwnersNoted ws f
  pub cleared : Cleared (hops (seen ws)) (seen ws).blocked m

-- j holds more than NL, and its owner is noted
unfoldable pub counts : Tables → List Bool → ℕ → Bool
counts t f j = not (eqb (lock t j).held 0) && noted t f j

-- no lock of a home chain, from k on, is on a cycle
pub record FreeChain (ws : List ℕ) (m : List Bool) (k : ℕ) : Type 0 where
  pub walks : Walking ws 0 k
  pub cleared : Cleared (hops (seen ws)) (seen ws).blocked m
  pub each : (j : ℕ) → 1 ≤ count j (onward ws 0 k) → Walk (hops (seen ws)) (seen ws).blocked j j → ⊥

-- it is cleared
pub record ChainCleared (ws : List ℕ) (m m' : List Bool) (k : ℕ) : Type 0 where
  pub cleared : Cleared (hops (seen ws)) (seen ws).blocked m'
  pub kept : (x : ℕ) → marked m x ≡ true → marked m' x ≡ true
  pub all : (j : ℕ) → 1 ≤ count j (onward ws 0 k) → marked m' j ≡ true

-- the line of the resource r is passed, and cleared if b
pub record LineCleared (ws : List ℕ) (f m m' : List Bool) (r : ℕ) (b : Bool) : Type 0 where
  pub pass : FreePass ws f m'
  pub kept : (x : ℕ) → marked m x ≡ true → marked m' x ≡ true
  pub all : b ≡ true → (j : ℕ) → 1 ≤ count j (line (seen ws) r) → marked m' j ≡ true

-- all lines are, and all blocked locks are cleared if b
pub record LinesCleared (ws : List ℕ) (m : List Bool) (b : Bool) : Type 0 where
  pub cleared : Cleared (hops (seen ws)) (seen ws).blocked m
  pub all : b ≡ true → (k : ℕ) → 1 ≤ count k (seen ws).blocked → marked m k ≡ true
