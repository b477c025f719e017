-- The lists of owners: an owner is there by the first of its blocked locks.
use Rattle.std.specs.Prelude.{◌≡◌, ◌≢◌, Bool, List, [], ◌∷◌, ◌++◌, ℕ, ◌%◌, ◌≤◌, ◌<◌, get_or, length, eqb}
use Rattle.tables.specs.Lists.{count, first_that}
use Rattle.tables.specs.State.{lock}
use Rattle.tables.specs.Layout.{locks_in}
use Rattle.tables.specs.Validity.{Core}
use Rattle.rules.specs.Deadlock.{owner, before}
use Rattle.table_chains.specs.Promises.{Some}
use Rattle.table_chains.specs.Walking.{At}
use Rattle.deadlock_graph.specs.Promises.{seen, Blocked}
use Rattle.deadlock_graph.specs.Links.{place_of, On}

-- whether b has j's owner; the first of the locks bs that has, or 0
unfoldable pub same_owner : List ℕ → ℕ → ℕ → Bool
same_owner ws j b = eqb (owner (lock (seen ws) b)) (owner (lock (seen ws) j))

unfoldable pub first_of : List ℕ → ℕ → List ℕ → ℕ
first_of ws j bs = first_that (same_owner ws j) bs

-- THE NUMBER OF AN OWNER: the first of its blocked locks, or 0
unfoldable pub owner_number : List ℕ → ℕ → ℕ
owner_number ws j = first_of ws j (seen ws).blocked

-- the blocked locks before k on their chain; all of them, if k is 0
unfoldable pub passed : List ℕ → ℕ → List ℕ
passed ws k = before k (seen ws).blocked

-- how many lists there are, and which of them an owner is on
abbrev pub owner_lists : ℕ
owner_lists = 128

unfoldable pub list_of : List ℕ → ℕ → ℕ
list_of ws j = owner (lock (seen ws) j) % owner_lists

-- k is one of the locks bs, and the first there that its owner has
pub record FirstOf (ws bs : List ℕ) (k : ℕ) : Type 0 where
  pub stands : 1 ≤ count k bs
  pub first : first_of ws k bs ≡ k

-- the owners of the blocked locks bs are on the lists, each by its first lock, and places on the blocked chain fall along a list
pub record OwnerLists (ws bs heads others : List ℕ) : Type 0 where
  pub some : Some Core ws
  pub inside : (b : ℕ) → 1 ≤ count b bs → 1 ≤ count b (seen ws).blocked
  pub wide : length heads ≡ owner_lists
  pub room : locks_in ws < length others
  pub begins : (p : ℕ) → get_or heads p 0 ≢ 0 → FirstOf ws bs (get_or heads p 0)
  pub follows : (k : ℕ) → FirstOf ws bs k → get_or others k 0 ≢ 0 → FirstOf ws bs (get_or others k 0)
  pub falls : (k : ℕ) → FirstOf ws bs k → get_or others k 0 ≢ 0 → place_of ws (get_or others k 0) < place_of ws k
  pub each : (j : ℕ) → first_of ws j bs ≢ 0 → On (λ k. get_or others k 0) (get_or heads (list_of ws j) 0) (first_of ws j bs)

-- the owner of j is looked for on the lists, which have the owners of some locks
pub record LookedFor (ws heads others : List ℕ) (j : ℕ) : Type 0 where
  pub at : At ws j
  pub noted : List ℕ
  pub owners : OwnerLists ws noted heads others

-- r is the first lock of that owner among these, or 0
pub record Found (ws heads others : List ℕ) (j r : ℕ) : Type 0 where
  pub then : (bs : List ℕ) → OwnerLists ws bs heads others → r ≡ first_of ws j bs

-- the lists have the owners of the blocked locks before k
pub record Noting (ws : List ℕ) (k : ℕ) (heads others : List ℕ) : Type 0 where
  pub stands : Blocked ws k
  pub owners : OwnerLists ws (passed ws k) heads others

-- they have k's owner too, whose number is r
pub record Noted (ws : List ℕ) (k : ℕ) (heads others : List ℕ) (r : ℕ) : Type 0 where
  pub is : r ≡ owner_number ws k
  pub owners : OwnerLists ws (passed ws k ++ (k ∷ [])) heads others
