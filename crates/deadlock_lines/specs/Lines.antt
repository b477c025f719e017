-- How the links of a line are written: one lock after the other, the next to be granted first.
use Rattle.std.specs.Prelude.{◌≡◌, ◌≢◌, Bool, false, cond, List, [], ◌∷◌, ℕ, ◌+◌, ◌*◌, ◌≤◌, ◌<◌, get_or, set, length, replicate, ltb}
use Rattle.tables.specs.Lists.{count, first}
use Rattle.tables.specs.State.{Tables, lock, last_mode}
use Rattle.tables.specs.Layout.{resources_in, onward}
use Rattle.tables.specs.Grants.{holders}
use Rattle.tables.specs.Validity.{Core, line}
use Rattle.rules.specs.Deadlock.{obstacles}
use Rattle.table_chains.specs.Promises.{Some}
use Rattle.table_chains.specs.Marks.{marked}
use Rattle.table_chains.specs.Walking.{At, Walking}
use Rattle.deadlock_graph.specs.Promises.{seen}
use Rattle.deadlock_graph.specs.Hops.{last_or, nearest, looks}
use Rattle.deadlock_graph.specs.Links.{link_width, link_of, Roomy, Lined, Made, Ended, SameLinks, NoLinks}

-- a place for each mode, where those that ask for it are counted; the count goes no further than 2
abbrev pub mode_places : ℕ
mode_places = last_mode + 1

unfoldable pub none_met : List ℕ
none_met = replicate mode_places 0

-- fewer than two that ask for the mode m were met
unfoldable pub few_met : List ℕ → ℕ → Bool
few_met met m = ltb (get_or met m 0) 2

unfoldable pub meet : ℕ → List ℕ → List ℕ
meet m met = cond (few_met met m) (set met m (get_or met m 0 + 1)) met

-- the lock k, which asks for m, gets the lock right ahead; and the holder h at which it begins to look, if it looks
unfoldable pub link_one : ℕ → ℕ → ℕ → List ℕ → ℕ → List ℕ → List ℕ
link_one h k ahead met m ls =
    cond (few_met met m) (set (set ls (link_width * k + 0) ahead) (link_width * k + 1) h) (set ls (link_width * k + 0) ahead)

-- each of a list is met
unfoldable pub meet_all : Tables → List ℕ → List ℕ → List ℕ
meet_all t [] met = met
meet_all t (k ∷ ks) met = meet_all t ks (meet (lock t k).asked met)

-- and gets its links: it begins to look at the first holder in its way
unfoldable pub link_all : Tables → ℕ → List ℕ → List ℕ → List ℕ → List ℕ
link_all t ahead met [] ls = ls
link_all t ahead met (k ∷ ks) ls = link_all t k (meet (lock t k).asked met) ks (link_one (first (obstacles t k)) k ahead met (lock t k).asked ls)

-- CONTRACTS. The lock k stands on a resource, and h is the first holder there; so does each lock of a home chain from k on
pub record Faces (ws : List ℕ) (h k : ℕ) : Type 0 where
  pub at : At ws k
  pub low : 1 ≤ (lock (seen ws) k).resource
  pub high : (lock (seen ws) k).resource ≤ resources_in ws
  pub is : h ≡ first (holders (seen ws) (lock (seen ws) k).resource)

pub record ChainFaces (ws : List ℕ) (h k : ℕ) : Type 0 where
  pub walks : Walking ws 0 k
  pub each : (j : ℕ) → 1 ≤ count j (onward ws 0 k) → Faces ws h j

-- the lock k was linked
pub record LockLinked (ws : List ℕ) (k ahead : ℕ) (met met' ls ls' : List ℕ) : Type 0 where
  pub counted : met' ≡ meet (lock (seen ws) k).asked met
  pub written : ls' ≡ link_one (first (obstacles (seen ws) k)) k ahead met (lock (seen ws) k).asked ls

-- the locks from `first` on were linked, behind `ahead`; the last of them is x
pub record ChainLinked (ws : List ℕ) (first ahead : ℕ) (met met' ls ls' : List ℕ) (x : ℕ) : Type 0 where
  pub last : x ≡ last_or ahead (onward ws 0 first)
  pub counted : met' ≡ meet_all (seen ws) (onward ws 0 first) met
  pub written : ls' ≡ link_all (seen ws) ahead met (onward ws 0 first) ls

-- the line of the resource r was linked; the last of it is x
pub record LineLinked (ws : List ℕ) (r : ℕ) (ls ls' : List ℕ) (x : ℕ) : Type 0 where
  pub last : x ≡ last_or 0 (line (seen ws) r)
  pub written : ls' ≡ link_all (seen ws) 0 none_met (line (seen ws) r) ls

-- SOME LINES were linked: those of the resources at which lasts has a lock, the last of the line. On the others no holder is written yet
pub record SomeLined (ws ls lasts : List ℕ) : Type 0 where
  pub roomy : Roomy ws ls
  pub wide : resources_in ws < length lasts
  pub ahead : (k : ℕ) → 1 ≤ count k (seen ws).blocked → get_or lasts (lock (seen ws) k).resource 0 ≢ 0 → link_of ls k 0 ≡ nearest (seen ws) k
  pub holder : (k : ℕ) → 1 ≤ count k (seen ws).blocked → get_or lasts (lock (seen ws) k).resource 0 ≢ 0 → link_of ls k 1 ≡ cond (looks (seen ws) k) (first (obstacles (seen ws) k)) 0
  pub left : (k : ℕ) → get_or lasts (lock (seen ws) k).resource 0 ≡ 0 → link_of ls k 1 ≡ 0
  pub last : (r : ℕ) → get_or lasts r 0 ≢ 0 → get_or lasts r 0 ≡ last_or 0 (line (seen ws) r)

-- the line of the blocked lock k is one of them now, unless k has a mark in c
pub record LineMade (ws : List ℕ) (c : List Bool) (k : ℕ) (ls ls' lasts lasts' : List ℕ) : Type 0 where
  pub lined : SomeLined ws ls' lasts'
  pub here : marked c k ≡ false → get_or lasts' (lock (seen ws) k).resource 0 ≢ 0
  pub kept : (r : ℕ) → get_or lasts r 0 ≢ 0 → get_or lasts' r 0 ≢ 0
  pub owners : SameLinks 2 ls ls'
  pub mates : SameLinks 3 ls ls'

-- ALL LINES that are needed. Before: there is a row for each lock, in which no holder is written yet, and an empty place for each resource
pub record Unlined (ws : List ℕ) (c : List Bool) (ls lasts : List ℕ) : Type 0 where
  pub some : Some Core ws
  pub roomy : Roomy ws ls
  pub none : NoLinks 1 ls
  pub wide : resources_in ws < length lasts
  pub empty : (r : ℕ) → get_or lasts r 0 ≡ 0

-- after: the lines of all blocked locks without a mark in c were linked
pub record LinesLinked (ws : List ℕ) (c : List Bool) (ls ls' lasts' : List ℕ) : Type 0 where
  pub roomy : Roomy ws ls'
  pub lined : Lined ws c ls'
  pub made : Made ws c lasts'
  pub ended : Ended ws lasts'
  pub owners : SameLinks 2 ls ls'
  pub mates : SameLinks 3 ls ls'
