-- From the front: a blocked lock is on no cycle if all that it hops to are on none. From the back: if all that hop to it are on none.
use Rattle.std.specs.Prelude.{◌≡◌, ◌≢◌, Bool, true, false, ◌&&◌, not, cond, List, [], ℕ, ◌+◌, ◌*◌, ◌≤◌, ◌<◌, get_or, length, eqb}
use Rattle.tables.specs.Lists.{count, bit}
use Rattle.tables.specs.State.{Tables}
use Rattle.tables.specs.Layout.{locks_in, resources_in}
use Rattle.rules.specs.Deadlock.{in_the_way, obstacles}
use Rattle.table_fields.specs.Sizes.{lock_places}
use Rattle.table_chains.specs.Marks.{marked}
use Rattle.deadlock_graph.specs.Promises.{seen, Blocked}
use Rattle.deadlock_graph.specs.Hops.{nearest, looks, hops}
use Rattle.deadlock_graph.specs.Links.{link_width, link_of, Roomy, Looker, Linked}
use Rattle.deadlock_graph.specs.Marks.{unmarked, Cleared}

-- k and its owner's number have their places
pub record Placed (ls : List ℕ) (k : ℕ) : Type 0 where
  pub few : k < lock_places
  pub row : link_width * k + 2 < length ls
  pub number : link_of ls k 2 < lock_places

-- the blocked lock k has its links, and all holders have numbers
pub record LinkedLock (ws ls : List ℕ) (k : ℕ) : Type 0 where
  pub roomy : Roomy ws ls
  pub small : (j : ℕ) → link_of ls j 2 ≤ locks_in ws
  pub blocked : Blocked ws k
  pub looker : Looker ws ls k

-- the holders in the way of k that it looks at
unfoldable pub looked : Tables → ℕ → List ℕ
looked t k = cond (looks t k) (obstacles t k) []

-- locks are cleared, and the links of the others are there
pub record Ready (ws ls : List ℕ) (m : List Bool) : Type 0 where
  pub linked : Linked ws ls m
  pub cleared : Cleared (hops (seen ws)) (seen ws).blocked m

-- a pass cleared some more, at least one if r
pub record Passed (ws ls : List ℕ) (m m' : List Bool) (r : Bool) : Type 0 where
  pub ready : Ready ws ls m'
  pub fewer : unmarked (seen ws).blocked m' + bit r ≤ unmarked (seen ws).blocked m

-- FROM THE FRONT. Whoever has a blocked lock that is not cleared is busy; one lock more
pub record Busy (ws ls : List ℕ) (m b : List Bool) : Type 0 where
  pub each : (j : ℕ) → 1 ≤ count j (seen ws).blocked → marked m j ≡ false → marked b (link_of ls j 2) ≡ true

pub record BusyNoted (ls : List ℕ) (m : List Bool) (k : ℕ) (b b' : List Bool) : Type 0 where
  pub here : marked m k ≡ false → marked b' (link_of ls k 2) ≡ true
  pub kept : (x : ℕ) → marked b x ≡ true → marked b' x ≡ true

-- j is in k's way, and its owner is busy
unfoldable pub hinders : Tables → List ℕ → List Bool → ℕ → ℕ → Bool
hinders t ls b k j = marked b (link_of ls j 2) && in_the_way t k j

-- unless r, none that k looks at has a busy owner
pub record Hindered (ws ls : List ℕ) (b : List Bool) (k : ℕ) (r : Bool) : Type 0 where
  pub free : r ≡ false → (j : ℕ) → 1 ≤ count j (looked (seen ws) k) → marked b (link_of ls j 2) ≡ false

-- a pass: the locks cleared so far, and who was busy when it began
pub record FrontPass (ws ls : List ℕ) (b m : List Bool) : Type 0 where
  pub ready : Ready ws ls m
  pub busy : Busy ws ls m b

pub record FrontStep (ws ls : List ℕ) (b m m' : List Bool) (r : Bool) : Type 0 where
  pub pass : FrontPass ws ls b m'
  pub fewer : unmarked (seen ws).blocked m' + bit r ≤ unmarked (seen ws).blocked m

-- FROM THE BACK. Whoever is in the way of a blocked lock that is not cleared is wanted; one lock more; one holder in its way more
pub record Wanted (ws ls : List ℕ) (m w : List Bool) : Type 0 where
  pub each : (k j : ℕ) → 1 ≤ count k (seen ws).blocked → marked m k ≡ false → 1 ≤ count j (looked (seen ws) k) → marked w (link_of ls j 2) ≡ true

pub record WantNoted (ws ls : List ℕ) (m : List Bool) (k : ℕ) (w w' : List Bool) : Type 0 where
  pub here : marked m k ≡ false → (j : ℕ) → 1 ≤ count j (looked (seen ws) k) → marked w' (link_of ls j 2) ≡ true
  pub kept : (x : ℕ) → marked w x ≡ true → marked w' x ≡ true

pub record OwnerNoted (ws ls : List ℕ) (k j : ℕ) (w w' : List Bool) : Type 0 where
  pub here : in_the_way (seen ws) k j ≡ true → marked w' (link_of ls j 2) ≡ true
  pub kept : (x : ℕ) → marked w x ≡ true → marked w' x ≡ true

-- a pass: the locks cleared so far, and who was wanted when it began
pub record BackPass (ws ls : List ℕ) (w m : List Bool) : Type 0 where
  pub ready : Ready ws ls m
  pub wanted : Wanted ws ls m w

-- a walk ahead on a line is at k, or at the front, where 0 stands: who is right behind k is cleared
pub record Behind (ws ls : List ℕ) (w m : List Bool) (k : ℕ) : Type 0 where
  pub pass : BackPass ws ls w m
  pub stands : k ≢ 0 → 1 ≤ count k (seen ws).blocked
  pub each : (x : ℕ) → 1 ≤ count x (seen ws).blocked → nearest (seen ws) x ≡ k → k ≢ 0 → marked m x ≡ true

-- it came from k to r, and cleared what it left
pub record Backed (ws ls : List ℕ) (w m m' : List Bool) (k r : ℕ) : Type 0 where
  pub behind : Behind ws ls w m' r
  pub kept : (x : ℕ) → marked m x ≡ true → marked m' x ≡ true
  pub fewer : unmarked (seen ws).blocked m' + bit (not (eqb r k)) ≤ unmarked (seen ws).blocked m

-- the same of whatever words it is that the links were made of
pub record BackLine (ls : List ℕ) (w m : List Bool) (k : ℕ) : Type 0 where
  pub words : List ℕ
  pub behind : Behind words ls w m k

pub record LineBacked (ls : List ℕ) (w m m' : List Bool) (k r : ℕ) : Type 0 where
  pub each : (ws : List ℕ) → Behind ws ls w m k → Backed ws ls w m m' k r

-- at r, where the walk on the line of the resource r stopped: its last lock at first
pub record Stopped (ws lasts : List ℕ) (m : List Bool) : Type 0 where
  pub wide : resources_in ws < length lasts
  pub stands : (r : ℕ) → 1 ≤ r → r ≤ resources_in ws → get_or lasts r 0 ≢ 0 → 1 ≤ count (get_or lasts r 0) (seen ws).blocked
  pub each : (r : ℕ) → 1 ≤ r → r ≤ resources_in ws → (x : ℕ) → 1 ≤ count x (seen ws).blocked → nearest (seen ws) x ≡ get_or lasts r 0 → get_or lasts r 0 ≢ 0 → marked m x ≡ true

pub record BackReady (ws ls lasts : List ℕ) (m : List Bool) : Type 0 where
  pub ready : Ready ws ls m
  pub stopped : Stopped ws lasts m

pub record BackPassed (ws ls lasts : List ℕ) (m m' : List Bool) (r : Bool) : Type 0 where
  pub ready : BackReady ws ls lasts m'
  pub fewer : unmarked (seen ws).blocked m' + bit r ≤ unmarked (seen ws).blocked m
