-- The links of each lock: a row of numbers at the lock's own number, which the search goes along.
use Rattle.std.specs.Prelude.{◌≡◌, ◌↔◌, ◌≢◌, Bool, false, cond, List, ℕ, ◌+◌, ◌*◌, ◌≤◌, ◌<◌, get_or, length}
use Rattle.tables.specs.Lists.{count, first}
use Rattle.tables.specs.State.{lock}
use Rattle.tables.specs.Layout.{locks_in, resources_in}
use Rattle.tables.specs.Grants.{holders}
use Rattle.tables.specs.Validity.{Core}
use Rattle.rules.specs.Deadlock.{obstacles, owner, before}
use Rattle.table_chains.specs.Promises.{Some}
use Rattle.table_chains.specs.Marks.{marked}
use Rattle.deadlock_graph.specs.Promises.{seen}
use Rattle.deadlock_graph.specs.Holders.{holders_since, Looking}
use Rattle.deadlock_graph.specs.Hops.{nearest, looks}

abbrev pub link_width : ℕ
link_width = 5

-- the link f of the lock k: 0 the lock right ahead; 1 the holder at which it begins to look; 2 its owner's number; 3 its owner's next blocked lock;
-- 4 the next holder that can be in someone's way
unfoldable pub link_of : List ℕ → ℕ → ℕ → ℕ
link_of ls k f = get_or ls (link_width * k + f) 0

-- a row for each lock
pub record Roomy (ws ls : List ℕ) : Type 0 where
  pub rows : link_width * (locks_in ws + 1) ≤ length ls

-- the links f are the same in ls and ls'
pub record SameLinks (f : ℕ) (ls ls' : List ℕ) : Type 0 where
  pub each : (k : ℕ) → link_of ls' k f ≡ link_of ls k f

-- no link f is written yet
pub record NoLinks (f : ℕ) (ls : List ℕ) : Type 0 where
  pub each : (k : ℕ) → link_of ls k f ≡ 0

-- THE LINES. The row of each blocked lock without a mark in c has the lock right ahead of it and, if it looks for itself, the first holder in its way
pub record Lined (ws : List ℕ) (c : List Bool) (ls : List ℕ) : Type 0 where
  pub ahead : (k : ℕ) → 1 ≤ count k (seen ws).blocked → marked c k ≡ false → link_of ls k 0 ≡ nearest (seen ws) k
  pub holder : (k : ℕ) → 1 ≤ count k (seen ws).blocked → marked c k ≡ false → link_of ls k 1 ≡ cond (looks (seen ws) k) (first (obstacles (seen ws) k)) 0

-- the line of each blocked lock without a mark in c was linked: lasts has its last lock
pub record Made (ws : List ℕ) (c : List Bool) (lasts : List ℕ) : Type 0 where
  pub each : (k : ℕ) → 1 ≤ count k (seen ws).blocked → marked c k ≡ false → get_or lasts (lock (seen ws) k).resource 0 ≢ 0

-- lasts has at each resource the last lock on its line, or 0: no blocked lock has that one right ahead
pub record Ended (ws lasts : List ℕ) : Type 0 where
  pub wide : resources_in ws < length lasts
  pub stands : (r : ℕ) → 1 ≤ r → r ≤ resources_in ws → get_or lasts r 0 ≢ 0 → 1 ≤ count (get_or lasts r 0) (seen ws).blocked
  pub last : (r : ℕ) → 1 ≤ r → r ≤ resources_in ws → (x : ℕ) → 1 ≤ count x (seen ws).blocked → nearest (seen ws) x ≡ get_or lasts r 0 → get_or lasts r 0 ≡ 0

-- OWNERS. The owner of j has its number in j's row: j is blocked, or holds a mode where some lock is blocked and its line was linked
pub data Known (ws lasts : List ℕ) (j : ℕ) : Type 0 where
  waits_itself : 1 ≤ count j (seen ws).blocked → Known ws lasts j
  holds_there : (a : ℕ) → 1 ≤ count a (seen ws).blocked → get_or lasts (lock (seen ws) a).resource 0 ≢ 0 → 1 ≤ count j (holders (seen ws) (lock (seen ws) a).resource) → Known ws lasts j

-- the numbers of j and b tell whether they have the same owner
abbrev pub TellsOwners : List ℕ → List ℕ → ℕ → ℕ → Type 0
TellsOwners ws ls j b = (link_of ls j 2 ≡ link_of ls b 2) ↔ (owner (lock (seen ws) j) ≡ owner (lock (seen ws) b))

-- the numbers are small, an owner of a blocked lock has one from 1 on, and no other owner has the same
pub record Numbered (ws lasts ls : List ℕ) : Type 0 where
  pub some : (b : ℕ) → 1 ≤ count b (seen ws).blocked → 1 ≤ link_of ls b 2
  pub small : (j : ℕ) → link_of ls j 2 ≤ locks_in ws
  pub same : (j b : ℕ) → Known ws lasts j → 1 ≤ count b (seen ws).blocked → TellsOwners ws ls j b

-- the place of k on the blocked chain
unfoldable pub place_of : List ℕ → ℕ → ℕ
place_of ws k = length (before k (seen ws).blocked)

-- each blocked lock has the next one of its owner's in its row, or 0; places on the blocked chain fall along such a list, so it ends
pub record Mated (ws ls : List ℕ) : Type 0 where
  pub stands : (k : ℕ) → 1 ≤ count k (seen ws).blocked → link_of ls k 3 ≢ 0 → 1 ≤ count (link_of ls k 3) (seen ws).blocked
  pub same : (k : ℕ) → 1 ≤ count k (seen ws).blocked → link_of ls k 3 ≢ 0 → link_of ls (link_of ls k 3) 2 ≡ link_of ls k 2
  pub falls : (k : ℕ) → 1 ≤ count k (seen ws).blocked → link_of ls k 3 ≢ 0 → place_of ws (link_of ls k 3) < place_of ws k

-- THE HOLDERS on r. x comes after k and holds more than NL, or is 0; what is between them holds NL, which is in nobody's way
pub record Leaps (ws : List ℕ) (r k x : ℕ) : Type 0 where
  pub stands : x ≢ 0 → 1 ≤ count x (holders (seen ws) r)
  pub strong : x ≢ 0 → (lock (seen ws) x).held ≢ 0
  pub less : length (holders_since ws r x) < length (holders_since ws r k)
  pub rest : (j : ℕ) → 1 ≤ count j (holders_since ws r k) → j ≢ k → (lock (seen ws) j).held ≢ 0 → 1 ≤ count j (holders_since ws r x)

-- each holder on r that holds more than NL has the next such in its row
pub record Chained (ws ls : List ℕ) (r : ℕ) : Type 0 where
  pub each : (k : ℕ) → 1 ≤ count k (holders (seen ws) r) → (lock (seen ws) k).held ≢ 0 → Leaps ws r k (link_of ls k 4)

-- a walk along this chain is at k, or at its end, which is 0
pub record Leaping (ws ls : List ℕ) (r k : ℕ) : Type 0 where
  pub looking : Looking ws r k
  pub strong : k ≢ 0 → (lock (seen ws) k).held ≢ 0
  pub chained : Chained ws ls r

-- ALL LINKS of the blocked lock k: on its line, and of the holders that it can look at
pub record Looker (ws ls : List ℕ) (k : ℕ) : Type 0 where
  pub stands : 1 ≤ count k (seen ws).blocked
  pub ahead : link_of ls k 0 ≡ nearest (seen ws) k
  pub holder : link_of ls k 1 ≡ cond (looks (seen ws) k) (first (obstacles (seen ws) k)) 0
  pub same : (j b : ℕ) → 1 ≤ count j (holders (seen ws) (lock (seen ws) k).resource) → 1 ≤ count b (seen ws).blocked → TellsOwners ws ls j b
  pub chained : Chained ws ls (lock (seen ws) k).resource

-- and of all that have no mark in m
pub record Linked (ws ls : List ℕ) (m : List Bool) : Type 0 where
  pub some : Some Core ws
  pub roomy : Roomy ws ls
  pub small : (j : ℕ) → link_of ls j 2 ≤ locks_in ws
  pub mated : Mated ws ls
  pub each : (k : ℕ) → 1 ≤ count k (seen ws).blocked → marked m k ≡ false → Looker ws ls k

-- THE LISTS. b is on the list from k on, where next says what follows; 0 is its end
pub data On (next : ℕ → ℕ) : ℕ → ℕ → Type 0 where
  here : (b : ℕ) → On next b b
  past : (k b : ℕ) → k ≢ 0 → On next (next k) b → On next k b

-- the next blocked lock of k's owner, or 0
abbrev pub mate : List ℕ → ℕ → ℕ
mate ls k = link_of ls k 3

-- hs has at an owner's number the first lock of its list, or 0; each blocked lock without a mark is on the list of its owner
pub record Listed (ws ls hs : List ℕ) (m : List Bool) : Type 0 where
  pub wide : locks_in ws < length hs
  pub stands : (o : ℕ) → get_or hs o 0 ≢ 0 → 1 ≤ count (get_or hs o 0) (seen ws).blocked
  pub same : (o : ℕ) → get_or hs o 0 ≢ 0 → link_of ls (get_or hs o 0) 2 ≡ o
  pub each : (b : ℕ) → 1 ≤ count b (seen ws).blocked → marked m b ≡ false → On (mate ls) (get_or hs (link_of ls b 2) 0) b
