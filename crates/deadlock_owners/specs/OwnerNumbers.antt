-- The numbers of owners, written down in the links.
use Rattle.std.specs.Prelude.{◌≡◌, ◌≢◌, Bool, List, ℕ, ◌+◌, ◌*◌, ◌≤◌, ◌<◌, get_or, set, length}
use Rattle.tables.specs.Lists.{count}
use Rattle.tables.specs.State.{lock}
use Rattle.tables.specs.Layout.{resources_in, locks_in}
use Rattle.tables.specs.Grants.{holders}
use Rattle.tables.specs.Validity.{Core}
use Rattle.table_chains.specs.Promises.{Some}
use Rattle.deadlock_graph.specs.Promises.{seen, Blocked}
use Rattle.deadlock_graph.specs.Links.{link_width, link_of, Roomy, SameLinks, NoLinks, Numbered, Mated, mate, On, Listed, place_of, Chained}
use Rattle.deadlock_owners.specs.OwnerLists.{owner_number, passed, OwnerLists}

-- the link of j has its owner's number
pub record Right (ws ls : List ℕ) (j : ℕ) : Type 0 where
  pub is : link_of ls j 2 ≡ owner_number ws j

-- x is one of the locks bs, of b's owner, and stands before b on the blocked chain
pub record Mate (ws bs : List ℕ) (b x : ℕ) : Type 0 where
  pub stands : 1 ≤ count x bs
  pub same : owner_number ws x ≡ owner_number ws b
  pub falls : place_of ws x < place_of ws b

-- the blocked locks bs have their owners' numbers, and are on their owners' lists of blocked locks, which begin at hs
pub record Linking (ws bs ls hs : List ℕ) : Type 0 where
  pub rows : Roomy ws ls
  pub wide : locks_in ws < length hs
  pub small : (j : ℕ) → link_of ls j 2 ≤ locks_in ws
  pub right : (b : ℕ) → 1 ≤ count b bs → Right ws ls b
  pub mates : (b : ℕ) → 1 ≤ count b bs → link_of ls b 3 ≢ 0 → Mate ws bs b (link_of ls b 3)
  pub begins : (o : ℕ) → get_or hs o 0 ≢ 0 → 1 ≤ count (get_or hs o 0) bs
  pub same : (o : ℕ) → get_or hs o 0 ≢ 0 → owner_number ws (get_or hs o 0) ≡ o
  pub each : (b : ℕ) → 1 ≤ count b bs → On (mate ls) (get_or hs (owner_number ws b) 0) b

-- there is a row for the lock k, and a place for its owner's number n
pub record Listable (k n : ℕ) (ls hs : List ℕ) : Type 0 where
  pub row : link_width * k + 3 < length ls
  pub head : n < length hs

-- k has got the number, and is the first on its owner's list
pub record ListedLock (k n : ℕ) (ls ls' hs hs' : List ℕ) : Type 0 where
  pub links : ls' ≡ set (set ls (link_width * k + 2) n) (link_width * k + 3) (get_or hs n 0)
  pub heads : hs' ≡ set hs n k

-- THE BLOCKED LOCKS. Those before k are done, and k is the next
pub record Numbering (ws : List ℕ) (k : ℕ) (lists others ls hs : List ℕ) : Type 0 where
  pub stands : Blocked ws k
  pub owners : OwnerLists ws (passed ws k) lists others
  pub linking : Linking ws (passed ws k) ls hs

-- the blocked locks bs are done, and the links of the lines are what they were in ls₀
pub record Done (ws bs lists others ls₀ ls hs : List ℕ) : Type 0 where
  pub owners : OwnerLists ws bs lists others
  pub linking : Linking ws bs ls hs
  pub ahead : SameLinks 0 ls₀ ls
  pub holder : SameLinks 1 ls₀ ls

-- there is room for the numbers, and none is written yet; lasts has a place for each resource
pub record Unnumbered (ws lasts ls hs others : List ℕ) : Type 0 where
  pub some : Some Core ws
  pub lines : resources_in ws < length lasts
  pub rows : Roomy ws ls
  pub none : NoLinks 2 ls
  pub wide : locks_in ws < length hs
  pub empty : (o : ℕ) → get_or hs o 0 ≡ 0
  pub room : locks_in ws < length others

-- THE HOLDERS. Numbers that were right still are, small ones still are small, and no other link has changed
pub record Righter (ws ls ls' : List ℕ) : Type 0 where
  pub right : (j : ℕ) → Right ws ls j → Right ws ls' j
  pub small : ((j : ℕ) → link_of ls j 2 ≤ locks_in ws) → (j : ℕ) → link_of ls' j 2 ≤ locks_in ws
  pub ahead : SameLinks 0 ls ls'
  pub holder : SameLinks 1 ls ls'
  pub mate : SameLinks 3 ls ls'

-- there is a row for each lock, and the lists have the owners of all blocked locks
pub record Holding (ws lists others ls : List ℕ) : Type 0 where
  pub rows : Roomy ws ls
  pub owners : OwnerLists ws (seen ws).blocked lists others

-- the row of `last`, which may be 0, has j as the next holder if j holds more than NL; and x is the last such then
pub record Appended (ws : List ℕ) (j last : ℕ) (ls ls' : List ℕ) (x : ℕ) : Type 0 where
  pub null : (lock (seen ws) j).held ≡ 0 → (x ≡ last) × (ls' ≡ ls)
  pub more : (lock (seen ws) j).held ≢ 0 → (x ≡ j) × (ls' ≡ set ls (link_width * last + 4) j)

-- no lock but those on r has another next holder
pub record Elsewhere (ws : List ℕ) (r : ℕ) (ls ls' : List ℕ) : Type 0 where
  pub each : (k : ℕ) → k ≢ 0 → (lock (seen ws) k).resource ≢ r → link_of ls' k 4 ≡ link_of ls k 4

-- the holders on r have their owners' numbers, and those that hold more than NL the next such
pub record HoldersDone (ws : List ℕ) (r : ℕ) (ls ls' : List ℕ) : Type 0 where
  pub righter : Righter ws ls ls'
  pub each : (j : ℕ) → 1 ≤ count j (holders (seen ws) r) → Right ws ls' j
  pub chained : Chained ws ls' r
  pub elsewhere : Elsewhere ws r ls ls'

-- they have them if the line there was linked
pub record LineDone (ws lasts : List ℕ) (r : ℕ) (ls ls' : List ℕ) : Type 0 where
  pub righter : Righter ws ls ls'
  pub each : get_or lasts r 0 ≢ 0 → (j : ℕ) → 1 ≤ count j (holders (seen ws) r) → Right ws ls' j
  pub chained : get_or lasts r 0 ≢ 0 → Chained ws ls' r
  pub elsewhere : Elsewhere ws r ls ls'

-- the same for each resource
pub record LinesDone (ws lasts ls ls' : List ℕ) : Type 0 where
  pub righter : Righter ws ls ls'
  pub each : (r : ℕ) → 1 ≤ r → r ≤ resources_in ws → get_or lasts r 0 ≢ 0 → (j : ℕ) → 1 ≤ count j (holders (seen ws) r) → Right ws ls' j
  pub chained : (r : ℕ) → 1 ≤ r → r ≤ resources_in ws → get_or lasts r 0 ≢ 0 → Chained ws ls' r

-- ALL OF IT: numbers, lists and chains of holders, and the links of the lines are what they were
pub record OwnersNumbered (ws lasts ls ls' hs : List ℕ) : Type 0 where
  pub numbered : Numbered ws lasts ls'
  pub mated : Mated ws ls'
  pub listed : (m : List Bool) → Listed ws ls' hs m
  pub chained : (r : ℕ) → 1 ≤ r → r ≤ resources_in ws → get_or lasts r 0 ≢ 0 → Chained ws ls' r
  pub ahead : SameLinks 0 ls ls'
  pub holder : SameLinks 1 ls ls'
