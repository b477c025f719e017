-- What the functions of the search ask for, and what they say.
use Rattle.std.specs.Prelude.{◌≡◌, ◌≢◌, Bool, true, false, List, ℕ, ◌+◌, ◌*◌, ◌≤◌, ◌<◌, get_or, length, Option}
use Rattle.tables.specs.Lists.{count}
use Rattle.tables.specs.Numbered.{numbered}
use Rattle.tables.specs.State.{lock, most_locks}
use Rattle.tables.specs.Layout.{locks_in}
use Rattle.tables.specs.Validity.{Core}
use Rattle.rules.specs.Deadlock.{in_the_way}
use Rattle.rules.specs.Walks.{Walk}
use Rattle.table_fields.specs.Sizes.{lock_places}
use Rattle.table_chains.specs.Promises.{Some}
use Rattle.table_chains.specs.Marks.{marked}
use Rattle.deadlock_graph.specs.Promises.{seen}
use Rattle.deadlock_graph.specs.Marks.{unmarked, Cleared}
use Rattle.deadlock_graph.specs.Holders.{holders_since}
use Rattle.deadlock_graph.specs.Hops.{nearest, hops}
use Rattle.deadlock_graph.specs.Links.{link_width, link_of, Roomy, mate, On, Listed, Leaping, Looker, Linked}

-- links, marks, and the owners' lists, from whose fronts marked locks may be gone
pub record Lists (ws ls hs : List ℕ) (m : List Bool) : Type 0 where
  pub linked : Linked ws ls m
  pub listed : Listed ws ls hs m
  pub wide : length m ≡ lock_places

-- the first lock on the list of j's owner
unfoldable pub first_of : List ℕ → List ℕ → ℕ → ℕ
first_of ls hs j = get_or hs (link_of ls j 2) 0

-- j has a row of links, and its owner a place among the lists
pub record HasList (ls : List ℕ) (j : ℕ) (hs : List ℕ) : Type 0 where
  pub row : link_width * j + 2 < length ls
  pub place : link_of ls j 2 < length hs
  pub few : link_of ls j 2 ≤ most_locks

-- no list that was empty has a lock again
pub record Shorter (hs hs' : List ℕ) : Type 0 where
  pub size : length hs' ≡ length hs
  pub spent : (o : ℕ) → get_or hs o 0 ≡ 0 → get_or hs' o 0 ≡ 0

-- a walk along an owner's list is at b, or at its end, which is 0
pub record OnList (ws ls : List ℕ) (m : List Bool) (b : ℕ) : Type 0 where
  pub linked : Linked ws ls m
  pub wide : length m ≡ lock_places
  pub stands : b ≢ 0 → 1 ≤ count b (seen ws).blocked

-- b is the first without a mark from `first` on, or 0: such a lock is on the list from b on if it is from `first` on
pub record FirstUnmarked (ws ls : List ℕ) (m : List Bool) (first b : ℕ) : Type 0 where
  pub stands : b ≢ 0 → 1 ≤ count b (seen ws).blocked
  pub number : b ≢ 0 → link_of ls b 2 ≡ link_of ls first 2
  pub spent : first ≡ 0 → b ≡ 0
  pub rest : (y : ℕ) → marked m y ≡ false → On (mate ls) first y → On (mate ls) b y
  pub fresh : b ≢ 0 → marked m b ≡ false

-- THE HOLDERS. The lists, for a look at the holders on the resource of the blocked lock a that hold more than NL, from k on
pub record Looks (ws ls : List ℕ) (a k : ℕ) (hs : List ℕ) (m : List Bool) : Type 0 where
  pub lists : Lists ws ls hs m
  pub stands : 1 ≤ count a (seen ws).blocked
  pub leaping : Leaping ws ls (lock (seen ws) a).resource k

-- k is in a's way, and its owner's list begins with a lock that has no mark
pub record Stop (ws ls : List ℕ) (a k : ℕ) (hs : List ℕ) (m : List Bool) : Type 0 where
  pub bars : in_the_way (seen ws) a k ≡ true
  pub some : first_of ls hs k ≢ 0
  pub fresh : marked m (first_of ls hs k) ≡ false

-- the holder k was looked at, and r: whether it is such a stop; if it is none and in a's way, its owner's list is empty
pub record Looked (ws ls : List ℕ) (a k : ℕ) (hs : List ℕ) (m : List Bool) (hs' : List ℕ) (r : Bool) : Type 0 where
  pub lists : Lists ws ls hs' m
  pub shorter : Shorter hs hs'
  pub stop : r ≡ true → Stop ws ls a k hs' m
  pub none : r ≡ false → in_the_way (seen ws) a k ≡ true → first_of ls hs' k ≡ 0

-- k is the first stop from `at` on, or 0
pub record Sought (ws ls : List ℕ) (a at : ℕ) (hs : List ℕ) (m : List Bool) (hs' : List ℕ) (k : ℕ) : Type 0 where
  pub looks : Looks ws ls a k hs' m
  pub shorter : Shorter hs hs'
  pub stop : k ≢ 0 → Stop ws ls a k hs' m
  pub none : at ≡ 0 → k ≡ 0
  pub passed :
      (j : ℕ) → 1 ≤ count j (holders_since ws (lock (seen ws) a).resource at) → count j (holders_since ws (lock (seen ws) a).resource k) ≡ 0
      → in_the_way (seen ws) a j ≡ true → first_of ls hs' j ≡ 0

-- r is that lock, or none
pub record SoughtLock (ws ls : List ℕ) (a at : ℕ) (hs : List ℕ) (m : List Bool) (hs' : List ℕ) (r : Option ℕ) : Type 0 where
  pub lock : ℕ
  pub is : r ≡ numbered lock
  pub sought : Sought ws ls a at hs m hs' lock

-- THE SEARCH for t, which has no mark, from the blocked lock k; no more blocked locks than the depth have no mark
pub record Searching (ws ls : List ℕ) (k t d : ℕ) (hs : List ℕ) (m : List Bool) : Type 0 where
  pub lists : Lists ws ls hs m
  pub links : Looker ws ls k
  pub target : 1 ≤ count t (seen ws).blocked
  pub clean : marked m t ≡ false
  pub deep : unmarked (seen ws).blocked m ≤ d

-- the same after the lock right ahead, if there is one, was tried: it has its mark
pub record Entered (ws ls : List ℕ) (k t d : ℕ) (hs : List ℕ) (m : List Bool) : Type 0 where
  pub searching : Searching ws ls k t d hs m
  pub front : nearest (seen ws) k ≢ 0 → marked m (nearest (seen ws) k) ≡ true

-- the same for a step to b, or to none if b is 0
pub record Following (ws ls : List ℕ) (b t d : ℕ) (hs : List ℕ) (m : List Bool) : Type 0 where
  pub lists : Lists ws ls hs m
  pub stands : b ≢ 0 → 1 ≤ count b (seen ws).blocked
  pub target : 1 ≤ count t (seen ws).blocked
  pub clean : marked m t ≡ false
  pub deep : unmarked (seen ws).blocked m ≤ d

-- whatever x hops to has a mark
pub record Tried (ws : List ℕ) (m : List Bool) (x : ℕ) : Type 0 where
  pub each : (y : ℕ) → hops (seen ws) x y ≡ true → marked m y ≡ true

-- a search for t in vain: no mark is taken away, each lock that got one has been tried, and t has none
pub record Vain (ws ls : List ℕ) (t : ℕ) (hs : List ℕ) (m : List Bool) (hs' : List ℕ) (m' : List Bool) : Type 0 where
  pub lists : Lists ws ls hs' m'
  pub shorter : Shorter hs hs'
  pub clean : marked m' t ≡ false
  pub kept : (x : ℕ) → marked m x ≡ true → marked m' x ≡ true
  pub closed : (x : ℕ) → marked m x ≡ false → marked m' x ≡ true → Tried ws m' x

-- what a search for t by way of b says, and leaves
pub record Followed (ws ls : List ℕ) (b t : ℕ) (hs : List ℕ) (m : List Bool) (hs' : List ℕ) (m' : List Bool) (r : Bool) : Type 0 where
  pub there : r ≡ true → b ≢ 0
  pub found : r ≡ true → (a : ℕ) → hops (seen ws) a b ≡ true → Walk (hops (seen ws)) (seen ws).blocked a t
  pub vain : r ≡ false → Vain ws ls t hs m hs' m'
  pub passed : r ≡ false → b ≢ 0 → marked m' b ≡ true

-- what a search for t from the lock `from` says, and leaves
pub record Searched (ws ls : List ℕ) (from t : ℕ) (hs : List ℕ) (m : List Bool) (hs' : List ℕ) (m' : List Bool) (r : Bool) : Type 0 where
  pub found : r ≡ true → Walk (hops (seen ws)) (seen ws).blocked from t
  pub vain : r ≡ false → Vain ws ls t hs m hs' m'
  pub tried : r ≡ false → Tried ws m' from

-- the links of a state, the lists hs of all its blocked locks, and no more of these than the depth that are not cleared
pub record Ready (ws ls : List ℕ) (d : ℕ) (hs : List ℕ) (m : List Bool) : Type 0 where
  pub linked : Linked ws ls m
  pub listed : (m : List Bool) → Listed ws ls hs m
  pub cleared : Cleared (hops (seen ws)) (seen ws).blocked m
  pub deep : unmarked (seen ws).blocked m ≤ d

-- the blocked lock a is to be tried
pub record Trying (ws ls : List ℕ) (a d : ℕ) (hs : List ℕ) (m : List Bool) : Type 0 where
  pub ready : Ready ws ls d hs m
  pub stands : 1 ≤ count a (seen ws).blocked

-- room for the links and lists, in which nothing is written yet
pub record Room (ws : List ℕ) (m : List Bool) (ls fs hs : List ℕ) : Type 0 where
  pub some : Some Core ws
  pub cleared : Cleared (hops (seen ws)) (seen ws).blocked m
  pub roomy : Roomy ws ls
  pub blank : (i : ℕ) → get_or ls i 0 ≡ 0
  pub lists : locks_in ws < length fs
  pub empty : (o : ℕ) → get_or fs o 0 ≡ 0
  pub same : length hs ≡ length fs

-- tables whose locks, some of them cleared, all have a place among so many
pub record Free (places : ℕ) (ws : List ℕ) (m : List Bool) : Type 0 where
  pub some : Some Core ws
  pub cleared : Cleared (hops (seen ws)) (seen ws).blocked m
  pub few : locks_in ws < places
