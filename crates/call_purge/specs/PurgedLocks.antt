-- The first half of a purge: each lock of the client is counted and freed, and the resource that it stood on is marked.
use Rattle.std.specs.Prelude.{◌≡◌, Bool, true, false, cond, List, [], ◌∷◌, ℕ, ◌+◌, ◌≤◌, length, set, eqb}
use Rattle.tables.specs.Lists.{bit}
use Rattle.tables.specs.declared.Lock.{Lock}
use Rattle.tables.specs.State.{Tables, lock, blocked_lock, unread}
use Rattle.tables.specs.Layout.{words, slots}
use Rattle.rules.specs.Calls.{strong, leave_value, locks_of, purge_lock, purge_locks, how_many}
use Rattle.answers.specs.declared.Purged.{Purged}

-- WHAT A PURGE COUNTS: locks freed, those of them that were blocked, those that had a completion unread. The record is the code's struct, `Purged`.
abbrev pub no_counts : Purged
no_counts = record { freed = 0; blocked = 0; unread = 0 }

-- what one lock counts for
unfoldable pub counts_of : Lock → Purged
counts_of l = record { freed = 1; blocked = bit (blocked_lock l); unread = bit (unread l) }

unfoldable pub added : Purged → Purged → Purged
added x y = record { freed = x.freed + y.freed; blocked = x.blocked + y.blocked; unread = x.unread + y.unread }

-- none of the counts is over n
pub record Few (n : ℕ) (x : Purged) : Type 0 where
  pub freed : x.freed ≤ n
  pub blocked : x.blocked ≤ n
  pub unread : x.unread ≤ n

-- the lock k is the client's
unfoldable pub of_client : ℕ → Tables → ℕ → Bool
of_client c t k = eqb (lock t k).client c

-- where the lock k holds PW or EX, the value of its resource becomes not valid
unfoldable pub spoil : ℕ → Tables → Tables
spoil k t = leave_value (strong (lock t k).held) 2 [] (lock t k).resource t

-- ONE LOCK: if it is the client's it is purged, its resource marked, and it counts
unfoldable pub purge_own : ℕ → ℕ → Tables → Tables
purge_own c k t = elim (of_client c t k) [ true ↦ purge_lock k t | false ↦ t ]

unfoldable pub mark_own : ℕ → ℕ → List Bool → Tables → List Bool
mark_own c k m t = cond (of_client c t k) (set m (lock t k).resource true) m

unfoldable pub count_own : ℕ → ℕ → Tables → Purged
count_own c k t = cond (of_client c t k) (counts_of (lock t k)) no_counts

-- ALL LOCKS of the client
unfoldable pub purge_all : ℕ → Tables → Tables
purge_all c t = purge_locks (locks_of c t) t

unfoldable pub mark_locks : List ℕ → Tables → List Bool → List Bool
mark_locks [] t m = m
mark_locks (k ∷ ks) t m = mark_locks ks t (set m (lock t k).resource true)

unfoldable pub mark_all : ℕ → List Bool → Tables → List Bool
mark_all c m t = mark_locks (locks_of c t) t m

-- what they count for; of all the client's, `purge_counts` (rules/Calls)
unfoldable pub count_locks : List ℕ → Tables → Purged
count_locks ks t = record { freed = length ks; blocked = how_many blocked_lock ks t; unread = how_many unread ks t }

unfoldable pub count_all : ℕ → Tables → Purged
count_all c t = count_locks (locks_of c t) t

-- words and slots became those of f of the state, the marks are what g says, and x, what was counted, is what n says
pub record Frees (P : Tables → Type 0) (f : Tables → Tables) (g : Tables → List Bool) (n : Tables → Purged) (a sa b sb : List ℕ) (m : List Bool) (x : Purged) : Type 0 where
  pub then : (t : Tables) → P t → a ≡ words t → sa ≡ slots t → (b ≡ words (f t)) × (sb ≡ slots (f t)) × (m ≡ g t) × (x ≡ n t)
