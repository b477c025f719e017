-- The queue theorem (document 01's demand 3, and R-3 and R-5 of document 02): what holds of the words and slots after every list of the seven calls
-- from fresh tables, and how the answers add up.
use Rattle.std.specs.Prelude.{◌≡◌, ◌≢◌, Bool, true, ◌&&◌, ◌||◌, not, cond, List, [], ◌∷◌, ℕ, zero, suc, ◌+◌, ◌≤◌, length, eqb}
use Rattle.modes.specs.Modes.{compatible}
use Rattle.tables.specs.Lists.{count, bit, any, keep, from}
use Rattle.tables.specs.declared.Lock.{Lock}
use Rattle.tables.specs.State.{holds, blocked_lock, unread, grants, converts, waits, LockChain, free_locks, denied, blocked, notices, queue, of_locks, state_free, last_mode, completion_none, completion_denied}
use Rattle.tables.specs.Layout.{of_resource, resources_in, locks_in, word_in, count_in, link_in, read_chain, read_lock}
use Rattle.tables.specs.Grants.{holds_mode}
use Rattle.tables.specs.Sound.{ends, sound}
use Rattle.rules.specs.Calls.{Said}
use Rattle.rules.specs.Entries.{Lent, Call, to_request, to_convert, to_release, to_cancel, to_purge, to_break, to_poll, Kind, kind, same_kind, a_request, a_convert, a_release, a_cancel, a_purge, a_poll, call_entry, start_entry}

-- THE LIST. Each call gets the words and slots that the one before it left.
unfoldable pub lent_after_calls : List Call → Lent → Lent
lent_after_calls [] t = t
lent_after_calls (c ∷ cs) t = lent_after_calls cs (call_entry c t).lent_after

-- a number that each call comes to by what it says, summed over the list
unfoldable pub sum_of : (Call → Said → ℕ) → List Call → Lent → ℕ
sum_of term [] t = 0
sum_of term (c ∷ cs) t = let o = call_entry c t in term c o.said + sum_of term cs o.lent_after

-- a number that calls of one kind come to, and no others
abbrev pub for_kind : Kind → Call → ℕ → ℕ
for_kind k c n = cond (same_kind k (kind c)) n 0

-- WHAT IS SUMMED. "a call is accepted if it isn't refused"
abbrev pub requests_accepted : Call → Said → ℕ
requests_accepted c s = for_kind a_request c (bit (eqb s.refusal 0))

abbrev pub releases_accepted : Call → Said → ℕ
releases_accepted c s = for_kind a_release c (bit (eqb s.refusal 0))

-- "requests cancelled are cancels answering 2"
abbrev pub requests_cancelled : Call → Said → ℕ
requests_cancelled c s = for_kind a_cancel c (bit (eqb s.answer 2))

-- "locks purged are the counts of freed locks that purges answer, summed"
abbrev pub locks_purged : Call → Said → ℕ
locks_purged c s = for_kind a_purge c s.answer

-- "polled denials are polls answering completion 2"
abbrev pub polled_denials : Call → Said → ℕ
polled_denials c s = for_kind a_poll c (bit (eqb s.answer completion_denied))

-- "answers 2 from request and convert"
unfoldable pub begins_to_wait : Call → Said → Bool
begins_to_wait c s = (same_kind a_request (kind c) || same_kind a_convert (kind c)) && eqb s.answer 2

abbrev pub answers_2 : Call → Said → ℕ
answers_2 c s = bit (begins_to_wait c s)

-- "polls with a completion"
abbrev pub polled_completions : Call → Said → ℕ
polled_completions c s = for_kind a_poll c (bit (not (eqb s.answer completion_none)))

-- "accepted cancels"
abbrev pub cancels_accepted : Call → Said → ℕ
cancels_accepted c s = for_kind a_cancel c (bit (eqb s.refusal 0))

-- "the two purge counts": "locks purged while blocked, and with a completion unread"
abbrev pub purged_blocked : Call → Said → ℕ
purged_blocked c s = for_kind a_purge c s.number

abbrev pub purged_unread : Call → Said → ℕ
purged_unread c s = for_kind a_purge c s.extra

-- WHAT IS COUNTED AFTER THE LIST: how many locks of the words are so
unfoldable pub locks_that : (Lock → Bool) → List ℕ → ℕ
locks_that p ws = length (keep (λ k. p (read_lock ws k)) (from 1 (locks_in ws)))

-- "Locks in use are those that aren't free after the list."
abbrev pub in_use : List ℕ → ℕ
in_use ws = locks_that (λ l. not (eqb l.state state_free)) ws

-- OF ONE CLIENT: the client that a call names (break names none), what the calls come to that name the client i, and how many of its locks are so
abbrev pub client_of : Call → ℕ
client_of (to_request c m f n) = c
client_of (to_convert c k m f v) = c
client_of (to_release c k f v) = c
client_of (to_cancel c k) = c
client_of (to_purge c) = c
client_of to_break = 0
client_of (to_poll c) = c

abbrev pub by_client : ℕ → (Call → Said → ℕ) → Call → Said → ℕ
by_client i term c s = cond (eqb (client_of c) i) (term c s) 0

abbrev pub locks_of_client : ℕ → (Lock → Bool) → List ℕ → ℕ
locks_of_client i p ws = locks_that (λ l. eqb l.client i && p l) ws

-- THE WORDS. A lock and a resource of the tables
pub record IsLock (ws : List ℕ) (k : ℕ) : Type 0 where
  pub low : 1 ≤ k
  pub high : k ≤ locks_in ws

pub record IsResource (ws : List ℕ) (r : ℕ) : Type 0 where
  pub low : 1 ≤ r
  pub high : r ≤ resources_in ws

-- how often a lock stands on the free, denied, grant, convert and wait chains, taken together; r: over the resources from 1 to r
unfoldable pub queue_count : List ℕ → ℕ → ℕ → ℕ
queue_count ws k zero = 0
queue_count ws k (suc r) =
    queue_count ws k r
    + (count k (read_chain ws (of_locks (queue (suc r) grants))) + count k (read_chain ws (of_locks (queue (suc r) converts)))
    + count k (read_chain ws (of_locks (queue (suc r) waits))))

unfoldable pub home_count : List ℕ → ℕ → ℕ
unfolding queue_count
home_count ws k =
    count k (read_chain ws (of_locks free_locks)) + count k (read_chain ws (of_locks denied)) + queue_count ws k (resources_in ws)

-- the chain is there: those of a resource only where the tables have it
abbrev pub IsChain : List ℕ → LockChain → Type 0
IsChain ws free_locks = Unit {0}
IsChain ws denied = Unit {0}
IsChain ws blocked = Unit {0}
IsChain ws notices = Unit {0}
IsChain ws (queue r q) = IsResource ws r

-- the lock j, whose record is l, is another than k and holds a mode on r that is incompatible with m
abbrev pub keeps_out : ℕ → ℕ → ℕ → ℕ → Lock → Bool
keeps_out r k m j l = not (eqb j k) && (holds l && (eqb l.resource r && not (compatible l.held m)))

-- some lock does so
unfoldable pub kept_out : List ℕ → ℕ → ℕ → ℕ → Bool
kept_out ws r k m = any (λ j. keeps_out r k m j (read_lock ws j)) (from 1 (locks_in ws))

abbrev pub convert_head : List ℕ → ℕ → ℕ
convert_head ws r = word_in ws (of_resource r 2)

abbrev pub wait_head : List ℕ → ℕ → ℕ
wait_head ws r = word_in ws (of_resource r 3)

abbrev pub conversion_waits : List ℕ → ℕ → Bool
conversion_waits ws r = not (eqb (convert_head ws r) 0)

pub record QueuesHold (ws ss : List ℕ) : Type 0 where
  pub sound_tables : sound ws ss ≡ true
  -- (a) any two different locks that hold modes on one resource hold compatible ones
  pub compatible_modes : (j k : ℕ) → IsLock ws j → IsLock ws k → j ≢ k → holds (read_lock ws j) ≡ true → holds (read_lock ws k) ≡ true
      → (read_lock ws j).resource ≡ (read_lock ws k).resource → compatible (read_lock ws j).held (read_lock ws k).held ≡ true
  -- (b) each lock stands exactly once on exactly one of the free, denied, grant, convert and wait chains
  pub one_home : (k : ℕ) → IsLock ws k → home_count ws k ≡ 1
  -- (c) every lock chain reaches its zero within L steps
  pub chains_end : (c : LockChain) → IsChain ws c → ends (link_in ws (of_locks c)) (locks_in ws) (link_in ws (of_locks c) 0) ≡ true
  -- (d) no head waits that the rules would grant: a convert head is kept out by another lock's mode, a wait head by a conversion or such a mode
  pub convert_heads : (r : ℕ) → IsResource ws r → convert_head ws r ≢ 0 → kept_out ws r (convert_head ws r) (read_lock ws (convert_head ws r)).asked ≡ true
  pub wait_heads : (r : ℕ) → IsResource ws r → wait_head ws r ≢ 0 → (conversion_waits ws r || kept_out ws r 0 (read_lock ws (wait_head ws r)).asked) ≡ true
  -- R-5: "words 6 to 11 counting the locks that hold NL to EX"
  pub true_counts : (r : ℕ) → IsResource ws r → (m : ℕ) → m ≤ last_mode → count_in ws r m ≡ locks_that (λ l. holds_mode l r m) ws

-- THE SUMS. `sum` is a term summed over the answers of a list, `locks` how many locks are so after it.
-- R-3: "answers 2 from request and convert = locks now blocked + completions unread + polls with a completion + accepted cancels + the two purge counts
-- summed". A mark alone is no completion unread.
abbrev pub HeardSum : ((Call → Said → ℕ) → ℕ) → ((Lock → Bool) → ℕ) → Type 0
HeardSum sum locks =
    sum answers_2
    ≡ locks blocked_lock + locks unread + sum polled_completions + sum cancels_accepted + (sum purged_blocked + sum purged_unread)

-- ws: the words after the list
pub record SumsHold (sum : (Call → Said → ℕ) → ℕ) (ws : List ℕ) : Type 0 where
  -- (e) accepted requests = locks in use + releases + requests cancelled + locks purged + polled denials
  pub balance : sum requests_accepted ≡ in_use ws + sum releases_accepted + sum requests_cancelled + sum locks_purged + sum polled_denials
  -- (f) R-3's sum; and that of each client, of the calls that name it and the locks that are its own
  pub heard_once : HeardSum sum (λ p. locks_that p ws)
  pub heard_by_each : (i : ℕ) → HeardSum (λ term. sum (by_client i term)) (λ p. locks_of_client i p ws)

-- DEMAND 3 AND R-3'S SUM, one statement about a list of calls on the tables t
pub record Demand (cs : List Call) (t : Lent) : Type 0 where
  pub queues : QueuesHold (lent_after_calls cs t).words (lent_after_calls cs t).slots
  pub sums : SumsHold (λ term. sum_of term cs t) (lent_after_calls cs t).words

-- THE QUEUE THEOREM: it holds of every list of calls on the tables that `start` leaves, wherever it accepts. Proved as `queue_theorem`.
abbrev pub QueueTheorem : Type 0
QueueTheorem =
    (t : Lent) (r l : ℕ) → (start_entry t r l).said.refusal ≡ 0 → (cs : List Call) → Demand cs (start_entry t r l).lent_after
