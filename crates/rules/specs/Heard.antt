-- What R-3 promises of each lock (document 02): "Every blocked call is heard of once." How the answers add up is in rules/Theorem.
use Rattle.std.specs.Prelude.{◌≡◌, ◌≢◌, Bool, true, false, ◌&&◌, ◌||◌, not, List, ℕ, eqb}
use Rattle.tables.specs.declared.Lock.{Lock}
use Rattle.tables.specs.Lists.{within}
use Rattle.tables.specs.State.{blocked_lock, unread, completion_none}
use Rattle.tables.specs.Layout.{locks_in, read_lock}
use Rattle.rules.specs.Calls.{Said}
use Rattle.rules.specs.Entries.{Lent, Outcome, Call, to_request, to_convert, to_release, to_cancel, to_purge, to_break, to_poll, call_entry, start_entry}
use Rattle.rules.specs.Theorem.{begins_to_wait, locks_of_client, lent_after_calls, IsLock}
use Rattle.rules.specs.Marks.{asking_lock, lock_before, lock_after}

-- a lock is open: it is blocked, or its completion is unread
abbrev pub is_open : Lock → Bool
is_open l = blocked_lock l || unread l

-- THE CALL c, which says x, and the lock j. It answers 2, and j is the lock that waits
abbrev pub opens : Call → Said → ℕ → Bool
opens c x j = begins_to_wait c x && eqb (asking_lock c x) j

-- a poll answers j with a completion, or its cancel is accepted, or it is purged while open. ws: the words before the call, among whose locks j is
abbrev pub closes : Call → Said → List ℕ → ℕ → Bool
closes (to_request c m f n) x ws j = false
closes (to_convert c k m f v) x ws j = false
closes (to_release c k f v) x ws j = false
closes (to_cancel c k) x ws j = eqb x.refusal 0 && eqb k j
closes (to_purge c) x ws j = eqb x.refusal 0 && (within (locks_in ws) j && (eqb (read_lock ws j).client c && is_open (read_lock ws j)))
closes to_break x ws j = false
closes (to_poll c) x ws j = not (eqb x.answer completion_none) && eqb x.number j

-- the lock k: whether it was open before the call, and whether it is after it
pub record Goes (t : Lent) (o : Outcome) (k : ℕ) (before after : Bool) : Type 0 where
  pub is_lock : IsLock t.words k
  pub was : is_open (lock_before t k) ≡ before
  pub is : is_open (lock_after o k) ≡ after

-- ONE CALL c on the tables t, and its outcome o
pub record HeardRight (c : Call) (t : Lent) (o : Outcome) : Type 0 where
  -- (1) a call that answers 2 opens its lock
  pub opened : begins_to_wait c o.said ≡ true → Goes t o (asking_lock c o.said) false true
  -- (2) a lock that is heard of was open, and is open no more
  pub closed : (j : ℕ) → closes c o.said t.words j ≡ true → Goes t o j true false
  -- (3) nothing else opens or closes a lock
  pub else_same : (j : ℕ) → IsLock t.words j → opens c o.said j ≡ false → closes c o.said t.words j ≡ false →
      is_open (lock_after o j) ≡ is_open (lock_before t j)
  -- (4) "one completion for each 2": whoever has a completion unread gets a notice by a poll, and a poll says the completion of the lock that it answers
  pub told : (i j : ℕ) → c ≡ to_poll i → IsLock t.words j → (lock_before t j).client ≡ i → unread (lock_before t j) ≡ true → o.said.number ≢ 0
  pub told_its_own : (i j : ℕ) → c ≡ to_poll i → IsLock t.words j → o.said.number ≡ j → o.said.answer ≡ (lock_before t j).completion
  -- (5) purge's "two more counts" are of its client's locks, as it found them
  pub counted : (i : ℕ) → c ≡ to_purge i → o.said.refusal ≡ 0 →
      (o.said.number ≡ locks_of_client i blocked_lock t.words) × (o.said.extra ≡ locks_of_client i unread t.words)

-- THE THEOREM: it holds of every call after every list of calls on the tables that `start` leaves. Proved as `heard_theorem`.
abbrev pub HeardAfter : List Call → Call → Lent → Type 0
HeardAfter cs c t = let u = lent_after_calls cs t in HeardRight c u (call_entry c u)

abbrev pub HeardTheorem : Type 0
HeardTheorem =
    (t : Lent) (r l : ℕ) → (start_entry t r l).said.refusal ≡ 0 → (cs : List Call) (c : Call) → HeardAfter cs c (start_entry t r l).lent_after
