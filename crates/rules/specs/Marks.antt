-- What R-1 promises (document 02): whoever is in the way of a call that has to wait is told, and a mark lasts until it is polled or its lock is freed.
use Rattle.std.specs.Prelude.{◌≡◌, ◌≢◌, Bool, true, false, ◌&&◌, not, List, ◌++◌, ℕ, ◌≤◌, eqb}
use Rattle.tables.specs.declared.Lock.{Lock}
use Rattle.tables.specs.Lists.{count, keep}
use Rattle.tables.specs.State.{noticed, notices, queue, grants, converts, of_locks, state_free, mark_none}
use Rattle.tables.specs.Layout.{read_chain, read_lock}
use Rattle.rules.specs.Calls.{Said, larger}
use Rattle.rules.specs.Entries.{Lent, Outcome, Call, kind, same_kind, a_poll, to_request, to_convert, to_release, to_cancel, to_purge, to_break, to_poll, call_entry, start_entry}
use Rattle.rules.specs.Theorem.{begins_to_wait, lent_after_calls, IsLock, keeps_out}

-- THE CALL. "When a request or conversion answers 2" (`begins_to_wait`): the lock that waits then, and the mode that it asks for
abbrev pub asking_lock : Call → Said → ℕ
asking_lock (to_request c m f n) x = x.number
asking_lock (to_convert c k m f v) x = k
asking_lock (to_release c k f v) x = 0
asking_lock (to_cancel c k) x = 0
asking_lock (to_purge c) x = 0
asking_lock to_break x = 0
asking_lock (to_poll c) x = 0

abbrev pub asked_mode : Call → ℕ
asked_mode (to_request c m f n) = m
asked_mode (to_convert c k m f v) = m
asked_mode (to_release c k f v) = 0
asked_mode (to_cancel c k) = 0
asked_mode (to_purge c) = 0
asked_mode to_break = 0
asked_mode (to_poll c) = 0

-- a poll that answers the lock j
unfoldable pub answers_lock : Call → Said → ℕ → Bool
answers_lock c x j = same_kind a_poll (kind c) && eqb x.number j

-- THE LOCKS before the call, and after it in its outcome; the notice chain, and the holders of a resource in "grant, then convert chain order"
abbrev pub lock_before : Lent → ℕ → Lock
lock_before t j = read_lock t.words j

abbrev pub words_after : Outcome → List ℕ
words_after o = o.lent_after.words

abbrev pub lock_after : Outcome → ℕ → Lock
lock_after o j = read_lock (words_after o) j

abbrev pub notice_chain : List ℕ → List ℕ
notice_chain ws = read_chain ws (of_locks notices)

abbrev pub holder_chains : List ℕ → ℕ → List ℕ
holder_chains ws r = read_chain ws (of_locks (queue r grants)) ++ read_chain ws (of_locks (queue r converts))

-- the resource on which it waits, and whether the lock j is in its way on r: "each other lock there whose held mode is incompatible with the asked one"
abbrev pub waits_on : Call → Outcome → ℕ
waits_on c o = (lock_after o (asking_lock c o.said)).resource

abbrev pub in_its_way : Call → Lent → Outcome → ℕ → ℕ → Bool
in_its_way c t o r j = keeps_out r (asking_lock c o.said) (asked_mode c) j (lock_before t j)

-- ONE CALL c on the tables t, and its outcome o
pub record MarksRight (c : Call) (t : Lent) (o : Outcome) : Type 0 where
  -- (1) a call that answers 2: whoever is in its way has a mark of at least the asked mode, "the larger of that and a mark it has", and stands on the
  -- notice chain; no other lock's mark changed
  pub told : begins_to_wait c o.said ≡ true → (j : ℕ) → IsLock t.words j → in_its_way c t o (waits_on c o) j ≡ true →
      (asked_mode c ≤ (lock_after o j).mark) × (count j (notice_chain (words_after o)) ≡ 1) × ((lock_after o j).mark ≡ larger (asked_mode c) (lock_before t j).mark)
  pub others : begins_to_wait c o.said ≡ true → (j : ℕ) → IsLock t.words j → in_its_way c t o (waits_on c o) j ≡ false →
      (lock_after o j).mark ≡ (lock_before t j).mark
  -- who stood on the notice chain keeps its place, and the others that are told join it in order
  pub joined : begins_to_wait c o.said ≡ true → (r : ℕ) → waits_on c o ≡ r →
      notice_chain (words_after o)
      ≡ notice_chain t.words ++ keep (λ j. in_its_way c t o r j && not (noticed (lock_before t j))) (holder_chains (words_after o) r)
  -- a call that answers anything else sets no mark
  pub none_set : begins_to_wait c o.said ≡ false → (j : ℕ) → IsLock t.words j → (lock_after o j).mark ≢ mark_none →
      (lock_after o j).mark ≡ (lock_before t j).mark
  -- (2) a mark lasts: a lock that no poll answers, and that is not free after the call, has the mark that it had, or a larger one
  pub lasts : (j : ℕ) → IsLock t.words j → answers_lock c o.said j ≡ false → (lock_after o j).state ≢ state_free →
      (lock_before t j).mark ≤ (lock_after o j).mark
  -- and a poll that answers a lock is its client's, says its mark, and clears it
  pub answered : (j : ℕ) → IsLock t.words j → answers_lock c o.said j ≡ true →
      (c ≡ to_poll (lock_before t j).client) × (o.said.extra ≡ (lock_before t j).mark) × ((lock_after o j).mark ≡ mark_none)

-- THE MARKS THEOREM: it holds of every call after every list of calls on the tables that `start` leaves. So a mark that was set and is gone was answered
-- by a poll of its lock's client, or its lock was freed. Proved as `marks_theorem`.
abbrev pub MarksAfter : List Call → Call → Lent → Type 0
MarksAfter cs c t = let u = lent_after_calls cs t in MarksRight c u (call_entry c u)

abbrev pub MarksTheorem : Type 0
MarksTheorem =
    (t : Lent) (r l : ℕ) → (start_entry t r l).said.refusal ≡ 0 → (cs : List Call) (c : Call) → MarksAfter cs c (start_entry t r l).lent_after
