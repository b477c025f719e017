-- The theorem of R-3 about each lock: a call that answers 2 opens its lock, and what is heard of closes it.
use mathlib.Core.Path.{subst, ◌≡◌}
use mathlib.Core.Logic.{◌≢◌}
use mathlib.Core.Bool.{Bool, true, false, ◌&&◌}
use Prim.Native.Nat.{ℕ}
use native.Mathlib.Omega.{arith}
use lib.ListN.{length}
use lib.Dec.{eqb}
use Rattle.tables.specs.State.{Tables, lock, blocked_lock, unread, started}
use Rattle.tables.specs.Layout.{words, read_lock}
use Rattle.tables.proofs.Counts.{within_le, le_within}
use Rattle.tables.proofs.ReadBack.{locks_word, lock_read}
use Rattle.tables.specs.Validity.{Valid}
use Rattle.rules.specs.Calls.{Step}
use Rattle.rules.specs.Entries.{lent_of, written, Call, to_purge, to_poll, step_of, call_entry}
use Rattle.rules.specs.Theorem.{IsLock, locks_of_client}
use Rattle.rules.specs.Heard.{Goes, HeardRight, HeardAfter, HeardTheorem}
use Rattle.rules.proofs.OpenLocks.{Went, Openings}
use Rattle.rules.proofs.PollAndPurge.{poll_tells, poll_says, purge_says}
use Rattle.rules.proofs.EveryCall.{stepped}
use Rattle.rules.proofs.QueueTheorem.{locks_are, play, outcome_is, after_is, play_valid, from_start}

module _ (c : Call) (t : Tables) (val : Valid t) where
  abbrev s : Step
  s = step_of c t

  o : Openings c t s.said s.tables
  o = (stepped c t val).openings

  before : (j : ℕ) → IsLock (words t) j → read_lock (words t) j ≡ lock t j
  before j i = lock_read t j i.low (omega (arith, i.high, locks_word t))

  then : (j : ℕ) → IsLock (words t) j → read_lock (words s.tables) j ≡ lock s.tables j
  then j i = lock_read s.tables j i.low (omega (arith, i.high, locks_word t, (stepped c t val).locks_are))

  went : (k : ℕ) (a b : Bool) → Went t s.tables k a b → Goes (lent_of t) (written s) k a b
  went k a b g =
      let h = within_le (length t.locks) k g.0 in
      let i : IsLock (words t) k = record { low = h.0; high = omega (arith, h.1, locks_word t) } in
      record { is_lock = i; was = rw (before k i) g.1; is = rw (then k i) g.2 }

  told_words : (i j : ℕ) → c ≡ to_poll i → IsLock (words t) j → (read_lock (words t) j).client ≡ i → unread (read_lock (words t) j) ≡ true → s.said.number ≢ 0
  told_words i j e k =
      rw (before j k, e)
      (λ own u. subst (λ (i : ℕ). (step_of (to_poll i) t).said.number ≢ 0) own
      (poll_tells t val.core j (le_within (length t.locks) j k.low (omega (arith, k.high, locks_word t))) u))

  own_words : (i j : ℕ) → c ≡ to_poll i → IsLock (words t) j → s.said.number ≡ j → s.said.answer ≡ (read_lock (words t) j).completion
  own_words i j e k = rw (before j k, e) (poll_says i j t k.low)

  counted_words : (i : ℕ) → c ≡ to_purge i → s.said.refusal ≡ 0 →
      (s.said.number ≡ locks_of_client i blocked_lock (words t)) × (s.said.extra ≡ locks_of_client i unread (words t))
  counted_words i e = rw (e, locks_are (λ l. eqb l.client i && blocked_lock l) t, locks_are (λ l. eqb l.client i && unread l) t) (purge_says i t)

  valid_heard : HeardRight c (lent_of t) (call_entry c (lent_of t))
  valid_heard =
      rw (outcome_is c t val)
      (record {
        opened = λ q. went _ false true (o.opened q);
        closed = λ j h. went j true false (o.closed j h);
        else_same = λ j i p q. rw (then j i, before j i) (o.else_same j p q);
        told = told_words;
        told_its_own = own_words;
        counted = counted_words;
      })

-- after every list of calls from fresh tables
pub heard_theorem : HeardTheorem
heard_theorem t r l accepted cs c =
    from_start (HeardAfter cs c) r l
    (λ val. rw (after_is cs (started r l) val) (valid_heard c (play cs (started r l)) (play_valid cs (started r l) val))) t accepted
