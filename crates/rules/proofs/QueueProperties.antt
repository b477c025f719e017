-- The words of a valid state hold what the queue theorem says of the words after every list of calls.
use mathlib.Core.Path.{◌≡◌, refl, sym, ap, ◌∙◌}
use mathlib.Core.Logic.{◌≢◌}
use mathlib.Core.Bool.{Bool, true, false, ◌&&◌, ◌||◌, not, and-false}
use mathlib.Core.List.{List, [], ◌∷◌, ◌++◌}
use Prim.Native.Nat.{ℕ, zero, suc, ◌+◌, ◌≤◌, ◌<◌}
use native.Mathlib.Omega.{arith}
use lib.ListN.{length}
use lib.Dec.{eqb, ltb}
use borrow.Author.Tests.{eq-eqb, ne_eqb, ltb-true, ltb-false, lt-ltb, le-ltb, not-true}
use Rattle.modes.specs.Modes.{compatible}
use Rattle.tables.specs.Lists.{within, count, bit, any, first, keep, from}
use Rattle.tables.specs.declared.Lock.{Lock}
use Rattle.tables.specs.State.{Tables, last_mode, lock, resource, holds, Queue, queue_of, grants, converts, waits, LockChain, free_locks, denied, blocked, notices, queue, of_locks, chain, belongs}
use Rattle.tables.specs.Layout.{resource_width, of_resource, queue_head, count_field, resources_in, locks_in, word_in, link_in, read_chain, read_lock, word_value, words, slots}
use Rattle.tables.specs.Grants.{holds_mode, fits, convert_grantable}
use Rattle.tables.specs.Sound.{ends, chain_ends, chains_end, sound}
use Rattle.tables.proofs.Cases.{by_cases, by_equal, clash, parts}
use Rattle.tables.proofs.Counts.{within_le, le_within, count_same, count_from, from_in, all_at, any_intro, keep_cong}
use Rattle.tables.specs.Threads.{Present}
use Rattle.tables.proofs.Written.{valid_readable, valid_sound}
use Rattle.tables.proofs.ReadBack.{resources_word, locks_word, word_read, chain_read, lock_read}
use Rattle.tables.specs.Validity.{used, Valid, line, idle}
use Rattle.tables.proofs.StateCases.{StateOk, ok_numbered}
use Rattle.tables.proofs.Valid.{used_within}
use Rattle.tables.proofs.ChainMembers.{true_fits, on_chain, holder_within, on_queue, three_queues}
use Rattle.tables.proofs.Links.{next_here}
use Rattle.tables.proofs.Tallies.{count_word}
use Rattle.tables.proofs.CountedLocks.{tally_locks}
use Rattle.rules.specs.Theorem.{IsLock, IsResource, IsChain, queue_count, home_count, keeps_out, kept_out, convert_head, wait_head, conversion_waits, locks_that, QueuesHold}

-- res is one of 1..r + 1 exactly if it is one of 1..r, or r + 1
bits : (q : Bool) (r res : ℕ) → bit (q && within r res) + bit (q && eqb res (suc r)) ≡ bit (q && within (suc r) res)
bits false r res = refl
bits true r zero = rw (ne_eqb 0 (suc r) (omega arith)) (omega arith)
bits true r (suc k) =
    by_cases (ltb k r)
    (λ h. let l = ltb-true k r h in rw (h, ne_eqb (suc k) (suc r) (omega arith), lt-ltb k (suc r) (omega arith)))
    (λ h. let l = ltb-false k r h in
    by_equal k r
    (λ e. rw (h, eq-eqb (suc k) (suc r) (ap suc e), lt-ltb k (suc r) (omega arith)))
    (λ n. rw (h, ne_eqb (suc k) (suc r) (omega arith), le-ltb k (suc r) (omega arith))))

within_none : (s : ℕ) → within 0 s ≡ false
within_none zero = refl
within_none (suc s) = le-ltb s 0 (omega arith)

-- locks counted in the words are those of the state
pub locks_kept : (p : Lock → Bool) (t : Tables) → locks_that p (words t) ≡ length (keep (λ k. p (lock t k)) (from 1 (length t.locks)))
unfolding locks_that
locks_kept p t =
    rw (locks_word t)
    (ap length (keep_cong (λ k. p (read_lock (words t) k)) (λ k. p (lock t k)) (from 1 (length t.locks)) same_lock))
  where
    same_lock : (k : ℕ) → 1 ≤ count k (from 1 (length t.locks)) → p (read_lock (words t) k) ≡ p (lock t k)
    same_lock k m = let w = from_in (length t.locks) k m in rw (lock_read t k w.0 w.1)

module _ (t : Tables) (val : Valid t) where
  ok : sound (words t) (slots t) ≡ true
  ok = valid_sound t val

  resource_high : (r : ℕ) → IsResource (words t) r → r ≤ length t.resources
  resource_high r i = omega (arith, resources_word t, i.high)

  lock_high : (k : ℕ) → IsLock (words t) k → k ≤ length t.locks
  lock_high k i = omega (arith, locks_word t, i.high)

  pub lock_is : (k : ℕ) → IsLock (words t) k → read_lock (words t) k ≡ lock t k
  lock_is k i = lock_read t k i.low (lock_high k i)

  queue_present : (r : ℕ) → IsResource (words t) r → (f : ℕ) → f < resource_width → (1 ≤ r) × (r ≤ length t.resources) × (f < resource_width)
  queue_present r i f p = (i.low, resource_high r i, p)

  present : (c : LockChain) → IsChain (words t) c → Present t (of_locks c)
  present free_locks i = omega arith
  present denied i = omega arith
  present blocked i = omega arith
  present notices i = omega arith
  present (queue r grants) i = queue_present r i 1 (omega arith)
  present (queue r converts) i = queue_present r i 2 (omega arith)
  present (queue r waits) i = queue_present r i 3 (omega arith)

  pub chain_is : (c : LockChain) → IsChain (words t) c → read_chain (words t) (of_locks c) ≡ chain t c
  chain_is c i = chain_read t (of_locks c) ((valid_readable t val).chains (of_locks c) (present c i))

  -- (a)
  modes_agree : (j k : ℕ) → IsLock (words t) j → IsLock (words t) k → j ≢ k → holds (read_lock (words t) j) ≡ true → holds (read_lock (words t) k) ≡ true
      → (read_lock (words t) j).resource ≡ (read_lock (words t) k).resource → compatible (read_lock (words t) j).held (read_lock (words t) k).held ≡ true
  modes_agree j k i m n = rw (lock_is j i, lock_is k m) (val.core.agree j k n)

  -- (b)
  module _ (k : ℕ) (i : IsLock (words t) k) where
    counted : (c : LockChain) → IsChain (words t) c → count k (read_chain (words t) (of_locks c)) ≡ bit (belongs c (lock t k))
    counted c m = rw (chain_is c m) (val.core.linked c k ∙ rw (le_within (length t.locks) k i.low (lock_high k i)))

    queues_counted : (r : ℕ) → r ≤ length t.resources → queue_count (words t) k r ≡ bit (on_queue (lock t k) && within r (lock t k).resource)
    unfolding queue_count on_queue
    queues_counted zero h = rw (within_none (lock t k).resource, and-false)
    queues_counted (suc r) h =
        let m : IsResource (words t) (suc r) = record { low = omega arith; high = omega (arith, resources_word t) } in
        rw (
          counted (queue (suc r) grants) m,
          counted (queue (suc r) converts) m,
          counted (queue (suc r) waits) m,
          queues_counted r (omega arith),
          three_queues (lock t k) (eqb (lock t k).resource (suc r)),
        )
        (bits (on_queue (lock t k)) r (lock t k).resource)

    -- by its state
    one_chain : bit (eqb (lock t k).state 0) + bit (eqb (lock t k).state 4) + bit (on_queue (lock t k) && within (length t.resources) (lock t k).resource) ≡ 1
    unfolding on_queue
    one_chain = go (lock t k).state refl (ok_numbered (val.core.lock_ok k))
      where
        go : (s : ℕ) → (lock t k).state ≡ s → StateOk (used t) (lock t k) s
            → bit (eqb s 0) + bit (eqb s 4) + bit ((eqb s 1 || (eqb s 2 || eqb s 3)) && within (length t.resources) (lock t k).resource) ≡ 1
        go zero e o = omega arith
        go (suc zero) e o = rw (used_within t (lock t k).resource o.place.in_use) (omega arith)
        go (suc (suc zero)) e o = rw (used_within t (lock t k).resource o.place.in_use) (omega arith)
        go (suc (suc (suc zero))) e o = rw (used_within t (lock t k).resource o.place.in_use) (omega arith)
        go (suc (suc (suc (suc zero)))) e o = omega arith
        go (suc (suc (suc (suc (suc s))))) e o = absurd o

    one_home : home_count (words t) k ≡ 1
    unfolding home_count
    one_home =
        rw (counted free_locks tt, counted denied tt, resources_word t, queues_counted (length t.resources) (omega arith)) one_chain

  -- (c)
  chain_ended : (c : LockChain) → IsChain (words t) c → ends (link_in (words t) (of_locks c)) (locks_in (words t)) (link_in (words t) (of_locks c) 0) ≡ true
  unfolding sound chains_end chain_ends
  chain_ended free_locks i = let h = ok in search parts depth 20
  chain_ended denied i = let h = ok in search parts depth 20
  chain_ended blocked i = let h = ok in search parts depth 20
  chain_ended notices i = let h = ok in search parts depth 20
  chain_ended (queue r q) i = of_queue q
    where
      ended : ℕ → Bool
      ended s = chain_ends (words t) (of_locks (queue s grants)) && chain_ends (words t) (of_locks (queue s converts)) && chain_ends (words t) (of_locks (queue s waits))

      three_ended : ended r ≡ true
      three_ended =
          let h = ok in
          all_at ended (from 1 (resources_in (words t))) (search parts depth 20) r
          (rw (count_from (resources_in (words t)) r, le_within (resources_in (words t)) r i.low i.high) (omega arith))

      of_queue : (q : Queue) → ends (link_in (words t) (of_locks (queue r q))) (locks_in (words t)) (link_in (words t) (of_locks (queue r q)) 0) ≡ true
      of_queue grants = let h = three_ended in search parts depth 20
      of_queue converts = let h = three_ended in search parts depth 20
      of_queue waits = let h = three_ended in search parts depth 20

  -- (d) what does not fit is kept out by a lock
  pub is_lock : (k : ℕ) → within (length t.locks) k ≡ true → IsLock (words t) k
  is_lock k w = let p = within_le (length t.locks) k w in record { low = p.0; high = omega (arith, locks_word t) }

  pub is_resource : (r : ℕ) → within (length t.resources) r ≡ true → IsResource (words t) r
  is_resource r w = let p = within_le (length t.resources) r w in record { low = p.0; high = omega (arith, resources_word t) }

  kept : (r k i m : ℕ) → ((j : ℕ) → j ≢ k → within (length t.locks) j ≡ true → j ≢ i) → fits t r k m ≡ false → kept_out (words t) r i m ≡ true
  unfolding kept_out
  kept r k i m away f =
      by_cases (kept_out (words t) r i m) (λ y. y)
      (λ z. clash (fits t r k m) (true_fits t val.core.linked r k m (λ j n h e. goes j n h e z)) f)
    where
      bars : ℕ → Bool
      bars j = keeps_out r i m j (read_lock (words t) j)

      goes : (j : ℕ) → j ≢ k → holds (lock t j) ≡ true → (lock t j).resource ≡ r → kept_out (words t) r i m ≡ false → compatible (lock t j).held m ≡ true
      goes j n h e z =
          by_cases (compatible (lock t j).held m) (λ y. y)
          (λ c. let w = holder_within t j h in
          let barred : bars j ≡ true = rw (lock_is j (is_lock j w), ne_eqb j i (away j n w), h, eq-eqb (lock t j).resource r e, c) in
          clash (any bars (from 1 (locks_in (words t))))
          (any_intro bars (from 1 (locks_in (words t))) j (rw (locks_word t, count_from (length t.locks) j, w) (omega arith)) barred) z)

  pub head_word : (r : ℕ) → IsResource (words t) r → (q : Queue) → word_in (words t) (of_resource r (queue_head q)) ≡ first (queue_of q (resource t r))
  head_word r i grants = word_read t (of_resource r 1) (queue_present r i 1 (omega arith)) ∙ next_here 0 0 (resource t r).grant refl
  head_word r i converts = word_read t (of_resource r 2) (queue_present r i 2 (omega arith)) ∙ next_here 0 0 (resource t r).convert refl
  head_word r i waits = word_read t (of_resource r 3) (queue_present r i 3 (omega arith)) ∙ next_here 0 0 (resource t r).wait refl

  line_head : (r k : ℕ) (ks : List ℕ) → line t r ≡ k ∷ ks → fits t r k (lock t k).asked ≡ false
  unfolding idle convert_grantable
  line_head r k ks e = not-true (fits t r k (lock t k).asked) (rw e at (val.settled r).still)

  convert_barred : (r : ℕ) → IsResource (words t) r → convert_head (words t) r ≢ 0 → kept_out (words t) r (convert_head (words t) r) (read_lock (words t) (convert_head (words t) r)).asked ≡ true
  unfolding line
  convert_barred r i = rw (head_word r i converts) (go (resource t r).convert refl)
    where
      go : (ks : List ℕ) → (resource t r).convert ≡ ks → first ks ≢ 0 → kept_out (words t) r (first ks) (read_lock (words t) (first ks)).asked ≡ true
      go [] e n = absurd (n refl)
      go (k ∷ ks) e n =
          let w = (on_chain t val.core.linked (queue r converts) k (rw (e, count_same) (omega arith))).0 in
          rw (lock_is k (is_lock k w)) (kept r k k (lock t k).asked (λ j m v. m) (line_head r k (ks ++ (resource t r).wait) (rw e)))

  wait_barred : (r : ℕ) → IsResource (words t) r → wait_head (words t) r ≢ 0 → (conversion_waits (words t) r || kept_out (words t) r 0 (read_lock (words t) (wait_head (words t) r)).asked) ≡ true
  unfolding line
  wait_barred r i = rw (head_word r i waits, head_word r i converts) (go (resource t r).wait (resource t r).convert refl refl)
    where
      go : (ks js : List ℕ) → (resource t r).wait ≡ ks → (resource t r).convert ≡ js → first ks ≢ 0 → (not (eqb (first js) 0) || kept_out (words t) r 0 (read_lock (words t) (first ks)).asked) ≡ true
      go [] js e f n = absurd (n refl)
      go (k ∷ ks) (j ∷ js) e f n =
          let p = within_le (length t.locks) j (on_chain t val.core.linked (queue r converts) j (rw (f, count_same) (omega arith))).0 in
          rw (ne_eqb j 0 (omega arith))
      go (k ∷ ks) [] e f n =
          let w = (on_chain t val.core.linked (queue r waits) k (rw (e, count_same) (omega arith))).0 in
          rw (lock_is k (is_lock k w))
          (kept r k 0 (lock t k).asked (λ j m v q. let p = within_le (length t.locks) j v in omega arith) (line_head r k ks (rw (f, e))))

  -- R-5
  counts_hold : (r : ℕ) → IsResource (words t) r → (m : ℕ) → m ≤ last_mode → word_in (words t) (of_resource r (count_field m)) ≡ locks_that (λ l. holds_mode l r m) (words t)
  counts_hold r i m h =
      word_read t (of_resource r (count_field m)) (i.low, resource_high r i, omega arith)
      ∙ ap (word_value t) (count_word t r m h)
      ∙ tally_locks t val.core r m
      ∙ sym (locks_kept (λ l. holds_mode l r m) t)

  pub queues_hold : QueuesHold (words t) (slots t)
  queues_hold =
      record {
        sound_tables = ok;
        compatible_modes = modes_agree;
        one_home = one_home;
        chains_end = chain_ended;
        convert_heads = convert_barred;
        wait_heads = wait_barred;
        true_counts = counts_hold;
      }
