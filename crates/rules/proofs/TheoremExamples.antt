-- The queue theorem's statement on a list of calls, and R-3's sum on another, by computing: nothing here rests on the theorem's proof. Each must-fail
-- edit of the statement, rules/must-fail/theorem_*, is false of the first list.
use mathlib.Core.Path.{◌≡◌, refl, sym, ap, ◌∙◌}
use mathlib.Core.Bool.{Bool}
use mathlib.Core.List.{List, [], ◌∷◌}
use Prim.Native.Nat.{ℕ, zero, suc, ◌+◌, ◌≤◌}
use native.Mathlib.Omega.{arith}
use lib.ListN.{replicate, length, get_or}
use borrow.Author.Tests.{ne_eqb}
use Rattle.modes.specs.Modes.{NL, CR, EX, matrix, compatible, all_modes, down}
use Rattle.tables.specs.declared.Lock.{Lock}
use Rattle.tables.specs.Lists.{from, count, remove, all, any, keep, first_that, next, same}
use Rattle.tables.specs.State.{Tables, no_value, lock, resource, started, blocked_lock, unread, shift, shift_front, relist, move, move_resource, grants, converts, waits, free_locks, denied, blocked, notices, queue}
use Rattle.tables.specs.Layout.{rows, sheet, by_address, words, slot, slots, follow, read_chain, read_lock, slot_in, read_resource, read}
use Rattle.tables.specs.Grants.{holders, holds_mode, tally, fits, convert_grantable, wait_grantable, grantable_head, no_grantable_head, empty}
use Rattle.tables.specs.Sound.{sizes_right, zeros_right, resource_index, lock_index, indices_right, ends, chain_ends, chains_end, all_zero, free_resource_right, name_unique, used_resource_right, resource_right, stands_right, home_right, client_right, modes_right, on_resource, fields_right, lock_right, linked_right, holders_compatible, counts_right, state_right, sound}
use Rattle.tables.specs.Validity.{Valid}
use Rattle.rules.specs.Queues.{granted_lock, grant_lock, grant_while, grant_converts, grant_waits, sweep, free_lock, settle, find}
use Rattle.rules.specs.Deadlock.{in_the_way, obstacles}
use Rattle.rules.specs.Calls.{Said, accepted, unless, refused_or, stores, spoils, no_queue, request_flags, convert_flags, name_right, value_right, own, strong, with_value, leave_value, larger, mark_lock, mark_locks, tell_obstacles, resource_for, with_resource, granted_at_once, request_on, request_change, at_once, request_refusal, request, in_place, convert_change, convert_refusal, convert, cancel_change, cancel_refusal, cancel, release_flags, release_change, release_refusal, release, locks_of, purge_lock, purge_locks, stands_on, settle_all, how_many, purge_change, purge_refusal, purge, take_notice, poll_notice, poll_change, poll_refusal, poll}
use Rattle.rules.specs.Entries.{Lent, lent, lent_of, Call, step_of, to_cancel, to_purge, to_poll, written_back, if_sound, entry, call_entry}
use Rattle.rules.specs.Bench.{requests_a, converts_to, gives_up}
use Rattle.rules.specs.Theorem.{lent_after_calls, sum_of, requests_cancelled, begins_to_wait, answers_2, polled_completions, cancels_accepted, purged_blocked, purged_unread, locks_that, in_use, by_client, locks_of_client, HeardSum, queue_count, home_count, kept_out, QueuesHold, Demand}
use Rattle.rules.proofs.EveryCall.{started_valid, stepped}
use Rattle.rules.proofs.QueueTheorem.{play, outcome_is, after_is, locks_are}
use Rattle.rules.proofs.LockWeights.{weight_bits}

-- One resource and three locks. Lock 1 holds CR, and lock 2 NL. Lock 2 asks for EX, takes that back and asks again: it waits on the convert chain,
-- kept out by the CR, whose lock has the mark EX. Lock 3 asks for CR, which goes with both held modes: it waits behind the conversion.
abbrev three_locks : List Call
three_locks =
    requests_a 1 CR ∷ requests_a 2 NL ∷ converts_to 2 2 EX ∷ to_cancel 2 2 ∷ converts_to 2 2 EX ∷ requests_a 3 CR ∷ []

-- what they leave: the header, the resource, the three locks; and the resource's slot
abbrev three_left : Lent
three_left =
    lent
    (1 ∷ 3 ∷ 0 ∷ 0 ∷ 0 ∷ 2 ∷ 1 ∷ 0
    ∷ 0 ∷ 1 ∷ 2 ∷ 3 ∷ 1 ∷ 1 ∷ 1 ∷ 1 ∷ 0 ∷ 0 ∷ 0 ∷ 0
    ∷ 0 ∷ 0 ∷ 0 ∷ 1 ∷ 1 ∷ 1 ∷ CR ∷ 0 ∷ 0 ∷ EX
    ∷ 0 ∷ 3 ∷ 0 ∷ 1 ∷ 2 ∷ 2 ∷ NL ∷ EX ∷ 0 ∷ 0
    ∷ 0 ∷ 0 ∷ 0 ∷ 1 ∷ 3 ∷ 3 ∷ 0 ∷ CR ∷ 0 ∷ 0 ∷ [])
    (65 ∷ replicate 95 0)

-- there is no lock 0 and none above 3, no resource 0 and none above 1
none : {A : Type 0} → 1 ≤ 0 → A
none p = absurd (omega arith)

past_3 : {A : Type 0} (k : ℕ) → suc (suc (suc (suc k))) ≤ 3 → A
past_3 k p = absurd (omega arith)

past_5 : {A : Type 0} (m : ℕ) → suc (suc (suc (suc (suc (suc m))))) ≤ 5 → A
past_5 m p = absurd (omega arith)

past_1 : {A : Type 0} (r : ℕ) → suc (suc r) ≤ 1 → A
past_1 r p = absurd (omega arith)

three_hold : QueuesHold three_left.words three_left.slots
unfolding queue_count home_count kept_out locks_that holds_mode keep follow read_chain read_lock slot_in read_resource read lock resource count all any same holders tally fits convert_grantable wait_grantable grantable_head no_grantable_head empty sizes_right zeros_right resource_index lock_index indices_right ends chain_ends chains_end all_zero free_resource_right name_unique used_resource_right resource_right stands_right home_right client_right modes_right on_resource fields_right lock_right linked_right holders_compatible counts_right state_right sound matrix compatible all_modes
three_hold =
    record {
      sound_tables = refl;
      compatible_modes = elim [
        | zero ↦ λ k p. none p.low
        | suc zero ↦ elim [
          | zero ↦ λ p q. none q.low
          | suc zero ↦ λ p q n g h e. refl
          | suc (suc zero) ↦ λ p q n g h e. refl
          | suc (suc (suc zero)) ↦ λ p q n g h e. refl
          | suc (suc (suc (suc k))) ↦ λ p q. past_3 k q.high
        ]
        | suc (suc zero) ↦ elim [
          | zero ↦ λ p q. none q.low
          | suc zero ↦ λ p q n g h e. refl
          | suc (suc zero) ↦ λ p q n g h e. refl
          | suc (suc (suc zero)) ↦ λ p q n g h e. refl
          | suc (suc (suc (suc k))) ↦ λ p q. past_3 k q.high
        ]
        | suc (suc (suc zero)) ↦ elim [
          | zero ↦ λ p q. none q.low
          | suc zero ↦ λ p q n g h e. refl
          | suc (suc zero) ↦ λ p q n g h e. refl
          | suc (suc (suc zero)) ↦ λ p q n g h e. refl
          | suc (suc (suc (suc k))) ↦ λ p q. past_3 k q.high
        ]
        | suc (suc (suc (suc j))) ↦ λ k p. past_3 j p.high
      ];
      one_home = elim [
        | zero ↦ λ p. none p.low
        | suc zero ↦ λ p. refl
        | suc (suc zero) ↦ λ p. refl
        | suc (suc (suc zero)) ↦ λ p. refl
        | suc (suc (suc (suc k))) ↦ λ p. past_3 k p.high
      ];
      chains_end = elim [
        | free_locks ↦ λ p. refl
        | denied ↦ λ p. refl
        | blocked ↦ λ p. refl
        | notices ↦ λ p. refl
        | queue zero q ↦ λ p. none p.low
        | queue (suc zero) grants ↦ λ p. refl
        | queue (suc zero) converts ↦ λ p. refl
        | queue (suc zero) waits ↦ λ p. refl
        | queue (suc (suc r)) q ↦ λ p. past_1 r p.high
      ];
      convert_heads = elim [ zero ↦ λ p n. none p.low | suc zero ↦ λ p n. refl | suc (suc r) ↦ λ p n. past_1 r p.high ];
      wait_heads = elim [ zero ↦ λ p n. none p.low | suc zero ↦ λ p n. refl | suc (suc r) ↦ λ p n. past_1 r p.high ];
      true_counts = elim [
        | zero ↦ λ p. none p.low
        | suc zero ↦ λ p. elim [
          | zero ↦ λ h. refl
          | suc zero ↦ λ h. refl
          | suc (suc zero) ↦ λ h. refl
          | suc (suc (suc zero)) ↦ λ h. refl
          | suc (suc (suc (suc zero))) ↦ λ h. refl
          | suc (suc (suc (suc (suc zero)))) ↦ λ h. refl
          | suc (suc (suc (suc (suc (suc m))))) ↦ λ h. past_5 m h
        ]
        | suc (suc r) ↦ λ p. past_1 r p.high
      ];
    }

-- the terms of the sums: three locks are in use, the two that hold a mode and the one that waits; a cancel that answers 1 took a conversion back, and
-- is no request cancelled
three_in_use : in_use three_left.words ≡ 3
unfolding locks_that keep read_lock
three_in_use = refl

conversion_taken_back : requests_cancelled (to_cancel 2 2) (accepted 1 0) ≡ 0
conversion_taken_back = refl

-- THE DEMAND of these calls: they leave `three_left`, and their answers add up
pub three_locks_hold : Demand three_locks (lent_of (started 1 3))
unfolding lent_after_calls sum_of begins_to_wait locks_that call_entry entry if_sound written_back started no_value lock resource shift shift_front relist move move_resource rows sheet by_address words slot slots follow read_chain read_lock slot_in read_resource read count remove all any keep first_that next same holders tally fits convert_grantable wait_grantable grantable_head no_grantable_head empty sizes_right zeros_right resource_index lock_index indices_right ends chain_ends chains_end all_zero free_resource_right name_unique used_resource_right resource_right stands_right home_right client_right modes_right on_resource fields_right lock_right linked_right holders_compatible counts_right state_right sound granted_lock grant_lock grant_while grant_converts grant_waits sweep free_lock settle find unless refused_or stores spoils no_queue request_flags convert_flags name_right value_right own strong with_value leave_value in_the_way obstacles larger mark_lock mark_locks tell_obstacles resource_for with_resource granted_at_once request_on request_change at_once request_refusal request in_place convert_change convert_refusal convert cancel_change cancel_refusal cancel matrix compatible all_modes down
three_locks_hold = record { queues = three_hold; sums = record { balance = refl; heard_once = refl; heard_by_each = by_each } }
  where
    by_each : (i : ℕ) → HeardSum (λ term. sum_of (by_client i term) three_locks (lent_of (started 1 3))) (λ p. locks_of_client i p three_left.words)
    by_each zero = refl
    by_each (suc zero) = refl
    by_each (suc (suc zero)) = refl
    by_each (suc (suc (suc zero))) = refl
    by_each (suc (suc (suc (suc i)))) =
        let n = suc (suc (suc (suc i))) in
        rw (ne_eqb 1 n (omega arith), ne_eqb 2 n (omega arith), ne_eqb 3 n (omega arith))

-- R-3's sum: each of its terms but the first counts one here. Clients 2 to 5 wait for client 1. Client 5 cancels. Client 2 is granted, polls and
-- releases, client 3 is granted and purged before it polls, client 4 is granted and has not polled. Client 1 waits and is purged, and client 2 waits.
abbrev all_ways : List Call
all_ways =
    requests_a 1 EX ∷ requests_a 2 EX ∷ requests_a 3 EX ∷ requests_a 4 EX ∷ requests_a 5 EX ∷ to_cancel 5 5 ∷ gives_up 1 1 ∷ to_poll 2 ∷ gives_up 2 2
    ∷ to_purge 3 ∷ requests_a 1 EX ∷ to_purge 1 ∷ requests_a 2 EX ∷ []

-- it is computed on states, which is quicker, and carried over by `outcome_is`
unfoldable summed : (Call → Said → ℕ) → List Call → Tables → ℕ
summed term [] t = 0
summed term (c ∷ cs) t = let s = step_of c t in term c s.said + summed term cs s.tables

summed_is : (term : Call → Said → ℕ) (cs : List Call) (t : Tables) → Valid t → sum_of term cs (lent_of t) ≡ summed term cs t
unfolding summed sum_of
summed_is term [] t val = refl
summed_is term (c ∷ cs) t val = rw (outcome_is c t val, summed_is term cs (step_of c t).tables (stepped c t val).valid)

abbrev fresh : Tables
fresh = started 1 5

abbrev term : (Call → Said → ℕ) → ℕ
term f = summed f all_ways fresh

abbrev counted : (Lock → Bool) → ℕ
counted p = length (keep (λ k. p (lock (play all_ways fresh) k)) (from 1 (length (play all_ways fresh).locks)))

abbrev terms : List ℕ
terms =
    term answers_2 ∷ counted blocked_lock ∷ counted unread ∷ term polled_completions ∷ term cancels_accepted ∷ term purged_blocked
    ∷ term purged_unread ∷ []

each_term : terms ≡ (6 ∷ 1 ∷ 1 ∷ 1 ∷ 1 ∷ 1 ∷ 1 ∷ [])
unfolding summed play begins_to_wait started no_value lock resource shift shift_front relist move move_resource remove all any keep first_that same holders fits convert_grantable wait_grantable empty client_right granted_lock grant_lock grant_while grant_converts grant_waits sweep free_lock settle find in_the_way obstacles unless refused_or stores spoils no_queue request_flags release_flags name_right value_right own strong with_value leave_value larger mark_lock mark_locks tell_obstacles resource_for with_resource granted_at_once request_on request_change at_once request_refusal request release_change release_refusal release cancel_change cancel_refusal cancel locks_of purge_lock purge_locks stands_on settle_all how_many purge_change purge_refusal purge take_notice poll_notice poll_change poll_refusal poll matrix compatible
each_term = refl

all_ways_heard : HeardSum (λ f. sum_of f all_ways (lent_of fresh)) (λ p. locks_that p (lent_after_calls all_ways (lent_of fresh)).words)
all_ways_heard =
    rw (after_is all_ways fresh val)
    (omega (
      arith,
      sum_is answers_2,
      sum_is polled_completions,
      sum_is cancels_accepted,
      sum_is purged_blocked,
      sum_is purged_unread,
      count_is blocked_lock,
      count_is unread,
      number 0,
      number 1,
      number 2,
      number 3,
      number 4,
      number 5,
      number 6,
    ))
  where
    val : Valid fresh
    val = started_valid 1 5 (omega arith) (omega arith) (omega arith) (omega arith)

    sum_is : (f : Call → Said → ℕ) → sum_of f all_ways (lent_of fresh) ≡ term f
    sum_is f = summed_is f all_ways fresh val

    count_is : (p : Lock → Bool) → locks_that p (words (play all_ways fresh)) ≡ counted p
    count_is p = locks_are p (play all_ways fresh) ∙ sym (weight_bits p (play all_ways fresh))

    number : (n : ℕ) → get_or terms n 0 ≡ get_or (6 ∷ 1 ∷ 1 ∷ 1 ∷ 1 ∷ 1 ∷ 1 ∷ []) n 0
    number n = ap (λ (xs : List ℕ). get_or xs n 0) each_term
