-- Sound tables pass the check.
use mathlib.Core.Path.{◌≡◌, refl, ap, ◌∙◌}
use mathlib.Core.Bool.{true, ◌&&◌, ◌||◌, cond}
use mathlib.Core.List.{List}
use Prim.Native.Nat.{ℕ, zero, suc, ◌+◌, ◌*◌, ◌≤◌, ◌<◌}
use native.Mathlib.Omega.{arith}
use lib.ListN.{length}
use lib.Dec.{eqb}
use borrow.Author.Tests.{eqb-true, eq-eqb, le-leb}
use Rattle.tables.specs.declared.Lock.{Lock}
use Rattle.tables.specs.Lists.{within, count, bit, all, from}
use Rattle.tables.specs.State.{blocked_lock, noticed, Queue, grants, converts, waits, LockChain, free_locks, denied, blocked, notices, queue, Chain, free_resources, of_locks, chain, chain_of, belongs}
use Rattle.tables.specs.Layout.{of_header, of_lock, queue_head, resource_width, head, slot_width, resources_in, locks_in, word_in, most, link_in, read_chain, read_lock, read, held_in}
use Rattle.tables.specs.Sound.{sizes_right, ends, chain_ends, resource_right, fields_right, state_right, sound}
use Rattle.tables.proofs.Cases.{by_cases, and_left, and_right, and_intro, or_right, parts}
use Rattle.tables.proofs.Counts.{le_within, all_intro, bit_one}
use Rattle.tables.proofs.Links.{counted_on, each_on}
use Rattle.tables.specs.Validity.{used, Place}
use Rattle.tables.proofs.StateCases.{StateOk, ok_named}
use Rattle.tables.proofs.Valid.{ok_at, modes_low}
use Rattle.tables.specs.Threads.{Within}
use Rattle.tables.proofs.ReadState.{lock_of, used_in}
use Rattle.tables.proofs.Conditions.{each_at, each_intro, state, locks_low, slots_sized, header_zero, counts_true, chain_ended, chain_inside, fields_tested, stands_as, blocked_off, notice_off, compatible_tested, heads_tested}
use Rattle.tables.proofs.Fields.{fields_are}
use Rattle.tables.proofs.ChainMembers.{on_queue}
use Rattle.check_laws.specs.Check.{resource_fine, on_named, fields_fine, links_fine, lock_fine, stands, home_on, fitting, check}
use Rattle.check_laws.proofs.ChainSteps.{Passed}
use Rattle.check_laws.proofs.ResourceWalk.{queue_in, Right, Walked}
use Rattle.check_laws.proofs.Heads.{ModesLow, grants_read, converts_read, waits_read, fit_is, heads_are}
use Rattle.check_laws.proofs.TrueCounts.{true_fine}
use Rattle.check_laws.proofs.RecordTests.{fields_same, right_fine, right_spare, right_unique, unique_names}
use Rattle.check_laws.proofs.Sides.{Spare, Blocked, Noticed, side_spare, side_blocked, side_notice}
use Rattle.check_laws.proofs.Homes.{free_in, denied_in, Homes, homes_are}
use Rattle.check_laws.proofs.Once.{state_of, Stands, stand_total}
use Rattle.modes.specs.Sets.{fits_set}

-- the tests of the members of a home chain
on_home : (ws : List ℕ) (s r k : ℕ) → k ≤ locks_in ws → (read_lock ws k).state ≡ s → (read_lock ws k).resource ≡ r → lock_fine ws k ≡ true → home_on ws s r k ≡ true
unfolding home_on stands
on_home ws s r k p a b f = rw (le-leb k (locks_in ws) p, eq-eqb (read_lock ws k).state s a, eq-eqb (read_lock ws k).resource r b, f)

queue_field : (q : Queue) → queue_head q < resource_width
queue_field grants = omega arith
queue_field converts = omega arith
queue_field waits = omega arith

module _ (ws ss : List ℕ) (h : sound ws ss ≡ true) where
  sizes : sizes_right ws ss ≡ true
  unfolding sound
  sizes = search parts depth 20

  some : 1 ≤ locks_in ws
  some = locks_low ws ss h

  sized : length ss ≡ slot_width * resources_in ws
  sized = slots_sized ws ss h

  -- RECORDS
  resource_is : (r : ℕ) → 1 ≤ r → r ≤ resources_in ws → resource_right ws ss (read ws ss) r ≡ true
  unfolding state_right
  resource_is r p q = let z = state ws ss h in each_at (resource_right ws ss (read ws ss)) (resources_in ws) (search parts depth 20) r p q

  resources_pass : all (resource_fine ws ss) (from 1 (resources_in ws)) ≡ true
  resources_pass =
      each_intro (resource_fine ws ss) (resources_in ws)
      (λ r p q. right_fine ws ss sized some r p q (counts_true ws ss h r p q) (resource_is r p q))

  fields : (k : ℕ) → 1 ≤ k → k ≤ locks_in ws → fields_right (read ws ss) (read_lock ws k) (read_lock ws k).state ≡ true
  fields k p q = rw (lock_of ws ss k p q) at (fields_tested ws ss h k p q)

  ok : (k : ℕ) → 1 ≤ k → k ≤ locks_in ws → StateOk (used (read ws ss)) (read_lock ws k) (read_lock ws k).state
  ok k p q = fields_are (read ws ss) (read_lock ws k) (read_lock ws k).state refl (fields k p q)

  modes : ModesLow ws
  modes k p q = modes_low (used (read ws ss)) (read_lock ws k) (read_lock ws k).state (ok k p q)

  lock_passes : (k : ℕ) → 1 ≤ k → k ≤ locks_in ws → lock_fine ws k ≡ true
  unfolding lock_fine links_fine
  lock_passes zero p q = absurd (omega arith)
  lock_passes (suc k) p q =
      and_intro (fields_fine (on_named ws (read_lock ws (suc k)).resource) (read_lock ws (suc k))) _ (fields_same ws ss sized (read_lock ws (suc k)) ∙ fields (suc k) p q)
      (and_intro (blocked_lock (read_lock ws (suc k)) || eqb (word_in ws (of_lock (suc k) 1)) 0) _
      (by_cases (blocked_lock (read_lock ws (suc k)))
      (λ b. rw b)
      (λ b. or_right (blocked_lock (read_lock ws (suc k))) _ (eq-eqb _ 0 (blocked_off ws ss h (suc k) p q (rw (lock_of ws ss (suc k) p q) b)))))
      (by_cases (noticed (read_lock ws (suc k)))
      (λ b. rw b)
      (λ b. or_right (noticed (read_lock ws (suc k))) _ (eq-eqb _ 0 (notice_off ws ss h (suc k) p q (rw (lock_of ws ss (suc k) p q) b))))))

  -- CHAINS
  ended : (c : Chain) → Within (resources_in ws) (locks_in ws) (head c) → ends (link_in ws c) (most (resources_in ws) (locks_in ws) c) (link_in ws c 0) ≡ true
  unfolding chain_ends
  ended c i = chain_ended ws ss h c i

  inside : (c : Chain) → Within (resources_in ws) (locks_in ws) (head c) → (k : ℕ) → 1 ≤ count k (chain_of c (read ws ss)) → (1 ≤ k) × (k ≤ most (resources_in ws) (locks_in ws) c)
  inside c i k m = each_on (λ k. (1 ≤ k) × (k ≤ most (resources_in ws) (locks_in ws) c)) (chain_of c (read ws ss)) k (chain_inside ws ss h c i) (counted_on k (chain_of c (read ws ss)) m)

  counts : (c : LockChain) → Within (resources_in ws) (locks_in ws) (head (of_locks c)) → (k : ℕ) → 1 ≤ k → k ≤ locks_in ws → count k (chain (read ws ss) c) ≡ bit (belongs c (read_lock ws k))
  counts c i k p q = stands_as ws ss h k p q c i ∙ (rw (lock_of ws ss k p q))

  spare : Spare ws
  unfolding read read_chain
  spare = record { ended = ended free_resources (omega arith); inside = inside free_resources (omega arith); counts = λ r p q. right_spare ws ss sized some r p q (resource_is r p q) }

  blocked_are : Blocked ws
  unfolding read read_chain
  blocked_are = record { ended = ended (of_locks blocked) (omega arith); inside = inside (of_locks blocked) (omega arith); counts = counts blocked (omega arith) }

  noticed_are : Noticed ws
  unfolding read read_chain
  noticed_are = record { ended = ended (of_locks notices) (omega arith); inside = inside (of_locks notices) (omega arith); counts = counts notices (omega arith) }

  -- HOMES
  chain_read : (r : ℕ) → 1 ≤ r → r ≤ resources_in ws → (q : Queue) → chain (read ws ss) (queue r q) ≡ queue_in ws r q
  chain_read r a b grants = grants_read ws ss r a b
  chain_read r a b converts = converts_read ws ss r a b
  chain_read r a b waits = waits_read ws ss r a b

  belongs_is : (r : ℕ) (q : Queue) (l : Lock) → belongs (queue r q) l ≡ (eqb l.state (state_of q) && eqb l.resource r)
  belongs_is r grants l = refl
  belongs_is r converts l = refl
  belongs_is r waits l = refl

  stood : (k : ℕ) → 1 ≤ k → k ≤ locks_in ws → Stands ws k
  stood k p q =
      record {
        free = let z = counts free_locks (omega arith) k p q in unfold read read_chain free_in in z;
        denied = let z = counts denied (omega arith) k p q in unfold read read_chain denied_in in z;
        queued = λ r a b i. rw (chain_read r a b i, belongs_is r i (read_lock ws k)) at (counts (queue r i) (a, b, queue_field i) k p q);
      }

  -- what is free or denied has no resource
  free_passes : Passed (link_in ws (of_locks free_locks)) (home_on ws 0 0) (locks_in ws) (word_in ws (of_header 3))
  unfolding read read_chain
  free_passes =
      record {
        ended = ended (of_locks free_locks) (omega arith);
        tested = all_intro (home_on ws 0 0) (read ws ss).free_locks (λ k m.
            let i = inside (of_locks free_locks) (omega arith) k m in
            let e : (read_lock ws k).state ≡ 0 = eqb-true _ 0 (bit_one _ (rw (counts free_locks (omega arith) k i.0 i.1) at m)) in
            on_home ws 0 0 k i.1 e (nowhere k (ok k i.0 i.1) e) (lock_passes k i.0 i.1));
      }
    where
      nowhere : (k : ℕ) → StateOk (used (read ws ss)) (read_lock ws k) (read_lock ws k).state → (read_lock ws k).state ≡ 0 → (read_lock ws k).resource ≡ 0
      nowhere k o e = ap (λ (l : Lock). l.resource) (ok_at (used (read ws ss)) (read_lock ws k) 0 (ok_named o) (eq-eqb _ 0 e))

  denied_passes : Passed (link_in ws (of_locks denied)) (home_on ws 4 0) (locks_in ws) (word_in ws (of_header 4))
  unfolding read read_chain
  denied_passes =
      record {
        ended = ended (of_locks denied) (omega arith);
        tested = all_intro (home_on ws 4 0) (read ws ss).denied (λ k m.
            let i = inside (of_locks denied) (omega arith) k m in
            let b : eqb (read_lock ws k).state 4 ≡ true = bit_one _ (rw (counts denied (omega arith) k i.0 i.1) at m) in
            on_home ws 4 0 k i.1 (eqb-true _ 4 b) (ok_at (used (read ws ss)) (read_lock ws k) 4 (ok_named (ok k i.0 i.1)) b).nowhere (lock_passes k i.0 i.1));
      }

  module _ (r : ℕ) (low : 1 ≤ r) (high : r ≤ resources_in ws) where
    queue_passes : (q : Queue) → Right ws r q (state_of q)
    unfolding queue_in
    queue_passes q =
        record {
          ended = ended (of_locks (queue r q)) (low, high, queue_field q);
          tested = all_intro (home_on ws (state_of q) r) (queue_in ws r q) (λ k m.
              let i = inside (of_locks (queue r q)) (low, high, queue_field q) k (rw (chain_read r low high q) m) in
              let b : (eqb (read_lock ws k).state (state_of q) && eqb (read_lock ws k).resource r) ≡ true = bit_one _ (rw ((stood k i.0 i.1).queued r low high q) at m) in
              on_home ws (state_of q) r k i.1 (eqb-true _ (state_of q) (and_left _ (eqb (read_lock ws k).resource r) b)) (eqb-true _ r (and_right (eqb (read_lock ws k).state (state_of q)) _ b)) (lock_passes k i.0 i.1));
        }

    walks : Walked ws r
    walks =
        let g = queue_passes grants in
        let c = queue_passes converts in
        let w = queue_passes waits in
        let fits = fit_is ws ss r low high some modes g c w ∙ compatible_tested ws ss h r low high in
        record {
          granted = g;
          converting = c;
          waiting = w;
          fit = and_left (fitting fits_set (held_in ws) 0 (queue_in ws r grants)) _ fits;
          beyond = and_right (fitting fits_set (held_in ws) 0 (queue_in ws r grants)) _ fits;
          counts = true_fine ws ss r low high some modes g c w (counts_true ws ss h r low high);
          heads = heads_are ws ss r low high some modes g c w ∙ heads_tested ws ss h r low high;
        }

  homes : Homes ws
  homes = record { free = free_passes; denied = denied_passes; walked = walks }

  one_home : (k : ℕ) → 1 ≤ k → k ≤ locks_in ws →
      bit (eqb (read_lock ws k).state 0) + (bit (eqb (read_lock ws k).state 4) + cond (on_queue (read_lock ws k)) (bit (within (resources_in ws) (read_lock ws k).resource)) 0) ≡ 1
  unfolding on_queue
  one_home k p q = go (read_lock ws k).state (ok k p q)
    where
      housed : Place (used (read ws ss)) (read_lock ws k) → within (resources_in ws) (read_lock ws k).resource ≡ true
      housed o = let i = used_in ws ss (read_lock ws k).resource o.in_use in le_within _ _ i.0 i.1

      go : (s : ℕ) → StateOk (used (read ws ss)) (read_lock ws k) s →
          bit (eqb s 0) + (bit (eqb s 4) + cond (eqb s 1 || (eqb s 2 || eqb s 3)) (bit (within (resources_in ws) (read_lock ws k).resource)) 0) ≡ 1
      go zero o = omega arith
      go (suc zero) o = rw (housed o.place) (omega arith)
      go (suc (suc zero)) o = rw (housed o.place) (omega arith)
      go (suc (suc (suc zero))) o = rw (housed o.place) (omega arith)
      go (suc (suc (suc (suc zero)))) o = omega arith
      go (suc (suc (suc (suc (suc n))))) o = absurd o

  pub sound_check : check ws ss ≡ true
  unfolding check
  sound_check =
      and_intro _ _ sizes (and_intro _ _ (eq-eqb _ 0 (header_zero ws ss h)) (and_intro _ _ resources_pass (and_intro _ _ (homes_are ws homes (stand_total ws homes stood one_home))
      (and_intro _ _ (side_spare ws spare) (and_intro _ _ (side_blocked ws blocked_are) (and_intro _ _ (side_notice ws noticed_are)
      (unique_names ws ss sized (λ r p q u. right_unique ws ss sized some r p q (resource_is r p q) u))))))))
