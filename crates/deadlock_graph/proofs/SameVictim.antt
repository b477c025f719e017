-- The state in the words is the state whose words they are, but for names and values: both have the same victim.
use mathlib.Core.Path.{◌≡◌, refl, sym, ap, ap₂, ◌∙◌}
use mathlib.Core.Bool.{◌&&◌, not}
use mathlib.Core.List.{List, [], map}
use Prim.Native.Nat.{ℕ, zero, suc, ◌+◌, ◌≤◌, ◌<◌}
use native.Mathlib.Omega.{arith}
use native.Mathlib.Nat.{add_comm}
use native.Mathlib.Numerals.{add-one}
use lib.ListN.{get_or, length, get_or-eq_default}
use lib.Dec.{eqb, ltb}
use borrow.Author.Tests.{ltb-true, ltb-false, le-ltb}
use Rattle.modes.specs.Modes.{compatible}
use Rattle.tables.specs.Lists.{from, first_that}
use Rattle.tables.specs.State.{Tables, no_lock, no_resource, lock, resource, Queue, grants, converts, waits, blocked, queue, of_locks, queue_of}
use Rattle.tables.specs.Layout.{words, read_lock, read_resource, read, resources_in}
use Rattle.tables.specs.Grants.{holders}
use Rattle.tables.proofs.Cases.{by_cases}
use Rattle.tables.proofs.Blocks.{tabulated, get_or_map_from, length_map_from}
use Rattle.tables.proofs.ReadBack.{resources_word, locks_word, chain_read, lock_read}
use Rattle.tables.proofs.ThreadedChains.{core_threaded}
use Rattle.tables.specs.Validity.{Core}
use Rattle.tables.proofs.Valid.{absent}
use Rattle.rules.specs.Walks.{reaches}
use Rattle.rules.specs.Deadlock.{ahead, in_the_way, obstacles, leads, deadlocked, victim}
use Rattle.deadlock_graph.specs.Promises.{seen}

-- u has the locks of t, and their chains
pub record Alike (t u : Tables) : Type 0 where
  pub locks : (k : ℕ) → lock u k ≡ lock t k
  pub stopped : u.blocked ≡ t.blocked
  pub queues : (q : Queue) (r : ℕ) → queue_of q (resource u r) ≡ queue_of q (resource t r)

module _ (t : Tables) (core : Core t) where
  lock_told : (k : ℕ) → lock (seen (words t)) k ≡ lock t k
  unfolding seen read lock
  lock_told zero = refl
  lock_told (suc k) =
      ap (λ n. get_or (map (read_lock (words t)) (from 1 n)) k no_lock) (locks_word t)
      ∙ ap (λ ls. get_or ls k no_lock) (tabulated (read_lock (words t)) no_lock 1 t.locks (λ j p. lock_read t (1 + j) (omega arith) (omega arith) ∙ ap (lock t) (add_comm 1 j ∙ add-one j)))

  queue_read : (q : Queue) (r : ℕ) → 1 ≤ r → r ≤ length t.resources → queue_of q (read_resource (words t) [] r) ≡ queue_of q (resource t r)
  unfolding read_resource
  queue_read grants r low high = chain_read t (of_locks (queue r grants)) (core_threaded t core (of_locks (queue r grants)) (low, high, omega arith))
  queue_read converts r low high = chain_read t (of_locks (queue r converts)) (core_threaded t core (of_locks (queue r converts)) (low, high, omega arith))
  queue_read waits r low high = chain_read t (of_locks (queue r waits)) (core_threaded t core (of_locks (queue r waits)) (low, high, omega arith))

  resource_inside : (k : ℕ) → k < length t.resources → resource (seen (words t)) (suc k) ≡ read_resource (words t) [] (suc k)
  unfolding seen read resource
  resource_inside k p =
      ap (λ n. get_or (map (read_resource (words t) []) (from 1 n)) k no_resource) (resources_word t)
      ∙ get_or_map_from (read_resource (words t) []) no_resource 1 (length t.resources) k p
      ∙ ap (read_resource (words t) []) (add_comm 1 k ∙ add-one k)

  resource_outside : (k : ℕ) → length t.resources ≤ k → resource (seen (words t)) (suc k) ≡ no_resource
  unfolding seen read resource
  resource_outside k p =
      get_or-eq_default (map (read_resource (words t) []) (from 1 (resources_in (words t)))) no_resource
      (rw (length_map_from (read_resource (words t) []) 1 (resources_in (words t)), resources_word t) p)

  queue_told : (q : Queue) (r : ℕ) → queue_of q (resource (seen (words t)) r) ≡ queue_of q (resource t r)
  queue_told q zero = unfold resource in refl
  queue_told q (suc k) =
      by_cases (ltb k (length t.resources))
      (λ h. let p = ltb-true k (length t.resources) h in ap (queue_of q) (resource_inside k p) ∙ queue_read q (suc k) (omega arith) p)
      (λ h. let p = ltb-false k (length t.resources) h in ap (queue_of q) (resource_outside k p ∙ sym (absent t (suc k) (le-ltb k (length t.resources) p))))

  blocked_told : (seen (words t)).blocked ≡ t.blocked
  unfolding seen read
  blocked_told = chain_read t (of_locks blocked) (core_threaded t core (of_locks blocked) (omega arith))

  pub alike : (ws : List ℕ) → ws ≡ words t → Alike t (seen ws)
  alike ws e = rw e (record { locks = lock_told; stopped = blocked_told; queues = queue_told })

module _ (t u : Tables) (a : Alike t u) where
  grant_is : (r : ℕ) → (resource u r).grant ≡ (resource t r).grant
  grant_is r = a.queues grants r

  convert_is : (r : ℕ) → (resource u r).convert ≡ (resource t r).convert
  convert_is r = a.queues converts r

  wait_is : (r : ℕ) → (resource u r).wait ≡ (resource t r).wait
  wait_is r = a.queues waits r

  pub ahead_alike : (k : ℕ) → ahead u k ≡ ahead t k
  unfolding ahead
  ahead_alike k = simp (a.locks, convert_is, wait_is)

  way_alike : (k : ℕ) → in_the_way u k ≡ in_the_way t k
  unfolding in_the_way
  way_alike k = λ i j. not (eqb j k) && not (compatible (a.locks j i).held (a.locks k i).asked)

  pub obstacles_alike : (k : ℕ) → obstacles u k ≡ obstacles t k
  unfolding obstacles holders
  obstacles_alike k = simp (way_alike, a.locks, grant_is, convert_is)

  pub leads_alike : (j k : ℕ) → leads u j k ≡ leads t j k
  unfolding leads
  leads_alike j k = simp (a.locks, ahead_alike, obstacles_alike)

  leads_same : leads u ≡ leads t
  leads_same = λ i j k. leads_alike j k i

  deadlocked_alike : deadlocked u ≡ deadlocked t
  unfolding deadlocked
  deadlocked_alike = λ i k. reaches (leads_same i) (a.stopped i) (length (a.stopped i)) k k

  pub victim_alike : victim u ≡ victim t
  unfolding victim
  victim_alike = ap₂ first_that deadlocked_alike a.stopped
