-- What sound words and slots are, condition by condition.
use mathlib.Core.Path.{◌≡◌, refl, sym, ap}
use mathlib.Core.Logic.{◌≢◌}
use mathlib.Core.Bool.{Bool, true, false, ◌&&◌, ◌||◌, not}
use mathlib.Core.List.{List, [], ◌∷◌}
use Prim.Native.Nat.{ℕ, zero, suc, ◌*◌, ◌≤◌}
use native.Mathlib.Omega.{arith}
use lib.ListN.{length, take, drop}
use lib.Seq.{length-take-le}
use lib.Dec.{eqb}
use borrow.Author.Tests.{eqb-true, eq-eqb, ne_eqb, leb-true}
use Rattle.modes.proofs.Laws.{all_modes_at}
use Rattle.tables.specs.Lists.{count, bit, all, from, next, same}
use Rattle.tables.specs.State.{Resource, Tables, name_width, lock, resource, grants, converts, waits, LockChain, free_locks, denied, blocked, notices, queue, Chain, free_resources, of_locks, chain, chain_of, belongs, most_resources, most_locks}
use Rattle.tables.specs.Layout.{of_header, of_resource, of_lock, size, head, count_field, slot_width, resources_in, locks_in, word_in, most, link_in, read_chain, slot_in, read_resource, read}
use Rattle.tables.specs.Sound.{sizes_right, zeros_right, resource_index, lock_index, indices_right, chain_ends, chains_end, all_zero, free_resource_right, name_unique, used_resource_right, resource_right, stands_right, home_right, fields_right, lock_right, linked_right, holders_compatible, counts_right, state_right, sound}
use Rattle.tables.specs.Grants.{tally, no_grantable_head}
use Rattle.tables.proofs.Cases.{by_cases, by_equal, clash, and_left, or_left, or_right, parts}
use Rattle.tables.proofs.Counts.{le_within, count_from, all_at, all_intro, same_eq, same_refl, from_in}
use Rattle.tables.specs.Threads.{Absent, Distinct, Each}
use Rattle.tables.specs.Threads.{Within}
use Rattle.tables.proofs.FollowedChains.{Runs, ends_runs, runs_distinct, runs_no_zero, runs_within, runs_next}
use Rattle.tables.proofs.ReadState.{resources_read, resource_of, chain_followed, zero_take, zero_drop, slot_in_length}

-- a test of each of 1..n
pub each_at : (p : ℕ → Bool) (n : ℕ) → all p (from 1 n) ≡ true → (k : ℕ) → 1 ≤ k → k ≤ n → p k ≡ true
each_at p n h k a b = all_at p (from 1 n) h k (rw (count_from n k, le_within n k a b) (omega arith))

pub each_intro : (p : ℕ → Bool) (n : ℕ) → ((k : ℕ) → 1 ≤ k → k ≤ n → p k ≡ true) → all p (from 1 n) ≡ true
each_intro p n h =
    all_intro p (from 1 n) (λ k m. let w = from_in n k m in h k w.0 w.1)

-- "a name .. that no other has"
pub differ_names : (t : Tables) (r : ℕ) → ((s : ℕ) → 1 ≤ s → s ≤ length t.resources → s ≢ r → (resource t s).name ≢ (resource t r).name) → name_unique t r ≡ true
unfolding name_unique
differ_names t r h =
    each_intro (λ s. eqb r s || not (same (resource t r).name (resource t s).name)) (length t.resources)
    (λ s p q. by_equal r s
    (λ e. or_left _ _ (eq-eqb r s e))
    (λ n. or_right (eqb r s) _ (by_cases (same (resource t r).name (resource t s).name)
    (λ y. absurd (h s p q (λ e. n (sym e)) (sym (same_eq (resource t r).name (resource t s).name y))))
    (λ y. rw y))))

pub names_differ : (t : Tables) (r : ℕ) → name_unique t r ≡ true → (s : ℕ) → 1 ≤ s → s ≤ length t.resources → s ≢ r → (resource t s).name ≢ (resource t r).name
unfolding name_unique
names_differ t r u s p q n y =
    let a = each_at (λ s. eqb r s || not (same (resource t r).name (resource t s).name)) (length t.resources) u s p q in
    clash false (rw (ne_eqb r s (λ e. n (sym e)), y, same_refl (resource t r).name) at a) refl

-- every index is 0 or a record's number
module _ (ws : List ℕ) (indices : indices_right ws ≡ true) where
  resource_indices : (r : ℕ) → 1 ≤ r → r ≤ resources_in ws →
      (resource_index ws (word_in ws (of_resource r 0)) && all (λ f. lock_index ws (word_in ws (of_resource r f))) (1 ∷ 2 ∷ 3 ∷ [])) ≡ true
  unfolding indices_right
  resource_indices r p q = each_at (λ r. resource_index ws (word_in ws (of_resource r 0)) && all (λ f. lock_index ws (word_in ws (of_resource r f))) (1 ∷ 2 ∷ 3 ∷ [])) (resources_in ws) (search parts depth 20) r p q

  lock_indices : (k : ℕ) → 1 ≤ k → k ≤ locks_in ws →
      (all (λ f. lock_index ws (word_in ws (of_lock k f))) (0 ∷ 1 ∷ 2 ∷ []) && resource_index ws (word_in ws (of_lock k 3))) ≡ true
  unfolding indices_right
  lock_indices k p q = each_at (λ k. all (λ f. lock_index ws (word_in ws (of_lock k f))) (0 ∷ 1 ∷ 2 ∷ []) && resource_index ws (word_in ws (of_lock k 3))) (locks_in ws) (search parts depth 20) k p q

  header_indices : (resource_index ws (word_in ws (of_header 2)) && all (λ f. lock_index ws (word_in ws (of_header f))) (3 ∷ 4 ∷ 5 ∷ 6 ∷ [])) ≡ true
  unfolding indices_right
  header_indices = and_left _ _ (and_left _ _ indices)

  pub link_index : (c : Chain) → Within (resources_in ws) (locks_in ws) (head c) → (k : ℕ) → k ≤ most (resources_in ws) (locks_in ws) c → link_in ws c k ≤ most (resources_in ws) (locks_in ws) c
  unfolding all resource_index lock_index
  link_index free_resources i zero p = let z = header_indices in leb-true _ _ (search parts depth 20)
  link_index free_resources i (suc k) p = let z = resource_indices (suc k) (omega arith) p in leb-true _ _ (search parts depth 20)
  link_index (of_locks free_locks) i zero p = let z = header_indices in leb-true _ _ (search parts depth 20)
  link_index (of_locks free_locks) i (suc k) p = let z = lock_indices (suc k) (omega arith) p in leb-true _ _ (search parts depth 20)
  link_index (of_locks denied) i zero p = let z = header_indices in leb-true _ _ (search parts depth 20)
  link_index (of_locks denied) i (suc k) p = let z = lock_indices (suc k) (omega arith) p in leb-true _ _ (search parts depth 20)
  link_index (of_locks blocked) i zero p = let z = header_indices in leb-true _ _ (search parts depth 20)
  link_index (of_locks blocked) i (suc k) p = let z = lock_indices (suc k) (omega arith) p in leb-true _ _ (search parts depth 20)
  link_index (of_locks notices) i zero p = let z = header_indices in leb-true _ _ (search parts depth 20)
  link_index (of_locks notices) i (suc k) p = let z = lock_indices (suc k) (omega arith) p in leb-true _ _ (search parts depth 20)
  link_index (of_locks (queue r grants)) i zero p = let z = resource_indices r i.0 i.1 in leb-true _ _ (search parts depth 20)
  link_index (of_locks (queue r converts)) i zero p = let z = resource_indices r i.0 i.1 in leb-true _ _ (search parts depth 20)
  link_index (of_locks (queue r waits)) i zero p = let z = resource_indices r i.0 i.1 in leb-true _ _ (search parts depth 20)
  link_index (of_locks (queue r q)) i (suc k) p = let z = lock_indices (suc k) (omega arith) p in leb-true _ _ (search parts depth 20)

module _ (ws ss : List ℕ) (h : sound ws ss ≡ true) where
  sizes : sizes_right ws ss ≡ true
  unfolding sound
  sizes = search parts depth 20

  zeros : zeros_right ws ≡ true
  unfolding sound
  zeros = search parts depth 20

  pub indices : indices_right ws ≡ true
  unfolding sound
  indices = search parts depth 20

  endings : chains_end ws ≡ true
  unfolding sound
  endings = search parts depth 20

  pub state : state_right ws ss (read ws ss) ≡ true
  unfolding sound
  state = search parts depth 20

  -- 1. sizes and lengths; words given as zero
  pub resources_low : 1 ≤ resources_in ws
  unfolding sizes_right
  resources_low = let z = sizes in leb-true 1 (resources_in ws) (search parts depth 20)

  pub resources_high : resources_in ws ≤ most_resources
  unfolding sizes_right
  resources_high = let z = sizes in leb-true (resources_in ws) most_resources (search parts depth 20)

  pub locks_low : 1 ≤ locks_in ws
  unfolding sizes_right
  locks_low = let z = sizes in leb-true 1 (locks_in ws) (search parts depth 20)

  pub locks_high : locks_in ws ≤ most_locks
  unfolding sizes_right
  locks_high = let z = sizes in leb-true (locks_in ws) most_locks (search parts depth 20)

  pub words_sized : length ws ≡ size (resources_in ws) (locks_in ws)
  unfolding sizes_right
  words_sized = let z = sizes in eqb-true (length ws) (size (resources_in ws) (locks_in ws)) (search parts depth 20)

  pub slots_sized : length ss ≡ slot_width * resources_in ws
  unfolding sizes_right
  slots_sized = let z = sizes in eqb-true (length ss) (slot_width * resources_in ws) (search parts depth 20)

  pub header_zero : word_in ws (of_header 7) ≡ 0
  unfolding zeros_right
  header_zero = eqb-true (word_in ws (of_header 7)) 0 zeros

  -- counts are true
  counts_tested : (r : ℕ) → 1 ≤ r → r ≤ resources_in ws → counts_right ws (read ws ss) r ≡ true
  unfolding state_right
  counts_tested r p q = let z = state in each_at (counts_right ws (read ws ss)) (resources_in ws) (search parts depth 20) r p q

  pub counts_true : (r : ℕ) → 1 ≤ r → r ≤ resources_in ws → (m : ℕ) → m ≤ 5 → word_in ws (of_resource r (count_field m)) ≡ tally (read ws ss) r m
  unfolding counts_right
  counts_true r p q m n =
      eqb-true (word_in ws (of_resource r (count_field m))) (tally (read ws ss) r m)
      (all_modes_at (λ m. eqb (word_in ws (of_resource r (count_field m))) (tally (read ws ss) r m)) (counts_tested r p q) m n)

  -- every chain ends
  queues_end : (r : ℕ) → 1 ≤ r → r ≤ resources_in ws →
      (chain_ends ws (of_locks (queue r grants)) && chain_ends ws (of_locks (queue r converts)) && chain_ends ws (of_locks (queue r waits))) ≡ true
  unfolding chains_end
  queues_end r p q = let z = endings in each_at (λ r. chain_ends ws (of_locks (queue r grants)) && chain_ends ws (of_locks (queue r converts)) && chain_ends ws (of_locks (queue r waits))) (resources_in ws) (search parts depth 20) r p q

  pub chain_ended : (c : Chain) → Within (resources_in ws) (locks_in ws) (head c) → chain_ends ws c ≡ true
  unfolding chains_end
  chain_ended free_resources i = let z = endings in search parts depth 20
  chain_ended (of_locks free_locks) i = let z = endings in search parts depth 20
  chain_ended (of_locks denied) i = let z = endings in search parts depth 20
  chain_ended (of_locks blocked) i = let z = endings in search parts depth 20
  chain_ended (of_locks notices) i = let z = endings in search parts depth 20
  chain_ended (of_locks (queue r grants)) i = let z = queues_end r i.0 i.1 in search parts depth 20
  chain_ended (of_locks (queue r converts)) i = let z = queues_end r i.0 i.1 in search parts depth 20
  chain_ended (of_locks (queue r waits)) i = let z = queues_end r i.0 i.1 in search parts depth 20

  -- so a chain of the state is what its links say, has no repeats, and has only numbers of records
  module _ (c : Chain) (i : Within (resources_in ws) (locks_in ws) (head c)) where
    chain_runs : Runs (link_in ws c) (link_in ws c 0) (chain_of c (read ws ss))
    unfolding read_chain chain_ends
    chain_runs = rw (chain_followed ws ss c i) (ends_runs (link_in ws c) (most (resources_in ws) (locks_in ws) c) (link_in ws c 0) (chain_ended c i))

    pub chain_distinct : Distinct (chain_of c (read ws ss))
    chain_distinct = runs_distinct (link_in ws c) (link_in ws c 0) (chain_of c (read ws ss)) chain_runs

    pub chain_inside : Each (λ k. (1 ≤ k) × (k ≤ most (resources_in ws) (locks_in ws) c)) (chain_of c (read ws ss))
    chain_inside = runs_within (link_in ws c) _ (link_in ws c 0) (chain_of c (read ws ss)) (λ k p q. link_index ws indices c i k q) (link_index ws indices c i 0 (omega arith)) chain_runs

    pub chain_links : (k : ℕ) → (Absent k (0 ∷ chain_of c (read ws ss)) → ⊥) → link_in ws c k ≡ next k (0 ∷ chain_of c (read ws ss))
    chain_links k o = sym (runs_next (link_in ws c) 0 k (chain_of c (read ws ss)) chain_runs (runs_no_zero (link_in ws c) (link_in ws c 0) (chain_of c (read ws ss)) chain_runs) o)

  -- 2. a resource that there is: free, with no name; or in use
  module _ (r : ℕ) (low : 1 ≤ r) (high : r ≤ resources_in ws) where
    resource_tested : resource_right ws ss (read ws ss) r ≡ true
    unfolding state_right
    resource_tested = let z = state in each_at (resource_right ws ss (read ws ss)) (resources_in ws) (search parts depth 20) r low high

    pub by_use : {A : Type 0} →
        (word_in ws (of_resource r 4) ≡ 0 → free_resource_right ws ss (read ws ss) r ≡ true → A) → (1 ≤ word_in ws (of_resource r 4) → used_resource_right ws ss (read ws ss) r ≡ true → A) → A
    unfolding resource_right
    by_use f g =
        let z = resource_tested in
        by_equal (word_in ws (of_resource r 4)) 0
        (λ e. f e (rw e at z))
        (λ n. g (omega arith) (rw (ne_eqb (word_in ws (of_resource r 4)) 0 n) at z))

    pub name_short : word_in ws (of_resource r 4) ≤ name_width
    unfolding used_resource_right
    name_short = by_use (λ e z. omega arith) (λ n z. leb-true (word_in ws (of_resource r 4)) name_width (search parts depth 20))

    pub name_zeros : all_zero (drop (word_in ws (of_resource r 4)) (take name_width (slot_in ss r))) ≡ true
    unfolding used_resource_right free_resource_right
    name_zeros =
        by_use
        (λ e z. let all_of_it : all_zero (slot_in ss r) ≡ true = search parts depth 20 in zero_drop (word_in ws (of_resource r 4)) (take name_width (slot_in ss r)) (zero_take name_width (slot_in ss r) all_of_it))
        (λ n z. search parts depth 20)

    pub slot_wide : length (slot_in ss r) ≡ slot_width
    slot_wide = slot_in_length ws ss slots_sized r low high

    pub name_is : (resource (read ws ss) r).name ≡ take (word_in ws (of_resource r 4)) (slot_in ss r)
    unfolding read_resource
    name_is = ap (λ (x : Resource). x.name) (resource_of ws ss r low high)

    pub name_length : length (resource (read ws ss) r).name ≡ word_in ws (of_resource r 4)
    name_length = rw name_is (length-take-le _ (slot_in ss r) (omega (arith, name_short, slot_wide)))

    pub value_is : (resource (read ws ss) r).value ≡ drop name_width (slot_in ss r)
    unfolding read_resource
    value_is = ap (λ (x : Resource). x.value) (resource_of ws ss r low high)

    pub valid_is : (resource (read ws ss) r).valid ≡ word_in ws (of_resource r 5)
    unfolding read_resource
    valid_is = ap (λ (x : Resource). x.valid) (resource_of ws ss r low high)

  -- 3, 4. a lock that there is
  module _ (k : ℕ) (low : 1 ≤ k) (high : k ≤ locks_in ws) where
    pub lock_tested : lock_right (read ws ss) k ≡ true
    unfolding state_right
    lock_tested = let z = state in each_at (lock_right (read ws ss)) (locks_in ws) (search parts depth 20) k low high

    pub fields_tested : fields_right (read ws ss) (lock (read ws ss) k) (lock (read ws ss) k).state ≡ true
    unfolding lock_right
    fields_tested = let z = lock_tested in search parts

    home_tested : home_right (read ws ss) k ≡ true
    unfolding lock_right
    home_tested = let z = lock_tested in search parts

    links_tested : (linked_right ws (read ws ss) blocked k && linked_right ws (read ws ss) notices k) ≡ true
    unfolding state_right
    links_tested = let z = state in each_at (λ k. linked_right ws (read ws ss) blocked k && linked_right ws (read ws ss) notices k) (locks_in ws) (search parts depth 20) k low high

    queues_tested : (r : ℕ) → 1 ≤ r → r ≤ resources_in ws →
        (stands_right (read ws ss) (queue r grants) k && stands_right (read ws ss) (queue r converts) k && stands_right (read ws ss) (queue r waits) k) ≡ true
    unfolding home_right
    queues_tested r p q =
        let z = home_tested in
        each_at (λ r. stands_right (read ws ss) (queue r grants) k && stands_right (read ws ss) (queue r converts) k && stands_right (read ws ss) (queue r waits) k) (length (read ws ss).resources) (search parts depth 20) r p (rw (resources_read ws ss) q)

    -- on each chain once if it belongs there, and else not
    stands_tested : (c : LockChain) → Within (resources_in ws) (locks_in ws) (head (of_locks c)) → stands_right (read ws ss) c k ≡ true
    unfolding home_right linked_right
    stands_tested free_locks i = let z = home_tested in search parts depth 20
    stands_tested denied i = let z = home_tested in search parts depth 20
    stands_tested blocked i = let z = links_tested in search parts depth 20
    stands_tested notices i = let z = links_tested in search parts depth 20
    stands_tested (queue r grants) i = let z = queues_tested r i.0 i.1 in search parts depth 20
    stands_tested (queue r converts) i = let z = queues_tested r i.0 i.1 in search parts depth 20
    stands_tested (queue r waits) i = let z = queues_tested r i.0 i.1 in search parts depth 20

    pub stands_as : (c : LockChain) → Within (resources_in ws) (locks_in ws) (head (of_locks c)) → count k (chain (read ws ss) c) ≡ bit (belongs c (lock (read ws ss) k))
    unfolding stands_right
    stands_as c i = eqb-true _ _ (stands_tested c i)

    -- off the blocked or the notice chain its link is zero
    pub blocked_off : belongs blocked (lock (read ws ss) k) ≡ false → link_in ws (of_locks blocked) k ≡ 0
    unfolding linked_right
    blocked_off n = let z = links_tested in let either : (belongs blocked (lock (read ws ss) k) || eqb (link_in ws (of_locks blocked) k) 0) ≡ true = search parts depth 20 in eqb-true _ 0 (rw n at either)

    pub notice_off : belongs notices (lock (read ws ss) k) ≡ false → link_in ws (of_locks notices) k ≡ 0
    unfolding linked_right
    notice_off n = let z = links_tested in let either : (belongs notices (lock (read ws ss) k) || eqb (link_in ws (of_locks notices) k) 0) ≡ true = search parts depth 20 in eqb-true _ 0 (rw n at either)

  -- 5. what is held on a resource, and its heads
  module _ (r : ℕ) (low : 1 ≤ r) (high : r ≤ resources_in ws) where
    both_tested : (holders_compatible (read ws ss) r && no_grantable_head (read ws ss) r) ≡ true
    unfolding state_right
    both_tested = let z = state in each_at (λ r. holders_compatible (read ws ss) r && no_grantable_head (read ws ss) r) (resources_in ws) (search parts depth 20) r low high

    pub compatible_tested : holders_compatible (read ws ss) r ≡ true
    compatible_tested = let z = both_tested in search parts

    pub heads_tested : no_grantable_head (read ws ss) r ≡ true
    heads_tested = let z = both_tested in search parts
