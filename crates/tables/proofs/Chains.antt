-- The chains of a state by name: a state with another list for one of them, and what stays then.
use mathlib.Core.Path.{◌≡◌, refl, ◌∙◌, ap, ap₂}
use mathlib.Core.Logic.{◌≢◌}
use mathlib.Core.List.{List}
use Prim.Native.Nat.{ℕ, ◌≤◌}
use native.Mathlib.Decide.{ℕ_discrete}
use native.Mathlib.Omega.{arith}
use lib.ListN.{length}
use borrow.Author.Tests.{ne_eqb}
use Rattle.tables.specs.Lists.{put}
use Rattle.tables.specs.State.{Resource, Tables, no_resource, lock, resource, Queue, grants, converts, waits, Queue_discrete, free_locks, denied, blocked, notices, queue, LockChain_discrete, Chain, free_resources, of_locks, Chain_discrete, queue_of, chain_of, home_at}
use Rattle.tables.specs.Layout.{Address, place}
use Rattle.tables.proofs.Counts.{length_put, nth_put_other}
use Rattle.tables.proofs.Numbered.{nth_put_here, nth_put_blind}
use Rattle.tables.specs.Threads.{Present}

unfoldable pub chain? : Discrete Chain
unfolding ℕ_discrete
chain? = Chain_discrete (LockChain_discrete ℕ_discrete Queue_discrete)

-- a state that is none of the first four has its home on the denied chain
pub home_past : (s r : ℕ) → 4 ≤ s → home_at s r ≡ denied
home_past s r h = rw (ne_eqb s 0 (omega arith), ne_eqb s 1 (omega arith), ne_eqb s 2 (omega arith), ne_eqb s 3 (omega arith))

-- xs for the chain c, and what stands in t for any other chain d
unfoldable pub queue_with : Queue → List ℕ → Queue → Resource → List ℕ
queue_with q xs p x = elim (Queue_discrete p q) [ yes e ↦ xs | no n ↦ queue_of p x ]

unfoldable pub chain_with : Chain → List ℕ → Chain → Tables → List ℕ
unfolding chain?
chain_with c xs d t = elim (chain? d c) [ yes e ↦ xs | no n ↦ chain_of d t ]

unfoldable pub with_queue : Queue → List ℕ → Resource → Resource
unfolding queue_with
with_queue q xs x =
    record {
      name = x.name;
      value = x.value;
      valid = x.valid;
      grant = queue_with q xs grants x;
      convert = queue_with q xs converts x;
      wait = queue_with q xs waits x;
    }

unfoldable pub resources_with : Chain → List ℕ → Tables → List Resource
unfolding with_queue
resources_with free_resources xs t = t.resources
resources_with (of_locks free_locks) xs t = t.resources
resources_with (of_locks denied) xs t = t.resources
resources_with (of_locks blocked) xs t = t.resources
resources_with (of_locks notices) xs t = t.resources
resources_with (of_locks (queue r q)) xs t = put t.resources r (with_queue q xs (resource t r))

unfoldable pub with_chain : Chain → List ℕ → Tables → Tables
unfolding resources_with chain_with
with_chain c xs t =
    record {
      resources = resources_with c xs t;
      locks = t.locks;
      free_resources = chain_with c xs free_resources t;
      free_locks = chain_with c xs (of_locks free_locks) t;
      denied = chain_with c xs (of_locks denied) t;
      blocked = chain_with c xs (of_locks blocked) t;
      notices = chain_with c xs (of_locks notices) t;
    }

abbrev pub spot : Tables → Address → ℕ
spot t a = place (length t.resources) a

queue_same : (q : Queue) (xs : List ℕ) (x : Resource) → queue_of q (with_queue q xs x) ≡ xs
unfolding with_queue
queue_same grants xs x = refl
queue_same converts xs x = refl
queue_same waits xs x = refl

queue_other : (q p : Queue) (xs : List ℕ) (x : Resource) → p ≢ q → queue_of p (with_queue q xs x) ≡ queue_of p x
unfolding with_queue
queue_other q p xs x n =
    elim p as (λ p. p ≢ q → queue_of p (with_queue q xs x) ≡ queue_of p x) [ grants ↦ go grants | converts ↦ go converts | waits ↦ go waits ] n
  where
    go : (p : Queue) → p ≢ q → queue_with q xs p x ≡ queue_of p x
    go p n = elim (Queue_discrete p q) as (λ d. elim d [ yes e ↦ xs | no n ↦ queue_of p x ] ≡ queue_of p x) [ yes e ↦ absurd (n e) | no m ↦ refl ]

chain_with_other : (c d : Chain) (xs : List ℕ) (t : Tables) → d ≢ c → chain_with c xs d t ≡ chain_of d t
unfolding chain_with
chain_with_other c d xs t n = elim (chain? d c) as (λ d'. elim d' [ yes e ↦ xs | no n ↦ chain_of d t ] ≡ chain_of d t) [ yes e ↦ absurd (n e) | no m ↦ refl ]

pub chain_same : (c : Chain) (xs : List ℕ) (t : Tables) → Present t c → chain_of c (with_chain c xs t) ≡ xs
unfolding with_chain resource
chain_same free_resources xs t h = refl
chain_same (of_locks free_locks) xs t h = refl
chain_same (of_locks denied) xs t h = refl
chain_same (of_locks blocked) xs t h = refl
chain_same (of_locks notices) xs t h = refl
chain_same (of_locks (queue r q)) xs t h = ap (queue_of q) (nth_put_here no_resource t.resources r _ h.0 h.1) ∙ queue_same q xs (resource t r)

queues_other : (c : Chain) (s : ℕ) (p : Queue) (xs : List ℕ) (t : Tables) → of_locks (queue s p) ≢ c → chain_of (of_locks (queue s p)) (with_chain c xs t) ≡ chain_of (of_locks (queue s p)) t
unfolding with_chain resource
queues_other free_resources s p xs t n = refl
queues_other (of_locks free_locks) s p xs t n = refl
queues_other (of_locks denied) s p xs t n = refl
queues_other (of_locks blocked) s p xs t n = refl
queues_other (of_locks notices) s p xs t n = refl
queues_other (of_locks (queue r q)) s p xs t n =
    elim (Queue_discrete p q) [
      | yes e ↦ ap (queue_of p) (nth_put_other no_resource t.resources r _ s (λ f. n (ap of_locks (ap₂ queue f e))))
      | no m ↦ nth_put_blind no_resource (queue_of p) t.resources r s _ (queue_other q p xs (resource t r) m)
    ]

pub chain_other : (c d : Chain) (xs : List ℕ) (t : Tables) → d ≢ c → chain_of d (with_chain c xs t) ≡ chain_of d t
unfolding with_chain
chain_other c free_resources xs t n = chain_with_other c free_resources xs t n
chain_other c (of_locks free_locks) xs t n = chain_with_other c (of_locks free_locks) xs t n
chain_other c (of_locks denied) xs t n = chain_with_other c (of_locks denied) xs t n
chain_other c (of_locks blocked) xs t n = chain_with_other c (of_locks blocked) xs t n
chain_other c (of_locks notices) xs t n = chain_with_other c (of_locks notices) xs t n
chain_other c (of_locks (queue s p)) xs t n = queues_other c s p xs t n

-- what no chain changes: the locks, the number of resources, and what a resource has beside its chains
pub same_locks : (c : Chain) (xs : List ℕ) (t : Tables) → (with_chain c xs t).locks ≡ t.locks
unfolding with_chain
same_locks c xs t = refl

pub lock_with : (c : Chain) (xs : List ℕ) (t : Tables) (k : ℕ) → lock (with_chain c xs t) k ≡ lock t k
unfolding with_chain lock
lock_with c xs t k = refl

pub resource_count : (c : Chain) (xs : List ℕ) (t : Tables) → length (with_chain c xs t).resources ≡ length t.resources
unfolding with_chain
resource_count free_resources xs t = refl
resource_count (of_locks free_locks) xs t = refl
resource_count (of_locks denied) xs t = refl
resource_count (of_locks blocked) xs t = refl
resource_count (of_locks notices) xs t = refl
resource_count (of_locks (queue r q)) xs t = length_put no_resource t.resources r _

pub resource_rest : {B : Type 0} (f : Resource → B) → ((q : Queue) (xs : List ℕ) (x : Resource) → f (with_queue q xs x) ≡ f x) → (c : Chain) (xs : List ℕ) (t : Tables) (r : ℕ) → f (resource (with_chain c xs t) r) ≡ f (resource t r)
unfolding with_chain resource
resource_rest f h free_resources xs t r = refl
resource_rest f h (of_locks free_locks) xs t r = refl
resource_rest f h (of_locks denied) xs t r = refl
resource_rest f h (of_locks blocked) xs t r = refl
resource_rest f h (of_locks notices) xs t r = refl
resource_rest f h (of_locks (queue s q)) xs t r = nth_put_blind no_resource f t.resources s r _ (h q xs (resource t s))
