-- Records numbered from 1: a record put into a list or into the tables, and what stands there then.
use mathlib.Core.Path.{◌≡◌, refl, ap}
use mathlib.Core.Logic.{◌≢◌}
use mathlib.Core.List.{List, [], ◌∷◌}
use Prim.Native.Nat.{ℕ, zero, suc, ◌≤◌}
use lib.ListN.{length}
use Rattle.tables.specs.Lists.{nth, put}
use Rattle.tables.specs.State.{Lock, Resource, Tables, no_lock, no_resource, lock, resource, started, Queue, queue_of, free_locks, denied, blocked, notices, queue, Chain, free_resources, of_locks, chain_of}
use Rattle.tables.proofs.Counts.{le_within, length_put, nth_put_same, nth_put_other, nth_same}

module _ {A : Type 0} (d : A) where
  pub nth_put_here : (xs : List A) (k : ℕ) (a : A) → 1 ≤ k → k ≤ length xs → nth (put xs k a) k d ≡ a
  nth_put_here xs k a p q = nth_put_same d xs k a (le_within (length xs) k p q)

  -- f cannot tell the new record from the old
  pub nth_put_blind : {B : Type 0} (f : A → B) (xs : List A) (k j : ℕ) (a : A) → f a ≡ f (nth xs k d) → f (nth (put xs k a) j d) ≡ f (nth xs j d)
  nth_put_blind f xs zero j a e = refl
  nth_put_blind f xs (suc k) zero a e = refl
  nth_put_blind f [] (suc k) (suc j) a e = refl
  nth_put_blind f (x ∷ xs) (suc zero) (suc zero) a e = e
  nth_put_blind f (x ∷ xs) (suc zero) (suc (suc j)) a e = refl
  nth_put_blind f (x ∷ xs) (suc (suc k)) (suc zero) a e = refl
  nth_put_blind f (x ∷ xs) (suc (suc k)) (suc (suc j)) a e = nth_put_blind f xs (suc k) (suc j) a e

-- the tables with another lock k, or with another resource r
abbrev pub put_lock : ℕ → Lock → Tables → Tables
put_lock k l t =
    record {
      resources = t.resources;
      locks = put t.locks k l;
      free_resources = t.free_resources;
      free_locks = t.free_locks;
      denied = t.denied;
      blocked = t.blocked;
      notices = t.notices;
    }

abbrev pub put_resource : ℕ → Resource → Tables → Tables
put_resource r x t =
    record {
      resources = put t.resources r x;
      locks = t.locks;
      free_resources = t.free_resources;
      free_locks = t.free_locks;
      denied = t.denied;
      blocked = t.blocked;
      notices = t.notices;
    }

module _ (t : Tables) (k : ℕ) (l : Lock) where
  pub locks_put : length (put_lock k l t).locks ≡ length t.locks
  locks_put = length_put no_lock t.locks k l

  pub lock_put_here : 1 ≤ k → k ≤ length t.locks → lock (put_lock k l t) k ≡ l
  unfolding lock
  lock_put_here p q = nth_put_here no_lock t.locks k l p q

  pub lock_put_other : (j : ℕ) → j ≢ k → lock (put_lock k l t) j ≡ lock t j
  unfolding lock
  lock_put_other j n = nth_put_other no_lock t.locks k l j n

  pub lock_put_blind : {B : Type 0} (f : Lock → B) → f l ≡ f (lock t k) → (j : ℕ) → f (lock (put_lock k l t) j) ≡ f (lock t j)
  unfolding lock
  lock_put_blind f e j = nth_put_blind no_lock f t.locks k j l e

  pub resource_put_lock : (r : ℕ) → resource (put_lock k l t) r ≡ resource t r
  unfolding resource
  resource_put_lock r = refl

  pub chains_put_lock : (c : Chain) → chain_of c (put_lock k l t) ≡ chain_of c t
  chains_put_lock free_resources = refl
  chains_put_lock (of_locks free_locks) = refl
  chains_put_lock (of_locks denied) = refl
  chains_put_lock (of_locks blocked) = refl
  chains_put_lock (of_locks notices) = refl
  chains_put_lock (of_locks (queue r q)) = ap (queue_of q) (resource_put_lock r)

module _ (t : Tables) (r : ℕ) (x : Resource) where
  pub resources_put : length (put_resource r x t).resources ≡ length t.resources
  resources_put = length_put no_resource t.resources r x

  pub resource_put_here : 1 ≤ r → r ≤ length t.resources → resource (put_resource r x t) r ≡ x
  unfolding resource
  resource_put_here p q = nth_put_here no_resource t.resources r x p q

  pub resource_put_other : (s : ℕ) → s ≢ r → resource (put_resource r x t) s ≡ resource t s
  unfolding resource
  resource_put_other s n = nth_put_other no_resource t.resources r x s n

  pub resource_put_blind : {B : Type 0} (f : Resource → B) → f x ≡ f (resource t r) → (s : ℕ) → f (resource (put_resource r x t) s) ≡ f (resource t s)
  unfolding resource
  resource_put_blind f e s = nth_put_blind no_resource f t.resources r s x e

  pub lock_put_resource : (k : ℕ) → lock (put_resource r x t) k ≡ lock t k
  unfolding lock
  lock_put_resource k = refl

  pub chains_put_resource : ((q : Queue) → queue_of q x ≡ queue_of q (resource t r)) → (c : Chain) → chain_of c (put_resource r x t) ≡ chain_of c t
  chains_put_resource kept free_resources = refl
  chains_put_resource kept (of_locks free_locks) = refl
  chains_put_resource kept (of_locks denied) = refl
  chains_put_resource kept (of_locks blocked) = refl
  chains_put_resource kept (of_locks notices) = refl
  chains_put_resource kept (of_locks (queue s q)) = resource_put_blind (queue_of q) (kept q) s

-- of started tables every record is free
module _ (r l : ℕ) where
  pub started_lock : (k : ℕ) → lock (started r l) k ≡ no_lock
  unfolding lock started
  started_lock k = nth_same no_lock l k

  pub started_resource : (s : ℕ) → resource (started r l) s ≡ no_resource
  unfolding resource started
  started_resource s = nth_same no_resource r s

-- tables with the same locks
pub lock_by_locks : (t u : Tables) (k : ℕ) → t.locks ≡ u.locks → lock t k ≡ lock u k
unfolding lock
lock_by_locks t u k e = ap (λ (ls : List Lock). nth ls k no_lock) e
