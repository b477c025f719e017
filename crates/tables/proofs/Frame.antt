-- What a change of a state leaves as it was: each chain is threaded before and after.
use mathlib.Core.Path.{◌≡◌, refl, sym, ◌∙◌, ap}
use mathlib.Core.Logic.{◌≢◌, ◌⊎◌, inl, inr}
use mathlib.Core.List.{List}
use Prim.Native.Nat.{ℕ, zero, suc}
use native.Mathlib.Omega.{arith}
use lib.ListN.{length}
use Rattle.tables.specs.State.{Lock, Resource, Tables, lock, resource, Queue, LockChain, free_locks, denied, blocked, notices, queue, Chain, free_resources, of_locks, queue_of, chain_of, home_at, home}
use Rattle.tables.specs.Layout.{Address, head, link, following, word_at}
use Rattle.tables.proofs.Numbered.{put_lock, put_resource, locks_put, lock_put_other, lock_put_blind, resources_put, lock_put_resource, chains_put_lock, chains_put_resource}
use Rattle.tables.specs.Threads.{Absent, Distinct, Each}
use Rattle.tables.proofs.Links.{each_map, each_map_on}
use Rattle.tables.specs.Threads.{In, Present}
use Rattle.tables.proofs.Chains.{with_chain, chain_same, chain_other, same_locks, lock_with, resource_count, home_past}
use Rattle.tables.specs.Threads.{Stands, Threaded}

-- the chains that go by the home link
abbrev pub Homed : Chain → Type 0
Homed free_resources = ⊥
Homed (of_locks free_locks) = Unit {0}
Homed (of_locks denied) = Unit {0}
Homed (of_locks blocked) = ⊥
Homed (of_locks notices) = ⊥
Homed (of_locks (queue r q)) = Unit {0}

pub homed : (s r : ℕ) → Homed (of_locks (home_at s r))
homed zero r = tt
homed (suc zero) r = tt
homed (suc (suc zero)) r = tt
homed (suc (suc (suc zero))) r = tt
homed (suc (suc (suc (suc s)))) r = rw (home_past (suc (suc (suc (suc s)))) r (omega arith)) tt

-- the word at a home link says the home
pub home_word : (t : Tables) (c : Chain) (k : ℕ) → Homed c → word_at t (link c k) ≡ following (of_locks (home (lock t k))) k
home_word t free_resources k h = absurd h
home_word t (of_locks free_locks) k h = refl
home_word t (of_locks denied) k h = refl
home_word t (of_locks blocked) k h = absurd h
home_word t (of_locks notices) k h = absurd h
home_word t (of_locks (queue r q)) k h = refl

-- two states of one size: what stands on a chain of one can stand on that of the other, if its home is the same
module _ (t u : Tables) (resources : length u.resources ≡ length t.resources) (locks : length u.locks ≡ length t.locks) where
  pub in_same : (a : Address) → In t a → In u a
  in_same a h = rw (resources, locks) h

  link_word : (c : Chain) (k : ℕ) → (Homed c → home (lock u k) ≡ home (lock t k)) → word_at u (link c k) ≡ word_at t (link c k)
  link_word free_resources k e = refl
  link_word (of_locks free_locks) k e = ap (λ (d : LockChain). following (of_locks d) k) (e tt)
  link_word (of_locks denied) k e = ap (λ (d : LockChain). following (of_locks d) k) (e tt)
  link_word (of_locks blocked) k e = refl
  link_word (of_locks notices) k e = refl
  link_word (of_locks (queue r q)) k e = ap (λ (d : LockChain). following (of_locks d) k) (e tt)

  pub stands_same : (c : Chain) (k : ℕ) → (Homed c → home (lock u k) ≡ home (lock t k)) → Stands t c k → Stands u c k
  stands_same c zero e s = absurd (omega (arith, s.0))
  stands_same c (suc k) e s = (s.0, record { inside = in_same (link c (suc k)) s.1.inside; says = link_word c (suc k) e ∙ s.1.says })

  -- a chain that stays, none of whose members changes its home
  pub threaded_same : (c : Chain) → chain_of c u ≡ chain_of c t → ((k : ℕ) → Homed c → (Absent k (chain_of c t) → ⊥) → home (lock u k) ≡ home (lock t k)) → Threaded t c → Threaded u c
  threaded_same c e homes h =
      record {
        present = in_same (head c) h.present;
        distinct = rw e h.distinct;
        members = rw e (each_map_on (Stands t c) (Stands u c) (chain_of c t) (λ k o s. stands_same c k (λ m. homes k m o) s) h.members);
      }

module _ (t : Tables) (c : Chain) (xs : List ℕ) where
  pub in_with : (a : Address) → In t a → In (with_chain c xs t) a
  in_with = in_same t (with_chain c xs t) (resource_count c xs t) (ap length (same_locks c xs t))

  pub in_without : (a : Address) → In (with_chain c xs t) a → In t a
  in_without = in_same (with_chain c xs t) t (sym (resource_count c xs t)) (sym (ap length (same_locks c xs t)))

  home_with : (k : ℕ) → home (lock (with_chain c xs t) k) ≡ home (lock t k)
  home_with k = ap home (lock_with c xs t k)

  stands_with : (d : Chain) (k : ℕ) → Stands t d k → Stands (with_chain c xs t) d k
  stands_with d k = stands_same t (with_chain c xs t) (resource_count c xs t) (ap length (same_locks c xs t)) d k (λ m. home_with k)

  -- another chain stays threaded, and so does this one, if it may be what it is now
  pub threaded_other : (d : Chain) → d ≢ c → Threaded t d → Threaded (with_chain c xs t) d
  threaded_other d n h =
      threaded_same t (with_chain c xs t) (resource_count c xs t) (ap length (same_locks c xs t)) d (chain_other c d xs t n) (λ k m o. home_with k) h

  pub threaded_this : Present t c → Distinct xs → Each (Stands t c) xs → Threaded (with_chain c xs t) c
  threaded_this h d e =
      record {
        present = in_with (head c) h;
        distinct = rw (chain_same c xs t h) d;
        members = rw (chain_same c xs t h) (each_map (Stands t c) _ (stands_with c) xs e);
      }

-- a lock changes that is not on the chain, or keeps its home
pub threaded_put_lock : (t : Tables) (c : Chain) (k : ℕ) (l : Lock) → (Homed c → Absent k (chain_of c t) ⊎ (home l ≡ home (lock t k))) → Threaded t c → Threaded (put_lock k l t) c
threaded_put_lock t c k l a h =
    threaded_same t (put_lock k l t) refl (locks_put t k l) c (chains_put_lock t k l c)
    (λ j m o. elim (a m) [
      | inl b ↦ ap home (lock_put_other t k l j (λ e. o (rw e b)))
      | inr e ↦ lock_put_blind t k l home e j
    ]) h

pub threaded_put_resource : (t : Tables) (c : Chain) (r : ℕ) (x : Resource) → ((q : Queue) → queue_of q x ≡ queue_of q (resource t r)) → Threaded t c → Threaded (put_resource r x t) c
threaded_put_resource t c r x e h =
    threaded_same t (put_resource r x t) (resources_put t r x) refl c (chains_put_resource t r x e c) (λ j m o. ap home (lock_put_resource t r x j)) h
