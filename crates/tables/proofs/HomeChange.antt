-- A lock changes its home: it leaves the chain where it stands, its fields change, and it joins the chain that they name.
use mathlib.Core.Path.{◌≡◌, refl, sym, ◌∙◌, ap, ap₂}
use mathlib.Core.Logic.{◌≢◌, inl}
use mathlib.Core.List.{List, ◌∷◌}
use Prim.Native.Nat.{ℕ, zero, suc, ◌≤◌}
use native.Mathlib.Omega.{arith}
use lib.ListN.{length}
use Rattle.tables.specs.Lists.{remove, next}
use Rattle.tables.specs.State.{Lock, Tables, lock, free_locks, denied, blocked, notices, queue, Chain, free_resources, of_locks, chain_of, home}
use Rattle.tables.specs.Layout.{of_lock, place, head, link, lock_links, lock_fields, following, most}
use Rattle.tables.proofs.Numbered.{put_lock, locks_put, lock_put_here, chains_put_lock}
use Rattle.tables.specs.Threads.{Absent, Distinct, Each}
use Rattle.tables.proofs.Links.{each_absent, each_append, each_remove, distinct_append, distinct_remove, removed, next_absent}
use Rattle.tables.specs.Stores.{Counts, words_with, store_run}
use Rattle.tables.specs.Threads.{In, Present}
use Rattle.tables.proofs.Chains.{chain?, with_chain, chain_same, chain_other, same_locks, lock_with, resource_count}
use Rattle.tables.specs.Threads.{Stands, Threaded}
use Rattle.tables.proofs.WordChanges.{stands, put_lock_words}
use Rattle.tables.proofs.ReadBack.{chain_most}
use Rattle.tables.proofs.Frame.{Homed, homed, home_word, in_same, in_without, threaded_this, threaded_other, threaded_put_lock}
use Rattle.tables.specs.Stores.{join_cells, leave_cells, cell_place}
use Rattle.tables.proofs.WordSteps.{join, push, leave, join_is, leave_is}
use Rattle.tables.specs.Threads.{Sane}

module _ (r l : ℕ) (t : Tables) (h : Sane r l t) where
  pub sane_with : (c : Chain) (xs : List ℕ) → Present t c → Distinct xs → Each (Stands t c) xs → Sane r l (with_chain c xs t)
  sane_with c xs p d e =
      record {
        resources = resource_count c xs t ∙ h.resources;
        locks = ap length (same_locks c xs t) ∙ h.locks;
        chains = λ b q. elim (chain? b c) [
          | yes f ↦ rw f (threaded_this t c xs p d e)
          | no n ↦ threaded_other t c xs b n (h.chains b (in_without t c xs (head b) q))
        ];
      }

  pub sane_leave : (c : Chain) (k : ℕ) → Present t c → Sane r l (leave c k t)
  unfolding leave
  sane_leave c k p =
      let s = h.chains c p in
      sane_with c _ p (distinct_remove k (chain_of c t) s.distinct) (each_remove (Stands t c) (Stands t c) k (λ j n s. s) (chain_of c t) s.members)

  pub sane_join : (c : Chain) (k : ℕ) → Present t c → Absent k (chain_of c t) → Stands t c k → Sane r l (join c k t)
  unfolding join
  sane_join c k p a s =
      let g = h.chains c p in
      sane_with c _ p (distinct_append k (chain_of c t) g.distinct a) (each_append (Stands t c) k (chain_of c t) g.members s)

  pub sane_push : (c : Chain) (k : ℕ) → Present t c → Absent k (chain_of c t) → Stands t c k → Sane r l (push c k t)
  unfolding push
  sane_push c k p a s = let g = h.chains c p in sane_with c _ p (a, g.distinct) (s, g.members)

-- a home chain has only locks that are at home there
pub stands_home : (t : Tables) (c : Chain) (k : ℕ) → Homed c → Stands t c k → of_locks (home (lock t k)) ≡ c
stands_home t c zero m s = absurd (omega (arith, s.0))
stands_home t c (suc k) m s = let e = home_word t c (suc k) m in let f = s.1.says in cc

pub elsewhere : (t : Tables) (c : Chain) (k : ℕ) → Homed c → Threaded t c → of_locks (home (lock t k)) ≢ c → Absent k (chain_of c t)
elsewhere t c k h g n = each_absent (Stands t c) (chain_of c t) k g.members (λ s. n (stands_home t c k h s))

-- a lock changes that is on no home chain
pub sane_put : (r l : ℕ) (t : Tables) (k : ℕ) (x : Lock) → ((c : Chain) → Homed c → Present t c → Absent k (chain_of c t)) → Sane r l t → Sane r l (put_lock k x t)
sane_put r l t k x a h =
    record {
      resources = h.resources;
      locks = locks_put t k x ∙ h.locks;
      chains = λ c p. let q = in_same (put_lock k x t) t refl (sym (locks_put t k x)) (head c) p in threaded_put_lock t c k x (λ m. inl (a c m q)) (h.chains c q);
    }

link_inside : (t : Tables) (c : Chain) (k : ℕ) → Homed c → 1 ≤ k → k ≤ length t.locks → In t (link c k)
link_inside t free_resources k m p q = absurd m
link_inside t (of_locks free_locks) k m p q = (p, q, omega arith)
link_inside t (of_locks denied) k m p q = (p, q, omega arith)
link_inside t (of_locks blocked) k m p q = absurd m
link_inside t (of_locks notices) k m p q = absurd m
link_inside t (of_locks (queue r s)) k m p q = (p, q, omega arith)

pub stands_at_home : (t : Tables) (c : Chain) (k : ℕ) → Homed c → 1 ≤ k → k ≤ length t.locks → of_locks (home (lock t k)) ≡ c → Stands t c k
stands_at_home t c k m p q e = stands t c k p (link_inside t c k m p q) (home_word t c k m ∙ ap (λ (d : Chain). following d k) e)

pub most_homed : (r l : ℕ) (c : Chain) → Homed c → most r l c ≡ l
most_homed r l free_resources h = absurd h
most_homed r l (of_locks free_locks) h = refl
most_homed r l (of_locks denied) h = refl
most_homed r l (of_locks blocked) h = absurd h
most_homed r l (of_locks notices) h = absurd h
most_homed r l (of_locks (queue s q)) h = refl

pub home_short : (r l : ℕ) (t : Tables) → Sane r l t → (c : Chain) → Homed c → Present t c → length (chain_of c t) ≤ l
home_short r l t h c m p = omega (arith, chain_most t c (h.chains c p), most_homed (length t.resources) (length t.locks) c m, h.locks)

-- the lock k off its home, with the fields x, and on the home that they name
unfoldable pub lifted : ℕ → Tables → Tables
lifted k t = leave (of_locks (home (lock t k))) k t

unfoldable pub rehome : ℕ → Lock → Tables → Tables
rehome k x t = join (of_locks (home x)) k (put_lock k x (lifted k t))

module _ (r l : ℕ) (t : Tables) (h : Sane r l t) (k : ℕ) (old : Present t (of_locks (home (lock t k)))) where
  pub sane_lifted : Sane r l (lifted k t)
  unfolding lifted
  sane_lifted = sane_leave r l t h (of_locks (home (lock t k))) k old

  pub lock_lifted : (j : ℕ) → lock (lifted k t) j ≡ lock t j
  unfolding lifted leave
  lock_lifted j = lock_with (of_locks (home (lock t k))) _ t j

  pub present_lifted : (c : Chain) → Present t c → Present (lifted k t) c
  present_lifted c = in_same t (lifted k t) (sane_lifted.resources ∙ sym h.resources) (sane_lifted.locks ∙ sym h.locks) (head c)

  pub present_back : (c : Chain) → Present (lifted k t) c → Present t c
  present_back c = in_same (lifted k t) t (h.resources ∙ sym sane_lifted.resources) (h.locks ∙ sym sane_lifted.locks) (head c)

  -- it is then on no home chain
  pub off_home : (c : Chain) → Homed c → Present (lifted k t) c → Absent k (chain_of c (lifted k t))
  unfolding lifted leave
  off_home c m p =
      elim (chain? c (of_locks (home (lock t k)))) [
        | yes e ↦ rw (e, chain_same (of_locks (home (lock t k))) (remove k (chain_of (of_locks (home (lock t k))) t)) t old) (removed k (chain_of (of_locks (home (lock t k))) t))
        | no n ↦ rw (chain_other (of_locks (home (lock t k))) c _ t n) (elsewhere t c k m (h.chains c (present_back c p)) (λ e. n (sym e)))
      ]

  module _ (x : Lock) (low : 1 ≤ k) (high : k ≤ l) (new : Present t (of_locks (home x))) where
    pub high_lifted : k ≤ length (lifted k t).locks
    high_lifted = omega (arith, sane_lifted.locks)

    -- so its home link is 0, before its fields change and after
    pub link_zero : (y : Lock) → Present t (of_locks (home y)) → next k (0 ∷ chain_of (of_locks (home y)) (lifted k t)) ≡ 0
    link_zero y p = next_absent k (0 ∷ chain_of (of_locks (home y)) (lifted k t)) (omega arith, off_home (of_locks (home y)) (homed y.state y.resource) (present_lifted (of_locks (home y)) p))

    pub sane_set : Sane r l (put_lock k x (lifted k t))
    sane_set = sane_put r l (lifted k t) k x off_home sane_lifted

    pub present_set : Present (put_lock k x (lifted k t)) (of_locks (home x))
    present_set = in_same t (put_lock k x (lifted k t)) (sane_set.resources ∙ sym h.resources) (sane_set.locks ∙ sym h.locks) (head (of_locks (home x))) new

    pub absent_set : Absent k (chain_of (of_locks (home x)) (put_lock k x (lifted k t)))
    absent_set = rw (chains_put_lock (lifted k t) k x (of_locks (home x))) (off_home (of_locks (home x)) (homed x.state x.resource) (present_lifted (of_locks (home x)) new))

    pub stands_set : Stands (put_lock k x (lifted k t)) (of_locks (home x)) k
    stands_set =
        stands_at_home (put_lock k x (lifted k t)) (of_locks (home x)) k (homed x.state x.resource) low (omega (arith, sane_set.locks))
        (ap (λ (o : Lock). of_locks (home o)) (lock_put_here (lifted k t) k x low high_lifted))

    pub sane_rehome : Sane r l (rehome k x t)
    unfolding rehome
    sane_rehome = sane_join r l (put_lock k x (lifted k t)) sane_set (of_locks (home x)) k present_set absent_set stands_set

    pub rehome_words : (ct : Counts) → (Absent k (chain_of (of_locks (home (lock t k))) t) → ⊥) → words_with ct (rehome k x t) ≡
        join_cells (cell_place r (of_locks (home x))) l k (store_run (λ f. place r (of_lock k f)) lock_links (lock_fields x) (leave_cells (cell_place r (of_locks (home (lock t k)))) l k (words_with ct t)))
    unfolding rehome lifted
    rehome_words ct o =
        sym (join_is ct (put_lock k x (lifted k t)) r sane_set.resources (of_locks (home x)) (sane_set.chains (of_locks (home x)) present_set) l k (home_short r l _ sane_set (of_locks (home x)) (homed x.state x.resource) present_set))
        ∙ ap (join_cells (cell_place r (of_locks (home x))) l k)
        (put_lock_words ct (lifted k t) k x low high_lifted (link_zero x new ∙ sym (rw lock_lifted (link_zero (lock t k) old)))
        ∙ ap₂ (λ (n : ℕ) (ws : List ℕ). store_run (λ f. place n (of_lock k f)) lock_links (lock_fields x) ws) sane_lifted.resources
        (sym (leave_is ct t r h.resources (of_locks (home (lock t k))) (h.chains (of_locks (home (lock t k))) old) l k (home_short r l t h (of_locks (home (lock t k))) (homed (lock t k).state (lock t k).resource) old) o)))
