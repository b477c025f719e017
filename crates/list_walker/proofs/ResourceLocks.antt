-- The locks on a resource of a state, and their links among its words.
use mathlib.Core.Path.{◌≡◌, sym, ◌∙◌, ap, subst}
use mathlib.Core.Bool.{true}
use mathlib.Core.List.{List, [], ◌∷◌, ◌++◌, append_assoc, append-nil}
use Prim.Native.Nat.{ℕ, zero, suc, ◌+◌, ◌≤◌, ◌<◌}
use native.Mathlib.Omega.{arith}
use lib.ListN.{get_or, length}
use borrow.Author.Tests.{eqb-true}
use Rattle.tables.specs.Lists.{within, count, first, next}
use Rattle.tables.specs.State.{Tables, lock, resource, Queue, grants, converts, waits, LockChain, queue, queue_of, chain, belongs}
use Rattle.tables.specs.Layout.{of_lock, words, word_in}
use Rattle.tables.specs.Grants.{holders}
use Rattle.tables.proofs.Counts.{within_le, count_nil, count_append, by_append}
use Rattle.tables.proofs.Links.{counted_distinct, few, next_past}
use Rattle.tables.proofs.ThreadedChains.{each_counted, belongs_home}
use Rattle.tables.specs.Validity.{used, Core}
use Rattle.tables.proofs.Valid.{ok_at, used_within}
use Rattle.tables.proofs.ChainMembers.{on_chain, chain_once, on_grants, on_converts, on_waits}
use Rattle.table_chains.specs.Promises.{Resourced}
use Rattle.list_walker.specs.Order.{locks_on, queues_past, Queued}
use Rattle.list_walker.proofs.ListsInARow.{next_skip, next_in, next_end, at_on}
use Rattle.table_fields.proofs.StateWords.{word_is}

exclusive : (g c w s : ℕ) → g ≤ 1 → c ≤ 1 → w ≤ 1 → (1 ≤ g → s ≡ 1) → (1 ≤ c → s ≡ 2) → (1 ≤ w → s ≡ 3) → g + c + w ≤ 1
exclusive zero zero w s a b d p q r = omega arith
exclusive zero (suc c) zero s a b d p q r = omega arith
exclusive zero (suc c) (suc w) s a b d p q r = absurd (let x = q (omega arith) in let y = r (omega arith) in omega arith)
exclusive (suc g) zero zero s a b d p q r = omega arith
exclusive (suc g) zero (suc w) s a b d p q r = absurd (let x = p (omega arith) in let y = r (omega arith) in omega arith)
exclusive (suc g) (suc c) w s a b d p q r = absurd (let x = p (omega arith) in let y = q (omega arith) in omega arith)

-- where k stands among the locks on its resource: those before its queue, its queue, those past it; n is the word of its link
pub record Split (k n : ℕ) (whole rest : List ℕ) : Type 0 where
  pub before : List ℕ
  pub own : List ℕ
  pub parts : whole ≡ before ++ (own ++ rest)
  pub not_before : count k before ≡ 0
  pub on : 1 ≤ count k own
  pub no_zero : count 0 own ≡ 0
  pub link : n ≡ next k own

pub split_next : (k n : ℕ) (whole rest : List ℕ) → Split k n whole rest → (n ≡ 0 → ⊥) → n ≡ next k whole
split_next k n whole rest s m =
    sym (ap (next k) s.parts ∙ next_skip k s.before _ s.not_before ∙ next_in k s.own rest s.on (λ z. m (s.link ∙ z)) ∙ sym s.link)

pub split_past : (k n : ℕ) (whole rest : List ℕ) → Split k n whole rest → n ≡ 0 → first rest ≡ next k whole
split_past k n whole rest s e =
    sym (ap (next k) s.parts ∙ next_skip k s.before _ s.not_before ∙ next_end k s.own rest s.on s.no_zero (sym s.link ∙ e))

module _ (t : Tables) (core : Core t) where
  pub none_zero : (q : Queue) (r : ℕ) → count 0 (queue_of q (resource t r)) ≡ 0
  none_zero q r = core.linked (queue r q) 0

  pub no_lock_zero : (r : ℕ) → count 0 (locks_on r t) ≡ 0
  unfolding locks_on holders
  no_lock_zero r = rw (count_append, count_append, none_zero grants r, none_zero converts r, none_zero waits r)

  -- a lock on a queue of r: its state, its resource
  on_queue : (r k : ℕ) → 1 ≤ count k (locks_on r t) → {A : Type 0} → (1 ≤ count k (resource t r).grant → A) → (1 ≤ count k (resource t r).convert → A) → (1 ≤ count k (resource t r).wait → A) → A
  unfolding locks_on holders
  on_queue r k m f g h =
      by_append k ((resource t r).grant ++ (resource t r).convert) (resource t r).wait m
      (λ i. by_append k (resource t r).grant (resource t r).convert i f g)
      h

  is_granted : (r k : ℕ) → 1 ≤ count k (resource t r).grant → (lock t k).state ≡ 1
  is_granted r k h = eqb-true _ 1 (on_grants t core.linked r k h).0

  is_converting : (r k : ℕ) → 1 ≤ count k (resource t r).convert → (lock t k).state ≡ 2
  is_converting r k h = eqb-true _ 2 (on_converts t core.linked r k h).0

  is_waiting : (r k : ℕ) → 1 ≤ count k (resource t r).wait → (lock t k).state ≡ 3
  is_waiting r k h = eqb-true _ 3 (on_waits t core.linked r k h).0

  pub resource_on : (r k : ℕ) → 1 ≤ count k (locks_on r t) → (lock t k).resource ≡ r
  resource_on r k m =
      on_queue r k m (λ h. (on_grants t core.linked r k h).1) (λ h. (on_converts t core.linked r k h).1) (λ h. (on_waits t core.linked r k h).1)

  within_on : (r k : ℕ) → 1 ≤ count k (locks_on r t) → within (length t.locks) k ≡ true
  within_on r k m =
      on_queue r k m
      (λ h. (on_chain t core.linked (queue r grants) k h).0)
      (λ h. (on_chain t core.linked (queue r converts) k h).0)
      (λ h. (on_chain t core.linked (queue r waits) k h).0)

  pub range_on : (r k : ℕ) → 1 ≤ count k (locks_on r t) → (1 ≤ k) × (k ≤ length t.locks)
  range_on r k m = within_le (length t.locks) k (within_on r k m)

  used_on : (r k : ℕ) → 1 ≤ count k (locks_on r t) → used t (lock t k).resource ≡ true
  used_on r k m =
      on_queue r k m
      (λ h. (ok_at (used t) (lock t k) 1 (core.lock_ok k) (on_grants t core.linked r k h).0).place.in_use)
      (λ h. (ok_at (used t) (lock t k) 2 (core.lock_ok k) (on_converts t core.linked r k h).0).place.in_use)
      (λ h. (ok_at (used t) (lock t k) 3 (core.lock_ok k) (on_waits t core.linked r k h).0).place.in_use)

  pub once_on : (r k : ℕ) → count k (locks_on r t) ≤ 1
  unfolding locks_on holders
  once_on r k =
      rw (count_append, count_append)
      (exclusive (count k (resource t r).grant) (count k (resource t r).convert) (count k (resource t r).wait) (lock t k).state
      (chain_once t core.linked (queue r grants) k) (chain_once t core.linked (queue r converts) k) (chain_once t core.linked (queue r waits) k)
      (is_granted r k) (is_converting r k) (is_waiting r k))

  pub few_on : (r : ℕ) → length (locks_on r t) ≤ length t.locks
  few_on r = few (length t.locks) (locks_on r t) (counted_distinct (locks_on r t) (once_on r)) (each_counted _ (locks_on r t) (range_on r))

  pub queued_on : (r k : ℕ) → 1 ≤ count k (locks_on r t) → Queued k t
  queued_on r k m = record { core = core; on = subst (λ (s : ℕ). 1 ≤ count k (locks_on s t)) (sym (resource_on r k m)) m }

  pub queued_at : (r i : ℕ) → i < length (locks_on r t) → Queued (get_or (locks_on r t) i 0) t
  queued_at r i h = queued_on r (get_or (locks_on r t) i 0) (at_on (locks_on r t) i h)

module _ (k : ℕ) (t : Tables) (p : Queued k t) where
  pub queued_range : (1 ≤ k) × (k ≤ length t.locks)
  queued_range = range_on t p.core (lock t k).resource k p.on

  pub queued_resourced : Resourced (lock t k).resource t
  queued_resourced = record { core = p.core; in_range = used_within t (lock t k).resource (used_on t p.core (lock t k).resource k p.on) }

-- by the words of the state
module _ (t : Tables) (core : Core t) (ws : List ℕ) (is : ws ≡ words t) where
  module _ (r k : ℕ) (m : 1 ≤ count k (locks_on r t)) (n : ℕ) (e : n ≡ word_in ws (of_lock k 0)) where
    link_here : (q : Queue) → belongs (queue r q) (lock t k) ≡ true → n ≡ next k (queue_of q (resource t r))
    link_here q b =
        let w = range_on t core r k m in
        e ∙ word_is t ws is (of_lock k 0) (w.0, w.1, omega arith)
        ∙ ap (λ (c : LockChain). next k (0 ∷ chain t c)) (belongs_home (queue r q) (lock t k) tt b)
        ∙ next_past k 0 (queue_of q (resource t r)) (λ z. omega (arith, w.0))

    pub split_here : Split k n (locks_on r t) (queues_past (lock t k).state (resource t r))
    unfolding locks_on holders
    split_here =
        let x = resource t r in
        let once = once_on t core r k in
        let all : count k x.grant + count k x.convert + count k x.wait ≤ 1 = rw (count_append, count_append) at once in
        on_queue t core r k m
        (λ h. record {
          before = [];
          own = x.grant;
          parts = append_assoc x.grant x.convert x.wait ∙ sym (ap (λ (s : ℕ). x.grant ++ queues_past s x) (is_granted t core r k h));
          not_before = count_nil k;
          on = h;
          no_zero = none_zero t core grants r;
          link = link_here grants (on_chain t core.linked (queue r grants) k h).1;
        })
        (λ h. record {
          before = x.grant;
          own = x.convert;
          parts = append_assoc x.grant x.convert x.wait ∙ sym (ap (λ (s : ℕ). x.grant ++ (x.convert ++ queues_past s x)) (is_converting t core r k h));
          not_before = omega arith;
          on = h;
          no_zero = none_zero t core converts r;
          link = link_here converts (on_chain t core.linked (queue r converts) k h).1;
        })
        (λ h. record {
          before = x.grant ++ x.convert;
          own = x.wait;
          parts = sym (ap (λ (s : ℕ). (x.grant ++ x.convert) ++ (x.wait ++ queues_past s x)) (is_waiting t core r k h) ∙ ap (λ (ys : List ℕ). (x.grant ++ x.convert) ++ ys) (append-nil x.wait));
          not_before = rw count_append (omega arith);
          on = h;
          no_zero = none_zero t core waits r;
          link = link_here waits (on_chain t core.linked (queue r waits) k h).1;
        })
