-- What stands on the chains of a valid state, and what a move leaves alone on other resources.
use mathlib.Core.Path.{◌≡◌, refl, sym, ap, ◌∙◌}
use mathlib.Core.Logic.{◌≢◌}
use mathlib.Core.Bool.{Bool, true, false, ◌&&◌, ◌||◌, not, and-true}
use mathlib.Core.List.{List, [], ◌∷◌, ◌++◌}
use Prim.Native.Nat.{ℕ, suc, ◌+◌, ◌≤◌}
use native.Mathlib.Omega.{arith}
use lib.ListN.{length}
use lib.Dec.{eqb, leb}
use borrow.Author.Tests.{eqb-true, eq-eqb, ne_eqb, leb-true, leb-false}
use Rattle.modes.specs.Modes.{compatible}
use Rattle.tables.specs.Lists.{within, count, bit, all}
use Rattle.tables.specs.State.{Lock, Tables, no_lock, lock, resource, granted, converting, waiting, blocked_lock, holds, grants, converts, waits, LockChain, free_locks, queue, chain, belongs, move}
use Rattle.tables.specs.Grants.{holders, fits, convert_grantable, wait_grantable, grantable_head, no_grantable_head}
use Rattle.tables.proofs.Cases.{by_cases, by_equal, clash, eqb_same, and_left, and_right, or_left, or_right}
use Rattle.tables.proofs.Counts.{count_same, count_append, all_at, all_intro, all_cong, by_append, bit_le, within_le}
use Rattle.tables.specs.Validity.{used, Place, Linked, Core, line, idle, Settled, Near}
use Rattle.tables.proofs.Valid.{ok_at, Fits, absent_lock, used_zero, lock_other, resource_other, used_move}

pub state_within : (t : Tables) (j n : ℕ) → (lock t j).state ≡ suc n → within (length t.locks) j ≡ true
state_within t j n h = by_cases (within (length t.locks) j) (λ w. w) (λ w. absurd (omega (arith, ap (λ (l : Lock). l.state) (absent_lock t j w))))

-- a lock that holds a mode, or is blocked, is one of the locks
pub holder_within : (t : Tables) (j : ℕ) → holds (lock t j) ≡ true → within (length t.locks) j ≡ true
holder_within t j h =
    by_cases (granted (lock t j))
    (λ g. state_within t j 0 (eqb-true (lock t j).state 1 g))
    (λ g. state_within t j 1 (eqb-true (lock t j).state 2 (rw g at h)))

pub blocked_within : (t : Tables) (j : ℕ) → blocked_lock (lock t j) ≡ true → within (length t.locks) j ≡ true
blocked_within t j h =
    by_cases (converting (lock t j))
    (λ c. state_within t j 1 (eqb-true (lock t j).state 2 c))
    (λ c. state_within t j 2 (eqb-true (lock t j).state 3 (rw c at h)))

-- a lock of a queue stands on one of the three
unfoldable pub on_queue : Lock → Bool
on_queue l = granted l || (converting l || waiting l)

pub three_queues : (l : Lock) (e : Bool) → bit (granted l && e) + bit (converting l && e) + bit (waiting l && e) ≡ bit (on_queue l && e)
unfolding on_queue
three_queues l e =
    by_cases (granted l)
    (λ g. rw (eqb-true l.state 1 g) (omega arith))
    (λ g. by_cases (converting l)
    (λ c. rw (eqb-true l.state 2 c) (omega arith))
    (λ c. rw (g, c) (omega arith)))

pub and_bit : (a b : Bool) → 1 ≤ bit (a && b) → (a ≡ true) × (b ≡ true)
and_bit true true h = (refl, refl)
and_bit true false h = absurd (omega arith)
and_bit false b h = absurd (omega arith)

module _ (t : Tables) (linked : Linked t) where
  -- a lock that is on a chain, and one that belongs there
  pub on_chain : (x : LockChain) (j : ℕ) → 1 ≤ count j (chain t x) → (within (length t.locks) j ≡ true) × (belongs x (lock t j) ≡ true)
  on_chain x j m = and_bit (within (length t.locks) j) (belongs x (lock t j)) (rw (linked x j) at m)

  pub chain_has : (x : LockChain) (j : ℕ) → within (length t.locks) j ≡ true → belongs x (lock t j) ≡ true → count j (chain t x) ≡ 1
  chain_has x j w b = linked x j ∙ (rw (w, b))

  pub chain_once : (x : LockChain) (j : ℕ) → count j (chain t x) ≤ 1
  chain_once x j = rw (linked x j) (bit_le (within (length t.locks) j && belongs x (lock t j)))

  pub holder_in : (r j : ℕ) → holds (lock t j) ≡ true → (lock t j).resource ≡ r → 1 ≤ count j (holders t r)
  unfolding holders
  holder_in r j h e =
      rw count_append
      (by_cases (granted (lock t j))
      (λ g. omega (arith, chain_has (queue r grants) j (state_within t j 0 (eqb-true _ 1 g)) (rw (g, e, eqb_same r))))
      (λ g. let g2 : converting (lock t j) ≡ true = rw g at h in
      omega (arith, chain_has (queue r converts) j (state_within t j 1 (eqb-true _ 2 g2)) (rw (g2, e, eqb_same r)))))

  -- what a lock on a home chain of r is
  pub on_grants : (r j : ℕ) → 1 ≤ count j (resource t r).grant → (granted (lock t j) ≡ true) × ((lock t j).resource ≡ r)
  on_grants r j m =
      let b : belongs (queue r grants) (lock t j) ≡ true = (on_chain (queue r grants) j m).1 in
      (and_left _ (eqb (lock t j).resource r) b, eqb-true _ r (and_right (granted (lock t j)) _ b))

  pub on_converts : (r j : ℕ) → 1 ≤ count j (resource t r).convert → (converting (lock t j) ≡ true) × ((lock t j).resource ≡ r)
  on_converts r j m =
      let b : belongs (queue r converts) (lock t j) ≡ true = (on_chain (queue r converts) j m).1 in
      (and_left _ (eqb (lock t j).resource r) b, eqb-true _ r (and_right (converting (lock t j)) _ b))

  pub on_waits : (r j : ℕ) → 1 ≤ count j (resource t r).wait → (waiting (lock t j) ≡ true) × ((lock t j).resource ≡ r)
  on_waits r j m =
      let b : belongs (queue r waits) (lock t j) ≡ true = (on_chain (queue r waits) j m).1 in
      (and_left _ (eqb (lock t j).resource r) b, eqb-true _ r (and_right (waiting (lock t j)) _ b))

  pub in_holder : (r j : ℕ) → 1 ≤ count j (holders t r) → (holds (lock t j) ≡ true) × ((lock t j).resource ≡ r)
  unfolding holders
  in_holder r j m =
      by_append j (resource t r).grant (resource t r).convert m
      (λ h. (or_left (granted (lock t j)) (converting (lock t j)) (on_grants r j h).0, (on_grants r j h).1))
      (λ h. (or_right (granted (lock t j)) (converting (lock t j)) (on_converts r j h).0, (on_converts r j h).1))

  pub holder_range : (r j : ℕ) → 1 ≤ count j (holders t r) → (1 ≤ j) × (j ≤ length t.locks)
  holder_range r j m = within_le (length t.locks) j (holder_within t j (in_holder r j m).0)

  pub fits_true : (r k m : ℕ) → fits t r k m ≡ true → Fits t r k m
  unfolding fits
  fits_true r k m h j n hold e = rw (ne_eqb j k n) at (all_at _ (holders t r) h j (holder_in r j hold e))

  pub true_fits : (r k m : ℕ) → Fits t r k m → fits t r k m ≡ true
  unfolding fits
  true_fits r k m h =
      all_intro _ (holders t r)
      (λ j i. by_equal j k
      (λ e. or_left _ _ (eq-eqb j k e))
      (λ n. or_right (eqb j k) _ (h j n (in_holder r j i).0 (in_holder r j i).1)))

module _ (t : Tables) (c : Core t) where
  -- a lock on the free chain
  pub on_free : (k : ℕ) → 1 ≤ count k t.free_locks → (within (length t.locks) k ≡ true) × (lock t k ≡ no_lock)
  on_free k m =
      let o = on_chain t c.linked free_locks k m in
      (o.0, ok_at (used t) (lock t k) 0 (c.lock_ok k) o.1)

  -- a blocked lock of r
  pub blocked_place : (r k : ℕ) → 1 ≤ count k (line t r) → Place (used t) (lock t k) × ((lock t k).resource ≡ r) × (within (length t.locks) k ≡ true)
  unfolding line
  blocked_place r k m =
      by_append k (resource t r).convert (resource t r).wait m
      (λ h. ((ok_at (used t) (lock t k) 2 (c.lock_ok k) (on_converts t c.linked r k h).0).place, (on_converts t c.linked r k h).1, (on_chain t c.linked (queue r converts) k h).0))
      (λ h. ((ok_at (used t) (lock t k) 3 (c.lock_ok k) (on_waits t c.linked r k h).0).place, (on_waits t c.linked r k h).1, (on_chain t c.linked (queue r waits) k h).0))

  -- a lock of another resource than r is not one near r
  pub other_lock : (r k s j : ℕ) → Near r (lock t k) → s ≢ r → used t s ≡ true → (lock t j).resource ≡ s → j ≢ k
  other_lock r k s j near n u e q =
      n (sym (rw q at e) ∙ near (λ z. clash (used t 0) (rw (sym (rw q at e) ∙ z) at u) (used_zero t)))

  pub holder_used : (s j : ℕ) → 1 ≤ count j (holders t s) → used t s ≡ true
  unfolding holders
  holder_used s j m =
      by_append j (resource t s).grant (resource t s).convert m
      (λ h. rw (on_grants t c.linked s j h).1 at (ok_at (used t) (lock t j) 1 (c.lock_ok j) (on_grants t c.linked s j h).0).place.in_use)
      (λ h. rw (on_converts t c.linked s j h).1 at (ok_at (used t) (lock t j) 2 (c.lock_ok j) (on_converts t c.linked s j h).0).place.in_use)

  -- the other resources stay as they are
  module _ (r k : ℕ) (m : Lock) (near : Near r (lock t k)) (s : ℕ) (n : s ≢ r) where
    holders_other : holders (move r k m t) s ≡ holders t s
    unfolding holders
    holders_other = rw (resource_other r k m t s n)

    line_other : line (move r k m t) s ≡ line t s
    unfolding line
    line_other = rw (resource_other r k m t s n)

    fits_other : (j a : ℕ) → fits (move r k m t) s j a ≡ fits t s j a
    unfolding fits
    fits_other j a =
        rw holders_other
        (all_cong _ _ (holders t s) (λ i h. rw (lock_other r k m t i (other_lock r k s i near n (holder_used s i h) (in_holder t c.linked s i h).1))))

    idle_other : idle t s (line t s) ≡ true → idle (move r k m t) s (line (move r k m t) s) ≡ true
    unfolding idle convert_grantable
    idle_other h = rw line_other (go (line t s) refl h)
      where
        go : (qs : List ℕ) → line t s ≡ qs → idle t s qs ≡ true → idle (move r k m t) s qs ≡ true
        go [] e h = refl
        go (j ∷ js) e h =
            let b = blocked_place s j (rw (e, count_same) (omega arith)) in
            rw (fits_other, lock_other r k m t j (other_lock r k s j near n (rw b.1 at b.0.in_use) b.1)) h

    pub settled_other : Settled t s → Settled (move r k m t) s
    settled_other h = record { still = idle_other h.still; peopled = rw (used_move r k m t s, resource_other r k m t s n) h.peopled }

  pub line_once : (r j : ℕ) → count j (line t r) ≤ 1
  unfolding line
  line_once r j =
      let a : count j (resource t r).convert ≤ 1 = chain_once t c.linked (queue r converts) j in
      let b : count j (resource t r).wait ≤ 1 = chain_once t c.linked (queue r waits) j in
      rw count_append
      (by_cases (leb 1 (count j (resource t r).convert))
      (λ p. by_cases (leb 1 (count j (resource t r).wait))
      (λ q. absurd (omega (arith, eqb-true (lock t j).state 2 (on_converts t c.linked r j (leb-true 1 (count j (resource t r).convert) p)).0, eqb-true (lock t j).state 3 (on_waits t c.linked r j (leb-true 1 (count j (resource t r).wait) q)).0)))
      (λ q. omega (arith, leb-false 1 (count j (resource t r).wait) q)))
      (λ p. omega (arith, leb-false 1 (count j (resource t r).convert) p)))

  pub not_granted : (r k : ℕ) → 1 ≤ count k (line t r) → (granted (lock t k) ≡ false) × (eqb (lock t k).state 0 ≡ false)
  unfolding line
  not_granted r k m =
      by_append k (resource t r).convert (resource t r).wait m
      (λ h. (rw (eqb-true (lock t k).state 2 (on_converts t c.linked r k h).0), rw (eqb-true (lock t k).state 2 (on_converts t c.linked r k h).0)))
      (λ h. (rw (eqb-true (lock t k).state 3 (on_waits t c.linked r k h).0), rw (eqb-true (lock t k).state 3 (on_waits t c.linked r k h).0)))

  pub line_blocked : (r k : ℕ) → 1 ≤ count k (line t r) → blocked_lock (lock t k) ≡ true
  unfolding line
  line_blocked r k m =
      by_append k (resource t r).convert (resource t r).wait m
      (λ h. or_left _ (waiting (lock t k)) (on_converts t c.linked r k h).0)
      (λ h. or_right (converting (lock t k)) _ (on_waits t c.linked r k h).0)

-- the wait head's test in the paper's words: a lock that holds nothing there is compared with every held mode
pub fits_all : (t : Tables) → Linked t → (r k m : ℕ) → holds (lock t k) ≡ false → fits t r k m ≡ all (λ j. compatible (lock t j).held m) (holders t r)
unfolding fits
fits_all t linked r k m h =
    all_cong _ _ (holders t r)
    (λ j i. rw (ne_eqb j k (λ e. clash (holds (lock t k)) (rw e at (in_holder t linked r j i).0) h)))

-- behind a convert head no wait head is grantable
pub wait_behind : (t : Tables) (r k j : ℕ) (js : List ℕ) → (resource t r).convert ≡ j ∷ js → wait_grantable t r k ≡ false
unfolding wait_grantable
wait_behind t r k j js e = rw e

-- on an empty convert chain the wait head is tested as a convert head would be, and no head is grantable exactly if the line is idle
module _ (t : Tables) (c : Core t) (r : ℕ) where
  pub wait_fits : (k m : ℕ) → holds (lock t k) ≡ false → fits t r 0 m ≡ fits t r k m
  wait_fits k m h = fits_all t c.linked r 0 m (unfold lock in refl) ∙ sym (fits_all t c.linked r k m h)

  pub wait_head : (k : ℕ) → (resource t r).convert ≡ [] → 1 ≤ count k (resource t r).wait → wait_grantable t r k ≡ convert_grantable t r k
  unfolding wait_grantable convert_grantable
  wait_head k e m = rw e (wait_fits k (lock t k).asked (rw (eqb-true (lock t k).state 3 (on_waits t c.linked r k m).0)))

  heads_idle : no_grantable_head t r ≡ idle t r (line t r)
  unfolding no_grantable_head grantable_head idle line
  heads_idle = go (resource t r).convert (resource t r).wait refl refl
    where
      go : (cs ws : List ℕ) → (resource t r).convert ≡ cs → (resource t r).wait ≡ ws →
          (not (grantable_head (convert_grantable t r) cs) && not (grantable_head (wait_grantable t r) ws)) ≡ idle t r (cs ++ ws)
      go [] [] e f = refl
      go [] (k ∷ ks) e f = rw (wait_head k e (rw (f, count_same) (omega arith)))
      go (j ∷ js) [] e f = and-true (not (convert_grantable t r j))
      go (j ∷ js) (k ∷ ks) e f = rw (wait_behind t r k j js e) (and-true (not (convert_grantable t r j)))

  pub no_head_idle : no_grantable_head t r ≡ true → idle t r (line t r) ≡ true
  no_head_idle h = sym heads_idle ∙ h

  pub idle_no_head : idle t r (line t r) ≡ true → no_grantable_head t r ≡ true
  idle_no_head h = heads_idle ∙ h
