-- The paper's list in its own words, both ways, where the definition of `sound` puts a point otherwise. The other points are conjuncts of it as they stand.
use mathlib.Core.Path.{◌≡◌, refl, sym, ◌∙◌, ap, subst}
use mathlib.Core.Logic.{◌≢◌}
use mathlib.Core.Bool.{true, false, ◌&&◌, and-true, and-false}
use mathlib.Core.List.{List, [], ◌∷◌, ◌++◌}
use Prim.Native.Nat.{ℕ, zero, suc, ◌+◌, ◌<◌, ◌≤◌}
use native.Mathlib.Omega.{arith}
use lib.ListN.{length, take, drop}
use lib.Dec.{eqb}
use borrow.Author.Tests.{eqb-true, eq-eqb, ne_eqb, leb-true, le-leb, not-true}
use Rattle.tables.specs.Lists.{within, count, bit, from, null}
use Rattle.tables.specs.State.{Lock, Tables, name_width, no_lock, lock, resource, blocked_lock, noticed, Queue, grants, converts, waits, LockChain, free_locks, denied, blocked, notices, queue, Chain, of_locks, chain, home_at, home, belongs}
use Rattle.tables.specs.Layout.{resource_width, lock_width, of_resource, of_lock, head, count_field, resources_in, locks_in, word_in, most, link_in, read_chain, read_lock, slot_in, read}
use Rattle.tables.specs.Grants.{empty}
use Rattle.tables.specs.Sound.{indices_right, ends, chain_ends, all_zero, free_resource_right, used_resource_right, resource_right, stands_right, home_right, lock_right, sound}
use Rattle.tables.proofs.Cases.{by_cases, by_equal, clash, eqb_same, parts}
use Rattle.tables.proofs.Counts.{within_le, le_within, count_same, count_other, count_nil, count_step, count_from, from_in}
use Rattle.tables.specs.Validity.{used}
use Rattle.tables.proofs.StateCases.{StateOk}
use Rattle.tables.proofs.Valid.{ok_at, absent, used_within}
use Rattle.tables.specs.Threads.{Within}
use Rattle.tables.proofs.FollowedChains.{follow_null, chain_ends_any}
use Rattle.tables.proofs.ReadState.{resources_read, locks_read, lock_of, chain_followed}
use Rattle.tables.proofs.Tallies.{tally_empty}
use Rattle.tables.proofs.Conditions.{each_at, each_intro, names_differ, differ_names, link_index, locks_low, counts_true, by_use, lock_tested, blocked_off, notice_off}
use Rattle.tables.proofs.Fields.{fields_are}
use Rattle.tables.proofs.Soundness.{sound_valid}

-- 1. "every chain ends": in any number of steps. The definition says in how many
pub ends_stated : (ws : List ℕ) (c : Chain) → chain_ends ws c ≡ true → (m : ℕ) × (ends (link_in ws c) m (link_in ws c 0) ≡ true)
unfolding chain_ends
ends_stated ws c h = (most (resources_in ws) (locks_in ws) c, h)

pub stated_ends : (ws : List ℕ) → indices_right ws ≡ true → (c : Chain) → Within (resources_in ws) (locks_in ws) (head c) → (m : ℕ) → ends (link_in ws c) m (link_in ws c 0) ≡ true → chain_ends ws c ≡ true
unfolding chain_ends
stated_ends ws z c i m h =
    chain_ends_any (link_in ws c) m (most (resources_in ws) (locks_in ws) c) (link_in ws c 0) (λ k p q. link_index ws z c i k q) (link_index ws z c i 0 (omega arith)) h

-- 2. "A resource is once on the free chain, all else in record and slot zero .."
pub record FreeResource (ws ss : List ℕ) (r : ℕ) : Type 0 where
  pub once : count r (read ws ss).free_resources ≡ 1
  pub words_zero : (f : ℕ) → 1 ≤ f → f < resource_width → word_in ws (of_resource r f) ≡ 0
  pub slot_zero : all_zero (slot_in ss r) ≡ true

-- ".. or it is in use: next zero, a name of 1 to 64 bytes that no other has, at least one lock."
pub record UsedResource (ws ss : List ℕ) (r : ℕ) : Type 0 where
  pub not_free : count r (read ws ss).free_resources ≡ 0
  pub next_zero : word_in ws (of_resource r 0) ≡ 0
  pub name_low : 1 ≤ word_in ws (of_resource r 4)
  pub name_high : word_in ws (of_resource r 4) ≤ name_width
  pub zero_after : all_zero (drop (word_in ws (of_resource r 4)) (take name_width (slot_in ss r))) ≡ true
  pub no_other : (s : ℕ) → 1 ≤ s → s ≤ resources_in ws → s ≢ r → (resource (read ws ss) s).name ≢ (resource (read ws ss) r).name
  pub flag : word_in ws (of_resource r 5) ≤ 1
  pub has_lock : (k : ℕ) × (1 ≤ count k ((resource (read ws ss) r).grant ++ ((resource (read ws ss) r).convert ++ (resource (read ws ss) r).wait)))

-- a chain is empty exactly if its head is zero
module _ (ws ss : List ℕ) (some : 1 ≤ locks_in ws) (r : ℕ) (low : 1 ≤ r) (high : r ≤ resources_in ws) where
  head_null : (q : Queue) → Within (resources_in ws) (locks_in ws) (head (of_locks (queue r q))) → null (chain (read ws ss) (queue r q)) ≡ eqb (link_in ws (of_locks (queue r q)) 0) 0
  unfolding read_chain
  head_null q i = ap null (chain_followed ws ss (of_locks (queue r q)) i) ∙ follow_null (link_in ws (of_locks (queue r q))) (locks_in ws) (link_in ws (of_locks (queue r q)) 0) some

  pub heads_zero : empty (resource (read ws ss) r) ≡ (eqb (word_in ws (of_resource r 1)) 0 && eqb (word_in ws (of_resource r 2)) 0 && eqb (word_in ws (of_resource r 3)) 0)
  unfolding empty
  heads_zero = rw (head_null grants (low, high, omega arith), head_null converts (low, high, omega arith), head_null waits (low, high, omega arith))

  pub stated_free : FreeResource ws ss r → resource_right ws ss (read ws ss) r ≡ true
  unfolding resource_right free_resource_right
  stated_free h =
      rw (
        eq-eqb _ 0 (h.words_zero 4 (omega arith) (omega arith)),
        eq-eqb _ 1 h.once,
        eq-eqb _ 0 (h.words_zero 5 (omega arith) (omega arith)),
        heads_zero,
        eq-eqb _ 0 (h.words_zero 1 (omega arith) (omega arith)),
        eq-eqb _ 0 (h.words_zero 2 (omega arith) (omega arith)),
        eq-eqb _ 0 (h.words_zero 3 (omega arith) (omega arith)),
      )
      h.slot_zero

-- "at least one lock": one of its three chains has one
someone : (xs ys zs : List ℕ) → (null xs && null ys && null zs) ≡ false → (k : ℕ) × (1 ≤ count k (xs ++ (ys ++ zs)))
someone (x ∷ xs) ys zs h = (x, rw count_same (omega arith))
someone [] (y ∷ ys) zs h = (y, rw count_same (omega arith))
someone [] [] (z ∷ zs) h = (z, rw count_same (omega arith))
someone [] [] [] h = clash true refl h

no_one : (xs ys zs : List ℕ) (k : ℕ) → 1 ≤ count k (xs ++ (ys ++ zs)) → (null xs && null ys && null zs) ≡ false
no_one (x ∷ xs) ys zs k h = refl
no_one [] (y ∷ ys) zs k h = refl
no_one [] [] (z ∷ zs) k h = refl
no_one [] [] [] k h = absurd (omega (arith, count_nil k))

pub stated_used : (ws ss : List ℕ) (r : ℕ) → UsedResource ws ss r → resource_right ws ss (read ws ss) r ≡ true
unfolding resource_right used_resource_right empty
stated_used ws ss r h =
    let alone = differ_names (read ws ss) r (λ s p q. h.no_other s p (rw (resources_read ws ss) at q)) in
    rw (
      ne_eqb (word_in ws (of_resource r 4)) 0 (let p = h.name_low in omega arith),
      eq-eqb _ 0 h.not_free,
      eq-eqb _ 0 h.next_zero,
      le-leb (word_in ws (of_resource r 4)) name_width h.name_high,
      h.zero_after,
      alone,
      le-leb (word_in ws (of_resource r 5)) 1 h.flag,
      no_one (resource (read ws ss) r).grant (resource (read ws ss) r).convert (resource (read ws ss) r).wait h.has_lock.0 h.has_lock.1,
    )

module _ (ws ss : List ℕ) (h : sound ws ss ≡ true) (r : ℕ) (low : 1 ≤ r) (high : r ≤ resources_in ws) where
  pub free_stated : word_in ws (of_resource r 4) ≡ 0 → FreeResource ws ss r
  unfolding free_resource_right
  free_stated e =
      by_use ws ss h r low high
      (λ n z. record { once = eqb-true _ 1 (search parts depth 20); words_zero = zeros (search parts depth 20) (eqb-true _ 0 (search parts depth 20)); slot_zero = search parts depth 20 })
      (λ n z. absurd (omega arith))
    where
      zeros : empty (resource (read ws ss) r) ≡ true → word_in ws (of_resource r 5) ≡ 0 → (f : ℕ) → 1 ≤ f → f < resource_width → word_in ws (of_resource r f) ≡ 0
      zeros y v zero p q = absurd (omega arith)
      zeros y v (suc zero) p q = let z = rw (heads_zero ws ss (locks_low ws ss h) r low high) at y in eqb-true (word_in ws (of_resource r 1)) 0 (search parts depth 20)
      zeros y v (suc (suc zero)) p q = let z = rw (heads_zero ws ss (locks_low ws ss h) r low high) at y in eqb-true (word_in ws (of_resource r 2)) 0 (search parts depth 20)
      zeros y v (suc (suc (suc zero))) p q = let z = rw (heads_zero ws ss (locks_low ws ss h) r low high) at y in eqb-true (word_in ws (of_resource r 3)) 0 (search parts depth 20)
      zeros y v (suc (suc (suc (suc zero)))) p q = e
      zeros y v (suc (suc (suc (suc (suc zero))))) p q = v
      zeros y v (suc (suc (suc (suc (suc (suc f)))))) p q = let e : count_field f ≡ suc (suc (suc (suc (suc (suc f))))) = omega arith in rw e at (counts_true ws ss h r low high f (omega arith) ∙ tally_empty (read ws ss) r f y)

  pub used_stated : 1 ≤ word_in ws (of_resource r 4) → UsedResource ws ss r
  unfolding used_resource_right empty
  used_stated e =
      by_use ws ss h r low high
      (λ n z. absurd (omega arith))
      (λ n z. record {
        not_free = eqb-true _ 0 (search parts depth 20);
        next_zero = eqb-true _ 0 (search parts depth 20);
        name_low = e;
        name_high = leb-true _ name_width (search parts depth 20);
        zero_after = search parts depth 20;
        no_other = λ s p q. names_differ (read ws ss) r (search parts depth 20) s p (rw (resources_read ws ss) q);
        flag = leb-true _ 1 (search parts depth 20);
        has_lock = someone (resource (read ws ss) r).grant (resource (read ws ss) r).convert (resource (read ws ss) r).wait (not-true _ (search parts depth 20));
      })

-- 3. "A lock stands once on one home chain (free, denied, or grant, convert or wait of its resource), and its state and resource say which."
unfoldable pub sum : (ℕ → ℕ) → List ℕ → ℕ
sum f [] = 0
sum f (x ∷ xs) = f x + sum f xs

-- how often k stands on the three chains of r; on all home chains
abbrev pub on_queues : Tables → ℕ → ℕ → ℕ
on_queues t k r = count k (resource t r).grant + count k (resource t r).convert + count k (resource t r).wait

unfoldable pub home_count : Tables → ℕ → ℕ
unfolding sum
home_count t k = count k t.free_locks + count k t.denied + sum (on_queues t k) (from 1 (length t.resources))

module _ (f : ℕ → ℕ) where
  sum_zero : (xs : List ℕ) → ((x : ℕ) → 1 ≤ count x xs → f x ≡ 0) → sum f xs ≡ 0
  unfolding sum
  sum_zero [] h = refl
  sum_zero (x ∷ xs) h =
      omega (arith, h x (rw (count_same x xs) (omega arith)), sum_zero xs (λ y m. h y (omega (arith, count_step y x xs))))

  sum_one : (xs : List ℕ) (s : ℕ) → count s xs ≡ 1 → ((x : ℕ) → 1 ≤ count x xs → x ≢ s → f x ≡ 0) → sum f xs ≡ f s
  unfolding sum
  sum_one [] s e h = absurd (omega (arith, count_nil s))
  sum_one (x ∷ xs) s e h =
      by_equal s x
      (λ q. let none : count s xs ≡ 0 = omega (arith, count_same s xs, rw (sym q) at e) in
      omega (arith, ap f q, sum_zero xs (λ y m. h y (omega (arith, count_step y x xs)) (λ z. absurd (omega (arith, none, rw z at m))))))
      (λ n. omega (arith, h x (rw (count_same x xs) (omega arith)) (λ z. n (sym z)), sum_one xs s (rw (count_other s x xs n) at e) (λ y m. h y (omega (arith, count_step y x xs)))))

  sum_has : (xs : List ℕ) (s : ℕ) → 1 ≤ count s xs → f s ≤ sum f xs
  unfolding sum
  sum_has [] s m = absurd (omega (arith, count_nil s))
  sum_has (x ∷ xs) s m = by_equal s x (λ q. omega (arith, ap f q)) (λ n. omega (arith, sum_has xs s (rw (count_other s x xs n) at m)))

  sum_two : (xs : List ℕ) (r s : ℕ) → r ≢ s → 1 ≤ count r xs → 1 ≤ count s xs → f r + f s ≤ sum f xs
  unfolding sum
  sum_two [] r s d m n = absurd (omega (arith, count_nil s))
  sum_two (x ∷ xs) r s d m n =
      by_equal r x
      (λ q. omega (arith, ap f q, sum_has xs s (rw (count_other s x xs (λ z. d (q ∙ sym z))) at n)))
      (λ a. by_equal s x
      (λ q. omega (arith, ap f q, sum_has xs r (rw (count_other r x xs a) at m)))
      (λ b. omega (arith, sum_two xs r s d (rw (count_other r x xs a) at m) (rw (count_other s x xs b) at n))))

in_range : (n r : ℕ) → 1 ≤ r → r ≤ n → count r (from 1 n) ≡ 1
in_range n r p q = count_from n r ∙ (rw (le_within n r p q))

-- the state of the locks on a queue
abbrev queue_state : Queue → ℕ
queue_state grants = 1
queue_state converts = 2
queue_state waits = 3

queue_belongs : (r : ℕ) (q : Queue) (l : Lock) → belongs (queue r q) l ≡ (eqb l.state (queue_state q) && eqb l.resource r)
queue_belongs r grants l = refl
queue_belongs r converts l = refl
queue_belongs r waits l = refl

module _ (t : Tables) (k : ℕ) where
  tested_count : (c : LockChain) → stands_right t c k ≡ true → count k (chain t c) ≡ bit (belongs c (lock t k))
  unfolding stands_right
  tested_count c h = eqb-true _ _ h

  count_tested : (c : LockChain) → count k (chain t c) ≡ bit (belongs c (lock t k)) → stands_right t c k ≡ true
  unfolding stands_right
  count_tested c e = eq-eqb (count k (chain t c)) (bit (belongs c (lock t k))) e

  home_queues : home_right t k ≡ true → (r : ℕ) → 1 ≤ r → r ≤ length t.resources → (q : Queue) → count k (chain t (queue r q)) ≡ bit (belongs (queue r q) (lock t k))
  unfolding home_right
  home_queues h r p m q =
      let z = each_at (λ r. stands_right t (queue r grants) k && stands_right t (queue r converts) k && stands_right t (queue r waits) k) (length t.resources) (search parts depth 20) r p m in
      elim q as (λ q. count k (chain t (queue r q)) ≡ bit (belongs (queue r q) (lock t k))) [
        | grants ↦ tested_count (queue r grants) (search parts depth 20)
        | converts ↦ tested_count (queue r converts) (search parts depth 20)
        | waits ↦ tested_count (queue r waits) (search parts depth 20)
      ]

  queues_home : count k t.free_locks ≡ bit (belongs free_locks (lock t k)) → count k t.denied ≡ bit (belongs denied (lock t k)) →
      ((r : ℕ) → 1 ≤ r → r ≤ length t.resources → (q : Queue) → count k (chain t (queue r q)) ≡ bit (belongs (queue r q) (lock t k))) → home_right t k ≡ true
  unfolding home_right
  queues_home a b d =
      rw (count_tested free_locks a, count_tested denied b)
      (each_intro _ (length t.resources)
      (λ r p m. rw (count_tested (queue r grants) (d r p m grants), count_tested (queue r converts) (d r p m converts), count_tested (queue r waits) (d r p m waits))))

  -- a lock that is right stands once in all, and on its home
  module _ (h : lock_right t k ≡ true) where
    home_h : home_right t k ≡ true
    unfolding lock_right
    home_h = search parts

    on_free : count k t.free_locks ≡ bit (belongs free_locks (lock t k))
    unfolding home_right
    on_free = let z = home_h in tested_count free_locks (search parts depth 20)

    on_denied : count k t.denied ≡ bit (belongs denied (lock t k))
    unfolding home_right
    on_denied = let z = home_h in tested_count denied (search parts depth 20)

    on_queue : (r : ℕ) → 1 ≤ count r (from 1 (length t.resources)) → (q : Queue) → count k (chain t (queue r q)) ≡ bit (belongs (queue r q) (lock t k))
    on_queue r m = let i = from_in (length t.resources) r m in home_queues home_h r i.0 i.1

    elsewhere : (r : ℕ) → 1 ≤ count r (from 1 (length t.resources)) → r ≢ (lock t k).resource → on_queues t k r ≡ 0
    elsewhere r m n =
        let d = ne_eqb (lock t k).resource r (λ e. n (sym e)) in
        let a : count k (resource t r).grant ≡ 0 = on_queue r m grants ∙ (rw (d, and-false)) in
        let b : count k (resource t r).convert ≡ 0 = on_queue r m converts ∙ (rw (d, and-false)) in
        let e : count k (resource t r).wait ≡ 0 = on_queue r m waits ∙ (rw (d, and-false)) in
        omega arith

    -- it stands on no resource; on its own
    lone : (s : ℕ) → (lock t k).state ≡ s → eqb s 1 ≡ false → eqb s 2 ≡ false → eqb s 3 ≡ false → bit (eqb s 0) + bit (eqb s 4) ≡ 1 → home_count t k ≡ 1
    unfolding home_count
    lone s e one two three total =
        let a : count k t.free_locks ≡ bit (eqb s 0) = on_free ∙ (rw e) in
        let b : count k t.denied ≡ bit (eqb s 4) = on_denied ∙ (rw e) in
        let none = sum_zero (on_queues t k) (from 1 (length t.resources))
        (λ r m. let x : count k (resource t r).grant ≡ 0 = on_queue r m grants ∙ (rw (e, one)) in
        let y : count k (resource t r).convert ≡ 0 = on_queue r m converts ∙ (rw (e, two)) in
        let z : count k (resource t r).wait ≡ 0 = on_queue r m waits ∙ (rw (e, three)) in
        omega arith) in
        omega arith

    lodging : (s : ℕ) → (lock t k).state ≡ s → eqb s 0 ≡ false → eqb s 4 ≡ false → bit (eqb s 1) + bit (eqb s 2) + bit (eqb s 3) ≡ 1 → used t (lock t k).resource ≡ true → home_count t k ≡ 1
    unfolding home_count
    lodging s e not_free not_denied total u =
        let i = within_le (length t.resources) (lock t k).resource (used_within t (lock t k).resource u) in
        let one = in_range (length t.resources) (lock t k).resource i.0 i.1 in
        let a : count k t.free_locks ≡ 0 = on_free ∙ (rw (e, not_free)) in
        let b : count k t.denied ≡ 0 = on_denied ∙ (rw (e, not_denied)) in
        let same_r = eqb_same (lock t k).resource in
        let x : count k (resource t (lock t k).resource).grant ≡ bit (eqb s 1) = on_queue (lock t k).resource (omega arith) grants ∙ (rw (same_r, and-true, e)) in
        let y : count k (resource t (lock t k).resource).convert ≡ bit (eqb s 2) = on_queue (lock t k).resource (omega arith) converts ∙ (rw (same_r, and-true, e)) in
        let z : count k (resource t (lock t k).resource).wait ≡ bit (eqb s 3) = on_queue (lock t k).resource (omega arith) waits ∙ (rw (same_r, and-true, e)) in
        omega (arith, sum_one (on_queues t k) (from 1 (length t.resources)) (lock t k).resource one elsewhere)

    lock_ok : StateOk (used t) (lock t k) (lock t k).state
    unfolding lock_right
    lock_ok = fields_are t (lock t k) (lock t k).state refl (search parts)

    pub lock_once : home_count t k ≡ 1
    lock_once = go (lock t k).state refl lock_ok
      where
        go : (s : ℕ) → (lock t k).state ≡ s → StateOk (used t) (lock t k) s → home_count t k ≡ 1
        go zero e ok = lone 0 e refl refl refl refl
        go (suc zero) e ok = lodging 1 e refl refl refl ok.place.in_use
        go (suc (suc zero)) e ok = lodging 2 e refl refl refl ok.place.in_use
        go (suc (suc (suc zero))) e ok = lodging 3 e refl refl refl ok.place.in_use
        go (suc (suc (suc (suc zero)))) e ok = lone 4 e refl refl refl refl
        go (suc (suc (suc (suc (suc n))))) e ok = absurd ok

    pub lock_home : count k (chain t (home (lock t k))) ≡ 1
    lock_home = go (lock t k).state refl lock_ok
      where
        own : (q : Queue) → used t (lock t k).resource ≡ true → belongs (queue (lock t k).resource q) (lock t k) ≡ true → count k (chain t (queue (lock t k).resource q)) ≡ 1
        own q u b =
            let i = within_le (length t.resources) (lock t k).resource (used_within t (lock t k).resource u) in
            home_queues home_h (lock t k).resource i.0 i.1 q ∙ (rw b)

        go : (s : ℕ) → (lock t k).state ≡ s → StateOk (used t) (lock t k) s → count k (chain t (home_at s (lock t k).resource)) ≡ 1
        go zero e ok = on_free ∙ (rw e)
        go (suc zero) e ok = own grants ok.place.in_use (rw (e, eqb_same))
        go (suc (suc zero)) e ok = own converts ok.place.in_use (rw (e, eqb_same))
        go (suc (suc (suc zero))) e ok = own waits ok.place.in_use (rw (e, eqb_same))
        go (suc (suc (suc (suc zero)))) e ok = on_denied ∙ (rw e)
        go (suc (suc (suc (suc (suc n))))) e ok = absurd ok

  -- a lock that stands once in all, and that once on its home, is right if its fields are
  module _ (once : home_count t k ≡ 1) (at_home : 1 ≤ count k (chain t (home (lock t k)))) where
    total : count k t.free_locks + count k t.denied + sum (on_queues t k) (from 1 (length t.resources)) ≡ 1
    unfolding home_count
    total = once

    some_queue : (r : ℕ) → 1 ≤ r → r ≤ length t.resources → on_queues t k r ≤ sum (on_queues t k) (from 1 (length t.resources))
    some_queue r p m = sum_has (on_queues t k) (from 1 (length t.resources)) r (omega (arith, in_range (length t.resources) r p m))

    one_queue : (r : ℕ) (q : Queue) → count k (chain t (queue r q)) ≤ on_queues t k r
    one_queue r grants = omega arith
    one_queue r converts = omega arith
    one_queue r waits = omega arith

    alone : (r s : ℕ) → 1 ≤ r → r ≤ length t.resources → 1 ≤ s → s ≤ length t.resources → s ≢ r → 1 ≤ on_queues t k r → on_queues t k s ≡ 0
    alone r s p m a b n o =
        omega (arith, total, sum_two (on_queues t k) (from 1 (length t.resources)) s r n (omega (arith, in_range (length t.resources) s a b)) (omega (arith, in_range (length t.resources) r p m)))

    has_number : (r : ℕ) → 1 ≤ on_queues t k r → (1 ≤ r) × (r ≤ length t.resources)
    has_number r o =
        within_le (length t.resources) r (by_cases (within (length t.resources) r) (λ w. w) (λ w. absurd (omega (arith, count_nil k, rw (absent t r w) at o))))

    -- no resource has it
    nowhere : (s : ℕ) → (lock t k).state ≡ s → eqb s 1 ≡ false → eqb s 2 ≡ false → eqb s 3 ≡ false →
        count k t.free_locks ≡ bit (eqb s 0) → count k t.denied ≡ bit (eqb s 4) → bit (eqb s 0) + bit (eqb s 4) ≡ 1 → home_right t k ≡ true
    nowhere s e one two three a b o =
        queues_home (rw e a) (rw e b)
        (λ r p m q. let none : on_queues t k r ≡ 0 = omega (arith, total, some_queue r p m) in
        let z : count k (chain t (queue r q)) ≡ 0 = omega (arith, one_queue r q) in
        z ∙ sym (off r q))
      where
        off : (r : ℕ) (q : Queue) → bit (belongs (queue r q) (lock t k)) ≡ 0
        off r grants = rw (e, one)
        off r converts = rw (e, two)
        off r waits = rw (e, three)

    -- its own resource has it
    somewhere : (s : ℕ) → (lock t k).state ≡ s → eqb s 0 ≡ false → eqb s 4 ≡ false →
        ((q : Queue) → count k (chain t (queue (lock t k).resource q)) ≡ bit (eqb s (queue_state q))) → 1 ≤ on_queues t k (lock t k).resource → home_right t k ≡ true
    somewhere s e not_free not_denied own o =
        let r = (lock t k).resource in
        let i = has_number r o in
        let a : count k t.free_locks ≡ 0 = omega (arith, total, some_queue r i.0 i.1) in
        let b : count k t.denied ≡ 0 = omega (arith, total, some_queue r i.0 i.1) in
        queues_home (rw (e, not_free) a) (rw (e, not_denied) b)
        (λ x p m q. by_equal {A = count k (chain t (queue x q)) ≡ bit (eqb (lock t k).state (queue_state q) && eqb (lock t k).resource x)} (lock t k).resource x
        (λ z. subst (λ (x : ℕ). count k (chain t (queue x q)) ≡ bit (eqb (lock t k).state (queue_state q) && eqb (lock t k).resource x)) z (own q ∙ (rw (eqb_same (lock t k).resource, and-true, e))))
        (λ n. let none = alone r x i.0 i.1 p m (λ y. n (sym y)) o in
        let c : count k (chain t (queue x q)) ≡ 0 = omega (arith, one_queue x q) in
        c ∙ (rw (ne_eqb (lock t k).resource x n, and-false)))
        ∙ ap bit (sym (queue_belongs x q (lock t k))))

    own_at_most : (r : ℕ) → 1 ≤ on_queues t k r → on_queues t k r ≡ 1
    own_at_most r o = let i = has_number r o in omega (arith, total, some_queue r i.0 i.1)

    pub once_home : (lock t k).state ≤ 4 → home_right t k ≡ true
    once_home p = go (lock t k).state refl p at_home
      where
        go : (s : ℕ) → (lock t k).state ≡ s → s ≤ 4 → 1 ≤ count k (chain t (home_at s (lock t k).resource)) → home_right t k ≡ true
        go zero e p m = nowhere 0 e refl refl refl (omega (arith, total)) (omega (arith, total)) refl
        go (suc zero) e p m =
            let o = own_at_most (lock t k).resource (omega arith) in
            somewhere 1 e refl refl (λ q. elim q as (λ q. count k (chain t (queue (lock t k).resource q)) ≡ bit (eqb 1 (queue_state q))) [ grants ↦ omega arith | converts ↦ omega arith | waits ↦ omega arith ]) (omega arith)
        go (suc (suc zero)) e p m =
            let o = own_at_most (lock t k).resource (omega arith) in
            somewhere 2 e refl refl (λ q. elim q as (λ q. count k (chain t (queue (lock t k).resource q)) ≡ bit (eqb 2 (queue_state q))) [ grants ↦ omega arith | converts ↦ omega arith | waits ↦ omega arith ]) (omega arith)
        go (suc (suc (suc zero))) e p m =
            let o = own_at_most (lock t k).resource (omega arith) in
            somewhere 3 e refl refl (λ q. elim q as (λ q. count k (chain t (queue (lock t k).resource q)) ≡ bit (eqb 3 (queue_state q))) [ grants ↦ omega arith | converts ↦ omega arith | waits ↦ omega arith ]) (omega arith)
        go (suc (suc (suc (suc zero)))) e p m = nowhere 4 e refl refl refl (omega (arith, total)) (omega (arith, total)) refl
        go (suc (suc (suc (suc (suc n))))) e p m = absurd (omega arith)

-- so of sound words and slots
module _ (ws ss : List ℕ) (h : sound ws ss ≡ true) where
  module _ (k : ℕ) (low : 1 ≤ k) (high : k ≤ locks_in ws) where
    pub home_once : home_count (read ws ss) k ≡ 1
    home_once = lock_once (read ws ss) k (lock_tested ws ss h k low high)

    pub home_said : count k (chain (read ws ss) (home (lock (read ws ss) k))) ≡ 1
    home_said = lock_home (read ws ss) k (lock_tested ws ss h k low high)

  -- "Free: all but home next zero."
  pub free_lock : (k : ℕ) → 1 ≤ k → k ≤ locks_in ws → word_in ws (of_lock k 5) ≡ 0 → (f : ℕ) → 1 ≤ f → f < lock_width → word_in ws (of_lock k f) ≡ 0
  unfolding read_lock
  free_lock zero p m e f a b = absurd (omega arith)
  free_lock (suc k) p m e f a b = go f a b
    where
      is_read : lock (read ws ss) (suc k) ≡ read_lock ws (suc k)
      is_read = lock_of ws ss (suc k) p m

      is_none : lock (read ws ss) (suc k) ≡ no_lock
      is_none = ok_at (used (read ws ss)) (lock (read ws ss) (suc k)) 0 ((sound_valid ws ss h).core.lock_ok (suc k)) (eq-eqb _ 0 (ap (λ (l : Lock). l.state) is_read ∙ e))

      field : (g : Lock → ℕ) → g (read_lock ws (suc k)) ≡ g no_lock
      field g = ap g (sym is_read ∙ is_none)

      go : (f : ℕ) → 1 ≤ f → f < lock_width → word_in ws (of_lock (suc k) f) ≡ 0
      go zero a b = absurd (omega arith)
      go (suc zero) a b = blocked_off ws ss h (suc k) p m (ap (λ (l : Lock). blocked_lock l) is_none)
      go (suc (suc zero)) a b = notice_off ws ss h (suc k) p m (ap (λ (l : Lock). noticed l) is_none)
      go (suc (suc (suc zero))) a b = field (λ (l : Lock). l.resource)
      go (suc (suc (suc (suc zero)))) a b = field (λ (l : Lock). l.client)
      go (suc (suc (suc (suc (suc zero))))) a b = field (λ (l : Lock). l.state)
      go (suc (suc (suc (suc (suc (suc zero)))))) a b = field (λ (l : Lock). l.held)
      go (suc (suc (suc (suc (suc (suc (suc zero))))))) a b = field (λ (l : Lock). l.asked)
      go (suc (suc (suc (suc (suc (suc (suc (suc zero)))))))) a b = field (λ (l : Lock). l.completion)
      go (suc (suc (suc (suc (suc (suc (suc (suc (suc zero))))))))) a b = field (λ (l : Lock). l.mark)
      go (suc (suc (suc (suc (suc (suc (suc (suc (suc (suc f)))))))))) a b = absurd (omega arith)

  -- 4. "The blocked chain has exactly the converting and waiting locks, once each; the notice chain exactly those with a completion" or a mark
  pub blocked_exactly : (k : ℕ) → count k (read ws ss).blocked ≡ bit (within (locks_in ws) k && blocked_lock (lock (read ws ss) k))
  blocked_exactly k = rw (locks_read ws ss) at ((sound_valid ws ss h).core.linked blocked k)

  pub notices_exactly : (k : ℕ) → count k (read ws ss).notices ≡ bit (within (locks_in ws) k && noticed (lock (read ws ss) k))
  notices_exactly k = rw (locks_read ws ss) at ((sound_valid ws ss h).core.linked notices k)
