-- Each lock is counted once on its home chain and on no other exactly if the home chains, each of the right locks, have L of them.
use mathlib.Core.Path.{◌≡◌, sym, ◌∙◌}
use mathlib.Core.Logic.{◌≢◌}
use mathlib.Core.Bool.{Bool, true, false, ◌&&◌, ◌||◌, cond}
use mathlib.Core.List.{List, [], ◌∷◌}
use Prim.Native.Nat.{ℕ, ◌+◌, ◌≤◌}
use native.Mathlib.Omega.{arith}
use lib.ListN.{length}
use lib.Dec.{eqb}
use borrow.Author.Tests.{eqb-true, eq-eqb, ne_eqb}
use Rattle.tables.specs.declared.Lock.{Lock}
use Rattle.tables.specs.Lists.{within, count, bit, from}
use Rattle.tables.specs.State.{granted, converting, waiting, Queue, grants, converts, waits}
use Rattle.tables.specs.Layout.{flat_map, resources_in, locks_in, follow, read_lock}
use Rattle.tables.proofs.Cases.{by_cases, by_equal, clash, and_intro}
use Rattle.tables.proofs.Counts.{within_le, le_within, count_nil, count_same, count_step, count_append, count_from, bit_le, from_in}
use Rattle.tables.proofs.Pigeonhole.{length_from, all_of, same_length}
use Rattle.tables.proofs.ChainMembers.{on_queue, three_queues}
use Rattle.check_laws.specs.Check.{lock_fine, home_on}
use Rattle.check_laws.proofs.ChainSteps.{Passed, once, member}
use Rattle.check_laws.proofs.ResourceWalk.{link_of, head_of, queue_in, Right, Walked}
use Rattle.check_laws.proofs.Heads.{home_low, home_state, home_resource, home_fine}
use Rattle.check_laws.proofs.Homes.{free_in, denied_in, three_in, homes_in, Homes}

-- the state of the locks on a resource's chain
abbrev pub state_of : Queue → ℕ
state_of grants = 1
state_of converts = 2
state_of waits = 3

-- what a lock's record says of the home chains is what they have
pub record Stands (ws : List ℕ) (k : ℕ) : Type 0 where
  pub free : count k (free_in ws) ≡ bit (eqb (read_lock ws k).state 0)
  pub denied : count k (denied_in ws) ≡ bit (eqb (read_lock ws k).state 4)
  pub queued : (r : ℕ) → 1 ≤ r → r ≤ resources_in ws → (q : Queue) → count k (queue_in ws r q) ≡ bit (eqb (read_lock ws k).state (state_of q) && eqb (read_lock ws k).resource r)

-- a lock stands on one chain of one resource at most, or is free, or denied
one_home : (l : Lock) → bit (eqb l.state 0) + (bit (eqb l.state 4) + bit (on_queue l)) ≤ 1
unfolding on_queue
one_home l =
    by_cases (eqb l.state 0)
    (λ a. rw (eqb-true l.state 0 a) (omega arith))
    (λ a. by_cases (eqb l.state 4)
    (λ b. rw (eqb-true l.state 4 b) (omega arith))
    (λ b. rw (a, b) (omega (arith, bit_le (granted l || (converting l || waiting l))))))

-- ROWS OF LISTS
module _ (f : ℕ → List ℕ) (k : ℕ) where
  flat_le : (q : Bool) (s : ℕ) (rs : List ℕ) → ((r : ℕ) → 1 ≤ count r rs → count k (f r) ≤ bit (q && eqb s r)) → count k (flat_map f rs) ≤ cond q (count s rs) 0
  unfolding count
  flat_le q s [] h = omega arith
  flat_le q s (x ∷ rs) h =
      let a = h x (omega (arith, count_same x rs)) in
      let ih = flat_le q s rs (λ r m. h r (omega (arith, count_step r x rs))) in
      rw count_append (by_cases q
      (λ y. by_cases (eqb s x)
      (λ e. rw (y, e) (omega (arith, rw (y, e) at a, rw y at ih)))
      (λ e. rw (y, e) (omega (arith, rw (y, e) at a, rw y at ih))))
      (λ y. rw y (omega (arith, rw y at a, rw y at ih))))

  flat_is : (q : Bool) (s : ℕ) (rs : List ℕ) → ((r : ℕ) → 1 ≤ count r rs → count k (f r) ≡ bit (q && eqb s r)) → count k (flat_map f rs) ≡ cond q (count s rs) 0
  unfolding count
  flat_is q s [] h = by_cases q (λ y. rw y) (λ y. rw y)
  flat_is q s (x ∷ rs) h =
      let a = h x (omega (arith, count_same x rs)) in
      let ih = flat_is q s rs (λ r m. h r (omega (arith, count_step r x rs))) in
      rw count_append (by_cases q
      (λ y. by_cases (eqb s x)
      (λ e. rw (y, e) (omega (arith, rw (y, e) at a, rw y at ih)))
      (λ e. rw (y, e) (omega (arith, rw (y, e) at a, rw y at ih))))
      (λ y. rw y (omega (arith, rw y at a, rw y at ih))))

  flat_none : (rs : List ℕ) → ((r : ℕ) → 1 ≤ count r rs → count k (f r) ≡ 0) → count k (flat_map f rs) ≡ 0
  flat_none rs h = omega (arith, flat_le false 0 rs (λ r m. omega (arith, h r m)))

  -- what is on none but that of s, and s is met once
  flat_at : (s : ℕ) (rs : List ℕ) → ((r : ℕ) → 1 ≤ count r rs → r ≢ s → count k (f r) ≡ 0) → count s rs ≤ 1 → count k (flat_map f rs) ≤ count k (f s)
  flat_at s [] h o = omega (arith, count_nil k)
  flat_at s (x ∷ rs) h o =
      rw count_append (by_equal x s
      (λ e. let z = flat_none rs (λ r m. h r (omega (arith, count_step r x rs)) (λ q. let y : 1 ≤ count s rs = rw q at m in omega (arith, rw (e, count_same s rs) at o))) in
      rw e (omega arith))
      (λ n. let z = h x (omega (arith, count_same x rs)) n in
      let ih = flat_at s rs (λ r m. h r (omega (arith, count_step r x rs))) (omega (arith, count_step s x rs)) in omega arith))

-- A CHAIN THAT PASSES has a lock at most once, and none but those that pass and that there are
module _ (g : ℕ → ℕ) (test : ℕ → Bool) (n a : ℕ) (p : Passed g test n a) (low : (j : ℕ) → test j ≡ true → j ≤ n) (k : ℕ) where
  passed_le : (b : Bool) → (test k ≡ true → b ≡ true) → count k (follow g n a) ≤ bit b
  passed_le b h =
      by_equal (count k (follow g n a)) 0
      (λ e. omega arith)
      (λ d. rw (h (member g test n low n a p k (omega arith)).2) (once g n a p.ended k))

  passed_out : within n k ≡ false → count k (follow g n a) ≡ 0
  passed_out w =
      by_equal (count k (follow g n a)) 0
      (λ e. e)
      (λ d. let i = member g test n low n a p k (omega arith) in clash (within n k) (le_within n k i.0 i.1) w)

pub right_at : (ws : List ℕ) (r : ℕ) → Walked ws r → (q : Queue) → Right ws r q (state_of q)
right_at ws r w grants = w.granted
right_at ws r w converts = w.converting
right_at ws r w waits = w.waiting

module _ (ws : List ℕ) (k : ℕ) where
  homes_count : count k (homes_in ws) ≡ count k (free_in ws) + (count k (denied_in ws) + count k (flat_map (three_in ws) (from 1 (resources_in ws))))
  unfolding homes_in
  homes_count = rw (count_append, count_append)

  three_count : (r : ℕ) → count k (three_in ws r) ≡ count k (queue_in ws r grants) + (count k (queue_in ws r converts) + count k (queue_in ws r waits))
  unfolding three_in
  three_count r = rw (count_append, count_append)

  from_once : (n s : ℕ) → count s (from 1 n) ≤ 1
  from_once n s = rw (count_from n s) (bit_le (within n s))

  -- FROM LENGTHS TO COUNTS
  module _ (h : Homes ws) where
    free_le : count k (free_in ws) ≤ bit (eqb (read_lock ws k).state 0)
    unfolding free_in
    free_le = passed_le _ (home_on ws 0 0) (locks_in ws) _ h.free (home_low ws 0 0) k (eqb (read_lock ws k).state 0) (λ t. eq-eqb _ 0 (home_state ws 0 0 k t))

    denied_le : count k (denied_in ws) ≤ bit (eqb (read_lock ws k).state 4)
    unfolding denied_in
    denied_le = passed_le _ (home_on ws 4 0) (locks_in ws) _ h.denied (home_low ws 4 0) k (eqb (read_lock ws k).state 4) (λ t. eq-eqb _ 4 (home_state ws 4 0 k t))

    queue_le : (r : ℕ) → 1 ≤ r → r ≤ resources_in ws → (q : Queue) → count k (queue_in ws r q) ≤ bit (eqb (read_lock ws k).state (state_of q) && eqb (read_lock ws k).resource r)
    unfolding queue_in
    queue_le r a b q =
        passed_le (link_of ws r q) (home_on ws (state_of q) r) (locks_in ws) (head_of ws r q) (right_at ws r (h.walked r a b) q) (home_low ws (state_of q) r) k (eqb (read_lock ws k).state (state_of q) && eqb (read_lock ws k).resource r)
        (λ t. and_intro (eqb (read_lock ws k).state (state_of q)) _ (eq-eqb _ (state_of q) (home_state ws (state_of q) r k t)) (eq-eqb _ r (home_resource ws (state_of q) r k t)))

    three_le : (r : ℕ) → 1 ≤ r → r ≤ resources_in ws → count k (three_in ws r) ≤ bit (on_queue (read_lock ws k) && eqb (read_lock ws k).resource r)
    three_le r a b =
        let x = queue_le r a b grants in
        let y = queue_le r a b converts in
        let z = queue_le r a b waits in
        omega (arith, three_count r, three_queues (read_lock ws k) (eqb (read_lock ws k).resource r))

    rows_le : count k (flat_map (three_in ws) (from 1 (resources_in ws))) ≤ bit (on_queue (read_lock ws k))
    rows_le =
        let a = flat_le (three_in ws) k (on_queue (read_lock ws k)) (read_lock ws k).resource (from 1 (resources_in ws)) (λ r m. let i = from_in (resources_in ws) r m in three_le r i.0 i.1) in
        by_cases (on_queue (read_lock ws k))
        (λ y. rw y (omega (arith, rw y at a, from_once (resources_in ws) (read_lock ws k).resource)))
        (λ y. rw y (omega (arith, rw y at a)))

    outside : within (locks_in ws) k ≡ false → count k (homes_in ws) ≡ 0
    outside w =
        let a : count k (free_in ws) ≡ 0 = unfold free_in in passed_out _ (home_on ws 0 0) (locks_in ws) _ h.free (home_low ws 0 0) k w in
        let b : count k (denied_in ws) ≡ 0 = unfold denied_in in passed_out _ (home_on ws 4 0) (locks_in ws) _ h.denied (home_low ws 4 0) k w in
        omega (arith, homes_count, flat_none (three_in ws) k (from 1 (resources_in ws)) (λ r m. let i = from_in (resources_in ws) r m in omega (arith, three_count r, off r i.0 i.1 grants, off r i.0 i.1 converts, off r i.0 i.1 waits)))
      where
        off : (r : ℕ) → 1 ≤ r → r ≤ resources_in ws → (q : Queue) → count k (queue_in ws r q) ≡ 0
        off r a b q = unfold queue_in in passed_out (link_of ws r q) (home_on ws (state_of q) r) (locks_in ws) (head_of ws r q) (right_at ws r (h.walked r a b) q) (home_low ws (state_of q) r) k w

    -- one that is not fine is on no home chain
    free_unfit : count k (free_in ws) ≤ bit (lock_fine ws k)
    unfolding free_in
    free_unfit = passed_le _ (home_on ws 0 0) (locks_in ws) _ h.free (home_low ws 0 0) k (lock_fine ws k) (home_fine ws 0 0 k)

    denied_unfit : count k (denied_in ws) ≤ bit (lock_fine ws k)
    unfolding denied_in
    denied_unfit = passed_le _ (home_on ws 4 0) (locks_in ws) _ h.denied (home_low ws 4 0) k (lock_fine ws k) (home_fine ws 4 0 k)

    queue_unfit : (r : ℕ) → 1 ≤ r → r ≤ resources_in ws → (q : Queue) → count k (queue_in ws r q) ≤ bit (lock_fine ws k)
    unfolding queue_in
    queue_unfit r a b q =
        passed_le (link_of ws r q) (home_on ws (state_of q) r) (locks_in ws) (head_of ws r q) (right_at ws r (h.walked r a b) q) (home_low ws (state_of q) r) k (lock_fine ws k) (home_fine ws (state_of q) r k)

    unfit : lock_fine ws k ≡ false → count k (homes_in ws) ≡ 0
    unfit w =
        omega (
          arith,
          homes_count,
          rw w at free_unfit,
          rw w at denied_unfit,
          flat_none (three_in ws) k (from 1 (resources_in ws))
              (λ r m. let i = from_in (resources_in ws) r m in omega (arith, three_count r, off r i.0 i.1 grants, off r i.0 i.1 converts, off r i.0 i.1 waits)),
        )
      where
        off : (r : ℕ) → 1 ≤ r → r ≤ resources_in ws → (q : Queue) → count k (queue_in ws r q) ≤ 0
        off r a b q = rw w at (queue_unfit r a b q)

    at_most : count k (homes_in ws) ≤ count k (from 1 (locks_in ws))
    at_most =
        rw (count_from (locks_in ws) k) (by_cases (within (locks_in ws) k)
        (λ w. rw w (omega (arith, homes_count, free_le, denied_le, rows_le, one_home (read_lock ws k))))
        (λ w. rw w (omega (arith, outside w))))

module _ (ws : List ℕ) (h : Homes ws) (total : length (homes_in ws) ≡ locks_in ws) where
  pub counted : (k : ℕ) → count k (homes_in ws) ≡ count k (from 1 (locks_in ws))
  counted = all_of (homes_in ws) (from 1 (locks_in ws)) (from_once ws 0 (locks_in ws)) (λ k. at_most ws k h) (total ∙ sym (length_from 1 (locks_in ws)))

  module _ (k : ℕ) (low : 1 ≤ k) (high : k ≤ locks_in ws) where
    single : count k (free_in ws) + (count k (denied_in ws) + count k (flat_map (three_in ws) (from 1 (resources_in ws)))) ≡ 1
    single = sym (homes_count ws k) ∙ counted k ∙ count_from (locks_in ws) k ∙ (rw (le_within (locks_in ws) k low high))

    in_rows : count k (flat_map (three_in ws) (from 1 (resources_in ws))) ≡ bit (on_queue (read_lock ws k))
    in_rows = omega (arith, single, free_le ws k h, denied_le ws k h, rows_le ws k h, one_home (read_lock ws k))

    module _ (r : ℕ) (a : 1 ≤ r) (b : r ≤ resources_in ws) where
      nothing : (s : ℕ) → 1 ≤ s → s ≤ resources_in ws → ((read_lock ws k).resource ≡ s → ⊥) → count k (three_in ws s) ≡ 0
      nothing s a b n = let z = three_le ws k h s a b in by_cases (on_queue (read_lock ws k)) (λ y. omega (arith, rw (y, ne_eqb (read_lock ws k).resource s n) at z)) (λ y. omega (arith, rw y at z))

      all_here : (read_lock ws k).resource ≡ r → bit (on_queue (read_lock ws k) && eqb (read_lock ws k).resource r) ≤ count k (three_in ws r)
      all_here e =
          let rows = in_rows in
          let part = flat_at (three_in ws) k r (from 1 (resources_in ws)) (λ s m n. let i = from_in (resources_in ws) s m in nothing s i.0 i.1 (λ d. n (sym d ∙ e))) (from_once ws k (resources_in ws) r) in
          rw (eq-eqb (read_lock ws k).resource r e) (by_cases (on_queue (read_lock ws k)) (λ y. rw y (omega (arith, rw y at rows))) (λ y. rw y (omega arith)))

      all_away : ((read_lock ws k).resource ≡ r → ⊥) → bit (on_queue (read_lock ws k) && eqb (read_lock ws k).resource r) ≤ count k (three_in ws r)
      all_away n = rw (ne_eqb (read_lock ws k).resource r n) (by_cases (on_queue (read_lock ws k)) (λ y. rw y (omega arith)) (λ y. rw y (omega arith)))

      in_queue : (q : Queue) → count k (queue_in ws r q) ≡ bit (eqb (read_lock ws k).state (state_of q) && eqb (read_lock ws k).resource r)
      in_queue q = go q
        where
          at_least : bit (on_queue (read_lock ws k) && eqb (read_lock ws k).resource r) ≤ count k (three_in ws r)
          at_least = by_equal (read_lock ws k).resource r all_here all_away

          go : (q : Queue) → count k (queue_in ws r q) ≡ bit (eqb (read_lock ws k).state (state_of q) && eqb (read_lock ws k).resource r)
          go grants = omega (arith, at_least, three_count ws k r, three_queues (read_lock ws k) (eqb (read_lock ws k).resource r), queue_le ws k h r a b grants, queue_le ws k h r a b converts, queue_le ws k h r a b waits)
          go converts = omega (arith, at_least, three_count ws k r, three_queues (read_lock ws k) (eqb (read_lock ws k).resource r), queue_le ws k h r a b grants, queue_le ws k h r a b converts, queue_le ws k h r a b waits)
          go waits = omega (arith, at_least, three_count ws k r, three_queues (read_lock ws k) (eqb (read_lock ws k).resource r), queue_le ws k h r a b grants, queue_le ws k h r a b converts, queue_le ws k h r a b waits)

    pub each_fine : lock_fine ws k ≡ true
    each_fine =
        by_cases (lock_fine ws k) (λ y. y) (λ n. absurd (omega (arith, single, homes_count ws k, unfit ws k h n)))

    pub homes_stand : Stands ws k
    homes_stand =
        record {
          free = omega (arith, single, free_le ws k h, denied_le ws k h, rows_le ws k h, one_home (read_lock ws k));
          denied = omega (arith, single, free_le ws k h, denied_le ws k h, rows_le ws k h, one_home (read_lock ws k));
          queued = in_queue;
        }

-- FROM COUNTS TO LENGTHS
module _ (ws : List ℕ) (h : Homes ws) (stands : (k : ℕ) → 1 ≤ k → k ≤ locks_in ws → Stands ws k)
    (home : (k : ℕ) → 1 ≤ k → k ≤ locks_in ws → bit (eqb (read_lock ws k).state 0) + (bit (eqb (read_lock ws k).state 4) + cond (on_queue (read_lock ws k)) (bit (within (resources_in ws) (read_lock ws k).resource)) 0) ≡ 1) where
  three_is : (k : ℕ) → 1 ≤ k → k ≤ locks_in ws → (r : ℕ) → 1 ≤ r → r ≤ resources_in ws → count k (three_in ws r) ≡ bit (on_queue (read_lock ws k) && eqb (read_lock ws k).resource r)
  three_is k p q r a b =
      let s = stands k p q in
      omega (arith, three_count ws k r, three_queues (read_lock ws k) (eqb (read_lock ws k).resource r), s.queued r a b grants, s.queued r a b converts, s.queued r a b waits)

  once_each : (k : ℕ) → count k (homes_in ws) ≡ count k (from 1 (locks_in ws))
  once_each k =
      rw (count_from (locks_in ws) k) (by_cases (within (locks_in ws) k)
      (λ w. let i = within_le (locks_in ws) k w in
      let s = stands k i.0 i.1 in
      let rows = flat_is (three_in ws) k (on_queue (read_lock ws k)) (read_lock ws k).resource (from 1 (resources_in ws)) (λ r m. let j = from_in (resources_in ws) r m in three_is k i.0 i.1 r j.0 j.1) in
      let one = home k i.0 i.1 in
      rw w (omega (arith, homes_count ws k, s.free, s.denied, rw (count_from (resources_in ws) (read_lock ws k).resource) at rows)))
      (λ w. rw w (outside ws k h w)))

  pub stand_total : length (homes_in ws) ≡ locks_in ws
  stand_total = same_length (homes_in ws) (from 1 (locks_in ws)) (from_once ws 0 (locks_in ws)) once_each ∙ length_from 1 (locks_in ws)
