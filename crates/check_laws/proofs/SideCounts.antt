-- What belongs on the blocked and on the notice chain, added up along the home chains: each lock stands on one of these.
use mathlib.Core.Path.{◌≡◌, refl, sym, ◌∙◌, ap}
use mathlib.Core.Bool.{Bool, true, false, ◌&&◌, ◌||◌}
use mathlib.Core.List.{List, [], ◌∷◌, ◌++◌}
use Prim.Native.Nat.{ℕ, suc, ◌+◌, ◌≤◌}
use native.Mathlib.Omega.{arith}
use lib.ListN.{length}
use lib.Dec.{eqb}
use borrow.Author.Tests.{eqb-true}
use Rattle.tables.specs.declared.Lock.{Lock}
use Rattle.tables.specs.Lists.{count, from, keep}
use Rattle.tables.specs.State.{blocked_lock, noticed, Queue, grants, converts, waits}
use Rattle.tables.specs.Layout.{of_header, queue_head, flat_map, resources_in, locks_in, word_in, read_lock, lock_link, onward, of_resource}
use Rattle.tables.specs.Sound.{client_right, modes_right}
use Rattle.tables.proofs.Cases.{by_cases, and_left, parts}
use Rattle.tables.proofs.Counts.{count_same, count_step, count_keep, kept_once, from_in}
use Rattle.tables.proofs.Pigeonhole.{same_length}
use Rattle.tables.proofs.FollowedChains.{follow_agree}
use Rattle.check_laws.specs.Check.{on_named, fields_fine, links_fine, lock_fine, home_on, home_steps, homes_fine, blocked_at, noticed_at, sum_over}
use Rattle.check_laws.proofs.ChainSteps.{member}
use Rattle.check_laws.proofs.ResourceWalk.{link_of, head_of, queue_in}
use Rattle.check_laws.proofs.Heads.{home_low, home_state, home_fine, queue_member}
use Rattle.check_laws.proofs.Homes.{free_in, denied_in, three_in, homes_in, Homes, homes_met, denied_steps}
use Rattle.check_laws.proofs.Once.{state_of, right_at, counted}

-- A PART OF A LIST: all, none, of two lists, of many
module _ (p : ℕ → Bool) where
  keep_whole : (xs : List ℕ) → ((k : ℕ) → 1 ≤ count k xs → p k ≡ true) → length (keep p xs) ≡ length xs
  unfolding keep
  keep_whole [] h = refl
  keep_whole (x ∷ xs) h = rw (h x (omega (arith, count_same x xs))) (ap suc (keep_whole xs (λ k m. h k (omega (arith, count_step k x xs)))))

  keep_none : (xs : List ℕ) → ((k : ℕ) → 1 ≤ count k xs → p k ≡ false) → length (keep p xs) ≡ 0
  unfolding keep
  keep_none [] h = refl
  keep_none (x ∷ xs) h = rw (h x (omega (arith, count_same x xs))) (keep_none xs (λ k m. h k (omega (arith, count_step k x xs))))

  keep_both : (xs ys : List ℕ) → length (keep p (xs ++ ys)) ≡ length (keep p xs) + length (keep p ys)
  unfolding keep
  keep_both [] ys = omega arith
  keep_both (x ∷ xs) ys = let ih = keep_both xs ys in by_cases (p x) (λ y. rw y (omega (arith, ih))) (λ n. rw n ih)

  keep_rows : (f : ℕ → List ℕ) (g : ℕ → ℕ) (rs : List ℕ) → ((r : ℕ) → 1 ≤ count r rs → length (keep p (f r)) ≡ g r) → length (keep p (flat_map f rs)) ≡ sum_over g rs
  unfolding sum_over keep
  keep_rows f g [] h = refl
  keep_rows f g (r ∷ rs) h =
      let a = h r (omega (arith, count_same r rs)) in
      let ih = keep_rows f g rs (λ s m. h s (omega (arith, count_step s r rs))) in
      keep_both (f r) (flat_map f rs) ∙ (rw (a, ih))

-- A LOCK THAT IS FINE, by its state: whether it belongs on the notice chain
alone : (b : Bool) → (b || false) ≡ true → b ≡ true
alone true h = refl
alone false h = h

silent : (l : Lock) → eqb l.completion 0 ≡ true → eqb l.mark 0 ≡ true → noticed l ≡ false
silent l e m = rw (e, m)

module _ (in_use : Bool) (l : Lock) (f : fields_fine in_use l ≡ true) where
  free_silent : l.state ≡ 0 → noticed l ≡ false
  unfolding fields_fine
  free_silent e =
      let z : (eqb l.resource 0 && eqb l.client 0 && eqb l.held 0 && eqb l.asked 0 && eqb l.completion 0 && eqb l.mark 0) ≡ true = alone _ (alone _ (alone _ (alone _ (rw e at f)))) in
      silent l (search parts depth 20) (search parts depth 20)

  waiting_silent : l.state ≡ 3 → noticed l ≡ false
  unfolding fields_fine modes_right
  waiting_silent e =
      let z : (in_use && client_right l.client && modes_right l && eqb l.completion 0 && eqb l.held 0 && eqb l.mark 0) ≡ true = alone _ (rw e at f) in
      silent l (search parts depth 20) (search parts depth 20)

  denied_told : l.state ≡ 4 → noticed l ≡ true
  unfolding fields_fine
  denied_told e =
      let z = rw e at f in
      let told : l.completion ≡ 2 = eqb-true l.completion 2 (search parts depth 20) in rw told

-- on a home chain
module _ (ws : List ℕ) (s r k : ℕ) (h : home_on ws s r k ≡ true) where
  fields : fields_fine (on_named ws (read_lock ws k).resource) (read_lock ws k) ≡ true
  unfolding lock_fine
  fields = and_left _ (links_fine ws k) (home_fine ws s r k h)

  on_blocked : blocked_lock (read_lock ws k) ≡ (eqb s 2 || eqb s 3)
  on_blocked = rw (home_state ws s r k h)

pub queue_is : (ws : List ℕ) (r : ℕ) (q : Queue) → queue_in ws r q ≡ onward ws 0 (word_in ws (of_resource r (queue_head q)))
unfolding queue_in onward
queue_is ws r q = follow_agree (link_of ws r q) (lock_link ws 0) (λ k. refl) (locks_in ws) (head_of ws r q)

module _ (ws : List ℕ) (fine : homes_fine ws ≡ true) where
  homes : Homes ws
  homes = (homes_met ws fine).0

  -- the home chains have each lock once
  kept : (p : ℕ → Bool) → length (keep p (homes_in ws)) ≡ length (keep p (from 1 (locks_in ws)))
  kept p =
      same_length (keep p (homes_in ws)) (keep p (from 1 (locks_in ws))) (kept_once p (locks_in ws))
      (λ j. count_keep p j (homes_in ws) ∙ (rw (counted ws homes (homes_met ws fine).1 j) (sym (count_keep p j (from 1 (locks_in ws))))))

  parted : (p : ℕ → Bool) (g : ℕ → ℕ) → ((r : ℕ) → 1 ≤ r → r ≤ resources_in ws → length (keep p (three_in ws r)) ≡ g r) →
      length (keep p (free_in ws)) + (length (keep p (denied_in ws)) + sum_over g (from 1 (resources_in ws))) ≡ length (keep p (from 1 (locks_in ws)))
  unfolding homes_in
  parted p g h =
      let rows = keep_rows p (three_in ws) g (from 1 (resources_in ws)) (λ r m. let i = from_in (resources_in ws) r m in h r i.0 i.1) in
      let a = keep_both p (free_in ws) (denied_in ws ++ flat_map (three_in ws) (from 1 (resources_in ws))) in
      let b = keep_both p (denied_in ws) (flat_map (three_in ws) (from 1 (resources_in ws))) in
      omega (arith, a, b, rows, kept p)

  free_member : (k : ℕ) → 1 ≤ count k (free_in ws) → home_on ws 0 0 k ≡ true
  unfolding free_in
  free_member k m = (member _ (home_on ws 0 0) (locks_in ws) (home_low ws 0 0) (locks_in ws) _ homes.free k m).2

  denied_member : (k : ℕ) → 1 ≤ count k (denied_in ws) → home_on ws 4 0 k ≡ true
  unfolding denied_in
  denied_member k m = (member _ (home_on ws 4 0) (locks_in ws) (home_low ws 4 0) (locks_in ws) _ homes.denied k m).2

  module _ (r : ℕ) (low : 1 ≤ r) (high : r ≤ resources_in ws) where
    on_queue : (q : Queue) (k : ℕ) → 1 ≤ count k (queue_in ws r q) → home_on ws (state_of q) r k ≡ true
    on_queue q k m = (queue_member ws r q (state_of q) (right_at ws r (homes.walked r low high) q) k m).2

    three_parts : (p : ℕ → Bool) → length (keep p (three_in ws r)) ≡ length (keep p (queue_in ws r grants)) + (length (keep p (queue_in ws r converts)) + length (keep p (queue_in ws r waits)))
    unfolding three_in
    three_parts p =
        let a = keep_both p (queue_in ws r grants) (queue_in ws r converts ++ queue_in ws r waits) in
        let b = keep_both p (queue_in ws r converts) (queue_in ws r waits) in
        omega (arith, a, b)

    blocked_three : length (keep (λ k. blocked_lock (read_lock ws k)) (three_in ws r)) ≡ blocked_at ws r
    unfolding blocked_at
    blocked_three =
        let p : ℕ → Bool = λ k. blocked_lock (read_lock ws k) in
        let a = keep_none p (queue_in ws r grants) (λ k m. on_blocked ws 1 r k (on_queue grants k m)) in
        let b = keep_whole p (queue_in ws r converts) (λ k m. on_blocked ws 2 r k (on_queue converts k m)) in
        let c = keep_whole p (queue_in ws r waits) (λ k m. on_blocked ws 3 r k (on_queue waits k m)) in
        three_parts p ∙ (rw (a, b, c, queue_is ws r converts, queue_is ws r waits) (omega arith))

    noticed_three : length (keep (λ k. noticed (read_lock ws k)) (three_in ws r)) ≡ noticed_at ws r
    unfolding noticed_at
    noticed_three =
        let p : ℕ → Bool = λ k. noticed (read_lock ws k) in
        let c : length (keep p (queue_in ws r waits)) ≡ 0 = keep_none p (queue_in ws r waits) (λ k m. let h = on_queue waits k m in waiting_silent _ (read_lock ws k) (fields ws 3 r k h) (home_state ws 3 r k h)) in
        three_parts p ∙ (rw (c, queue_is ws r grants, queue_is ws r converts) (omega arith))

  pub blocked_counted : sum_over (blocked_at ws) (from 1 (resources_in ws)) ≡ length (keep (λ k. blocked_lock (read_lock ws k)) (from 1 (locks_in ws)))
  blocked_counted =
      let p : ℕ → Bool = λ k. blocked_lock (read_lock ws k) in
      let a = keep_none p (free_in ws) (λ k m. on_blocked ws 0 0 k (free_member k m)) in
      let b = keep_none p (denied_in ws) (λ k m. on_blocked ws 4 0 k (denied_member k m)) in
      omega (arith, parted p (blocked_at ws) blocked_three, a, b)

  pub noticed_counted : home_steps ws 4 0 (word_in ws (of_header 4)) + sum_over (noticed_at ws) (from 1 (resources_in ws)) ≡ length (keep (λ k. noticed (read_lock ws k)) (from 1 (locks_in ws)))
  noticed_counted =
      let p : ℕ → Bool = λ k. noticed (read_lock ws k) in
      let a : length (keep p (free_in ws)) ≡ 0 = keep_none p (free_in ws) (λ k m. let h = free_member k m in free_silent _ (read_lock ws k) (fields ws 0 0 k h) (home_state ws 0 0 k h)) in
      let b : length (keep p (denied_in ws)) ≡ length (denied_in ws) = keep_whole p (denied_in ws) (λ k m. let h = denied_member k m in denied_told _ (read_lock ws k) (fields ws 4 0 k h) (home_state ws 4 0 k h)) in
      omega (arith, parted p (noticed_at ws) noticed_three, a, b, denied_steps ws homes.denied)
