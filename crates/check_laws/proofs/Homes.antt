-- Each lock stands once on its home chain and on no other: what is met on all the home chains adds up to L.
use mathlib.Core.Path.{◌≡◌, refl, sym, ◌∙◌}
use mathlib.Core.Bool.{true}
use mathlib.Core.List.{List, [], ◌∷◌, ◌++◌}
use Prim.Native.Nat.{ℕ, ◌+◌, ◌≤◌}
use native.Mathlib.Omega.{arith}
use lib.ListN.{length, length-append}
use borrow.Author.Tests.{eqb-true, eq-eqb}
use Rattle.tables.specs.Lists.{count, from}
use Rattle.tables.specs.State.{grants, converts, waits, free_locks, denied, of_locks}
use Rattle.tables.specs.Layout.{of_header, flat_map, resources_in, locks_in, word_in, link_in, follow, lock_link}
use Rattle.tables.proofs.Cases.{by_equal}
use Rattle.tables.proofs.Counts.{le_within, count_nil, count_same, count_other, count_step, count_from, from_in}
use Rattle.check_laws.specs.Check.{home_on, home_steps, queues_walk, homes_fine}
use Rattle.check_laws.proofs.ChainSteps.{Passed, steps_passed, passed_steps}
use Rattle.check_laws.proofs.ResourceWalk.{queue_in, Walked, walk_met, walk_is}

-- THE HOME CHAINS: the free and the denied locks, and the three of each resource
unfoldable pub free_in : List ℕ → List ℕ
free_in ws = follow (link_in ws (of_locks free_locks)) (locks_in ws) (word_in ws (of_header 3))

unfoldable pub denied_in : List ℕ → List ℕ
denied_in ws = follow (link_in ws (of_locks denied)) (locks_in ws) (word_in ws (of_header 4))

unfoldable pub three_in : List ℕ → ℕ → List ℕ
three_in ws r = queue_in ws r grants ++ (queue_in ws r converts ++ queue_in ws r waits)

unfoldable pub homes_in : List ℕ → List ℕ
homes_in ws = free_in ws ++ (denied_in ws ++ flat_map (three_in ws) (from 1 (resources_in ws)))

-- each passes
pub record Homes (ws : List ℕ) : Type 0 where
  pub free : Passed (link_in ws (of_locks free_locks)) (home_on ws 0 0) (locks_in ws) (word_in ws (of_header 3))
  pub denied : Passed (link_in ws (of_locks denied)) (home_on ws 4 0) (locks_in ws) (word_in ws (of_header 4))
  pub walked : (r : ℕ) → 1 ≤ r → r ≤ resources_in ws → Walked ws r

in_from : (n r : ℕ) → 1 ≤ r → r ≤ n → 1 ≤ count r (from 1 n)
in_from n r p q = rw (count_from n r, le_within n r p q) (omega arith)

module _ (ws : List ℕ) where
  three_length : (r : ℕ) → length (three_in ws r) ≡ length (queue_in ws r grants) + length (queue_in ws r converts) + length (queue_in ws r waits)
  unfolding three_in
  three_length r = simp length-append (omega arith)

  queues_met : (rs : List ℕ) → queues_walk ws rs ≤ locks_in ws → ((r : ℕ) → 1 ≤ count r rs → Walked ws r)
  unfolding queues_walk
  queues_met [] h r m = absurd (omega (arith, count_nil r))
  queues_met (x ∷ rs) h r m =
      by_equal r x
      (λ e. rw e (walk_met ws x (omega arith)))
      (λ n. queues_met rs (omega arith) r (rw (count_other r x rs n) at m))

  queues_are : (rs : List ℕ) → ((r : ℕ) → 1 ≤ count r rs → Walked ws r) → queues_walk ws rs ≡ length (flat_map (three_in ws) rs)
  unfolding queues_walk
  queues_are [] h = refl
  queues_are (x ∷ rs) h =
      let one = walk_is ws x (h x (omega (arith, count_same x rs))) in
      let rest = queues_are rs (λ r m. h r (omega (arith, count_step r x rs))) in
      simp length-append (omega (arith, three_length x))

  free_passed : home_steps ws 0 0 (word_in ws (of_header 3)) ≤ locks_in ws → Passed (link_in ws (of_locks free_locks)) (home_on ws 0 0) (locks_in ws) (word_in ws (of_header 3))
  unfolding home_steps
  free_passed h = steps_passed (lock_link ws 0) (link_in ws (of_locks free_locks)) (λ k. refl) (home_on ws 0 0) (locks_in ws) (word_in ws (of_header 3)) h

  free_steps : Passed (link_in ws (of_locks free_locks)) (home_on ws 0 0) (locks_in ws) (word_in ws (of_header 3)) → home_steps ws 0 0 (word_in ws (of_header 3)) ≡ length (free_in ws)
  unfolding home_steps free_in
  free_steps p = passed_steps (lock_link ws 0) (link_in ws (of_locks free_locks)) (λ k. refl) (home_on ws 0 0) (locks_in ws) (word_in ws (of_header 3)) p

  denied_passed : home_steps ws 4 0 (word_in ws (of_header 4)) ≤ locks_in ws → Passed (link_in ws (of_locks denied)) (home_on ws 4 0) (locks_in ws) (word_in ws (of_header 4))
  unfolding home_steps
  denied_passed h = steps_passed (lock_link ws 0) (link_in ws (of_locks denied)) (λ k. refl) (home_on ws 4 0) (locks_in ws) (word_in ws (of_header 4)) h

  pub denied_steps : Passed (link_in ws (of_locks denied)) (home_on ws 4 0) (locks_in ws) (word_in ws (of_header 4)) → home_steps ws 4 0 (word_in ws (of_header 4)) ≡ length (denied_in ws)
  unfolding home_steps denied_in
  denied_steps p = passed_steps (lock_link ws 0) (link_in ws (of_locks denied)) (λ k. refl) (home_on ws 4 0) (locks_in ws) (word_in ws (of_header 4)) p

  module _ (f : Passed (link_in ws (of_locks free_locks)) (home_on ws 0 0) (locks_in ws) (word_in ws (of_header 3)))
      (d : Passed (link_in ws (of_locks denied)) (home_on ws 4 0) (locks_in ws) (word_in ws (of_header 4)))
      (w : (r : ℕ) → 1 ≤ r → r ≤ resources_in ws → Walked ws r) where
    sum_is : home_steps ws 0 0 (word_in ws (of_header 3)) + home_steps ws 4 0 (word_in ws (of_header 4)) + queues_walk ws (from 1 (resources_in ws)) ≡ length (homes_in ws)
    unfolding homes_in
    sum_is =
        let a = free_steps f in
        let b = denied_steps d in
        let c = queues_are (from 1 (resources_in ws)) (λ r m. let i = from_in (resources_in ws) r m in w r i.0 i.1) in
        simp length-append (omega arith)

  -- and together they have as many as there are locks
  pub homes_are : Homes ws → length (homes_in ws) ≡ locks_in ws → homes_fine ws ≡ true
  unfolding homes_fine
  homes_are h total = eq-eqb _ (locks_in ws) (sum_is h.free h.denied h.walked ∙ total)

  pub homes_met : homes_fine ws ≡ true → Homes ws × (length (homes_in ws) ≡ locks_in ws)
  unfolding homes_fine
  homes_met h =
      let e : home_steps ws 0 0 (word_in ws (of_header 3)) + home_steps ws 4 0 (word_in ws (of_header 4)) + queues_walk ws (from 1 (resources_in ws)) ≡ locks_in ws = eqb-true _ (locks_in ws) h in
      let f = free_passed (omega arith) in
      let d = denied_passed (omega arith) in
      let w = queues_met (from 1 (resources_in ws)) (omega arith) in
      (record { free = f; denied = d; walked = λ r p q. w r (in_from (resources_in ws) r p q) }, sym (sum_is f d (λ r p q. w r (in_from (resources_in ws) r p q))) ∙ e)
