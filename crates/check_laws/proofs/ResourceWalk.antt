-- The walk over a resource's three chains: it counts their locks exactly if they end, have the right locks, and these fit.
use mathlib.Core.Path.{◌≡◌, refl}
use mathlib.Core.Bool.{Bool, true, ◌&&◌}
use mathlib.Core.List.{List}
use Prim.Native.Nat.{ℕ, ◌+◌, ◌≤◌}
use native.Mathlib.Omega.{arith}
use lib.ListN.{length}
use lib.Dec.{leb}
use borrow.Author.Tests.{leb-true, le-leb}
use Rattle.modes.specs.Sets.{fits_set}
use Rattle.tables.specs.State.{Queue, grants, converts, waits, queue, of_locks}
use Rattle.tables.specs.Layout.{of_resource, queue_head, locks_in, word_in, link_in, follow, read_lock, lock_link, held_in}
use Rattle.tables.proofs.Cases.{by_cases, parts}
use Rattle.tables.proofs.FollowedChains.{follow_short}
use Rattle.check_laws.specs.Check.{home_on, home_steps, fitting, gather, digits_of, mode_steps, grant_walk, convert_fit, other_modes, convert_from, convert_walk, heads_wait, counts_fine, wait_part, convert_part, resource_walk}
use Rattle.check_laws.proofs.ChainSteps.{Passed, steps_passed, passed_steps, counted, holders_passed, passed_holders}

abbrev pub asked_in : List ℕ → ℕ → ℕ
asked_in ws k = (read_lock ws k).asked

-- the link of a resource's chains, and a chain of it that passes
abbrev pub link_of : List ℕ → ℕ → Queue → ℕ → ℕ
link_of ws r q = link_in ws (of_locks (queue r q))

abbrev pub head_of : List ℕ → ℕ → Queue → ℕ
head_of ws r q = word_in ws (of_resource r (queue_head q))

unfoldable pub queue_in : List ℕ → ℕ → Queue → List ℕ
queue_in ws r q = follow (link_of ws r q) (locks_in ws) (head_of ws r q)

abbrev pub Right : List ℕ → ℕ → Queue → ℕ → Type 0
Right ws r q s = Passed (link_of ws r q) (home_on ws s r) (locks_in ws) (head_of ws r q)

-- the resource's counts are those of the granted locks gs and the converting locks cs
abbrev pub counts_of : List ℕ → ℕ → List ℕ → List ℕ → Bool
counts_of ws r gs cs = counts_fine ws r (length gs + length cs) (digits_of ws gs + digits_of ws cs)

-- what the walk over a resource finds
pub record Walked (ws : List ℕ) (r : ℕ) : Type 0 where
  pub granted : Right ws r grants 1
  pub converting : Right ws r converts 2
  pub waiting : Right ws r waits 3
  pub fit : fitting fits_set (held_in ws) 0 (queue_in ws r grants) ≡ true
  pub beyond : convert_fit (held_in ws) (gather (held_in ws) 0 (queue_in ws r grants)) (queue_in ws r converts) ≡ true
  pub counts : counts_of ws r (queue_in ws r grants) (queue_in ws r converts) ≡ true
  pub heads : heads_wait ws r (gather (held_in ws) 0 (queue_in ws r grants)) (other_modes (held_in ws) (gather (held_in ws) 0 (queue_in ws r grants)) (queue_in ws r converts)) ≡ true

module _ (ws : List ℕ) (r : ℕ) where
  pub grant_met : (grant_walk ws r).met ≤ locks_in ws → Right ws r grants 1 × (fitting fits_set (held_in ws) 0 (queue_in ws r grants) ≡ true)
  unfolding grant_walk mode_steps queue_in
  grant_met h = holders_passed ws 1 r (fitting fits_set (held_in ws) 0) (gather (held_in ws) 0) (link_of ws r grants) (λ k. refl) (locks_in ws) (head_of ws r grants) h

  pub grant_is : Right ws r grants 1 → fitting fits_set (held_in ws) 0 (queue_in ws r grants) ≡ true →
      grant_walk ws r ≡ counted ws (gather (held_in ws) 0) (queue_in ws r grants)
  unfolding grant_walk mode_steps queue_in
  grant_is p f = passed_holders ws 1 r (fitting fits_set (held_in ws) 0) (gather (held_in ws) 0) (link_of ws r grants) (λ k. refl) (locks_in ws) (head_of ws r grants) p f

  module _ (set : ℕ) where
    pub convert_met : (convert_walk ws r set).met ≤ locks_in ws → Right ws r converts 2 × (convert_fit (held_in ws) set (queue_in ws r converts) ≡ true)
    unfolding convert_walk convert_from queue_in
    convert_met h = holders_passed ws 2 r (convert_fit (held_in ws) set) (other_modes (held_in ws) set) (link_of ws r converts) (λ k. refl) (locks_in ws) (head_of ws r converts) h

    pub convert_is : Right ws r converts 2 → convert_fit (held_in ws) set (queue_in ws r converts) ≡ true →
        convert_walk ws r set ≡ counted ws (other_modes (held_in ws) set) (queue_in ws r converts)
    unfolding convert_walk convert_from queue_in
    convert_is p f = passed_holders ws 2 r (convert_fit (held_in ws) set) (other_modes (held_in ws) set) (link_of ws r converts) (λ k. refl) (locks_in ws) (head_of ws r converts) p f

  pub wait_met : home_steps ws 3 r (head_of ws r waits) ≤ locks_in ws → Right ws r waits 3
  unfolding home_steps
  wait_met h = steps_passed (lock_link ws 0) (link_of ws r waits) (λ k. refl) (home_on ws 3 r) (locks_in ws) (head_of ws r waits) h

  pub wait_is : Right ws r waits 3 → home_steps ws 3 r (head_of ws r waits) ≡ length (queue_in ws r waits)
  unfolding home_steps queue_in
  wait_is p = passed_steps (lock_link ws 0) (link_of ws r waits) (λ k. refl) (home_on ws 3 r) (locks_in ws) (head_of ws r waits) p

  pub queue_short : (q : Queue) → length (queue_in ws r q) ≤ locks_in ws
  unfolding queue_in
  queue_short q = follow_short (link_of ws r q) (locks_in ws) (head_of ws r q)

  pub walk_is : Walked ws r → resource_walk ws r ≡ length (queue_in ws r grants) + length (queue_in ws r converts) + length (queue_in ws r waits)
  unfolding resource_walk convert_part wait_part
  walk_is w =
      rw (
        grant_is w.granted w.fit,
        le-leb _ _ (queue_short grants),
        convert_is (gather (held_in ws) 0 (queue_in ws r grants)) w.converting w.beyond,
        le-leb _ _ (queue_short converts),
        w.counts,
        wait_is w.waiting,
        le-leb _ _ (queue_short waits),
        w.heads,
      )

  pub walk_met : resource_walk ws r ≤ locks_in ws → Walked ws r
  unfolding resource_walk convert_part wait_part
  walk_met h =
      by_cases (leb (grant_walk ws r).met (locks_in ws))
      (λ a. let g = grant_met (leb-true _ _ a) in go g (rw (a, grant_is g.0 g.1) at h))
      (λ a. absurd (omega (arith, rw a at h)))
    where
      go : Right ws r grants 1 × (fitting fits_set (held_in ws) 0 (queue_in ws r grants) ≡ true) →
          convert_part ws r (counted ws (gather (held_in ws) 0) (queue_in ws r grants)) ≤ locks_in ws → Walked ws r
      go g h =
          let set = gather (held_in ws) 0 (queue_in ws r grants) in
          by_cases (leb (convert_walk ws r set).met (locks_in ws))
          (λ b. let c = convert_met set (leb-true _ _ b) in
          let h2 = rw (b, convert_is set c.0 c.1) at h in
          by_cases (counts_of ws r (queue_in ws r grants) (queue_in ws r converts))
          (λ n. let h3 = rw n at h2 in
          by_cases (leb (home_steps ws 3 r (head_of ws r waits)) (locks_in ws) && heads_wait ws r set (other_modes (held_in ws) set (queue_in ws r converts)))
          (λ d. record {
            granted = g.0;
            converting = c.0;
            waiting = wait_met (leb-true _ _ (search parts));
            fit = g.1;
            beyond = c.1;
            counts = n;
            heads = search parts;
          })
          (λ d. absurd (omega (arith, rw d at h3))))
          (λ n. absurd (omega (arith, rw n at h2))))
          (λ b. absurd (omega (arith, rw b at h)))
