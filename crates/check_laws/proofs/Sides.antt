-- A chain with as many records as are to be on it, and no others, has each of them once: the free resources, the blocked locks and the notices.
use mathlib.Core.Path.{◌≡◌, refl, sym, ◌∙◌}
use mathlib.Core.Bool.{Bool, true, false, ◌&&◌, not}
use mathlib.Core.List.{List, [], ◌∷◌}
use Prim.Native.Nat.{ℕ, suc, ◌≤◌}
use native.Mathlib.Omega.{arith}
use lib.ListN.{length}
use lib.Dec.{eqb, leb}
use borrow.Author.Tests.{eqb-true, eq-eqb, leb-true, le-leb}
use Rattle.tables.specs.Lists.{within, count, bit, keep, from}
use Rattle.tables.specs.State.{blocked_lock, noticed, blocked, notices, free_resources, of_locks}
use Rattle.tables.specs.Layout.{of_header, of_resource, resources_in, locks_in, word_in, link_in, follow, read_lock, lock_link}
use Rattle.tables.specs.Sound.{ends}
use Rattle.tables.proofs.Cases.{by_cases, by_equal, clash, and_left, and_right, and_intro}
use Rattle.tables.proofs.Counts.{within_le, le_within, all_intro, bit_one, count_kept, kept_once}
use Rattle.tables.proofs.Pigeonhole.{length_from, all_of, same_length}
use Rattle.table_names.specs.Names.{named}
use Rattle.check_laws.specs.Check.{steps, free_resource_on, free_resources_fine, blocked_on, blocked_fine, notice_on, notices_fine}
use Rattle.check_laws.proofs.ChainSteps.{Passed, steps_passed, passed_steps, once, first_low, links_low, member}

-- fewer pass than there are
pub keep_short : (p : ℕ → Bool) (xs : List ℕ) → length (keep p xs) ≤ length xs
unfolding keep
keep_short p [] = omega arith
keep_short p (x ∷ xs) = by_cases (p x) (λ h. rw h (omega (arith, keep_short p xs))) (λ h. rw h (omega (arith, keep_short p xs)))

-- the chain has the records of 1..n that pass p, once each, and no others
pub record Side (g : ℕ → ℕ) (p : ℕ → Bool) (n a : ℕ) : Type 0 where
  pub ended : ends g n a ≡ true
  pub inside : (k : ℕ) → 1 ≤ count k (follow g n a) → (1 ≤ k) × (k ≤ n)
  pub counts : (k : ℕ) → 1 ≤ k → k ≤ n → count k (follow g n a) ≡ bit (p k)

-- so it passes the test of these, and its links are of records
abbrev among : ℕ → (ℕ → Bool) → ℕ → Bool
among n p k = leb k n && p k

among_low : (n : ℕ) (p : ℕ → Bool) (k : ℕ) → among n p k ≡ true → k ≤ n
among_low n p k h = leb-true k n (and_left (leb k n) (p k) h)

module _ (g : ℕ → ℕ) (p : ℕ → Bool) (n a : ℕ) where
  module _ (s : Side g p n a) where
    side_passed : Passed g (among n p) n a
    side_passed =
        record {
          ended = s.ended;
          tested = all_intro (among n p) (follow g n a) (λ k m. let i = s.inside k m in and_intro (leb k n) (p k) (le-leb k n i.1) (bit_one (p k) (rw (s.counts k i.0 i.1) at m)));
        }

    pub side_first : a ≤ n
    side_first = first_low g (among n p) n (among_low n p) n a side_passed

    pub side_link : (k : ℕ) → 1 ≤ k → k ≤ n → p k ≡ true → g k ≤ n
    side_link k l u h = links_low g (among n p) n (among_low n p) n a side_passed k (rw (s.counts k l u, h) (omega arith))

  -- by counts
  kept_count : (k : ℕ) → 1 ≤ k → k ≤ n → count k (keep p (from 1 n)) ≡ bit (p k)
  kept_count k a b = count_kept p n k ∙ (rw (le_within n k a b) (by_cases (p k) (λ h. rw h) (λ h. rw h)))

  module _ (f : ℕ → ℕ) (agree : (k : ℕ) → f (suc k) ≡ g (suc k)) where
    pub side_steps : Side g p n a → eqb (steps f (among n p) n a) (length (keep p (from 1 n))) ≡ true
    side_steps s =
        eq-eqb (steps f (among n p) n a) (length (keep p (from 1 n)))
        (passed_steps f g agree (among n p) n a (side_passed s) ∙ same_length (follow g n a) (keep p (from 1 n)) (kept_once p n)
        (λ k. by_cases (within n k)
        (λ w. let i = within_le n k w in s.counts k i.0 i.1 ∙ sym (kept_count k i.0 i.1))
        (λ w. off k w ∙ sym (count_kept p n k ∙ (rw w (by_cases (p k) (λ h. rw h) (λ h. rw h)))))))
      where
        off : (k : ℕ) → within n k ≡ false → count k (follow g n a) ≡ 0
        off k w = by_equal (count k (follow g n a)) 0 (λ e. e) (λ d. let i = s.inside k (omega arith) in clash (within n k) (le_within n k i.0 i.1) w)

    pub steps_side : eqb (steps f (among n p) n a) (length (keep p (from 1 n))) ≡ true → Side g p n a
    steps_side h =
        let e = eqb-true (steps f (among n p) n a) (length (keep p (from 1 n))) h in
        let w = steps_passed f g agree (among n p) n a (omega (arith, keep_short p (from 1 n), length_from 1 n)) in
        let in_it = member g (among n p) n (among_low n p) n a w in
        let same = all_of (follow g n a) (keep p (from 1 n)) (kept_once p n) (fewer w) (sym (passed_steps f g agree (among n p) n a w) ∙ e) in
        record {
          ended = w.ended;
          inside = λ k m. ((in_it k m).0, (in_it k m).1);
          counts = λ k l u. same k ∙ kept_count k l u;
        }
      where
        fewer : Passed g (among n p) n a → (k : ℕ) → count k (follow g n a) ≤ count k (keep p (from 1 n))
        fewer w k =
            by_equal (count k (follow g n a)) 0
            (λ e. omega arith)
            (λ d. let i = member g (among n p) n (among_low n p) n a w k (omega arith) in
            rw (kept_count k i.0 i.1, and_right (leb k n) (p k) i.2) (once g n a w.ended k))

-- THE THREE
module _ (ws : List ℕ) where
  abbrev pub Spare : Type 0
  Spare = Side (link_in ws free_resources) (λ r. not (named ws r)) (resources_in ws) (word_in ws (of_header 2))

  pub spare_side : free_resources_fine ws ≡ true → Spare
  unfolding free_resources_fine free_resource_on
  spare_side = steps_side (link_in ws free_resources) (λ r. not (named ws r)) (resources_in ws) (word_in ws (of_header 2)) (λ r. word_in ws (of_resource r 0)) (λ k. refl)

  pub side_spare : Spare → free_resources_fine ws ≡ true
  unfolding free_resources_fine free_resource_on
  side_spare = side_steps (link_in ws free_resources) (λ r. not (named ws r)) (resources_in ws) (word_in ws (of_header 2)) (λ r. word_in ws (of_resource r 0)) (λ k. refl)

  abbrev pub Blocked : Type 0
  Blocked = Side (link_in ws (of_locks blocked)) (λ k. blocked_lock (read_lock ws k)) (locks_in ws) (word_in ws (of_header 5))

  pub blocked_side : blocked_fine ws ≡ true → Blocked
  unfolding blocked_fine blocked_on
  blocked_side = steps_side (link_in ws (of_locks blocked)) (λ k. blocked_lock (read_lock ws k)) (locks_in ws) (word_in ws (of_header 5)) (lock_link ws 1) (λ k. refl)

  pub side_blocked : Blocked → blocked_fine ws ≡ true
  unfolding blocked_fine blocked_on
  side_blocked = side_steps (link_in ws (of_locks blocked)) (λ k. blocked_lock (read_lock ws k)) (locks_in ws) (word_in ws (of_header 5)) (lock_link ws 1) (λ k. refl)

  abbrev pub Noticed : Type 0
  Noticed = Side (link_in ws (of_locks notices)) (λ k. noticed (read_lock ws k)) (locks_in ws) (word_in ws (of_header 6))

  pub notice_side : notices_fine ws ≡ true → Noticed
  unfolding notices_fine notice_on
  notice_side = steps_side (link_in ws (of_locks notices)) (λ k. noticed (read_lock ws k)) (locks_in ws) (word_in ws (of_header 6)) (lock_link ws 2) (λ k. refl)

  pub side_notice : Noticed → notices_fine ws ≡ true
  unfolding notices_fine notice_on
  side_notice = side_steps (link_in ws (of_locks notices)) (λ k. noticed (read_lock ws k)) (locks_in ws) (word_in ws (of_header 6)) (lock_link ws 2) (λ k. refl)
