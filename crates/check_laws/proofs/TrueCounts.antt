-- The counts of a resource pass the check exactly if they are true: if each is how many locks of the state hold that mode.
use mathlib.Core.Path.{◌≡◌, refl, sym, ap, ◌∙◌}
use mathlib.Core.Bool.{true}
use mathlib.Core.List.{List, [], ◌∷◌, ◌++◌, map}
use Prim.Native.Nat.{ℕ, ◌+◌, ◌≤◌}
use native.Mathlib.Omega.{arith}
use lib.ListN.{length, length-append}
use lib.Dec.{eqb}
use borrow.Author.Tests.{eqb-true, eq-eqb}
use Rattle.tables.specs.declared.Lock.{Lock}
use Rattle.tables.specs.Lists.{count}
use Rattle.tables.specs.State.{most_locks, lock, grants, converts, waits}
use Rattle.tables.specs.Layout.{resources_in, locks_in, read, held_in, count_in}
use Rattle.tables.specs.Grants.{tally}
use Rattle.tables.proofs.Cases.{and_left, and_right, and_intro}
use Rattle.tables.proofs.Counts.{count_same, count_step, by_append}
use Rattle.tables.proofs.ThreadedChains.{each_counted}
use Rattle.tables.proofs.Links.{each_on, counted_on}
use Rattle.check_laws.specs.Check.{digit, digits_of, total, digits_in, counts_fine}
use Rattle.check_laws.proofs.HeldModes.{Low}
use Rattle.check_laws.proofs.CountedModes.{held_total, held_digits, sum_append, same_sums, same_counts}
use Rattle.check_laws.proofs.ResourceWalk.{queue_in, Right, counts_of, queue_short}
use Rattle.check_laws.proofs.Heads.{ModesLow, held_low, holder_lock, holders_read}

map_cong : (f g : ℕ → ℕ) (xs : List ℕ) → ((k : ℕ) → 1 ≤ count k xs → f k ≡ g k) → map f xs ≡ map g xs
map_cong f g [] h = refl
map_cong f g (x ∷ xs) h = rw (h x (omega (arith, count_same x xs)), map_cong f g xs (λ k m. h k (omega (arith, count_step k x xs))))

-- the locks that hold a mode on r
abbrev holders_in : List ℕ → ℕ → List ℕ
holders_in ws r = queue_in ws r grants ++ queue_in ws r converts

module _ (ws ss : List ℕ) (r : ℕ) (from_one : 1 ≤ r) (to_last : r ≤ resources_in ws)
    (some : 1 ≤ locks_in ws) (modes : ModesLow ws) (g : Right ws r grants 1) (c : Right ws r converts 2) (w : Right ws r waits 3) where
  tally_is : (m : ℕ) → tally (read ws ss) r m ≡ count m (map (held_in ws) (holders_in ws r))
  unfolding tally
  tally_is m =
      rw (holders_read ws ss r from_one to_last some modes g c w)
      (ap (count m) (map_cong (λ k. (lock (read ws ss) k).held) (held_in ws) (holders_in ws r) (λ k n. ap (λ (l : Lock). l.held) (holder_lock ws ss r from_one to_last some modes g c w k n))))

  all_low : Low (held_in ws) (holders_in ws r)
  all_low =
      each_counted (λ k. held_in ws k ≤ 5) (holders_in ws r)
      (λ k n. by_append k (queue_in ws r grants) (queue_in ws r converts) n
      (λ a. each_on (λ k. held_in ws k ≤ 5) (queue_in ws r grants) k (held_low ws ss r from_one to_last some modes g c w grants 1 g) (counted_on k (queue_in ws r grants) a))
      (λ a. each_on (λ k. held_in ws k ≤ 5) (queue_in ws r converts) k (held_low ws ss r from_one to_last some modes g c w converts 2 c) (counted_on k (queue_in ws r converts) a)))

  -- the state's tallies: together, and as digits
  tallies : (total (tally (read ws ss) r) ≡ length (queue_in ws r grants) + length (queue_in ws r converts)) × (digits_in (tally (read ws ss) r) ≡ digits_of ws (queue_in ws r grants) + digits_of ws (queue_in ws r converts))
  tallies =
      let same = same_sums (tally (read ws ss) r) (λ m. count m (map (held_in ws) (holders_in ws r))) (λ m l. tally_is m) in (
        same.0 ∙ sym (held_total (held_in ws) (holders_in ws r) all_low) ∙ length-append (queue_in ws r grants) (queue_in ws r converts),
        same.1 ∙ sym (held_digits (held_in ws) (holders_in ws r) all_low) ∙ sum_append (λ k. digit (held_in ws k)) (queue_in ws r grants) (queue_in ws r converts),
      )

  pub true_fine : ((m : ℕ) → m ≤ 5 → count_in ws r m ≡ tally (read ws ss) r m) → counts_of ws r (queue_in ws r grants) (queue_in ws r converts) ≡ true
  unfolding counts_fine
  true_fine h =
      let same = same_sums (count_in ws r) (tally (read ws ss) r) h in
      and_intro _ _
      (eq-eqb (total (count_in ws r)) (length (queue_in ws r grants) + length (queue_in ws r converts)) (same.0 ∙ tallies.0))
      (eq-eqb (digits_in (count_in ws r)) (digits_of ws (queue_in ws r grants) + digits_of ws (queue_in ws r converts)) (same.1 ∙ tallies.1))

  pub fine_true : locks_in ws ≤ most_locks → counts_of ws r (queue_in ws r grants) (queue_in ws r converts) ≡ true → (m : ℕ) → m ≤ 5 → count_in ws r m ≡ tally (read ws ss) r m
  unfolding counts_fine
  fine_true few h =
      same_counts (count_in ws r) (tally (read ws ss) r)
      (omega (arith, tallies.0, queue_short ws r grants, queue_short ws r converts))
      (eqb-true (total (count_in ws r)) (length (queue_in ws r grants) + length (queue_in ws r converts)) (and_left (eqb (total (count_in ws r)) (length (queue_in ws r grants) + length (queue_in ws r converts))) _ h) ∙ sym tallies.0)
      (eqb-true (digits_in (count_in ws r)) (digits_of ws (queue_in ws r grants) + digits_of ws (queue_in ws r converts)) (and_right (eqb (total (count_in ws r)) (length (queue_in ws r grants) + length (queue_in ws r converts))) _ h) ∙ sym tallies.1)
