-- What is found of the resources, added up.
use mathlib.Core.Path.{◌≡◌, sym, ◌∙◌}
use mathlib.Core.Bool.{Bool, true, false, not, ◌&&◌, and-false}
use mathlib.Core.List.{List}
use Prim.Native.Nat.{ℕ, ◌+◌, ◌*◌, ◌≤◌, ◌<◌}
use native.Mathlib.Nat.{add-zero}
use native.Mathlib.Omega.{arith}
use lib.Dec.{eqb}
use lib.ListN.{length}
use borrow.Author.Tests.{not-true, not-false, ne_eqb, eq-eqb}
use Rattle.tables.specs.Lists.{bit, all, from, keep}
use Rattle.tables.specs.State.{most_locks}
use Rattle.tables.specs.Layout.{of_header, resources_in, locks_in, word_in}
use Rattle.tables.proofs.Cases.{and_right}
use Rattle.table_names.specs.Names.{named}
use Rattle.check_laws.specs.declared.ResourceRow.{ResourceRow}
use Rattle.check_laws.specs.Check.{row_in, resource_fine, home_steps, resource_walk, queues_walk, homes_fine, blocked_at, noticed_at, sum_over}
use Rattle.check_laws.proofs.SideCounts.{blocked_counted, noticed_counted}
use Rattle.check_resources.specs.Passes.{free_count, blocked_count, noticed_count, Fine}
use Rattle.check_laws.proofs.RecordPass.{count_one}
use Rattle.std.proofs.Common.{Option, Some, None}
use Rattle.check_chains.specs.Walks.{Met}
use Rattle.table_chains.specs.declared.Hints.{Hints}
use Rattle.check_queues.specs.declared.Census.{Census}
use Rattle.check_queues.specs.QueueWalks.{Counted}
use Rattle.check_tables.specs.Chains.{HomeCounts, resources_fine, Queues, Homes}
use Rattle.check_tables.proofs.FreeOrUsed.{in_use, nameless, no_queues}
use Rattle.table_names.proofs.NumberRuns.{upto, upto_more, upto_none, from_first}

-- THE LOCKS MET so far, and what the other resources have
module _ (ws : List ℕ) (sum r n : ℕ) {whole : ℕ} (i : whole ≡ sum + queues_walk ws (upto r n)) where
  queues_over : (l : ℕ) → l < sum → eqb whole l ≡ false
  queues_over l h = ne_eqb whole l (λ e. omega arith)

  queues_next : {x : ℕ} → r ≤ n → x ≡ resource_walk ws r → whole ≡ sum + x + queues_walk ws (upto (r + 1) n)
  unfolding queues_walk
  queues_next {x} h e = let q : whole ≡ sum + (x + queues_walk ws (upto (r + 1) n)) = i ∙ rw (upto_more h, e) in omega arith

  queues_end : n < r → whole ≡ sum
  unfolding queues_walk
  queues_end h = let q : whole ≡ sum + 0 = i ∙ rw (upto_none h) in omega arith

-- .. AND OF THEM THOSE FOR A SIDE CHAIN
module _ (f : ℕ → ℕ) (sum r n : ℕ) {whole : ℕ} (i : whole ≡ sum + sum_over f (upto r n)) where
  sums_next : {x : ℕ} → r ≤ n → x ≡ f r → whole ≡ sum + x + sum_over f (upto (r + 1) n)
  unfolding sum_over
  sums_next {x} h e = let q : whole ≡ sum + (f r + sum_over f (upto (r + 1) n)) = i ∙ rw (upto_more h) in omega arith

  sums_end : n < r → sum ≡ whole
  unfolding sum_over
  sums_end h = let q : whole ≡ sum + 0 = i ∙ rw (upto_none h) in omega arith

bit_few : (b : Bool) (free r : ℕ) → free < r → free + bit b < r + 1
bit_few true free r h = omega arith
bit_few false free r h = omega arith

-- IN THE MIDDLE OF THE PASS, before r: those before it are fine, and what was counted is what the ones from r on leave of the whole
pub record Left (ws ss : List ℕ) (others denied met blocked noticed free r : ℕ) : Type 0 where
  pub met_few : met ≤ 4 * locks_in ws
  pub blocked_few : blocked ≤ (3 * most_locks + 1) * r
  pub noticed_few : noticed ≤ (3 * most_locks + 1) * r + most_locks
  pub free_few : free < r
  pub fine : resources_fine ws ss ≡ all (resource_fine ws ss) (upto r (resources_in ws))
  pub homes : others + queues_walk ws (from 1 (resources_in ws)) ≡ met + queues_walk ws (upto r (resources_in ws))
  pub spare : free_count ws ≡ free + length (keep (λ r. not (named ws r)) (upto r (resources_in ws)))
  pub waits : sum_over (blocked_at ws) (from 1 (resources_in ws)) ≡ blocked + sum_over (blocked_at ws) (upto r (resources_in ws))
  pub tells : denied + sum_over (noticed_at ws) (from 1 (resources_in ws)) ≡ noticed + sum_over (noticed_at ws) (upto r (resources_in ws))

module _ (ws ss : List ℕ) (others denied : ℕ) where
  pub left_start : Fine ws → (others ≤ 2 * locks_in ws) × (denied ≤ locks_in ws) → Left ws ss others denied others 0 denied 0 1
  unfolding resources_fine free_count
  left_start f h =
      record {
        met_few = omega arith;
        blocked_few = omega arith;
        noticed_few = let z = f.sized.few_locks in omega arith;
        free_few = omega arith;
        fine = rw (from_first (resources_in ws));
        homes = rw (from_first (resources_in ws));
        spare = rw (from_first (resources_in ws)) (omega arith);
        waits = rw (from_first (resources_in ws)) (omega arith);
        tells = rw (from_first (resources_in ws));
      }

  -- nothing is found where something is wrong
  said_no : (resources_fine ws ss && eqb (others + queues_walk ws (from 1 (resources_in ws))) (locks_in ws)) ≡ false → Queues ws ss others denied None
  said_no e = record { fine = sym e; free = tt; blocked = tt; noticed = tt }

  module _ {met blocked noticed free r : ℕ} (i : Left ws ss others denied met blocked noticed free r) where
    pub left_unfit : {f : Bool} → r ≤ resources_in ws → f ≡ resource_fine ws ss r → not f ≡ true → Queues ws ss others denied None
    unfolding all
    left_unfit {f} h e n = said_no (rw (i.fine, upto_more h, ← e, not-true f n))

    pub left_many : locks_in ws < met → Queues ws ss others denied None
    left_many h = said_no (rw (queues_over ws met r (resources_in ws) i.homes (locks_in ws) h) (and-false (resources_fine ws ss)))

    pub left_wrong : r ≤ resources_in ws → Counted ws r None → Queues ws ss others denied None
    left_wrong h c =
        let over = queues_next ws met r (resources_in ws) i.homes h c.met in
        said_no (rw (queues_over ws (met + (locks_in ws + 1)) (r + 1) (resources_in ws) over (locks_in ws) (omega arith)) (and-false (resources_fine ws ss)))

    module _ (h : resources_in ws < r) where
      all_fine : resources_fine ws ss ≡ true
      unfolding all
      all_fine = i.fine ∙ rw (upto_none h)

      pub left_few : (met ≡ locks_in ws → ⊥) → Queues ws ss others denied None
      left_few n = said_no (rw (all_fine, queues_end ws met r (resources_in ws) i.homes h) (ne_eqb met (locks_in ws) n))

      pub left_end : {seen : Hints} → met ≡ locks_in ws → Queues ws ss others denied (Some (record { free = free; blocked = blocked; noticed = noticed; hints = seen }))
      unfolding keep
      left_end e =
          record {
            fine = rw (all_fine, queues_end ws met r (resources_in ws) i.homes h) (sym (eq-eqb met (locks_in ws) e));
            free = let z : free_count ws ≡ free + 0 = i.spare ∙ rw (upto_none h) in omega arith;
            blocked = sums_end (blocked_at ws) blocked r (resources_in ws) i.waits h;
            noticed = sums_end (noticed_at ws) noticed r (resources_in ws) i.tells h;
          }

    -- A TURN: what is found of r is added
    module _ {f : Bool} (right : Fine ws) (h : r ≤ resources_in ws) (e : f ≡ resource_fine ws ss r) (n : not f ≡ false) (few : met ≤ locks_in ws) where
      turn : {y : Census} → Counted ws r (Some y) → Left ws ss others denied (met + y.met) (blocked + y.blocked) (noticed + y.noticed) (free + bit (not (named ws r))) (r + 1)
      unfolding all keep
      turn {y} c =
          let l = right.sized.few_locks in
          let short : y.met ≤ 3 * locks_in ws = c.short in
          let more : (y.blocked ≤ 3 * locks_in ws + 1) × (y.noticed ≤ 3 * locks_in ws + 1) = c.few in
          record {
            met_few = omega arith;
            blocked_few = let b = i.blocked_few in omega arith;
            noticed_few = let b = i.noticed_few in omega arith;
            free_few = bit_few (not (named ws r)) free r i.free_few;
            fine = i.fine ∙ (rw (upto_more h, ← e, not-false f n));
            homes = queues_next ws met r (resources_in ws) i.homes h c.met;
            spare = i.spare ∙ (rw (upto_more h) (count_one (not (named ws r)) r (keep (λ r. not (named ws r)) (upto (r + 1) (resources_in ws))) free));
            waits = sums_next (blocked_at ws) blocked r (resources_in ws) i.waits h c.blocked;
            tells = sums_next (noticed_at ws) noticed r (resources_in ws) i.tells h c.noticed;
          }

      module _ {x : ResourceRow} (w : x ≡ row_in ws r) {met' blocked' noticed' free' : ℕ} where
        pub left_free : x.bytes ≡ 0 → met' ≡ met → blocked' ≡ blocked → noticed' ≡ noticed → free' ≡ free + 1 → Left ws ss others denied met' blocked' noticed' free' (r + 1)
        left_free z p q s u =
            let d = nameless ws r w z in
            let t = turn (no_queues ws ss r (sym e ∙ not-false f n) d {seen = record { before = 0; last = 0 }}) in
            rw (p, q, s, u) (rw (d, add-zero met, add-zero blocked, add-zero noticed) at t)

        pub left_used : {y : Census} → (x.bytes ≡ 0 → ⊥) → Counted ws r (Some y) → met' ≡ met + y.met → blocked' ≡ blocked + y.blocked → noticed' ≡ noticed + y.noticed → free' ≡ free → Left ws ss others denied met' blocked' noticed' free' (r + 1)
        left_used {y} z c p q s u =
            let t = turn c in
            rw (p, q, s, u) (rw (in_use ws r w z, add-zero free) at t)

-- ALL HOME CHAINS
module _ (ws ss : List ℕ) {a b : ℕ} (fine : Fine ws) (p : a ≡ home_steps ws 0 0 (word_in ws (of_header 3))) (q : b ≡ home_steps ws 4 0 (word_in ws (of_header 4))) where
  home_total : {x : Bool} → x ≡ (resources_fine ws ss && eqb (a + b + queues_walk ws (from 1 (resources_in ws))) (locks_in ws)) → x ≡ (resources_fine ws ss && homes_fine ws)
  unfolding homes_fine
  home_total e = rw (← p, ← q) e

  pub unhoused : Queues ws ss (a + b) b None → Homes ws ss None
  unhoused w = record { fine = home_total w.fine; free = tt; blocked = tt; noticed = tt }

  pub housed : {x : HomeCounts} → Queues ws ss (a + b) b (Some x) → Homes ws ss (Some x)
  unfolding blocked_count noticed_count
  housed {x} w =
      let t = and_right (resources_fine ws ss) (homes_fine ws) (sym (home_total w.fine)) in
      record {
        fine = home_total w.fine;
        free = w.free;
        blocked = w.blocked ∙ blocked_counted ws t;
        noticed = w.noticed ∙ (rw q (noticed_counted ws t));
      }

  pub housed_all : {x : Option HomeCounts} → Queues ws ss (a + b) b x → Homes ws ss x
  housed_all {x = None} w = unhoused w
  housed_all {x = Some y} w = housed w

-- one of them is wrong
module _ (ws ss : List ℕ) where
  no_home : homes_fine ws ≡ false → Homes ws ss None
  no_home f = record { fine = rw f (sym (and-false (resources_fine ws ss))); free = tt; blocked = tt; noticed = tt }

  pub free_wrong : Met (locks_in ws) (home_steps ws 0 0 (word_in ws (of_header 3))) None → Homes ws ss None
  unfolding homes_fine
  free_wrong m = no_home (rw (← m.is) (ne_eqb _ (locks_in ws) (λ e. omega arith)))

  pub denied_wrong : Met (locks_in ws) (home_steps ws 4 0 (word_in ws (of_header 4))) None → Homes ws ss None
  unfolding homes_fine
  denied_wrong m = no_home (rw (← m.is) (ne_eqb _ (locks_in ws) (λ e. omega arith)))

pub ruleset home_tests = (free_wrong, denied_wrong)
