-- Break's victim is the first blocked lock on a cycle, of whatever length.
use mathlib.Core.Path.{◌≡◌, refl, sym}
use mathlib.Core.Logic.{◌↔◌}
use mathlib.Core.Bool.{Bool, true, false}
use mathlib.Core.List.{List, [], ◌∷◌}
use Prim.Native.Nat.{ℕ, zero, suc, ◌≤◌}
use native.Mathlib.Omega.{arith}
use lib.Dec.{eqb}
use borrow.Author.Tests.{eq-eqb, ne_eqb}
use Rattle.tables.specs.Lists.{count, first_that}
use Rattle.tables.specs.State.{Tables, blocked}
use Rattle.tables.proofs.Cases.{by_cases, by_equal, clash}
use Rattle.tables.proofs.Counts.{count_same, count_other, count_nil, count_step, first_in, first_passes, first_none}
use Rattle.tables.specs.Validity.{Core}
use Rattle.rules.specs.Walks.{Walk}
use Rattle.rules.specs.Deadlock.{before, leads, deadlocked, victim, Victim, NoCycle, VictimFound}
use Rattle.rules.proofs.WalkSearch.{search_complete}

-- the bounded search finds the cycles of whatever length
pub deadlocked_walk : (t : Tables) (a : ℕ) → 1 ≤ count a t.blocked → (deadlocked t a ≡ true) ↔ Walk (leads t) t.blocked a a
unfolding deadlocked
deadlocked_walk t a m = search_complete (leads t) t.blocked a a m

-- what stands before the first that passes does not pass, and this and its passing say which it is
first_before : (p : ℕ → Bool) (xs : List ℕ) (k : ℕ) → first_that p xs ≡ suc k → (j : ℕ) → 1 ≤ count j (before (suc k) xs) → p j ≡ false
unfolding first_that before
first_before p [] k e j m = absurd (omega arith)
first_before p (x ∷ xs) k e j m =
    by_equal (suc k) x
    (λ q. absurd (omega (arith, rw (eq-eqb (suc k) x q, before, count_nil j) at m)))
    (λ q. by_cases (p x)
    (λ h. absurd (q (sym (rw (h, first_that) at e))))
    (λ h. by_equal j x
    (λ d. rw d h)
    (λ d. first_before p xs k (rw (h, first_that) at e) j (rw (ne_eqb (suc k) x q, before, count_other j x (before (suc k) xs) d) at m))))

first_is : (p : ℕ → Bool) (xs : List ℕ) (k : ℕ) → p k ≡ true → 1 ≤ count k xs → ((j : ℕ) → 1 ≤ count j (before k xs) → p j ≡ false) → first_that p xs ≡ k
unfolding first_that before
first_is p [] k h m e = absurd (omega (arith, rw (count_nil k) at m))
first_is p (x ∷ xs) k h m e =
    by_equal k x
    (λ q. let hx : p x ≡ true = rw q at h in rw (hx, first_that) (sym q))
    (λ q. let hx : p x ≡ false = e x (rw (ne_eqb k x q, before, count_same x (before k xs)) (omega arith)) in
    rw (hx, first_that)
    (first_is p xs k h (rw (count_other k x xs q) at m)
    (λ j i. e j (rw (ne_eqb k x q, before) (omega (arith, i, count_step j x (before k xs)))))))

pub count_before : (j k : ℕ) (xs : List ℕ) → count j (before k xs) ≤ count j xs
unfolding before
count_before j k [] = omega arith
count_before j k (x ∷ xs) =
    by_cases (eqb k x)
    (λ h. rw (h, before, count_nil j) (omega arith))
    (λ h. rw (h, before)
    (by_equal j x
    (λ e. rw (e, count_same x (before k xs), count_same x xs) (omega (arith, rw e at (count_before j k xs))))
    (λ n. rw (count_other j x (before k xs) n, count_other j x xs n) (count_before j k xs))))

victim_is : (t : Tables) (k : ℕ) → victim t ≡ suc k → Victim t (suc k)
unfolding victim
victim_is t k e =
    let m = first_in (deadlocked t) t.blocked k e in
    record {
      stands = m;
      cycle = (deadlocked_walk t (suc k) m).0 (first_passes (deadlocked t) t.blocked k e);
      first = λ j i w. clash (deadlocked t j) ((deadlocked_walk t j (omega (arith, i, count_before j (suc k) t.blocked))).1 w) (first_before (deadlocked t) t.blocked k e j i);
    }

is_victim : (t : Tables) (k : ℕ) → Victim t k → victim t ≡ k
unfolding victim
is_victim t k v =
    first_is (deadlocked t) t.blocked k ((deadlocked_walk t k v.stands).1 v.cycle) v.stands
    (λ j i. by_cases (deadlocked t j)
    (λ h. absurd (v.first j i ((deadlocked_walk t j (omega (arith, i, count_before j k t.blocked))).0 h)))
    (λ h. h))

-- there is no victim exactly then
victim_none : (t : Tables) → Core t → (victim t ≡ 0) ↔ NoCycle t
unfolding victim
victim_none t c = (none_then, then_none)
  where
    none_then : victim t ≡ 0 → NoCycle t
    none_then e = record {
      none = λ a m w. clash (deadlocked t a) ((deadlocked_walk t a m).1 w) (first_none (deadlocked t) t.blocked e (c.linked blocked 0) a m);
    }

    then_none : NoCycle t → victim t ≡ 0
    then_none h = go (victim t) refl
      where
        go : (n : ℕ) → victim t ≡ n → victim t ≡ 0
        go zero e = e
        go (suc k) e = let v = victim_is t k e in absurd (h.none (suc k) v.stands v.cycle)

pub victim_found : VictimFound
victim_found t c = (λ k. (victim_is t k, is_victim t (suc k)), victim_none t c)
