-- Whether a mode is compatible with every mode that others hold on a resource, told from its counts alone.
use mathlib.Core.Path.{◌≡◌, refl, sym, ◌∙◌, ap}
use mathlib.Core.Bool.{Bool, true, false, ◌&&◌, ◌||◌, not}
use mathlib.Core.List.{List, [], ◌∷◌, map}
use Prim.Native.Nat.{ℕ, ◌+◌, ◌≤◌}
use native.Mathlib.Omega.{arith}
use lib.Dec.{eqb, ltb}
use lib.ListN.{length}
use borrow.Author.Tests.{eqb-true, eq-eqb, ne_eqb, ltb-true, ltb-false, lt-ltb, le-ltb}
use Rattle.modes.specs.Modes.{compatible, all_modes}
use Rattle.modes.proofs.Laws.{all_modes_at, all_modes_intro}
use Rattle.tables.specs.Lists.{within, count, bit, remove, all}
use Rattle.tables.specs.State.{Tables, lock, resource, granted, converting, holds, grants, converts, queue}
use Rattle.tables.specs.Grants.{holders, tally, fits}
use Rattle.tables.specs.Validity.{used, Core}
use Rattle.tables.proofs.Cases.{by_cases, by_equal, eqb_same, same_truth}
use Rattle.tables.proofs.Counts.{count_other, count_append, count_nil, remove_absent, all_at, all_intro}
use Rattle.tables.proofs.StateCases.{ok_numbered}
use Rattle.tables.proofs.Valid.{modes_low}
use Rattle.tables.proofs.ChainMembers.{holder_within}
use Rattle.tables.proofs.Tallies.{taken}

-- a test that k need not pass is a test of the others
all_others : (p : ℕ → Bool) (k : ℕ) (xs : List ℕ) → all (λ j. eqb j k || p j) xs ≡ all p (remove k xs)
unfolding all remove
all_others p k [] = refl
all_others p k (x ∷ xs) =
    by_equal k x
    (λ e. rw (eq-eqb k x e, eq-eqb x k (sym e)) (all_others p k xs))
    (λ n. rw (ne_eqb k x n, ne_eqb x k (λ q. n (sym q))) (ap (λ (b : Bool). p x && b) (all_others p k xs)))

all_map : (p : ℕ → Bool) (g : ℕ → ℕ) (xs : List ℕ) → all (λ j. p (g j)) xs ≡ all p (map g xs)
unfolding all
all_map p g [] = refl
all_map p g (x ∷ xs) = ap (λ (b : Bool). p (g x) && b) (all_map p g xs)

modes_cong : (p q : ℕ → Bool) → ((h : ℕ) → h ≤ 5 → p h ≡ q h) → all_modes p ≡ all_modes q
unfolding all_modes
modes_cong p q e = rw (e 0 (omega arith), e 1 (omega arith), e 2 (omega arith), e 3 (omega arith), e 4 (omega arith), e 5 (omega arith))

-- a list of modes passes a test exactly if each of the six does that is on it
all_counted : (p : ℕ → Bool) (ms : List ℕ) → ((h : ℕ) → 1 ≤ count h ms → h ≤ 5) → all p ms ≡ all_modes (λ h. not (ltb 0 (count h ms)) || p h)
all_counted p ms few =
    same_truth _ _
    (λ a. all_modes_intro _ (λ h i. by_cases (ltb 0 (count h ms)) (λ y. rw y (all_at p ms a h (ltb-true 0 (count h ms) y))) (λ y. rw y)))
    (λ a. all_intro p ms (λ h i. rw (lt-ltb 0 (count h ms) i) at (all_modes_at (λ h. not (ltb 0 (count h ms)) || p h) a h (few h i))))

-- what is counted is what g gives of a member
counted_few : (g : ℕ → ℕ) → ((j : ℕ) → g j ≤ 5) → (xs : List ℕ) (h : ℕ) → 1 ≤ count h (map g xs) → h ≤ 5
counted_few g few [] h i = absurd (omega (arith, count_nil h))
counted_few g few (x ∷ xs) h i = by_equal h (g x) (λ e. rw e (few x)) (λ n. counted_few g few xs h (rw (count_other h (g x) (map g xs) n) at i))

more_than : (a b c : ℕ) → a + b ≡ c → ltb 0 a ≡ ltb b c
more_than a b c e = by_cases (ltb 0 a) (λ y. rw y (sym (lt-ltb b c (omega (arith, ltb-true 0 a y))))) (λ y. rw y (sym (le-ltb b c (omega (arith, ltb-false 0 a y)))))

module _ (t : Tables) (core : Core t) (r : ℕ) where
  -- the locks that hold a mode on r stand on its chains, each once
  pub holder_count : (k : ℕ) → count k (holders t r) ≡ bit (within (length t.locks) k && (holds (lock t k) && eqb (lock t k).resource r))
  unfolding holders
  holder_count k =
      count_append k (resource t r).grant (resource t r).convert
      ∙ omega (
        arith,
        core.linked (queue r grants) k,
        core.linked (queue r converts) k,
        both (within (length t.locks) k) (granted (lock t k)) (converting (lock t k)) (eqb (lock t k).resource r) (λ g. rw (eqb-true (lock t k).state 1 g)),
      )
    where
      both : (w g c e : Bool) → (g ≡ true → c ≡ false) → bit (w && (g && e)) + bit (w && (c && e)) ≡ bit (w && ((g || c) && e))
      both false g c e n = refl
      both true true c e n = rw (n refl) (omega arith)
      both true false c e n = omega arith

  abbrev mode_of : ℕ → ℕ
  mode_of j = (lock t j).held

  module _ (m : ℕ) where
    fits_others : (k : ℕ) → fits t r k m ≡ all_modes (λ h. not (ltb 0 (count h (map mode_of (remove k (holders t r))))) || compatible h m)
    unfolding fits
    fits_others k =
        all_others (λ j. compatible (mode_of j) m) k (holders t r)
        ∙ all_map (λ h. compatible h m) mode_of (remove k (holders t r))
        ∙ all_counted (λ h. compatible h m) (map mode_of (remove k (holders t r)))
        (counted_few mode_of (λ j. (modes_low (used t) (lock t j) (lock t j).state (ok_numbered (core.lock_ok j))).0) (remove k (holders t r)))

    -- beside nobody: each mode that is held at all is compatible with m
    pub fits_counted : fits t r 0 m ≡ all_modes (λ h. not (ltb 0 (tally t r h)) || compatible h m)
    unfolding tally
    fits_counted = fits_others 0 ∙ rw (remove_absent 0 (holders t r) (holder_count 0))

    -- beside k, which holds a mode there: each mode that more locks hold than k accounts for
    pub fits_counted_beside : (k : ℕ) → holds (lock t k) ≡ true → (lock t k).resource ≡ r
        → fits t r k m ≡ all_modes (λ h. not (ltb (bit (eqb h (lock t k).held)) (tally t r h)) || compatible h m)
    unfolding tally
    fits_counted_beside k e s =
        fits_others k
        ∙ modes_cong _ _ (λ h i. ap (λ (b : Bool). not b || compatible h m) (more_than _ (bit (eqb h (lock t k).held)) _ (taken k h mode_of (holders t r) once)))
      where
        once : count k (holders t r) ≡ 1
        once = holder_count k ∙ rw (holder_within t k e, e, s, eqb_same r)
