-- Who stands ahead of a blocked lock, on its resource's line.
use mathlib.Core.Path.{◌≡◌, refl, sym, ap, ◌∙◌}
use mathlib.Core.Logic.{◌≢◌}
use mathlib.Core.Bool.{true, false}
use mathlib.Core.List.{List, [], ◌∷◌, ◌++◌}
use Prim.Native.Nat.{ℕ, ◌≤◌}
use native.Mathlib.Omega.{arith}
use lib.Dec.{eqb, leb}
use borrow.Author.Tests.{eqb-true, eq-eqb, ne_eqb, leb-true, leb-false}
use Rattle.tables.specs.Lists.{count, any}
use Rattle.tables.specs.State.{Tables, lock, resource, converting, waiting, blocked_lock, converts, waits, queue}
use Rattle.tables.proofs.Cases.{by_cases, by_equal, clash, eqb_same}
use Rattle.tables.proofs.Counts.{count_nil, count_same, count_other, count_append, any_has}
use Rattle.tables.specs.Validity.{Core, line}
use Rattle.tables.proofs.ChainMembers.{state_within, chain_has, on_converts, blocked_place}
use Rattle.rules.specs.Deadlock.{before, ahead}
use Rattle.deadlock_graph.proofs.SameVictim.{Alike}

-- ---- who stands before a member

pub before_here : (k j : ℕ) (xs : List ℕ) → k ≡ j → before k (j ∷ xs) ≡ []
unfolding before
before_here k j xs e = rw (eq-eqb k j e, before)

pub before_past : (k j : ℕ) (xs : List ℕ) → k ≢ j → before k (j ∷ xs) ≡ j ∷ before k xs
unfolding before
before_past k j xs e = rw (ne_eqb k j e, before)

pub any_counted : (k : ℕ) (xs : List ℕ) → any (eqb k) xs ≡ true → 1 ≤ count k xs
any_counted k xs h = let w = any_has (eqb k) xs h in rw (eqb-true k w.0 w.2) w.1

before_in : (k : ℕ) (xs ys : List ℕ) → 1 ≤ count k xs → before k (xs ++ ys) ≡ before k xs
before_in k [] ys m = absurd (omega (arith, count_nil k))
before_in k (x ∷ xs) ys m =
    by_equal k x
    (λ e. before_here k x (xs ++ ys) e ∙ sym (before_here k x xs e))
    (λ e. before_past k x (xs ++ ys) e ∙ ap (λ zs. x ∷ zs) (before_in k xs ys (rw (count_other k x xs e) at m)) ∙ sym (before_past k x xs e))

pub before_off : (k : ℕ) (xs ys : List ℕ) → count k xs ≡ 0 → before k (xs ++ ys) ≡ xs ++ before k ys
before_off k [] ys m = refl
before_off k (x ∷ xs) ys m =
    by_equal k x
    (λ e. absurd (omega (arith, rw (e, count_same x xs) at m)))
    (λ e. before_past k x (xs ++ ys) e ∙ ap (λ zs. x ∷ zs) (before_off k xs ys (rw (count_other k x xs e) at m)))

-- ---- the line of a resource

module _ (t : Tables) (c : Core t) where
  pub line_here : (r k : ℕ) → 1 ≤ count k (line t r) → (lock t k).resource ≡ r
  line_here r k m = (blocked_place t c r k m).1

  converting_in : (k : ℕ) → converting (lock t k) ≡ true → 1 ≤ count k (resource t (lock t k).resource).convert
  converting_in k h =
      omega (arith, chain_has t c.linked (queue (lock t k).resource converts) k (state_within t k 1 (eqb-true _ 2 h)) (rw (h, eqb_same (lock t k).resource)))

  waiting_in : (k : ℕ) → waiting (lock t k) ≡ true → 1 ≤ count k (resource t (lock t k).resource).wait
  waiting_in k h =
      omega (arith, chain_has t c.linked (queue (lock t k).resource waits) k (state_within t k 2 (eqb-true _ 3 h)) (rw (h, eqb_same (lock t k).resource)))

  pub line_has : (k : ℕ) → blocked_lock (lock t k) ≡ true → 1 ≤ count k (line t (lock t k).resource)
  unfolding line
  line_has k h =
      rw count_append
      (by_cases (converting (lock t k))
      (λ g. omega (arith, converting_in k g))
      (λ g. omega (arith, waiting_in k (rw g at h))))

  -- those ahead of a blocked lock are those before it on its line
  pub ahead_line : (a : ℕ) → blocked_lock (lock t a) ≡ true → ahead t a ≡ before a (line t (lock t a).resource)
  unfolding ahead line
  ahead_line a h =
      let r = (lock t a).resource in
      by_cases (waiting (lock t a))
      (λ g. rw g (sym (before_off a (resource t r).convert (resource t r).wait (not_converting g))))
      (λ g. rw g (sym (before_in a (resource t r).convert (resource t r).wait (converting_in a (first g)))))
    where
      not_converting : waiting (lock t a) ≡ true → count a (resource t (lock t a).resource).convert ≡ 0
      not_converting g =
          by_cases (leb 1 (count a (resource t (lock t a).resource).convert))
          (λ p. absurd (omega (arith, eqb-true (lock t a).state 3 g, eqb-true (lock t a).state 2 (on_converts t c.linked (lock t a).resource a (leb-true 1 _ p)).0)))
          (λ p. omega (arith, leb-false 1 (count a (resource t (lock t a).resource).convert) p))

      first : waiting (lock t a) ≡ false → converting (lock t a) ≡ true
      first g = by_cases (converting (lock t a)) (λ p. p) (λ p. clash (blocked_lock (lock t a)) h (rw (p, g)))

pub line_alike : (t u : Tables) → Alike t u → (r : ℕ) → line u r ≡ line t r
unfolding line
line_alike t u a r = rw (a.queues converts r, a.queues waits r)
