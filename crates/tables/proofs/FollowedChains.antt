-- Following a chain by its links: what is followed, that it has no repeats, and that it ends within the number of records if it ends at all.
use mathlib.Core.Path.{◌≡◌, refl, sym, ◌∙◌, ap}
use mathlib.Core.Logic.{◌≢◌}
use mathlib.Core.Bool.{true, false}
use mathlib.Core.List.{List, [], ◌∷◌}
use Prim.Native.Nat.{ℕ, zero, suc, ◌-◌, ◌<◌, ◌≤◌}
use native.Mathlib.Omega.{arith}
use lib.ListN.{length}
use lib.Dec.{eqb}
use borrow.Author.Tests.{ne_eqb}
use Rattle.tables.specs.Lists.{count, null, next}
use Rattle.tables.specs.Layout.{follow}
use Rattle.tables.specs.Sound.{ends}
use Rattle.tables.proofs.Cases.{by_equal, clash}
use Rattle.tables.specs.Threads.{Absent, Distinct, Each}
use Rattle.tables.proofs.Links.{count_absent, absent_count, few, next_here, next_past}
use Rattle.tables.proofs.ChainWalk.{Leads}

-- the chain that starts with a has the numbers xs and no others: f names what follows each, and 0 ends it
abbrev pub Runs : (ℕ → ℕ) → ℕ → List ℕ → Type 0
Runs f a [] = a ≡ 0
Runs f a (x ∷ xs) = (a ≡ x) × (x ≢ 0) × Runs f (f x) xs

-- THE END, and a step where n steps may be taken; where none may be, only the end is reached
module _ (f : ℕ → ℕ) where
  pub ends_zero : (n : ℕ) → ends f n 0 ≡ true
  unfolding ends
  ends_zero zero = refl
  ends_zero (suc n) = refl

  pub follow_zero : (n : ℕ) → follow f n 0 ≡ []
  unfolding follow
  follow_zero zero = refl
  follow_zero (suc n) = refl

  pub ends_none : (k : ℕ) → k ≢ 0 → ends f 0 k ≡ false
  unfolding ends
  ends_none zero m = absurd (m refl)
  ends_none (suc k) m = refl

  pub ends_step : (n k : ℕ) → 1 ≤ n → k ≢ 0 → ends f n k ≡ ends f (n - 1) (f k)
  unfolding ends
  ends_step n zero h m = absurd (m refl)
  ends_step zero (suc k) h m = absurd (omega arith)
  ends_step (suc n) (suc k) h m = let e : suc n - 1 ≡ n = omega arith in rw e

  pub follow_step : (n k : ℕ) → 1 ≤ n → k ≢ 0 → follow f n k ≡ k ∷ follow f (n - 1) (f k)
  unfolding follow
  follow_step n zero h m = absurd (m refl)
  follow_step zero (suc k) h m = absurd (omega arith)
  follow_step (suc n) (suc k) h m = let e : suc n - 1 ≡ n = omega arith in rw e

  -- A TURN of a chain that ends: one step more than it takes changes nothing
  more_ends : (n k : ℕ) → ends f n k ≡ true → ends f (suc n) k ≡ true
  unfolding ends
  more_ends zero zero h = refl
  more_ends zero (suc k) h = clash false h refl
  more_ends (suc n) zero h = refl
  more_ends (suc n) (suc k) h = more_ends n (f (suc k)) h

  more_follow : (n k : ℕ) → ends f n k ≡ true → follow f (suc n) k ≡ follow f n k
  unfolding ends follow
  more_follow zero zero h = refl
  more_follow zero (suc k) h = clash false h refl
  more_follow (suc n) zero h = refl
  more_follow (suc n) (suc k) h = ap (λ (xs : List ℕ). suc k ∷ xs) (more_follow n (f (suc k)) h)

  pub ends_turn : (n k : ℕ) → k ≢ 0 → ends f n k ≡ true → ends f n (f k) ≡ true
  unfolding ends
  ends_turn n zero m h = absurd (m refl)
  ends_turn zero (suc k) m h = clash false h refl
  ends_turn (suc n) (suc k) m h = more_ends n (f (suc k)) h

  pub follow_turn : (n k : ℕ) → k ≢ 0 → ends f n k ≡ true → follow f n k ≡ k ∷ follow f n (f k)
  unfolding ends follow
  follow_turn n zero m h = absurd (m refl)
  follow_turn zero (suc k) m h = clash false h refl
  follow_turn (suc n) (suc k) m h = ap (λ (xs : List ℕ). suc k ∷ xs) (sym (more_follow n (f (suc k)) h))

  -- it has at most as many numbers as steps, and none exactly if its first is 0
  pub follow_short : (n k : ℕ) → length (follow f n k) ≤ n
  unfolding follow
  follow_short zero k = omega arith
  follow_short (suc n) zero = omega arith
  follow_short (suc n) (suc k) = omega (arith, follow_short n (f (suc k)))

  pub follow_null : (n k : ℕ) → 1 ≤ n → null (follow f n k) ≡ eqb k 0
  unfolding follow
  follow_null zero k h = absurd (omega arith)
  follow_null (suc n) zero h = refl
  follow_null (suc n) (suc k) h = sym (ne_eqb (suc k) 0 (omega arith))

-- it goes by the links of records alone
module _ (f g : ℕ → ℕ) (same : (k : ℕ) → f (suc k) ≡ g (suc k)) where
  pub ends_agree : (n k : ℕ) → ends f n k ≡ ends g n k
  unfolding ends
  ends_agree zero zero = refl
  ends_agree zero (suc k) = refl
  ends_agree (suc n) zero = refl
  ends_agree (suc n) (suc k) = rw (same k) (ends_agree n (g (suc k)))

  pub follow_agree : (n k : ℕ) → follow f n k ≡ follow g n k
  unfolding follow
  follow_agree zero k = refl
  follow_agree (suc n) zero = refl
  follow_agree (suc n) (suc k) = rw (same k) (ap (λ (xs : List ℕ). suc k ∷ xs) (follow_agree n (g (suc k))))

-- what is followed, if it ends; and it ends
pub ends_runs : (f : ℕ → ℕ) (n a : ℕ) → ends f n a ≡ true → Runs f a (follow f n a)
unfolding ends follow
ends_runs f zero zero h = refl
ends_runs f zero (suc k) h = clash false h refl
ends_runs f (suc n) zero h = refl
ends_runs f (suc n) (suc k) h = (refl, omega arith, ends_runs f n (f (suc k)) h)

module _ (f : ℕ → ℕ) where
  pub runs_ends : (n a : ℕ) (xs : List ℕ) → Runs f a xs → length xs ≤ n → ends f n a ≡ true
  unfolding ends
  runs_ends n a [] h p = rw h (ends_zero f n)
  runs_ends n a (zero ∷ xs) h p = absurd (h.1 refl)
  runs_ends zero a (suc x ∷ xs) h p = absurd (omega arith)
  runs_ends (suc n) a (suc x ∷ xs) h p = rw h.0 (runs_ends n (f (suc x)) xs h.2 (omega arith))

  -- a chain has one course, so it never comes back to a number
  pub runs_unique : (a : ℕ) (xs ys : List ℕ) → Runs f a xs → Runs f a ys → xs ≡ ys
  runs_unique a [] [] h g = refl
  runs_unique a [] (y ∷ ys) h g = absurd (g.1 (sym g.0 ∙ h))
  runs_unique a (x ∷ xs) [] h g = absurd (h.1 (sym h.0 ∙ g))
  runs_unique a (x ∷ xs) (y ∷ ys) h g =
      let e : y ≡ x = sym g.0 ∙ h.0 in
      rw e (ap (λ (l : List ℕ). x ∷ l) (runs_unique (f x) xs ys h.2 (rw e at g.2)))

  runs_on : (a k : ℕ) (xs : List ℕ) → Runs f a xs → (Absent k xs → ⊥) → (ys : List ℕ) × Runs f (f k) ys × (length ys < length xs)
  runs_on a k [] h o = absurd (o tt)
  runs_on a k (x ∷ xs) h o =
      by_equal k x
      (λ e. (xs, rw e h.2, omega arith))
      (λ n. let later = runs_on (f x) k xs h.2 (λ b. o (n, b)) in (later.0, later.1, omega (arith, later.2)))

  pub runs_distinct : (a : ℕ) (xs : List ℕ) → Runs f a xs → Distinct xs
  runs_distinct a [] h = tt
  runs_distinct a (x ∷ xs) h = (
    by_equal (count x xs) 0 (count_absent x xs)
        (λ n. let again = runs_on (f x) x xs h.2 (λ b. n (absent_count x xs b)) in
        absurd (omega (arith, again.2, ap length (runs_unique (f x) again.0 xs again.1 h.2)))),
    runs_distinct (f x) xs h.2,
  )

  pub runs_no_zero : (a : ℕ) (xs : List ℕ) → Runs f a xs → Absent 0 xs
  runs_no_zero a [] h = tt
  runs_no_zero a (x ∷ xs) h = (λ e. h.1 (sym e), runs_no_zero (f x) xs h.2)

  -- its numbers are those of records if the links are
  pub runs_within : (n a : ℕ) (xs : List ℕ) → ((k : ℕ) → 1 ≤ k → k ≤ n → f k ≤ n) → a ≤ n → Runs f a xs → Each (λ k. (1 ≤ k) × (k ≤ n)) xs
  runs_within n a [] g p h = tt
  runs_within n a (x ∷ xs) g p h =
      let low : 1 ≤ x = let z = h.1 in omega arith in
      let high : x ≤ n = omega (arith, h.0) in
      ((low, high), runs_within n (f x) xs g (g x low high) h.2)

  -- what follows a number on it is what its link names; y stands before its first
  pub runs_next : (y k : ℕ) (xs : List ℕ) → Runs f (f y) xs → Absent y xs → (Absent k (y ∷ xs) → ⊥) → next k (y ∷ xs) ≡ f k
  runs_next y k [] h b o = by_equal k y (λ e. next_here k y [] e ∙ (rw e (sym h))) (λ n. absurd (o (n, tt)))
  runs_next y k (x ∷ xs) h b o =
      by_equal k y
      (λ e. next_here k y (x ∷ xs) e ∙ (rw e (sym h.0)))
      (λ n. next_past k y (x ∷ xs) n ∙ runs_next x k xs h.2 (runs_distinct (f y) (x ∷ xs) h).0 (λ c. o (n, c)))

  -- a chain of records that ends, ends within their number
  pub chain_ends_any : (m n a : ℕ) → ((k : ℕ) → 1 ≤ k → k ≤ n → f k ≤ n) → a ≤ n → ends f m a ≡ true → ends f n a ≡ true
  chain_ends_any m n a g p h =
      let r = ends_runs f m a h in
      runs_ends n a (follow f m a) r (few n (follow f m a) (runs_distinct a (follow f m a) r) (runs_within n a (follow f m a) g p r))

  pub leads_runs : (y : ℕ) (xs : List ℕ) → Leads f y xs → Absent 0 xs → Runs f (f y) xs
  leads_runs y [] h b = h
  leads_runs y (x ∷ xs) h b = (h.0, λ e. b.0 (sym e), leads_runs x xs h.1 b.1)
