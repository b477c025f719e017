-- Counting the steps of a chain: they are no more than there are records exactly if it ends and each record on it passes the test.
use mathlib.Core.Path.{◌≡◌, refl}
use mathlib.Core.Logic.{◌≢◌}
use mathlib.Core.Bool.{Bool, true, false, ◌&&◌, cond}
use mathlib.Core.List.{List, [], ◌∷◌}
use Prim.Native.Nat.{ℕ, zero, suc, ◌+◌, ◌-◌, ◌≤◌}
use native.Mathlib.Omega.{arith}
use lib.ListN.{length}
use Rattle.modes.specs.Sets.{fits_set, with_mode}
use Rattle.tables.specs.Lists.{count, bit, all, keep}
use Rattle.tables.specs.State.{noticed}
use Rattle.tables.specs.Layout.{locks_in, follow, read_lock, lock_link, held_in}
use Rattle.tables.specs.Sound.{ends}
use Rattle.tables.proofs.Cases.{by_cases, by_equal, and_left, and_right, parts}
use Rattle.tables.proofs.Counts.{count_nil, count_other, all_at}
use Rattle.tables.proofs.Links.{distinct_count, absent_count}
use Rattle.tables.proofs.FollowedChains.{ends_zero, follow_zero, ends_none, ends_step, follow_step, follow_turn, ends_agree, follow_agree, ends_runs, runs_distinct, runs_no_zero}
use Rattle.check_laws.proofs.RecordPass.{count_one}
use Rattle.check_laws.proofs.HeldModes.{four}
use Rattle.check_laws.specs.Check.{steps, noticed_of, home_on, sum_over, HolderCount, fitting, gather, digit, digits_of, too_many, holder_steps, mode_steps, fits_beside, tail_steps, convert_fit, other_modes, convert_from}

-- the chain of g from a ends in n steps, and each on it passes
pub record Passed (g : ℕ → ℕ) (test : ℕ → Bool) (n a : ℕ) : Type 0 where
  pub ended : ends g n a ≡ true
  pub tested : all test (follow g n a) ≡ true

module _ (g : ℕ → ℕ) (n a : ℕ) (h : ends g n a ≡ true) where
  pub once : (j : ℕ) → count j (follow g n a) ≤ 1
  once j = distinct_count j (follow g n a) (runs_distinct g a (follow g n a) (ends_runs g n a h))

  pub no_zero : count 0 (follow g n a) ≡ 0
  no_zero = absent_count 0 (follow g n a) (runs_no_zero g a (follow g n a) (ends_runs g n a h))

-- THE COUNT of a chain that passes is its length; it is no more than n only if the chain passes. It goes by the links of records alone
module _ (f g : ℕ → ℕ) (agree : (k : ℕ) → f (suc k) ≡ g (suc k)) (test : ℕ → Bool) (n a : ℕ) where
  pub passed_steps : Passed g test n a → steps f test n a ≡ length (follow g n a)
  unfolding steps
  passed_steps p = rw (ends_agree f g agree n a, follow_agree f g agree n a, p.ended, p.tested)

  pub steps_passed : steps f test n a ≤ n → Passed g test n a
  unfolding steps
  steps_passed h =
      by_cases (ends g n a && all test (follow g n a))
      (λ p. record { ended = and_left (ends g n a) _ p; tested = and_right (ends g n a) _ p })
      (λ p. absurd (omega (arith, rw (ends_agree f g agree n a, follow_agree f g agree n a, p) at h)))

-- its end; no step may be taken; a turn: the first passes or not, and then the rest
one_turn : {A : Type 0} (f : A → A) (e t a : Bool) (x y : A) → cond (e && (t && a)) (f x) (f y) ≡ cond t (f (cond (e && a) x y)) (f y)
one_turn f true true true x y = refl
one_turn f true true false x y = refl
one_turn f true false a x y = refl
one_turn f false true a x y = refl
one_turn f false false a x y = refl

module _ (link : ℕ → ℕ) (test : ℕ → Bool) where
  pub steps_zero : (n : ℕ) → steps link test n 0 ≡ 0
  unfolding steps all
  steps_zero n = rw (ends_zero link n, follow_zero link n)

  pub steps_none : (k : ℕ) → k ≢ 0 → steps link test 0 k ≡ 1
  unfolding steps
  steps_none k m = rw (ends_none link k m)

  pub steps_turn : (n k : ℕ) → 1 ≤ n → k ≢ 0 → steps link test n k ≡ cond (test k) (suc (steps link test (n - 1) (link k))) (suc n)
  unfolding steps all
  steps_turn n k h m =
      let z : suc (n - 1) ≡ n = omega arith in
      rw (ends_step link n k h m, follow_step link n k h m, z)
      (one_turn suc (ends link (n - 1) (link k)) (test k) (all test (follow link (n - 1) (link k))) (length (follow link (n - 1) (link k))) n)

-- HOLDERS: the same, where the modes are tested along the whole list
abbrev pub one_more : HolderCount → HolderCount
one_more x = record { met = suc x.met; modes = x.modes; noticed = x.noticed; digits = x.digits }

-- what is said of holders that pass
abbrev pub counted : List ℕ → (List ℕ → ℕ) → List ℕ → HolderCount
counted ws modes ks = record { met = length ks; modes = modes ks; noticed = noticed_of ws ks; digits = digits_of ws ks }

module _ (ws : List ℕ) (s r : ℕ) (fits : List ℕ → Bool) (modes : List ℕ → ℕ) where
  module _ (g : ℕ → ℕ) (agree : (k : ℕ) → lock_link ws 0 (suc k) ≡ g (suc k)) (n a : ℕ) where
    pub passed_holders : Passed g (home_on ws s r) n a → fits (follow g n a) ≡ true → holder_steps ws s r fits modes n a 0 0 ≡ counted ws modes (follow g n a)
    unfolding holder_steps
    passed_holders p f =
        let z : 0 + noticed_of ws (follow g n a) ≡ noticed_of ws (follow g n a) = omega arith in
        let y : 0 + digits_of ws (follow g n a) ≡ digits_of ws (follow g n a) = omega arith in
        rw (ends_agree (lock_link ws 0) g agree n a, follow_agree (lock_link ws 0) g agree n a, p.ended, p.tested, f, z, y)

    pub holders_passed : (holder_steps ws s r fits modes n a 0 0).met ≤ n → Passed g (home_on ws s r) n a × (fits (follow g n a) ≡ true)
    unfolding holder_steps
    holders_passed h =
        by_cases (ends g n a && (all (home_on ws s r) (follow g n a) && fits (follow g n a)))
        (λ p. (record { ended = search parts; tested = search parts }, search parts))
        (λ p. absurd (omega (arith, rw (ends_agree (lock_link ws 0) g agree n a, follow_agree (lock_link ws 0) g agree n a, p) at h)))

  module _ (c d : ℕ) where
    pub holders_zero : (n : ℕ) → fits [] ≡ true → holder_steps ws s r fits modes n 0 c d ≡ record { met = 0; modes = modes []; noticed = c; digits = d }
    unfolding holder_steps all keep sum_over
    holders_zero n f =
        let z : c + 0 ≡ c = omega arith in
        let y : d + 0 ≡ d = omega arith in
        rw (ends_zero (lock_link ws 0) n, follow_zero (lock_link ws 0) n, f, z, y)

    pub holders_none : (k : ℕ) → k ≢ 0 → holder_steps ws s r fits modes 0 k c d ≡ too_many 0
    unfolding holder_steps
    holders_none k m = rw (ends_none (lock_link ws 0) k m)

    -- a turn: b is what the modes' test says of the first, and the rest have a test and a set of their own
    pub holders_turn : (n k : ℕ) (b : Bool) (rest_fit : List ℕ → Bool) (rest_modes : List ℕ → ℕ) → 1 ≤ n → k ≢ 0 →
        ((ks : List ℕ) → fits (k ∷ ks) ≡ (b && rest_fit ks)) → ((ks : List ℕ) → modes (k ∷ ks) ≡ rest_modes ks) →
        holder_steps ws s r fits modes n k c d
        ≡ cond (home_on ws s r k && b)
        (one_more (holder_steps ws s r rest_fit rest_modes (n - 1) (lock_link ws 0 k) (c + bit (noticed (read_lock ws k))) (d + digit (held_in ws k))))
        (too_many n)
    unfolding holder_steps all keep sum_over
    holders_turn n k b rest_fit rest_modes h m f g =
        let ks = follow (lock_link ws 0) (n - 1) (lock_link ws 0 k) in
        let z : suc (n - 1) ≡ n = omega arith in
        let y : d + (digit (held_in ws k) + digits_of ws ks) ≡ d + digit (held_in ws k) + digits_of ws ks = omega arith in
        rw (
          ends_step (lock_link ws 0) n k h m,
          follow_step (lock_link ws 0) n k h m,
          f,
          g,
          four (home_on ws s r k) (all (home_on ws s r) ks) b (rest_fit ks),
          count_one (noticed (read_lock ws k)) k (keep (λ k. noticed (read_lock ws k)) ks) c,
          y,
          z,
        )
        (one_turn one_more (ends (lock_link ws 0) (n - 1) (lock_link ws 0 k)) (home_on ws s r k && b) (all (home_on ws s r) ks && rest_fit ks)
        (record {
          met = length ks;
          modes = rest_modes ks;
          noticed = c + bit (noticed (read_lock ws k)) + noticed_of ws ks;
          digits = d + digit (held_in ws k) + digits_of ws ks;
        })
        (record { met = n; modes = 0; noticed = 0; digits = 0 }))

-- so each held mode is tested with the set of those before it
module _ (ws : List ℕ) (s r : ℕ) (fit : ℕ → ℕ → Bool) (set c d : ℕ) where
  pub modes_zero : (n : ℕ) → mode_steps ws s r fit n 0 set c d ≡ record { met = 0; modes = set; noticed = c; digits = d }
  unfolding mode_steps fitting gather
  modes_zero n = holders_zero ws s r (fitting fit (held_in ws) set) (gather (held_in ws) set) c d n refl

  pub modes_none : (k : ℕ) → k ≢ 0 → mode_steps ws s r fit 0 k set c d ≡ too_many 0
  unfolding mode_steps
  modes_none k = holders_none ws s r (fitting fit (held_in ws) set) (gather (held_in ws) set) c d k

  pub modes_turn : (n k : ℕ) → 1 ≤ n → k ≢ 0 →
      mode_steps ws s r fit n k set c d
      ≡ cond (home_on ws s r k && fit set (held_in ws k))
      (one_more (mode_steps ws s r fit (n - 1) (lock_link ws 0 k) (with_mode set (held_in ws k)) (c + bit (noticed (read_lock ws k))) (d + digit (held_in ws k))))
      (too_many n)
  unfolding mode_steps fitting gather
  modes_turn n k h m =
      holders_turn ws s r (fitting fit (held_in ws) set) (gather (held_in ws) set) c d n k (fit set (held_in ws k))
      (fitting fit (held_in ws) (with_mode set (held_in ws k))) (gather (held_in ws) (with_mode set (held_in ws k))) h m (λ ks. refl) (λ ks. refl)

-- and a convert head with the granted modes
module _ (ws : List ℕ) (r set : ℕ) where
  pub convert_zero : convert_from ws r 0 set ≡ record { met = 0; modes = set; noticed = 0; digits = 0 }
  unfolding convert_from convert_fit other_modes
  convert_zero = holders_zero ws 2 r (convert_fit (held_in ws) set) (other_modes (held_in ws) set) 0 0 (locks_in ws) refl

  pub convert_turn : (c : ℕ) → 1 ≤ locks_in ws → c ≢ 0 →
      convert_from ws r c set
      ≡ cond (home_on ws 2 r c && fits_set set (held_in ws c))
      (one_more (tail_steps ws r (held_in ws c) (locks_in ws - 1) (lock_link ws 0 c) set (bit (noticed (read_lock ws c)))))
      (too_many (locks_in ws))
  unfolding convert_from convert_fit other_modes mode_steps
  convert_turn c h m =
      let z : 0 + bit (noticed (read_lock ws c)) ≡ bit (noticed (read_lock ws c)) = omega arith in
      let y : 0 + digit (held_in ws c) ≡ digit (held_in ws c) = omega arith in
      rw (z, y) at
      (holders_turn ws 2 r (convert_fit (held_in ws) set) (other_modes (held_in ws) set) 0 0 (locks_in ws) c (fits_set set (held_in ws c))
      (fitting (fits_beside (held_in ws c)) (held_in ws) set) (gather (held_in ws) set) h m (λ ks. refl) (λ ks. refl))

-- the first of a chain that passes is 0 or passes
pub first_passes : (g : ℕ → ℕ) (test : ℕ → Bool) (n a : ℕ) → Passed g test n a → a ≢ 0 → test a ≡ true
unfolding all
first_passes g test n a h m = and_left (test a) _ (rw (follow_turn g n a m h.ended) at h.tested)

-- if only numbers up to b pass, the first and what follows each is one of them, or zero
module _ (g : ℕ → ℕ) (test : ℕ → Bool) (b : ℕ) (bound : (k : ℕ) → test k ≡ true → k ≤ b) where
  pub first_low : (n a : ℕ) → Passed g test n a → a ≤ b
  first_low n a h = by_equal a 0 (λ e. omega arith) (λ m. bound a (first_passes g test n a h m))

  pub links_low : (n a : ℕ) → Passed g test n a → (k : ℕ) → 1 ≤ count k (follow g n a) → g k ≤ b
  unfolding ends follow all
  links_low zero a h k m = absurd (omega (arith, count_nil k))
  links_low (suc n) zero h k m = absurd (omega (arith, count_nil k))
  links_low (suc n) (suc j) h k m =
      let rest : Passed g test n (g (suc j)) = record { ended = h.ended; tested = and_right (test (suc j)) _ h.tested } in
      by_equal k (suc j)
      (λ e. rw e (first_low n (g (suc j)) rest))
      (λ d. links_low n (g (suc j)) rest k (rw (count_other k (suc j) (follow g n (g (suc j))) d) at m))

  -- what is on it passes, and is a record's number
  pub member : (n a : ℕ) → Passed g test n a → (k : ℕ) → 1 ≤ count k (follow g n a) → (1 ≤ k) × (k ≤ b) × (test k ≡ true)
  member n a h k m =
      let t = all_at test (follow g n a) h.tested k m in
      (by_equal k 0 (λ e. absurd (omega (arith, no_zero g n a h.ended, rw e at m))) (λ d. omega arith), bound k t, t)
