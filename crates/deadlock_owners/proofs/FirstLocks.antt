-- The first lock that an owner has on a list, and the blocked locks that are passed on the way along their chain.
use mathlib.Core.Path.{◌≡◌, refl, sym, ap, ◌∙◌}
use mathlib.Core.Logic.{◌≢◌}
use mathlib.Core.Bool.{Bool, true, false}
use mathlib.Core.List.{List, [], ◌∷◌, ◌++◌, append_assoc, append-nil}
use Prim.Native.Nat.{ℕ, zero, suc, ◌≤◌, ◌<◌}
use native.Mathlib.Omega.{arith}
use lib.ListN.{length}
use lib.Dec.{eqb}
use borrow.Author.Tests.{eqb-true}
use Rattle.tables.specs.Lists.{count, first_that}
use Rattle.tables.specs.State.{lock, blocked}
use Rattle.tables.specs.Layout.{of_header, of_lock, word_in, onward}
use Rattle.tables.proofs.Cases.{by_cases, by_equal, clash, eqb_same}
use Rattle.tables.proofs.Counts.{count_nil, count_same, count_other, count_append, count_step, first_in, first_passes, first_none, first_here, first_later}
use Rattle.tables.proofs.ChainMembers.{chain_once}
use Rattle.tables.specs.Validity.{Core}
use Rattle.rules.specs.Deadlock.{owner, before}
use Rattle.table_chains.specs.Promises.{Some}
use Rattle.table_chains.specs.Walking.{Walking}
use Rattle.table_chains.proofs.ChainWalks.{walk_ends, walk_splits, walk_on, blocked_walks}
use Rattle.deadlock_graph.specs.Promises.{seen, Blocked}
use Rattle.deadlock_graph.specs.Links.{place_of}
use Rattle.deadlock_graph.proofs.SeenChains.{blocked_seen}
use Rattle.deadlock_graph.proofs.LockWords.{some_alike}
use Rattle.deadlock_graph.proofs.LineAhead.{before_here, before_past, before_off}
use Rattle.deadlock_owners.specs.OwnerLists.{same_owner, first_of, owner_number, passed, list_of}

-- ---- the first that passes a test, on two lists that are joined

module _ (p : ℕ → Bool) where
  first_joined : (xs ys : List ℕ) → first_that p xs ≢ 0 → first_that p (xs ++ ys) ≡ first_that p xs
  first_joined [] ys n = absurd (n (unfold first_that in refl))
  first_joined (x ∷ xs) ys n =
      by_cases (p x)
      (λ h. first_here p x (xs ++ ys) h ∙ sym (first_here p x xs h))
      (λ h. first_later p x (xs ++ ys) h ∙ first_joined xs ys (λ z. n (first_later p x xs h ∙ z)) ∙ sym (first_later p x xs h))

  first_behind : (xs ys : List ℕ) → first_that p xs ≡ 0 → count 0 xs ≡ 0 → first_that p (xs ++ ys) ≡ first_that p ys
  first_behind [] ys e z = refl
  first_behind (x ∷ xs) ys e z =
      by_cases (p x)
      (λ h. let q : x ≡ 0 = sym (first_here p x xs h) ∙ e in absurd (omega (arith, rw (q, count_same) at z)))
      (λ h. first_later p x (xs ++ ys) h ∙ first_behind xs ys (sym (first_later p x xs h) ∙ e) (omega (arith, count_step 0 x xs)))

  -- a member that passes: nothing behind it is the first
  first_up_to : (k : ℕ) (xs : List ℕ) → p k ≡ true → 1 ≤ count k xs → first_that p xs ≡ first_that p (before k xs ++ (k ∷ []))
  first_up_to k [] h m = absurd (omega (arith, count_nil k))
  first_up_to k (x ∷ xs) h m =
      by_equal k x
      (λ e. rw (before_here k x xs e) (first_here p x xs (rw e at h) ∙ sym e ∙ sym (first_here p k [] h)))
      (λ e. rw (before_past k x xs e)
      (by_cases (p x)
      (λ g. first_here p x xs g ∙ sym (first_here p x (before k xs ++ (k ∷ [])) g))
      (λ g. first_later p x xs g ∙ first_up_to k xs h (rw (count_other k x xs e) at m) ∙ sym (first_later p x (before k xs ++ (k ∷ [])) g))))

-- ---- the first lock of an owner

module _ (ws : List ℕ) where
  own_owner : (j : ℕ) → same_owner ws j j ≡ true
  unfolding same_owner
  own_owner j = eqb_same (owner (lock (seen ws) j))

  pub owner_shared : (j b : ℕ) → same_owner ws j b ≡ true → owner (lock (seen ws) b) ≡ owner (lock (seen ws) j)
  unfolding same_owner
  owner_shared j b h = eqb-true _ _ h

  module _ (i j : ℕ) (e : owner (lock (seen ws) i) ≡ owner (lock (seen ws) j)) where
    pub first_shared : (bs : List ℕ) → first_of ws i bs ≡ first_of ws j bs
    unfolding first_of same_owner
    first_shared bs = ap (λ o. first_that (λ b. eqb (owner (lock (seen ws) b)) o) bs) e

    pub list_shared : list_of ws i ≡ list_of ws j
    unfolding list_of
    list_shared = rw e

  module _ (j : ℕ) (bs : List ℕ) where
    pub first_nil : first_of ws j [] ≡ 0
    unfolding first_of first_that
    first_nil = refl

    pub first_stands : first_of ws j bs ≢ 0 → 1 ≤ count (first_of ws j bs) bs
    unfolding first_of
    first_stands n = go (first_that (same_owner ws j) bs) refl
      where
        go : (x : ℕ) → first_that (same_owner ws j) bs ≡ x → 1 ≤ count (first_that (same_owner ws j) bs) bs
        go zero e = absurd (n e)
        go (suc x) e = rw e (first_in (same_owner ws j) bs x e)

    pub first_owner : first_of ws j bs ≢ 0 → owner (lock (seen ws) (first_of ws j bs)) ≡ owner (lock (seen ws) j)
    unfolding first_of
    first_owner n = go (first_that (same_owner ws j) bs) refl
      where
        go : (x : ℕ) → first_that (same_owner ws j) bs ≡ x → owner (lock (seen ws) (first_that (same_owner ws j) bs)) ≡ owner (lock (seen ws) j)
        go zero e = absurd (n e)
        go (suc x) e = rw e (owner_shared j (suc x) (first_passes (same_owner ws j) bs x e))

    -- a member's owner has a first lock
    pub first_there : (b : ℕ) → count 0 bs ≡ 0 → 1 ≤ count b bs → owner (lock (seen ws) b) ≡ owner (lock (seen ws) j) → first_of ws j bs ≢ 0
    unfolding first_of
    first_there b z m e q = clash (same_owner ws j b) (unfold same_owner in rw e (eqb_same (owner (lock (seen ws) j)))) (first_none (same_owner ws j) bs q z b m)

  pub first_kept : (j : ℕ) (xs ys : List ℕ) → first_of ws j xs ≢ 0 → first_of ws j (xs ++ ys) ≡ first_of ws j xs
  unfolding first_of
  first_kept j xs ys n = first_joined (same_owner ws j) xs ys n

  -- a list that gets one lock more
  module _ (j k : ℕ) (xs : List ℕ) (z : count 0 xs ≡ 0) (e : first_of ws j xs ≡ 0) where
    pub first_new : owner (lock (seen ws) k) ≡ owner (lock (seen ws) j) → first_of ws j (xs ++ (k ∷ [])) ≡ k
    unfolding first_of
    first_new h =
        first_behind (same_owner ws j) xs (k ∷ []) e z
        ∙ first_here (same_owner ws j) k [] (unfold same_owner in rw h (eqb_same (owner (lock (seen ws) j))))

    pub first_other : same_owner ws j k ≡ false → first_of ws j (xs ++ (k ∷ [])) ≡ 0
    unfolding first_of first_that
    first_other h = first_behind (same_owner ws j) xs (k ∷ []) e z ∙ first_later (same_owner ws j) k [] h

-- ---- members of a list that gets one lock more

module _ (xs : List ℕ) (k : ℕ) where
  pub more_new : 1 ≤ count k (xs ++ (k ∷ []))
  more_new = omega (arith, count_append k xs (k ∷ []), count_same k [])

  module _ (b : ℕ) where
    pub more_kept : 1 ≤ count b xs → 1 ≤ count b (xs ++ (k ∷ []))
    more_kept m = omega (arith, count_append b xs (k ∷ []))

    pub more_old : b ≢ k → 1 ≤ count b (xs ++ (k ∷ [])) → 1 ≤ count b xs
    more_old n m = omega (arith, count_append b xs (k ∷ []), count_other b k [] n, count_nil b)

-- ---- places on a list

before_apart : (k : ℕ) (xs : List ℕ) → count k (before k xs) ≡ 0
before_apart k [] = unfold before in count_nil k
before_apart k (x ∷ xs) =
    by_equal k x
    (λ e. rw (before_here k x xs e) (count_nil k))
    (λ e. rw (before_past k x xs e, count_other k x (before k xs) e) (before_apart k xs))

before_less : (j k : ℕ) (xs : List ℕ) → 1 ≤ count j (before k xs) → length (before j xs) < length (before k xs)
before_less j k [] m = let m' : 1 ≤ count j [] = unfold before in m in absurd (omega (arith, count_nil j))
before_less j k (x ∷ xs) m =
    by_equal k x
    (λ e. absurd (omega (arith, count_nil j, rw (before_here k x xs e) at m)))
    (λ e. rw (before_past k x xs e)
    (by_equal j x
    (λ d. rw (before_here j x xs d) (omega arith))
    (λ d. rw (before_past j x xs d) (omega (arith, before_less j k xs (rw (before_past k x xs e, count_other j x (before k xs) d) at m))))))

before_none : (k : ℕ) (xs : List ℕ) → count k xs ≡ 0 → before k xs ≡ xs
before_none k [] z = unfold before in refl
before_none k (x ∷ xs) z =
    by_equal k x
    (λ e. absurd (omega (arith, rw (e, count_same) at z)))
    (λ e. before_past k x xs e ∙ ap (λ ys. x ∷ ys) (before_none k xs (rw (count_other k x xs e) at z)))

-- ---- the blocked locks that are passed

module _ (ws : List ℕ) (s : Some Core ws) where
  pub none_blocked : count 0 (seen ws).blocked ≡ 0
  none_blocked = rw (some_alike ws s).stopped (s.good.linked blocked 0)

  blocked_once : (k : ℕ) → count k (seen ws).blocked ≤ 1
  blocked_once k = rw (some_alike ws s).stopped (chain_once s.state s.good.linked blocked k)

module _ (ws : List ℕ) (k : ℕ) where
  pub passed_apart : count k (passed ws k) ≡ 0
  unfolding passed
  passed_apart = before_apart k (seen ws).blocked

  pub passed_less : (j : ℕ) → 1 ≤ count j (passed ws k) → place_of ws j < place_of ws k
  unfolding passed place_of
  passed_less j m = before_less j k (seen ws).blocked m

  -- k itself is as far as its owner's number can be
  pub number_up_to : 1 ≤ count k (seen ws).blocked → owner_number ws k ≡ first_of ws k (passed ws k ++ (k ∷ []))
  unfolding owner_number first_of passed
  number_up_to m = first_up_to (same_owner ws k) k (seen ws).blocked (own_owner ws k) m

-- a walk along the blocked chain is at k, and has passed all before it
pub record Standing (ws : List ℕ) (k : ℕ) : Type 0 where
  pub walks : Walking ws 1 k
  pub whole : (seen ws).blocked ≡ passed ws k ++ onward ws 1 k

-- what stands before the head of the rest, if nothing stands twice and nothing is 0
passed_is : (ws : List ℕ) (k : ℕ) (xs : List ℕ) → Walking ws 1 k → (seen ws).blocked ≡ xs ++ onward ws 1 k → passed ws k ≡ xs
unfolding passed
passed_is ws k xs w e =
    by_equal k 0
    (λ z.
    let all : (seen ws).blocked ≡ xs = e ∙ rw (z, walk_ends ws 1) (append-nil xs) in
    rw z (before_none 0 (seen ws).blocked (none_blocked ws w.some) ∙ all))
    (λ n.
    let split : (seen ws).blocked ≡ xs ++ (k ∷ onward ws 1 (word_in ws (of_lock k 1))) = e ∙ ap (λ ys. xs ++ ys) (walk_splits ws 1 k w n) in
    let once : count k xs ≡ 0 = omega (arith, blocked_once ws w.some k, ap (count k) split, count_append k xs (k ∷ onward ws 1 (word_in ws (of_lock k 1))), count_same k (onward ws 1 (word_in ws (of_lock k 1)))) in
    ap (before k) split
    ∙ before_off k xs (k ∷ onward ws 1 (word_in ws (of_lock k 1))) once
    ∙ ap (λ ys. xs ++ ys) (before_here k k (onward ws 1 (word_in ws (of_lock k 1))) refl)
    ∙ append-nil xs)

pub stand_starts : {ws : List ℕ} {k : ℕ} → Some Core ws → k ≡ word_in ws (of_header 5) → (Standing ws k) × (passed ws k ≡ [])
stand_starts {ws} {k} s e =
    let w : Walking ws 1 k = blocked_walks s e in
    let all = blocked_seen ws k s e in
    let none : passed ws k ≡ [] = passed_is ws k [] w (sym all) in
    (record { walks = w; whole = rw none (sym all) }, none)

module _ {ws : List ℕ} {k : ℕ} (i : Standing ws k) where
  module _ (n : k ≢ 0) where
    pub stand_blocked : Blocked ws k
    stand_blocked =
        record {
          some = i.walks.some;
          stands = omega (arith, ap (count k) i.whole, count_append k (passed ws k) (onward ws 1 k), ap (count k) (walk_splits ws 1 k i.walks n), count_same k (onward ws 1 (word_in ws (of_lock k 1))));
        }

    module _ {x : ℕ} (e : x ≡ word_in ws (of_lock k 1)) where
      rest : (seen ws).blocked ≡ (passed ws k ++ (k ∷ [])) ++ onward ws 1 x
      rest =
          i.whole ∙ ap (λ ys. passed ws k ++ ys) (walk_splits ws 1 k i.walks n)
          ∙ sym (append_assoc (passed ws k) (k ∷ []) (onward ws 1 (word_in ws (of_lock k 1)))) ∙ rw (sym e)

      pub stand_passes : passed ws x ≡ passed ws k ++ (k ∷ [])
      stand_passes = passed_is ws x (passed ws k ++ (k ∷ [])) (walk_on i.walks n e) rest

      pub stand_on : Standing ws x
      stand_on = record { walks = walk_on i.walks n e; whole = rest ∙ ap (λ ys. ys ++ onward ws 1 x) (sym stand_passes) }

  pub stand_ends : k ≡ 0 → passed ws k ≡ (seen ws).blocked
  stand_ends z = passed_is ws k (seen ws).blocked i.walks (sym (rw (z, walk_ends ws 1) (append-nil (seen ws).blocked)))
