-- What is read back of the links that were written along a list of locks.
use mathlib.Core.Path.{◌≡◌, refl, sym, ap, ◌∙◌}
use mathlib.Core.Logic.{◌≢◌}
use mathlib.Core.Bool.{cond}
use mathlib.Core.List.{List, [], ◌∷◌, map}
use Prim.Native.Nat.{ℕ, suc, ◌+◌, ◌*◌, ◌≤◌, ◌<◌}
use native.Mathlib.Omega.{arith}
use lib.ListN.{get_or, set, length, length-set}
use lib.Seq.{get_or-set_same, get_or-set_other}
use lib.Dec.{ltb}
use borrow.Author.Tests.{le-ltb, ltb-false}
use Rattle.tables.specs.Lists.{count, first}
use Rattle.tables.specs.State.{Tables, lock}
use Rattle.tables.proofs.Cases.{by_cases, by_equal}
use Rattle.tables.proofs.Counts.{count_nil, count_same, count_other}
use Rattle.rules.specs.Deadlock.{before, obstacles}
use Rattle.deadlock_graph.specs.Hops.{last_or}
use Rattle.deadlock_graph.specs.Links.{link_width, link_of}
use Rattle.deadlock_graph.proofs.LineAhead.{before_here, before_past}
use Rattle.deadlock_graph.proofs.LinkLaws.{link_same, link_lock, link_field}
use Rattle.deadlock_lines.specs.Lines.{few_met, meet, link_one, link_all}

-- ---- the counts

pub length_meet : (m : ℕ) (met : List ℕ) → length (meet m met) ≡ length met
unfolding meet
length_meet m met = by_cases (few_met met m) (λ e. rw e (length-set met m (get_or met m 0 + 1))) (λ e. rw e)

meet_other : (x m : ℕ) (met : List ℕ) → m ≢ x → get_or (meet x met) m 0 ≡ get_or met m 0
unfolding meet
meet_other x m met n = by_cases (few_met met x) (λ e. rw e (get_or-set_other met x m (get_or met x 0 + 1) 0 n)) (λ e. rw e)

-- one more was met: it counts, unless there were two already
meet_same : (m n : ℕ) (met : List ℕ) → m < length met → ltb (get_or (meet m met) m 0 + n) 2 ≡ ltb (get_or met m 0 + suc n) 2
unfolding meet few_met
meet_same m n met l =
    by_cases (ltb (get_or met m 0) 2)
    (λ e.
    let more : get_or met m 0 + 1 + n ≡ get_or met m 0 + suc n = omega arith in
    rw (e, get_or-set_same met m (get_or met m 0 + 1) 0 l) (ap (λ i. ltb i 2) more))
    (λ e.
    let many = ltb-false (get_or met m 0) 2 e in
    rw e (le-ltb (get_or met m 0 + n) 2 (omega (arith, many)) ∙ sym (le-ltb (get_or met m 0 + suc n) 2 (omega (arith, many)))))

meet_one : (x m : ℕ) (ms met : List ℕ) → m < length met → ltb (get_or (meet x met) m 0 + count m ms) 2 ≡ ltb (get_or met m 0 + count m (x ∷ ms)) 2
meet_one x m ms met l =
    by_equal m x
    (λ e. rw (← e, count_same m ms) (meet_same m (count m ms) met l))
    (λ e. rw (meet_other x m met e, count_other m x ms e))

-- ---- the links of one lock

module _ (h k ahead : ℕ) (met : List ℕ) (m : ℕ) (ls : List ℕ) where
  abbrev placed : List ℕ
  placed = set ls (link_width * k + 0) ahead

  pub length_one : length (link_one h k ahead met m ls) ≡ length ls
  unfolding link_one
  length_one =
      by_cases (few_met met m)
      (λ e. rw e (length-set placed (link_width * k + 1) h ∙ length-set ls (link_width * k + 0) ahead))
      (λ e. rw e (length-set ls (link_width * k + 0) ahead))

  one_ahead : link_width * k + 0 < length ls → link_of (link_one h k ahead met m ls) k 0 ≡ ahead
  unfolding link_one
  one_ahead l =
      by_cases (few_met met m)
      (λ e. rw e (link_field placed k 1 h k 0 (omega arith) (omega arith) (omega arith) ∙ link_same ls k 0 ahead l))
      (λ e. rw e (link_same ls k 0 ahead l))

  one_holder : link_width * k + 1 < length ls → link_of (link_one h k ahead met m ls) k 1 ≡ cond (few_met met m) h (link_of ls k 1)
  unfolding link_one
  one_holder l =
      by_cases (few_met met m)
      (λ e. rw e (link_same placed k 1 h (rw (length-set ls (link_width * k + 0) ahead) l)))
      (λ e. rw e (link_field ls k 0 ahead k 1 (omega arith) (omega arith) (omega arith)))

  one_lock : (j g : ℕ) → g < link_width → j ≢ k → link_of (link_one h k ahead met m ls) j g ≡ link_of ls j g
  unfolding link_one
  one_lock j g q n =
      by_cases (few_met met m)
      (λ e. rw e (link_lock placed k 1 h j g (omega arith) q n ∙ link_lock ls k 0 ahead j g (omega arith) q n))
      (λ e. rw e (link_lock ls k 0 ahead j g (omega arith) q n))

  one_field : (j g : ℕ) → 2 ≤ g → g < link_width → link_of (link_one h k ahead met m ls) j g ≡ link_of ls j g
  unfolding link_one
  one_field j g p q =
      by_cases (few_met met m)
      (λ e. rw e (link_field placed k 1 h j g (omega arith) q (omega arith) ∙ link_field ls k 0 ahead j g (omega arith) q (omega arith)))
      (λ e. rw e (link_field ls k 0 ahead j g (omega arith) q (omega arith)))

-- ---- the links of a list of locks

module _ (t : Tables) where
  abbrev asked : ℕ → ℕ
  asked k = (lock t k).asked

  abbrev bar : ℕ → ℕ
  bar k = first (obstacles t k)

  pub length_links : (ahead : ℕ) (met xs ls : List ℕ) → length (link_all t ahead met xs ls) ≡ length ls
  unfolding link_all
  length_links ahead met [] ls = refl
  length_links ahead met (x ∷ xs) ls = length_links x (meet (asked x) met) xs (link_one (bar x) x ahead met (asked x) ls) ∙ length_one (bar x) x ahead met (asked x) ls

  -- the other links stay, and those of the locks that are not on the list
  pub links_field : (ahead : ℕ) (met xs ls : List ℕ) (j g : ℕ) → 2 ≤ g → g < link_width → link_of (link_all t ahead met xs ls) j g ≡ link_of ls j g
  unfolding link_all
  links_field ahead met [] ls j g p q = refl
  links_field ahead met (x ∷ xs) ls j g p q =
      links_field x (meet (asked x) met) xs (link_one (bar x) x ahead met (asked x) ls) j g p q ∙ one_field (bar x) x ahead met (asked x) ls j g p q

  pub links_off : (ahead : ℕ) (met xs ls : List ℕ) (k g : ℕ) → g < link_width → count k xs ≡ 0 → link_of (link_all t ahead met xs ls) k g ≡ link_of ls k g
  unfolding link_all
  links_off ahead met [] ls k g q z = refl
  links_off ahead met (x ∷ xs) ls k g q z =
      by_equal k x
      (λ e. absurd (omega (arith, rw (e, count_same x xs) at z)))
      (λ e. links_off x (meet (asked x) met) xs (link_one (bar x) x ahead met (asked x) ls) k g q (rw (count_other k x xs e) at z) ∙ one_lock (bar x) x ahead met (asked x) ls k g q e)

  -- each on it has the one before it
  pub links_ahead : (ahead : ℕ) (met xs ls : List ℕ) (k : ℕ) → count k xs ≤ 1 → link_width * k + 1 < length ls → 1 ≤ count k xs →
      link_of (link_all t ahead met xs ls) k 0 ≡ last_or ahead (before k xs)
  unfolding link_all
  links_ahead ahead met [] ls k o l m = absurd (omega (arith, count_nil k))
  links_ahead ahead met (x ∷ xs) ls k o l m =
      let ls₁ = link_one (bar x) x ahead met (asked x) ls in
      by_equal k x
      (λ e.
      rw (before_here k x xs e)
      (links_off x (meet (asked x) met) xs ls₁ k 0 (omega arith) (omega (arith, rw (← e, count_same k xs) at o))
      ∙ rw e (one_ahead (bar x) x ahead met (asked x) ls (omega (arith, rw e at l)))))
      (λ e.
      rw (before_past k x xs e)
      (links_ahead x (meet (asked x) met) xs ls₁ k (rw (count_other k x xs e) at o) (rw (length_one (bar x) x ahead met (asked x) ls) l) (rw (count_other k x xs e) at m)))

  -- and the first holder in its way, if fewer than two before it ask for its mode
  pub links_holder : (ahead : ℕ) (met xs ls : List ℕ) (k : ℕ) → asked k < length met → count k xs ≤ 1 → link_width * k + 1 < length ls → 1 ≤ count k xs →
      link_of (link_all t ahead met xs ls) k 1 ≡ cond (ltb (get_or met (asked k) 0 + count (asked k) (map asked (before k xs))) 2) (bar k) (link_of ls k 1)
  unfolding link_all
  links_holder ahead met [] ls k w o l m = absurd (omega (arith, count_nil k))
  links_holder ahead met (x ∷ xs) ls k w o l m =
      let ls₁ = link_one (bar x) x ahead met (asked x) ls in
      by_equal k x
      (λ e.
      let none : get_or met (asked k) 0 + count (asked k) [] ≡ get_or met (asked k) 0 = omega (arith, count_nil (asked k)) in
      rw (before_here k x xs e)
      (links_off x (meet (asked x) met) xs ls₁ k 1 (omega arith) (omega (arith, rw (← e, count_same k xs) at o))
      ∙ rw (none, e) (unfold few_met in one_holder (bar x) x ahead met (asked x) ls (rw e at l))))
      (λ e.
      rw (before_past k x xs e)
      (links_holder x (meet (asked x) met) xs ls₁ k (rw (length_meet (asked x) met) w) (rw (count_other k x xs e) at o) (rw (length_one (bar x) x ahead met (asked x) ls) l) (rw (count_other k x xs e) at m)
      ∙ rw (meet_one (asked x) (asked k) (map asked (before k xs)) met w, one_lock (bar x) x ahead met (asked x) ls k 1 (omega arith) e)))
