-- A weight is a number for each lock's record. Calls keep the weight of all locks but their own, lock by lock; added up over all locks, weights are what
-- both sums of the queue theorem count.
use mathlib.Core.Path.{◌≡◌, refl, sym, ◌∙◌}
use mathlib.Core.Bool.{Bool, true, false, ◌&&◌, not, cond}
use mathlib.Core.List.{List, [], ◌∷◌}
use Prim.Native.Nat.{ℕ, ◌+◌, ◌≤◌}
use native.Mathlib.Omega.{arith}
use lib.ListN.{length}
use lib.Dec.{eqb}
use borrow.Author.Tests.{eqb-true, ne_eqb}
use Rattle.tables.specs.declared.Lock.{Lock}
use Rattle.tables.specs.Lists.{within, count, bit, keep, from}
use Rattle.tables.specs.State.{Tables, no_lock, with_notice, lock, converting, blocked_lock, unread, move}
use Rattle.tables.proofs.Cases.{by_cases, by_equal, eqb_same}
use Rattle.tables.proofs.Counts.{count_same, count_other, count_step, count_nil, count_from}
use Rattle.tables.specs.Validity.{used, Core}
use Rattle.tables.proofs.Valid.{ok_at, lock_same, lock_other}
use Rattle.rules.specs.Queues.{granted_lock}
use Rattle.rules.specs.Calls.{how_many}
use Rattle.rules.specs.Heard.{is_open}

-- NUMBERS over a list of locks
unfoldable pub sum_over : (ℕ → ℕ) → List ℕ → ℕ
sum_over h [] = 0
sum_over h (k ∷ ks) = h k + sum_over h ks

pub sum_same : (g h : ℕ → ℕ) (ks : List ℕ) → ((j : ℕ) → 1 ≤ count j ks → g j ≡ h j) → sum_over g ks ≡ sum_over h ks
unfolding sum_over
sum_same g h [] e = refl
sum_same g h (k ∷ ks) e =
    omega (arith, e k (rw count_same (omega arith)), sum_same g h ks (λ j i. e j (omega (arith, count_step j k ks))))

pub sum_both : (g h : ℕ → ℕ) (ks : List ℕ) → sum_over (λ j. g j + h j) ks ≡ sum_over g ks + sum_over h ks
unfolding sum_over
sum_both g h [] = refl
sum_both g h (k ∷ ks) = omega (arith, sum_both g h ks)

pub sum_none : (ks : List ℕ) → sum_over (λ j. 0) ks ≡ 0
unfolding sum_over
sum_none [] = refl
sum_none (k ∷ ks) = omega (arith, sum_none ks)

-- how many pass a test
pub sum_bits : (p : ℕ → Bool) (ks : List ℕ) → length (keep p ks) ≡ sum_over (λ j. bit (p j)) ks
unfolding sum_over keep
sum_bits p [] = refl
sum_bits p (k ∷ ks) = by_cases (p k) (λ e. rw e (omega (arith, sum_bits p ks))) (λ e. rw e (omega (arith, sum_bits p ks)))

pub how_many_step : (p : Lock → Bool) (k : ℕ) (ks : List ℕ) (t : Tables) → how_many p (k ∷ ks) t ≡ bit (p (lock t k)) + how_many p ks t
unfolding how_many keep
how_many_step p k ks t = by_cases (p (lock t k)) (λ h. rw h (omega arith)) (λ h. rw h (omega arith))

-- those that pass it, taken out
pub sum_kept : (p : ℕ → Bool) (h : ℕ → ℕ) (ks : List ℕ) → sum_over (λ j. cond (p j) 0 (h j)) ks + sum_over h (keep p ks) ≡ sum_over h ks
unfolding sum_over keep
sum_kept p h [] = refl
sum_kept p h (k ∷ ks) = by_cases (p k) (λ e. rw e (omega (arith, sum_kept p h ks))) (λ e. rw e (omega (arith, sum_kept p h ks)))

-- one of them changes
module _ (k x : ℕ) (h : ℕ → ℕ) where
  abbrev changed : ℕ → ℕ
  changed j = cond (eqb j k) x (h j)

  unchanged : (ks : List ℕ) → count k ks ≡ 0 → sum_over changed ks ≡ sum_over h ks
  unchanged ks z = sum_same changed h ks (λ j m. rw (ne_eqb j k (λ e. omega (arith, z, rw e at m))))

  sum_changed : (ks : List ℕ) → count k ks ≡ 1 → sum_over changed ks + h k ≡ sum_over h ks + x
  unfolding sum_over
  sum_changed [] e = absurd (omega (arith, rw (count_nil k) at e))
  sum_changed (j ∷ ks) e =
      by_equal j k
      (λ q. rw (q, eqb_same k) (omega (arith, unchanged ks (omega (arith, rw (q, count_same) at e)))))
      (λ n. rw (ne_eqb j k n) (omega (arith, sum_changed ks (sym (count_other k j ks (λ q. n (sym q))) ∙ e))))

-- WEIGHTS. All locks' weights added up
unfoldable pub weight : (Lock → ℕ) → Tables → ℕ
weight f t = sum_over (λ j. f (lock t j)) (from 1 (length t.locks))

-- a weight that a grant and a mark leave as it is, and that a free lock doesn't have
pub record Steady (f : Lock → ℕ) : Type 0 where
  pub grants : (l : Lock) → blocked_lock l ≡ true → l.completion ≡ 0 → f (granted_lock l) ≡ f l
  pub marks : (m : ℕ) (l : Lock) → f (with_notice l.completion m l) ≡ f l
  pub none : f no_lock ≡ 0

-- in every steady weight each lock of the state is what g says
abbrev pub Weighs : (ℕ → Lock) → Tables → Type 0
Weighs g t = (f : Lock → ℕ) → Steady f → (j : ℕ) → f (lock t j) ≡ f (g j)

pub weighs_same : (t : Tables) → Weighs (lock t) t
weighs_same t f s j = refl

pub weighs_then : (g : ℕ → Lock) (t t' : Tables) → Weighs g t → Weighs (lock t) t' → Weighs g t'
weighs_then g t t' a b f s j = b f s j ∙ a f s j

-- the lock k is m, and the others are as they are
abbrev pub instead : ℕ → Lock → Tables → ℕ → Lock
instead k m t j = cond (eqb j k) m (lock t j)

pub move_instead : (r k : ℕ) (m : Lock) (t : Tables) → within (length t.locks) k ≡ true → (j : ℕ) → lock (move r k m t) j ≡ instead k m t j
move_instead r k m t w j =
    by_equal j k
    (λ e. rw (e, eqb_same k) (lock_same r k m t w))
    (λ n. rw (ne_eqb j k n) (lock_other r k m t j n))

pub weight_instead : (f : Lock → ℕ) → Steady f → (k : ℕ) (m : Lock) (t t' : Tables) → within (length t.locks) k ≡ true → length t'.locks ≡ length t.locks →
    Weighs (instead k m t) t' → weight f t' + f (lock t k) ≡ weight f t + f m
unfolding weight
weight_instead f s k m t t' w e a =
    let ks = from 1 (length t.locks) in
    rw e
    (omega (
      arith,
      sum_same (λ j. f (lock t' j)) (λ j. cond (eqb j k) (f m) (f (lock t j))) ks (λ j i. a f s j ∙ pushed j),
      sum_changed k (f m) (λ j. f (lock t j)) ks (count_from (length t.locks) k ∙ rw w),
    ))
  where
    pushed : (j : ℕ) → f (instead k m t j) ≡ cond (eqb j k) (f m) (f (lock t j))
    pushed j = by_cases (eqb j k) (λ h. rw h) (λ h. rw h)

-- how many locks pass a test
pub weight_bits : (p : Lock → Bool) (t : Tables) → length (keep (λ k. p (lock t k)) (from 1 (length t.locks))) ≡ weight (λ l. bit (p l)) t
unfolding weight
weight_bits p t = sum_bits (λ k. p (lock t k)) (from 1 (length t.locks))

-- a blocked lock of a sound state has no completion, so a grant leaves its weight
pub blocked_silent : (t : Tables) → Core t → (k : ℕ) → blocked_lock (lock t k) ≡ true → (lock t k).completion ≡ 0
blocked_silent t c k b =
    by_cases (converting (lock t k))
    (λ h. (ok_at (used t) (lock t k) 2 (c.lock_ok k) h).notice)
    (λ h. (ok_at (used t) (lock t k) 3 (c.lock_ok k) (rw h at b)).notice)

-- IN USE
abbrev pub used_bit : Lock → ℕ
used_bit l = bit (not (eqb l.state 0))

pub blocked_used : (l : Lock) → blocked_lock l ≡ true → used_bit l ≡ 1
blocked_used l b = by_cases (converting l) (λ h. rw (eqb-true l.state 2 h)) (λ h. rw (eqb-true l.state 3 (rw h at b)))

pub steady_use : Steady used_bit
unfolding granted_lock
steady_use = record { grants = λ l b e. sym (blocked_used l b); marks = λ m l. refl; none = refl }

-- OPEN: a lock is blocked, or its completion unread. A grant ends a wait, and leaves a completion.
pub steady_open : Steady (λ l. bit (is_open l))
unfolding granted_lock
steady_open = record { grants = λ l b e. rw b; marks = λ m l. refl; none = refl }

-- .. the same as two terms, as the sum has them; and of some clients' locks alone
abbrev pub owed : Lock → ℕ
owed l = bit (blocked_lock l) + bit (unread l)

unfoldable pub owes : (ℕ → Bool) → Lock → ℕ
owes who l = cond (who l.client) (owed l) 0

-- nothing is nobody's
pub cond_none : (b : Bool) → ◌≡◌ {A = ℕ} (cond b 0 0) 0
cond_none true = refl
cond_none false = refl

pub steady_owes : (who : ℕ → Bool) → Steady (owes who)
unfolding owes granted_lock
steady_owes who = record { grants = λ l b e. rw (b, e); marks = λ m l. refl; none = cond_none (who 0) }

pub weight_owes : (who : ℕ → Bool) (t : Tables) →
    weight (owes who) t ≡ weight (λ l. bit (who l.client && blocked_lock l)) t + weight (λ l. bit (who l.client && unread l)) t
unfolding weight
weight_owes who t =
    let ks = from 1 (length t.locks) in
    sum_same (λ j. owes who (lock t j)) (λ j. bit (who (lock t j).client && blocked_lock (lock t j)) + bit (who (lock t j).client && unread (lock t j))) ks (λ j i. parts (lock t j))
    ∙ sum_both _ _ ks
  where
    parts : (l : Lock) → owes who l ≡ bit (who l.client && blocked_lock l) + bit (who l.client && unread l)
    parts l = unfold owes in by_cases (who l.client) (λ h. rw h) (λ h. rw h)
