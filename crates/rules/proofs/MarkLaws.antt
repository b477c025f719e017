-- What each change of a call does to the marks.
use mathlib.Core.Path.{◌≡◌, refl, sym, ap, ◌∙◌}
use mathlib.Core.Logic.{◌≢◌}
use mathlib.Core.Bool.{Bool, true, false, not, cond}
use mathlib.Core.List.{List, [], ◌∷◌, ◌++◌, append_assoc, append-nil}
use Prim.Native.Nat.{ℕ, ◌≤◌}
use native.Mathlib.Omega.{arith}
use lib.ListN.{length}
use lib.Dec.{eqb, leb}
use borrow.Author.Tests.{eqb-true, eq-eqb, ne_eqb, leb-true, leb-false, not-true}
use Rattle.modes.specs.Modes.{compatible}
use Rattle.modes.proofs.Laws.{null_goes}
use Rattle.tables.specs.declared.Lock.{Lock}
use Rattle.tables.specs.Lists.{within, count, keep}
use Rattle.tables.specs.State.{Resource, Tables, no_lock, with_notice, no_resource, lock, resource, unread, noticed, holds, shift, move, move_resource, queue, grants, converts, last_mode}
use Rattle.tables.specs.Grants.{holders, empty}
use Rattle.tables.specs.Validity.{Core}
use Rattle.tables.proofs.Cases.{by_cases, by_equal, clash, and_left, and_right, or_right}
use Rattle.tables.proofs.Counts.{count_same, count_other, count_step, count_nil, count_append, count_keep, keep_cong}
use Rattle.tables.proofs.Valid.{absent_lock, lock_same, lock_other, locks_length}
use Rattle.tables.proofs.ChainMembers.{chain_once, on_grants, on_converts, holder_in, in_holder}
use Rattle.rules.specs.Queues.{granted_lock, grant_lock, grant_while, grant_converts, grant_waits, sweep, free_lock, settle}
use Rattle.rules.specs.Deadlock.{in_the_way, obstacles}
use Rattle.rules.specs.Calls.{leave_value, larger, mark_lock, mark_locks, tell_obstacles, purge_lock, purge_locks, settle_all}
use Rattle.rules.specs.Theorem.{keeps_out}
use Rattle.rules.proofs.NoticesKeepSound.{holder_stands, obstacle_in}

-- NL has nobody in its way
pub hindered_mode : (h m : ℕ) → h ≤ last_mode → not (compatible h m) ≡ true → 1 ≤ m
hindered_mode h m le n =
    by_equal m 0
    (λ z. clash (compatible h m) (rw z (null_goes h le)) (not-true _ n))
    (λ z. omega arith)

-- MARKING locks one after the other: what it does to each lock ..
mark_other : (m i : ℕ) (t : Tables) (j : ℕ) → j ≢ i → lock (mark_lock m i t) j ≡ lock t j
unfolding mark_lock
mark_other m i t j n = lock_other (lock t i).resource i _ t j n

marks_absent : (m : ℕ) (js : List ℕ) (t : Tables) (j : ℕ) → count j js ≡ 0 → lock (mark_locks m js t) j ≡ lock t j
unfolding mark_locks
marks_absent m [] t j z = refl
marks_absent m (i ∷ is) t j z =
    let n : j ≢ i = λ e. omega (arith, rw e at z, count_same i is) in
    marks_absent m is (mark_lock m i t) j (omega (arith, count_other j i is n)) ∙ mark_other m i t j n

marks_set : (m : ℕ) (js : List ℕ) (t : Tables) (j : ℕ) → count j js ≡ 1 → holds (lock t j) ≡ true →
    lock (mark_locks m js t) j ≡ with_notice (lock t j).completion (larger m (lock t j).mark) (lock t j)
unfolding mark_locks
marks_set m [] t j o h = absurd (omega (arith, count_nil j))
marks_set m (i ∷ is) t j o h =
    by_equal j i
    (λ e. let z : count j is ≡ 0 = omega (arith, rw (sym e) at (count_same i is), rw (sym e) at o) in
    marks_absent m is (mark_lock m i t) j z ∙ (rw e (unfold mark_lock in lock_same (lock t i).resource i _ t (holder_stands t i (rw e at h)).0)))
    (λ n. let same = mark_other m i t j n in
    marks_set m is (mark_lock m i t) j (sym (count_other j i is n) ∙ o) (rw same h) ∙ (rw same))

-- .. and to the notice chain: who did not stand there joins it in order
pub larger_first : (a b : ℕ) → a ≤ larger a b
unfolding larger
larger_first a b = by_cases (leb a b) (λ h. rw h (leb-true a b h)) (λ h. rw h (omega arith))

pub larger_second : (a b : ℕ) → b ≤ larger a b
unfolding larger
larger_second a b = by_cases (leb a b) (λ h. rw h (omega arith)) (λ h. rw h (omega (arith, leb-false a b h)))

pub mark_chain : (m j : ℕ) (t : Tables) → 1 ≤ m → (mark_lock m j t).notices ≡ shift (noticed (lock t j)) true j t.notices
unfolding mark_lock move
mark_chain m j t p =
    let a = larger m (lock t j).mark in
    let q : noticed (with_notice (lock t j).completion a (lock t j)) ≡ true = or_right (unread (lock t j)) _ (rw (ne_eqb a 0 (omega (arith, larger_first m (lock t j).mark)))) in
    ap (λ (b : Bool). shift (noticed (lock t j)) b j t.notices) q

abbrev pub unnoticed : Tables → ℕ → Bool
unnoticed t j = not (noticed (lock t j))

keep_first : (p : ℕ → Bool) (i : ℕ) (is : List ℕ) (b : Bool) → p i ≡ b → keep p (i ∷ is) ≡ cond b (i ∷ keep p is) (keep p is)
unfolding keep
keep_first p i is b e = rw e

pub marks_chain : (m : ℕ) (js : List ℕ) (t : Tables) → ((j : ℕ) → count j js ≤ 1) → ((j : ℕ) → 1 ≤ count j js → 1 ≤ m) →
    (mark_locks m js t).notices ≡ t.notices ++ keep (unnoticed t) js
unfolding mark_locks
marks_chain m [] t once some = unfold keep in sym (append-nil t.notices)
marks_chain m (i ∷ is) t once some =
    marks_chain m is t1 rest (λ j c. some j (omega (arith, count_step j i is)))
    ∙ (rw same_keep (by_cases (noticed (lock t i))
    (λ n. rw (mark_chain m i t low, n, keep_first (unnoticed t) i is false (rw n)) (unfold shift in refl))
    (λ n. rw (mark_chain m i t low, n, keep_first (unnoticed t) i is true (rw n)) (unfold shift in append_assoc t.notices (i ∷ []) (keep (unnoticed t) is)))))
  where
    t1 : Tables
    t1 = mark_lock m i t

    low : 1 ≤ m
    low = some i (rw count_same (omega arith))

    rest : (j : ℕ) → count j is ≤ 1
    rest j = omega (arith, once j, count_step j i is)

    same : (j : ℕ) → 1 ≤ count j is → lock t1 j ≡ lock t j
    same j c = mark_other m i t j (λ e. omega (arith, once i, count_same i is, rw e at c))

    same_keep : keep (unnoticed t1) is ≡ keep (unnoticed t) is
    same_keep = keep_cong (unnoticed t1) (unnoticed t) is (λ j c. rw (same j c))

-- WHO IS MARKED: whoever keeps_out the lock k, in the theorem's words, is one of its obstacles, once
holders_once : (t : Tables) → Core t → (r j : ℕ) → count j (holders t r) ≤ 1
unfolding holders
holders_once t c r j =
    let a : count j (resource t r).grant ≤ 1 = chain_once t c.linked (queue r grants) j in
    let b : count j (resource t r).convert ≤ 1 = chain_once t c.linked (queue r converts) j in
    rw count_append
    (by_cases (leb 1 (count j (resource t r).grant))
    (λ p. by_cases (leb 1 (count j (resource t r).convert))
    (λ q. absurd (omega (arith, eqb-true (lock t j).state 1 (on_grants t c.linked r j (leb-true 1 (count j (resource t r).grant) p)).0, eqb-true (lock t j).state 2 (on_converts t c.linked r j (leb-true 1 (count j (resource t r).convert) q)).0)))
    (λ q. omega (arith, leb-false 1 (count j (resource t r).convert) q)))
    (λ p. omega (arith, leb-false 1 (count j (resource t r).grant) p)))

module _ (t : Tables) (c : Core t) (k : ℕ) where
  abbrev r : ℕ
  r = (lock t k).resource

  abbrev m : ℕ
  m = (lock t k).asked

  pub obstacle_once : (j : ℕ) → count j (obstacles t k) ≤ 1
  unfolding obstacles
  obstacle_once j =
      let e = count_keep (in_the_way t k) j (holders t r) in
      by_cases (in_the_way t k j)
      (λ b. omega (arith, holders_once t c r j, rw b at e))
      (λ b. omega (arith, rw b at e))

  pub keeps_out_way : (j : ℕ) → 1 ≤ count j (holders t r) → keeps_out r k m j (lock t j) ≡ in_the_way t k j
  unfolding in_the_way
  keeps_out_way j i = let h = in_holder t c.linked r j i in rw (h.0, eq-eqb (lock t j).resource r h.1)

  obstacle_keeps : (j : ℕ) → keeps_out r k m j (lock t j) ≡ true → (holds (lock t j) ≡ true) × (count j (obstacles t k) ≡ 1)
  unfolding obstacles
  obstacle_keeps j h =
      let a = and_right (not (eqb j k)) _ h in
      let held = and_left (holds (lock t j)) _ a in
      let i = holder_in t c.linked r j held (eqb-true (lock t j).resource r (and_left _ _ (and_right (holds (lock t j)) _ a))) in
      (held, count_keep (in_the_way t k) j (holders t r) ∙ (rw (sym (keeps_out_way j i) ∙ h) (omega (arith, holders_once t c r j, i))))

  keeps_no_obstacle : (j : ℕ) → keeps_out r k m j (lock t j) ≡ false → count j (obstacles t k) ≡ 0
  keeps_no_obstacle j h =
      by_cases (leb 1 (count j (obstacles t k)))
      (λ p. let o = obstacle_in t k j (leb-true 1 (count j (obstacles t k)) p) in
      clash (in_the_way t k j) o.1 (sym (keeps_out_way j o.0) ∙ h))
      (λ p. omega (arith, leb-false 1 (count j (obstacles t k)) p))

  pub tell_set : (j : ℕ) → keeps_out r k m j (lock t j) ≡ true → lock (tell_obstacles k t) j ≡ with_notice (lock t j).completion (larger m (lock t j).mark) (lock t j)
  unfolding tell_obstacles
  tell_set j h = let o = obstacle_keeps j h in marks_set m (obstacles t k) t j o.1 o.0

  pub tell_not : (j : ℕ) → keeps_out r k m j (lock t j) ≡ false → lock (tell_obstacles k t) j ≡ lock t j
  unfolding tell_obstacles
  tell_not j h = marks_absent m (obstacles t k) t j (keeps_no_obstacle j h)

-- THE REST. A lock that is still its client's keeps its mark
abbrev pub Steady : Tables → Tables → Type 0
Steady t t' = (j : ℕ) → (lock t' j).client ≢ 0 → ((lock t' j).client ≡ (lock t j).client) × ((lock t' j).mark ≡ (lock t j).mark)

pub steady_same : (t : Tables) → Steady t t
steady_same t j n = (refl, refl)

pub steady_then : (t t1 t2 : Tables) → Steady t t1 → Steady t1 t2 → Steady t t2
steady_then t t1 t2 a b j n =
    let p = b j n in
    let q = a j (λ z. n (p.0 ∙ z)) in
    (p.0 ∙ q.0, p.1 ∙ q.1)

pub steady_move : (r k : ℕ) (m : Lock) (t : Tables) → (m.client ≢ 0 → (m.client ≡ (lock t k).client) × (m.mark ≡ (lock t k).mark)) → Steady t (move r k m t)
steady_move r k m t h j n =
    by_equal j k
    (λ e. by_cases (within (length t.locks) k)
    (λ w. rw (e, lock_same r k m t w) (h (rw (e, lock_same r k m t w) at n)))
    (λ w. absurd (n (rw e (ap (λ (l : Lock). l.client) (absent_lock (move r k m t) k (rw (locks_length r k m t) w)))))))
    (λ q. rw (lock_other r k m t j q) (refl, refl))

steady_resource : (r : ℕ) (x : Resource) (t : Tables) → Steady t (move_resource r x t)
unfolding lock move_resource
steady_resource r x t j n = (refl, refl)

steady_grant : (r k : ℕ) (t : Tables) → Steady t (grant_lock r k t)
unfolding grant_lock granted_lock
steady_grant r k t = steady_move r k (granted_lock (lock t k)) t (λ n. (refl, refl))

steady_while : (g : Tables → ℕ → ℕ → Bool) (r : ℕ) (ks : List ℕ) (t : Tables) → Steady t (grant_while g r ks t)
unfolding grant_while
steady_while g r [] t = steady_same t
steady_while g r (k ∷ ks) t =
    by_cases (g t r k)
    (λ b. rw (b, grant_while) (steady_then t (grant_lock r k t) _ (steady_grant r k t) (steady_while g r ks (grant_lock r k t))))
    (λ b. rw (b, grant_while) (steady_same t))

pub steady_sweep : (r : ℕ) (t : Tables) → Steady t (sweep r t)
unfolding sweep grant_converts grant_waits
steady_sweep r t = steady_then t (grant_converts r t) _ (steady_while _ r _ t) (steady_while _ r _ (grant_converts r t))

pub steady_free : (k : ℕ) (t : Tables) → Steady t (free_lock k t)
unfolding free_lock
steady_free k t = steady_move (lock t k).resource k no_lock t (λ n. absurd (n refl))

pub steady_settle : (r : ℕ) (t : Tables) → Steady t (settle r t)
unfolding settle
steady_settle r t =
    by_cases (empty (resource t r))
    (λ h. rw (h, settle) (steady_resource r no_resource t))
    (λ h. rw (h, settle) (steady_sweep r t))

pub leave_lock : (b : Bool) (f : ℕ) (v : List ℕ) (r : ℕ) (t : Tables) (j : ℕ) → lock (leave_value b f v r t) j ≡ lock t j
unfolding leave_value lock move_resource
leave_lock true f v r t j = refl
leave_lock false f v r t j = refl

pub steady_leave : (b : Bool) (f : ℕ) (v : List ℕ) (r : ℕ) (t : Tables) → Steady t (leave_value b f v r t)
steady_leave b f v r t j n = rw (leave_lock b f v r t j) (refl, refl)

pub steady_purge : (ks : List ℕ) (t : Tables) → Steady t (purge_locks ks t)
unfolding purge_locks purge_lock
steady_purge [] t = steady_same t
steady_purge (k ∷ ks) t =
    steady_then t (purge_lock k t) _ (steady_then t _ _ (steady_leave _ 2 [] _ t) (steady_free k _)) (steady_purge ks (purge_lock k t))

pub steady_all : (rs : List ℕ) (t : Tables) → Steady t (settle_all rs t)
unfolding settle_all
steady_all [] t = steady_same t
steady_all (r ∷ rs) t = steady_then t (settle r t) _ (steady_settle r t) (steady_all rs (settle r t))
