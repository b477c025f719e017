-- Lock k becomes m: it leaves each chain on which it no longer belongs, its fields become m's, and it joins each on which it newly belongs.
use mathlib.Core.Path.{◌≡◌, refl, sym, ◌∙◌, ap, ap₂, subst}
use mathlib.Core.Logic.{◌≢◌, inr}
use mathlib.Core.Bool.{Bool, true, false}
use mathlib.Core.List.{List, [], ◌∷◌, ◌++◌}
use Prim.Native.Nat.{ℕ, ◌≤◌}
use native.Mathlib.Omega.{arith}
use native.Mathlib.Decide.{ℕ_discrete}
use lib.ListN.{length}
use lib.Dec.{eqb}
use borrow.Author.Tests.{eqb-true}
use Rattle.tables.specs.Lists.{put, remove, next}
use Rattle.tables.specs.State.{Lock, Resource, Tables, lock, resource, blocked_lock, noticed, Queue, blocked, notices, Chain, free_resources, of_locks, LockChain, chain_of, home_at, home, shift}
use Rattle.tables.specs.Layout.{of_lock, place, head, lock_links, lock_fields}
use Rattle.tables.proofs.Cases.{and_left, and_right}
use Rattle.tables.proofs.Numbered.{put_lock, locks_put, lock_put_here, lock_put_other, resource_put_lock, chains_put_lock, lock_by_locks}
use Rattle.tables.specs.Threads.{Absent}
use Rattle.tables.proofs.Links.{removed, without, absent_remove, on_remove, absent_append, on_append, on_end}
use Rattle.tables.specs.Stores.{Counts, words_with, store_run}
use Rattle.tables.specs.Threads.{Present}
use Rattle.tables.proofs.Chains.{chain?, with_queue, chain_same, chain_other, same_locks, resource_rest}
use Rattle.tables.specs.Threads.{Stands}
use Rattle.tables.proofs.WordChanges.{stands, put_lock_words}
use Rattle.tables.proofs.ReadBack.{chain_most}
use Rattle.tables.proofs.Frame.{Homed, homed, in_same, threaded_put_lock}
use Rattle.tables.specs.Stores.{leave_cells, cell_place}
use Rattle.tables.proofs.WordSteps.{join, push, leave, join_is, push_is, leave_is}
use Rattle.tables.specs.Threads.{Sane}
use Rattle.tables.proofs.HomeChange.{sane_leave, sane_join, sane_push, elsewhere, home_short, lifted, sane_lifted, lock_lifted, high_lifted, link_zero, sane_set, present_set, absent_set, stands_set}
use Rattle.tables.specs.Threads.{Seat, Whole}
use Rattle.tables.specs.Stores.{stays, shift_cells, arrive_cells, set_cells, resettle_cells, side_cells, move_cells}

-- k on a chain, where it was and is to be on it or not
unfoldable pub shift_chain : Bool → Bool → Chain → ℕ → Tables → Tables
shift_chain true true c k t = t
shift_chain true false c k t = leave c k t
shift_chain false true c k t = join c k t
shift_chain false false c k t = t

-- k joins a chain, in front or at its end
unfoldable pub arrive : Bool → Chain → ℕ → Tables → Tables
arrive true c k t = push c k t
arrive false c k t = join c k t

-- by whether its home stays
unfoldable pub resettle : Bool → ℕ → Lock → Tables → Tables
resettle true k m t = put_lock k m t
resettle false k m t = arrive (eqb m.state 0) (of_locks (home m)) k (put_lock k m (lifted k t))

-- the two chains beside the homes
unfoldable pub unblock : ℕ → Lock → Tables → Tables
unblock k m t = shift_chain (blocked_lock (lock t k)) (blocked_lock m) (of_locks blocked) k t

unfoldable pub notify : ℕ → Lock → Tables → Tables
unfolding unblock
notify k m t = shift_chain (noticed (lock t k)) (noticed m) (of_locks notices) k (unblock k m t)

unfoldable pub move_steps : ℕ → Lock → Tables → Tables
unfolding notify
move_steps k m t = resettle (stays (lock t k) m) k m (notify k m t)

shift_here : (b d : Bool) (k : ℕ) (xs : List ℕ) → Seat b k xs → Seat d k (shift b d k xs)
unfolding shift
shift_here true true k xs s = s
shift_here true false k xs s = removed k xs
shift_here false true k xs s = on_end k xs
shift_here false false k xs s = s

shift_past : (b d e : Bool) (j k : ℕ) (xs : List ℕ) → j ≢ k → Seat e j xs → Seat e j (shift b d k xs)
unfolding shift
shift_past true true e j k xs n s = s
shift_past true false true j k xs n s = λ a. s (on_remove j k xs n a)
shift_past true false false j k xs n s = absent_remove j k xs s
shift_past false true true j k xs n s = λ a. s (on_append j k xs a)
shift_past false true false j k xs n s = absent_append j k xs s n
shift_past false false e j k xs n s = s

shift_chain_same : (b d : Bool) (c : Chain) (k : ℕ) (t : Tables) → Present t c → chain_of c (shift_chain b d c k t) ≡ shift b d k (chain_of c t)
unfolding shift_chain shift leave join
shift_chain_same true true c k t p = refl
shift_chain_same true false c k t p = chain_same c _ t p
shift_chain_same false true c k t p = chain_same c _ t p
shift_chain_same false false c k t p = refl

shift_chain_other : (b d : Bool) (c : Chain) (k : ℕ) (t : Tables) (e : Chain) → e ≢ c → chain_of e (shift_chain b d c k t) ≡ chain_of e t
unfolding shift_chain leave join
shift_chain_other true true c k t e n = refl
shift_chain_other true false c k t e n = chain_other c e _ t n
shift_chain_other false true c k t e n = chain_other c e _ t n
shift_chain_other false false c k t e n = refl

shift_chain_locks : (b d : Bool) (c : Chain) (k : ℕ) (t : Tables) → (shift_chain b d c k t).locks ≡ t.locks
unfolding shift_chain leave join
shift_chain_locks true true c k t = refl
shift_chain_locks true false c k t = same_locks c _ t
shift_chain_locks false true c k t = same_locks c _ t
shift_chain_locks false false c k t = refl

pub sane_shift : (r l : ℕ) (t : Tables) → Sane r l t → (b d : Bool) (c : Chain) (k : ℕ) → Present t c → Stands t c k → Seat b k (chain_of c t) → Sane r l (shift_chain b d c k t)
unfolding shift_chain
sane_shift r l t h true true c k p s a = h
sane_shift r l t h true false c k p s a = sane_leave r l t h c k p
sane_shift r l t h false true c k p s a = sane_join r l t h c k p a s
sane_shift r l t h false false c k p s a = h

pub shift_words : (ct : Counts) (r l : ℕ) (t : Tables) → Sane r l t → (b d : Bool) (c : Chain) (k : ℕ) → Present t c → length (chain_of c t) ≤ l → Seat b k (chain_of c t)
    → shift_cells b d (cell_place r c) l k (words_with ct t) ≡ words_with ct (shift_chain b d c k t)
unfolding shift_chain shift_cells
shift_words ct r l t h true true c k p n a = refl
shift_words ct r l t h true false c k p n a = leave_is ct t r h.resources c (h.chains c p) l k n a
shift_words ct r l t h false true c k p n a = join_is ct t r h.resources c (h.chains c p) l k n
shift_words ct r l t h false false c k p n a = refl

unfoldable arrived : Bool → ℕ → List ℕ → List ℕ
arrived true k xs = k ∷ xs
arrived false k xs = xs ++ (k ∷ [])

arrived_past : (b : Bool) (j k : ℕ) (xs : List ℕ) → Absent j (arrived b k xs) → Absent j xs
unfolding arrived
arrived_past true j k xs a = a.1
arrived_past false j k xs a = on_append j k xs a

arrived_here : (b : Bool) (k : ℕ) (xs : List ℕ) → Absent k (arrived b k xs) → ⊥
unfolding arrived
arrived_here true k xs a = a.0 refl
arrived_here false k xs a = on_end k xs a

arrive_same : (b : Bool) (c : Chain) (k : ℕ) (t : Tables) → Present t c → chain_of c (arrive b c k t) ≡ arrived b k (chain_of c t)
unfolding arrive push join arrived
arrive_same true c k t p = chain_same c _ t p
arrive_same false c k t p = chain_same c _ t p

arrive_other : (b : Bool) (c : Chain) (k : ℕ) (t : Tables) (d : Chain) → d ≢ c → chain_of d (arrive b c k t) ≡ chain_of d t
unfolding arrive push join
arrive_other true c k t d n = chain_other c d _ t n
arrive_other false c k t d n = chain_other c d _ t n

arrive_locks : (b : Bool) (c : Chain) (k : ℕ) (t : Tables) → (arrive b c k t).locks ≡ t.locks
unfolding arrive push join
arrive_locks true c k t = same_locks c _ t
arrive_locks false c k t = same_locks c _ t

sane_arrive : (r l : ℕ) (t : Tables) → Sane r l t → (b : Bool) (c : Chain) (k : ℕ) → Present t c → Absent k (chain_of c t) → Stands t c k → Sane r l (arrive b c k t)
unfolding arrive
sane_arrive r l t h true c k p a s = sane_push r l t h c k p a s
sane_arrive r l t h false c k p a s = sane_join r l t h c k p a s

arrive_words : (ct : Counts) (r l : ℕ) (t : Tables) → Sane r l t → (b : Bool) (c : Chain) (k : ℕ) → Present t c → length (chain_of c t) ≤ l → Stands t c k
    → arrive_cells b (cell_place r c) l k (words_with ct t) ≡ words_with ct (arrive b c k t)
unfolding arrive arrive_cells
arrive_words ct r l t h true c k p n s = push_is ct t r h.resources c (h.chains c p) k s
arrive_words ct r l t h false c k p n s = join_is ct t r h.resources c (h.chains c p) l k n

-- a lock changes that keeps its home
sane_put_same : (r l : ℕ) (t : Tables) (k : ℕ) (m : Lock) → home m ≡ home (lock t k) → Sane r l t → Sane r l (put_lock k m t)
sane_put_same r l t k m e h =
    record {
      resources = h.resources;
      locks = locks_put t k m ∙ h.locks;
      chains = λ c p. let q = in_same (put_lock k m t) t refl (sym (locks_put t k m)) (head c) p in threaded_put_lock t c k m (λ z. inr e) (h.chains c q);
    }

module _ (r l : ℕ) (t : Tables) (h : Sane r l t) (k : ℕ) (m : Lock) (low : 1 ≤ k) (high : k ≤ l)
    (old : Present t (of_locks (home (lock t k)))) (new : Present t (of_locks (home m))) where
  sane_resettle : (b : Bool) → (b ≡ true → home m ≡ home (lock t k)) → Sane r l (resettle b k m t)
  unfolding resettle
  sane_resettle true e = sane_put_same r l t k m (e refl) h
  sane_resettle false e =
      sane_arrive r l (put_lock k m (lifted k t)) (sane_set r l t h k old m low high new) (eqb m.state 0) (of_locks (home m)) k
      (present_set r l t h k old m low high new) (absent_set r l t h k old m low high new) (stands_set r l t h k old m low high new)

  resettle_locks : (b : Bool) → (resettle b k m t).locks ≡ (put_lock k m t).locks
  unfolding resettle lifted leave
  resettle_locks true = refl
  resettle_locks false =
      arrive_locks (eqb m.state 0) (of_locks (home m)) k (put_lock k m (lifted k t)) ∙ ap (λ (ls : List Lock). put ls k m) (same_locks (of_locks (home (lock t k))) _ t)

  pub lifted_words : (ct : Counts) → (Absent k (chain_of (of_locks (home (lock t k))) t) → ⊥) → leave_cells (cell_place r (of_locks (home (lock t k)))) l k (words_with ct t) ≡ words_with ct (lifted k t)
  unfolding lifted
  lifted_words ct o = leave_is ct t r h.resources (of_locks (home (lock t k))) (h.chains (of_locks (home (lock t k))) old) l k (home_short r l t h (of_locks (home (lock t k))) (homed (lock t k).state (lock t k).resource) old) o

  pub set_words : (ct : Counts) → set_cells r k m (words_with ct (lifted k t)) ≡ words_with ct (put_lock k m (lifted k t))
  unfolding set_cells
  set_words ct =
      sym (put_lock_words ct (lifted k t) k m low (high_lifted r l t h k old m low high new)
      (link_zero r l t h k old m low high new m new ∙ sym (rw (lock_lifted r l t h k old k) (link_zero r l t h k old m low high new (lock t k) old)))
      ∙ ap (λ (n : ℕ). store_run (λ f. place n (of_lock k f)) lock_links (lock_fields m) (words_with ct (lifted k t))) (sane_lifted r l t h k old).resources)

  pub arriving_words : (ct : Counts) → arrive_cells (eqb m.state 0) (cell_place r (of_locks (home m))) l k (words_with ct (put_lock k m (lifted k t))) ≡ words_with ct (resettle false k m t)
  unfolding resettle
  arriving_words ct =
      let s = sane_set r l t h k old m low high new in
      let p = present_set r l t h k old m low high new in
      arrive_words ct r l (put_lock k m (lifted k t)) s (eqb m.state 0) (of_locks (home m)) k p (home_short r l _ s (of_locks (home m)) (homed m.state m.resource) p) (stands_set r l t h k old m low high new)

  pub resettle_words : (ct : Counts) → (b : Bool) → (b ≡ true → home m ≡ home (lock t k)) → (Absent k (chain_of (of_locks (home (lock t k))) t) → ⊥)
      → words_with ct (resettle b k m t) ≡ resettle_cells b r l k (lock t k) m (words_with ct t)
  unfolding resettle resettle_cells set_cells
  resettle_words ct true e o =
      put_lock_words ct t k m low (omega (arith, h.locks)) (ap (λ (c : LockChain). next k (0 ∷ chain_of (of_locks c) t)) (e refl))
      ∙ ap (λ (n : ℕ). store_run (λ f. place n (of_lock k f)) lock_links (lock_fields m) (words_with ct t)) h.resources
  resettle_words ct false e o = sym (rw (lifted_words ct o, set_words ct) (arriving_words ct))

  lifted_here : (j : ℕ) → j ≢ k → Absent j (chain_of (of_locks (home (lock t k))) (lifted k t)) → Absent j (chain_of (of_locks (home (lock t k))) t)
  unfolding lifted leave
  lifted_here j n a = on_remove j k (chain_of (of_locks (home (lock t k))) t) n (rw (chain_same (of_locks (home (lock t k))) (remove k (chain_of (of_locks (home (lock t k))) t)) t old) at a)

  pub lifted_keeps : (c : Chain) (j : ℕ) → j ≢ k → Absent j (chain_of c (lifted k t)) → Absent j (chain_of c t)
  unfolding lifted leave
  lifted_keeps c j n a =
      elim (chain? c (of_locks (home (lock t k)))) [
        | yes e ↦ rw e (lifted_here j n (rw e at a))
        | no d ↦ rw (chain_other (of_locks (home (lock t k))) c _ t d) at a
      ]

  arrive_here : (j : ℕ) → Absent j (chain_of (of_locks (home m)) (arrive (eqb m.state 0) (of_locks (home m)) k (put_lock k m (lifted k t)))) → Absent j (chain_of (of_locks (home m)) (put_lock k m (lifted k t)))
  arrive_here j a = arrived_past (eqb m.state 0) j k _ (rw (arrive_same (eqb m.state 0) (of_locks (home m)) k (put_lock k m (lifted k t)) (present_set r l t h k old m low high new)) at a)

  resettle_keeps : (b : Bool) (c : Chain) (j : ℕ) → j ≢ k → Absent j (chain_of c (resettle b k m t)) → Absent j (chain_of c t)
  unfolding resettle
  resettle_keeps true c j n a = rw (chains_put_lock t k m c) at a
  resettle_keeps false c j n a = lifted_keeps c j n (rw (chains_put_lock (lifted k t) k m c) at off_arrive)
    where
      off_arrive : Absent j (chain_of c (put_lock k m (lifted k t)))
      off_arrive =
          elim (chain? c (of_locks (home m))) [
            | yes e ↦ rw e (arrive_here j (rw e at a))
            | no d ↦ rw (arrive_other (eqb m.state 0) (of_locks (home m)) k (put_lock k m (lifted k t)) c d) at a
          ]

  resettle_here : (b : Bool) → (b ≡ true → home m ≡ home (lock t k)) → (Absent k (chain_of (of_locks (home (lock t k))) t) → ⊥) → Absent k (chain_of (of_locks (home m)) (resettle b k m t)) → ⊥
  unfolding resettle
  resettle_here true e o a = o (subst (λ (c : LockChain). Absent k (chain_of (of_locks c) t)) (e refl) (rw (chains_put_lock t k m (of_locks (home m))) at a))
  resettle_here false e o a =
      arrived_here (eqb m.state 0) k (chain_of (of_locks (home m)) (put_lock k m (lifted k t)))
      (subst (λ (xs : List ℕ). Absent k xs) (arrive_same (eqb m.state 0) (of_locks (home m)) k (put_lock k m (lifted k t)) (present_set r l t h k old m low high new)) a)

  -- the two chains beside the homes stay
  resettle_side : (b : Bool) (c : Chain) → c ≢ of_locks (home m) → c ≢ of_locks (home (lock t k)) → chain_of c (resettle b k m t) ≡ chain_of c t
  unfolding resettle lifted leave
  resettle_side true c p q = chains_put_lock t k m c
  resettle_side false c p q =
      arrive_other (eqb m.state 0) (of_locks (home m)) k (put_lock k m (lifted k t)) c p ∙ chains_put_lock (lifted k t) k m c ∙ chain_other (of_locks (home (lock t k))) c _ t q

pub stays_home : (o m : Lock) → stays o m ≡ true → home m ≡ home o
unfolding stays
stays_home o m e = ap₂ home_at (sym (eqb-true o.state m.state (and_left _ (eqb o.resource m.resource) e))) (sym (eqb-true o.resource m.resource (and_right (eqb o.state m.state) _ e)))

homed_blocked : (c : Chain) → Homed c → c ≢ of_locks blocked
homed_blocked c h e = subst Homed e h

homed_notices : (c : Chain) → Homed c → c ≢ of_locks notices
homed_notices c h e = subst Homed e h

side_short : (r l : ℕ) (t : Tables) → Sane r l t → (length t.blocked ≤ l) × (length t.notices ≤ l)
side_short r l t h = (omega (arith, chain_most t (of_locks blocked) (h.chains (of_locks blocked) (omega arith)), h.locks), omega (arith, chain_most t (of_locks notices) (h.chains (of_locks notices) (omega arith)), h.locks))

module _ (r l : ℕ) (t : Tables) (h : Whole r l t) (k : ℕ) (m : Lock) (low : 1 ≤ k) (high : k ≤ l) (new : Present t (of_locks (home m))) where
  high_locks : k ≤ length t.locks
  high_locks = omega (arith, h.sane.locks)

  pub sane_unblock : Sane r l (unblock k m t)
  unfolding unblock
  sane_unblock = sane_shift r l t h.sane _ _ (of_locks blocked) k (omega arith) (stands t (of_locks blocked) k low (low, high_locks, omega arith) refl) (h.on_blocked k low high)

  high_unblock : k ≤ length (unblock k m t).locks
  high_unblock = omega (arith, sane_unblock.locks)

  pub notices_unblock : (unblock k m t).notices ≡ t.notices
  unfolding unblock
  notices_unblock = shift_chain_other (blocked_lock (lock t k)) (blocked_lock m) (of_locks blocked) k t (of_locks notices) (λ e. let z : ◌≡◌ {A = ℕ} 0 1 = cc in omega arith)

  pub seat_notices : Seat (noticed (lock t k)) k (unblock k m t).notices
  seat_notices = rw notices_unblock (h.on_notices k low high)

  pub sane_notify : Sane r l (notify k m t)
  unfolding notify
  sane_notify = sane_shift r l (unblock k m t) sane_unblock _ _ (of_locks notices) k (omega arith) (stands (unblock k m t) (of_locks notices) k low (low, high_unblock, omega arith) refl) seat_notices

  pub locks_notify : (notify k m t).locks ≡ t.locks
  unfolding notify unblock
  locks_notify = shift_chain_locks (noticed (lock t k)) (noticed m) (of_locks notices) k (unblock k m t) ∙ shift_chain_locks (blocked_lock (lock t k)) (blocked_lock m) (of_locks blocked) k t

  pub lock_unblock : (j : ℕ) → lock (unblock k m t) j ≡ lock t j
  unfolding unblock
  lock_unblock j = lock_by_locks (unblock k m t) t j (shift_chain_locks (blocked_lock (lock t k)) (blocked_lock m) (of_locks blocked) k t)

  pub lock_notify : (j : ℕ) → lock (notify k m t) j ≡ lock t j
  lock_notify j = lock_by_locks (notify k m t) t j locks_notify

  pub homes_notify : (c : Chain) → Homed c → chain_of c (notify k m t) ≡ chain_of c t
  unfolding notify unblock
  homes_notify c x =
      shift_chain_other (noticed (lock t k)) (noticed m) (of_locks notices) k (unblock k m t) c (homed_notices c x)
      ∙ shift_chain_other (blocked_lock (lock t k)) (blocked_lock m) (of_locks blocked) k t c (homed_blocked c x)

  pub present_notify : (c : Chain) → Present t c → Present (notify k m t) c
  present_notify c = in_same t (notify k m t) (sane_notify.resources ∙ sym h.sane.resources) (sane_notify.locks ∙ sym h.sane.locks) (head c)

  pub old_notify : Present (notify k m t) (of_locks (home (lock (notify k m t) k)))
  old_notify = subst (λ (o : Lock). Present (notify k m t) (of_locks (home o))) (sym (lock_notify k)) (present_notify (of_locks (home (lock t k))) (h.homes k low high))

  pub home_notify : (j : ℕ) → 1 ≤ j → j ≤ l → Absent j (chain_of (of_locks (home (lock (notify k m t) j))) (notify k m t)) → ⊥
  home_notify j p q a =
      h.at_home j p q
      (rw (homes_notify (of_locks (home (lock t j))) (homed (lock t j).state (lock t j).resource)) at
      (subst (λ (o : Lock). Absent j (chain_of (of_locks (home o)) (notify k m t))) (lock_notify j) a))

  on_notify : Absent k (chain_of (of_locks (home (lock (notify k m t) k))) (notify k m t)) → ⊥
  on_notify = home_notify k low high

  stays_notify : stays (lock t k) m ≡ true → home m ≡ home (lock (notify k m t) k)
  stays_notify e = stays_home (lock t k) m e ∙ ap home (sym (lock_notify k))

  pub sane_move : Sane r l (move_steps k m t)
  unfolding move_steps
  sane_move = sane_resettle r l (notify k m t) sane_notify k m low high old_notify (present_notify (of_locks (home m)) new) (stays (lock t k) m) stays_notify

  pub locks_move : (move_steps k m t).locks ≡ (put_lock k m t).locks
  unfolding move_steps
  locks_move =
      resettle_locks r l (notify k m t) sane_notify k m low high old_notify (present_notify (of_locks (home m)) new) (stays (lock t k) m)
      ∙ ap (λ (ls : List Lock). put ls k m) locks_notify

  -- the words after each step
  pub unblock_words : (ct : Counts) → shift_cells (blocked_lock (lock t k)) (blocked_lock m) (cell_place r (of_locks blocked)) l k (words_with ct t) ≡ words_with ct (unblock k m t)
  unfolding unblock
  unblock_words ct = shift_words ct r l t h.sane (blocked_lock (lock t k)) (blocked_lock m) (of_locks blocked) k (omega arith) (side_short r l t h.sane).0 (h.on_blocked k low high)

  pub notify_words : (ct : Counts) → shift_cells (noticed (lock t k)) (noticed m) (cell_place r (of_locks notices)) l k (words_with ct (unblock k m t)) ≡ words_with ct (notify k m t)
  unfolding notify
  notify_words ct = shift_words ct r l (unblock k m t) sane_unblock (noticed (lock t k)) (noticed m) (of_locks notices) k (omega arith) (side_short r l _ sane_unblock).1 seat_notices

  pub settle_words : (ct : Counts) → resettle_cells (stays (lock t k) m) r l k (lock t k) m (words_with ct (notify k m t)) ≡ words_with ct (move_steps k m t)
  unfolding move_steps
  settle_words ct =
      sym (resettle_words r l (notify k m t) sane_notify k m low high old_notify (present_notify (of_locks (home m)) new) ct (stays (lock t k) m) stays_notify on_notify
      ∙ ap (λ (o : Lock). resettle_cells (stays (lock t k) m) r l k o m (words_with ct (notify k m t))) (lock_notify k))

  pub move_words : (ct : Counts) → words_with ct (move_steps k m t) ≡ move_cells r l k (lock t k) m (words_with ct t)
  unfolding side_cells move_cells
  move_words ct = rw (unblock_words ct, notify_words ct, settle_words ct)

  -- every lock stands where its fields say
  pub lock_here : lock (move_steps k m t) k ≡ m
  lock_here = lock_by_locks (move_steps k m t) (put_lock k m t) k locks_move ∙ lock_put_here t k m low high_locks

  pub lock_other : (j : ℕ) → j ≢ k → lock (move_steps k m t) j ≡ lock t j
  lock_other j n = lock_by_locks (move_steps k m t) (put_lock k m t) j locks_move ∙ lock_put_other t k m j n

  pub present_move : (c : Chain) → Present t c → Present (move_steps k m t) c
  present_move c = in_same t (move_steps k m t) (sane_move.resources ∙ sym h.sane.resources) (sane_move.locks ∙ sym h.sane.locks) (head c)

  pub blocked_move : (move_steps k m t).blocked ≡ shift (blocked_lock (lock t k)) (blocked_lock m) k t.blocked
  unfolding move_steps notify unblock
  blocked_move =
      resettle_side r l (notify k m t) sane_notify k m low high old_notify (present_notify (of_locks (home m)) new) (stays (lock t k) m) (of_locks blocked)
      (λ e. homed_blocked (of_locks (home m)) (homed m.state m.resource) (sym e)) (λ e. homed_blocked (of_locks (home (lock (notify k m t) k))) (homed (lock (notify k m t) k).state (lock (notify k m t) k).resource) (sym e))
      ∙ shift_chain_other (noticed (lock t k)) (noticed m) (of_locks notices) k (unblock k m t) (of_locks blocked) (λ e. let z : ◌≡◌ {A = ℕ} 0 1 = cc in omega arith)
      ∙ shift_chain_same (blocked_lock (lock t k)) (blocked_lock m) (of_locks blocked) k t (omega arith)

  pub notices_move : (move_steps k m t).notices ≡ shift (noticed (lock t k)) (noticed m) k t.notices
  unfolding move_steps notify
  notices_move =
      resettle_side r l (notify k m t) sane_notify k m low high old_notify (present_notify (of_locks (home m)) new) (stays (lock t k) m) (of_locks notices)
      (λ e. homed_notices (of_locks (home m)) (homed m.state m.resource) (sym e)) (λ e. homed_notices (of_locks (home (lock (notify k m t) k))) (homed (lock (notify k m t) k).state (lock (notify k m t) k).resource) (sym e))
      ∙ shift_chain_same (noticed (lock t k)) (noticed m) (of_locks notices) k (unblock k m t) (omega arith)
      ∙ ap (shift (noticed (lock t k)) (noticed m) k) notices_unblock

  home_move : (j : ℕ) → j ≢ k → (c : Chain) → Homed c → Absent j (chain_of c (move_steps k m t)) → Absent j (chain_of c t)
  unfolding move_steps
  home_move j n c x a =
      rw (homes_notify c x) at
      (resettle_keeps r l (notify k m t) sane_notify k m low high old_notify (present_notify (of_locks (home m)) new) (stays (lock t k) m) c j n a)

  home_here : Absent k (chain_of (of_locks (home m)) (move_steps k m t)) → ⊥
  unfolding move_steps
  home_here = resettle_here r l (notify k m t) sane_notify k m low high old_notify (present_notify (of_locks (home m)) new) (stays (lock t k) m) stays_notify on_notify

  by_lock : (P : ℕ → Lock → Type 0) → P k m → ((j : ℕ) → j ≢ k → P j (lock t j)) → (j : ℕ) → P j (lock (move_steps k m t) j)
  by_lock P p q j =
      elim (ℕ_discrete j k) [
        | yes e ↦ subst (λ (i : ℕ). P i (lock (move_steps k m t) i)) (sym e) (subst (λ (o : Lock). P k o) (sym lock_here) p)
        | no n ↦ subst (λ (o : Lock). P j o) (sym (lock_other j n)) (q j n)
      ]

  pub whole_move : Whole r l (move_steps k m t)
  whole_move =
      record {
        sane = sane_move;
        homes = λ j. by_lock (λ (j : ℕ) (o : Lock). 1 ≤ j → j ≤ l → Present (move_steps k m t) (of_locks (home o))) (λ p q. present_move (of_locks (home m)) new) (λ j n p q. present_move (of_locks (home (lock t j))) (h.homes j p q)) j;
        at_home = λ j. by_lock (λ (j : ℕ) (o : Lock). 1 ≤ j → j ≤ l → Absent j (chain_of (of_locks (home o)) (move_steps k m t)) → ⊥) (λ p q. home_here)
            (λ j n p q a. h.at_home j p q (home_move j n (of_locks (home (lock t j))) (homed (lock t j).state (lock t j).resource) a)) j;
        on_blocked = λ j p q. subst (λ (xs : List ℕ). Seat (blocked_lock (lock (move_steps k m t) j)) j xs) (sym blocked_move) (by_lock (λ (j : ℕ) (o : Lock). 1 ≤ j → j ≤ l → Seat (blocked_lock o) j (shift (blocked_lock (lock t k)) (blocked_lock m) k t.blocked))
            (λ p q. shift_here (blocked_lock (lock t k)) (blocked_lock m) k t.blocked (h.on_blocked k low high))
            (λ j n p q. shift_past (blocked_lock (lock t k)) (blocked_lock m) (blocked_lock (lock t j)) j k t.blocked n (h.on_blocked j p q)) j p q);
        on_notices = λ j p q. subst (λ (xs : List ℕ). Seat (noticed (lock (move_steps k m t) j)) j xs) (sym notices_move) (by_lock (λ (j : ℕ) (o : Lock). 1 ≤ j → j ≤ l → Seat (noticed o) j (shift (noticed (lock t k)) (noticed m) k t.notices))
            (λ p q. shift_here (noticed (lock t k)) (noticed m) k t.notices (h.on_notices k low high))
            (λ j n p q. shift_past (noticed (lock t k)) (noticed m) (noticed (lock t j)) j k t.notices n (h.on_notices j p q)) j p q);
      }

-- sizes as a state has them
pub sane_own : (r l : ℕ) (t : Tables) → Sane r l t → Sane (length t.resources) (length t.locks) t
sane_own r l t h = record { resources = refl; locks = refl; chains = h.chains }

pub whole_own : (r l : ℕ) (t : Tables) → Whole r l t → Whole (length t.resources) (length t.locks) t
whole_own r l t h =
    record {
      sane = sane_own r l t h.sane;
      homes = λ k p q. h.homes k p (omega (arith, h.sane.locks));
      at_home = λ k p q. h.at_home k p (omega (arith, h.sane.locks));
      on_blocked = λ k p q. h.on_blocked k p (omega (arith, h.sane.locks));
      on_notices = λ k p q. h.on_notices k p (omega (arith, h.sane.locks));
    }

-- a home chain but for the new home: k is off it, and nothing else changes
lifted_removes : (r l : ℕ) (t : Tables) (h : Sane r l t) (k : ℕ) (old : Present t (of_locks (home (lock t k)))) (c : Chain) → Homed c → Present t c → chain_of c (lifted k t) ≡ remove k (chain_of c t)
unfolding lifted leave
lifted_removes r l t h k old c x p =
    elim (chain? c (of_locks (home (lock t k)))) [
      | yes e ↦ rw e (chain_same (of_locks (home (lock t k))) (remove k (chain_of (of_locks (home (lock t k))) t)) t old)
      | no n ↦ chain_other (of_locks (home (lock t k))) c _ t n ∙ sym (without k (chain_of c t) (elsewhere t c k x (h.chains c p) (λ e. n (sym e))))
    ]

module _ (r l : ℕ) (t : Tables) (h : Whole r l t) (k : ℕ) (m : Lock) (low : 1 ≤ k) (high : k ≤ l) (new : Present t (of_locks (home m))) where
  resettle_removes : (b : Bool) → (b ≡ true → home m ≡ home (lock (notify k m t) k)) → (c : Chain) → Homed c → Present t c → c ≢ of_locks (home m) → chain_of c (resettle b k m (notify k m t)) ≡ remove k (chain_of c (notify k m t))
  unfolding resettle
  resettle_removes true e c x p n =
      chains_put_lock (notify k m t) k m c
      ∙ sym (without k (chain_of c (notify k m t)) (elsewhere (notify k m t) c k x ((sane_notify r l t h k m low high new).chains c (present_notify r l t h k m low high new c p)) (λ f. n (sym f ∙ ap of_locks (sym (e refl))))))
  resettle_removes false e c x p n =
      arrive_other (eqb m.state 0) (of_locks (home m)) k (put_lock k m (lifted k (notify k m t))) c n
      ∙ chains_put_lock (lifted k (notify k m t)) k m c
      ∙ lifted_removes r l (notify k m t) (sane_notify r l t h k m low high new) k (old_notify r l t h k m low high new) c x (present_notify r l t h k m low high new c p)

  pub move_removes : (c : Chain) → Homed c → Present t c → c ≢ of_locks (home m) → chain_of c (move_steps k m t) ≡ remove k (chain_of c t)
  unfolding move_steps
  move_removes c x p n =
      resettle_removes (stays (lock t k) m) (stays_notify r l t h k m low high new) c x p n ∙ ap (remove k) (homes_notify r l t h k m low high new c x)

  -- the new home: as it was, if k stays there; else k arrives
  resettle_kept : (b : Bool) → b ≡ true → (u : Tables) (c : Chain) → chain_of c (resettle b k m u) ≡ chain_of c u
  unfolding resettle
  resettle_kept true e u c = chains_put_lock u k m c
  resettle_kept false e u c = absurd (let z : ◌≡◌ {A = ℕ} 0 1 = cc in omega arith)

  pub move_keeps : stays (lock t k) m ≡ true → chain_of (of_locks (home m)) (move_steps k m t) ≡ chain_of (of_locks (home m)) t
  unfolding move_steps
  move_keeps e =
      resettle_kept (stays (lock t k) m) e (notify k m t) (of_locks (home m)) ∙ homes_notify r l t h k m low high new (of_locks (home m)) (homed m.state m.resource)

  resettle_arrived : (b : Bool) → b ≡ false → chain_of (of_locks (home m)) (resettle b k m (notify k m t)) ≡ arrived (eqb m.state 0) k (remove k (chain_of (of_locks (home m)) t))
  unfolding resettle
  resettle_arrived true e = absurd (let z : ◌≡◌ {A = ℕ} 0 1 = cc in omega arith)
  resettle_arrived false e =
      let s = sane_notify r l t h k m low high new in
      let o = old_notify r l t h k m low high new in
      let p = present_notify r l t h k m low high new (of_locks (home m)) new in
      arrive_same (eqb m.state 0) (of_locks (home m)) k (put_lock k m (lifted k (notify k m t))) (present_set r l (notify k m t) s k o m low high p)
      ∙ ap (arrived (eqb m.state 0) k)
      (chains_put_lock (lifted k (notify k m t)) k m (of_locks (home m))
      ∙ lifted_removes r l (notify k m t) s k o (of_locks (home m)) (homed m.state m.resource) p
      ∙ ap (remove k) (homes_notify r l t h k m low high new (of_locks (home m)) (homed m.state m.resource)))

  arrived_front : (b : Bool) (xs : List ℕ) → b ≡ true → arrived b k xs ≡ k ∷ xs
  unfolding arrived
  arrived_front b xs e = rw e

  arrived_end : (b : Bool) (xs : List ℕ) → b ≡ false → arrived b k xs ≡ xs ++ (k ∷ [])
  unfolding arrived
  arrived_end b xs e = rw e

  pub move_pushes : stays (lock t k) m ≡ false → eqb m.state 0 ≡ true → chain_of (of_locks (home m)) (move_steps k m t) ≡ k ∷ remove k (chain_of (of_locks (home m)) t)
  unfolding move_steps
  move_pushes e z = resettle_arrived (stays (lock t k) m) e ∙ arrived_front (eqb m.state 0) _ z

  pub move_joins : stays (lock t k) m ≡ false → eqb m.state 0 ≡ false → chain_of (of_locks (home m)) (move_steps k m t) ≡ remove k (chain_of (of_locks (home m)) t) ++ (k ∷ [])
  unfolding move_steps
  move_joins e z = resettle_arrived (stays (lock t k) m) e ∙ arrived_end (eqb m.state 0) _ z

  pub free_resources_move : (move_steps k m t).free_resources ≡ t.free_resources
  unfolding move_steps notify unblock
  free_resources_move =
      resettle_side r l (notify k m t) (sane_notify r l t h k m low high new) k m low high (old_notify r l t h k m low high new)
      (present_notify r l t h k m low high new (of_locks (home m)) new) (stays (lock t k) m) free_resources
      (λ e. let z : ◌≡◌ {A = ℕ} 0 1 = cc in omega arith) (λ e. let z : ◌≡◌ {A = ℕ} 0 1 = cc in omega arith)
      ∙ shift_chain_other (noticed (lock t k)) (noticed m) (of_locks notices) k (unblock k m t) free_resources (λ e. let z : ◌≡◌ {A = ℕ} 0 1 = cc in omega arith)
      ∙ shift_chain_other (blocked_lock (lock t k)) (blocked_lock m) (of_locks blocked) k t free_resources (λ e. let z : ◌≡◌ {A = ℕ} 0 1 = cc in omega arith)

-- what a resource has beside its chains stays
module _ {B : Type 0} (f : Resource → B) (blind : (q : Queue) (xs : List ℕ) (x : Resource) → f (with_queue q xs x) ≡ f x) where
  rest_shift : (b d : Bool) (c : Chain) (k : ℕ) (t : Tables) (r : ℕ) → f (resource (shift_chain b d c k t) r) ≡ f (resource t r)
  unfolding shift_chain leave join
  rest_shift true true c k t r = refl
  rest_shift true false c k t r = resource_rest f blind c _ t r
  rest_shift false true c k t r = resource_rest f blind c _ t r
  rest_shift false false c k t r = refl

  rest_arrive : (b : Bool) (c : Chain) (k : ℕ) (t : Tables) (r : ℕ) → f (resource (arrive b c k t) r) ≡ f (resource t r)
  unfolding arrive push join
  rest_arrive true c k t r = resource_rest f blind c _ t r
  rest_arrive false c k t r = resource_rest f blind c _ t r

  rest_resettle : (b : Bool) (k : ℕ) (m : Lock) (t : Tables) (r : ℕ) → f (resource (resettle b k m t) r) ≡ f (resource t r)
  unfolding resettle lifted leave
  rest_resettle true k m t r = ap f (resource_put_lock t k m r)
  rest_resettle false k m t r =
      rest_arrive (eqb m.state 0) (of_locks (home m)) k (put_lock k m (lifted k t)) r ∙ ap f (resource_put_lock (lifted k t) k m r) ∙ resource_rest f blind (of_locks (home (lock t k))) _ t r

  pub rest_move : (k : ℕ) (m : Lock) (t : Tables) (r : ℕ) → f (resource (move_steps k m t) r) ≡ f (resource t r)
  unfolding move_steps notify unblock
  rest_move k m t r =
      rest_resettle (stays (lock t k) m) k m (notify k m t) r
      ∙ rest_shift (noticed (lock t k)) (noticed m) (of_locks notices) k (unblock k m t) r
      ∙ rest_shift (blocked_lock (lock t k)) (blocked_lock m) (of_locks blocked) k t r
