-- A lock's notice changes, its completion or its mark, and the state stays sound. Marking does so to one lock after the other.
use mathlib.Core.Path.{◌≡◌, refl, ap, ◌∙◌}
use mathlib.Core.Logic.{◌≢◌}
use mathlib.Core.Bool.{Bool, true, false}
use mathlib.Core.List.{List, [], ◌∷◌}
use Prim.Native.Nat.{ℕ, ◌≤◌}
use native.Mathlib.Omega.{arith}
use lib.ListN.{length}
use lib.Dec.{eqb, leb}
use borrow.Author.Tests.{eqb-true, ne_eqb, not-true}
use Rattle.tables.specs.declared.Lock.{Lock}
use Rattle.tables.specs.Lists.{within, count}
use Rattle.tables.specs.State.{Resource, Tables, with_notice, lock, resource, granted, converting, waiting, holds, shift, relist, move, last_mode}
use Rattle.tables.specs.Grants.{holders, convert_grantable}
use Rattle.tables.specs.Validity.{used, Place, Granted, Converting, LockOk, as_granted, as_converting, Core, line, idle, Valid}
use Rattle.tables.proofs.Cases.{by_cases, by_equal, clash, eqb_same}
use Rattle.tables.proofs.Counts.{count_same, count_step, count_keep}
use Rattle.tables.proofs.StateCases.{ok_numbered}
use Rattle.tables.proofs.Valid.{ok_at, holder_place, modes_low, lock_same, lock_other, resource_same, resource_other, out_of_range, used_move, Fits, core_move}
use Rattle.tables.proofs.ChainMembers.{state_within, in_holder}
use Rattle.rules.specs.Deadlock.{in_the_way, obstacles}
use Rattle.rules.specs.Calls.{larger, mark_lock, mark_locks, tell_obstacles}
use Rattle.rules.proofs.WaitChains.{InOrder, order_before, order_after}
use Rattle.rules.proofs.LockWeights.{weighs_then, instead}
use Rattle.rules.proofs.ChangesKeepSound.{After, unchanged_after, after_same, then_stop, fits_less, grows_move}

-- it stays on the chains of its resource
pub shift_same : (b : Bool) (k : ℕ) (xs : List ℕ) → shift b b k xs ≡ xs
unfolding shift
shift_same true k xs = refl
shift_same false k xs = refl

relist_same : (k : ℕ) (l m : Lock) (x : Resource) → m.state ≡ l.state → relist k l m x ≡ x
unfolding relist
relist_same k l m x e =
    rw e
    (λ i. record {
      name = x.name;
      value = x.value;
      valid = x.valid;
      grant = shift_same (granted l) k x.grant i;
      convert = shift_same (converting l) k x.convert i;
      wait = shift_same (waiting l) k x.wait i;
    })

pub noted_resource : (k e a : ℕ) (t : Tables) → resource (move (lock t k).resource k (with_notice e a (lock t k)) t) (lock t k).resource ≡ resource t (lock t k).resource
noted_resource k e a t =
    let r = (lock t k).resource in
    let m = with_notice e a (lock t k) in
    by_cases (within (length t.resources) r)
    (λ v. resource_same r k m t v ∙ relist_same k (lock t k) m (resource t r) refl)
    (λ v. out_of_range r k m t v)

-- what a lock that holds a mode is, with another notice
placed : (u : ℕ → Bool) (l : Lock) (e a : ℕ) → Place u l → a ≤ last_mode → Place u (with_notice e a l)
placed u l e a p h =
    record { in_use = p.in_use; client_low = p.client_low; client_high = p.client_high; held_mode = p.held_mode; asked_mode = p.asked_mode; mark_mode = h }

pub noted_ok : (u : ℕ → Bool) (l : Lock) (e a : ℕ) → LockOk u l → holds l ≡ true → a ≤ last_mode → (Granted u l → (e ≤ 3) × (e ≢ 2)) → (Converting u l → e ≡ 0) →
    LockOk u (with_notice e a l)
noted_ok u l e a ok h le gr co =
    by_cases (granted l)
    (λ g. let o = ok_at u l 1 ok g in
    as_granted (eqb-true l.state 1 g) (record { place = placed u l e a o.place le; asks = o.asks; notice = (gr o).0; not_denied = (gr o).1 }))
    (λ g. let g2 : converting l ≡ true = rw g at h in
    let o = ok_at u l 2 ok g2 in
    as_converting (eqb-true l.state 2 g2) (record { place = placed u l e a o.place le; notice = co o }))

pub holder_stands : (t : Tables) (k : ℕ) → holds (lock t k) ≡ true → (within (length t.locks) k ≡ true) × (eqb (lock t k).state 0 ≡ false)
holder_stands t k h =
    by_cases (granted (lock t k))
    (λ g. let s = eqb-true (lock t k).state 1 g in (state_within t k 0 s, rw s))
    (λ g. let s = eqb-true (lock t k).state 2 (rw g at h) in (state_within t k 1 s, rw s))

holder_waits_not : (l : Lock) → holds l ≡ true → waiting l ≡ false
holder_waits_not l h = by_cases (granted l) (λ g. rw (eqb-true l.state 1 g)) (λ g. rw (eqb-true l.state 2 (rw g at h)))

module _ (k e a : ℕ) (t : Tables) (val : Valid t) (h : holds (lock t k) ≡ true) (ok : LockOk (used t) (with_notice e a (lock t k))) where
  abbrev r : ℕ
  r = (lock t k).resource

  abbrev m : Lock
  m = with_notice e a (lock t k)

  w : within (length t.locks) k ≡ true
  w = (holder_stands t k h).0

  fit : holds m ≡ true → Fits t r k m.held
  fit z j i q n = val.core.agree j k i q h n

  core1 : Core (move r k m t)
  core1 = core_move r k m t val.core w (λ z. refl) (λ z. refl) ok fit

  same_line : line (move r k m t) r ≡ line t r
  unfolding line
  same_line = rw (noted_resource k e a t)

  same_asked : (j : ℕ) → (lock (move r k m t) j).asked ≡ (lock t j).asked
  same_asked j = by_equal j k (λ q. rw (q, lock_same r k m t w)) (λ n. rw (lock_other r k m t j n))

  still : (qs : List ℕ) → line t r ≡ qs → idle (move r k m t) r (line (move r k m t) r) ≡ true
  unfolding idle convert_grantable
  still [] q = rw (same_line ∙ q)
  still (x ∷ xs) q =
      let f : convert_grantable t r x ≡ false = not-true _ (rw q at (val.settled r).still) in
      rw (same_line ∙ q) (rw (same_asked x, fits_less t (move r k m t) val.core core1 r x (lock t x).asked (grows_move t r k m w (λ o n. (o, refl, refl))) f))

  pub noted_after : After t (move r k m t) (instead k m t)
  noted_after =
      then_stop t val.core r k m (λ q i. val.settled q) w (λ z. refl) (λ z. refl) ok fit (λ z. clash (waiting (lock t k)) z (holder_waits_not (lock t k) h))
      (record { still = still (line t r) refl; peopled = rw (used_move r k m t r, noted_resource k e a t) (val.settled r).peopled })

-- MARKS. A larger of two modes is one
pub larger_le : (a b n : ℕ) → a ≤ n → b ≤ n → larger a b ≤ n
unfolding larger
larger_le a b n p q = by_cases (leb a b) (λ h. rw h q) (λ h. rw h p)

-- what a lock is that is marked, and that marking keeps the core: in the midst of a call the code knows no more
pub marked_ok : (m j : ℕ) (t : Tables) → m ≤ last_mode → Core t → holds (lock t j) ≡ true →
    LockOk (used t) (with_notice (lock t j).completion (larger m (lock t j).mark) (lock t j))
marked_ok m j t le c h =
    let l = lock t j in
    noted_ok (used t) l l.completion (larger m l.mark) (c.lock_ok j) h (larger_le m l.mark last_mode le (holder_place (used t) l (c.lock_ok j) h).mark_mode)
    (λ o. (o.notice, o.not_denied)) (λ o. o.notice)

pub mark_core : (m j : ℕ) (t : Tables) → m ≤ last_mode → Core t → holds (lock t j) ≡ true → Core (mark_lock m j t)
unfolding mark_lock
mark_core m j t le c h =
    core_move (lock t j).resource j _ t c (holder_stands t j h).0 (λ z. refl) (λ z. refl) (marked_ok m j t le c h) (λ z i n q e. c.agree i j n q h e)

mark_after : (m j : ℕ) (t : Tables) → m ≤ last_mode → Valid t → holds (lock t j) ≡ true → After t (mark_lock m j t) (lock t)
unfolding mark_lock
mark_after m j t le val h =
    let l = lock t j in
    let a = larger m l.mark in
    after_same (instead j (with_notice l.completion a l) t) (lock t)
    (λ f s i. by_equal i j (λ e. rw (e, eqb_same j) (s.marks a l)) (λ n. rw (ne_eqb i j n)))
    (noted_after j l.completion a t val h (marked_ok m j t le val.core h))

-- of every lock all but completion and mark stay
pub mark_field : {A : Type 0} (f : Lock → A) → ((e a : ℕ) (l : Lock) → f (with_notice e a l) ≡ f l) → (m j : ℕ) (t : Tables) → holds (lock t j) ≡ true →
    (i : ℕ) → f (lock (mark_lock m j t) i) ≡ f (lock t i)
unfolding mark_lock
mark_field f same m j t h i =
    by_equal i j
    (λ q. rw (q, lock_same (lock t j).resource j _ t (holder_stands t j h).0) (same _ _ (lock t j)))
    (λ n. rw (lock_other (lock t j).resource j _ t i n))

-- .. and of every resource all
pub mark_resource : (m j : ℕ) (t : Tables) (s : ℕ) → resource (mark_lock m j t) s ≡ resource t s
unfolding mark_lock
mark_resource m j t s =
    by_equal s (lock t j).resource
    (λ e. rw e (noted_resource j (lock t j).completion (larger m (lock t j).mark) t))
    (λ n. resource_other (lock t j).resource j _ t s n)

pub marks_resource : (m : ℕ) (js : List ℕ) (t : Tables) (s : ℕ) → resource (mark_locks m js t) s ≡ resource t s
unfolding mark_locks
marks_resource m [] t s = refl
marks_resource m (i ∷ is) t s = marks_resource m is (mark_lock m i t) s ∙ mark_resource m i t s

abbrev AllHold : List ℕ → Tables → Type 0
AllHold js t = (j : ℕ) → 1 ≤ count j js → holds (lock t j) ≡ true

first_holds : (j : ℕ) (js : List ℕ) (t : Tables) → AllHold (j ∷ js) t → holds (lock t j) ≡ true
first_holds j js t h = h j (rw count_same (omega arith))

rest_hold : (m j : ℕ) (js : List ℕ) (t : Tables) → AllHold (j ∷ js) t → AllHold js (mark_lock m j t)
rest_hold m j js t h i c =
    rw (mark_field (λ (l : Lock). holds l) (λ e a l. refl) m j t (first_holds j js t h) i) (h i (omega (arith, count_step i j js)))

marks_state : (m : ℕ) (js : List ℕ) (t : Tables) → AllHold js t → (i : ℕ) → (lock (mark_locks m js t) i).state ≡ (lock t i).state
unfolding mark_locks
marks_state m [] t h i = refl
marks_state m (j ∷ js) t h i =
    marks_state m js (mark_lock m j t) (rest_hold m j js t h) i ∙ mark_field (λ (l : Lock). l.state) (λ e a l. refl) m j t (first_holds j js t h) i

after_trans : (t t1 t2 : Tables) (g : ℕ → Lock) → After t t1 g → After t1 t2 (lock t1) → ((s : ℕ) → InOrder t t2 s) → After t t2 g
after_trans t t1 t2 g a b o =
    record { valid = b.valid; in_order = o; weighs = weighs_then g t1 t2 a.weighs b.weighs; locks_are = b.locks_are ∙ a.locks_are; resources_are = b.resources_are ∙ a.resources_are }

marks_after : (m : ℕ) → m ≤ last_mode → (js : List ℕ) (t : Tables) → Valid t → AllHold js t → After t (mark_locks m js t) (lock t)
unfolding mark_locks
marks_after m le [] t val h = unchanged_after t val
marks_after m le (j ∷ js) t val h =
    let a = mark_after m j t le val (first_holds j js t h) in
    let b = marks_after m le js (mark_lock m j t) a.valid (rest_hold m j js t h) in
    after_trans t (mark_lock m j t) _ (lock t) a b (λ s. order_before t (mark_lock m j t) _ s (ap (λ (x : Resource). x.wait) (mark_resource m j t s)) (b.in_order s))

-- who is in a lock's way holds a mode on its resource
pub obstacle_in : (t : Tables) (k j : ℕ) → 1 ≤ count j (obstacles t k) → (1 ≤ count j (holders t (lock t k).resource)) × (in_the_way t k j ≡ true)
unfolding obstacles
obstacle_in t k j h =
    let e = count_keep (in_the_way t k) j (holders t (lock t k).resource) in
    by_cases (in_the_way t k j)
    (λ b. (omega (arith, h, rw b at e), b))
    (λ b. absurd (omega (arith, h, rw b at e)))

pub told_after : (k : ℕ) (t t1 : Tables) (g : ℕ → Lock) → After t t1 g → After t (tell_obstacles k t1) g
unfolding tell_obstacles
told_after k t t1 g a =
    let c = a.valid.core in
    let m = (lock t1 k).asked in
    let h : AllHold (obstacles t1 k) t1 = λ j i. (in_holder t1 c.linked (lock t1 k).resource j (obstacle_in t1 k j i).0).0 in
    after_trans t t1 _ g a
    (marks_after m (modes_low (used t1) (lock t1 k) (lock t1 k).state (ok_numbered (c.lock_ok k))).1 (obstacles t1 k) t1 a.valid h)
    (λ s. order_after t t1 _ s (ap (λ (x : Resource). x.wait) (marks_resource m (obstacles t1 k) t1 s)) (marks_state m (obstacles t1 k) t1 h) (a.in_order s))
