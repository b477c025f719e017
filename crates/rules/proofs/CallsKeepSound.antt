-- Every call but request and purge keeps a state sound and the order of those that wait, and what becomes of its lock.
use mathlib.Core.Path.{◌≡◌, refl, ap, ◌∙◌}
use mathlib.Core.Logic.{◌≢◌}
use mathlib.Core.Bool.{Bool, true, false, ◌&&◌, cond}
use mathlib.Core.List.{List, [], ◌∷◌, ◌++◌}
use Prim.Native.Nat.{ℕ, zero, suc, ◌≤◌}
use native.Mathlib.Omega.{arith}
use lib.ListN.{length}
use lib.Dec.{eqb}
use borrow.Author.Tests.{eqb-true, eqb-false}
use Rattle.modes.specs.Modes.{down}
use Rattle.modes.proofs.Laws.{compatible_sym, down_use}
use Rattle.tables.specs.declared.Lock.{Lock}
use Rattle.tables.specs.Lists.{within, count, first_that, null}
use Rattle.tables.specs.State.{Tables, no_lock, denied_lock, lock, resource, granted, converting, waiting, blocked_lock, holds, noticed, shift, relist, move, converts, waits, blocked, notices, queue, completion_none, completion_denied, completion_conversion_denied, last_mode, value_width}
use Rattle.tables.specs.Grants.{convert_grantable, empty}
use Rattle.tables.proofs.Cases.{by_cases, clash, eqb_same, and_left, and_right, or_left, or_right, nor_right}
use Rattle.tables.proofs.Counts.{count_nil, first_in, first_passes, null_nil}
use Rattle.tables.specs.Validity.{used, Place, LockOk, Core, line, idle, Valid, Near, as_granted, as_converting, as_denied}
use Rattle.tables.proofs.StateCases.{StateOk, ok_numbered}
use Rattle.tables.proofs.Valid.{ok_at, holder_place, used_within, lock_same, resource_same, locks_length, Fits, core_move}
use Rattle.tables.proofs.ChainMembers.{state_within, on_chain, chain_has, fits_true}
use Rattle.rules.specs.Queues.{sweep}
use Rattle.rules.specs.Deadlock.{victim}
use Rattle.rules.specs.Calls.{stores, strong, leave_value, held_at, asking, in_place, convert_change, release_change, restored, cancel_change, deny, deny_victim, break, notice_read, take_notice, poll_notice, poll_change}
use Rattle.rules.proofs.LockWeights.{instead}
use Rattle.rules.proofs.ChangesKeepSound.{After, unchanged_after, then_sweep, then_stop, quiet_after, freed_settle, freed_sweep, freed_stop, full_of, granted_full, fits_alone, Grows, grows_move, head_still, head_new, nothing_at_zero}
use Rattle.rules.proofs.NoticesKeepSound.{noted_ok, noted_after, told_after}
use Rattle.rules.proofs.ResourceChanges.{leave_quiet}

-- RELEASE
pub release_after : (k f : ℕ) (v : List ℕ) (t : Tables) → Valid t → granted (lock t k) ≡ true → (stores f ≡ true → length v ≡ value_width) →
    After t (release_change k f v t).tables (instead k no_lock t)
unfolding release_change
release_after k f v t val g right =
    let r = (lock t k).resource in
    let b = strong (lock t k).held in
    let p = (ok_at (used t) (lock t k) 1 (val.core.lock_ok k) g).place in
    let q = leave_quiet b f v r t right (λ z. p.in_use) val.core in
    let t0 = leave_value b f v r t in
    quiet_after t t0 _ k no_lock q
    (freed_settle t0 q.core r k (rw (q.lock_is k)) (λ s n. q.settled s (val.settled s))
    (rw q.locks_are (state_within t k 0 (eqb-true (lock t k).state 1 g)))
    (rw q.resources_are (used_within t r p.in_use)))

-- CANCEL
-- a lock waits for somebody
waited_for : (t : Tables) → Valid t → (r k : ℕ) → 1 ≤ count k (resource t r).wait → (null (resource t r).grant && null (resource t r).convert) ≡ false
unfolding line idle convert_grantable
waited_for t val r k m =
    by_cases (null (resource t r).grant && null (resource t r).convert)
    (λ h. clash _ (val.settled r).still (go (resource t r).wait refl (null_nil _ (and_left _ _ h)) (null_nil _ (and_right (null (resource t r).grant) _ h))))
    (λ h. h)
  where
    go : (ws : List ℕ) → (resource t r).wait ≡ ws → (resource t r).grant ≡ [] → (resource t r).convert ≡ [] → idle t r (line t r) ≡ false
    go [] e a b = absurd (omega (arith, rw (e, count_nil k) at m))
    go (x ∷ xs) e a b = rw (b, e) (rw (fits_alone t r x _ a b))

waiter_gone : (t : Tables) → Valid t → (k : ℕ) (m : Lock) → waiting (lock t k) ≡ true → granted m ≡ false → converting m ≡ false →
    empty (resource (move (lock t k).resource k m t) (lock t k).resource) ≡ false
unfolding empty relist shift
waiter_gone t val k m h g c =
    let r = (lock t k).resource in
    let s = eqb-true (lock t k).state 3 h in
    let gl : granted (lock t k) ≡ false = rw s in
    let cl : converting (lock t k) ≡ false = rw s in
    let u = (ok_at (used t) (lock t k) 3 (val.core.lock_ok k) h).place.in_use in
    let i : 1 ≤ count k (resource t r).wait = omega (arith, chain_has t val.core.linked (queue r waits) k (state_within t k 2 s) (rw (h, eqb_same r))) in
    rw (resource_same r k m t (used_within t r u), gl, g, cl, c, waited_for t val r k i)

pub restored_ok : (u : ℕ → Bool) (l : Lock) (n : ℕ) → Place u l → n ≤ 3 → n ≢ 2 → LockOk u (restored n l)
restored_ok u l n p a b =
    as_granted refl (record {
      place = record { in_use = p.in_use; client_low = p.client_low; client_high = p.client_high; held_mode = p.held_mode; asked_mode = omega arith; mark_mode = p.mark_mode };
      asks = refl;
      notice = a;
      not_denied = b;
    })

restored_after : (n : ℕ) → n ≤ 3 → n ≢ 2 → (k : ℕ) (t : Tables) → Valid t → converting (lock t k) ≡ true →
    After t (sweep (lock t k).resource (move (lock t k).resource k (restored n (lock t k)) t)) (instead k (restored n (lock t k)) t)
restored_after n a b k t val h =
    let r = (lock t k).resource in
    let m = restored n (lock t k) in
    let s = eqb-true (lock t k).state 2 h in
    let w = state_within t k 1 s in
    let p = (ok_at (used t) (lock t k) 2 (val.core.lock_ok k) h).place in
    let ok = restored_ok (used t) (lock t k) n p a b in
    let fit : holds m ≡ true → Fits t r k (lock t k).held = λ z j i q e. val.core.agree j k i q (or_right (granted (lock t k)) _ h) e in
    then_sweep t val.core r k m (λ q i. val.settled q) w (λ z. refl) (λ z. refl) ok fit (λ z. clash (waiting (lock t k)) z (rw s))
    (granted_full t r k m (core_move r k m t val.core w (λ z. refl) (λ z. refl) ok fit) w refl refl)

-- what a lock becomes that is cancelled, by the answer
abbrev pub left_by_cancel : ℕ → Lock → Lock
left_by_cancel a l = cond (eqb a 2) no_lock (restored completion_none l)

pub cancel_after : (k : ℕ) (t : Tables) → Valid t → blocked_lock (lock t k) ≡ true →
    After t (cancel_change k t).tables (instead k (left_by_cancel (cancel_change k t).said.answer (lock t k)) t)
unfolding cancel_change
cancel_after k t val b =
    by_cases (converting (lock t k))
    (λ h. rw (h, cancel_change) (restored_after 0 (omega arith) (omega arith) k t val h))
    (λ h. let a : waiting (lock t k) ≡ true = rw h at b in
    let s = eqb-true (lock t k).state 3 a in
    rw (h, cancel_change)
    (freed_sweep t val.core (lock t k).resource k refl (λ q i. val.settled q) (state_within t k 2 s) (waiter_gone t val k no_lock a refl refl)))

-- POLL
pub noticed_denied : (u : ℕ → Bool) (l : Lock) (s : ℕ) → StateOk u l s → l.completion ≡ 2 → s ≡ 4
noticed_denied u l zero ok e = absurd (omega (arith, ap (λ (x : Lock). x.completion) ok))
noticed_denied u l (suc zero) ok e = absurd (ok.not_denied e)
noticed_denied u l (suc (suc zero)) ok e = absurd (omega (arith, ok.notice))
noticed_denied u l (suc (suc (suc zero))) ok e = absurd (omega (arith, ok.notice))
noticed_denied u l (suc (suc (suc (suc zero)))) ok e = refl
noticed_denied u l (suc (suc (suc (suc (suc n))))) ok e = absurd ok

-- a lock that has a notice, and not that its request was denied, holds a mode
pub noticed_holds : (u : ℕ → Bool) (l : Lock) (s : ℕ) → l.state ≡ s → StateOk u l s → noticed l ≡ true → l.completion ≢ 2 → holds l ≡ true
noticed_holds u l zero q ok h b = clash (noticed l) h (rw ok)
noticed_holds u l (suc zero) q ok h b = rw q
noticed_holds u l (suc (suc zero)) q ok h b = rw q
noticed_holds u l (suc (suc (suc zero))) q ok h b = clash (noticed l) h (rw (ok.notice, ok.no_mark))
noticed_holds u l (suc (suc (suc (suc zero)))) q ok h b = absurd (b ok.notice)
noticed_holds u l (suc (suc (suc (suc (suc n))))) q ok h b = absurd ok

-- what a lock becomes whose notice is taken
abbrev pub left_by_poll : Lock → Lock
left_by_poll l = cond (eqb l.completion completion_denied) no_lock (notice_read l)

taken_after : (k : ℕ) (t : Tables) → Valid t → noticed (lock t k) ≡ true → within (length t.locks) k ≡ true →
    After t (take_notice k t) (instead k (left_by_poll (lock t k)) t)
unfolding take_notice
taken_after k t val h w =
    by_cases (eqb (lock t k).completion 2)
    (λ d. let s = noticed_denied (used t) (lock t k) (lock t k).state (ok_numbered (val.core.lock_ok k)) (eqb-true (lock t k).completion 2 d) in
    let ok = ok_at (used t) (lock t k) 4 (val.core.lock_ok k) (rw s) in
    rw (d, take_notice) (freed_stop t val.core 0 k ok.nowhere (λ q i. val.settled q) w (nothing_at_zero _)))
    (λ d. let g = noticed_holds (used t) (lock t k) (lock t k).state refl (ok_numbered (val.core.lock_ok k)) h (eqb-false _ 2 d) in
    rw (d, take_notice)
    (noted_after k 0 0 t val g (noted_ok (used t) (lock t k) 0 0 (val.core.lock_ok k) g (omega arith) (λ o. (omega arith, omega arith)) (λ o. refl))))

-- the lock of a number becomes what g says; 0 is none
abbrev pub at_number : (Lock → Lock) → ℕ → Tables → ℕ → Lock
at_number g zero t = lock t
at_number g (suc k) t = instead (suc k) (g (lock t (suc k))) t

-- the lock of the client's first notice, or 0
abbrev pub first_notice : ℕ → Tables → ℕ
first_notice c t = first_that (λ k. eqb (lock t k).client c) t.notices

pub first_noticed : (c : ℕ) (t : Tables) → Core t → first_notice c t ≢ 0 →
    (noticed (lock t (first_notice c t)) ≡ true) × ((lock t (first_notice c t)).client ≡ c) × (within (length t.locks) (first_notice c t) ≡ true)
first_noticed c t co z = go (first_notice c t) refl z
  where
    go : (n : ℕ) → first_notice c t ≡ n → n ≢ 0 → (noticed (lock t n) ≡ true) × ((lock t n).client ≡ c) × (within (length t.locks) n ≡ true)
    go zero e i = absurd (i refl)
    go (suc k) e i =
        let o = on_chain t co.linked notices (suc k) (first_in _ t.notices k e) in
        (o.1, eqb-true (lock t (suc k)).client c (first_passes (λ k. eqb (lock t k).client c) t.notices k e), o.0)

pub poll_after : (c : ℕ) (t : Tables) → Valid t →
    After t (poll_change c t).tables (at_number left_by_poll (first_notice c t) t)
unfolding poll_change poll_notice
poll_after c t val = go (first_notice c t) (first_noticed c t val.core)
  where
    go : (n : ℕ) → (n ≢ 0 → (noticed (lock t n) ≡ true) × ((lock t n).client ≡ c) × (within (length t.locks) n ≡ true)) →
        After t (poll_notice n t).tables (at_number left_by_poll n t)
    go zero h = unchanged_after t val
    go (suc k) h = let i = h (omega arith) in taken_after (suc k) t val i.0 i.2

-- BREAK
pub denied_ok : (u : ℕ → Bool) (l : Lock) → LockOk u l → waiting l ≡ true → LockOk u (denied_lock l)
denied_ok u l ok w =
    let o = ok_at u l 3 ok w in
    let p = o.place in
    as_denied refl (record { client_low = p.client_low; client_high = p.client_high; nowhere = refl; holds = refl; asks = refl; notice = refl; no_mark = o.no_mark })

-- what a lock becomes that is denied
abbrev pub left_by_denial : Lock → Lock
left_by_denial l = cond (converting l) (restored completion_conversion_denied l) (denied_lock l)

deny_after : (k : ℕ) (t : Tables) → Valid t → blocked_lock (lock t k) ≡ true → After t (deny k t) (instead k (left_by_denial (lock t k)) t)
unfolding deny
deny_after k t val b =
    by_cases (converting (lock t k))
    (λ h. rw (h, deny) (restored_after 3 (omega arith) (omega arith) k t val h))
    (λ h. let a : waiting (lock t k) ≡ true = rw h at b in
    let s = eqb-true (lock t k).state 3 a in
    let m = denied_lock (lock t k) in
    rw (h, deny)
    (then_sweep t val.core (lock t k).resource k m (λ q i. val.settled q) (state_within t k 2 s) (λ z. refl) (λ z. absurd (z refl))
    (denied_ok (used t) (lock t k) (val.core.lock_ok k) a) (λ z. clash false z refl) (λ z. (refl, refl)) (waiter_gone t val k m a refl refl)))

pub victim_blocked : (t : Tables) → Core t → victim t ≢ 0 → blocked_lock (lock t (victim t)) ≡ true
unfolding victim
victim_blocked t c z = go (victim t) refl z
  where
    go : (n : ℕ) → victim t ≡ n → n ≢ 0 → blocked_lock (lock t n) ≡ true
    go zero e i = absurd (i refl)
    go (suc k) e i = (on_chain t c.linked blocked (suc k) (first_in _ t.blocked k e)).1

pub break_after : (t : Tables) → Valid t → After t (break t).tables (at_number left_by_denial (victim t) t)
unfolding break deny_victim
break_after t val = go (victim t) (victim_blocked t val.core)
  where
    go : (n : ℕ) → (n ≢ 0 → blocked_lock (lock t n) ≡ true) → After t (deny_victim n t).tables (at_number left_by_denial n t)
    go zero h = unchanged_after t val
    go (suc k) h = deny_after (suc k) t val (h (omega arith))

-- CONVERT
pub convert_fits : (k m : ℕ) (t : Tables) → Core t → granted (lock t k) ≡ true → in_place k m t ≡ true → Fits t (lock t k).resource k m
unfolding in_place
convert_fits k m t c g h =
    by_cases (down (lock t k).held m)
    (λ d j n o e. compatible_sym (lock t j).held m ∙ down_use (lock t k).held m d (lock t j).held (holder_place (used t) (lock t j) (c.lock_ok j) o).held_mode
    (compatible_sym (lock t k).held (lock t j).held ∙ c.agree j k n o (or_left _ _ g) e))
    (λ d. fits_true t c.linked (lock t k).resource k m (and_right (null (resource t (lock t k).resource).convert) _ (rw d at h)))

pub in_place_after : (k m : ℕ) (b : Bool) (f : ℕ) (v : List ℕ) (t : Tables) → Valid t → granted (lock t k) ≡ true → m ≤ last_mode → (stores f ≡ true → length v ≡ value_width) → in_place k m t ≡ true →
    After t (sweep (lock t k).resource (move (lock t k).resource k (held_at m (lock t k)) (leave_value b f v (lock t k).resource t))) (instead k (held_at m (lock t k)) t)
in_place_after k m b f v t val g low right h =
    let r = (lock t k).resource in
    let p = (ok_at (used t) (lock t k) 1 (val.core.lock_ok k) g).place in
    let q = leave_quiet b f v r t right (λ z. p.in_use) val.core in
    let t0 = leave_value b f v r t in
    let l = held_at m (lock t k) in
    let s = eqb-true (lock t k).state 1 g in
    let w : within (length t0.locks) k ≡ true = rw q.locks_are (state_within t k 0 s) in
    let near : Near r (lock t0 k) = λ z. rw (q.lock_is k) in
    let ok : LockOk (used t0) l = as_granted refl (record {
      place = record { in_use = rw (q.used_is r) p.in_use; client_low = p.client_low; client_high = p.client_high; held_mode = low; asked_mode = omega arith; mark_mode = p.mark_mode };
      asks = refl;
      notice = omega arith;
      not_denied = omega arith;
    }) in
    let fit : holds l ≡ true → Fits t0 r k m = λ z j n. rw (q.lock_is j) (convert_fits k m t val.core g h j n) in
    quiet_after t t0 _ k l q
    (then_sweep t0 q.core r k l (λ s n. q.settled s (val.settled s)) w near (λ z. refl) ok fit (λ z. clash (waiting (lock t0 k)) z (rw (q.lock_is k, s)))
    (granted_full t0 r k l (core_move r k l t0 q.core w near (λ z. refl) ok fit) w refl refl))

pub queue_after : (k m : ℕ) (t : Tables) → Valid t → granted (lock t k) ≡ true → m ≤ last_mode → in_place k m t ≡ false →
    After t (move (lock t k).resource k (asking m (lock t k)) t) (instead k (asking m (lock t k)) t)
unfolding in_place
queue_after k m t val g low h =
    then_stop t c r k l (λ q i. val.settled q) w (λ z. refl) (λ z. refl) ok fit (λ z. clash (waiting (lock t k)) z (rw s))
    (record {
      still = go (resource t r).convert refl;
      peopled = λ u. full_of _ k (omega (arith, chain_has (move r k l t) c1.linked (queue r converts) k (rw (locks_length r k l t) w) (rw (lock_same r k l t w, eqb_same r))));
    })
  where
    r : ℕ
    r = (lock t k).resource

    l : Lock
    l = asking m (lock t k)

    c : Core t
    c = val.core

    s : (lock t k).state ≡ 1
    s = eqb-true (lock t k).state 1 g

    w : within (length t.locks) k ≡ true
    w = state_within t k 0 s

    p : Place (used t) (lock t k)
    p = (ok_at (used t) (lock t k) 1 (c.lock_ok k) g).place

    ok : LockOk (used t) l
    ok = as_converting refl (record {
      place = record { in_use = p.in_use; client_low = p.client_low; client_high = p.client_high; held_mode = p.held_mode; asked_mode = low; mark_mode = p.mark_mode };
      notice = refl;
    })

    fit : holds l ≡ true → Fits t r k (lock t k).held
    fit z j i q e = c.agree j k i q (or_left _ _ g) e

    c1 : Core (move r k l t)
    c1 = core_move r k l t c w (λ z. refl) (λ z. refl) ok fit

    grows : Grows t (move r k l t) r
    grows = grows_move t r k l w (λ o e. (refl, refl, refl))

    joins : line (move r k l t) r ≡ ((resource t r).convert ++ (k ∷ [])) ++ (resource t r).wait
    joins = unfold line relist shift in rw (resource_same r k l t (used_within t r p.in_use), s)

    go : (cs : List ℕ) → (resource t r).convert ≡ cs → idle (move r k l t) r (line (move r k l t) r) ≡ true
    go [] e =
        head_new t c r k l c1 w (rw s) grows (resource t r).wait (joins ∙ rw e)
        (rw e at (nor_right (down (lock t k).held m) _ h))
    go (x ∷ xs) e =
        head_still t c r k l c1 w (rw s) grows x (xs ++ (resource t r).wait) ((xs ++ (k ∷ [])) ++ (resource t r).wait)
        (unfold line in rw e) (joins ∙ rw e) (val.settled r).still

-- what a lock becomes that is converted, by the answer
abbrev pub left_by_convert : ℕ → ℕ → Lock → Lock
left_by_convert m a l = cond (eqb a 2) (asking m l) (held_at m l)

pub convert_after : (k m f : ℕ) (v : List ℕ) (t : Tables) → Valid t → granted (lock t k) ≡ true → m ≤ last_mode → (stores f ≡ true → length v ≡ value_width) →
    After t (convert_change k m f v t).tables (instead k (left_by_convert m (convert_change k m f v t).said.answer (lock t k)) t)
unfolding convert_change
convert_after k m f v t val g low right =
    by_cases (in_place k m t)
    (λ h. rw (h, convert_change) (in_place_after k m _ f v t val g low right h))
    (λ h. rw (h, convert_change) (told_after k t _ _ (queue_after k m t val g low h)))
