-- The marks theorem: every call does to the marks what R-1 promises, on states and then on the words.
use mathlib.Core.Path.{◌≡◌, refl, sym, ap, ap₂, ◌∙◌}
use mathlib.Core.Logic.{◌≢◌}
use mathlib.Core.Bool.{Bool, true, false, ◌&&◌, ◌||◌, not, and-false}
use mathlib.Core.List.{List, [], ◌∷◌, ◌++◌}
use Prim.Native.Nat.{ℕ, zero, suc, ◌≤◌}
use native.Mathlib.Omega.{arith}
use lib.ListN.{length}
use lib.Dec.{eqb, ltb}
use borrow.Author.Tests.{eqb-true, eqb-false, eq-eqb, ne_eqb, not-true}
use Rattle.tables.specs.declared.Lock.{Lock}
use Rattle.tables.specs.Lists.{within, count, keep, first, first_that, null}
use Rattle.tables.specs.State.{Tables, started, no_lock, denied_lock, lock, converting, has_mark, unread, noticed, holds, shift, move, move_resource, notices, queue, grants, converts, of_locks}
use Rattle.tables.specs.Layout.{read_chain, read_lock, words}
use Rattle.tables.specs.Grants.{holders}
use Rattle.tables.specs.Validity.{used, Core, Valid}
use Rattle.tables.proofs.Cases.{by_cases, by_equal, clash, eqb_same, and_left, and_right, or_right}
use Rattle.tables.proofs.Counts.{within_le, le_within, head_in, first_in, first_passes, keep_cong}
use Rattle.tables.proofs.StateCases.{StateOk, ok_numbered}
use Rattle.tables.proofs.Valid.{ok_at, holder_place, absent_lock, lock_same, lock_other, locks_length, used_within}
use Rattle.tables.proofs.ChainMembers.{state_within, on_chain, on_free, chain_has, in_holder}
use Rattle.tables.proofs.ReadBack.{resources_word, locks_word}
use Rattle.rules.specs.Queues.{free_lock, find}
use Rattle.rules.specs.Deadlock.{in_the_way, obstacles, victim}
use Rattle.rules.specs.Calls.{Step, refused, accepted_step, refused_or, strong, leave_value, larger, tell_obstacles, new_resource, resource_for, with_resource, holding, queued, granted_at_once, request_on, request_change, request_refusal, request, held_at, asking, in_place, convert_change, convert_refusal, convert, release_change, release_refusal, release, restored, cancel_change, cancel_refusal, cancel, locks_of, purge_locks, purge_change, purge_refusal, purge, deny, deny_victim, break, notice_read, take_notice, poll_notice, poll_change, poll_refusal, poll}
use Rattle.rules.specs.Entries.{lent_of, Call, kind, same_kind, a_request, a_convert, a_poll, call_entry, step_of, to_request, to_convert, to_release, to_cancel, to_purge, to_break, to_poll}
use Rattle.rules.specs.Accepted.{Requestable, Releasable, Convertible, Cancellable, Purgeable}
use Rattle.rules.specs.Theorem.{begins_to_wait, IsLock, IsResource, keeps_out}
use Rattle.rules.specs.Marks.{asking_lock, asked_mode, answers_lock, MarksRight, MarksAfter, MarksTheorem}
use Rattle.rules.proofs.ListOrder.{keep_keep}
use Rattle.rules.proofs.NoticesKeepSound.{shift_same, holder_stands, marks_resource, obstacle_in}
use Rattle.rules.proofs.CallsKeepSound.{in_place_after, queue_after, release_after, cancel_after, break_after}
use Rattle.rules.proofs.RequestKeepsSound.{found, first_member, new_at_once, enter_waiting}
use Rattle.rules.proofs.PurgeKeepsSound.{purge_after}
use Rattle.rules.proofs.AcceptedCalls.{request_passed, convert_passed, release_passed, cancel_passed, purge_passed}
use Rattle.rules.proofs.EveryCall.{stepped}
use Rattle.rules.proofs.QueueProperties.{lock_is, chain_is, is_lock}
use Rattle.rules.proofs.QueueTheorem.{outcome_is, after_is, play, play_valid, from_start}
use Rattle.rules.proofs.MarkLaws.{hindered_mode, larger_first, larger_second, unnoticed, marks_chain, obstacle_once, keeps_out_way, tell_set, tell_not, Steady, steady_same, steady_then, steady_move, steady_sweep, steady_free, steady_settle, leave_lock, steady_leave, steady_purge, steady_all}

-- THE STATEMENT ON STATES. The lock k begins to wait, for m, and t becomes t2
record Waited (t t2 : Tables) (k m : ℕ) : Type 0 where
  asker_is : within (length t.locks) k ≡ true
  asker_on : within (length t.resources) (lock t2 k).resource ≡ true
  told : (j : ℕ) → keeps_out (lock t2 k).resource k m j (lock t j) ≡ true → (lock t2 j).mark ≡ larger m (lock t j).mark
  others : (j : ℕ) → keeps_out (lock t2 k).resource k m j (lock t j) ≡ false → (lock t2 j).mark ≡ (lock t j).mark
  joined : (r : ℕ) → (lock t2 k).resource ≡ r → t2.notices ≡ t.notices ++ keep (λ j. keeps_out r k m j (lock t j) && unnoticed t j) (holders t2 r)

-- s is the step of the call c on t
record StateMarks (c : Call) (t : Tables) (s : Step) : Type 0 where
  waited : begins_to_wait c s.said ≡ true → Waited t s.tables (asking_lock c s.said) (asked_mode c)
  calm : begins_to_wait c s.said ≡ false → (j : ℕ) → answers_lock c s.said j ≡ false → (lock s.tables j).state ≢ 0 →
      (lock s.tables j).mark ≡ (lock t j).mark
  answered : (j : ℕ) → 1 ≤ j → answers_lock c s.said j ≡ true →
      (c ≡ to_poll (lock t j).client) × (s.said.extra ≡ (lock t j).mark) × ((lock s.tables j).mark ≡ 0)

client_of : (u : ℕ → Bool) (l : Lock) (s : ℕ) → StateOk u l s → s ≢ 0 → l.client ≢ 0
client_of u l zero ok n = absurd (n refl)
client_of u l (suc zero) ok n = omega (arith, ok.place.client_low)
client_of u l (suc (suc zero)) ok n = omega (arith, ok.place.client_low)
client_of u l (suc (suc (suc zero))) ok n = omega (arith, ok.place.client_low)
client_of u l (suc (suc (suc (suc zero)))) ok n = omega (arith, ok.client_low)
client_of u l (suc (suc (suc (suc (suc x))))) ok n = absurd ok

-- a call that does not begin to wait
silent_marks : (c : Call) (t : Tables) (s : Step) → begins_to_wait c s.said ≡ false →
    ((j : ℕ) → answers_lock c s.said j ≡ false → (lock s.tables j).state ≢ 0 → (lock s.tables j).mark ≡ (lock t j).mark) →
    ((j : ℕ) → 1 ≤ j → answers_lock c s.said j ≡ true → (c ≡ to_poll (lock t j).client) × (s.said.extra ≡ (lock t j).mark) × ((lock s.tables j).mark ≡ 0)) →
    StateMarks c t s
silent_marks c t s none calm answered =
    record { waited = λ q. clash (begins_to_wait c s.said) q none; calm = λ q. calm; answered = answered }

-- .. and only moves locks about
steady_marks : (c : Call) (t : Tables) (s : Step) → Valid s.tables → begins_to_wait c s.said ≡ false → ((j : ℕ) → answers_lock c s.said j ≡ false) →
    Steady t s.tables → StateMarks c t s
steady_marks c t s val none unpolled st =
    silent_marks c t s none
    (λ j p n. (st j (client_of (used s.tables) (lock s.tables j) (lock s.tables j).state (ok_numbered (val.core.lock_ok j)) n)).1)
    (λ j low p. clash (answers_lock c s.said j) p (unpolled j))

-- A CALL THAT BEGINS TO WAIT: the lock k becomes l on r, which stands in a queue and asks for m
module _ (t : Tables) (r k m : ℕ) (l : Lock) (w : within (length t.locks) k ≡ true) (c1 : Core (move r k l t)) (same : l.mark ≡ (lock t k).mark)
    (there : l.resource ≡ r) (asks : l.asked ≡ m) (quiet : (move r k l t).notices ≡ t.notices) where
  abbrev t1 : Tables
  t1 = move r k l t

  abbrev t2 : Tables
  t2 = tell_obstacles k t1

  is : lock t1 k ≡ l
  is = lock_same r k l t w

  at_r : (lock t1 k).resource ≡ r
  at_r = rw is there

  for_m : (lock t1 k).asked ≡ m
  for_m = rw is asks

  itself : (x : Lock) → keeps_out r k m k x ≡ false
  itself x = rw (eqb_same k)

  own_lock : lock t2 k ≡ l
  own_lock = tell_not t1 c1 k k (rw (eqb_same k)) ∙ is

  queued_at : (lock t2 k).resource ≡ r
  queued_at = rw own_lock there

  queued_told : (j : ℕ) → keeps_out r k m j (lock t j) ≡ true → (lock t2 j).mark ≡ larger m (lock t j).mark
  queued_told j h =
      by_equal j k
      (λ e. clash (keeps_out r k m j (lock t j)) h (rw e (itself (lock t k))))
      (λ n. let o = lock_other r k l t j n in rw (tell_set t1 c1 k j (rw (at_r, for_m, o) h)) (rw (o, for_m)))

  queued_not : (j : ℕ) → keeps_out r k m j (lock t j) ≡ false → (lock t2 j).mark ≡ (lock t j).mark
  queued_not j h =
      by_equal j k
      (λ e. rw (e, own_lock) same)
      (λ n. let o = lock_other r k l t j n in rw (tell_not t1 c1 k j (rw (at_r, for_m, o) h)) (rw o))

  positive : (j : ℕ) → 1 ≤ count j (obstacles t1 k) → 1 ≤ (lock t1 k).asked
  unfolding in_the_way
  positive j i =
      let o = obstacle_in t1 k j i in
      let p = holder_place (used t1) (lock t1 j) (c1.lock_ok j) (in_holder t1 c1.linked (lock t1 k).resource j o.0).0 in
      hindered_mode (lock t1 j).held (lock t1 k).asked p.held_mode (and_right (not (eqb j k)) _ o.1)

  queued_joined : t2.notices ≡ t.notices ++ keep (λ j. keeps_out r k m j (lock t j) && unnoticed t j) (holders t2 r)
  unfolding tell_obstacles
  queued_joined =
      marks_chain (lock t1 k).asked (obstacles t1 k) t1 (obstacle_once t1 c1 k) positive
      ∙ ap₂ (λ (xs ys : List ℕ). xs ++ ys) quiet (told_in_order ∙ sym (ap (keep (λ j. keeps_out r k m j (lock t j) && unnoticed t j)) same_holders))
    where
      same_holders : holders t2 r ≡ holders t1 r
      same_holders = unfold holders in rw (marks_resource (lock t1 k).asked (obstacles t1 k) t1 r)

      same_test : (j : ℕ) → 1 ≤ count j (holders t1 r) → (in_the_way t1 k j && unnoticed t1 j) ≡ (keeps_out r k m j (lock t j) && unnoticed t j)
      same_test j i =
          ap (λ (b : Bool). b && unnoticed t1 j) (sym (ap₂ (λ (a b : ℕ). keeps_out a k b j (lock t1 j)) (sym at_r) (sym for_m) ∙ keeps_out_way t1 c1 k j (rw at_r i)))
          ∙ by_equal j k
          (λ e. rw (e, itself (lock t1 k), itself (lock t k)))
          (λ n. rw (lock_other r k l t j n))

      told_in_order : keep (unnoticed t1) (obstacles t1 k) ≡ keep (λ j. keeps_out r k m j (lock t j) && unnoticed t j) (holders t1 r)
      told_in_order = unfold obstacles in rw at_r (keep_keep (unnoticed t1) (in_the_way t1 k) (holders t1 r) ∙ keep_cong _ _ (holders t1 r) same_test)

  queued_waited : within (length t.resources) r ≡ true → Waited t t2 k m
  queued_waited v =
      record {
        asker_is = w;
        asker_on = rw queued_at v;
        told = λ j. rw queued_at (queued_told j);
        others = λ j. rw queued_at (queued_not j);
        joined = λ x i. rw (sym (sym queued_at ∙ i)) queued_joined;
      }

-- REQUEST
granted_marks : (c m f : ℕ) (n : List ℕ) (t t0 : Tables) (r k : ℕ) → ((j : ℕ) → lock t0 j ≡ lock t j) → lock t k ≡ no_lock →
    StateMarks (to_request c m f n) t (accepted_step 1 k (move r k (holding r c m) t0))
granted_marks c m f n t t0 r k same none =
    silent_marks (to_request c m f n) t (accepted_step 1 k (move r k (holding r c m) t0)) (unfold begins_to_wait in refl)
    (λ j p i.
    by_equal j k
    (λ e. rw (e, none)
    (by_cases (within (length t0.locks) k)
    (λ w. rw (lock_same r k (holding r c m) t0 w))
    (λ w. rw (absent_lock (move r k (holding r c m) t0) k (rw (locks_length r k (holding r c m) t0) w)))))
    (λ x. rw (lock_other r k (holding r c m) t0 j x, same j)))
    (λ j low p. clash false (unfold answers_lock in p) refl)

request_marks : (c m f : ℕ) (n : List ℕ) (t : Tables) → Requestable c m f n t → StateMarks (to_request c m f n) t (request_change c m n t)
unfolding request_change resource_for with_resource request_on
request_marks c m f n t p = go (find n t) t.free_locks refl refl p.room p.lock_left
  where
    val : Valid t
    val = p.valid

    none : (k : ℕ) (ks : List ℕ) → t.free_locks ≡ k ∷ ks → lock t k ≡ no_lock
    none k ks e = (on_free t val.core k (head_in t.free_locks k ks e)).1

    waits : (r k : ℕ) (ks : List ℕ) → find n t ≡ suc r → t.free_locks ≡ k ∷ ks → granted_at_once t (suc r) m ≡ false →
        StateMarks (to_request c m f n) t (accepted_step 2 k (tell_obstacles k (move (suc r) k (queued (suc r) c m) t)))
    waits r k ks e g h =
        let u : used t (suc r) ≡ true = unfold used in rw (found n t r e, p.some) in
        let l = queued (suc r) c m in
        let w = (on_free t val.core k (head_in t.free_locks k ks g)).0 in
        let c1 = (enter_waiting t val.core (suc r) k c m ks (λ s i. val.settled s) u (val.settled (suc r)).still g p.client_low p.client_high p.mode h).valid.core in
        let z : l.mark ≡ (lock t k).mark = rw (none k ks g) in
        let y : (move (suc r) k l t).notices ≡ t.notices = unfold move shift in rw (none k ks g) in
        record {
          waited = λ q. queued_waited t (suc r) k m l w c1 z refl refl y (used_within t (suc r) u);
          calm = λ q. clash true refl (unfold begins_to_wait in q);
          answered = λ j low x. clash false (unfold answers_lock in x) refl;
        }

    go : (a : ℕ) (ks : List ℕ) → find n t ≡ a → t.free_locks ≡ ks → (not (eqb a 0) || not (null t.free_resources)) ≡ true → null ks ≡ false →
        StateMarks (to_request c m f n) t (request_on (resource_for a t) (first ks) c m (with_resource a n t))
    go a [] e g y z = clash true refl z
    go zero (k ∷ ks) e g y z =
        let r = first t.free_resources in
        rw (new_at_once c m n t val p.client_low p.client_high p.mode p.some p.short r e (first_member t.free_resources (not-true (null t.free_resources) y)), request_on)
        (granted_marks c m f n t (move_resource r (new_resource n) t) r k (λ j. unfold lock move_resource in refl) (none k ks g))
    go (suc r) (k ∷ ks) e g y z =
        by_cases (granted_at_once t (suc r) m)
        (λ h. rw (h, request_on) (granted_marks c m f n t t (suc r) k (λ j. refl) (none k ks g)))
        (λ h. rw (h, request_on) (waits r k ks e g h))

-- CONVERT
convert_marks : (c k m f : ℕ) (v : List ℕ) (t : Tables) → Convertible k m f v t → StateMarks (to_convert c k m f v) t (convert_change k m f v t)
unfolding convert_change
convert_marks c k m f v t p =
    by_cases (in_place k m t)
    (λ h. rw (h, convert_change)
    (steady_marks (to_convert c k m f v) t _ (in_place_after k m _ f v t val p.is_granted p.mode p.right h).valid (unfold begins_to_wait in refl) (λ j. unfold answers_lock in refl)
    (steady_then t t0 _ (steady_leave _ f v r t)
    (steady_then t0 (move r k (held_at m (lock t k)) t0) _ (steady_move r k (held_at m (lock t k)) t0 (λ n. rw (leave_lock _ f v r t k) (refl, refl))) (steady_sweep r _)))))
    (λ h. rw (h, convert_change) (waits h))
  where
    val : Valid t
    val = p.valid

    r : ℕ
    r = (lock t k).resource

    t0 : Tables
    t0 = leave_value (strong (lock t k).held && ltb m (lock t k).held) f v r t

    waits : in_place k m t ≡ false → StateMarks (to_convert c k m f v) t (accepted_step 2 0 (tell_obstacles k (move r k (asking m (lock t k)) t)))
    waits h =
        let l = asking m (lock t k) in
        let w = state_within t k 0 (eqb-true (lock t k).state 1 p.is_granted) in
        let c1 = (queue_after k m t val p.is_granted p.mode h).valid.core in
        let y : (move r k l t).notices ≡ t.notices = unfold move in rw p.is_read (shift_same (has_mark (lock t k)) k t.notices) in
        record {
          waited = λ q. queued_waited t r k m l w c1 refl refl refl y (used_within t r (ok_at (used t) (lock t k) 1 (val.core.lock_ok k) p.is_granted).place.in_use);
          calm = λ q. clash true refl (unfold begins_to_wait in q);
          answered = λ j low x. clash false (unfold answers_lock in x) refl;
        }

-- RELEASE, CANCEL, PURGE, BREAK
release_marks : (c k f : ℕ) (v : List ℕ) (t : Tables) → Releasable k f v t → StateMarks (to_release c k f v) t (release_change k f v t)
unfolding release_change
release_marks c k f v t p =
    steady_marks (to_release c k f v) t _ (release_after k f v t p.valid p.is_granted p.right).valid (unfold begins_to_wait in refl) (λ j. unfold answers_lock in refl)
    (steady_then t _ _ (steady_leave _ f v _ t) (steady_then _ _ _ (steady_free k _) (steady_settle _ _)))

cancel_marks : (c k : ℕ) (t : Tables) → Cancellable k t → StateMarks (to_cancel c k) t (cancel_change k t)
cancel_marks c k t p =
    steady_marks (to_cancel c k) t (cancel_change k t) (cancel_after k t p.valid p.is_blocked).valid (unfold begins_to_wait in refl) (λ j. unfold answers_lock in refl) (unfold cancel_change in
    by_cases (converting (lock t k))
    (λ h. rw (h, cancel_change) (steady_then t _ _ (steady_move _ k (restored 0 (lock t k)) t (λ n. (refl, refl))) (steady_sweep _ _)))
    (λ h. rw (h, cancel_change) (steady_then t _ _ (steady_free k t) (steady_sweep _ _))))

purge_marks : (c : ℕ) (t : Tables) → Purgeable c t → StateMarks (to_purge c) t (purge_change c t)
unfolding purge_change
purge_marks c t p =
    steady_marks (to_purge c) t _ (purge_after c t p.client_low p.valid).valid (unfold begins_to_wait in refl) (λ j. unfold answers_lock in refl)
    (steady_then t (purge_locks (locks_of c t) t) _ (steady_purge (locks_of c t) t) (steady_all _ _))

steady_deny : (k : ℕ) (t : Tables) → Steady t (deny k t)
unfolding deny
steady_deny k t =
    by_cases (converting (lock t k))
    (λ h. rw (h, deny) (steady_then t _ _ (steady_move _ k (restored 3 (lock t k)) t (λ n. (refl, refl))) (steady_sweep _ _)))
    (λ h. rw (h, deny) (steady_then t _ _ (steady_move _ k (denied_lock (lock t k)) t (λ n. (refl, refl))) (steady_sweep _ _)))

steady_break : (t : Tables) → Steady t (break t).tables
unfolding break
steady_break t = go (victim t)
  where
    go : (n : ℕ) → Steady t (deny_victim n t).tables
    go zero = unfold deny_victim in steady_same t
    go (suc k) = unfold deny_victim in steady_deny (suc k) t

break_marks : (t : Tables) → Valid t → StateMarks to_break t (break t)
break_marks t val =
    steady_marks to_break t (break t) (break_after t val).valid (unfold begins_to_wait in refl) (λ j. unfold answers_lock in refl) (steady_break t)

-- POLL
take_other : (k : ℕ) (t : Tables) (j : ℕ) → j ≢ k → lock (take_notice k t) j ≡ lock t j
unfolding take_notice free_lock
take_other k t j n =
    by_cases (eqb (lock t k).completion 2)
    (λ h. rw (h, take_notice) (lock_other _ k no_lock t j n))
    (λ h. rw (h, take_notice) (lock_other _ k (notice_read (lock t k)) t j n))

take_clears : (k : ℕ) (t : Tables) → within (length t.locks) k ≡ true → (lock (take_notice k t) k).mark ≡ 0
unfolding take_notice free_lock
take_clears k t w =
    by_cases (eqb (lock t k).completion 2)
    (λ h. rw (h, take_notice) (ap (λ (l : Lock). l.mark) (lock_same _ k no_lock t w)))
    (λ h. rw (h, take_notice) (ap (λ (l : Lock). l.mark) (lock_same _ k (notice_read (lock t k)) t w)))

poll_marks : (c : ℕ) (t : Tables) → Valid t → StateMarks (to_poll c) t (poll_change c t)
unfolding poll_change poll_notice answers_lock
poll_marks c t val = go (first_that (λ k. eqb (lock t k).client c) t.notices) refl
  where
    go : (n : ℕ) → first_that (λ k. eqb (lock t k).client c) t.notices ≡ n → StateMarks (to_poll c) t (poll_notice n t)
    go zero e = silent_marks (to_poll c) t (poll_notice zero t) (unfold begins_to_wait in refl) (λ j p n. refl) (λ j low p. absurd (omega (arith, eqb-true 0 j p)))
    go (suc k) e =
        let w = (on_chain t val.core.linked notices (suc k) (first_in _ t.notices k e)).0 in
        silent_marks (to_poll c) t (poll_notice (suc k) t) (unfold begins_to_wait in refl)
        (λ j p n. ap (λ (l : Lock). l.mark) (take_other (suc k) t j (λ x. eqb-false (suc k) j p (sym x))))
        (λ j low p. rw (sym (eqb-true (suc k) j p)) (ap to_poll (sym (eqb-true (lock t (suc k)).client c (first_passes _ t.notices k e))), refl, take_clears (suc k) t w))

-- EVERY CALL
refused_marks : (c : Call) (t : Tables) (n : ℕ) (s : Step) → (n ≡ 0 → StateMarks c t s) → StateMarks c t (refused_or n s t)
unfolding refused_or
refused_marks c t zero s h = h refl
refused_marks c t (suc n) s h =
    silent_marks c t (record { said = refused (suc n); tables = t }) (unfold begins_to_wait in and-false (same_kind a_request (kind c) || same_kind a_convert (kind c))) (λ j p i. refl)
    (λ j low p. absurd (omega (arith, low, eqb-true 0 j (and_right (same_kind a_poll (kind c)) _ (unfold answers_lock in p)))))

state_marks : (c : Call) (t : Tables) → Valid t → StateMarks c t (step_of c t)
unfolding request convert release cancel purge poll
state_marks (to_request c m f n) t val = refused_marks (to_request c m f n) t (request_refusal c m f n t) (request_change c m n t) (λ h. request_marks c m f n t (request_passed t val c m f n h))
state_marks (to_convert c k m f v) t val = refused_marks (to_convert c k m f v) t (convert_refusal c k m f v t) (convert_change k m f v t) (λ h. convert_marks c k m f v t (convert_passed t val c k m f v h))
state_marks (to_release c k f v) t val = refused_marks (to_release c k f v) t (release_refusal c k f v t) (release_change k f v t) (λ h. release_marks c k f v t (release_passed t val c k f v h))
state_marks (to_cancel c k) t val = refused_marks (to_cancel c k) t (cancel_refusal c k t) (cancel_change k t) (λ h. cancel_marks c k t (cancel_passed t val c k h))
state_marks (to_purge c) t val = refused_marks (to_purge c) t (purge_refusal c) (purge_change c t) (λ h. purge_marks c t (purge_passed t val c h))
state_marks to_break t val = break_marks t val
state_marks (to_poll c) t val = refused_marks (to_poll c) t (poll_refusal c) (poll_change c t) (λ h. poll_marks c t val)

-- ON THE WORDS
module _ (c : Call) (t : Tables) (val : Valid t) where
  abbrev s : Step
  s = step_of c t

  sm : StateMarks c t s
  sm = state_marks c t val

  val2 : Valid s.tables
  val2 = (stepped c t val).valid

  is_after : (j : ℕ) → IsLock (words t) j → IsLock (words s.tables) j
  is_after j i = record { low = i.low; high = omega (arith, i.high, locks_word t, locks_word s.tables, (stepped c t val).locks_are) }

  before : (j : ℕ) → IsLock (words t) j → read_lock (words t) j ≡ lock t j
  before j i = lock_is t val j i

  then : (j : ℕ) → IsLock (words t) j → read_lock (words s.tables) j ≡ lock s.tables j
  then j i = lock_is s.tables val2 j (is_after j i)

  free_unmarked : (j : ℕ) → (lock s.tables j).state ≡ 0 → (lock s.tables j).mark ≡ 0
  free_unmarked j e = ap (λ (l : Lock). l.mark) (ok_at (used s.tables) (lock s.tables j) 0 (val2.core.lock_ok j) (eq-eqb _ 0 e))

  keeps_out_mode : (r k m j : ℕ) → keeps_out r k m j (lock t j) ≡ true → m ≢ 0
  keeps_out_mode r k m j h z =
      let a = and_right (not (eqb j k)) _ h in
      let held = and_left (holds (lock t j)) _ a in
      let b = and_right (eqb (lock t j).resource r) _ (and_right (holds (lock t j)) _ a) in
      omega (arith, hindered_mode (lock t j).held m (holder_place (used t) (lock t j) (val.core.lock_ok j) held).held_mode b, z)

  noticed_on : (j : ℕ) → IsLock (words t) j → 1 ≤ (lock s.tables j).mark → count j (read_chain (words s.tables) (of_locks notices)) ≡ 1
  noticed_on j i h =
      rw (chain_is s.tables val2 notices tt)
      (chain_has s.tables val2.core.linked notices j
      (le_within (length s.tables.locks) j i.low (omega (arith, (is_after j i).high, locks_word s.tables)))
      (or_right (unread (lock s.tables j)) _ (rw (ne_eqb (lock s.tables j).mark 0 (omega arith)))))

  abbrev k : ℕ
  k = asking_lock c s.said

  abbrev m : ℕ
  m = asked_mode c

  told_words : begins_to_wait c s.said ≡ true → (j : ℕ) → IsLock (words t) j → keeps_out (read_lock (words s.tables) k).resource k m j (read_lock (words t) j) ≡ true →
      (m ≤ (read_lock (words s.tables) j).mark) × (count j (read_chain (words s.tables) (of_locks notices)) ≡ 1)
      × ((read_lock (words s.tables) j).mark ≡ larger m (read_lock (words t) j).mark)
  told_words q j i =
      rw (then k (is_lock t val k (sm.waited q).asker_is), then j i, before j i)
      (λ h. let e = (sm.waited q).told j h in
      let n = keeps_out_mode (lock s.tables k).resource k m j h in
      let a = larger_first m (lock t j).mark in
      (omega (arith, e, a), noticed_on j i (omega (arith, e, a, n)), e))

  others_words : begins_to_wait c s.said ≡ true → (j : ℕ) → IsLock (words t) j → keeps_out (read_lock (words s.tables) k).resource k m j (read_lock (words t) j) ≡ false →
      (read_lock (words s.tables) j).mark ≡ (read_lock (words t) j).mark
  others_words q j i = rw (then k (is_lock t val k (sm.waited q).asker_is), then j i, before j i) ((sm.waited q).others j)

  joined_words : begins_to_wait c s.said ≡ true → (r : ℕ) → (read_lock (words s.tables) k).resource ≡ r →
      read_chain (words s.tables) (of_locks notices)
      ≡ read_chain (words t) (of_locks notices)
      ++ keep (λ j. keeps_out r k m j (read_lock (words t) j) && not (noticed (read_lock (words t) j)))
      (read_chain (words s.tables) (of_locks (queue r grants)) ++ read_chain (words s.tables) (of_locks (queue r converts)))
  unfolding holders
  joined_words q r =
      rw (then k (is_lock t val k (sm.waited q).asker_is))
      (λ e. let v = within_le (length t.resources) r (rw e at (sm.waited q).asker_on) in
      let ir : IsResource (words s.tables) r = record { low = v.0; high = omega (arith, v.1, resources_word s.tables, (stepped c t val).resources_are) } in
      rw (chain_is s.tables val2 notices tt, chain_is t val notices tt, chain_is s.tables val2 (queue r grants) ir, chain_is s.tables val2 (queue r converts) ir)
      ((sm.waited q).joined r e ∙ ap (λ (xs : List ℕ). t.notices ++ xs) (keep_cong _ _ (holders s.tables r) (same_test r))))
    where
      same_test : (r j : ℕ) → 1 ≤ count j (holders s.tables r) →
          (keeps_out r k m j (lock t j) && not (noticed (lock t j))) ≡ (keeps_out r k m j (read_lock (words t) j) && not (noticed (read_lock (words t) j)))
      same_test r j i =
          let w = (holder_stands s.tables j (in_holder s.tables val2.core.linked r j i).0).0 in
          rw (before j (is_lock t val j (rw (stepped c t val).locks_are at w)))

  none_set_words : begins_to_wait c s.said ≡ false → (j : ℕ) → IsLock (words t) j → (read_lock (words s.tables) j).mark ≢ 0 →
      (read_lock (words s.tables) j).mark ≡ (read_lock (words t) j).mark
  none_set_words q j i =
      rw (then j i, before j i)
      (λ n. by_cases (answers_lock c s.said j)
      (λ p. absurd (n (sm.answered j i.low p).2))
      (λ p. sm.calm q j p (λ e. n (free_unmarked j e))))

  lasts_words : (j : ℕ) → IsLock (words t) j → answers_lock c s.said j ≡ false → (read_lock (words s.tables) j).state ≢ 0 →
      (read_lock (words t) j).mark ≤ (read_lock (words s.tables) j).mark
  lasts_words j i p =
      rw (then j i, before j i)
      (λ n. by_cases (begins_to_wait c s.said)
      (λ q. by_cases (keeps_out (lock s.tables k).resource k m j (lock t j))
      (λ h. rw ((sm.waited q).told j h) (larger_second m (lock t j).mark))
      (λ h. omega (arith, (sm.waited q).others j h)))
      (λ q. omega (arith, sm.calm q j p n)))

  answered_words : (j : ℕ) → IsLock (words t) j → answers_lock c s.said j ≡ true →
      (c ≡ to_poll (read_lock (words t) j).client) × (s.said.extra ≡ (read_lock (words t) j).mark) × ((read_lock (words s.tables) j).mark ≡ 0)
  answered_words j i p = rw (before j i, then j i) (sm.answered j i.low p)

  valid_marks : MarksRight c (lent_of t) (call_entry c (lent_of t))
  valid_marks =
      rw (outcome_is c t val)
      (record { told = told_words; others = others_words; joined = joined_words; none_set = none_set_words; lasts = lasts_words; answered = answered_words })

-- after every list of calls from fresh tables
pub marks_theorem : MarksTheorem
marks_theorem t r l accepted cs c =
    from_start (MarksAfter cs c) r l
    (λ val. rw (after_is cs (started r l) val) (valid_marks c (play cs (started r l)) (play_valid cs (started r l) val))) t accepted
