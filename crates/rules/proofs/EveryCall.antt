-- Started tables are valid; every call keeps a valid state valid, the order of those that wait and both sums, and opens and closes locks as R-3 says.
use mathlib.Core.Path.{◌≡◌, refl, ap, ◌∙◌}
use mathlib.Core.Logic.{◌≢◌}
use mathlib.Core.Bool.{true, false, ◌&&◌, and-true, and-false}
use mathlib.Core.List.{List, []}
use Prim.Native.Nat.{ℕ, zero, suc, ◌≤◌}
use native.Mathlib.Omega.{arith}
use lib.ListN.{length, length-replicate}
use lib.Dec.{eqb}
use Rattle.tables.specs.declared.Lock.{Lock}
use Rattle.tables.specs.Lists.{within, count, bit, first_that, first, null, from}
use Rattle.tables.specs.State.{Resource, Tables, no_lock, no_resource, lock, resource, started, converting, unread, LockChain, chain, belongs, grants, converts, waits, free_locks, denied, blocked, notices, queue, most_resources, most_locks}
use Rattle.tables.proofs.Cases.{by_cases, clash}
use Rattle.tables.proofs.Counts.{count_nil, count_from}
use Rattle.tables.proofs.Numbered.{started_lock, started_resource}
use Rattle.tables.proofs.ChainMembers.{on_free}
use Rattle.tables.specs.Validity.{used, line, idle, Valid, as_free}
use Rattle.rules.specs.Queues.{find}
use Rattle.rules.specs.Deadlock.{victim}
use Rattle.rules.specs.Calls.{refused, Step, refused_or, resource_for, with_resource, granted_at_once, request_on, request_change, request_refusal, request, in_place, convert_change, convert_refusal, convert, release_change, release_refusal, release, cancel_change, cancel_refusal, cancel, purge_change, purge_refusal, purge, deny_victim, break, poll_notice, poll_change, poll_refusal, poll}
use Rattle.rules.specs.Entries.{Call, step_of, to_request, to_convert, to_release, to_cancel, to_purge, to_break, to_poll}
use Rattle.rules.proofs.ResourceChanges.{no_value_length}
use Rattle.rules.specs.Accepted.{Requestable, Releasable, Convertible, Cancellable, Purgeable}
use Rattle.rules.proofs.AcceptedCalls.{request_passed, convert_passed, release_passed, cancel_passed, release_read, convert_owned, cancel_owned, purge_passed}
use Rattle.rules.proofs.ListOrder.{front_none}
use Rattle.rules.proofs.WaitChains.{InOrder, nobody_leaves}
use Rattle.rules.proofs.LockWeights.{sum_same, sum_none, weight}
use Rattle.rules.proofs.ChangesKeepSound.{After}
use Rattle.rules.proofs.CallsKeepSound.{release_after, cancel_after, first_notice, first_noticed, poll_after, victim_blocked, break_after, convert_after}
use Rattle.rules.proofs.RequestKeepsSound.{first_member, request_after}
use Rattle.rules.proofs.PurgeKeepsSound.{purge_after}
use Rattle.rules.proofs.OpenLocks.{Openings, refused_openings, request_openings, convert_openings, release_openings, cancel_openings, purge_openings, break_openings, poll_openings}
use Rattle.rules.proofs.CallSums.{Sums, refused_sums, request_sums, convert_sums, release_sums, cancel_sums, purge_sums, break_sums, poll_sums}

module _ (r l : ℕ) where
  none : (c : LockChain) (k : ℕ) → chain (started r l) c ≡ [] → belongs c no_lock ≡ false → count k (chain (started r l) c) ≡ bit (within (length (started r l).locks) k && belongs c (lock (started r l) k))
  none c k e b = rw (started_lock r l k, b, and-false, e) (count_nil k)

  started_linked : (c : LockChain) (k : ℕ) → count k (chain (started r l) c) ≡ bit (within (length (started r l).locks) k && belongs c (lock (started r l) k))
  started_linked free_locks k = rw (started_lock r l k, and-true) (unfold started in count_from l k ∙ rw (length-replicate l no_lock))
  started_linked denied k = none denied k (unfold started in refl) refl
  started_linked blocked k = none blocked k (unfold started in refl) refl
  started_linked notices k = none notices k (unfold started in refl) refl
  started_linked (queue s grants) k = none (queue s grants) k (ap (λ (x : Resource). x.grant) (started_resource r l s)) refl
  started_linked (queue s converts) k = none (queue s converts) k (ap (λ (x : Resource). x.convert) (started_resource r l s)) refl
  started_linked (queue s waits) k = none (queue s waits) k (ap (λ (x : Resource). x.wait) (started_resource r l s)) refl

  unused : (s : ℕ) → used (started r l) s ≡ false
  unfolding used
  unused s = rw (started_resource r l s)

  started_idle : (s : ℕ) → idle (started r l) s (line (started r l) s) ≡ true
  unfolding line idle
  started_idle s = rw (started_resource r l s)

  started_spare : (s : ℕ) → count s (started r l).free_resources ≡ bit (within (length (started r l).resources) s && null (resource (started r l) s).name)
  started_spare s = rw (started_resource r l s, and-true) (unfold started in count_from r s ∙ rw (length-replicate r no_resource))

  sizes : (length (started r l).locks ≡ l) × (length (started r l).resources ≡ r)
  unfolding started
  sizes = (length-replicate l no_lock, length-replicate r no_resource)

  pub started_valid : 1 ≤ r → r ≤ most_resources → 1 ≤ l → l ≤ most_locks → Valid (started r l)
  started_valid a b c d =
      record {
        core = record {
          resources_low = rw sizes.1 a;
          resources_high = rw sizes.1 b;
          locks_low = rw sizes.0 c;
          locks_high = rw sizes.0 d;
          linked = started_linked;
          spare = started_spare;
          lock_ok = λ k. rw (started_lock r l k) (as_free refl);
          resource_ok = λ s. rw (started_resource r l s) (record { name_length = omega arith; value_length = no_value_length; flag = omega arith; unused = λ z. refl; unused_value = λ z. refl });
          names = λ s s' n u. clash (used (started r l) s) u (unused s);
          agree = λ j k n h. clash false (rw (started_lock r l j) at h) refl;
        };
        settled = λ s. record { still = started_idle s; peopled = λ u. clash (used (started r l) s) u (unused s) };
      }

  pub started_none : (f : Lock → ℕ) → f no_lock ≡ 0 → weight f (started r l) ≡ 0
  unfolding weight
  started_none f z =
      let ks = from 1 (length (started r l).locks) in
      sum_same (λ j. f (lock (started r l) j)) (λ j. 0) ks (λ j i. rw (started_lock r l j) z) ∙ sum_none ks

-- what a call leaves of a valid state t
pub record Kept (c : Call) (t : Tables) (s : Step) : Type 0 where
  pub valid : Valid s.tables
  pub in_order : (r : ℕ) → InOrder t s.tables r
  pub resources_are : length s.tables.resources ≡ length t.resources
  pub locks_are : length s.tables.locks ≡ length t.locks
  pub unchanged : s.said.refusal ≢ 0 → s.tables ≡ t
  pub silent : s.said.refusal ≢ 0 → s.said ≡ refused s.said.refusal
  pub sums : Sums c t s.said s.tables
  pub openings : Openings c t s.said s.tables

accepted_kept : (c : Call) (t : Tables) (s : Step) (g : ℕ → Lock) → s.said.refusal ≡ 0 → After t s.tables g → Sums c t s.said s.tables →
    Openings c t s.said s.tables → Kept c t s
accepted_kept c t s g e a b o =
    record {
      valid = a.valid;
      in_order = a.in_order;
      resources_are = a.resources_are;
      locks_are = a.locks_are;
      unchanged = λ z. absurd (z e);
      silent = λ z. absurd (z e);
      sums = b;
      openings = o;
    }

refused_kept : (c : Call) (t : Tables) (n : ℕ) (s : Step) → Valid t → (n ≡ 0 → Kept c t s) → Kept c t (refused_or n s t)
unfolding refused_or
refused_kept c t zero s val h = h refl
refused_kept c t (suc n) s val h =
    record {
      valid = val;
      in_order = λ r. nobody_leaves t t t r refl (front_none _);
      resources_are = refl;
      locks_are = refl;
      unchanged = λ z. refl;
      silent = λ z. refl;
      sums = refused_sums n c t;
      openings = refused_openings n c t;
    }

-- REQUEST
pub request_accepted : (c m : ℕ) (n : List ℕ) (t : Tables) → (request_change c m n t).said.refusal ≡ 0
unfolding request_change
request_accepted c m n t = on (resource_for (find n t) t) (first t.free_locks) (with_resource (find n t) n t)
  where
    on : (r k : ℕ) (t' : Tables) → (request_on r k c m t').said.refusal ≡ 0
    on r k t' = unfold request_on in by_cases (granted_at_once t' r m) (λ h. rw (h, request_on)) (λ h. rw (h, request_on))

request_number : (c m : ℕ) (n : List ℕ) (t : Tables) → (request_change c m n t).said.number ≡ first t.free_locks
unfolding request_change
request_number c m n t = on (resource_for (find n t) t) (first t.free_locks) (with_resource (find n t) n t)
  where
    on : (r k : ℕ) (t' : Tables) → (request_on r k c m t').said.number ≡ k
    on r k t' = unfold request_on in by_cases (granted_at_once t' r m) (λ h. rw (h, request_on)) (λ h. rw (h, request_on))

requested : (c m f : ℕ) (n : List ℕ) (t : Tables) → Requestable c m f n t → Kept (to_request c m f n) t (request_change c m n t)
requested c m f n t p =
    let s = request_change c m n t in
    let a = request_after c m n t p.valid p.client_low p.client_high p.mode p.some p.short p.room p.lock_left in
    let e = request_accepted c m n t in
    let k = first t.free_locks in
    let i = on_free t p.valid.core k (first_member t.free_locks p.lock_left) in
    accepted_kept (to_request c m f n) t s _ e a
    (request_sums c m f n t s.tables _ k s.said e i.0 i.1 a)
    (request_openings c m f n t s.tables _ k s.said (request_number c m n t) i.0 i.1 a)

-- CONVERT
convert_accepted : (k m f : ℕ) (v : List ℕ) (t : Tables) → (convert_change k m f v t).said.refusal ≡ 0
unfolding convert_change
convert_accepted k m f v t = by_cases (in_place k m t) (λ h. rw (h, convert_change)) (λ h. rw (h, convert_change))

converted : (c k m f : ℕ) (v : List ℕ) (t : Tables) → Convertible k m f v t → (lock t k).client ≡ c → Kept (to_convert c k m f v) t (convert_change k m f v t)
converted c k m f v t p own =
    let s = convert_change k m f v t in
    let a = convert_after k m f v t p.valid p.is_granted p.mode p.right in
    accepted_kept (to_convert c k m f v) t s _ (convert_accepted k m f v t) a
    (convert_sums c k m f v t s.tables s.said p.is_granted p.is_read own a)
    (convert_openings c k m f v t s.tables s.said p.is_granted p.is_read a)

-- RELEASE
release_accepted : (k f : ℕ) (v : List ℕ) (t : Tables) → (release_change k f v t).said.refusal ≡ 0
unfolding release_change
release_accepted k f v t = refl

let_go : (c k f : ℕ) (v : List ℕ) (t : Tables) → Releasable k f v t → unread (lock t k) ≡ false → Kept (to_release c k f v) t (release_change k f v t)
let_go c k f v t p read =
    let s = release_change k f v t in
    let a = release_after k f v t p.valid p.is_granted p.right in
    let e = release_accepted k f v t in
    accepted_kept (to_release c k f v) t s _ e a
    (release_sums c k f v t s.tables s.said e p.is_granted read a)
    (release_openings c k f v t s.tables s.said p.is_granted read a)

-- CANCEL
cancel_accepted : (k : ℕ) (t : Tables) → (cancel_change k t).said.refusal ≡ 0
unfolding cancel_change
cancel_accepted k t = by_cases (converting (lock t k)) (λ h. rw (h, cancel_change)) (λ h. rw (h, cancel_change))

given_up : (c k : ℕ) (t : Tables) → Cancellable k t → (lock t k).client ≡ c → Kept (to_cancel c k) t (cancel_change k t)
given_up c k t p own =
    let s = cancel_change k t in
    let a = cancel_after k t p.valid p.is_blocked in
    let e = cancel_accepted k t in
    accepted_kept (to_cancel c k) t s _ e a
    (cancel_sums c k t s.tables s.said p.valid.core e p.is_blocked own a)
    (cancel_openings c k t s.tables s.said e p.is_blocked a)

-- PURGE
purge_accepted : (c : ℕ) (t : Tables) → (purge_change c t).said.refusal ≡ 0
unfolding purge_change
purge_accepted c t = refl

cleared : (c : ℕ) (t : Tables) → Purgeable c t → Kept (to_purge c) t (purge_change c t)
cleared c t p =
    let a = purge_after c t p.client_low p.valid in
    let e = purge_accepted c t in
    accepted_kept (to_purge c) t (purge_change c t) _ e a
    (unfold purge_change in purge_sums c t (purge_change c t).tables p.valid.core p.client_low a)
    (purge_openings c t (purge_change c t).tables (purge_change c t).said e a)

-- BREAK
break_accepted : (t : Tables) → (break t).said.refusal ≡ 0
unfolding break
break_accepted t = go (victim t)
  where
    go : (n : ℕ) → (deny_victim n t).said.refusal ≡ 0
    go zero = unfold deny_victim in refl
    go (suc k) = unfold deny_victim in refl

broken : (t : Tables) → Valid t → Kept to_break t (break t)
broken t val =
    let a = break_after t val in
    let b = victim_blocked t val.core in
    accepted_kept to_break t (break t) _ (break_accepted t) a
    (break_sums (victim t) t (break t).tables (break t).said val.core b a)
    (break_openings (victim t) t (break t).tables (break t).said b a)

-- POLL
poll_accepted : (c : ℕ) (t : Tables) → (poll_change c t).said.refusal ≡ 0
unfolding poll_change
poll_accepted c t = go (first_that (λ k. eqb (lock t k).client c) t.notices)
  where
    go : (n : ℕ) → (poll_notice n t).said.refusal ≡ 0
    go zero = unfold poll_notice in refl
    go (suc k) = unfold poll_notice in refl

polled : (c : ℕ) (t : Tables) → Valid t → Kept (to_poll c) t (poll_change c t)
polled c t val =
    let a = poll_after c t val in
    accepted_kept (to_poll c) t (poll_change c t) _ (poll_accepted c t) a
    (unfold poll_change in poll_sums c (first_notice c t) t (poll_change c t).tables val.core (λ z. let h = first_noticed c t val.core z in (h.0, h.1)) a)
    (unfold poll_change in poll_openings c (first_notice c t) t (poll_change c t).tables val.core a)

-- EVERY CALL
pub stepped : (c : Call) (t : Tables) → Valid t → Kept c t (step_of c t)
unfolding request convert release cancel purge poll
stepped (to_request c m f n) t val = refused_kept (to_request c m f n) t (request_refusal c m f n t) (request_change c m n t) val (λ h. requested c m f n t (request_passed t val c m f n h))
stepped (to_convert c k m f v) t val = refused_kept (to_convert c k m f v) t (convert_refusal c k m f v t) (convert_change k m f v t) val (λ h. converted c k m f v t (convert_passed t val c k m f v h) (convert_owned t val c k m f v h))
stepped (to_release c k f v) t val = refused_kept (to_release c k f v) t (release_refusal c k f v t) (release_change k f v t) val (λ h. let_go c k f v t (release_passed t val c k f v h) (release_read t val c k f v h))
stepped (to_cancel c k) t val = refused_kept (to_cancel c k) t (cancel_refusal c k t) (cancel_change k t) val (λ h. given_up c k t (cancel_passed t val c k h) (cancel_owned t val c k h))
stepped (to_purge c) t val = refused_kept (to_purge c) t (purge_refusal c) (purge_change c t) val (λ h. cleared c t (purge_passed t val c h))
stepped to_break t val = broken t val
stepped (to_poll c) t val = refused_kept (to_poll c) t (poll_refusal c) (poll_change c t) val (λ h. polled c t val)
