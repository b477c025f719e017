-- What each call does to the two sums of the queue theorem: how many locks are in use, and of how many their clients have still to hear.
use mathlib.Core.Path.{◌≡◌, refl, sym, ap, ◌∙◌}
use mathlib.Core.Logic.{◌≢◌}
use mathlib.Core.Bool.{Bool, true, false, cond}
use mathlib.Core.List.{List, [], ◌∷◌}
use Prim.Native.Nat.{ℕ, zero, suc, ◌+◌, ◌≤◌}
use native.Mathlib.Omega.{arith}
use lib.ListN.{length}
use lib.Dec.{eqb, eqb-suc-zero}
use borrow.Author.Tests.{eqb-true}
use Rattle.tables.specs.declared.Lock.{Lock}
use Rattle.tables.specs.Lists.{within, count, bit, keep, from}
use Rattle.tables.specs.State.{Tables, no_lock, lock, granted, converting, blocked_lock, unread, noticed}
use Rattle.tables.proofs.Cases.{by_cases, clash}
use Rattle.tables.proofs.Counts.{count_same, count_step, kept_in}
use Rattle.tables.specs.Validity.{used, LockOk, Core}
use Rattle.tables.proofs.StateCases.{ok_numbered}
use Rattle.tables.proofs.Valid.{ok_at, absent_lock}
use Rattle.rules.specs.Calls.{Said, refused, locks_of, how_many, purge_counts, poll_notice}
use Rattle.rules.specs.Entries.{Call, to_request, to_convert, to_release, to_cancel, to_purge, to_break, to_poll}
use Rattle.rules.specs.Theorem.{requests_accepted, releases_accepted, requests_cancelled, locks_purged, polled_denials, client_of, begins_to_wait, answers_2, polled_completions, cancels_accepted, purged_blocked, purged_unread}
use Rattle.rules.proofs.LockWeights.{sum_over, sum_same, sum_kept, how_many_step, weight, Steady, instead, weight_instead, used_bit, blocked_used, steady_use, owes, cond_none, steady_owes, blocked_silent}
use Rattle.rules.proofs.ChangesKeepSound.{After}
use Rattle.rules.proofs.CallsKeepSound.{noticed_denied, left_by_cancel, left_by_poll, left_by_denial, left_by_convert, at_number}
use Rattle.rules.proofs.RequestKeepsSound.{made}
use Rattle.rules.proofs.PurgeKeepsSound.{without}

-- THE TERMS. What a call adds to the two sides of the first sum: requests accepted; releases, requests cancelled, locks purged, polled denials
abbrev pub gains : Call → Said → ℕ
gains c x = requests_accepted c x

abbrev pub losses : Call → Said → ℕ
losses c x = releases_accepted c x + requests_cancelled c x + locks_purged c x + polled_denials c x

-- .. and of the second
abbrev pub endings : Call → Said → ℕ
endings c x = polled_completions c x + cancels_accepted c x + (purged_blocked c x + purged_unread c x)

-- both sums over a call, the second where some clients are meant: all of them, or one
pub record Sums (c : Call) (t : Tables) (x : Said) (t' : Tables) : Type 0 where
  pub balance : weight used_bit t' + losses c x ≡ weight used_bit t + gains c x
  pub heard : (who : ℕ → Bool) →
      weight (owes who) t' + cond (who (client_of c)) (endings c x) 0 ≡ weight (owes who) t + cond (who (client_of c)) (answers_2 c x) 0

-- a refused call adds nothing
pub refused_sums : (n : ℕ) (c : Call) (t : Tables) → Sums c t (refused (suc n)) t
unfolding begins_to_wait
refused_sums n (to_request c m f x) t = record { balance = rw (eqb-suc-zero n); heard = λ who. refl }
refused_sums n (to_convert c k m f v) t = record { balance = refl; heard = λ who. refl }
refused_sums n (to_release c k f v) t = record { balance = rw (eqb-suc-zero n); heard = λ who. refl }
refused_sums n (to_cancel c k) t = record { balance = refl; heard = λ who. rw (eqb-suc-zero n) }
refused_sums n (to_purge c) t = record { balance = refl; heard = λ who. refl }
refused_sums n to_break t = record { balance = refl; heard = λ who. refl }
refused_sums n (to_poll c) t = record { balance = refl; heard = λ who. refl }

-- WHAT A LOCK WEIGHS, before the call and after it
granted_used : (l : Lock) → granted l ≡ true → used_bit l ≡ 1
granted_used l g = rw (eqb-true l.state 1 g)

-- a lock that is granted and whose completion is read owes nothing
read_owes : (who : ℕ → Bool) (l : Lock) → granted l ≡ true → unread l ≡ false → owes who l ≡ 0
unfolding owes
read_owes who l g u = rw (u, eqb-true l.state 1 g) (cond_none (who l.client))

-- a lock in use is one of the tables'
there : (t : Tables) (k : ℕ) → used_bit (lock t k) ≡ 1 → within (length t.locks) k ≡ true
there t k e = by_cases (within (length t.locks) k) (λ w. w) (λ w. absurd (omega (arith, e, ap used_bit (absent_lock t k w))))

-- the call's lock k became m
changed : (t t' : Tables) (k : ℕ) (m : Lock) → within (length t.locks) k ≡ true → After t t' (instead k m t) → (f : Lock → ℕ) → Steady f →
    weight f t' + f (lock t k) ≡ weight f t + f m
changed t t' k m w a f s = weight_instead f s k m t t' w a.locks_are a.weighs

-- no lock of the call's own
kept : (t t' : Tables) → After t t' (lock t) → (f : Lock → ℕ) → Steady f → weight f t' ≡ weight f t
unfolding weight
kept t t' a f s = rw a.locks_are (sum_same (λ j. f (lock t' j)) (λ j. f (lock t j)) (from 1 (length t.locks)) (λ j i. a.weighs f s j))

-- REQUEST, CONVERT
made_used : (r c m a : ℕ) → used_bit (made r c m a) ≡ 1
made_used r c m a = by_cases (eqb a 2) (λ h. rw h) (λ h. rw h)

made_owes : (who : ℕ → Bool) (r c m a : ℕ) → owes who (made r c m a) ≡ cond (who c) (bit (eqb a 2)) 0
unfolding owes
made_owes who r c m a = by_cases (eqb a 2) (λ h. rw h) (λ h. rw h)

pub request_sums : (c m f : ℕ) (n : List ℕ) (t t' : Tables) (r k : ℕ) (x : Said) → x.refusal ≡ 0 → within (length t.locks) k ≡ true → lock t k ≡ no_lock →
    After t t' (instead k (made r c m x.answer) t) → Sums (to_request c m f n) t x t'
unfolding begins_to_wait
request_sums c m f n t t' r k x e w z a =
    record {
      balance = rw e (omega (arith, changed t t' k _ w a used_bit steady_use, ap used_bit z, made_used r c m x.answer));
      heard = λ who. rw (cond_none (who c))
          (omega (arith, changed t t' k _ w a (owes who) (steady_owes who), ap (owes who) z, (steady_owes who).none, made_owes who r c m x.answer));
    }

pub convert_sums : (c k m f : ℕ) (v : List ℕ) (t t' : Tables) (x : Said) → granted (lock t k) ≡ true → unread (lock t k) ≡ false → (lock t k).client ≡ c →
    After t t' (instead k (left_by_convert m x.answer (lock t k)) t) → Sums (to_convert c k m f v) t x t'
unfolding begins_to_wait
convert_sums c k m f v t t' x g u e a =
    record {
      balance = omega (arith, changed t t' k _ w a used_bit steady_use, granted_used (lock t k) g, left_used);
      heard = λ who. rw (cond_none (who c)) (omega (arith, changed t t' k _ w a (owes who) (steady_owes who), read_owes who (lock t k) g u, left_owes who));
    }
  where
    w : within (length t.locks) k ≡ true
    w = there t k (granted_used (lock t k) g)

    left_used : used_bit (left_by_convert m x.answer (lock t k)) ≡ 1
    left_used = by_cases (eqb x.answer 2) (λ h. rw h) (λ h. rw h)

    left_owes : (who : ℕ → Bool) → owes who (left_by_convert m x.answer (lock t k)) ≡ cond (who c) (bit (eqb x.answer 2)) 0
    left_owes who = unfold owes in by_cases (eqb x.answer 2) (λ h. rw (h, e)) (λ h. rw (h, e))

-- RELEASE
pub release_sums : (c k f : ℕ) (v : List ℕ) (t t' : Tables) (x : Said) → x.refusal ≡ 0 → granted (lock t k) ≡ true → unread (lock t k) ≡ false →
    After t t' (instead k no_lock t) → Sums (to_release c k f v) t x t'
unfolding begins_to_wait
release_sums c k f v t t' x e g u a =
    let w = there t k (granted_used (lock t k) g) in
    record {
      balance = rw e (omega (arith, changed t t' k _ w a used_bit steady_use, granted_used (lock t k) g));
      heard = λ who. omega (arith, changed t t' k _ w a (owes who) (steady_owes who), (steady_owes who).none, read_owes who (lock t k) g u);
    }

-- CANCEL. A blocked lock owes one completion
blocked_owes : (who : ℕ → Bool) (t : Tables) → Core t → (k : ℕ) → blocked_lock (lock t k) ≡ true → owes who (lock t k) ≡ cond (who (lock t k).client) 1 0
unfolding owes
blocked_owes who t c k b = rw (b, blocked_silent t c k b)

pub cancel_sums : (c k : ℕ) (t t' : Tables) (x : Said) → Core t → x.refusal ≡ 0 → blocked_lock (lock t k) ≡ true → (lock t k).client ≡ c →
    After t t' (instead k (left_by_cancel x.answer (lock t k)) t) → Sums (to_cancel c k) t x t'
unfolding begins_to_wait
cancel_sums c k t t' x co e b own a =
    record {
      balance = omega (arith, changed t t' k _ w a used_bit steady_use, blocked_used (lock t k) b, left_used);
      heard = λ who. rw (e, cond_none (who c))
          (omega (arith, changed t t' k _ w a (owes who) (steady_owes who), blocked_owes who t co k b ∙ ap (λ (i : ℕ). cond (who i) 1 0) own, left_owes who));
    }
  where
    w : within (length t.locks) k ≡ true
    w = there t k (blocked_used (lock t k) b)

    left_used : used_bit (left_by_cancel x.answer (lock t k)) + bit (eqb x.answer 2) ≡ 1
    left_used = by_cases (eqb x.answer 2) (λ h. rw h) (λ h. rw h)

    left_owes : (who : ℕ → Bool) → owes who (left_by_cancel x.answer (lock t k)) ≡ 0
    left_owes who = unfold owes in by_cases (eqb x.answer 2) (λ h. rw h (cond_none (who 0))) (λ h. rw h (cond_none (who (lock t k).client)))

-- PURGE. Its locks are the client's, and in use; they weigh what it counts
module _ (c : ℕ) (t : Tables) where
  purged_used : (ks : List ℕ) → ((j : ℕ) → 1 ≤ count j ks → eqb (lock t j).state 0 ≡ false) → sum_over (λ j. used_bit (lock t j)) ks ≡ length ks
  unfolding sum_over
  purged_used [] h = refl
  purged_used (k ∷ ks) h = rw (h k (rw count_same (omega arith))) (omega (arith, purged_used ks (λ j i. h j (omega (arith, count_step j k ks)))))

  purged_owes : (who : ℕ → Bool) (ks : List ℕ) → ((j : ℕ) → 1 ≤ count j ks → (lock t j).client ≡ c) →
      sum_over (λ j. owes who (lock t j)) ks ≡ cond (who c) (how_many blocked_lock ks t + how_many unread ks t) 0
  unfolding sum_over owes how_many keep
  purged_owes who [] h = sym (cond_none (who c))
  purged_owes who (k ∷ ks) h =
      let i = purged_owes who ks (λ j m. h j (omega (arith, count_step j k ks))) in
      let b = how_many_step blocked_lock k ks t in
      let u = how_many_step unread k ks t in
      by_cases (who c)
      (λ w. rw (h k (rw count_same (omega arith)), w) (omega (arith, rw w at i, b, u)))
      (λ w. rw (h k (rw count_same (omega arith)), w) (omega (arith, rw w at i)))

  -- no free lock is the client's
  own_used : Core t → 1 ≤ c → (j : ℕ) → 1 ≤ count j (locks_of c t) → eqb (lock t j).state 0 ≡ false
  unfolding locks_of
  own_used co low j m =
      let e = eqb-true (lock t j).client c (kept_in (λ k. eqb (lock t k).client c) (length t.locks) j m).1 in
      by_cases (eqb (lock t j).state 0)
      (λ z. absurd (omega (arith, ap (λ (l : Lock). l.client) (ok_at (used t) (lock t j) 0 (co.lock_ok j) z), e)))
      (λ z. z)

  own_client : (j : ℕ) → 1 ≤ count j (locks_of c t) → (lock t j).client ≡ c
  unfolding locks_of
  own_client j m = eqb-true (lock t j).client c (kept_in (λ k. eqb (lock t k).client c) (length t.locks) j m).1

  -- what they weighed is gone
  freed_weight : (t' : Tables) → After t t' (without c t) → (f : Lock → ℕ) → Steady f → weight f t' + sum_over (λ j. f (lock t j)) (locks_of c t) ≡ weight f t
  unfolding weight locks_of
  freed_weight t' a f s =
      let ks = from 1 (length t.locks) in
      let own : ℕ → Bool = λ k. eqb (lock t k).client c in
      rw a.locks_are
      (omega (
        arith,
        sum_same (λ j. f (lock t' j)) (λ j. cond (own j) 0 (f (lock t j))) ks (λ j i. a.weighs f s j ∙ pushed j),
        sum_kept own (λ j. f (lock t j)) ks,
      ))
    where
      pushed : (j : ℕ) → f (without c t j) ≡ cond (eqb (lock t j).client c) 0 (f (lock t j))
      pushed j = by_cases (eqb (lock t j).client c) (λ h. rw h s.none) (λ h. rw h)

pub purge_sums : (c : ℕ) (t t' : Tables) → Core t → 1 ≤ c → After t t' (without c t) → Sums (to_purge c) t (purge_counts c t) t'
unfolding begins_to_wait
purge_sums c t t' co low a =
    record {
      balance = omega (arith, freed_weight c t t' a used_bit steady_use, purged_used c t (locks_of c t) (own_used c t co low));
      heard = λ who.
          let s = freed_weight c t t' a (owes who) (steady_owes who) in
          let o = purged_owes c t who (locks_of c t) (own_client c t) in
          by_cases (who c)
          (λ w. rw w (omega (arith, s, rw w at o)))
          (λ w. rw w (omega (arith, s, rw w at o)));
    }

-- BREAK. A denied lock still owes its completion, now unread
denied_used : (l : Lock) → used_bit (left_by_denial l) ≡ 1
denied_used l = by_cases (converting l) (λ h. rw h) (λ h. rw h)

denied_owes : (who : ℕ → Bool) (l : Lock) → owes who (left_by_denial l) ≡ cond (who l.client) 1 0
unfolding owes
denied_owes who l = by_cases (converting l) (λ h. rw h) (λ h. rw h)

pub break_sums : (n : ℕ) (t t' : Tables) (x : Said) → Core t → (n ≢ 0 → blocked_lock (lock t n) ≡ true) → After t t' (at_number left_by_denial n t) → Sums to_break t x t'
unfolding begins_to_wait
break_sums zero t t' x co b a =
    record { balance = omega (arith, kept t t' a used_bit steady_use); heard = λ who. rw (cond_none (who 0)) (omega (arith, kept t t' a (owes who) (steady_owes who))) }
break_sums (suc k) t t' x co b a =
    let l = lock t (suc k) in
    let bl = b (omega arith) in
    let w = there t (suc k) (blocked_used l bl) in
    record {
      balance = omega (arith, changed t t' (suc k) _ w a used_bit steady_use, blocked_used l bl, denied_used l);
      heard = λ who. rw (cond_none (who 0))
          (omega (arith, changed t t' (suc k) _ w a (owes who) (steady_owes who), blocked_owes who t co (suc k) bl, denied_owes who l));
    }

-- POLL. It takes the completion; a lock that stays blocked still owes one. A denied lock is freed, and was not blocked
module _ (u : ℕ → Bool) (l : Lock) (ok : LockOk u l) (n : noticed l ≡ true) where
  denied_free : l.completion ≡ 2 → l.state ≡ 4
  denied_free e = noticed_denied u l l.state (ok_numbered ok) e

  noticed_used : used_bit l ≡ 1
  noticed_used =
      by_cases (eqb l.state 0)
      (λ z. clash (noticed l) n (rw (ok_at u l 0 ok z)))
      (λ z. rw z)

  polled_used : used_bit (left_by_poll l) + bit (eqb l.completion 2) ≡ 1
  polled_used =
      by_cases (eqb l.completion 2)
      (λ d. rw d)
      (λ d. rw d (omega (arith, noticed_used)))

  polled_owes : (who : ℕ → Bool) → owes who l ≡ owes who (left_by_poll l) + cond (who l.client) (bit (unread l)) 0
  unfolding owes
  polled_owes who =
      by_cases (eqb l.completion 2)
      (λ d. rw (d, denied_free (eqb-true l.completion 2 d), cond_none (who 0)) (by_cases (who l.client) (λ h. rw h (omega arith)) (λ h. rw h)))
      (λ d. rw d (by_cases (who l.client) (λ h. rw h (omega arith)) (λ h. rw h)))

pub poll_sums : (c n : ℕ) (t t' : Tables) → Core t → (n ≢ 0 → (noticed (lock t n) ≡ true) × ((lock t n).client ≡ c)) → After t t' (at_number left_by_poll n t) →
    Sums (to_poll c) t (poll_notice n t).said t'
unfolding begins_to_wait poll_notice
poll_sums c zero t t' co h a =
    record { balance = omega (arith, kept t t' a used_bit steady_use); heard = λ who. omega (arith, kept t t' a (owes who) (steady_owes who)) }
poll_sums c (suc k) t t' co h a =
    let l = lock t (suc k) in
    let i = h (omega arith) in
    let ok = co.lock_ok (suc k) in
    let one = noticed_used (used t) l ok i.0 in
    let w = there t (suc k) one in
    record {
      balance = omega (arith, changed t t' (suc k) _ w a used_bit steady_use, polled_used (used t) l ok i.0, one);
      heard = λ who.
          let s = changed t t' (suc k) _ w a (owes who) (steady_owes who) in
          let o = polled_owes (used t) l ok i.0 who in
          by_cases (who c)
          (λ w. rw w (omega (arith, s, rw (ap who i.1 ∙ w) at o)))
          (λ w. rw w (omega (arith, s, rw (ap who i.1 ∙ w) at o)));
    }
