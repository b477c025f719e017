-- Which locks a call opens and which it closes: a lock is open while it is blocked or its completion unread.
use mathlib.Core.Path.{◌≡◌, refl, sym, ◌∙◌}
use mathlib.Core.Logic.{◌≢◌}
use mathlib.Core.Bool.{Bool, true, false, ◌&&◌, ◌||◌, and-true, and-false}
use mathlib.Core.List.{List}
use Prim.Native.Nat.{ℕ, zero, suc}
use native.Mathlib.Omega.{arith}
use lib.ListN.{length}
use lib.Dec.{eqb, eqb-suc-zero}
use borrow.Author.Tests.{eqb-true, ne_eqb, not-false}
use Rattle.tables.specs.declared.Lock.{Lock}
use Rattle.tables.specs.Lists.{within, bit}
use Rattle.tables.specs.State.{Tables, no_lock, lock, granted, converting, blocked_lock, unread}
use Rattle.tables.specs.Layout.{words}
use Rattle.tables.proofs.Counts.{within_le}
use Rattle.tables.proofs.ReadBack.{locks_word, lock_read}
use Rattle.tables.proofs.Cases.{by_cases, by_equal, clash, eqb_same, and_left, and_right, or_left, or_right}
use Rattle.tables.specs.Validity.{Core}
use Rattle.tables.proofs.Valid.{absent_lock}
use Rattle.tables.proofs.ChainMembers.{state_within}
use Rattle.rules.specs.Calls.{Said, refused, poll_notice}
use Rattle.rules.specs.Entries.{Call, to_request, to_convert, to_release, to_cancel, to_purge, to_break, to_poll, kind, same_kind, a_request, a_convert}
use Rattle.rules.specs.Theorem.{begins_to_wait}
use Rattle.rules.specs.Marks.{asking_lock}
use Rattle.rules.specs.Heard.{is_open, opens, closes}
use Rattle.rules.proofs.LockWeights.{instead, steady_open, blocked_silent}
use Rattle.rules.proofs.ChangesKeepSound.{After}
use Rattle.rules.proofs.CallsKeepSound.{left_by_cancel, left_by_poll, left_by_denial, left_by_convert, at_number}
use Rattle.rules.proofs.RequestKeepsSound.{made}
use Rattle.rules.proofs.PurgeKeepsSound.{without}

-- the lock k: whether it was open, and whether it is then
abbrev pub Went : Tables → Tables → ℕ → Bool → Bool → Type 0
Went t t' k before after = (within (length t.locks) k ≡ true) × (is_open (lock t k) ≡ before) × (is_open (lock t' k) ≡ after)

pub record Openings (c : Call) (t : Tables) (x : Said) (t' : Tables) : Type 0 where
  pub opened : begins_to_wait c x ≡ true → Went t t' (asking_lock c x) false true
  pub closed : (j : ℕ) → closes c x (words t) j ≡ true → Went t t' j true false
  pub else_same : (j : ℕ) → opens c x j ≡ false → closes c x (words t) j ≡ false → is_open (lock t' j) ≡ is_open (lock t j)

-- a refused call opens and closes none
pub refused_openings : (n : ℕ) (c : Call) (t : Tables) → Openings c t (refused (suc n)) t
refused_openings n c t =
    record {
      opened = λ q. clash false (sym (begins_none n c) ∙ q) refl;
      closed = λ j h. clash false (sym (closes_none n c j) ∙ h) refl;
      else_same = λ j p q. refl;
    }
  where
    begins_none : (n : ℕ) (c : Call) → begins_to_wait c (refused (suc n)) ≡ false
    begins_none n c = unfold begins_to_wait in and-false (same_kind a_request (kind c) || same_kind a_convert (kind c))

    closes_none : (n : ℕ) (c : Call) (j : ℕ) → closes c (refused (suc n)) (words t) j ≡ false
    closes_none n (to_request c m f x) j = refl
    closes_none n (to_convert c k m f v) j = refl
    closes_none n (to_release c k f v) j = refl
    closes_none n (to_cancel c k) j = rw (eqb-suc-zero n)
    closes_none n (to_purge c) j = rw (eqb-suc-zero n)
    closes_none n to_break j = refl
    closes_none n (to_poll c) j = refl

-- in what weighs the same, the same is open
bit_same : (a b : Bool) → bit a ≡ bit b → a ≡ b
bit_same true true e = refl
bit_same true false e = absurd (omega arith)
bit_same false true e = absurd (omega arith)
bit_same false false e = refl

became : (t t' : Tables) (g : ℕ → Lock) → After t t' g → (j : ℕ) → is_open (lock t' j) ≡ is_open (g j)
became t t' g a j = bit_same _ _ (a.weighs (λ l. bit (is_open l)) steady_open j)

module _ (t t' : Tables) (k : ℕ) (m : Lock) (a : After t t' (instead k m t)) where
  here : is_open (lock t' k) ≡ is_open m
  here = became t t' (instead k m t) a k ∙ rw (eqb_same k)

  elsewhere : (j : ℕ) → j ≢ k → is_open (lock t' j) ≡ is_open (lock t j)
  elsewhere j n = became t t' (instead k m t) a j ∙ rw (ne_eqb j k n)

read_closed : (l : Lock) → granted l ≡ true → unread l ≡ false → is_open l ≡ false
read_closed l g u = rw (u, eqb-true l.state 1 g)

open_there : (t : Tables) (k : ℕ) → is_open (lock t k) ≡ true → within (length t.locks) k ≡ true
open_there t k o = by_cases (within (length t.locks) k) (λ w. w) (λ w. clash false (rw (absent_lock t k w) at o) refl)

-- REQUEST, CONVERT: the asking lock, which was closed, is open if the answer is 2
module _ (t t' : Tables) (k : ℕ) (m : Lock) (x : Said) (w : within (length t.locks) k ≡ true) (z : is_open (lock t k) ≡ false) (o : is_open m ≡ eqb x.answer 2) (a : After t t' (instead k m t)) where
  asked_opened : eqb x.answer 2 ≡ true → Went t t' k false true
  asked_opened q = (w, z, here t t' k m a ∙ o ∙ q)

  asked_else : (j : ℕ) → (eqb x.answer 2 && eqb k j) ≡ false → is_open (lock t' j) ≡ is_open (lock t j)
  asked_else j p =
      by_equal j k
      (λ e. rw e (here t t' k m a ∙ o ∙ sym (and-true (eqb x.answer 2)) ∙ (rw (e, eqb_same k) at p) ∙ sym z))
      (λ n. elsewhere t t' k m a j n)

pub request_openings : (c m f : ℕ) (n : List ℕ) (t t' : Tables) (r k : ℕ) (x : Said) → x.number ≡ k → within (length t.locks) k ≡ true → lock t k ≡ no_lock →
    After t t' (instead k (made r c m x.answer) t) → Openings (to_request c m f n) t x t'
unfolding begins_to_wait
request_openings c m f n t t' r k x e w z a =
    record {
      opened = λ q. rw e (asked_opened t t' k _ x w (rw z) made_open a q);
      closed = λ j h. clash false h refl;
      else_same = λ j p q. asked_else t t' k _ x w (rw z) made_open a j (rw e at p);
    }
  where
    made_open : is_open (made r c m x.answer) ≡ eqb x.answer 2
    made_open = by_cases (eqb x.answer 2) (λ h. rw h) (λ h. rw h)

pub convert_openings : (c k m f : ℕ) (v : List ℕ) (t t' : Tables) (x : Said) → granted (lock t k) ≡ true → unread (lock t k) ≡ false →
    After t t' (instead k (left_by_convert m x.answer (lock t k)) t) → Openings (to_convert c k m f v) t x t'
unfolding begins_to_wait
convert_openings c k m f v t t' x g u a =
    record {
      opened = λ q. asked_opened t t' k _ x w z left_open a q;
      closed = λ j h. clash false h refl;
      else_same = λ j p q. asked_else t t' k _ x w z left_open a j p;
    }
  where
    w : within (length t.locks) k ≡ true
    w = state_within t k 0 (eqb-true (lock t k).state 1 g)

    z : is_open (lock t k) ≡ false
    z = read_closed (lock t k) g u

    left_open : is_open (left_by_convert m x.answer (lock t k)) ≡ eqb x.answer 2
    left_open = by_cases (eqb x.answer 2) (λ h. rw h) (λ h. rw h)

-- RELEASE: a closed lock is freed
pub release_openings : (c k f : ℕ) (v : List ℕ) (t t' : Tables) (x : Said) → granted (lock t k) ≡ true → unread (lock t k) ≡ false →
    After t t' (instead k no_lock t) → Openings (to_release c k f v) t x t'
unfolding begins_to_wait
release_openings c k f v t t' x g u a =
    record {
      opened = λ q. clash false q refl;
      closed = λ j h. clash false h refl;
      else_same = λ j p q. by_equal j k (λ e. rw e (here t t' k no_lock a ∙ sym (read_closed (lock t k) g u))) (λ n. elsewhere t t' k no_lock a j n);
    }

-- CANCEL: an open lock is closed
pub cancel_openings : (c k : ℕ) (t t' : Tables) (x : Said) → x.refusal ≡ 0 → blocked_lock (lock t k) ≡ true →
    After t t' (instead k (left_by_cancel x.answer (lock t k)) t) → Openings (to_cancel c k) t x t'
unfolding begins_to_wait
cancel_openings c k t t' x e b a =
    record {
      opened = λ q. clash false q refl;
      closed = λ j h. rw (← eqb-true k j (and_right (eqb x.refusal 0) (eqb k j) h)) (open_there t k was, was, here t t' k _ a ∙ left_closed);
      else_same = λ j p q. elsewhere t t' k _ a j (λ i. clash false (sym (rw (e, i, eqb_same k) at q)) refl);
    }
  where
    was : is_open (lock t k) ≡ true
    was = rw b

    left_closed : is_open (left_by_cancel x.answer (lock t k)) ≡ false
    left_closed = by_cases (eqb x.answer 2) (λ h. rw h) (λ h. rw h)

-- PURGE: the client's are closed
closes_purge : (c j : ℕ) (x : Said) (t : Tables) → closes (to_purge c) x (words t) j
    ≡ (eqb x.refusal 0 && (within (length t.locks) j && (eqb (lock t j).client c && is_open (lock t j))))
closes_purge c j x t =
    rw (locks_word t)
    (by_cases (within (length t.locks) j)
    (λ w. let h = within_le (length t.locks) j w in rw (w, lock_read t j h.0 h.1))
    (λ w. rw w))

pub purge_openings : (c : ℕ) (t t' : Tables) (x : Said) → x.refusal ≡ 0 → After t t' (without c t) → Openings (to_purge c) t x t'
unfolding begins_to_wait
purge_openings c t t' x e a =
    record {
      opened = λ q. clash false q refl;
      closed = λ j h.
          let h1 = and_right (eqb x.refusal 0) _ (sym (closes_purge c j x t) ∙ h) in
          let h2 = and_right (within (length t.locks) j) _ h1 in (
            and_left (within (length t.locks) j) _ h1,
            and_right (eqb (lock t j).client c) _ h2,
            became t t' (without c t) a j ∙ rw (and_left (eqb (lock t j).client c) _ h2),
          );
      else_same = λ j p q.
          became t t' (without c t) a j
          ∙ by_cases (eqb (lock t j).client c) (λ h. rw h (sym (was_closed j h (sym (closes_purge c j x t) ∙ q)))) (λ h. rw h);
    }
  where
    was_closed : (j : ℕ) → eqb (lock t j).client c ≡ true →
        (eqb x.refusal 0 && (within (length t.locks) j && (eqb (lock t j).client c && is_open (lock t j)))) ≡ false → is_open (lock t j) ≡ false
    was_closed j h q =
        by_cases (is_open (lock t j))
        (λ o. clash false (sym (rw (e, open_there t j o, h, o) at q)) refl)
        (λ o. o)

-- BREAK: a denied lock stays open
denied_open : (l : Lock) → is_open (left_by_denial l) ≡ true
denied_open l = by_cases (converting l) (λ h. rw h) (λ h. rw h)

pub break_openings : (n : ℕ) (t t' : Tables) (x : Said) → (n ≢ 0 → blocked_lock (lock t n) ≡ true) → After t t' (at_number left_by_denial n t) → Openings to_break t x t'
unfolding begins_to_wait
break_openings n t t' x b a = record { opened = λ q. clash false q refl; closed = λ j h. clash false h refl; else_same = λ j p q. same n b a j }
  where
    same : (n : ℕ) → (n ≢ 0 → blocked_lock (lock t n) ≡ true) → After t t' (at_number left_by_denial n t) → (j : ℕ) → is_open (lock t' j) ≡ is_open (lock t j)
    same zero b a j = became t t' (lock t) a j
    same (suc k) b a j =
        by_equal j (suc k)
        (λ e. rw e (here t t' (suc k) _ a ∙ denied_open (lock t (suc k)) ∙ sym (or_left _ _ (b (omega arith)))))
        (λ i. elsewhere t t' (suc k) _ a j i)

-- POLL: a lock whose completion is told is closed; one with a mark alone stays as it is
pub poll_openings : (c n : ℕ) (t t' : Tables) → Core t → After t t' (at_number left_by_poll n t) → Openings (to_poll c) t (poll_notice n t).said t'
unfolding begins_to_wait poll_notice
poll_openings c zero t t' co a =
    record { opened = λ q. clash false q refl; closed = λ j h. clash false h refl; else_same = λ j p q. became t t' (lock t) a j }
poll_openings c (suc k) t t' co a =
    record {
      opened = λ q. clash false q refl;
      closed = λ j h.
          let u : unread l ≡ true = and_left (unread l) _ h in
          rw (← eqb-true (suc k) j (and_right (unread l) _ h)) (open_there t (suc k) (was u), was u, here t t' (suc k) _ a ∙ told_closed u);
      else_same = λ j p q. by_equal j (suc k)
          (λ e. rw e (here t t' (suc k) _ a ∙ marked_same (sym (and-true (unread l)) ∙ (rw (e, eqb_same (suc k)) at q))))
          (λ n. elsewhere t t' (suc k) _ a j n);
    }
  where
    l : Lock
    l = lock t (suc k)

    was : unread l ≡ true → is_open l ≡ true
    was u = or_right (blocked_lock l) _ u

    -- it was not blocked
    told_closed : unread l ≡ true → is_open (left_by_poll l) ≡ false
    told_closed u =
        by_cases (eqb l.completion 2)
        (λ d. rw d)
        (λ d. rw d (by_cases (blocked_lock l) (λ b. clash (unread l) u (rw (blocked_silent t co (suc k) b))) (λ b. rw b)))

    marked_same : unread l ≡ false → is_open (left_by_poll l) ≡ is_open l
    marked_same u = let z = eqb-true l.completion 0 (not-false _ u) in rw z
