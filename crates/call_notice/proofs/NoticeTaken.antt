-- Reading a notice, and a client's first.
use mathlib.Core.Path.{◌≡◌, refl, sym, ◌∙◌, ap, subst}
use mathlib.Core.Logic.{◌≢◌}
use mathlib.Core.Bool.{true, false}
use mathlib.Core.List.{List}
use Prim.Native.Nat.{ℕ, zero, suc, ◌≤◌}
use native.Mathlib.Omega.{arith}
use Rattle.std.specs.Prelude.{Option, None}
use Rattle.std.specs.declared.option.Option.TheVariants as options
use lib.ListN.{length}
use borrow.Author.Rules.{rules}
use borrow.Author.Tests.{eq-eqb, ne_eqb}
use Rattle.tables.specs.declared.Lock.{Lock}
use Rattle.tables.specs.Lists.{within}
use Rattle.tables.specs.State.{Tables, lock, granted, holds, noticed, notices, move}
use Rattle.tables.specs.Layout.{words, slots, locks_in, read_lock}
use Rattle.tables.proofs.Cases.{by_cases, clash}
use Rattle.tables.proofs.Counts.{first_in}
use Rattle.tables.proofs.SlotChanges.{slots_move}
use Rattle.tables.specs.Validity.{used, LockOk, Core, Valid}
use Rattle.tables.proofs.StateCases.{StateOk, ok_numbered}
use Rattle.tables.proofs.Valid.{ok_at, absent_lock}
use Rattle.tables.proofs.ChainMembers.{on_chain}
use Rattle.table_fields.specs.Sizes.{Sized}
use Rattle.table_fields.proofs.StateWords.{core_sized, lock_high, lock_is, lock_low}
use Rattle.rules.specs.Queues.{free_lock}
use Rattle.rules.specs.declared.Said.{Said}
use Rattle.rules.specs.Calls.{accepted_with, Step, accepted_step, notice_read, take_notice, poll_notice, poll_change}
use Rattle.rules.specs.Entries.{lent, outcome, written}
use Rattle.rules.proofs.NoticesKeepSound.{noted_ok}
use Rattle.rules.proofs.CallsKeepSound.{noticed_denied, noticed_holds}
use Rattle.tables.specs.Numbered.{numbered}
use Rattle.table_chains.proofs.NumberOrNone.{is_number, none_is, above_none}
use Rattle.table_chains.specs.Promises.{Some, Turns, Tells, Movable, Moving, Moved}
use Rattle.queues.specs.Promises.{Locked}
use Rattle.queues.proofs.ResourceRecord.{slots_free}
use Rattle.answers.specs.Answers.{mark_alone, notice}
use Rattle.answers.specs.declared.Notice.{Notice}
use Rattle.answers.specs.declared.Notice.TheVariants as notice_cases
use Rattle.answers.specs.Promises.{MakesWords}
use Rattle.answers.proofs.Steps.{step_left, stepped}
use Rattle.call_notice.specs.Promises.{first_notice, Noticed}
use Rattle.call_notice.proofs.Denial.{valid_core}

-- STATES. The lock k has a notice
module _ (k : ℕ) (t : Tables) (p : Noticed k t) where
  in_range : within (length t.locks) k ≡ true
  in_range = by_cases (within (length t.locks) k) (λ w. w) (λ w. clash (noticed (lock t k)) p.has_notice (rw (absent_lock t k w)))

  locked : Locked k t
  locked = record { core = p.core; in_range = in_range }

  its_state : StateOk (used t) (lock t k) (lock t k).state
  its_state = ok_numbered (p.core.lock_ok k)

  denied_unmarked : (lock t k).completion ≡ 2 → (lock t k).mark ≡ 0
  denied_unmarked e =
      let s = noticed_denied (used t) (lock t k) (lock t k).state its_state e in
      (ok_at (used t) (lock t k) 4 (p.core.lock_ok k) (rw s)).no_mark

  -- one that is no denied request's holds a mode
  module _ (n : (lock t k).completion ≢ 2) where
    holder : holds (lock t k) ≡ true
    holder = noticed_holds (used t) (lock t k) (lock t k).state refl its_state p.has_notice n

    read_ok : LockOk (used t) (notice_read (lock t k))
    read_ok = noted_ok (used t) (lock t k) 0 0 (p.core.lock_ok k) holder (omega arith) (λ o. (omega arith, omega arith)) (λ o. refl)

    movable : Movable (lock t k).resource k (notice_read (lock t k)) t
    movable = record { core = p.core; in_range = in_range; near_old = λ z. refl; near_new = λ z. refl; ok = read_ok }

    -- granted, a denied conversion, or a mark alone
    completion_high : (lock t k).completion ≤ 3
    completion_high =
        by_cases (granted (lock t k))
        (λ g. (ok_at (used t) (lock t k) 1 (p.core.lock_ok k) g).notice)
        (λ g. omega (arith, (ok_at (used t) (lock t k) 2 (p.core.lock_ok k) (rw g at holder)).notice))

    mark_else : (lock t k).completion ≢ 1 → (lock t k).completion ≢ 3 → (lock t k).completion ≡ 0
    mark_else g d = omega (arith, n, g, d, completion_high)

abbrev answered : ℕ → ℕ → ℕ → Tables → Step
answered e k m t = record { said = accepted_with e k m; tables = t }

poll_some : (n k : ℕ) (t : Tables) → within n k ≡ true → poll_notice k t ≡ answered (lock t k).completion k (lock t k).mark (take_notice k t)
unfolding poll_notice
poll_some n zero t w = clash false w refl
poll_some n (suc k) t w = refl

-- a mark alone says its lock, which has a number from 1 on
alone_is : (n k m : ℕ) → within n k ≡ true → mark_alone k m ≡ accepted_with 0 k m
alone_is n zero m w = clash false w refl
alone_is n (suc k) m w = refl

take_denied : (k : ℕ) (t : Tables) → (lock t k).completion ≡ 2 → take_notice k t ≡ free_lock k t
unfolding take_notice
take_denied k t e = rw (eq-eqb (lock t k).completion 2 e, take_notice)

take_read : (k : ℕ) (t : Tables) → (lock t k).completion ≢ 2 → take_notice k t ≡ move (lock t k).resource k (notice_read (lock t k)) t
unfolding take_notice
take_read k t n = rw (ne_eqb (lock t k).completion 2 n, take_notice)

-- the notice with the completion e and the mark m is answered so
poll_done : (k : ℕ) (t : Tables) → Noticed k t → (e m : ℕ) (t' : Tables) → (lock t k).completion ≡ e → (lock t k).mark ≡ m → take_notice k t ≡ t' →
    poll_notice k t ≡ answered e k m t'
poll_done k t p e m t' ce cm h =
    poll_some (length t.locks) k t (in_range k t p) ∙ λ i. answered (ce i) k (cm i) (h i)

-- take_notice
module _ (k : ℕ) (a : List ℕ) where
  module _ (s : Some (Noticed k) a) where
    pub take_sized : Sized a
    take_sized = core_sized s.state a s.is s.good.core

    pub take_low : 1 ≤ k
    take_low = lock_low s.state a s.is k (in_range k s.state s.good)

    pub take_high : k ≤ locks_in a
    take_high = lock_high s.state a s.is k (in_range k s.state s.good)

    pub take_locked : Some (Locked k) a
    take_locked = record { state = s.state; good = locked k s.state s.good; is = s.is }

  module _ (l : Lock) (el : l ≡ read_lock a k) where
    l_is : (t : Tables) → Noticed k t → a ≡ words t → l ≡ lock t k
    l_is t p is = lock_is t a is k (in_range k t p) l el

    notice_is : (t : Tables) → Noticed k t → a ≡ words t → l.completion ≡ (lock t k).completion
    notice_is t p is = ap (λ (o : Lock). o.completion) (l_is t p is)

    mark_is : (t : Tables) → Noticed k t → a ≡ words t → (lock t k).mark ≡ l.mark
    mark_is t p is = ap (λ (o : Lock). o.mark) (sym (l_is t p is))

    pub take_freed : l.completion ≡ 2 → (b : List ℕ) → Turns (Locked k) (free_lock k) a b → MakesWords (Noticed k) (poll_notice k) a b (notice (options.Some (notice_cases.RequestDenied k)))
    take_freed e b frees = record {
      then = λ t p is.
          let d : (lock t k).completion ≡ 2 = sym (notice_is t p is) ∙ e in
          step_left (poll_notice k t) (accepted_with 2 k 0) (free_lock k t) b (slots t) (poll_done k t p 2 0 (free_lock k t) d (denied_unmarked k t p d) (take_denied k t d))
          (frees.then t (locked k t p) is) (sym (slots_free k t));
    }

    module _ (n : l.completion ≡ 2 → ⊥) (m : Lock) (em : m ≡ notice_read l) where
      other_at : (t : Tables) → Noticed k t → a ≡ words t → (lock t k).completion ≢ 2
      other_at t p is e = n (notice_is t p is ∙ e)

      m_is : (t : Tables) → Noticed k t → a ≡ words t → m ≡ notice_read (lock t k)
      m_is t p is = em ∙ ap (λ (o : Lock). notice_read o) (l_is t p is)

      pub take_moving : Some (Noticed k) a → Moving k m a
      take_moving s =
          record {
            state = s.state;
            resource = (lock s.state k).resource;
            good = rw (m_is s.state s.good s.is) (movable k s.state s.good (other_at s.state s.good s.is));
            is = s.is;
          }

      module _ (b : List ℕ) (moved : Moved k m a b) where
        read_at : (e : ℕ) (t : Tables) → Noticed k t → a ≡ words t → (lock t k).completion ≡ e → outcome (accepted_with e k l.mark) (lent b (slots t)) ≡ written (poll_notice k t)
        read_at e t p is ce =
            let o = other_at t p is in
            let r = (lock t k).resource in
            step_left (poll_notice k t) (accepted_with e k l.mark) (move r k (notice_read (lock t k)) t) b (slots t)
            (poll_done k t p e l.mark _ ce (mark_is t p is) (take_read k t o))
            ((subst (λ (q : Lock). Moved k q a b) (m_is t p is) moved).then r t (movable k t p o) is)
            (sym (slots_move r k (notice_read (lock t k)) t))

        pub take_granted : l.completion ≡ 1 → MakesWords (Noticed k) (poll_notice k) a b (notice (options.Some (notice_cases.Granted k l.mark)))
        take_granted e = record { then = λ t p is. read_at 1 t p is (sym (notice_is t p is) ∙ e) }

        pub take_refused : l.completion ≡ 3 → MakesWords (Noticed k) (poll_notice k) a b (notice (options.Some (notice_cases.ConversionDenied k l.mark)))
        take_refused e = record { then = λ t p is. read_at 3 t p is (sym (notice_is t p is) ∙ e) }

        pub take_marked : (l.completion ≡ 1 → ⊥) → (l.completion ≡ 3 → ⊥) → MakesWords (Noticed k) (poll_notice k) a b (notice (options.Some (notice_cases.Marked k l.mark)))
        take_marked g d = record {
          then = λ t p is.
              let none = mark_else k t p (other_at t p is) (λ e. g (notice_is t p is ∙ e)) (λ e. d (notice_is t p is ∙ e)) in
              ap (λ (x : Said). outcome x (lent b (slots t))) (alone_is (length t.locks) k l.mark (in_range k t p)) ∙ read_at 0 t p is none;
        }

pub ruleset take_laws = (rules, take_sized, take_low, take_high, take_locked, take_freed, take_moving, take_granted, take_refused, take_marked)

-- STATES. The first notice is one
first_noticed : (c : ℕ) (t : Tables) → Core t → (k : ℕ) → k ≢ 0 → k ≡ first_notice c t → Noticed k t
unfolding first_notice
first_noticed c t core zero n e = absurd (n refl)
first_noticed c t core (suc k) n e = record { core = core; has_notice = (on_chain t core.linked notices (suc k) (first_in _ t.notices k (sym e))).1 }

poll_is : (c k : ℕ) (t : Tables) → k ≡ first_notice c t → poll_change c t ≡ poll_notice k t
unfolding poll_change first_notice
poll_is c k t e = ap (λ (x : ℕ). poll_notice x t) (sym e)

poll_nothing : (k : ℕ) (t : Tables) → k ≡ 0 → poll_notice k t ≡ accepted_step 0 0 t
unfolding poll_notice
poll_nothing k t e = rw e

-- poll_change
module _ (c : ℕ) (a : List ℕ) where
  pub poll_none : Tells Core (λ t. numbered (first_notice c t)) a None → (x : Option Notice) → x ≡ None → MakesWords Valid (poll_change c) a a (notice x)
  poll_none tells x e = record {
    then = λ t v is.
        let z : 0 ≡ first_notice c t = sym (none_is (first_notice c t) (tells.then t v.core is)) in
        rw e (stepped (poll_change c t) 0 0 t a (slots t) (poll_is c 0 t z ∙ poll_nothing 0 t refl) is refl);
  }

  module _ (k : ℕ) (tells : Tells Core (λ t. numbered (first_notice c t)) a (options.Some k)) where
    module _ (t : Tables) (v : Valid t) (is : a ≡ words t) where
      first_is : k ≡ first_notice c t
      first_is = is_number k (first_notice c t) (tells.then t v.core is)

      noticed_at : Noticed k t
      noticed_at = let low = above_none k (first_notice c t) (tells.then t v.core is) in first_noticed c t v.core k (λ z. omega arith) first_is

    pub poll_noticed : Some Valid a → Some (Noticed k) a
    poll_noticed s = record { state = s.state; good = noticed_at s.state s.good s.is; is = s.is }

    pub poll_taken : (b : List ℕ) (x : Said) → MakesWords (Noticed k) (poll_notice k) a b x → MakesWords Valid (poll_change c) a b x
    poll_taken b x takes = record {
      then = λ t v is. rw (poll_is c k t (first_is t v is)) (takes.then t (noticed_at t v is) is);
    }

pub ruleset poll_laws = (rules, valid_core, poll_none, poll_noticed, poll_taken)
