-- What a poll and a purge say, of the locks as they found them.
use mathlib.Core.Path.{◌≡◌, refl, ap, ◌∙◌}
use mathlib.Core.Logic.{◌≢◌}
use mathlib.Core.Bool.{Bool, true, ◌&&◌}
use Prim.Native.Nat.{ℕ, zero, suc, ◌≤◌}
use native.Mathlib.Omega.{arith}
use lib.ListN.{length}
use lib.Dec.{eqb}
use borrow.Author.Tests.{eq-eqb, le-leb}
use Rattle.tables.specs.declared.Lock.{Lock}
use Rattle.tables.specs.Lists.{within, bit, from}
use Rattle.tables.specs.State.{Tables, lock, blocked_lock, unread, notices, last_client}
use Rattle.tables.specs.Sound.{client_right}
use Rattle.tables.proofs.Cases.{clash, or_left}
use Rattle.tables.proofs.Counts.{first_none}
use Rattle.tables.specs.Validity.{used, Core}
use Rattle.tables.proofs.StateCases.{StateOk, ok_numbered}
use Rattle.tables.proofs.ChainMembers.{chain_has}
use Rattle.rules.specs.Calls.{unless, refused_or, locks_of, how_many, purge_change, purge_refusal, purge, poll_notice, poll_change, poll_refusal, poll}
use Rattle.rules.proofs.ListOrder.{keep_keep}
use Rattle.rules.proofs.LockWeights.{weight, weight_bits}
use Rattle.rules.proofs.CallsKeepSound.{first_notice}

-- POLL. A lock with a completion has a client
its_client : (u : ℕ → Bool) (l : Lock) (s : ℕ) → StateOk u l s → unread l ≡ true → (1 ≤ l.client) × (l.client ≤ last_client)
its_client u l zero ok h = clash (unread l) h (rw ok)
its_client u l (suc zero) ok h = (ok.place.client_low, ok.place.client_high)
its_client u l (suc (suc zero)) ok h = (ok.place.client_low, ok.place.client_high)
its_client u l (suc (suc (suc zero))) ok h = (ok.place.client_low, ok.place.client_high)
its_client u l (suc (suc (suc (suc zero)))) ok h = (ok.client_low, ok.client_high)
its_client u l (suc (suc (suc (suc (suc n))))) ok h = absurd ok

module _ (t : Tables) (co : Core t) (j : ℕ) (w : within (length t.locks) j ≡ true) (u : unread (lock t j) ≡ true) where
  abbrev i : ℕ
  i = (lock t j).client

  -- it stands on the notice chain, where the poll finds it or one before it
  noticed_first : first_notice i t ≢ 0
  noticed_first e =
      clash (eqb (lock t j).client i) (eq-eqb i i refl)
      (first_none (λ k. eqb (lock t k).client i) t.notices e (co.linked notices 0) j
      (omega (arith, chain_has t co.linked notices j w (or_left (unread (lock t j)) _ u))))

  not_refused : poll_refusal i ≡ 0
  unfolding poll_refusal unless client_right
  not_refused =
      let c = its_client (used t) (lock t j) (lock t j).state (ok_numbered (co.lock_ok j)) u in
      rw (le-leb 1 i c.0, le-leb i last_client c.1)

  -- a client that has a completion unread gets a notice
  pub poll_tells : (poll i t).said.number ≢ 0
  unfolding poll refused_or poll_change poll_notice
  poll_tells = rw (not_refused, refused_or) (go (first_notice i t) noticed_first)
    where
      go : (n : ℕ) → n ≢ 0 → (poll_notice n t).said.number ≢ 0
      go zero z e = z refl
      go (suc k) z e = absurd (omega arith)

-- the poll of a lock says its completion
pub poll_says : (c j : ℕ) (t : Tables) → 1 ≤ j → (poll c t).said.number ≡ j → (poll c t).said.answer ≡ (lock t j).completion
unfolding poll refused_or poll_change poll_notice
poll_says c j t low = go (poll_refusal c)
  where
    on : (n : ℕ) → (poll_notice n t).said.number ≡ j → (poll_notice n t).said.answer ≡ (lock t j).completion
    on zero e = absurd (omega (arith, low, e))
    on (suc k) e = ap (λ (k : ℕ). (lock t k).completion) e

    go : (x : ℕ) → (refused_or x (poll_change c t) t).said.number ≡ j → (refused_or x (poll_change c t) t).said.answer ≡ (lock t j).completion
    go zero e = on (first_notice c t) e
    go (suc x) e = absurd (omega (arith, low, e))

-- PURGE
how_many_own : (p : Lock → Bool) (c : ℕ) (t : Tables) → how_many p (locks_of c t) t ≡ weight (λ l. bit (eqb l.client c && p l)) t
unfolding how_many locks_of
how_many_own p c t =
    ap length (keep_keep (λ k. p (lock t k)) (λ k. eqb (lock t k).client c) (from 1 (length t.locks))) ∙ weight_bits (λ l. eqb l.client c && p l) t

pub purge_says : (c : ℕ) (t : Tables) → (purge c t).said.refusal ≡ 0 →
    ((purge c t).said.number ≡ weight (λ l. bit (eqb l.client c && blocked_lock l)) t) × ((purge c t).said.extra ≡ weight (λ l. bit (eqb l.client c && unread l)) t)
unfolding purge refused_or purge_change
purge_says c t = go (purge_refusal c)
  where
    go : (x : ℕ) → (refused_or x (purge_change c t) t).said.refusal ≡ 0 →
        ((refused_or x (purge_change c t) t).said.number ≡ weight (λ l. bit (eqb l.client c && blocked_lock l)) t)
        × ((refused_or x (purge_change c t) t).said.extra ≡ weight (λ l. bit (eqb l.client c && unread l)) t)
    go zero e = (how_many_own blocked_lock c t, how_many_own unread c t)
    go (suc x) e = absurd (omega arith)
