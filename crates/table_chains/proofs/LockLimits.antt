-- The limits that every lock keeps to, whatever its state, and what the words say of one.
use mathlib.Core.Path.{◌≡◌, ◌∙◌, ap}
use mathlib.Core.List.{List}
use Prim.Native.Nat.{ℕ, suc, ◌<◌}
use native.Mathlib.Omega.{arith}
use Rattle.tables.specs.declared.Lock.{Lock}
use Rattle.tables.specs.State.{Tables, lock, last_client, last_mode}
use Rattle.tables.specs.Layout.{of_lock, word_in, read_lock}
use Rattle.tables.specs.Validity.{used, Core}
use Rattle.tables.proofs.StateCases.{ok_numbered}
use Rattle.tables.proofs.Valid.{modes_low, client_low}
use Rattle.table_fields.specs.Sizes.{Sized}
use Rattle.table_chains.specs.Walking.{At}
use Rattle.table_fields.proofs.StateWords.{locks_is, lock_record}
use Rattle.table_chains.proofs.ChainWalks.{some_sized}

module _ (t : Tables) (core : Core t) (k : ℕ) where
  pub client_few : (lock t k).client < suc last_client
  client_few = omega (arith, client_low (used t) (lock t k) (lock t k).state (ok_numbered (core.lock_ok k)))

  pub held_few : (lock t k).held < suc last_mode
  held_few = omega (arith, (modes_low (used t) (lock t k) (lock t k).state (ok_numbered (core.lock_ok k))).0)

  pub asked_few : (lock t k).asked < suc last_mode
  asked_few = omega (arith, (modes_low (used t) (lock t k) (lock t k).state (ok_numbered (core.lock_ok k))).1)

-- a lock in the words
pub at_sized : {ws : List ℕ} {k : ℕ} → At ws k → Sized ws
at_sized a = some_sized a.some

module _ (ws : List ℕ) (k : ℕ) (a : At ws k) where
  pub lock_told : read_lock ws k ≡ lock a.some.state k
  lock_told =
      let s = a.some in
      lock_record s.state ws s.is k a.low (omega (arith, a.high, locks_is s.state ws s.is))

  -- its modes are modes
  pub held_mode : (x : ℕ) → x ≡ word_in ws (of_lock k 6) → x < 6
  unfolding read_lock
  held_mode x e = rw (e ∙ ap (λ (l : Lock). l.held) lock_told) (held_few a.some.state a.some.good k)

  pub asked_mode : (x : ℕ) → x ≡ word_in ws (of_lock k 7) → x < 6
  unfolding read_lock
  asked_mode x e = rw (e ∙ ap (λ (l : Lock). l.asked) lock_told) (asked_few a.some.state a.some.good k)
