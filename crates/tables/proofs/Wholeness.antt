-- In a structurally valid state every lock stands where its fields say.
use mathlib.Core.Path.{◌≡◌, refl}
use mathlib.Core.Bool.{Bool, true, false}
use mathlib.Core.List.{List}
use Prim.Native.Nat.{ℕ, zero, suc, ◌≤◌}
use native.Mathlib.Omega.{arith}
use lib.ListN.{length}
use borrow.Author.Tests.{eq-eqb}
use Rattle.tables.specs.Lists.{count, bit}
use Rattle.tables.specs.State.{Lock, Tables, lock, blocked_lock, noticed, LockChain, blocked, notices, of_locks, chain, home_at, home, belongs}
use Rattle.tables.proofs.Cases.{and_intro, eqb_same}
use Rattle.tables.proofs.Counts.{within_le, le_within}
use Rattle.tables.proofs.Links.{count_absent, counted_on}
use Rattle.tables.specs.Threads.{Present}
use Rattle.tables.proofs.Chains.{home_past}
use Rattle.tables.specs.Threads.{Seat, Whole}
use Rattle.tables.specs.Validity.{used, Place, LockOk, Core}
use Rattle.tables.proofs.StateCases.{StateOk, ok_numbered}
use Rattle.tables.proofs.Valid.{used_within}
use Rattle.tables.proofs.ChainMembers.{chain_has}
use Rattle.tables.proofs.ThreadedChains.{core_threaded}

pub counted_seat : (b : Bool) (k : ℕ) (xs : List ℕ) → count k xs ≡ bit b → Seat b k xs
counted_seat true k xs e = counted_on k xs (omega arith)
counted_seat false k xs e = count_absent k xs e

-- a lock belongs on its home
pub home_belongs : (u : ℕ → Bool) (l : Lock) → LockOk u l → belongs (home l) l ≡ true
home_belongs u l ok = go l.state refl (ok_numbered ok)
  where
    go : (s : ℕ) → l.state ≡ s → StateOk u l s → belongs (home_at s l.resource) l ≡ true
    go zero e o = eq-eqb l.state 0 e
    go (suc zero) e o = and_intro _ _ (eq-eqb l.state 1 e) (eqb_same l.resource)
    go (suc (suc zero)) e o = and_intro _ _ (eq-eqb l.state 2 e) (eqb_same l.resource)
    go (suc (suc (suc zero))) e o = and_intro _ _ (eq-eqb l.state 3 e) (eqb_same l.resource)
    go (suc (suc (suc (suc zero)))) e o = eq-eqb l.state 4 e
    go (suc (suc (suc (suc (suc s))))) e o = absurd o

-- and its home is there
pub present_home : (t : Tables) (l : Lock) → LockOk (used t) l → Present t (of_locks (home l))
present_home t l ok = go l.state (ok_numbered ok)
  where
    range : Place (used t) l → (1 ≤ l.resource) × (l.resource ≤ length t.resources)
    range p = within_le (length t.resources) l.resource (used_within t l.resource p.in_use)

    go : (s : ℕ) → StateOk (used t) l s → Present t (of_locks (home_at s l.resource))
    go zero o = omega arith
    go (suc zero) o = ((range o.place).0, (range o.place).1, omega arith)
    go (suc (suc zero)) o = ((range o.place).0, (range o.place).1, omega arith)
    go (suc (suc (suc zero))) o = ((range o.place).0, (range o.place).1, omega arith)
    go (suc (suc (suc (suc s)))) o = rw (home_past (suc (suc (suc (suc s)))) l.resource (omega arith)) (omega arith)

module _ (t : Tables) (core : Core t) where
  -- how often a lock stands on a chain, and whether
  pub stands_count : (c : LockChain) (k : ℕ) → 1 ≤ k → k ≤ length t.locks → count k (chain t c) ≡ bit (belongs c (lock t k))
  stands_count c k p q = rw (le_within (length t.locks) k p q) at (core.linked c k)

  pub core_whole : Whole (length t.resources) (length t.locks) t
  core_whole =
      record {
        sane = record { resources = refl; locks = refl; chains = core_threaded t core };
        homes = λ k p q. present_home t (lock t k) (core.lock_ok k);
        at_home = λ k p q. counted_on k (chain t (home (lock t k))) (omega (arith, chain_has t core.linked (home (lock t k)) k (le_within (length t.locks) k p q) (home_belongs (used t) (lock t k) (core.lock_ok k))));
        on_blocked = λ k p q. counted_seat (blocked_lock (lock t k)) k t.blocked (stands_count blocked k p q);
        on_notices = λ k p q. counted_seat (noticed (lock t k)) k t.notices (stands_count notices k p q);
      }
