-- In a structurally valid state every chain is threaded: so what is read back from its words and slots is the state.
use mathlib.Core.Path.{◌≡◌, refl, ap, ap₂}
use mathlib.Core.Bool.{true, ◌&&◌}
use mathlib.Core.List.{List, [], ◌∷◌}
use Prim.Native.Nat.{ℕ, ◌≤◌}
use native.Mathlib.Omega.{arith}
use lib.ListN.{length}
use borrow.Author.Tests.{eqb-true}
use Rattle.tables.specs.Lists.{within, count, null}
use Rattle.tables.specs.State.{Lock, Tables, lock, resource, granted, converting, waiting, grants, converts, waits, LockChain, free_locks, denied, blocked, notices, queue, Chain, free_resources, of_locks, chain, home_at, home, belongs}
use Rattle.tables.proofs.Cases.{by_cases, and_left, and_right}
use Rattle.tables.proofs.Counts.{within_le, count_same, count_step}
use Rattle.tables.specs.Threads.{Each}
use Rattle.tables.proofs.Links.{counted_distinct}
use Rattle.tables.specs.Threads.{Present}
use Rattle.tables.specs.Threads.{Stands, Threaded}
use Rattle.tables.proofs.WordChanges.{stands}
use Rattle.tables.proofs.ReadBack.{Readable}
use Rattle.tables.proofs.Frame.{Homed}
use Rattle.tables.proofs.HomeChange.{stands_at_home}
use Rattle.tables.specs.Validity.{Core}
use Rattle.tables.proofs.ChainMembers.{and_bit, on_chain, chain_once}

-- what holds of every number that is counted holds of each on the list
pub each_counted : (P : ℕ → Type 0) (xs : List ℕ) → ((k : ℕ) → 1 ≤ count k xs → P k) → Each P xs
each_counted P [] h = tt
each_counted P (x ∷ xs) h = (h x (rw count_same (omega arith)), each_counted P xs (λ k m. h k (omega (arith, count_step k x xs))))

-- a lock belongs on no home chain but its home
pub belongs_home : (c : LockChain) (l : Lock) → Homed (of_locks c) → belongs c l ≡ true → home l ≡ c
belongs_home free_locks l h b = ap (λ (s : ℕ). home_at s l.resource) (eqb-true l.state 0 b)
belongs_home denied l h b = ap (λ (s : ℕ). home_at s l.resource) (eqb-true l.state 4 b)
belongs_home blocked l h b = absurd h
belongs_home notices l h b = absurd h
belongs_home (queue r grants) l h b = ap₂ home_at (eqb-true l.state 1 (and_left _ _ b)) (eqb-true l.resource r (and_right (granted l) _ b))
belongs_home (queue r converts) l h b = ap₂ home_at (eqb-true l.state 2 (and_left _ _ b)) (eqb-true l.resource r (and_right (converting l) _ b))
belongs_home (queue r waits) l h b = ap₂ home_at (eqb-true l.state 3 (and_left _ _ b)) (eqb-true l.resource r (and_right (waiting l) _ b))

module _ (t : Tables) (core : Core t) where
  member_in : (c : LockChain) (k : ℕ) → 1 ≤ count k (chain t c) → (1 ≤ k) × (k ≤ length t.locks)
  member_in c k m = within_le (length t.locks) k (on_chain t core.linked c k m).0

  stands_homed : (c : LockChain) → Homed (of_locks c) → (k : ℕ) → 1 ≤ count k (chain t c) → Stands t (of_locks c) k
  stands_homed c h k m =
      stands_at_home t (of_locks c) k h (member_in c k m).0 (member_in c k m).1 (ap of_locks (belongs_home c (lock t k) h (on_chain t core.linked c k m).1))

  stands_there : (c : LockChain) (k : ℕ) → 1 ≤ count k (chain t c) → Stands t (of_locks c) k
  stands_there free_locks k m = stands_homed free_locks tt k m
  stands_there denied k m = stands_homed denied tt k m
  stands_there blocked k m = stands t (of_locks blocked) k (member_in blocked k m).0 ((member_in blocked k m).0, (member_in blocked k m).1, omega arith) refl
  stands_there notices k m = stands t (of_locks notices) k (member_in notices k m).0 ((member_in notices k m).0, (member_in notices k m).1, omega arith) refl
  stands_there (queue r q) k m = stands_homed (queue r q) tt k m

  spare_in : (r : ℕ) → 1 ≤ count r t.free_resources → (1 ≤ r) × (r ≤ length t.resources)
  spare_in r m = within_le (length t.resources) r (and_bit (within (length t.resources) r) (null (resource t r).name) (rw (core.spare r) at m)).0

  spare_once : (r : ℕ) → count r t.free_resources ≤ 1
  spare_once r = rw (core.spare r) (by_cases (within (length t.resources) r && null (resource t r).name) (λ e. rw e (omega arith)) (λ e. rw e (omega arith)))

  pub core_threaded : (c : Chain) → Present t c → Threaded t c
  core_threaded free_resources h =
      record {
        present = h;
        distinct = counted_distinct t.free_resources spare_once;
        members = each_counted (Stands t free_resources) t.free_resources (λ r m. stands t free_resources r (spare_in r m).0 ((spare_in r m).0, (spare_in r m).1, omega arith) refl);
      }
  core_threaded (of_locks c) h =
      record {
        present = h;
        distinct = counted_distinct (chain t c) (chain_once t core.linked c);
        members = each_counted (Stands t (of_locks c)) (chain t c) (stands_there c);
      }

  pub core_readable : Readable t
  core_readable = record { chains = core_threaded; names = λ r. (core.resource_ok r).name_length; values = λ r. (core.resource_ok r).value_length }
