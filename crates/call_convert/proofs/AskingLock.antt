-- A granted lock that asks for a mode, on a state: what it may become.
use mathlib.Core.Path.{◌≡◌, refl}
use mathlib.Core.Bool.{Bool, true}
use mathlib.Core.List.{List}
use Prim.Native.Nat.{ℕ, ◌≤◌}
use native.Mathlib.Omega.{arith}
use lib.ListN.{length}
use borrow.Author.Tests.{eqb-true}
use Rattle.tables.specs.Lists.{within}
use Rattle.tables.specs.State.{Tables, lock, granted, move}
use Rattle.tables.proofs.Counts.{within_le}
use Rattle.tables.specs.Validity.{used, Place, as_granted, as_converting}
use Rattle.tables.proofs.Cases.{or_left}
use Rattle.tables.proofs.Valid.{ok_at, used_within, lock_same, resources_length, core_move}
use Rattle.tables.proofs.ChainMembers.{state_within}
use Rattle.rules.proofs.CallsKeepSound.{convert_fits}
use Rattle.rules.specs.Calls.{leave_value, held_at, asking}
use Rattle.rules.proofs.ResourceChanges.{Quiet, leave_quiet}
use Rattle.table_chains.specs.Promises.{Movable, Resourced}
use Rattle.marks.specs.Promises.{Begun}
use Rattle.queues.specs.Promises.{Valued}
use Rattle.queues.specs.Promises.{GrantedLock}
use Rattle.call_convert.specs.Promises.{Asks, ConvertsInPlace}

module _ (k : ℕ) (t : Tables) (p : GrantedLock k t) where
  pub held_within : within (length t.locks) k ≡ true
  held_within = state_within t k 0 (eqb-true (lock t k).state 1 p.is_granted)

  pub held_range : (1 ≤ k) × (k ≤ length t.locks)
  held_range = within_le (length t.locks) k held_within

  held_place : Place (used t) (lock t k)
  held_place = (ok_at (used t) (lock t k) 1 (p.core.lock_ok k) p.is_granted).place

-- on the convert queue
pub asking_movable : (k m : ℕ) (t : Tables) → Asks k m t → Movable (lock t k).resource k (asking m (lock t k)) t
asking_movable k m t p =
    let o = held_place k t p.held in
    record {
      core = p.held.core;
      in_range = held_within k t p.held;
      near_old = λ z. refl;
      near_new = λ z. refl;
      ok = as_converting refl (record {
        place = record { in_use = o.in_use; client_low = o.client_low; client_high = o.client_high; held_mode = o.held_mode; asked_mode = p.mode; mark_mode = o.mark_mode };
        notice = refl;
      });
    }

pub asking_begun : (k m : ℕ) (t : Tables) → Asks k m t → Begun k (move (lock t k).resource k (asking m (lock t k)) t)
asking_begun k m t p =
    let r = (lock t k).resource in
    let l = asking m (lock t k) in
    let g = asking_movable k m t p in
    record {
      core = core_move r k l t g.core g.in_range g.near_old g.near_new g.ok
          (λ z j i q e. p.held.core.agree j k i q (or_left (granted (lock t k)) _ p.held.is_granted) e);
      is_blocked = rw (lock_same r k l t g.in_range);
    }

-- in place, after the value has been left or not
module _ (k m f : ℕ) (v : List ℕ) (t : Tables) (p : ConvertsInPlace k m f v t) where
  pub placed_valued : Valued f v (lock t k).resource t
  placed_valued =
      record { core = p.asks.held.core; in_range = used_within t (lock t k).resource (held_place k t p.asks.held).in_use; right = p.right }

  module _ (b : Bool) where
    quiet : Quiet t (leave_value b f v (lock t k).resource t)
    quiet = leave_quiet b f v (lock t k).resource t p.right (λ z. (held_place k t p.asks.held).in_use) p.asks.held.core

    pub placed_movable : Movable (lock t k).resource k (held_at m (lock t k)) (leave_value b f v (lock t k).resource t)
    placed_movable =
        let o = held_place k t p.asks.held in
        record {
          core = quiet.core;
          in_range = rw quiet.locks_are (held_within k t p.asks.held);
          near_old = λ z. rw (quiet.lock_is k);
          near_new = λ z. refl;
          ok = as_granted refl (record {
            place = record { in_use = rw (quiet.used_is (lock t k).resource) o.in_use; client_low = o.client_low; client_high = o.client_high; held_mode = p.asks.mode; asked_mode = omega arith; mark_mode = o.mark_mode };
            asks = refl;
            notice = omega arith;
            not_denied = omega arith;
          });
        }

    pub placed_resourced : Resourced (lock t k).resource (move (lock t k).resource k (held_at m (lock t k)) (leave_value b f v (lock t k).resource t))
    placed_resourced =
        let r = (lock t k).resource in
        let l = held_at m (lock t k) in
        let g = placed_movable in
        let t0 = leave_value b f v r t in
        record {
          core = core_move r k l t0 g.core g.in_range g.near_old g.near_new g.ok
              (λ z j n. rw (quiet.lock_is j) (convert_fits k m t p.asks.held.core p.asks.held.is_granted p.at_once j n));
          in_range = rw (resources_length r k l t0, quiet.resources_are) placed_valued.in_range;
        }
