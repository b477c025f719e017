-- Whether a conversion can be made in place, from the words of a state.
use mathlib.Core.Path.{◌≡◌, refl, sym, ◌∙◌, ap, subst}
use mathlib.Core.Bool.{Bool}
use mathlib.Core.List.{List}
use Prim.Native.Nat.{ℕ, ◌<◌, ◌≤◌}
use native.Mathlib.Omega.{arith}
use lib.ListN.{length}
use borrow.Author.Rules.{rules}
use borrow.Author.Tests.{eqb-true}
use Rattle.modes.specs.declared.Mode.{Mode}
use Rattle.modes.specs.Made.{mode_number}
use Rattle.tables.specs.declared.Lock.{Lock}
use Rattle.tables.specs.State.{Tables, lock}
use Rattle.tables.specs.Layout.{words, locks_in, read_lock}
use Rattle.tables.proofs.Counts.{within_le}
use Rattle.tables.specs.Validity.{used, Granted}
use Rattle.tables.proofs.Valid.{ok_at, used_within}
use Rattle.tables.proofs.ChainMembers.{state_within}
use Rattle.table_fields.specs.Sizes.{Sized}
use Rattle.table_fields.proofs.StateWords.{locks_is, core_sized, lock_record}
use Rattle.rules.specs.Calls.{in_place}
use Rattle.table_chains.specs.Promises.{Some, Tells, Resourced}
use Rattle.queues.specs.declared.Occupancy.{Occupancy}
use Rattle.queues.specs.Decisions.{read_occupancy, admits_conversion}
use Rattle.queues.specs.Promises.{GrantedLock}
use Rattle.queues.proofs.ModeNumbers.{mode_below}
use Rattle.queues.proofs.Decisions.{conversion_told}

-- a granted lock stands on a resource that is there
module _ (k : ℕ) (t : Tables) (p : GrantedLock k t) where
  range : (1 ≤ k) × (k ≤ length t.locks)
  range = within_le (length t.locks) k (state_within t k 0 (eqb-true (lock t k).state 1 p.is_granted))

  record_is : Granted (used t) (lock t k)
  record_is = ok_at (used t) (lock t k) 1 (p.core.lock_ok k) p.is_granted

  its_resource : Resourced (lock t k).resource t
  its_resource = record { core = p.core; in_range = used_within t (lock t k).resource record_is.place.in_use }

module _ (ws : List ℕ) (k : ℕ) where
  pub held_sized : Some (GrantedLock k) ws → Sized ws
  held_sized s = core_sized s.state ws s.is s.good.core

  pub held_low : Some (GrantedLock k) ws → 1 ≤ k
  held_low s = (range k s.state s.good).0

  pub held_high : Some (GrantedLock k) ws → k ≤ locks_in ws
  held_high s = rw (locks_is s.state ws s.is) (range k s.state s.good).1

  module _ (l : Lock) (el : l ≡ read_lock ws k) where
    l_is : (t : Tables) → GrantedLock k t → ws ≡ words t → l ≡ lock t k
    l_is t p is = el ∙ lock_record t ws is k (range k t p).0 (range k t p).1

    pub held_mode : Some (GrantedLock k) ws → l.held < 6
    held_mode s = rw (l_is s.state s.good s.is) (omega (arith, (record_is k s.state s.good).place.held_mode))

    pub held_resourced : Some (GrantedLock k) ws → Some (Resourced l.resource) ws
    held_resourced s =
        record {
          state = s.state;
          good = subst (λ (o : Lock). Resourced o.resource s.state) (sym (l_is s.state s.good s.is)) (its_resource k s.state s.good);
          is = s.is;
        }

    pub place_told : (s : Occupancy) → s ≡ read_occupancy ws l.resource → (m : Mode) → (b : Bool) → b ≡ admits_conversion s l.held (mode_number m) → Tells (GrantedLock k) (in_place k (mode_number m)) ws b
    place_told s es m b eb = record {
      then = λ t p is.
          eb
          ∙ ap (λ (x : Occupancy). admits_conversion x l.held (mode_number m)) es
          ∙ ap (λ (o : Lock). admits_conversion (read_occupancy ws o.resource) o.held (mode_number m)) (l_is t p is)
          ∙ conversion_told (lock t k).resource t (its_resource k t p) ws is k (mode_number m) (mode_below m) p.is_granted refl;
    }

pub ruleset placing = (rules, held_sized, held_low, held_high, held_mode, held_resourced, place_told)
