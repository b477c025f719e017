-- A conversion in place and one on the convert queue, in the words and slots of a state.
use mathlib.Core.Path.{◌≡◌, sym, ◌∙◌, ap}
use mathlib.Core.Bool.{Bool}
use mathlib.Core.List.{List}
use Prim.Native.Nat.{ℕ, ◌≤◌}
use borrow.Author.Rules.{rules}
use Rattle.tables.specs.declared.Lock.{Lock}
use Rattle.tables.specs.State.{Tables, lock, move}
use Rattle.tables.specs.Layout.{words, slots, locks_in, read_lock}
use Rattle.tables.proofs.ReadBack.{lock_read}
use Rattle.tables.proofs.SlotChanges.{slots_move}
use Rattle.rules.specs.Queues.{sweep}
use Rattle.rules.specs.Calls.{leave_value, tell_obstacles, held_at, asking}
use Rattle.table_fields.specs.Sizes.{Sized}
use Rattle.table_fields.proofs.StateWords.{locks_is, core_sized}
use Rattle.table_chains.specs.Promises.{Some, Turns, Changes, Movable, Moving, Moved, Resourced}
use Rattle.marks.specs.Promises.{Begun}
use Rattle.queues.specs.Promises.{SomeTables, Valued}
use Rattle.queues.proofs.ResourceRecord.{slots_sweep}
use Rattle.queues.specs.Promises.{GrantedLock}
use Rattle.call_convert.specs.Promises.{lowers, granted_in_place, on_convert_queue, Asks, ConvertsInPlace}
use Rattle.call_convert.proofs.AskingLock.{held_range, asking_movable, asking_begun, placed_valued, placed_movable, placed_resourced}

-- the record of a granted lock, read from the words
module _ (k : ℕ) (a : List ℕ) (t : Tables) (p : GrantedLock k t) (is : a ≡ words t) where
  sized_at : Sized a
  sized_at = core_sized t a is p.core

  high_at : k ≤ locks_in a
  high_at = rw (locks_is t a is) (held_range k t p).1

  record_at : read_lock a k ≡ lock t k
  record_at = ap (λ (w : List ℕ). read_lock w k) is ∙ lock_read t k (held_range k t p).0 (held_range k t p).1

-- queue_conversion
module _ (k m : ℕ) (a : List ℕ) where
  module _ (s : Some (Asks k m) a) where
    pub asks_sized : Sized a
    asks_sized = sized_at k a s.state s.good.held s.is

    pub asks_low : 1 ≤ k
    asks_low = (held_range k s.state s.good.held).0

    pub asks_high : k ≤ locks_in a
    asks_high = high_at k a s.state s.good.held s.is

  module _ (l n : Lock) (el : l ≡ read_lock a k) (en : n ≡ asking m l) where
    asked_is : (t : Tables) → Asks k m t → a ≡ words t → n ≡ asking m (lock t k)
    asked_is t p is = en ∙ ap (asking m) (el ∙ record_at k a t p.held is)

    asked_move : (t : Tables) → Asks k m t → a ≡ words t → Movable (lock t k).resource k n t
    asked_move t p is = rw (asked_is t p is) (asking_movable k m t p)

    pub asks_moving : Some (Asks k m) a → Moving k n a
    asks_moving s = record { state = s.state; resource = (lock s.state k).resource; good = asked_move s.state s.good s.is; is = s.is }

    module _ (b : List ℕ) (moved : Moved k n a b) where
      queued_is : (t : Tables) → Asks k m t → a ≡ words t → b ≡ words (move (lock t k).resource k (asking m (lock t k)) t)
      queued_is t p is =
          moved.then (lock t k).resource t (asked_move t p is) is ∙ ap (λ (z : Lock). words (move (lock t k).resource k z t)) (asked_is t p is)

      pub asks_begins : Some (Asks k m) a → Some (Begun k) b
      asks_begins s =
          record {
            state = move (lock s.state k).resource k (asking m (lock s.state k)) s.state;
            good = asking_begun k m s.state s.good;
            is = queued_is s.state s.good s.is;
          }

      pub asks_queued : (d : List ℕ) → Turns (Begun k) (tell_obstacles k) b d → Turns (Asks k m) (on_convert_queue k m) a d
      unfolding on_convert_queue
      asks_queued d told = record { then = λ t p is. told.then _ (asking_begun k m t p) (queued_is t p is) }

pub ruleset asks_laws = (rules, asks_sized, asks_low, asks_high, asks_moving, asks_begins, asks_queued)

-- convert_in_place
module _ (k m f : ℕ) (v a sa : List ℕ) where
  module _ (s : SomeTables (ConvertsInPlace k m f v) a sa) where
    pub placed_sized : Sized a
    placed_sized = sized_at k a s.state s.good.asks.held s.is

    pub placed_low : 1 ≤ k
    placed_low = (held_range k s.state s.good.asks.held).0

    pub placed_high : k ≤ locks_in a
    placed_high = high_at k a s.state s.good.asks.held s.is

  module _ (l : Lock) (el : l ≡ read_lock a k) where
    l_is : (t : Tables) → ConvertsInPlace k m f v t → a ≡ words t → l ≡ lock t k
    l_is t p is = el ∙ record_at k a t p.asks.held is

    valued_at : (t : Tables) → ConvertsInPlace k m f v t → a ≡ words t → Valued f v l.resource t
    valued_at t p is = rw (l_is t p is) (placed_valued k m f v t p)

    pub placed_leaves : SomeTables (ConvertsInPlace k m f v) a sa → SomeTables (Valued f v l.resource) a sa
    placed_leaves s = record { state = s.state; good = valued_at s.state s.good s.is; is = s.is; slots_are = s.slots_are }

    module _ (x : Bool) (b sb : List ℕ) (left : Changes (Valued f v l.resource) (leave_value x f v l.resource) a sa b sb) (n : Lock) (en : n ≡ held_at m l) where
      module _ (t : Tables) (p : ConvertsInPlace k m f v t) (is : a ≡ words t) (iss : sa ≡ slots t) where
        left_is : (b ≡ words (leave_value x f v l.resource t)) × (sb ≡ slots (leave_value x f v l.resource t))
        left_is = left.then t (valued_at t p is) is iss

        move_at : Movable l.resource k n (leave_value x f v l.resource t)
        move_at = rw (en, l_is t p is) (placed_movable k m f v t p x)

        there_at : Resourced l.resource (move l.resource k n (leave_value x f v l.resource t))
        there_at = rw (en, l_is t p is) (placed_resourced k m f v t p x)

      pub placed_moving : SomeTables (ConvertsInPlace k m f v) a sa → Moving k n b
      placed_moving s =
          record {
            state = leave_value x f v l.resource s.state;
            resource = l.resource;
            good = move_at s.state s.good s.is s.slots_are;
            is = (left_is s.state s.good s.is s.slots_are).0;
          }

      module _ (d : List ℕ) (moved : Moved k n b d) where
        moved_is : (t : Tables) → ConvertsInPlace k m f v t → a ≡ words t → sa ≡ slots t → d ≡ words (move l.resource k n (leave_value x f v l.resource t))
        moved_is t p is iss = moved.then l.resource (leave_value x f v l.resource t) (move_at t p is iss) (left_is t p is iss).0

        pub placed_sweeps : SomeTables (ConvertsInPlace k m f v) a sa → Some (Resourced l.resource) d
        placed_sweeps s =
            record {
              state = move l.resource k n (leave_value x f v l.resource s.state);
              good = there_at s.state s.good s.is s.slots_are;
              is = moved_is s.state s.good s.is s.slots_are;
            }

        pub placed_made : x ≡ lowers l.held m → (e : List ℕ) → Turns (Resourced l.resource) (sweep l.resource) d e → Changes (ConvertsInPlace k m f v) (granted_in_place k m f v) a sa e sb
        unfolding granted_in_place
        placed_made ex e swept = record {
          then = λ t p is iss.
              let r = l.resource in
              let u = leave_value x f v r t in
              let same : sweep r (move r k n u) ≡ granted_in_place k m f v t = rw (ex, en, l_is t p is) in (
                swept.then (move r k n u) (there_at t p is iss) (moved_is t p is iss) ∙ ap words same,
                (left_is t p is iss).1 ∙ sym (slots_sweep r (move r k n u) ∙ slots_move r k n u) ∙ ap slots same,
              );
        }

pub ruleset placed_laws = (rules, placed_sized, placed_low, placed_high, placed_leaves, placed_moving, placed_sweeps, placed_made)
