-- A conversion that is not refused: in place, or on the convert queue.
use mathlib.Core.Path.{◌≡◌, sym, ◌∙◌, refl}
use mathlib.Core.Bool.{Bool, true, false}
use mathlib.Core.List.{List}
use Prim.Native.Nat.{ℕ}
use borrow.Author.Rules.{rules}
use Rattle.tables.specs.State.{Tables, lock, move}
use Rattle.tables.specs.Layout.{words}
use Rattle.tables.proofs.SlotChanges.{slots_move}
use Rattle.rules.specs.Calls.{no_queue, asking, in_place, convert_change}
use Rattle.rules.specs.Accepted.{Convertible}
use Rattle.table_chains.specs.Promises.{Some, Turns, Tells, Changes}
use Rattle.marks.proofs.ToldLocks.{told_slots}
use Rattle.queues.specs.Promises.{SomeTables}
use Rattle.answers.proofs.Steps.{stepped}
use Rattle.answers.specs.declared.Converted.TheVariants.{Granted, Waiting}
use Rattle.answers.specs.Answers.{convert_answer}
use Rattle.answers.specs.Promises.{Makes}
use Rattle.queues.specs.Promises.{GrantedLock}
use Rattle.call_convert.specs.Promises.{lowers, granted_in_place, on_convert_queue, Asks, AsksWith, ConvertsInPlace}

-- taken_in_place
module _ (k m f : ℕ) (a : List ℕ) where
  pub asks_unqueued : (q : Bool) → q ≡ no_queue f → q ≡ true → Tells (AsksWith k m f) (in_place k m) a true
  asks_unqueued q e h = record { then = λ t p is. sym (p.unqueued (sym e ∙ h)) }

  pub asks_told : (x : Bool) → Tells (GrantedLock k) (in_place k m) a x → Tells (AsksWith k m f) (in_place k m) a x
  asks_told x told = record { then = λ t p is. told.then t p.asks.held is }

pub ruleset unqueued_laws = (rules, asks_unqueued, asks_told)

-- convert_change
module _ (k m f : ℕ) (v a sa : List ℕ) where
  module _ (t : Tables) (p : Convertible k m f v t) where
    asks_it : Asks k m t
    asks_it = record { held = record { core = p.valid.core; is_granted = p.is_granted }; mode = p.mode }

    asks_with : AsksWith k m f t
    asks_with = record { asks = asks_it; unqueued = p.unqueued }

  module _ (s : SomeTables (Convertible k m f v) a sa) where
    pub convert_asks_with : Some (AsksWith k m f) a
    convert_asks_with = record { state = s.state; good = asks_with s.state s.good; is = s.is }

    pub convert_asks : Some (Asks k m) a
    convert_asks = record { state = s.state; good = asks_it s.state s.good; is = s.is }

  module _ (x : Bool) (told : Tells (AsksWith k m f) (in_place k m) a x) where
    told_at : (t : Tables) → Convertible k m f v t → a ≡ words t → in_place k m t ≡ x
    told_at t p is = sym (told.then t (asks_with t p) is)

    module _ (q : x ≡ true) where
      placed_at : (t : Tables) → Convertible k m f v t → a ≡ words t → ConvertsInPlace k m f v t
      placed_at t p is = record { asks = asks_it t p; at_once = told_at t p is ∙ q; right = p.right }

      pub convert_placed : SomeTables (Convertible k m f v) a sa → SomeTables (ConvertsInPlace k m f v) a sa
      convert_placed s = record { state = s.state; good = placed_at s.state s.good s.is; is = s.is; slots_are = s.slots_are }

      pub convert_granted : (b sb : List ℕ) → Changes (ConvertsInPlace k m f v) (granted_in_place k m f v) a sa b sb → Makes (Convertible k m f v) (convert_change k m f v) a sa b sb (convert_answer Granted)
      unfolding convert_change granted_in_place lowers
      convert_granted b sb h = record {
        then = λ t p is iss.
            let d = h.then t (placed_at t p is) is iss in
            rw (told_at t p is ∙ q, convert_change) (stepped _ 1 0 (granted_in_place k m f v t) b sb refl d.0 d.1);
      }

    pub convert_waits : x ≡ false → (b : List ℕ) → Turns (Asks k m) (on_convert_queue k m) a b → Makes (Convertible k m f v) (convert_change k m f v) a sa b sa (convert_answer Waiting)
    unfolding convert_change on_convert_queue
    convert_waits q b h = record {
      then = λ t p is iss.
          rw (told_at t p is ∙ q, convert_change)
          (stepped _ 2 0 (on_convert_queue k m t) b sa refl (h.then t (asks_it t p) is) (iss ∙ sym (told_slots k (move (lock t k).resource k (asking m (lock t k)) t) ∙ slots_move (lock t k).resource k (asking m (lock t k)) t)));
    }

pub ruleset convert_laws = (rules, convert_asks_with, convert_asks, convert_placed, convert_granted, convert_waits)
