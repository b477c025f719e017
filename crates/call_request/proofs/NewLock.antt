-- A free lock enters on a resource: granted, or waiting.
use mathlib.Core.Path.{◌≡◌, refl, sym, ◌∙◌, ap}
use mathlib.Core.Bool.{Bool, true, false}
use mathlib.Core.List.{List}
use Prim.Native.Nat.{ℕ}
use native.Mathlib.Omega.{arith}
use borrow.Author.Rules.{rules}
use Rattle.tables.specs.declared.Lock.{Lock}
use Rattle.tables.specs.State.{Tables, move}
use Rattle.tables.specs.Layout.{words, slots}
use Rattle.tables.proofs.Cases.{clash}
use Rattle.tables.proofs.Valid.{lock_same, core_move}
use Rattle.tables.proofs.SlotChanges.{slots_move}
use Rattle.tables.specs.Validity.{used, LockOk, as_granted, as_waiting}
use Rattle.rules.specs.Calls.{no_queue, tell_obstacles, granted_at_once, holding, queued, request_on}
use Rattle.table_chains.specs.Promises.{Some, Turns, Tells, Movable, Moving, Moved, Resourced}
use Rattle.marks.specs.Promises.{Begun}
use Rattle.marks.proofs.ToldLocks.{told_slots}
use Rattle.answers.proofs.Steps.{stepped}
use Rattle.answers.specs.declared.Requested.TheVariants.{Granted, Waiting}
use Rattle.answers.specs.Answers.{request_answer}
use Rattle.answers.specs.Promises.{MakesWords}
use Rattle.call_request.specs.Promises.{AsksOn, Enters}

-- at_once
module _ (r m f : ℕ) (a : List ℕ) where
  pub asks_unqueued : (q : Bool) → q ≡ no_queue f → q ≡ true → Tells (AsksOn r m f) (λ t. granted_at_once t r m) a true
  asks_unqueued q e h = record { then = λ t p is. sym (p.unqueued (sym e ∙ h)) }

  pub asks_told : (x : Bool) → Tells (Resourced r) (λ t. granted_at_once t r m) a x → Tells (AsksOn r m f) (λ t. granted_at_once t r m) a x
  asks_told x told = record { then = λ t p is. told.then t p.here is }

pub ruleset asks_laws = (rules, asks_unqueued, asks_told)

-- enter
module _ (r k c m f : ℕ) where
  module _ (t : Tables) (p : Enters r k c m f t) where
    enters_on : (l : Lock) → l.resource ≡ r → LockOk (used t) l → Movable r k l t
    enters_on l e ok =
        record { core = p.asks.here.core; in_range = p.in_range; near_old = λ z. absurd (z (ap (λ (o : Lock). o.resource) p.free)); near_new = λ z. e; ok = ok }

    enters_held : Movable r k (holding r c m) t
    enters_held =
        enters_on (holding r c m) refl
        (as_granted refl (record {
          place = record { in_use = p.in_use; client_low = p.client_low; client_high = p.client_high; held_mode = p.asks.mode; asked_mode = omega arith; mark_mode = omega arith };
          asks = refl;
          notice = omega arith;
          not_denied = omega arith;
        }))

    enters_queued : Movable r k (queued r c m) t
    enters_queued =
        enters_on (queued r c m) refl
        (as_waiting refl (record {
          place = record { in_use = p.in_use; client_low = p.client_low; client_high = p.client_high; held_mode = omega arith; asked_mode = p.asks.mode; mark_mode = omega arith };
          notice = refl;
          holds = refl;
          no_mark = refl;
        }))

    queued_begun : Begun k (move r k (queued r c m) t)
    queued_begun =
        let g = enters_queued in
        record {
          core = core_move r k (queued r c m) t g.core g.in_range g.near_old g.near_new g.ok (λ z. clash false z refl);
          is_blocked = rw (lock_same r k (queued r c m) t g.in_range);
        }

  module _ (a : List ℕ) where
    pub enter_held : (l : Lock) → l ≡ holding r c m → Some (Enters r k c m f) a → Moving k l a
    enter_held l e s = rw e (record { state = s.state; resource = r; good = enters_held s.state s.good; is = s.is })

    pub enter_queued : (l : Lock) → l ≡ queued r c m → Some (Enters r k c m f) a → Moving k l a
    enter_queued l e s = rw e (record { state = s.state; resource = r; good = enters_queued s.state s.good; is = s.is })

    module _ (l : Lock) (b : List ℕ) (moved : Moved k l a b) where
      module _ (e : l ≡ queued r c m) where
        queued_is : (t : Tables) → Enters r k c m f t → a ≡ words t → b ≡ words (move r k (queued r c m) t)
        queued_is t p is = (rw e at (moved.then r t)) (enters_queued t p) is

        pub enter_begins : Some (Enters r k c m f) a → Some (Begun k) b
        enter_begins s = record { state = move r k (queued r c m) s.state; good = queued_begun s.state s.good; is = queued_is s.state s.good s.is }

      module _ (x : Bool) (told : Tells (AsksOn r m f) (λ t. granted_at_once t r m) a x) where
        pub enter_grants : x ≡ true → l ≡ holding r c m → MakesWords (Enters r k c m f) (request_on r k c m) a b (request_answer (Granted k))
        unfolding request_on
        enter_grants q e = record {
          then = λ t p is.
              let h : granted_at_once t r m ≡ true = sym (told.then t p.asks is) ∙ q in
              rw (h, request_on)
              (stepped _ 1 k (move r k (holding r c m) t) b (slots t) refl ((rw e at (moved.then r t)) (enters_held t p) is) (sym (slots_move r k (holding r c m) t)));
        }

        pub enter_waits : x ≡ false → l ≡ queued r c m → (d : List ℕ) → Turns (Begun k) (tell_obstacles k) b d → MakesWords (Enters r k c m f) (request_on r k c m) a d (request_answer (Waiting k))
        unfolding request_on
        enter_waits q e d tells = record {
          then = λ t p is.
              let h : granted_at_once t r m ≡ false = sym (told.then t p.asks is) ∙ q in
              let u = move r k (queued r c m) t in
              rw (h, request_on)
              (stepped _ 2 k (tell_obstacles k u) d (slots t) refl (tells.then u (queued_begun t p) (queued_is e t p is)) (sym (told_slots k u ∙ slots_move r k (queued r c m) t)));
        }

pub ruleset enter_laws = (rules, enter_held, enter_queued, enter_begins, enter_grants, enter_waits)
