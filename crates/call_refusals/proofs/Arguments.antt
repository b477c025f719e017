-- The refusals of a call's arguments, and of a conversion that would block.
use mathlib.Core.Path.{◌≡◌, refl, sym, ◌∙◌}
use mathlib.Core.Bool.{Bool, true, false, not}
use mathlib.Core.List.{List}
use Prim.Native.Nat.{ℕ, ◌<◌}
use Rattle.std.specs.Prelude.{Option, unwrap_or, Result, IsErrAnd}
use native.Mathlib.Omega.{arith}
use lib.Dec.{leb}
use borrow.Author.Tests.{le-leb, lt-leb, not-true, not-false}
use Rattle.modes.specs.declared.Mode.{Mode}
use Rattle.modes.specs.Made.{mode_number}
use Rattle.tables.specs.State.{Tables, lock, granted, unread}
use Rattle.tables.specs.Layout.{words}
use Rattle.tables.specs.Validity.{Core}
use Rattle.rules.specs.Calls.{unless, own, no_queue, request_flags, convert_flags, release_flags, name_right, value_right, in_place, request_refusal, convert_refusal, release_refusal, purge_refusal}
use Rattle.rules.proofs.AcceptedCalls.{passed, next_test}
use Rattle.table_chains.specs.Promises.{Some, Tells}
use Rattle.answers.specs.declared.Refusal.{Refusal}
use Rattle.answers.specs.Refusals.{refusal_number, refused_number}
use Rattle.call_refusals.specs.Promises.{ResourceIfAny, Finds}
use Rattle.call_refusals.proofs.PassedUp.{above_zero, number_up, client_goes, client_first}
use Rattle.queues.specs.Promises.{GrantedLock}
use Rattle.call_refusals.specs.Rests.{granted_refusal, conversion_refusal, room_refusal}
use Rattle.call_refusals.proofs.RequestRoom.{finds_resource, found_number}

-- the number m is no mode, or the mode q
module _ (m : ℕ) where
  module _ {A : Type 0} (x : Result A Refusal) (e : Refusal) (up : IsErrAnd x (λ d. d ≡ e)) (four : refusal_number e ≡ 4) (high : 5 < m) where
    mode_refused : (rest : ℕ) → refused_number x ≡ unless (leb m 5) 4 rest
    unfolding unless
    mode_refused rest = rw (number_up x e up, lt-leb m 5 high) four

  module _ (q : Mode) (made : mode_number q ≡ m) (low : m < 6) where
    mode_is : leb m 5 ≡ true
    mode_is = le-leb m 5 (omega (arith, low))

-- release
module _ (ws : List ℕ) (c k f : ℕ) (v : List ℕ) where
  pub release_client : (x : Result Unit Refusal) (e : Refusal) → IsErrAnd x (λ d. d ≡ e) → refusal_number e ≡ purge_refusal c
      → Tells Core (release_refusal c k f v) ws (refused_number x)
  unfolding release_refusal
  release_client x e up ee = record { then = λ t g is. client_first c x e up ee _ }

  module _ (right : 0 ≡ purge_refusal c) (a : Bool) (ea : a ≡ release_flags f) where
    pub release_flagged : not a ≡ true → Tells Core (release_refusal c k f v) ws 5
    unfolding release_refusal unless
    release_flagged h = record { then = λ t g is. rw (client_goes c right, sym ea ∙ not-true a h) }

    module _ (allowed : not a ≡ false) (b : Bool) (eb : b ≡ value_right f v) where
      pub release_valued : not b ≡ true → Tells Core (release_refusal c k f v) ws 7
      unfolding release_refusal unless
      release_valued h = record { then = λ t g is. rw (client_goes c right, sym ea ∙ not-false a allowed, sym eb ∙ not-true b h) }

      pub release_rest : not b ≡ false → (n : ℕ) → Tells Core (granted_refusal c k) ws n → Tells Core (release_refusal c k f v) ws n
      unfolding release_refusal granted_refusal unless
      release_rest h n rest = record { then = λ t g is. rw (client_goes c right, sym ea ∙ not-false a allowed, sym eb ∙ not-false b h) (rest.then t g is) }

-- convert
module _ (ws : List ℕ) (c k m f : ℕ) (v : List ℕ) where
  pub convert_client : {A : Type 0} (x : Result A Refusal) (e : Refusal) → IsErrAnd x (λ d. d ≡ e) → refusal_number e ≡ purge_refusal c
      → Tells Core (convert_refusal c k m f v) ws (refused_number x)
  unfolding convert_refusal
  convert_client x e up ee = record { then = λ t g is. client_first c x e up ee _ }

  module _ (right : 0 ≡ purge_refusal c) where
    pub convert_mode : {A : Type 0} (x : Result A Refusal) (e : Refusal) → IsErrAnd x (λ d. d ≡ e) → refusal_number e ≡ 4 → 5 < m
        → Tells Core (convert_refusal c k m f v) ws (refused_number x)
    unfolding convert_refusal unless
    convert_mode x e up four high = record { then = λ t g is. rw (client_goes c right) (mode_refused m x e up four high _) }

    module _ (q : Mode) (made : mode_number q ≡ m) (low : m < 6) (a : Bool) (ea : a ≡ convert_flags f) where
      pub convert_flagged : not a ≡ true → Tells Core (convert_refusal c k m f v) ws 5
      unfolding convert_refusal unless
      convert_flagged h = record { then = λ t g is. rw (client_goes c right, mode_is m q made low, sym ea ∙ not-true a h) }

      module _ (allowed : not a ≡ false) (b : Bool) (eb : b ≡ value_right f v) where
        pub convert_valued : not b ≡ true → Tells Core (convert_refusal c k m f v) ws 7
        unfolding convert_refusal unless
        convert_valued h = record { then = λ t g is. rw (client_goes c right, mode_is m q made low, sym ea ∙ not-false a allowed, sym eb ∙ not-true b h) }

        pub convert_rest : not b ≡ false → (n : ℕ) → Tells Core (conversion_refusal c k (mode_number q) f) ws n → Tells Core (convert_refusal c k m f v) ws n
        unfolding convert_refusal conversion_refusal unless
        convert_rest h n rest = record {
          then = λ t g is. rw (client_goes c right, mode_is m q made low, sym ea ∙ not-false a allowed, sym eb ∙ not-false b h) (rw made at (rest.then t g is));
        }

        pub convert_refused : not b ≡ false → {A : Type 0} (x : Result A Refusal) (e : Refusal) → IsErrAnd x (λ d. d ≡ e) → Tells Core (conversion_refusal c k (mode_number q) f) ws (refusal_number e)
            → Tells Core (convert_refusal c k m f v) ws (refused_number x)
        convert_refused h x e up rest = rw (number_up x e up) (convert_rest h (refusal_number e) rest)

-- .. of a lock that is granted
refused_before : (a b d : Bool) (rest : ℕ) → (unless a 8 (unless b 9 (unless d 10 0)) ≡ 0 → ⊥) → unless a 8 (unless b 9 (unless d 10 0)) ≡ unless a 8 (unless b 9 (unless d 10 rest))
unfolding unless
refused_before true true true rest n = absurd (n refl)
refused_before true true false rest n = refl
refused_before true false d rest n = refl
refused_before false b d rest n = refl

module _ (ws : List ℕ) (c k m f : ℕ) where
  pub conversion_refused : (x : Result Unit Refusal) (e : Refusal) → IsErrAnd x (λ d. d ≡ e) → Tells Core (granted_refusal c k) ws (refusal_number e)
      → Tells Core (conversion_refusal c k m f) ws (refused_number x)
  unfolding granted_refusal conversion_refusal
  conversion_refused x e up ee = record {
    then = λ t g is.
        number_up x e up ∙ ee.then t g is
        ∙ refused_before (own c k t) (not (unread (lock t k))) (granted (lock t k)) _ (λ z. above_zero e (ee.then t g is ∙ z));
  }

  module _ (goes : Tells Core (granted_refusal c k) ws 0) where
    none : (t : Tables) → Core t → ws ≡ words t → granted_refusal c k t ≡ 0
    none t g is = sym (goes.then t g is)

    grants : (t : Tables) → Core t → ws ≡ words t → GrantedLock k t
    unfolding granted_refusal
    grants t g is = record { core = g; is_granted = passed _ 9 _ (next_test _ 8 _ (next_test _ 7 _ (none t g is))) }

    pub conversion_held : Some Core ws → Some (GrantedLock k) ws
    conversion_held s = record { state = s.state; good = grants s.state s.good s.is; is = s.is }

    mine : (t : Tables) → Core t → ws ≡ words t → own c k t ≡ true
    unfolding granted_refusal
    mine t g is = passed _ 7 _ (none t g is)

    quiet : (t : Tables) → Core t → ws ≡ words t → not (unread (lock t k)) ≡ true
    unfolding granted_refusal
    quiet t g is = passed _ 8 _ (next_test _ 7 _ (none t g is))

    module _ (q : Bool) (eq : q ≡ no_queue f) where
      pub conversion_queues : not q ≡ true → Tells Core (conversion_refusal c k m f) ws 0
      unfolding conversion_refusal unless
      conversion_queues h = record { then = λ t g is. rw (mine t g is, quiet t g is, (grants t g is).is_granted, sym eq ∙ not-true q h) }

      module _ (only : not q ≡ false) (b : Bool) (eb : Tells (GrantedLock k) (in_place k m) ws b) where
        pub conversion_placed : b ≡ true → Tells Core (conversion_refusal c k m f) ws 0
        unfolding conversion_refusal unless
        conversion_placed h = record {
          then = λ t g is. rw (mine t g is, quiet t g is, (grants t g is).is_granted, sym eq ∙ not-false q only, sym (eb.then t (grants t g is) is) ∙ h);
        }

        pub conversion_blocks : b ≡ false → Tells Core (conversion_refusal c k m f) ws 13
        unfolding conversion_refusal unless
        conversion_blocks h = record {
          then = λ t g is. rw (mine t g is, quiet t g is, (grants t g is).is_granted, sym eq ∙ not-false q only, sym (eb.then t (grants t g is) is) ∙ h);
        }

-- request
module _ (ws : List ℕ) (r : Option ℕ) (c m f : ℕ) (v : List ℕ) where
  pub request_client : {A : Type 0} (x : Result A Refusal) (e : Refusal) → IsErrAnd x (λ d. d ≡ e) → refusal_number e ≡ purge_refusal c
      → Tells (Finds v r) (request_refusal c m f v) ws (refused_number x)
  unfolding request_refusal
  request_client x e up ee = record { then = λ t g is. client_first c x e up ee _ }

  module _ (right : 0 ≡ purge_refusal c) where
    pub request_mode : {A : Type 0} (x : Result A Refusal) (e : Refusal) → IsErrAnd x (λ d. d ≡ e) → refusal_number e ≡ 4 → 5 < m
        → Tells (Finds v r) (request_refusal c m f v) ws (refused_number x)
    unfolding request_refusal unless
    request_mode x e up four high = record { then = λ t g is. rw (client_goes c right) (mode_refused m x e up four high _) }

    module _ (q : Mode) (made : mode_number q ≡ m) (low : m < 6) (a : Bool) (ea : a ≡ request_flags f) where
      pub request_flagged : not a ≡ true → Tells (Finds v r) (request_refusal c m f v) ws 5
      unfolding request_refusal unless
      request_flagged h = record { then = λ t g is. rw (client_goes c right, mode_is m q made low, sym ea ∙ not-true a h) }

      module _ (allowed : not a ≡ false) (b : Bool) (eb : b ≡ name_right v) where
        pub request_named : not b ≡ true → Tells (Finds v r) (request_refusal c m f v) ws 6
        unfolding request_refusal unless
        request_named h = record { then = λ t g is. rw (client_goes c right, mode_is m q made low, sym ea ∙ not-false a allowed, sym eb ∙ not-true b h) }

        pub request_rest : not b ≡ false → (n : ℕ) → Tells (ResourceIfAny r) (room_refusal (unwrap_or r 0) (mode_number q) f) ws n
            → Tells (Finds v r) (request_refusal c m f v) ws n
        unfolding request_refusal room_refusal unless
        request_rest h n rest = record {
          then = λ t g is.
              rw (client_goes c right, mode_is m q made low, sym ea ∙ not-false a allowed, sym eb ∙ not-false b h, ← (found_number v r t g))
              (rw made at (rest.then t (finds_resource v r t g) is));
        }

        pub request_refused : not b ≡ false → {A : Type 0} (x : Result A Refusal) (e : Refusal) → IsErrAnd x (λ d. d ≡ e)
            → Tells (ResourceIfAny r) (room_refusal (unwrap_or r 0) (mode_number q) f) ws (refusal_number e) → Tells (Finds v r) (request_refusal c m f v) ws (refused_number x)
        request_refused h x e up rest = rw (number_up x e up) (request_rest h (refusal_number e) rest)

-- what is left of it stands on the resource alone
pub request_room : (ws : List ℕ) (r : Option ℕ) (v : List ℕ) → Some (Finds v r) ws → Some (ResourceIfAny r) ws
request_room ws r v s = record { state = s.state; good = finds_resource v r s.state s.good; is = s.is }
