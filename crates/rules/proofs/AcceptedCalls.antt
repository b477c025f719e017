-- What a call that is not refused has passed: what its change stands on.
use mathlib.Core.Path.{◌≡◌, refl}
use mathlib.Core.Bool.{Bool, true, false, ◌||◌, not}
use mathlib.Core.List.{List, [], ◌∷◌}
use Prim.Native.Nat.{ℕ, suc, ◌≤◌}
use native.Mathlib.Omega.{arith}
use lib.ListN.{length}
use borrow.Author.Tests.{leb-true, eqb-true, not-true}
use Rattle.tables.specs.Lists.{null}
use Rattle.tables.specs.State.{Tables, lock, unread, name_width, value_width, last_mode}
use Rattle.tables.proofs.Cases.{clash, parts}
use Rattle.tables.proofs.Fields.{client_is}
use Rattle.tables.specs.Validity.{Valid}
use Rattle.rules.specs.Calls.{unless, stores, name_right, value_right, own, request_refusal, convert_refusal, release_refusal, cancel_refusal, purge_refusal, no_queue}
use Rattle.rules.specs.Accepted.{Requestable, Releasable, Convertible, Cancellable, Purgeable}

-- a test that a refusal of 0 has passed, and what is left after it
pub passed : (b : Bool) (n rest : ℕ) → unless b (suc n) rest ≡ 0 → b ≡ true
unfolding unless
passed true n rest h = refl
passed false n rest h = absurd (omega arith)

pub next_test : (b : Bool) (n rest : ℕ) → unless b (suc n) rest ≡ 0 → rest ≡ 0
unfolding unless
next_test true n rest h = h
next_test false n rest h = absurd (omega arith)

right_value : (f : ℕ) (v : List ℕ) → value_right f v ≡ true → stores f ≡ true → length v ≡ value_width
unfolding value_right
right_value f v h e = eqb-true (length v) value_width (rw e at h)

granted_now : (f : ℕ) (b : Bool) → (not (no_queue f) || b) ≡ true → no_queue f ≡ true → b ≡ true
granted_now f b h e = rw e at h

name_is : (n : List ℕ) → name_right n ≡ true → (null n ≡ false) × (length n ≤ name_width)
unfolding name_right
name_is [] h = clash false h refl
name_is (x ∷ xs) h = (refl, leb-true (length (x ∷ xs)) name_width (search parts))

module _ (t : Tables) (val : Valid t) where
  pub request_passed : (c m f : ℕ) (n : List ℕ) → request_refusal c m f n t ≡ 0 → Requestable c m f n t
  unfolding request_refusal
  request_passed c m f n h =
      let h3 = next_test _ 2 _ h in
      let h5 = next_test _ 4 _ (next_test _ 3 _ h3) in
      let h6 = next_test _ 5 _ h5 in
      let h11 = next_test _ 10 _ h6 in
      record {
        valid = val;
        client_low = (client_is c (passed _ 2 _ h)).0;
        client_high = (client_is c (passed _ 2 _ h)).1;
        mode = leb-true m last_mode (passed _ 3 _ h3);
        some = (name_is n (passed _ 5 _ h5)).0;
        short = (name_is n (passed _ 5 _ h5)).1;
        room = passed _ 10 _ h6;
        lock_left = not-true (null t.free_locks) (passed _ 11 _ h11);
        unqueued = granted_now f _ (passed _ 12 _ (next_test _ 11 _ h11));
      }

  pub convert_passed : (c k m f : ℕ) (v : List ℕ) → convert_refusal c k m f v t ≡ 0 → Convertible k m f v t
  unfolding convert_refusal
  convert_passed c k m f v h =
      let h3 = next_test _ 2 _ h in
      let h5 = next_test _ 4 _ (next_test _ 3 _ h3) in
      let h8 = next_test _ 7 _ (next_test _ 6 _ h5) in
      let h9 = next_test _ 8 _ h8 in
      record {
        valid = val;
        is_read = not-true (unread (lock t k)) (passed _ 8 _ h8);
        is_granted = passed _ 9 _ h9;
        mode = leb-true m last_mode (passed _ 3 _ h3);
        right = right_value f v (passed _ 6 _ h5);
        unqueued = granted_now f _ (passed _ 12 _ (next_test _ 9 _ h9));
      }

  pub release_passed : (c k f : ℕ) (v : List ℕ) → release_refusal c k f v t ≡ 0 → Releasable k f v t
  unfolding release_refusal
  release_passed c k f v h =
      let h5 = next_test _ 4 _ (next_test _ 2 _ h) in
      let h8 = next_test _ 7 _ (next_test _ 6 _ h5) in
      record {
        valid = val;
        is_granted = passed _ 9 _ (next_test _ 8 _ h8);
        right = right_value f v (passed _ 6 _ h5);
      }

  pub cancel_passed : (c k : ℕ) → cancel_refusal c k t ≡ 0 → Cancellable k t
  unfolding cancel_refusal
  cancel_passed c k h = record { valid = val; is_blocked = passed _ 9 _ (next_test _ 8 _ (next_test _ 7 _ (next_test _ 2 _ h))) }

  -- of a release: the lock's completion is read
  pub release_read : (c k f : ℕ) (v : List ℕ) → release_refusal c k f v t ≡ 0 → unread (lock t k) ≡ false
  unfolding release_refusal
  release_read c k f v h = not-true (unread (lock t k)) (passed _ 8 _ (next_test _ 7 _ (next_test _ 6 _ (next_test _ 4 _ (next_test _ 2 _ h)))))

  -- of a conversion and a cancel: the lock is the client's
  owned : (c k : ℕ) → own c k t ≡ true → (lock t k).client ≡ c
  unfolding own
  owned c k h = eqb-true (lock t k).client c (search parts)

  pub convert_owned : (c k m f : ℕ) (v : List ℕ) → convert_refusal c k m f v t ≡ 0 → (lock t k).client ≡ c
  unfolding convert_refusal
  convert_owned c k m f v h = owned c k (passed _ 7 _ (next_test _ 6 _ (next_test _ 4 _ (next_test _ 3 _ (next_test _ 2 _ h)))))

  pub cancel_owned : (c k : ℕ) → cancel_refusal c k t ≡ 0 → (lock t k).client ≡ c
  unfolding cancel_refusal
  cancel_owned c k h = owned c k (passed _ 7 _ (next_test _ 2 _ h))

  pub purge_passed : (c : ℕ) → purge_refusal c ≡ 0 → Purgeable c t
  unfolding purge_refusal
  purge_passed c h = record { valid = val; client_low = (client_is c (passed _ 2 _ h)).0 }
