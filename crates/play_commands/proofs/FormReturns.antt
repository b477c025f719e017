-- The ways through the functions of the forms: for each way out what the answer means, from what was read on the way.
use Prim.Native.Nat.{ℕ, suc}
use mathlib.Core.Path.{◌≡◌, ◌∙◌}
use mathlib.Core.List.{List}
use native.Mathlib.Omega.{arith}
use borrow.Author.Rules.{rules}
use Rattle.std.proofs.Common.{Option, None, Some, Bor}
use Rattle.play_numbers.specs.Fields.{parted}
use Rattle.play_numbers.specs.Steps.{number_in, next_field}
use Rattle.play_commands.specs.Forms.{request, convert, release, cancel, purge, poll, numbers_then, meaning, as_request, as_convert, as_release, as_cancel, as_purge, as_poll}
use Rattle.play_commands.specs.declared.Command.{Command}
use Rattle.play_commands.proofs.FormLaws.{Took, took, less, missed, last_is, last_of, last_fields, last_missed}

-- `p` and `n`: one number
module _ (xs : List ℕ) {r : Option ℕ} (e : r ≡ number_in xs) where
  pub purge_no : {o : Option Command} → r ≡ None → o ≡ None → meaning o ≡ as_purge (parted 3 xs)
  unfolding as_purge
  purge_no f n = rw (n, last_missed xs e f 3)

  pub purge_yes : {v : ℕ} → r ≡ Some v → purge v ≡ as_purge (parted 3 xs)
  unfolding as_purge numbers_then
  purge_yes f = rw (last_fields xs e f 3, last_is xs e f, last_of xs e f)

  pub poll_no : {o : Option Command} → r ≡ None → o ≡ None → meaning o ≡ as_poll (parted 3 xs)
  unfolding as_poll
  poll_no f n = rw (n, last_missed xs e f 3)

  pub poll_yes : {v : ℕ} → r ≡ Some v → poll v ≡ as_poll (parted 3 xs)
  unfolding as_poll numbers_then
  poll_yes f = rw (last_fields xs e f 3, last_is xs e f, last_of xs e f)

module _ (xs : List ℕ) where
  -- the first number is missed, with k numbers and more fields to come
  module _ {o : Option Command} (n : o ≡ None) (f : next_field xs ≡ None) where
    pub request_1 : meaning o ≡ as_request (parted 3 xs)
    unfolding as_request
    request_1 = rw (n, missed xs f 2 1 2 (omega arith))

    pub convert_1 : meaning o ≡ as_convert (parted 3 xs)
    unfolding as_convert
    convert_1 = rw (n, missed xs f 3 0 2 (omega arith))

    pub release_1 : meaning o ≡ as_release (parted 3 xs)
    unfolding as_release
    release_1 = rw (n, missed xs f 2 0 2 (omega arith))

    pub cancel_1 : meaning o ≡ as_cancel (parted 3 xs)
    unfolding as_cancel
    cancel_1 = rw (n, missed xs f 1 0 2 (omega arith))

  module _ {v₁ : ℕ} {ys : List ℕ} (f₁ : next_field xs ≡ Some (v₁, ys)) where
    t₁ : Took xs v₁ ys
    t₁ = took xs f₁

    less₁ : (k more : ℕ) → numbers_then (suc k) more (parted 3 xs) ≡ numbers_then k more (parted 2 ys)
    less₁ k more = less xs v₁ ys t₁ k more 2

    module _ {r : Option ℕ} (e : r ≡ number_in ys) where
      pub cancel_2 : {o : Option Command} → o ≡ None → r ≡ None → meaning o ≡ as_cancel (parted 3 xs)
      unfolding as_cancel
      cancel_2 n f = rw (n, less₁ 1 0, last_missed ys e f 2)

      pub cancel_3 : {v : ℕ} → r ≡ Some v → cancel v₁ v ≡ as_cancel (parted 3 xs)
      unfolding as_cancel numbers_then
      cancel_3 f = rw (t₁.fields 2, last_fields ys e f 2, t₁.is, last_is ys e f, ← t₁.of, ← last_of ys e f)

    module _ {o : Option Command} (n : o ≡ None) (f : next_field ys ≡ None) where
      pub request_2 : meaning o ≡ as_request (parted 3 xs)
      unfolding as_request
      request_2 = rw (n, less₁ 2 1, missed ys f 1 1 1 (omega arith))

      pub convert_2 : meaning o ≡ as_convert (parted 3 xs)
      unfolding as_convert
      convert_2 = rw (n, less₁ 3 0, missed ys f 2 0 1 (omega arith))

      pub release_2 : meaning o ≡ as_release (parted 3 xs)
      unfolding as_release
      release_2 = rw (n, less₁ 2 0, missed ys f 1 0 1 (omega arith))

    module _ {v₂ : ℕ} {zs : List ℕ} (f₂ : next_field ys ≡ Some (v₂, zs)) where
      t₂ : Took ys v₂ zs
      t₂ = took ys f₂

      less₂ : (k more : ℕ) → numbers_then (suc (suc k)) more (parted 3 xs) ≡ numbers_then k more (parted 1 zs)
      less₂ k more = less₁ (suc k) more ∙ less ys v₂ zs t₂ k more 1

      module _ {r : Option ℕ} (e : r ≡ number_in zs) where
        pub release_3 : {o : Option Command} → o ≡ None → r ≡ None → meaning o ≡ as_release (parted 3 xs)
        unfolding as_release
        release_3 n f = rw (n, less₂ 1 0, last_missed zs e f 1)

        pub release_4 : {v : ℕ} → r ≡ Some v → release v₁ v₂ v ≡ as_release (parted 3 xs)
        unfolding as_release numbers_then
        release_4 f = rw (t₁.fields 2, t₂.fields 1, last_fields zs e f 1, t₁.is, t₂.is, last_is zs e f, ← t₁.of, ← t₂.of, ← last_of zs e f)

      module _ {o : Option Command} (n : o ≡ None) (f : next_field zs ≡ None) where
        pub request_3 : meaning o ≡ as_request (parted 3 xs)
        unfolding as_request
        request_3 = rw (n, less₂ 1 1, missed zs f 0 1 0 (omega arith))

        pub convert_3 : meaning o ≡ as_convert (parted 3 xs)
        unfolding as_convert
        convert_3 = rw (n, less₂ 2 0, missed zs f 1 0 0 (omega arith))

      module _ {v₃ : ℕ} {us : List ℕ} (f₃ : next_field zs ≡ Some (v₃, us)) where
        t₃ : Took zs v₃ us
        t₃ = took zs f₃

        pub request_4 : request v₁ v₂ v₃ us ≡ as_request (parted 3 xs)
        unfolding as_request numbers_then parted
        request_4 = rw (t₁.fields 2, t₂.fields 1, t₃.fields 0, t₁.is, t₂.is, t₃.is, ← t₁.of, ← t₂.of, ← t₃.of)

        module _ {r : Option ℕ} (e : r ≡ number_in us) where
          pub convert_4 : {o : Option Command} → o ≡ None → r ≡ None → meaning o ≡ as_convert (parted 3 xs)
          unfolding as_convert
          convert_4 n f = rw (n, less₂ 2 0, less zs v₃ us t₃ 1 0 0, last_missed us e f 0)

          pub convert_5 : {v : ℕ} → r ≡ Some v → convert v₁ v₂ v₃ v ≡ as_convert (parted 3 xs)
          unfolding as_convert numbers_then
          convert_5 f =
              rw (t₁.fields 2, t₂.fields 1, t₃.fields 0, last_fields us e f 0, t₁.is, t₂.is, t₃.is, last_is us e f, ← t₁.of, ← t₂.of, ← t₃.of, ← last_of us e f)

pub ruleset form_rules = (rules, purge_no, purge_yes, poll_no, poll_yes, cancel_1, cancel_2, cancel_3, release_1, release_2, release_3, release_4, request_1, request_2, request_3, request_4, convert_1, convert_2, convert_3, convert_4, convert_5)
