-- A refusal that `?` passes up, and the chain of refusals of which it is the first.
use mathlib.Core.Path.{◌≡◌, refl, ap, ◌∙◌}
use mathlib.Core.Bool.{Bool, true, false}
use Prim.Native.Nat.{ℕ}
use native.Mathlib.Omega.{arith}
use Rattle.std.specs.Prelude.{Result, Ok, Err, IsErrAnd}
use Rattle.answers.specs.declared.Refusal.{Refusal}
use Rattle.answers.specs.declared.Refusal.TheVariants as refusals
use Rattle.answers.specs.Refusals.{refusal_number, refused_number}
use Rattle.tables.specs.Sound.{client_right}
use Rattle.rules.specs.Calls.{unless, purge_refusal}

-- no refusal has the number 0, which says that nothing is refused
pub above_zero : (e : Refusal) → refusal_number e ≡ 0 → ⊥
above_zero refusals.Unsound h = omega arith
above_zero refusals.Sizes h = omega arith
above_zero refusals.Client h = omega arith
above_zero refusals.Mode h = omega arith
above_zero refusals.Flags h = omega arith
above_zero refusals.Name h = omega arith
above_zero refusals.Value h = omega arith
above_zero refusals.Lock h = omega arith
above_zero refusals.Unread h = omega arith
above_zero refusals.State h = omega arith
above_zero refusals.NoResource h = omega arith
above_zero refusals.NoLock h = omega arith
above_zero refusals.Blocks h = omega arith
above_zero refusals.Lengths h = omega arith

-- what is passed up is the refusal that came
pub passed_up : {A : Type 0} (x : Result A Refusal) (e : Refusal) → IsErrAnd x (λ d. d ≡ e) → x ≡ Err e
passed_up (Ok a) e h = absurd h
passed_up (Err d) e h = ap (λ (r : Refusal). Err r) h

pub number_up : {A : Type 0} (x : Result A Refusal) (e : Refusal) → IsErrAnd x (λ d. d ≡ e) → refused_number x ≡ refusal_number e
number_up x e h = ap (λ r. refused_number r) (passed_up x e h)

-- the client's refusal comes first: if it isn't refused, its number is right
module _ (c : ℕ) where
  pub client_goes : 0 ≡ purge_refusal c → client_right c ≡ true
  unfolding purge_refusal unless
  client_goes h = go (client_right c) h
    where
      go : (b : Bool) → 0 ≡ unless b 3 0 → b ≡ true
      go true h = refl
      go false h = absurd (omega arith)

  module _ {A : Type 0} (x : Result A Refusal) (e : Refusal) (up : IsErrAnd x (λ d. d ≡ e)) (ee : refusal_number e ≡ purge_refusal c) where
    pub client_first : (rest : ℕ) → refused_number x ≡ unless (client_right c) 3 rest
    unfolding purge_refusal unless
    client_first rest = number_up x e up ∙ go (client_right c) ee
      where
        go : (b : Bool) → refusal_number e ≡ unless b 3 0 → refusal_number e ≡ unless b 3 rest
        go true h = absurd (above_zero e h)
        go false h = h
