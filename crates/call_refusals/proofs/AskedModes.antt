-- The mode that a number makes, as the refusals tell it.
use mathlib.Core.Path.{◌≡◌, refl}
use Prim.Native.Nat.{ℕ}
use Rattle.std.specs.Prelude.{Option, Some, None, Result, ok_or}
use Rattle.modes.specs.declared.Mode.{Mode}
use Rattle.modes.specs.Made.{made_numbers, made}
use Rattle.modes.proofs.Laws.{mode_small, same_number, refused_above}
use Rattle.answers.specs.declared.Refusal.{Refusal}
use Rattle.answers.specs.declared.Refusal.TheVariants as refusals
use Rattle.call_refusals.specs.Promises.{Asked}

pub asked_is : (n : ℕ) (o : Option Mode) (x : Result Mode Refusal) → made_numbers o ≡ made n → x ≡ ok_or o refusals.Mode → Asked n x
asked_is n (Some m) x made_is h = rw h (same_number n (Some m) m refl made_is, mode_small n (Some m) m refl made_is)
asked_is n None x made_is h = rw h (refl, refused_above n None refl made_is)
