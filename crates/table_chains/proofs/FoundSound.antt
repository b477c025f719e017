-- What the check finds of the words and slots that a function is lent.
use mathlib.Core.Path.{◌≡◌, refl, sym, ◌∙◌}
use mathlib.Core.Bool.{Bool, true, false, not}
use mathlib.Core.List.{List}
use Prim.Native.Nat.{ℕ}
use borrow.Author.Tests.{not-false}
use Rattle.tables.specs.Layout.{read}
use Rattle.tables.specs.Sound.{sound}
use Rattle.tables.specs.Validity.{Core, Valid}
use Rattle.tables.proofs.Written.{Writes, sound_written, for_sound}
use Rattle.table_chains.specs.Promises.{Some}

-- words and slots that the check found sound are the written form of a valid state
module _ (ws ss : List ℕ) (b : Bool) (checked : b ≡ sound ws ss) (ok : not b ≡ false) where
  pub found_sound : sound ws ss ≡ true
  found_sound = sym checked ∙ not-false b ok

  pub found_written : Writes ws ss (read ws ss)
  found_written = sound_written ws ss found_sound

  pub found_valid : Some Valid ws
  found_valid = for_sound (λ us zs. Some Valid us) (λ t v. record { state = t; good = v; is = refl }) ws ss found_sound

  pub found_core : Some Core ws
  found_core = for_sound (λ us zs. Some Core us) (λ t v. record { state = t; good = v.core; is = refl }) ws ss found_sound
