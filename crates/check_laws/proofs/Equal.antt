-- THE CHECK IS THE DEFINITION: what it computes pass by pass is whether the tables are sound.
use mathlib.Core.Path.{◌≡◌}
use mathlib.Core.List.{List}
use Prim.Native.Nat.{ℕ}
use Rattle.tables.specs.Sound.{sound}
use Rattle.tables.proofs.Cases.{same_truth}
use Rattle.check_laws.specs.Check.{check}
use Rattle.check_laws.proofs.PassedAreSound.{check_sound}
use Rattle.check_laws.proofs.SoundArePassed.{sound_check}

pub check_is_sound : (ws ss : List ℕ) → check ws ss ≡ sound ws ss
check_is_sound ws ss = same_truth (check ws ss) (sound ws ss) (check_sound ws ss) (sound_check ws ss)
