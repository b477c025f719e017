-- The papers' numbers of refusals.
use Rattle.std.specs.Prelude.{ℕ, Result, Ok, Err}
use Rattle.answers.specs.declared.Refusal.{Refusal}
use Rattle.answers.specs.declared.Refusal.TheVariants as refusals

abbrev pub refusal_number : Refusal → ℕ
refusal_number refusals.Unsound = 1
refusal_number refusals.Sizes = 2
refusal_number refusals.Client = 3
refusal_number refusals.Mode = 4
refusal_number refusals.Flags = 5
refusal_number refusals.Name = 6
refusal_number refusals.Value = 7
refusal_number refusals.Lock = 8
refusal_number refusals.Unread = 9
refusal_number refusals.State = 10
refusal_number refusals.NoResource = 11
refusal_number refusals.NoLock = 12
refusal_number refusals.Blocks = 13
refusal_number refusals.Lengths = 14

-- the number of the refusal, or 0 where nothing is refused
abbrev pub refused_number : {A : Type 0} → Result A Refusal → ℕ
refused_number (Ok a) = 0
refused_number (Err e) = refusal_number e
