-- What `read` answers, and what its parts stand on and say.
use Rattle.std.specs.Prelude.{◌≡◌, true, List, ℕ, Result, Ok, Err}
use Rattle.tables.specs.State.{Tables, no_value, lock, resource, holds}
use Rattle.tables.specs.Layout.{words, slots}
use Rattle.tables.specs.Validity.{Core}
use Rattle.rules.specs.declared.Said.{Said}
use Rattle.rules.specs.Calls.{accepted}
use Rattle.rules.specs.Entries.{Reading}
use Rattle.answers.specs.declared.Refusal.{Refusal}
use Rattle.answers.specs.Refusals.{refusal_number}
use Rattle.entry_read.specs.declared.ValueRead.{ValueRead}

-- document 01's values for the struct: "the 32 bytes and validity", zeros where refused
abbrev pub reading : Result ValueRead Refusal → Reading
reading (Ok x) = record { refusal = 0; value = x.value; valid = x.valid }
reading (Err e) = record { refusal = refusal_number e; value = no_value; valid = 0 }

-- what is said of an accepted read beside the value block: its validity
abbrev pub read_answer : ValueRead → Said
read_answer x = accepted x.valid 0

-- the lock k holds a mode, so it stands on a resource
pub record HoldingLock (k : ℕ) (t : Tables) : Type 0 where
  pub core : Core t
  pub is_holder : holds (lock t k) ≡ true

-- x is what g says of the state whose words and slots these are
pub record TellsBoth {ℓ} {A : Type ℓ} (P : Tables → Type 0) (g : Tables → A) (ws ss : List ℕ) (x : A) : Type ℓ where
  pub then : (t : Tables) → P t → ws ≡ words t → ss ≡ slots t → x ≡ g t

-- the value and the validity where k stands
unfoldable pub value_beside : ℕ → Tables → Reading
value_beside k t = let x = resource t (lock t k).resource in record { refusal = 0; value = x.value; valid = x.valid }
