-- What the functions on names and slots stand on, and what they leave.
use Rattle.std.specs.Prelude.{◌≡◌, true, List, ◌++◌, ℕ, ◌-◌, ◌*◌, ◌≤◌, length, replicate, take, drop}
use Rattle.tables.specs.State.{name_width}
use Rattle.tables.specs.Layout.{of_resource, slot_width, resources_in, word_in}
use Rattle.table_fields.specs.Sizes.{Sized}
use Rattle.table_names.specs.Names.{slot_fine}

-- the words are as long as they say, and there is a slot for each resource
pub record Slotted (ws ss : List ℕ) : Type 0 where
  pub sized : Sized ws
  pub long : length ss ≡ slot_width * resources_in ws

-- no name is too long
pub record Short (ws : List ℕ) : Type 0 where
  pub sized : Sized ws
  pub short : (r : ℕ) → 1 ≤ r → r ≤ resources_in ws → word_in ws (of_resource r 4) ≤ name_width

-- both: every name can be read
pub record Named (ws ss : List ℕ) : Type 0 where
  pub slotted : Slotted ws ss
  pub lengths : Short ws

-- and what stands after a name is zero
pub record Tidy (ws ss : List ℕ) : Type 0 where
  pub named : Named ws ss
  pub fine : (r : ℕ) → 1 ≤ r → r ≤ resources_in ws → slot_fine ws ss r ≡ true

-- the slots, with x in the place of the slot of r
abbrev pub with_slot : ℕ → List ℕ → List ℕ → List ℕ
with_slot r x ss = take (slot_width * (r - 1)) ss ++ (x ++ drop (slot_width * r) ss)

-- the slot of a resource that is free
unfoldable pub blank : List ℕ
blank = replicate slot_width 0
