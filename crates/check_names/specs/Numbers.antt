-- Numbers that tell names apart: a name's number is made of its bytes, so equal names have equal numbers.
use Rattle.std.specs.Prelude.{◌≡◌, Bool, true, false, List, ℕ, zero, suc, ◌+◌, ◌-◌, ◌*◌, ◌/◌, ◌%◌, ◌<◌, ◌≤◌, ◌^◌, get_or, length, take}
use Rattle.tables.specs.State.{name_width}
use Rattle.tables.specs.Layout.{resources_in, slot_in}
use Rattle.rules.specs.Images.{word_from}
use Rattle.table_fields.specs.Sizes.{resource_places}
use Rattle.table_names.specs.Names.{named, apart_after}
use Rattle.check_names.specs.declared.Met.{Met}

-- how many words the bytes where a name stands have
abbrev pub name_words : ℕ
name_words = name_width / 4

-- a number is below this: it has 32 binary digits
abbrev pub number_range : ℕ
number_range = 2 ^ 32

-- how many marks there are for numbers that were met
abbrev pub places : ℕ
places = 4096

-- the place of a number among the marks: the sum of its leading and its last twelve binary digits, without the carry
abbrev pub mark_place : ℕ → ℕ
mark_place x = (x + x / (number_range / places)) % places

-- the first n words of bs, each times its weight, summed up
unfoldable pub weighed : List ℕ → List ℕ → ℕ → ℕ
weighed ks bs zero = 0
weighed ks bs (suc n) = weighed ks bs n + get_or ks n 0 * word_from bs (4 * n)

-- the number of a name is made of all the bytes where it stands, by the weights ks
unfoldable pub name_number : List ℕ → List ℕ → ℕ → ℕ
unfolding weighed
name_number ks ss r = weighed ks (take name_width (slot_in ss r)) name_words % number_range

-- the names after r are noted: the number of each, and a mark at its place
pub record Noted (ws ss ks : List ℕ) (m : Met) (r : ℕ) : Type 0 where
  pub weights : length ks ≡ name_words
  pub numbers : length m.numbers ≡ resource_places
  pub marks : length m.marks ≡ places
  pub noted : (s : ℕ) → r < s → s ≤ resources_in ws → named ws s ≡ true → get_or m.numbers s 0 ≡ name_number ks ss s
  pub marked : (s : ℕ) → r < s → s ≤ resources_in ws → named ws s ≡ true → get_or m.marks (mark_place (name_number ks ss s)) false ≡ true

-- the answer for r says whether no name after it is its own; after that its name is noted too
pub record TellsApart (ws ss ks : List ℕ) (m : Met) (r : ℕ) (x : Bool) : Type 0 where
  pub answer : x ≡ apart_after ws ss r
  pub next : Noted ws ss ks m (r - 1)
