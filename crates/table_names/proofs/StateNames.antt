-- Names and slots of the written form of a state: what is found, and what the stores leave.
use mathlib.Core.Path.{◌≡◌, refl, sym, ap, ap₂, ◌∙◌}
use mathlib.Core.Bool.{true}
use mathlib.Core.List.{List, [], ◌++◌, append_assoc}
use Prim.Native.Nat.{ℕ, ◌-◌, ◌*◌, ◌≤◌}
use native.Mathlib.Omega.{arith}
use lib.ListN.{length, take, drop, replicate, length-append, length-replicate}
use lib.Seq.{take_at}
use Rattle.tables.specs.Lists.{first_that, from, same, null}
use Rattle.tables.specs.State.{Resource, Tables, name_width, no_resource, resource, move_resource}
use Rattle.tables.specs.Layout.{of_resource, slot_width, words, slot, slots, word_in, slot_in, read_resource, read}
use Rattle.tables.proofs.Blocks.{length_blocks}
use Rattle.tables.proofs.ReadBack.{resources_word, resource_read, slot_read, slot_length, word_read, tables_read}
use Rattle.tables.proofs.ThreadedChains.{core_readable}
use Rattle.tables.proofs.ResourceMoved.{resource_moved_slots}
use Rattle.tables.proofs.Counts.{first_cong, from_in, null_nil}
use Rattle.tables.proofs.Written.{valid_readable, for_sound}
use Rattle.tables.specs.Validity.{Core}
use Rattle.tables.specs.Sound.{sound}
use Rattle.rules.specs.Queues.{find}
use Rattle.rules.specs.Calls.{new_resource}
use Rattle.table_names.specs.Names.{name_in, find_in}
use Rattle.table_names.specs.Promises.{Slotted, Named, with_slot, blank}
use Rattle.table_names.proofs.SlotStores.{blank_slot}
use Rattle.table_fields.proofs.StateWords.{core_sized}

-- a slot is its resource's name and value
slot_by : (x y : Resource) → x.name ≡ y.name → x.value ≡ y.value → slot x ≡ slot y
unfolding slot
slot_by x y e f = ap₂ (λ (n v : List ℕ). n ++ (replicate (name_width - length n) 0 ++ v)) e f

value_in_slot : (x y : Resource) (v : List ℕ) → length x.name ≤ name_width → y.name ≡ x.name → y.value ≡ v → take name_width (slot x) ++ v ≡ slot y
unfolding slot
value_in_slot x y v h e f =
    let zeros : List ℕ = replicate (name_width - length x.name) 0 in
    let l : length (x.name ++ zeros) ≡ name_width = simp (length-append, length-replicate) (omega arith) in
    ap (λ (xs : List ℕ). xs ++ v) (ap (take name_width) (sym (append_assoc x.name zeros x.value)) ∙ take_at (x.name ++ zeros) x.value name_width l)
    ∙ append_assoc x.name zeros v
    ∙ ap₂ (λ (n w : List ℕ). n ++ (replicate (name_width - length n) 0 ++ w)) (sym e) (sym f)

module _ (t : Tables) (core : Core t) where
  -- what names and slots stand on
  pub core_slotted : Slotted (words t) (slots t)
  unfolding slots
  core_slotted =
      record {
        sized = core_sized t (words t) refl core;
        long = rw (resources_word t) (length_blocks slot_width (λ r. slot (resource t r)) (λ r. slot_length (resource t r) (core.resource_ok r).name_length (core.resource_ok r).value_length) 1 (length t.resources));
      }

  module _ (r : ℕ) (low : 1 ≤ r) (high : r ≤ length t.resources) where
    pub length_is : word_in (words t) (of_resource r 4) ≡ length (resource t r).name
    length_is = word_read t (of_resource r 4) (low, high, omega arith)

    pub name_is : name_in (words t) (slots t) r ≡ (resource t r).name
    unfolding name_in read_resource
    name_is = ap (λ (x : Resource). x.name) (resource_read t (core_readable t core) r low high)

    pub value_is : drop name_width (slot_in (slots t) r) ≡ (resource t r).value
    unfolding read_resource
    value_is = ap (λ (x : Resource). x.value) (resource_read t (core_readable t core) r low high)

    pub slot_is : slot_in (slots t) r ≡ slot (resource t r)
    slot_is = slot_read t (core_readable t core) r low high

  pub core_named : Named (words t) (slots t)
  core_named =
      record {
        slotted = core_slotted;
        lengths = record { sized = core_sized t (words t) refl core; short = λ r p q. rw (length_is r p (rw (resources_word t) at q)) (core.resource_ok r).name_length };
      }

  -- a name is found where the state has it
  pub find_is : (n : List ℕ) → find_in (words t) (slots t) n ≡ find n t
  unfolding find_in find
  find_is n =
      ap (λ (m : ℕ). first_that (λ r. same (name_in (words t) (slots t) r) n) (from 1 m)) (resources_word t)
      ∙ first_cong (λ r. same (name_in (words t) (slots t) r) n) (λ r. same (resource t r).name n) (from 1 (length t.resources))
      (λ r m. let i = from_in (length t.resources) r m in ap (λ (xs : List ℕ). same xs n) (name_is r i.0 i.1))

  -- what the stores leave is the written form of the state that has the new resource
  module _ (r : ℕ) (low : 1 ≤ r) (high : r ≤ length t.resources) where
    pub slot_there : slot_width * r ≤ length (slots t)
    slot_there = let l = core_slotted.long in let m = resources_word t in omega arith

    -- a new name: its slot was blank
    pub free_slot : null (resource t r).name ≡ true → slot_in (slots t) r ≡ blank
    free_slot h = slot_is r low high ∙ slot_named (null_nil (resource t r).name h) ∙ sym blank_slot
      where
        slot_named : (resource t r).name ≡ [] → slot (resource t r) ≡ slot no_resource
        slot_named e = slot_by (resource t r) no_resource e ((core.resource_ok r).unused_value e)

    pub put_slot : (x : Resource) → with_slot r (slot x) (slots t) ≡ slots (move_resource r x t)
    put_slot x = sym (resource_moved_slots r x t core low high)

    pub put_name : (n : List ℕ) → with_slot r (slot (new_resource n)) (slots t) ≡ slots (move_resource r (new_resource n) t)
    put_name n = put_slot (new_resource n)

    -- a new value
    pub put_value : (x : Resource) (v : List ℕ) → x.name ≡ (resource t r).name → x.value ≡ v
        → with_slot r (take name_width (slot_in (slots t) r) ++ v) (slots t) ≡ slots (move_resource r x t)
    put_value x v e f =
        ap (λ (xs : List ℕ). with_slot r xs (slots t))
        (ap (λ (xs : List ℕ). take name_width xs ++ v) (slot_is r low high) ∙ value_in_slot (resource t r) x v (core.resource_ok r).name_length e f)
        ∙ put_slot x

    -- a freed resource
    pub put_blank : with_slot r blank (slots t) ≡ slots (move_resource r no_resource t)
    put_blank = ap (λ (xs : List ℕ). with_slot r xs (slots t)) blank_slot ∙ put_slot no_resource

-- so of sound words and slots
pub sound_named : (ws ss : List ℕ) → sound ws ss ≡ true → Named ws ss
sound_named = for_sound Named (λ t v. core_named t v.core)

pub sound_find : (n ws ss : List ℕ) → sound ws ss ≡ true → find_in ws ss n ≡ find n (read ws ss)
sound_find n = for_sound (λ ws ss. find_in ws ss n ≡ find n (read ws ss)) (λ t v. find_is t v.core n ∙ ap (find n) (sym (tables_read t (valid_readable t v))))
