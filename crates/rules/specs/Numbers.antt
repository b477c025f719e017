-- How large the numbers are that an entry says. C gets all of them in one number of 64 bits (c_answers/PackedAnswers), which this law allows.
use Rattle.std.specs.Prelude.{◌≡◌, ◌≢◌, List, ℕ, ◌<◌, ◌^◌}
use Rattle.tables.specs.declared.LockEntry.{LockEntry}
use Rattle.rules.specs.Calls.{Said, refused}
use Rattle.rules.specs.Entries.{Lent, Call, call_entry, start_entry, Reading, read_entry, Listing, list_entry}
use Rattle.rules.specs.Images.{Imaged, image_entry, load_entry}

-- each number fits in 16 bits, and all but the refusal are zero where there is one
pub record Small (x : Said) : Type 0 where
  pub refusal : x.refusal < 2 ^ 16
  pub answer : x.answer < 2 ^ 16
  pub number : x.number < 2 ^ 16
  pub extra : x.extra < 2 ^ 16
  pub silent : x.refusal ≢ 0 → x ≡ refused x.refusal

-- what read, list and image say beside what they fill: the validity, the true count, and 0
abbrev pub reading_said : Reading → Said
reading_said x = record { refusal = x.refusal; answer = x.valid; number = 0; extra = 0 }

abbrev pub listing_said : Listing → Said
listing_said x = record { refusal = x.refusal; answer = x.count; number = 0; extra = 0 }

abbrev pub imaged_said : Imaged → Said
imaged_said x = record { refusal = x.refusal; answer = 0; number = 0; extra = 0 }

-- THE LAW: so small are they whatever an entry is lent. Proved as `numbers_small`.
pub record NumbersSmall : Type 0 where
  pub of_call : (c : Call) (t : Lent) → Small (call_entry c t).said
  pub of_start : (t : Lent) (r l : ℕ) → Small (start_entry t r l).said
  pub of_read : (ws ss : List ℕ) (c k : ℕ) → Small (reading_said (read_entry ws ss c k))
  pub of_list : (ws ss : List ℕ) (c k : ℕ) (es : List LockEntry) → Small (listing_said (list_entry ws ss c k es))
  pub of_image : (ws ss area : List ℕ) → Small (imaged_said (image_entry ws ss area))
  pub of_load : (bs : List ℕ) (t : Lent) → Small (load_entry bs t).said
