-- What a listing is made of.
use Rattle.std.specs.Prelude.{List, ℕ, length}
use Rattle.tables.specs.declared.LockEntry.{LockEntry}
use Rattle.tables.specs.State.{Tables, lock}
use Rattle.tables.specs.Layout.{read}
use Rattle.tables.specs.Sound.{sound}
use Rattle.rules.specs.declared.Said.{Said}
use Rattle.rules.specs.Calls.{unless}
use Rattle.rules.specs.Entries.{look_refusal, Listing, lock_entry, listed, fill}

-- the answer, and what the lent list then holds
abbrev pub listing : Said → List LockEntry → Listing
listing x es = record { refusal = x.refusal; count = x.answer; entries = es }

-- why a listing is turned down, or 0
unfoldable pub list_refusal : List ℕ → List ℕ → ℕ → ℕ → ℕ
list_refusal ws ss c k = unless (sound ws ss) 1 (look_refusal c k (read ws ss))

-- the resource of a lock, and what a listing says of it
unfoldable pub resource_of : ℕ → Tables → ℕ
resource_of k t = (lock t k).resource

unfoldable pub entry_of : ℕ → Tables → LockEntry
entry_of k t = lock_entry t k

-- the locks on r, as many as fit, and the true count
unfoldable pub listing_of : ℕ → List LockEntry → Tables → Listing
listing_of r es t = record { refusal = 0; count = length (listed t r); entries = fill (listed t r) es }
