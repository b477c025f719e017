-- The entries on lent words and slots: what each gives back and leaves in them. The code's contracts cite these.
use Rattle.std.specs.Prelude.{◌≡◌, Bool, true, false, ◌&&◌, List, [], ◌∷◌, ◌++◌, map, ℕ, zero, suc, ◌*◌, length, eqb, leb}
use Rattle.tables.specs.declared.LockEntry.{LockEntry}
use Rattle.tables.specs.State.{Tables, no_value, lock, resource, started, holds, most_resources, most_locks}
use Rattle.tables.specs.Layout.{size, slot_width, words, slots, read}
use Rattle.tables.specs.Grants.{holders}
use Rattle.tables.specs.Sound.{client_right, sound}
use Rattle.rules.specs.Calls.{Said, accepted, refused, Step, unless, own, request, convert, release, cancel, purge, break, poll}

-- WHAT A CALL IS LENT: the words and the slots
pub record Lent : Type 0 where
  pub words : List ℕ
  pub slots : List ℕ

abbrev pub lent : List ℕ → List ℕ → Lent
lent ws ss = record { words = ws; slots = ss }

-- the written form of a state
abbrev pub lent_of : Tables → Lent
lent_of t = lent (words t) (slots t)

-- an entry's outcome: what it says, and what the lent tables then hold
pub record Outcome : Type 0 where
  pub said : Said
  pub lent_after : Lent

abbrev pub outcome : Said → Lent → Outcome
outcome x t = record { said = x; lent_after = t }

-- a call's step, its state written
abbrev pub written : Step → Outcome
written s = outcome s.said (lent_of s.tables)

-- a call's step on the state of sound tables is written back, or nothing is changed where it is refused
unfoldable pub written_back : ℕ → Step → Lent → Outcome
written_back zero s t = written s
written_back (suc n) s t = outcome (refused (suc n)) t

unfoldable pub if_sound : Bool → (Tables → Step) → Lent → Outcome
if_sound false call t = outcome (refused 1) t
if_sound true call t = let s = call (read t.words t.slots) in written_back s.said.refusal s t

unfoldable pub entry : (Tables → Step) → Lent → Outcome
unfolding if_sound
entry call t = if_sound (sound t.words t.slots) call t

-- THE SEVEN CALLS
pub data Call : Type 0 where
  to_request : (client mode flags : ℕ) → (name : List ℕ) → Call
  to_convert : (client number mode flags : ℕ) → (value : List ℕ) → Call
  to_release : (client number flags : ℕ) → (value : List ℕ) → Call
  to_cancel : (client number : ℕ) → Call
  to_purge : (client : ℕ) → Call
  to_break : Call
  to_poll : (client : ℕ) → Call

-- what kind of call it is
pub data Kind : Type 0 where
  a_request a_convert a_release a_cancel a_purge a_break a_poll : Kind

abbrev pub kind : Call → Kind
kind (to_request c m f n) = a_request
kind (to_convert c k m f v) = a_convert
kind (to_release c k f v) = a_release
kind (to_cancel c k) = a_cancel
kind (to_purge c) = a_purge
kind to_break = a_break
kind (to_poll c) = a_poll

abbrev pub kind_number : Kind → ℕ
kind_number a_request = 1
kind_number a_convert = 2
kind_number a_release = 3
kind_number a_cancel = 4
kind_number a_purge = 5
kind_number a_break = 6
kind_number a_poll = 7

abbrev pub same_kind : Kind → Kind → Bool
same_kind j k = eqb (kind_number j) (kind_number k)

abbrev pub step_of : Call → Tables → Step
step_of (to_request c m f n) t = request c m f n t
step_of (to_convert c k m f v) t = convert c k m f v t
step_of (to_release c k f v) t = release c k f v t
step_of (to_cancel c k) t = cancel c k t
step_of (to_purge c) t = purge c t
step_of to_break t = break t
step_of (to_poll c) t = poll c t

-- THE ENTRY of a call: what it says and leaves, of whatever it is lent
unfoldable pub call_entry : Call → Lent → Outcome
unfolding entry
call_entry c t = entry (step_of c) t

-- THE CONTRACT of a call's entry, which was lent t, said x and left u. The contract of each of the seven entries cites it, and a run of the
-- program is made of it (queue_theorem/Runs).
abbrev pub Keeps : Call → Lent → Said → Lent → Type 0
Keeps c t x u = outcome x u ≡ call_entry c t

-- START. Its tables may hold anything before; 2 where R, L or a length is wrong.
unfoldable pub start_accepts : List ℕ → List ℕ → ℕ → ℕ → Bool
start_accepts ws ss r l =
    leb 1 r && leb r most_resources && leb 1 l && leb l most_locks && eqb (length ws) (size r l) && eqb (length ss) (slot_width * r)

unfoldable pub start_if : Bool → Lent → ℕ → ℕ → Outcome
start_if false t r l = outcome (refused 2) t
start_if true t r l = outcome (accepted 0 0) (lent_of (started r l))

unfoldable pub start_entry : Lent → ℕ → ℕ → Outcome
unfolding start_accepts start_if
start_entry t r l = start_if (start_accepts t.words t.slots r l) t r l

-- READ: the 32 bytes and validity; zeros where refused
pub record Reading : Type 0 where
  pub refusal : ℕ
  pub value : List ℕ
  pub valid : ℕ

-- "read or list of one waiting or denied" gets 10: it holds no mode
unfoldable pub look_refusal : ℕ → ℕ → Tables → ℕ
look_refusal c k t = unless (client_right c) 3 (unless (own c k t) 8 (unless (holds (lock t k)) 10 0))

unfoldable pub read_value : ℕ → ℕ → Tables → Reading
read_value zero r t = record { refusal = 0; value = (resource t r).value; valid = (resource t r).valid }
read_value (suc n) r t = record { refusal = suc n; value = no_value; valid = 0 }

unfoldable pub read_if : Bool → List ℕ → List ℕ → ℕ → ℕ → Reading
unfolding read_value
read_if false ws ss c k = record { refusal = 1; value = no_value; valid = 0 }
read_if true ws ss c k = let t = read ws ss in read_value (look_refusal c k t) (lock t k).resource t

unfoldable pub read_entry : List ℕ → List ℕ → ℕ → ℕ → Reading
unfolding read_if
read_entry ws ss c k = read_if (sound ws ss) ws ss c k

-- LIST: the resource's locks in grant, convert, wait order into a lent list, as many as fit, and the true count
pub record Listing : Type 0 where
  pub refusal : ℕ
  pub count : ℕ
  pub entries : List LockEntry

abbrev pub lock_entry : Tables → ℕ → LockEntry
lock_entry t k =
    record { number = k; client = (lock t k).client; state = (lock t k).state; held = (lock t k).held; asked = (lock t k).asked }

unfoldable pub listed : Tables → ℕ → List LockEntry
listed t r = map (lock_entry t) (holders t r ++ (resource t r).wait)

-- as many of the first as the second has places, and then the rest of the second
unfoldable pub fill : List LockEntry → List LockEntry → List LockEntry
fill [] ys = ys
fill (x ∷ xs) [] = []
fill (x ∷ xs) (y ∷ ys) = x ∷ fill xs ys

unfoldable pub list_locks : ℕ → ℕ → Tables → List LockEntry → Listing
list_locks zero r t lent = record { refusal = 0; count = length (listed t r); entries = fill (listed t r) lent }
list_locks (suc n) r t lent = record { refusal = suc n; count = 0; entries = lent }

unfoldable pub list_if : Bool → List ℕ → List ℕ → ℕ → ℕ → List LockEntry → Listing
unfolding list_locks
list_if false ws ss c k lent = record { refusal = 1; count = 0; entries = lent }
list_if true ws ss c k lent = let t = read ws ss in list_locks (look_refusal c k t) (lock t k).resource t lent

unfoldable pub list_entry : List ℕ → List ℕ → ℕ → ℕ → List LockEntry → Listing
unfolding list_if
list_entry ws ss c k lent = list_if (sound ws ss) ws ss c k lent
