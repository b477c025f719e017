-- The state of a lock manager: what its two tables mean. A chain is the list of the numbers of the records on it, first to last.
use Rattle.std.specs.Prelude.{Bool, true, false, ◌&&◌, ◌||◌, not, cond, List, [], ◌∷◌, ◌++◌, ℕ, replicate, eqb}
use Rattle.tables.specs.Lists.{nth, put, remove, null, from}
pub use Rattle.tables.specs.declared.Lock.{Lock}

-- RECORDS. A lock has a resource, a client, a state, the held and the asked mode, a completion and a mark; the record is the code's struct.
-- These are its states ..
abbrev pub state_free : ℕ
state_free = 0

abbrev pub state_granted : ℕ
state_granted = 1

abbrev pub state_converting : ℕ
state_converting = 2

abbrev pub state_waiting : ℕ
state_waiting = 3

abbrev pub state_denied : ℕ
state_denied = 4

-- .. its completions: none, granted, request denied, conversion denied ..
abbrev pub completion_none : ℕ
completion_none = 0

abbrev pub completion_granted : ℕ
completion_granted = 1

abbrev pub completion_denied : ℕ
completion_denied = 2

abbrev pub completion_conversion_denied : ℕ
completion_conversion_denied = 3

-- .. and its mark where it has none. Else the mark is the largest mode that had to wait because of the lock since it was last polled.
abbrev pub mark_none : ℕ
mark_none = 0

pub record Resource : Type 0 where
  pub name : List ℕ
  pub value : List ℕ
  pub valid : ℕ
  pub grant : List ℕ
  pub convert : List ℕ
  pub wait : List ℕ

pub record Tables : Type 0 where
  pub resources : List Resource
  pub locks : List Lock
  pub free_resources : List ℕ
  pub free_locks : List ℕ
  pub denied : List ℕ
  pub blocked : List ℕ
  pub notices : List ℕ

-- how many resources and locks tables may have at most; clients are 1 to the last, modes 0 to the last
abbrev pub most_resources : ℕ
most_resources = 256

abbrev pub most_locks : ℕ
most_locks = 1024

abbrev pub last_client : ℕ
last_client = 255

abbrev pub last_mode : ℕ
last_mode = 5

-- the widths of a resource's slot: a name of at most 64 bytes, and its value block
abbrev pub name_width : ℕ
name_width = 64

abbrev pub value_width : ℕ
value_width = 32

unfoldable pub no_value : List ℕ
no_value = replicate value_width 0

-- a freed record keeps nothing
abbrev pub no_lock : Lock
no_lock = record { resource = 0; client = 0; state = state_free; held = 0; asked = 0; completion = completion_none; mark = mark_none }

-- a new lock of the client c on the resource r
abbrev pub new_lock : ℕ → ℕ → ℕ → ℕ → ℕ → Lock
new_lock r c s h a = record { resource = r; client = c; state = s; held = h; asked = a; completion = completion_none; mark = mark_none }

-- the lock of a denied request: it keeps its client (and the mark, of which a waiting lock has none)
abbrev pub denied_lock : Lock → Lock
denied_lock l =
    record { resource = 0; client = l.client; state = state_denied; held = 0; asked = 0; completion = completion_denied; mark = l.mark }

-- the lock l with another state, held and asked mode and completion: it keeps the rest
abbrev pub changed_lock : ℕ → ℕ → ℕ → ℕ → Lock → Lock
changed_lock s h a e l = record { resource = l.resource; client = l.client; state = s; held = h; asked = a; completion = e; mark = l.mark }

-- the lock l with another completion and mark
abbrev pub with_notice : ℕ → ℕ → Lock → Lock
with_notice e m l =
    record { resource = l.resource; client = l.client; state = l.state; held = l.held; asked = l.asked; completion = e; mark = m }

abbrev pub no_resource : Resource
no_resource = record { name = []; value = no_value; valid = 0; grant = []; convert = []; wait = [] }

-- the lock k, the resource r: records are numbered from 1
unfoldable pub lock : Tables → ℕ → Lock
lock t k = nth t.locks k no_lock

unfoldable pub resource : Tables → ℕ → Resource
resource t r = nth t.resources r no_resource

-- all records free, chained upward: started tables
unfoldable pub started : ℕ → ℕ → Tables
started r l =
    record {
      resources = replicate r no_resource;
      locks = replicate l no_lock;
      free_resources = from 1 r;
      free_locks = from 1 l;
      denied = [];
      blocked = [];
      notices = [];
    }

-- what a lock's record says of it
abbrev pub granted : Lock → Bool
granted l = eqb l.state state_granted

abbrev pub converting : Lock → Bool
converting l = eqb l.state state_converting

abbrev pub waiting : Lock → Bool
waiting l = eqb l.state state_waiting

abbrev pub blocked_lock : Lock → Bool
blocked_lock l = converting l || waiting l

-- it holds a mode
abbrev pub holds : Lock → Bool
holds l = granted l || converting l

-- its completion is unread
abbrev pub unread : Lock → Bool
unread l = not (eqb l.completion completion_none)

-- it has a mark
abbrev pub has_mark : Lock → Bool
has_mark l = not (eqb l.mark mark_none)

-- it belongs on the notice chain, which has "exactly the locks with a completion or a mark, converting ones included"
abbrev pub noticed : Lock → Bool
noticed l = unread l || has_mark l

-- CHAINS. The eight kinds: of free resources; of free, denied, blocked and noticed locks; and the three of each resource.
pub data Queue : Type 0 where
  grants converts waits : Queue
  deriving Discrete as Queue_discrete

pub data LockChain : Type 0 where
  free_locks denied blocked notices : LockChain
  queue : ℕ → Queue → LockChain
  deriving Discrete as LockChain_discrete

pub data Chain : Type 0 where
  free_resources : Chain
  of_locks : LockChain → Chain
  deriving Discrete as Chain_discrete

abbrev pub queue_of : Queue → Resource → List ℕ
queue_of grants x = x.grant
queue_of converts x = x.convert
queue_of waits x = x.wait

abbrev pub chain : Tables → LockChain → List ℕ
chain t free_locks = t.free_locks
chain t denied = t.denied
chain t blocked = t.blocked
chain t notices = t.notices
chain t (queue r q) = queue_of q (resource t r)

abbrev pub chain_of : Chain → Tables → List ℕ
chain_of free_resources t = t.free_resources
chain_of (of_locks c) t = chain t c

-- the home chain of a lock: its state and its resource say which
abbrev pub home_at : ℕ → ℕ → LockChain
home_at s r =
    cond (eqb s state_free) free_locks
    (cond (eqb s state_granted) (queue r grants)
    (cond (eqb s state_converting) (queue r converts)
    (cond (eqb s state_waiting) (queue r waits) denied)))

abbrev pub home : Lock → LockChain
home l = home_at l.state l.resource

-- which locks belong on a chain
abbrev pub belongs : LockChain → Lock → Bool
belongs free_locks l = eqb l.state state_free
belongs denied l = eqb l.state state_denied
belongs blocked l = blocked_lock l
belongs notices l = noticed l
belongs (queue r grants) l = granted l && eqb l.resource r
belongs (queue r converts) l = converting l && eqb l.resource r
belongs (queue r waits) l = waiting l && eqb l.resource r

-- CHANGES. Whether a record was on a chain, and whether it is to be: it leaves the chain, joins it at its end, or neither ..
unfoldable pub shift : Bool → Bool → ℕ → List ℕ → List ℕ
shift true true k xs = xs
shift true false k xs = remove k xs
shift false true k xs = xs ++ (k ∷ [])
shift false false k xs = xs

-- .. and on a chain of free records it joins at the front
unfoldable pub shift_front : Bool → Bool → ℕ → List ℕ → List ℕ
shift_front true true k xs = xs
shift_front true false k xs = remove k xs
shift_front false true k xs = k ∷ xs
shift_front false false k xs = xs

-- the lock k becomes m, on the chains of the resource r: it leaves each chain on which it no longer belongs, and joins each on which it now belongs
unfoldable pub relist : ℕ → Lock → Lock → Resource → Resource
relist k l m x =
    record {
      name = x.name;
      value = x.value;
      valid = x.valid;
      grant = shift (granted l) (granted m) k x.grant;
      convert = shift (converting l) (converting m) k x.convert;
      wait = shift (waiting l) (waiting m) k x.wait;
    }

unfoldable pub move : ℕ → ℕ → Lock → Tables → Tables
move r k m t =
    let l = lock t k in
    record {
      resources = put t.resources r (relist k l m (resource t r));
      locks = put t.locks k m;
      free_resources = t.free_resources;
      free_locks = shift_front (eqb l.state state_free) (eqb m.state state_free) k t.free_locks;
      denied = shift (eqb l.state state_denied) (eqb m.state state_denied) k t.denied;
      blocked = shift (blocked_lock l) (blocked_lock m) k t.blocked;
      notices = shift (noticed l) (noticed m) k t.notices;
    }

-- the resource r becomes x: it leaves the free chain or joins its front, as its name says
unfoldable pub move_resource : ℕ → Resource → Tables → Tables
move_resource r x t =
    record {
      resources = put t.resources r x;
      locks = t.locks;
      free_resources = shift_front (null (resource t r).name) (null x.name) r t.free_resources;
      free_locks = t.free_locks;
      denied = t.denied;
      blocked = t.blocked;
      notices = t.notices;
    }
