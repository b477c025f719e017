-- Chains that are threaded through the words: each record on one stands there once, and its word on the chain is where the layout puts it.
use Rattle.std.specs.Prelude.{◌≡◌, ◌≢◌, Bool, true, false, List, [], ◌∷◌, ℕ, ◌≤◌, ◌<◌, length}
use Rattle.tables.specs.State.{Tables, lock, blocked_lock, noticed, Chain, of_locks, chain_of, home}
use Rattle.tables.specs.Layout.{header_width, resource_width, lock_width, Address, of_header, of_resource, of_lock, head, cell, following, word_at}

abbrev pub Absent : ℕ → List ℕ → Type 0
Absent k [] = Unit {0}
Absent k (x ∷ xs) = (k ≢ x) × Absent k xs

abbrev pub Distinct : List ℕ → Type 0
Distinct [] = Unit {0}
Distinct (x ∷ xs) = Absent x xs × Distinct xs

abbrev pub Each : (ℕ → Type 0) → List ℕ → Type 0
Each P [] = Unit {0}
Each P (x ∷ xs) = P x × Each P xs

-- an address of tables with r resources and l locks
abbrev pub Within : ℕ → ℕ → Address → Type 0
Within r l (of_header f) = f < header_width
Within r l (of_resource k f) = (1 ≤ k) × (k ≤ r) × (f < resource_width)
Within r l (of_lock k f) = (1 ≤ k) × (k ≤ l) × (f < lock_width)

-- an address of t
abbrev pub In : Tables → Address → Type 0
In t a = Within (length t.resources) (length t.locks) a

-- the chain is there to be changed
abbrev pub Present : Tables → Chain → Type 0
Present t c = In t (head c)

-- the word of k on c stands where its cell is: so it does where the cell is in the tables, and k's home is c if the cell is a home link
pub record LinkedAt (t : Tables) (c : Chain) (k : ℕ) : Type 0 where
  pub inside : In t (cell c k)
  pub says : word_at t (cell c k) ≡ following c k

-- k can stand on c
abbrev pub Stands : Tables → Chain → ℕ → Type 0
Stands t c k = (1 ≤ k) × LinkedAt t c k

-- a chain whose words say what it is
pub record Threaded (t : Tables) (c : Chain) : Type 0 where
  pub present : Present t c
  pub distinct : Distinct (chain_of c t)
  pub members : Each (Stands t c) (chain_of c t)

-- a state of r resources and l locks whose chains are all threaded
pub record Sane (r l : ℕ) (t : Tables) : Type 0 where
  pub resources : length t.resources ≡ r
  pub locks : length t.locks ≡ l
  pub chains : (c : Chain) → Present t c → Threaded t c

-- k is on the list, or it is not
abbrev pub Seat : Bool → ℕ → List ℕ → Type 0
Seat true k xs = Absent k xs → ⊥
Seat false k xs = Absent k xs

-- every lock stands where its fields say
pub record Whole (r l : ℕ) (t : Tables) : Type 0 where
  pub sane : Sane r l t
  pub homes : (k : ℕ) → 1 ≤ k → k ≤ l → Present t (of_locks (home (lock t k)))
  pub at_home : (k : ℕ) → 1 ≤ k → k ≤ l → Absent k (chain_of (of_locks (home (lock t k))) t) → ⊥
  pub on_blocked : (k : ℕ) → 1 ≤ k → k ≤ l → Seat (blocked_lock (lock t k)) k t.blocked
  pub on_notices : (k : ℕ) → 1 ≤ k → k ≤ l → Seat (noticed (lock t k)) k t.notices
