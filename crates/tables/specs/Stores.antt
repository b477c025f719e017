-- What code does to the words when a record joins, leaves or changes: the stores, one after the other.
use Rattle.std.specs.Prelude.{◌≢◌, Bool, true, false, ◌&&◌, cond, List, [], ◌∷◌, ℕ, zero, suc, ◌+◌, ◌-◌, ◌*◌, ◌≤◌, ◌<◌, get_or, set, length, eqb}
use Rattle.tables.specs.Lists.{next}
use Rattle.tables.specs.State.{Lock, Tables, state_free, holds, blocked_lock, noticed, blocked, notices, Chain, free_resources, of_locks, chain_of, home}
use Rattle.tables.specs.Layout.{resource_width, lock_width, Address, of_resource, of_lock, place, by_address, cell, lock_links, lock_fields, count_field, Word, plain, following, tallied, word_at}

-- a run of stores: vs at the places at_field f, at_field (f + 1), ..
abbrev pub store_run : (ℕ → ℕ) → ℕ → List ℕ → List ℕ → List ℕ
store_run at_field f [] ws = ws
store_run at_field f (v ∷ vs) ws = store_run at_field (suc f) vs (set ws (at_field f) v)

-- from a cell on, the cell that holds k, at most n cells further; place k: where the cell of the record k stands
unfoldable pub cell_holding : List ℕ → (ℕ → ℕ) → ℕ → ℕ → ℕ → ℕ
cell_holding ws place k zero at_cell = at_cell
cell_holding ws place k (suc n) at_cell = elim (eqb k (get_or ws at_cell 0)) [ true ↦ at_cell | false ↦ cell_holding ws place k n (place (get_or ws at_cell 0)) ]

-- a chain's cells, where its head stands at one place and its links a width apart
abbrev pub cell_at : ℕ → ℕ → ℕ → ℕ → ℕ
cell_at head first width zero = head
cell_at head first width (suc k) = first + width * k

-- the walk stays inside the words, and a cell on the way that does not hold k names a record
abbrev pub Safe : List ℕ → (ℕ → ℕ) → ℕ → ℕ → ℕ → Type 0
Safe ws place k zero cell = cell < length ws
Safe ws place k (suc n) cell = (cell < length ws) × (get_or ws cell 0 ≢ k → (1 ≤ get_or ws cell 0) × Safe ws place k n (place (get_or ws cell 0)))

-- k joins a chain at its end, joins it in front, leaves it. at_cell j says where the cell of j stands (j = 0: the chain's head), n bounds the walk.
unfoldable pub join_cells : (ℕ → ℕ) → ℕ → ℕ → List ℕ → List ℕ
join_cells at_cell n k ws = set ws (cell_holding ws at_cell 0 n (at_cell 0)) k

unfoldable pub push_cells : (ℕ → ℕ) → ℕ → List ℕ → List ℕ
push_cells at_cell k ws = set (set ws (at_cell k) (get_or ws (at_cell 0) 0)) (at_cell 0) k

unfoldable pub leave_cells : (ℕ → ℕ) → ℕ → ℕ → List ℕ → List ℕ
leave_cells at_cell n k ws = set (set ws (cell_holding ws at_cell k n (at_cell 0)) (get_or ws (at_cell k) 0)) (at_cell k) 0

-- where the cell of k stands, with r resources
abbrev pub cell_place : ℕ → Chain → ℕ → ℕ
cell_place r c k = place r (cell c k)

-- how far apart the links of a chain stand; so code finds its cells from two places and that width
abbrev pub stride : Chain → ℕ
stride free_resources = resource_width
stride (of_locks c) = lock_width

-- a lock l that becomes m stays on its home chain
unfoldable pub stays : Lock → Lock → Bool
stays l m = eqb l.state m.state && eqb l.resource m.resource

-- k on a chain, where it was and is to be on it or not
unfoldable pub shift_cells : Bool → Bool → (ℕ → ℕ) → ℕ → ℕ → List ℕ → List ℕ
shift_cells true true at_cell n k ws = ws
shift_cells true false at_cell n k ws = leave_cells at_cell n k ws
shift_cells false true at_cell n k ws = join_cells at_cell n k ws
shift_cells false false at_cell n k ws = ws

unfoldable pub arrive_cells : Bool → (ℕ → ℕ) → ℕ → ℕ → List ℕ → List ℕ
arrive_cells true at_cell n k ws = push_cells at_cell k ws
arrive_cells false at_cell n k ws = join_cells at_cell n k ws

-- the fields of k become m's; and where its home does not stay, k goes from the home of o to that of m
unfoldable pub set_cells : ℕ → ℕ → Lock → List ℕ → List ℕ
set_cells r k m ws = store_run (λ f. place r (of_lock k f)) lock_links (lock_fields m) ws

unfoldable pub resettle_cells : Bool → ℕ → ℕ → ℕ → Lock → Lock → List ℕ → List ℕ
unfolding set_cells
resettle_cells true r l k o m ws = set_cells r k m ws
resettle_cells false r l k o m ws =
    arrive_cells (eqb m.state state_free) (cell_place r (of_locks (home m))) l k (set_cells r k m (leave_cells (cell_place r (of_locks (home o))) l k ws))

-- what happens on the blocked chain and then on the notice chain when the lock k, which is o, becomes m
unfoldable pub side_cells : ℕ → ℕ → ℕ → Lock → Lock → List ℕ → List ℕ
side_cells r l k o m ws =
    shift_cells (noticed o) (noticed m) (cell_place r (of_locks notices)) l k (shift_cells (blocked_lock o) (blocked_lock m) (cell_place r (of_locks blocked)) l k ws)

-- and on all of its chains, with its fields
unfoldable pub move_cells : ℕ → ℕ → ℕ → Lock → Lock → List ℕ → List ℕ
unfolding side_cells
move_cells r l k o m ws = resettle_cells (stays o m) r l k o m (side_cells r l k o m ws)

-- k on a chain of free records, where it was and is to be on it or not: it enters at the front
unfoldable pub front_cells : Bool → Bool → (ℕ → ℕ) → ℕ → ℕ → List ℕ → List ℕ
front_cells true true at_cell n k ws = ws
front_cells true false at_cell n k ws = leave_cells at_cell n k ws
front_cells false true at_cell n k ws = push_cells at_cell k ws
front_cells false false at_cell n k ws = ws

-- the word that counts what the lock l holds, with r resources; l is no longer counted there, or is
abbrev pub count_place : ℕ → Lock → ℕ
count_place r l = place r (of_resource l.resource (count_field l.held))

unfoldable pub lower_count : ℕ → Lock → List ℕ → List ℕ
lower_count r l ws = cond (holds l) (set ws (count_place r l) (get_or ws (count_place r l) 0 - 1)) ws

unfoldable pub raise_count : ℕ → Lock → List ℕ → List ℕ
raise_count r l ws = cond (holds l) (set ws (count_place r l) (get_or ws (count_place r l) 0 + 1)) ws

-- the words of a state with any counts of the held modes: while a lock moves, they are already those of the state to come
abbrev pub Counts : Type 0
Counts = ℕ → ℕ → ℕ

abbrev pub value_with : Counts → Tables → Word → ℕ
value_with counts t (plain v) = v
value_with counts t (following c k) = next k (0 ∷ chain_of c t)
value_with counts t (tallied r m) = counts r m

abbrev pub content_with : Counts → Tables → Address → ℕ
content_with counts t a = value_with counts t (word_at t a)

unfoldable pub words_with : Counts → Tables → List ℕ
words_with counts t = by_address (length t.resources) (length t.locks) (content_with counts t)
