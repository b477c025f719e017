-- The cells of a chain among the words, as code finds them.
use Rattle.std.specs.Prelude.{◌≡◌, Bool, true, List, ℕ, Option, Some, ◌<◌, ◌≤◌, get_or, length}
use Rattle.tables.specs.State.{Chain, of_locks, home_at}
use Rattle.tables.specs.Layout.{of_lock, place, head, link, lock_width, resources_in, locks_in, most}
use Rattle.tables.specs.Threads.{Within}
use Rattle.tables.specs.Stores.{cell_holding, cell_at, shift_cells, front_cells, Safe, stride}
use Rattle.table_fields.specs.Sizes.{Sized}
use Rattle.table_chains.specs.declared.Cells.{Cells}
use Rattle.table_chains.specs.declared.End.{End}
use Rattle.table_chains.specs.declared.End.TheVariants.{Front, Back}

-- where the cell of a record stands (0: the chain's head)
abbrev pub cell_of : Cells → ℕ → ℕ
cell_of c = cell_at c.head c.first c.width

-- the cells of a chain; and the cells of a chain of locks whose head stands at hd and whose link is the field f
unfoldable pub cells_at : Chain → List ℕ → Cells
cells_at c ws =
    record {
      head = place (resources_in ws) (head c);
      first = place (resources_in ws) (link c 1);
      width = stride c;
      most = most (resources_in ws) (locks_in ws) c;
    }

unfoldable pub lock_cells : ℕ → ℕ → List ℕ → Cells
lock_cells hd f ws = record { head = hd; first = place (resources_in ws) (of_lock 1 f); width = lock_width; most = locks_in ws }

-- the chain's cells can be walked as far as the one that holds k (0: to the end)
pub record Walks (ws : List ℕ) (c : Cells) (k : ℕ) : Type 0 where
  pub sized : Sized ws
  pub head_past : 2 ≤ c.head
  pub first_past : 2 ≤ c.first
  pub walk : Safe ws (cell_of c) k c.most c.head

-- the record that `near` names, if it names one, is on the chain: if its cell holds k (0: is the last), the walk comes to that cell
pub record Near (ws : List ℕ) (c : Cells) (k : ℕ) (near : Option ℕ) : Type 0 where
  pub low : (j : ℕ) → near ≡ Some j → 1 ≤ j
  pub inside : (j : ℕ) → near ≡ Some j → cell_of c j < length ws
  pub found : (j : ℕ) → near ≡ Some j → get_or ws (cell_of c j) 0 ≡ k → cell_of c j ≡ cell_holding ws (cell_of c) k c.most c.head

-- k can leave the chain; k can join it in front
pub record Leaves (ws : List ℕ) (c : Cells) (k : ℕ) : Type 0 where
  pub walks : Walks ws c k
  pub low : 1 ≤ k
  pub inside : cell_of c k < length ws

pub record Pushes (ws : List ℕ) (c : Cells) (k : ℕ) : Type 0 where
  pub sized : Sized ws
  pub head_past : 2 ≤ c.head
  pub first_past : 2 ≤ c.first
  pub head_inside : c.head < length ws
  pub low : 1 ≤ k
  pub inside : cell_of c k < length ws

-- k can join the chain at that end
abbrev pub Joins : End → List ℕ → Cells → ℕ → Type 0
Joins Front ws c k = Pushes ws c k
Joins (Back near) ws c k = Walks ws c 0 × Near ws c 0 near

-- k is on the chain or not, and can leave it or join it
pub record Shifts (was : Bool) (e : End) (ws : List ℕ) (c : Cells) (k : ℕ) : Type 0 where
  pub leaves : was ≡ true → Leaves ws c k
  pub joins : Joins e ws c k

-- the cells after k was on the chain or not, and is to be on it or not, where it joins at that end
abbrev pub end_cells : End → Bool → Bool → (ℕ → ℕ) → ℕ → ℕ → List ℕ → List ℕ
end_cells Front = front_cells
end_cells (Back near) = shift_cells

-- the chain that is home to a state on a resource is there
pub record Housed (s r : ℕ) (ws : List ℕ) : Type 0 where
  pub sized : Sized ws
  pub some_lock : 1 ≤ locks_in ws
  pub inside : Within (resources_in ws) (locks_in ws) (head (of_locks (home_at s r)))
