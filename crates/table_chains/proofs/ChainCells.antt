-- The cells of a chain of a state: where code can walk them, and which places and bounds they are.
use mathlib.Core.Path.{◌≡◌, refl, sym, ◌∙◌, ap, ap₂, subst}
use mathlib.Core.Logic.{◌≢◌}
use mathlib.Core.List.{List}
use Prim.Native.Nat.{ℕ, ◌<◌, ◌≤◌}
use native.Mathlib.Omega.{arith}
use lib.ListN.{get_or, length}
use Rattle.tables.specs.State.{Tables, free_locks, denied, blocked, notices, queue, Chain, free_resources, of_locks, chain_of}
use Rattle.tables.specs.Layout.{Address, place, head, link, cell, resources_in, locks_in, most}
use Rattle.tables.specs.Threads.{Absent}
use Rattle.tables.proofs.Links.{each_on}
use Rattle.tables.specs.Threads.{Within}
use Rattle.tables.proofs.Grid.{place_size}
use Rattle.tables.specs.Threads.{In}
use Rattle.tables.specs.Threads.{Stands, Threaded}
use Rattle.tables.proofs.WordChanges.{length_words_with}
use Rattle.tables.specs.Stores.{Counts, words_with, cell_holding, Safe}
use Rattle.tables.proofs.ChainWalk.{walk_safe_with, near_holds_with}
use Rattle.tables.proofs.ReadBack.{resources_word_with, locks_word_with, chain_most}
use Rattle.tables.specs.Stores.{cell_place}
use Rattle.tables.proofs.WordSteps.{cells_are}
use Rattle.table_fields.specs.Sizes.{Sized, Kept}
use Rattle.std.specs.Prelude.{Option, Some}
use Rattle.table_chains.specs.declared.Cells.{Cells}
use Rattle.table_chains.specs.Cells.{cell_of, cells_at, lock_cells, Walks, Near, Leaves, Pushes}

pub kept_trans : (a b d : List ℕ) → Kept a b → Kept b d → Kept a d
kept_trans a b d h k = record { sized = k.sized; same_resources = k.same_resources ∙ h.same_resources; same_locks = k.same_locks ∙ h.same_locks }

-- the two chains beside the homes
pub blocked_cells : (ws : List ℕ) → lock_cells 5 1 ws ≡ cells_at (of_locks blocked) ws
unfolding lock_cells cells_at
blocked_cells ws = refl

pub notice_cells : (ws : List ℕ) → lock_cells 6 2 ws ≡ cells_at (of_locks notices) ws
unfolding lock_cells cells_at
notice_cells ws = refl

-- no cell of a chain stands among the two counts
head_past : (r : ℕ) (c : Chain) → 2 ≤ place r (head c)
head_past r free_resources = omega arith
head_past r (of_locks free_locks) = omega arith
head_past r (of_locks denied) = omega arith
head_past r (of_locks blocked) = omega arith
head_past r (of_locks notices) = omega arith
head_past r (of_locks (queue s q)) = omega arith

first_past : (r : ℕ) (c : Chain) → 2 ≤ place r (link c 1)
first_past r free_resources = omega arith
first_past r (of_locks free_locks) = omega arith
first_past r (of_locks denied) = omega arith
first_past r (of_locks blocked) = omega arith
first_past r (of_locks notices) = omega arith
first_past r (of_locks (queue s q)) = omega arith

-- cells as places and bounds
module _ (c : Chain) (ws : List ℕ) (cs : Cells) (e : cs ≡ cells_at c ws) where
  cells_now : cell_of cs ≡ cell_place (resources_in ws) c
  unfolding cells_at
  cells_now = ap cell_of e ∙ cells_are (resources_in ws) c

  most_now : cs.most ≡ most (resources_in ws) (locks_in ws) c
  unfolding cells_at
  most_now = ap (λ (x : Cells). x.most) e

  pub by_cells : {A : Type 0} (f : (ℕ → ℕ) → ℕ → A) → f (cell_of cs) cs.most ≡ f (cell_place (resources_in ws) c) (most (resources_in ws) (locks_in ws) c)
  by_cells f = ap₂ f cells_now most_now

  cells_head_past : 2 ≤ cs.head
  unfolding cells_at
  cells_head_past = rw e (head_past (resources_in ws) c)

  cells_first_past : 2 ≤ cs.first
  unfolding cells_at
  cells_first_past = rw e (first_past (resources_in ws) c)

-- the words of a state, whatever their counts
module _ (ct : Counts) (t : Tables) (ws : List ℕ) (is : ws ≡ words_with ct t) where
  pub resources_with : resources_in ws ≡ length t.resources
  resources_with = ap (λ (x : List ℕ). get_or x 0 0) is ∙ resources_word_with ct t

  pub locks_with : locks_in ws ≡ length t.locks
  locks_with = ap (λ (x : List ℕ). get_or x 1 0) is ∙ locks_word_with ct t

  -- an address of the state, by what the words say
  pub within_words : (a : Address) → In t a → Within (resources_in ws) (locks_in ws) a
  within_words a h = rw (resources_with, locks_with) h

  inside : (a : Address) → In t a → place (resources_in ws) a < length ws
  inside a h = rw (is, length_words_with ct t) (rw (resources_word_with ct t) (place_size (length t.resources) (length t.locks) a h))

  module _ (c : Chain) (h : Threaded t c) (cs : Cells) (e : cs ≡ cells_at c ws) (sized : Sized ws) where
    walk_at : (k : ℕ) → (k ≢ 0 → Absent k (chain_of c t) → ⊥) → Safe ws (cell_of cs) k cs.most cs.head
    walk_at k o =
        let bound : length (chain_of c t) ≤ cs.most = omega (arith, chain_most t c h, most_now c ws cs e ∙ ap₂ (λ (r l : ℕ). most r l c) resources_with locks_with) in
        let cells : cell_of cs ≡ cell_place (length t.resources) c = cells_now c ws cs e ∙ ap (λ (r : ℕ). cell_place r c) resources_with in
        subst (λ (x : List ℕ). Safe x (cell_of cs) k cs.most cs.head) (sym is)
        (subst (λ (f : ℕ → ℕ). Safe (words_with ct t) f k cs.most (f 0)) (sym cells) (walk_safe_with ct t c h k cs.most bound o))

    pub chain_walks : (k : ℕ) → (k ≢ 0 → Absent k (chain_of c t) → ⊥) → Walks ws cs k
    chain_walks k o = record { sized = sized; head_past = cells_head_past c ws cs e; first_past = cells_first_past c ws cs e; walk = walk_at k o }

    pub chain_joins : Walks ws cs 0
    chain_joins = chain_walks 0 (λ z a. z refl)

    own_inside : (k : ℕ) → Stands t c k → cell_of cs k < length ws
    own_inside k s = rw (ap (λ (f : ℕ → ℕ). f k) (cells_now c ws cs e)) (inside (cell c k) s.1.inside)

    pub chain_leaves : (k : ℕ) → (Absent k (chain_of c t) → ⊥) → Leaves ws cs k
    chain_leaves k o =
        let s : Stands t c k = each_on (Stands t c) (chain_of c t) k h.members o in
        record { walks = chain_walks k (λ z. o); low = s.0; inside = own_inside k s }

    -- a record of the chain, whose cell may be the one that a walk looks for
    near_at : (k : ℕ) → (k ≢ 0 → Absent k (chain_of c t) → ⊥) → (j : ℕ) → (Absent j (chain_of c t) → ⊥)
        → get_or ws (cell_of cs j) 0 ≡ k → cell_of cs j ≡ cell_holding ws (cell_of cs) k cs.most cs.head
    near_at k o j on =
        let bound : length (chain_of c t) ≤ cs.most = omega (arith, chain_most t c h, most_now c ws cs e ∙ ap₂ (λ (r l : ℕ). most r l c) resources_with locks_with) in
        let cells : cell_of cs ≡ cell_place (length t.resources) c = cells_now c ws cs e ∙ ap (λ (r : ℕ). cell_place r c) resources_with in
        subst (λ (x : List ℕ). get_or x (cell_of cs j) 0 ≡ k → cell_of cs j ≡ cell_holding x (cell_of cs) k cs.most cs.head) (sym is)
        (subst (λ (f : ℕ → ℕ). get_or (words_with ct t) (f j) 0 ≡ k → f j ≡ cell_holding (words_with ct t) f k cs.most (f 0)) (sym cells) (near_holds_with ct t c h k cs.most bound o j on))

    pub chain_near : (k : ℕ) → (k ≢ 0 → Absent k (chain_of c t) → ⊥) → (x : Option ℕ) → ((j : ℕ) → x ≡ Some j → (1 ≤ j) × (Absent j (chain_of c t) → ⊥)) → Near ws cs k x
    chain_near k o x on =
        record {
          low = λ j p. (on j p).0;
          inside = λ j p. own_inside j (each_on (Stands t c) (chain_of c t) j h.members (on j p).1);
          found = λ j p. near_at k o j (on j p).1;
        }

    head_inside : cs.head < length ws
    head_inside = rw (ap (λ (f : ℕ → ℕ). f 0) (cells_now c ws cs e)) (inside (head c) h.present)

    pub chain_pushes : (k : ℕ) → Stands t c k → Pushes ws cs k
    chain_pushes k s =
        record {
          sized = sized;
          head_past = cells_head_past c ws cs e;
          first_past = cells_first_past c ws cs e;
          head_inside = head_inside;
          low = s.0;
          inside = own_inside k s;
        }
