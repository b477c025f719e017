-- What a walk through the cells of a chain does at each step, and the stores at its end.
use mathlib.Core.Path.{◌≡◌, refl, sym, ◌∙◌}
use mathlib.Core.Logic.{◌≢◌}
use mathlib.Core.Bool.{Bool, true, false}
use mathlib.Core.List.{List}
use Prim.Native.Nat.{ℕ, zero, suc, ◌+◌, ◌-◌, ◌<◌, ◌≤◌}
use native.Mathlib.Omega.{arith}
use native.Mathlib.Decide.{ℕ_discrete}
use lib.ListN.{get_or, set, length}
use borrow.Author.Rules.{rules}
use borrow.Author.Tests.{eq-eqb, ne_eqb}
use Rattle.tables.specs.Stores.{cell_holding, Safe}
use Rattle.tables.specs.Stores.{push_cells, leave_cells, join_cells, shift_cells, front_cells}
use Rattle.table_fields.specs.Sizes.{Sized, Kept}
use Rattle.table_fields.proofs.Laws.{kept_set, kept_all}
use Rattle.std.specs.Prelude.{Option, None}
use Rattle.table_chains.specs.declared.Cells.{Cells}
use Rattle.table_chains.specs.declared.End.{End}
use Rattle.table_chains.specs.declared.End.TheVariants.{Front, Back}
use Rattle.table_chains.specs.Cells.{cell_of, Walks, Near, Leaves, Pushes, Shifts, Joins, end_cells}

-- no cell stands among the two counts
pub cell_past : (c : Cells) → 2 ≤ c.head → 2 ≤ c.first → (k : ℕ) → 2 ≤ cell_of c k
cell_past c h f zero = h
cell_past c h f (suc k) = omega arith

module _ (ws : List ℕ) (at_cell : ℕ → ℕ) (k : ℕ) where
  safe_cell : (n cell : ℕ) → Safe ws at_cell k n cell → cell < length ws
  safe_cell zero cell h = h
  safe_cell (suc n) cell h = h.0

  safe_positive : (n cell : ℕ) → 0 < n → get_or ws cell 0 ≢ k → Safe ws at_cell k n cell → 1 ≤ get_or ws cell 0
  safe_positive zero cell p m h = absurd (omega arith)
  safe_positive (suc n) cell p m h = (h.1 m).0

  safe_next : (n cell : ℕ) → 0 < n → get_or ws cell 0 ≢ k → Safe ws at_cell k n cell → Safe ws at_cell k (n - 1) (at_cell (get_or ws cell 0))
  safe_next zero cell p m h = absurd (omega arith)
  safe_next (suc n) cell p m h = let e : suc n - 1 ≡ n = omega arith in rw e (h.1 m).1

  holding_found : (n cell : ℕ) → get_or ws cell 0 ≡ k → cell_holding ws at_cell k n cell ≡ cell
  unfolding cell_holding
  holding_found zero cell e = refl
  holding_found (suc n) cell e = rw (e, eq-eqb k k refl, cell_holding)

  holding_next : (n cell : ℕ) → 0 < n → get_or ws cell 0 ≢ k → cell_holding ws at_cell k n cell ≡ cell_holding ws at_cell k (n - 1) (at_cell (get_or ws cell 0))
  unfolding cell_holding
  holding_next zero cell p m = absurd (omega arith)
  holding_next (suc n) cell p m = let e : suc n - 1 ≡ n = omega arith in rw (e, ne_eqb k (get_or ws cell 0) (λ f. m (sym f)), cell_holding)

  holding_end : (n cell : ℕ) → n ≡ 0 → cell_holding ws at_cell k n cell ≡ cell
  unfolding cell_holding
  holding_end n cell e = rw e

-- what is true of every cell on the way is true of the one that is found
holding_all : (P : ℕ → Type 0) (ws : List ℕ) (at_cell : ℕ → ℕ) (k n cell : ℕ) → P cell → ((j : ℕ) → P (at_cell j)) → P (cell_holding ws at_cell k n cell)
unfolding cell_holding
holding_all P ws at_cell k zero cell p h = p
holding_all P ws at_cell k (suc n) cell p h =
    elim (ℕ_discrete (get_or ws cell 0) k) [
      | yes e ↦ rw (holding_found ws at_cell k (suc n) cell e) p
      | no m ↦
          let e : suc n - 1 ≡ n = omega arith in
          rw (holding_next ws at_cell k (suc n) cell (omega arith) m, e) (holding_all P ws at_cell k n (at_cell (get_or ws cell 0)) (h (get_or ws cell 0)) h)
    ]

holding_inside : (ws : List ℕ) (at_cell : ℕ → ℕ) (k n cell : ℕ) → Safe ws at_cell k n cell → cell_holding ws at_cell k n cell < length ws
unfolding cell_holding
holding_inside ws at_cell k zero cell h = h
holding_inside ws at_cell k (suc n) cell h =
    elim (ℕ_discrete (get_or ws cell 0) k) [
      | yes e ↦ rw (holding_found ws at_cell k (suc n) cell e) h.0
      | no m ↦
          let e : suc n - 1 ≡ n = omega arith in
          rw (holding_next ws at_cell k (suc n) cell (omega arith) m, e) (holding_inside ws at_cell k n (at_cell (get_or ws cell 0)) (h.1 m).1)
    ]

-- WALK. At a cell, when the walk has come i cells far, the same cell will be found as from the head
pub record Walking (ws : List ℕ) (c : Cells) (k i cell : ℕ) : Type 0 where
  pub same : cell_holding ws (cell_of c) k (c.most - i) cell ≡ cell_holding ws (cell_of c) k c.most c.head
  pub walk : Safe ws (cell_of c) k (c.most - i) cell

pub walk_starts : (ws : List ℕ) (c : Cells) (k : ℕ) → Walks ws c k → Walking ws c k 0 c.head
walk_starts ws c k h = let e : c.most - 0 ≡ c.most = omega arith in record { same = rw e; walk = rw e h.walk }

module _ (ws : List ℕ) (c : Cells) (k i cell : ℕ) (w : Walking ws c k i cell) where
  pub walk_inside : cell < length ws
  walk_inside = safe_cell ws (cell_of c) k (c.most - i) cell w.walk

  pub walk_found : get_or ws cell 0 ≡ k → cell ≡ cell_holding ws (cell_of c) k c.most c.head
  walk_found e = sym (holding_found ws (cell_of c) k (c.most - i) cell e) ∙ w.same

  pub walk_ends : c.most ≤ i → cell ≡ cell_holding ws (cell_of c) k c.most c.head
  walk_ends e = sym (holding_end ws (cell_of c) k (c.most - i) cell (omega arith)) ∙ w.same

  module _ (more : i < c.most) (other : get_or ws cell 0 ≡ k → ⊥) where
    yet : 0 < c.most - i
    yet = omega arith

    pub walk_positive : 1 ≤ get_or ws cell 0
    walk_positive = safe_positive ws (cell_of c) k (c.most - i) cell yet other w.walk

    pub walk_next : (x : ℕ) → x ≡ cell_of c (get_or ws cell 0) → Walking ws c k (i + 1) x
    walk_next x ex =
        let e : c.most - (i + 1) ≡ c.most - i - 1 = omega arith in
        record {
          same = rw (e, ex) (sym (holding_next ws (cell_of c) k (c.most - i) cell yet other) ∙ w.same);
          walk = rw (e, ex) (safe_next ws (cell_of c) k (c.most - i) cell yet other w.walk);
        }

    pub walk_fits : cell_of c (get_or ws cell 0) < length ws
    walk_fits = safe_cell ws (cell_of c) k (c.most - (i + 1)) _ (walk_next _ refl).walk

pub ruleset walk_laws = (rules, walk_starts, walk_inside, walk_found, walk_ends, walk_positive, walk_next, walk_fits)

-- NEAR
pub near_none : (ws : List ℕ) (c : Cells) (k : ℕ) → Near ws c k None
near_none ws c k = record { low = λ j e. absurd (cc); inside = λ j e. absurd (cc); found = λ j e. absurd (cc) }

-- STORES
module _ (ws : List ℕ) (c : Cells) (k found : ℕ) (e : found ≡ cell_holding ws (cell_of c) k c.most c.head) (h : Walks ws c k) where
  pub found_inside : found < length ws
  found_inside = rw e (holding_inside ws (cell_of c) k c.most c.head h.walk)

  found_past : 2 ≤ found
  found_past = rw e (holding_all (λ (i : ℕ). 2 ≤ i) ws (cell_of c) k c.most c.head h.head_past (cell_past c h.head_past h.first_past))

  pub joined : k ≡ 0 → (v : ℕ) → set ws found v ≡ join_cells (cell_of c) c.most v ws
  unfolding join_cells
  joined z v = rw (e, z)

  pub joined_kept : (v : ℕ) → Kept ws (set ws found v)
  joined_kept v = kept_set ws ws found v found_past (kept_all ws h.sized)

pub ruleset join_laws = (rules, found_inside, joined, joined_kept)

-- own: where the cell of k stands
module _ (ws : List ℕ) (c : Cells) (k : ℕ) (h : Leaves ws c k) where
  pub leave_walks : Walks ws c k
  leave_walks = h.walks

  pub leave_low : 1 ≤ k
  leave_low = h.low

  pub leave_inside : cell_of c k < length ws
  leave_inside = h.inside

  module _ (found : ℕ) (e : found ≡ cell_holding ws (cell_of c) k c.most c.head) where
    pub left_inside : found < length ws
    left_inside = found_inside ws c k found e h.walks

    module _ (own : ℕ) (eo : own ≡ cell_of c k) where
      pub left : set (set ws found (get_or ws own 0)) own 0 ≡ leave_cells (cell_of c) c.most k ws
      unfolding leave_cells
      left = rw (e, eo)

      pub left_kept : (u v : ℕ) → Kept ws (set (set ws found u) own v)
      left_kept u v =
          kept_set ws (set ws found u) own v (rw eo (cell_past c h.walks.head_past h.walks.first_past k))
          (kept_set ws ws found u (found_past ws c k found e h.walks) (kept_all ws h.walks.sized))

pub ruleset leave_laws = (rules, leave_walks, leave_low, leave_inside, left_inside, left, left_kept)

module _ (ws : List ℕ) (c : Cells) (k : ℕ) (h : Pushes ws c k) (own : ℕ) (eo : own ≡ cell_of c k) where
  pub pushed : set (set ws own (get_or ws c.head 0)) c.head k ≡ push_cells (cell_of c) k ws
  unfolding push_cells
  pushed = rw eo

  pub pushed_kept : (u v : ℕ) → Kept ws (set (set ws own u) c.head v)
  pushed_kept u v = kept_set ws _ c.head v h.head_past (kept_set ws ws own u (rw eo (cell_past c h.head_past h.first_past k)) (kept_all ws h.sized))

pub ruleset push_laws = (rules, pushed, pushed_kept)

-- BY CASES
sized_end : (e : End) (ws : List ℕ) (c : Cells) (k : ℕ) → Joins e ws c k → Sized ws
sized_end Front ws c k h = h.sized
sized_end (Back near) ws c k h = h.0.sized

module _ (ws : List ℕ) (c : Cells) (k : ℕ) (was is : Bool) (e : End) where
  module _ (h : Shifts was e ws c k) where
    pub shift_leaves : was ≡ true → Leaves ws c k
    shift_leaves p = h.leaves p

    pub shift_pushes : e ≡ Front → Pushes ws c k
    shift_pushes p = let j = rw p at h.joins in j

    pub shift_joins : (near : Option ℕ) → e ≡ Back near → Walks ws c 0
    shift_joins near p = let j = rw p at h.joins in j.0

    pub shift_near : (near : Option ℕ) → e ≡ Back near → Near ws c 0 near
    shift_near near p = let j = rw p at h.joins in j.1

    pub shift_kept : Kept ws ws
    shift_kept = kept_all ws (sized_end e ws c k h.joins)

  pub shift_stays : was ≡ true → is ≡ true → ws ≡ end_cells e was is (cell_of c) c.most k ws
  unfolding shift_cells front_cells
  shift_stays p q = rw (p, q) (elim e as (λ e. ws ≡ end_cells e true true (cell_of c) c.most k ws) [ Front ↦ refl | Back near ↦ refl ])

  pub shift_none : was ≡ false → is ≡ false → ws ≡ end_cells e was is (cell_of c) c.most k ws
  unfolding shift_cells front_cells
  shift_none p q = rw (p, q) (elim e as (λ e. ws ≡ end_cells e false false (cell_of c) c.most k ws) [ Front ↦ refl | Back near ↦ refl ])

  module _ (vs : List ℕ) where
    pub shift_left : was ≡ true → is ≡ false → vs ≡ leave_cells (cell_of c) c.most k ws → vs ≡ end_cells e was is (cell_of c) c.most k ws
    unfolding shift_cells front_cells
    shift_left p q l = l ∙ rw (p, q) (elim e as (λ e. leave_cells (cell_of c) c.most k ws ≡ end_cells e true false (cell_of c) c.most k ws) [ Front ↦ refl | Back near ↦ refl ])

    pub shift_pushed : was ≡ false → is ≡ true → e ≡ Front → vs ≡ push_cells (cell_of c) k ws → vs ≡ end_cells e was is (cell_of c) c.most k ws
    unfolding front_cells
    shift_pushed p q z l = l ∙ rw (p, q, z)

    pub shift_joined : was ≡ false → is ≡ true → (near : Option ℕ) → e ≡ Back near → vs ≡ join_cells (cell_of c) c.most k ws → vs ≡ end_cells e was is (cell_of c) c.most k ws
    unfolding shift_cells
    shift_joined p q near z l = l ∙ rw (p, q, z)

pub ruleset shift_laws = (rules, near_none, shift_leaves, shift_pushes, shift_joins, shift_near, shift_kept, shift_stays, shift_none, shift_left, shift_pushed, shift_joined)
