-- The steps that code makes on the words, and the steps on a state that they are.
use mathlib.Core.Path.{◌≡◌, refl, sym, ◌∙◌, ap, ap₂, fun_ext}
use mathlib.Core.List.{[], ◌∷◌, ◌++◌}
use Prim.Native.Nat.{ℕ, zero, suc, ◌+◌, ◌*◌, ◌≤◌}
use native.Mathlib.Omega.{arith}
use lib.ListN.{set, length}
use Rattle.tables.specs.Lists.{remove, next}
use Rattle.tables.specs.State.{Tables, free_locks, denied, blocked, notices, queue, Chain, free_resources, of_locks, chain_of}
use Rattle.tables.specs.Layout.{place, head, link, cell}
use Rattle.tables.specs.Threads.{Absent}
use Rattle.tables.proofs.Links.{each_on, next_past}
use Rattle.tables.proofs.Chains.{with_chain, spot}
use Rattle.tables.specs.Threads.{Stands, Threaded}
use Rattle.tables.proofs.WordChanges.{linked_head, linked_on, append_words, remove_words, push_words}
use Rattle.tables.specs.Stores.{Counts, words_with, cell_at}
use Rattle.tables.proofs.ChainWalk.{walk_holds_with, cell_word}
use Rattle.tables.specs.Stores.{join_cells, push_cells, leave_cells, cell_place, stride}

-- on a state: k joins a chain at its end, or in front, or leaves it
unfoldable pub join : Chain → ℕ → Tables → Tables
join c k t = with_chain c (chain_of c t ++ (k ∷ [])) t

unfoldable pub push : Chain → ℕ → Tables → Tables
push c k t = with_chain c (k ∷ chain_of c t) t

unfoldable pub leave : Chain → ℕ → Tables → Tables
leave c k t = with_chain c (remove k (chain_of c t)) t

link_place : (r : ℕ) (c : Chain) (k : ℕ) → place r (link c 1) + stride c * k ≡ place r (link c (suc k))
link_place r free_resources k = omega arith
link_place r (of_locks free_locks) k = omega arith
link_place r (of_locks denied) k = omega arith
link_place r (of_locks blocked) k = omega arith
link_place r (of_locks notices) k = omega arith
link_place r (of_locks (queue s q)) k = omega arith

pub cells_are : (r : ℕ) (c : Chain) → cell_at (place r (head c)) (place r (link c 1)) (stride c) ≡ cell_place r c
cells_are r c = fun_ext at_each
  where
    at_each : (k : ℕ) → cell_at (place r (head c)) (place r (link c 1)) (stride c) k ≡ cell_place r c k
    at_each zero = refl
    at_each (suc k) = link_place r c k

module _ (ct : Counts) (t : Tables) (r : ℕ) (size : length t.resources ≡ r) (c : Chain) (h : Threaded t c) where
  pub join_is : (n k : ℕ) → length (chain_of c t) ≤ n → join_cells (cell_place r c) n k (words_with ct t) ≡ words_with ct (join c k t)
  unfolding join join_cells
  join_is n k p =
      rw (← size) (ap (λ (i : ℕ). set (words_with ct t) i k) (walk_holds_with ct t c h 0 n p (λ z a. z refl)) ∙ sym (append_words t c h ct k))

  pub push_is : (k : ℕ) → Stands t c k → push_cells (cell_place r c) k (words_with ct t) ≡ words_with ct (push c k t)
  unfolding push push_cells next
  push_is k s =
      rw (← size) (ap (λ (v : ℕ). set (set (words_with ct t) (spot t (cell c k)) v) (spot t (cell c 0)) k) (cell_word ct t c 0 (linked_head t c h.present)) ∙ sym (push_words t c h ct k s))

  pub leave_is : (n k : ℕ) → length (chain_of c t) ≤ n → (Absent k (chain_of c t) → ⊥) → leave_cells (cell_place r c) n k (words_with ct t) ≡ words_with ct (leave c k t)
  unfolding leave leave_cells
  leave_is n k p o =
      let s = (each_on (Stands t c) (chain_of c t) k h.members o).0 in
      rw (← size)
      (ap₂ (λ (i v : ℕ). set (set (words_with ct t) i v) (spot t (cell c k)) 0) (walk_holds_with ct t c h k n p (λ z. o))
      (cell_word ct t c k (linked_on t c h k (λ a. o a.1)) ∙ next_past k 0 (chain_of c t) (omega arith))
      ∙ sym (remove_words t c h ct k o))
