-- No cycle passes a node to which cleared nodes alone lead. For any test `leads` and any nodes.
use mathlib.Core.Path.{◌≡◌, refl}
use mathlib.Core.Bool.{Bool, true}
use mathlib.Core.List.{List}
use Prim.Native.Nat.{ℕ, ◌≤◌}
use lib.ListN.{set}
use Rattle.tables.specs.Lists.{count}
use Rattle.rules.specs.Walks.{Walk, step, through}
use Rattle.table_chains.specs.Marks.{marked}
use Rattle.deadlock_graph.specs.Marks.{Cleared}
use Rattle.deadlock_graph.proofs.Marks.{join, clear_more}

module _ {leads : ℕ → ℕ → Bool} {nodes : List ℕ} (m : List Bool) (x : ℕ) (c : Cleared leads nodes m) (k : 1 ≤ count x nodes)
    (h : (z : ℕ) → 1 ≤ count z nodes → leads z x ≡ true → marked m z ≡ true) where
  -- the last node before x on a walk from x is on a cycle itself
  not_into : (y z : ℕ) → 1 ≤ count y nodes → z ≡ x → Walk leads nodes x y → Walk leads nodes y z → ⊥
  not_into y z l q w (step _ _ e) = let e' : leads y x ≡ true = rw q at e in c.none y (h y l e') (through y x y k e' w)
  not_into y z l q w (through _ d _ n e v) = not_into d z n q (join x y d l w (step y d e)) v

  not_back : (z : ℕ) → z ≡ x → Walk leads nodes x z → ⊥
  not_back z q (step _ _ e) = let e' : leads x x ≡ true = rw q at e in c.none x (h x k e') (step x x e')
  not_back z q (through _ d _ n e v) = not_into d z n q (step x d e) v

  pub clear_before : Cleared leads nodes (set m x true)
  clear_before = clear_more m x c (not_back x refl)
