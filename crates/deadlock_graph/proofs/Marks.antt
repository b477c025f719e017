-- Marks on the nodes of a graph: one more mark, and no cycle through a cleared node. For any test `leads` and any nodes.
use mathlib.Core.Path.{◌≡◌, refl, sym, ◌∙◌}
use mathlib.Core.Logic.{◌≢◌}
use mathlib.Core.Bool.{Bool, true, false}
use mathlib.Core.List.{List, [], ◌∷◌}
use Prim.Native.Nat.{ℕ, ◌<◌, ◌≤◌}
use native.Mathlib.Omega.{arith}
use lib.ListN.{length, set, length-set}
use lib.Seq.{get_or-set_same, get_or-set_other}
use Rattle.tables.specs.Lists.{count}
use Rattle.tables.proofs.Cases.{by_cases, by_equal}
use Rattle.tables.proofs.Counts.{count_nil, count_other}
use Rattle.rules.specs.Walks.{Walk, step, through}
use Rattle.table_chains.specs.Marks.{marked}
use Rattle.deadlock_graph.specs.Marks.{unmarked, Cleared}

-- ---- one mark

pub mark_same : (m : List Bool) (x : ℕ) → x < length m → marked (set m x true) x ≡ true
unfolding marked
mark_same m x l = get_or-set_same m x true false l

pub mark_other : (m : List Bool) (x y : ℕ) → y ≢ x → marked (set m x true) y ≡ marked m y
unfolding marked
mark_other m x y h = get_or-set_other m x y true false h

-- the marks m are among the marks m'
abbrev pub Keeping : List Bool → List Bool → Type 0
Keeping m m' = (x : ℕ) → marked m x ≡ true → marked m' x ≡ true

pub mark_kept : (m : List Bool) (x : ℕ) → x < length m → Keeping m (set m x true)
mark_kept m x l y h = by_equal y x (λ e. rw e (mark_same m x l)) (λ e. mark_other m x y e ∙ h)

-- ---- how many are left

pub unmarked_le : (xs : List ℕ) (m : List Bool) → unmarked xs m ≤ length xs
unfolding unmarked
unmarked_le [] m = omega arith
unmarked_le (x ∷ xs) m = by_cases (marked m x) (λ h. rw h (omega (arith, unmarked_le xs m))) (λ h. rw h (omega (arith, unmarked_le xs m)))

pub unmarked_mono : (xs : List ℕ) (m m' : List Bool) → Keeping m m' → unmarked xs m' ≤ unmarked xs m
unfolding unmarked
unmarked_mono [] m m' k = omega arith
unmarked_mono (x ∷ xs) m m' k =
    let rest = unmarked_mono xs m m' k in
    by_cases (marked m x)
    (λ h. rw (h, k x h) (omega arith))
    (λ h. rw h (by_cases (marked m' x) (λ g. rw g (omega arith)) (λ g. rw g (omega arith))))

pub unmarked_less : (xs : List ℕ) (m m' : List Bool) → Keeping m m' → (x : ℕ) → 1 ≤ count x xs → marked m x ≡ false → marked m' x ≡ true → unmarked xs m' < unmarked xs m
unfolding unmarked
unmarked_less [] m m' k x l f t = absurd (omega (arith, count_nil x))
unmarked_less (y ∷ xs) m m' k x l f t =
    by_equal x y
    (λ e. let f' : marked m y ≡ false = rw e at f in let t' : marked m' y ≡ true = rw e at t in
    let rest = unmarked_mono xs m m' k in rw (f', t') (omega arith))
    (λ e.
    let rest = unmarked_less xs m m' k x (rw (count_other x y xs e) at l) f t in
    by_cases (marked m y)
    (λ h. rw (h, k y h) (omega arith))
    (λ h. rw h (by_cases (marked m' y) (λ g. rw g (omega arith)) (λ g. rw g (omega arith)))))

-- ---- cleared nodes

module _ {leads : ℕ → ℕ → Bool} {nodes : List ℕ} where
  pub join : (a c b : ℕ) → 1 ≤ count c nodes → Walk leads nodes a c → Walk leads nodes c b → Walk leads nodes a b
  join a c b k (step _ _ e) w = through a c b k e w
  join a c b k (through _ d _ l e v) w = through a d b l e (join d c b k v w)

  -- one more node is cleared
  pub clear_more : (m : List Bool) (x : ℕ) → Cleared leads nodes m → (Walk leads nodes x x → ⊥) → Cleared leads nodes (set m x true)
  clear_more m x c h =
      record {
        wide = length-set m x true ∙ c.wide;
        none = λ y k w. by_equal y x (λ e. h (rw e at w)) (λ o. c.none y (sym (mark_other m x y o) ∙ k) w);
      }

  -- no cycle passes a node that leads only to cleared nodes: the next node on it would lead back to itself
  only_cleared : (m : List Bool) → Cleared leads nodes m → (x y : ℕ) → 1 ≤ count x nodes → ((z : ℕ) → leads x z ≡ true → marked m z ≡ true) → y ≡ x → Walk leads nodes x y → ⊥
  only_cleared m c x y k h q (step _ _ e) = let e' : leads x x ≡ true = rw q at e in c.none x (h x e') (step x x e')
  only_cleared m c x y k h q (through _ d _ l e w) = c.none d (h d e) (join d x d k (rw q at w) (step x d e))

  pub clear_behind : (m : List Bool) (x : ℕ) → Cleared leads nodes m → 1 ≤ count x nodes → ((z : ℕ) → leads x z ≡ true → marked m z ≡ true) → Cleared leads nodes (set m x true)
  clear_behind m x c k h = clear_more m x c (only_cleared m c x x k h refl)
