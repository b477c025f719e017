-- The bounded search finds exactly the walks, of whatever length: as many steps as there are nodes are enough.
use mathlib.Core.Path.{◌≡◌, refl}
use mathlib.Core.Logic.{◌⊎◌, inl, inr, ⊎_elim}
use mathlib.Core.Bool.{Bool, true, false}
use mathlib.Core.List.{List}
use Prim.Native.Nat.{ℕ, zero, suc, ◌+◌, ◌≤◌}
use native.Mathlib.Omega.{arith}
use lib.ListN.{length}
use Rattle.tables.specs.Lists.{any, count, remove}
use Rattle.tables.proofs.Cases.{by_cases, by_equal, clash, or_left, or_right}
use Rattle.tables.proofs.Counts.{count_remove, count_remove_other, any_intro, any_has}
use Rattle.tables.proofs.Pigeonhole.{length_remove}
use Rattle.rules.specs.Walks.{reaches, Walk, step, through, SearchComplete}

-- the search looks no further where the first test fails
abbrev gate : Bool → Bool → Bool
gate t x = elim t [ true ↦ x | false ↦ false ]

gate_intro : (t x : Bool) → t ≡ true → x ≡ true → gate t x ≡ true
gate_intro true x e r = r
gate_intro false x e r = e

gate_left : (t x : Bool) → gate t x ≡ true → t ≡ true
gate_left true x h = refl
gate_left false x h = h

gate_right : (t x : Bool) → gate t x ≡ true → x ≡ true
gate_right true x h = h
gate_right false x h = clash false h refl

pub count_remove_le : (j k : ℕ) (xs : List ℕ) → count j (remove k xs) ≤ count j xs
count_remove_le j k xs =
    by_equal j k (λ e. rw (e, count_remove) (omega arith)) (λ n. omega (arith, count_remove_other j k xs n))

module _ (leads : ℕ → ℕ → Bool) where
  module _ (nodes : List ℕ) where
    -- one more step, by way of c
    abbrev onward : ℕ → ℕ → ℕ → ℕ → Bool
    onward n a b c = gate (leads a c) (reaches leads nodes n c b)

    by_step : (n a b : ℕ) → leads a b ≡ true → reaches leads nodes (suc n) a b ≡ true
    unfolding reaches
    by_step n a b e = or_left (leads a b) (any (onward n a b) nodes) e

    by_way : (n a c b : ℕ) → 1 ≤ count c nodes → leads a c ≡ true → reaches leads nodes n c b ≡ true → reaches leads nodes (suc n) a b ≡ true
    unfolding reaches
    by_way n a c b m e r =
        or_right (leads a b) (any (onward n a b) nodes) (any_intro (onward n a b) nodes c m (gate_intro (leads a c) (reaches leads nodes n c b) e r))

    pub reaches_walk : (n a b : ℕ) → reaches leads nodes n a b ≡ true → Walk leads nodes a b
    unfolding reaches
    reaches_walk zero a b h = clash false h refl
    reaches_walk (suc n) a b h =
        by_cases (leads a b)
        (λ t. step a b t)
        (λ f.
        let w = any_has (onward n a b) nodes (rw f at h) in
        let t = gate_left (leads a w.0) (reaches leads nodes n w.0 b) w.2 in
        let r = gate_right (leads a w.0) (reaches leads nodes n w.0 b) w.2 in
        through a w.0 b w.1 t (reaches_walk n w.0 b r))

  -- a walk avoids c, or the part of it after its last visit to c does
  cut : (nodes : List ℕ) (c a b : ℕ) → Walk leads nodes a b → Walk leads (remove c nodes) a b ⊎ Walk leads (remove c nodes) c b
  cut nodes c a b (step _ _ e) = inl (step a b e)
  cut nodes c a b (through _ d _ m e w) =
      ⊎_elim
      (λ v. by_equal d c (λ q. inr (rw q at v)) (λ n. inl (through a d b (rw (count_remove_other d c nodes n) m) e v)))
      (λ v. inr v)
      (cut nodes c d b w)

  -- from c on, c is not needed again
  cut_at : (nodes : List ℕ) (c b : ℕ) → Walk leads nodes c b → Walk leads (remove c nodes) c b
  cut_at nodes c b w = ⊎_elim (λ v. v) (λ v. v) (cut nodes c c b w)

  -- a walk by way of n of the nodes is found in n + 1 steps
  within_steps : (nodes : List ℕ) (n : ℕ) (some : List ℕ) (a b : ℕ) → ((j : ℕ) → count j some ≤ count j nodes) → length some ≤ n →
      Walk leads some a b → reaches leads nodes (suc n) a b ≡ true
  within_steps nodes zero some a b i l (step _ _ e) = by_step nodes zero a b e
  within_steps nodes zero some a b i l (through _ c _ m e w) = absurd (omega (arith, length_remove c some))
  within_steps nodes (suc n) some a b i l (step _ _ e) = by_step nodes (suc n) a b e
  within_steps nodes (suc n) some a b i l (through _ c _ m e w) =
      by_way nodes (suc n) a c b (omega (arith, i c)) e
      (within_steps nodes n (remove c some) c b (λ j. omega (arith, i j, count_remove_le j c some)) (omega (arith, length_remove c some)) (cut_at some c b w))

  module _ (nodes : List ℕ) (a b : ℕ) (m : 1 ≤ count a nodes) where
    pub walk_reaches : Walk leads nodes a b → reaches leads nodes (length nodes) a b ≡ true
    walk_reaches w = go (length nodes) (length_remove a nodes)
      where
        go : (n : ℕ) → n ≡ count a nodes + length (remove a nodes) → reaches leads nodes n a b ≡ true
        go zero e = absurd (omega arith)
        go (suc n) e = within_steps nodes n (remove a nodes) a b (λ j. count_remove_le j a nodes) (omega arith) (cut_at nodes a b w)

pub search_complete : SearchComplete
search_complete leads nodes a b m = (reaches_walk leads nodes (length nodes) a b, walk_reaches leads nodes a b m)
