-- Following a chain through the words.
use mathlib.Core.Path.{◌≡◌, refl, sym, ◌∙◌, ap, subst}
use mathlib.Core.Logic.{◌≢◌}
use mathlib.Core.List.{List, [], ◌∷◌}
use Prim.Native.Nat.{ℕ, zero, suc, ◌<◌, ◌≤◌}
use native.Mathlib.Omega.{arith}
use native.Mathlib.Decide.{ℕ_discrete}
use lib.ListN.{get_or, length}
use borrow.Author.Tests.{eq-eqb, ne_eqb}
use Rattle.tables.specs.Lists.{next}
use Rattle.tables.specs.State.{Tables, Chain, chain_of}
use Rattle.tables.specs.Grants.{tally}
use Rattle.tables.specs.Layout.{cell, words, follow}
use Rattle.tables.specs.Threads.{Absent, Distinct, Each}
use Rattle.tables.proofs.Links.{holder, each_map, each_on, holder_here, holder_past, next_here, next_past, next_holder}
use Rattle.tables.proofs.Grid.{place_size}
use Rattle.tables.proofs.Chains.{spot}
use Rattle.tables.specs.Threads.{Stands, LinkedAt, Threaded}
use Rattle.tables.proofs.WordChanges.{linked_head, no_zero, length_words_with, read_word_with, words_true, holding}
use Rattle.tables.specs.Stores.{Counts, words_with, value_with, cell_holding, Safe}

-- f leads from y through ys, and from the last to 0
abbrev pub Leads : (ℕ → ℕ) → ℕ → List ℕ → Type 0
Leads f y [] = f y ≡ 0
Leads f y (x ∷ xs) = (f y ≡ x) × Leads f x xs

absent_each : (k : ℕ) (xs : List ℕ) → Absent k xs → Each (λ j. j ≢ k) xs
absent_each k [] a = tt
absent_each k (x ∷ xs) a = (omega arith, absent_each k xs a.1)

pub leads_same : (f g : ℕ → ℕ) (y : ℕ) (xs : List ℕ) → Each (λ j. g j ≡ f j) (y ∷ xs) → Leads f y xs → Leads g y xs
leads_same f g y [] e h = e.0 ∙ h
leads_same f g y (x ∷ xs) e h = (e.0 ∙ h.0, leads_same f g x xs e.1 h.1)

pub next_leads : (y : ℕ) (xs : List ℕ) → Distinct (y ∷ xs) → Leads (λ j. next j (y ∷ xs)) y xs
unfolding next
next_leads y [] d = next_here y y [] refl
next_leads y (x ∷ xs) d = (
  next_here y y (x ∷ xs) refl,
  leads_same (λ j. next j (x ∷ xs)) (λ j. next j (y ∷ x ∷ xs)) x xs (each_map (λ j. j ≢ y) _ (λ j n. next_past j y (x ∷ xs) n) (x ∷ xs) (absent_each y (x ∷ xs) d.0))
      (next_leads x xs d.1),
)

pub holding_leads : (ws : List ℕ) (place : ℕ → ℕ) (k n y : ℕ) (xs : List ℕ)
    → Leads (λ j. get_or ws (place j) 0) y xs → length xs ≤ n → (k ≢ 0 → Absent k xs → ⊥)
    → cell_holding ws place k n (place y) ≡ place (holder y k xs)
unfolding cell_holding holder
holding_leads ws place k zero y [] h p o = refl
holding_leads ws place k zero y (x ∷ xs) h p o = absurd (omega arith)
holding_leads ws place k (suc n) y [] h p o =
    elim (ℕ_discrete k 0) [
      | yes e ↦ rw (h, eq-eqb k 0 e, cell_holding)
      | no m ↦ absurd (o m tt)
    ]
holding_leads ws place k (suc n) y (x ∷ xs) h p o =
    elim (ℕ_discrete k x) [
      | yes e ↦ rw (holder_here k x y xs e, h.0, eq-eqb k x e, cell_holding)
      | no m ↦ rw (holder_past k x y xs m, h.0, ne_eqb k x m, cell_holding) (rw h.0 (holding_leads ws place k n x xs h.1 (omega arith) (λ z a. o z (m, a))))
    ]

pub safe_leads : (ws : List ℕ) (place : ℕ → ℕ) (k n y : ℕ) (xs : List ℕ)
    → Leads (λ j. get_or ws (place j) 0) y xs → Each (λ j. place j < length ws) (y ∷ xs) → Absent 0 xs → length xs ≤ n → (k ≢ 0 → Absent k xs → ⊥) → Safe ws place k n (place y)
safe_leads ws place k zero y xs h i z p o = i.0
safe_leads ws place k (suc n) y [] h i z p o = (i.0, λ m. absurd (o (λ e. m (h ∙ sym e)) tt))
safe_leads ws place k (suc n) y (x ∷ xs) h i z p o =
    (i.0, λ m. rw h.0 (let q = z.0 in omega arith, safe_leads ws place k n x xs h.1 i.1 z.1 (omega arith) (λ b a. o b (λ e. m (h.0 ∙ sym e), a))))

pub follow_leads : (f : ℕ → ℕ) (n y : ℕ) (xs : List ℕ) → Leads f y xs → Absent 0 xs → length xs ≤ n → follow f n (f y) ≡ xs
unfolding follow
follow_leads f zero y [] h a p = refl
follow_leads f zero y (x ∷ xs) h a p = absurd (omega arith)
follow_leads f (suc n) y [] h a p = rw h
follow_leads f (suc n) y (zero ∷ xs) h a p = absurd (a.0 refl)
follow_leads f (suc n) y (suc x ∷ xs) h a p = rw h.0 (ap (λ (ys : List ℕ). suc x ∷ ys) (follow_leads f n (suc x) xs h.1 a.1 (omega arith)))

module _ (ct : Counts) (t : Tables) (c : Chain) where
  pub cell_word : (j : ℕ) → LinkedAt t c j → get_or (words_with ct t) (spot t (cell c j)) 0 ≡ next j (0 ∷ chain_of c t)
  cell_word j l = read_word_with ct t (cell c j) l.inside ∙ ap (value_with ct t) l.says

module _ (ct : Counts) (t : Tables) (c : Chain) (h : Threaded t c) where
  pub words_lead_with : Leads (λ j. get_or (words_with ct t) (spot t (cell c j)) 0) 0 (chain_of c t)
  words_lead_with =
      leads_same (λ j. next j (0 ∷ chain_of c t)) _ 0 (chain_of c t)
      (cell_word ct t c 0 (linked_head t c h.present), each_map (Stands t c) _ (λ j s. cell_word ct t c j s.1) (chain_of c t) h.members)
      (next_leads 0 (chain_of c t) (no_zero t c h, h.distinct))

  -- the walk from the head stays inside the words
  pub walk_safe_with : (k n : ℕ) → length (chain_of c t) ≤ n → (k ≢ 0 → Absent k (chain_of c t) → ⊥) → Safe (words_with ct t) (λ j. spot t (cell c j)) k n (spot t (cell c 0))
  walk_safe_with k n p o =
      safe_leads (words_with ct t) (λ j. spot t (cell c j)) k n 0 (chain_of c t) words_lead_with
      (inside 0 (linked_head t c h.present), each_map (Stands t c) _ (λ j s. inside j s.1) (chain_of c t) h.members) (no_zero t c h) p o
    where
      inside : (j : ℕ) → LinkedAt t c j → spot t (cell c j) < length (words_with ct t)
      inside j l = rw (length_words_with ct t) (place_size _ _ (cell c j) l.inside)

  -- the walk from the head finds the cell that names k, or the end of the chain (k = 0)
  pub walk_holds_with : (k n : ℕ) → length (chain_of c t) ≤ n → (k ≢ 0 → Absent k (chain_of c t) → ⊥)
      → cell_holding (words_with ct t) (λ j. spot t (cell c j)) k n (spot t (cell c 0)) ≡ holding t c k
  unfolding holding
  walk_holds_with k n p o = holding_leads (words_with ct t) (λ j. spot t (cell c j)) k n 0 (chain_of c t) words_lead_with p o

  -- if the cell of a record of the chain names k, it is that cell
  pub near_holds_with : (k n : ℕ) → length (chain_of c t) ≤ n → (k ≢ 0 → Absent k (chain_of c t) → ⊥) → (j : ℕ) → (Absent j (chain_of c t) → ⊥)
      → get_or (words_with ct t) (spot t (cell c j)) 0 ≡ k → spot t (cell c j) ≡ cell_holding (words_with ct t) (λ j. spot t (cell c j)) k n (spot t (cell c 0))
  unfolding holding
  near_holds_with k n p o j on e =
      let s = each_on (Stands t c) (chain_of c t) j h.members on in
      let is : holder 0 k (chain_of c t) ≡ j = next_holder j k 0 (chain_of c t) (no_zero t c h, h.distinct) (no_zero t c h) (λ a. on a.1) (sym (cell_word ct t c j s.1) ∙ e) in
      ap (λ (i : ℕ). spot t (cell c i)) (sym is) ∙ sym (walk_holds_with k n p o)

module _ (t : Tables) (c : Chain) (h : Threaded t c) where
  pub words_lead : Leads (λ j. get_or (words t) (spot t (cell c j)) 0) 0 (chain_of c t)
  words_lead = subst (λ (ws : List ℕ). Leads (λ j. get_or ws (spot t (cell c j)) 0) 0 (chain_of c t)) (words_true t) (words_lead_with (tally t) t c h)

  pub walk_safe : (k n : ℕ) → length (chain_of c t) ≤ n → (k ≢ 0 → Absent k (chain_of c t) → ⊥) → Safe (words t) (λ j. spot t (cell c j)) k n (spot t (cell c 0))
  walk_safe k n p o = subst (λ (ws : List ℕ). Safe ws (λ j. spot t (cell c j)) k n (spot t (cell c 0))) (words_true t) (walk_safe_with (tally t) t c h k n p o)
