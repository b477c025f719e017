-- The words of the tables by address: a header, then a row of words for each resource, then one for each lock.
-- Nothing here knows what a word means.
use mathlib.Core.Path.{◌≡◌, refl, sym, ◌∙◌, ap}
use mathlib.Core.Logic.{◌≢◌}
use mathlib.Core.List.{List, [], ◌∷◌}
use Prim.Native.Nat.{ℕ, zero, suc, ◌+◌, ◌-◌, ◌*◌, ◌/◌, ◌%◌, ◌<◌, ◌≤◌}
use native.Mathlib.Omega.{arith}
use native.Mathlib.Nat.{mul-le-mul_left, add-zero}
use native.Mathlib.Decide.{dec_lt, ℕ_discrete}
use lib.ListN.{get_or, set, length, get_or-append, length-append, length-set}
use lib.Seq.{get_or-set_same, get_or-set_other, ext_get_or}
use Rattle.tables.specs.Layout.{header_width, resource_width, lock_width, Address, of_header, of_resource, of_lock, Address_discrete, place, size, row, rows, sheet, by_address}
use Rattle.tables.proofs.Blocks.{get_or_second, length_row, get_or_row, length_rows, get_or_rows}
use Rattle.tables.specs.Threads.{Within}
use Rattle.tables.specs.Stores.{store_run}

unfoldable pub address? : Discrete Address
unfolding ℕ_discrete
address? = Address_discrete ℕ_discrete

unfoldable pub update : Address → ℕ → (Address → ℕ) → Address → ℕ
update a v f b = elim (address? b a) [ yes e ↦ v | no n ↦ f b ]

pub located : (r l i : ℕ) → i < size r l → (b : Address) × Within r l b × (place r b ≡ i)
located r l i h =
    elim (dec_lt i header_width) [
      | yes p ↦ (of_header i, p, refl)
      | no p ↦
          elim (dec_lt i (header_width + resource_width * r)) [
            | yes q ↦ (
              of_resource (suc ((i - header_width) / resource_width)) ((i - header_width) % resource_width),
              (omega arith, omega arith, omega arith),
              omega arith,
            )
            | no q ↦ (
              of_lock (suc ((i - header_width - resource_width * r) / lock_width)) ((i - header_width - resource_width * r) % lock_width),
              (omega arith, omega arith, omega arith),
              omega arith,
            )
          ]
    ]

module _ (u v w : ℕ) (f : ℕ → ℕ) (g h : ℕ → ℕ → ℕ) (r l : ℕ) where
  length_sheet : length (sheet u v w f g h r l) ≡ u + (v * r + w * l)
  unfolding sheet
  length_sheet = simp (length-append, length_row, length_rows)

  sheet_head : (i : ℕ) → i < u → get_or (sheet u v w f g h r l) i 0 ≡ f i
  unfolding sheet
  sheet_head i p = get_or-append (row u f) _ 0 i (rw length_row p) ∙ get_or_row u f i p

  sheet_middle : (k i : ℕ) → k < r → i < v → get_or (sheet u v w f g h r l) (u + v * k + i) 0 ≡ g (suc k) i
  unfolding sheet
  sheet_middle k i p q =
      let room = mul-le-mul_left v p in
      get_or_second (row u f) _ _ (v * k + i) (rw length_row (omega arith))
      ∙ get_or-append (rows v g r) _ 0 (v * k + i) (rw length_rows (omega arith))
      ∙ get_or_rows v g r k i p q

  sheet_tail : (k i : ℕ) → k < l → i < w → get_or (sheet u v w f g h r l) (u + v * r + w * k + i) 0 ≡ h (suc k) i
  unfolding sheet
  sheet_tail k i p q =
      get_or_second (row u f) _ _ (v * r + (w * k + i)) (rw length_row (omega arith))
      ∙ get_or_second (rows v g r) _ _ (w * k + i) (rw length_rows)
      ∙ get_or_rows w h l k i p q

module _ (r l : ℕ) where
  pub place_size : (a : Address) → Within r l a → place r a < size r l
  place_size (of_header f) h = omega arith
  place_size (of_resource k f) h = omega arith
  place_size (of_lock k f) h = omega arith

  pub place_injective : (a b : Address) → Within r l a → Within r l b → place r a ≡ place r b → a ≡ b
  place_injective (of_header f) (of_header g) h k e = ap of_header e
  place_injective (of_header f) (of_resource y g) h k e = absurd (omega arith)
  place_injective (of_header f) (of_lock y g) h k e = absurd (omega arith)
  place_injective (of_resource x f) (of_header g) h k e = absurd (omega arith)
  place_injective (of_resource x f) (of_resource y g) h k e = let p : x ≡ y = omega arith in let q : f ≡ g = omega arith in cc
  place_injective (of_resource x f) (of_lock y g) h k e = absurd (omega arith)
  place_injective (of_lock x f) (of_header g) h k e = absurd (omega arith)
  place_injective (of_lock x f) (of_resource y g) h k e = absurd (omega arith)
  place_injective (of_lock x f) (of_lock y g) h k e = let p : x ≡ y = omega arith in let q : f ≡ g = omega arith in cc

  pub length_written : (f : Address → ℕ) → length (by_address r l f) ≡ size r l
  unfolding by_address
  length_written f = length_sheet _ _ _ _ _ _ r l

  pub get_or_written : (f : Address → ℕ) (a : Address) → Within r l a → get_or (by_address r l f) (place r a) 0 ≡ f a
  unfolding by_address
  get_or_written f (of_header i) h = sheet_head _ _ _ _ _ _ r l i h
  get_or_written f (of_resource k i) h = sheet_middle _ _ _ _ _ _ r l (k - 1) i (omega arith) h.2 ∙ ap (λ (n : ℕ). f (of_resource n i)) (omega arith)
  get_or_written f (of_lock k i) h = sheet_tail _ _ _ _ _ _ r l (k - 1) i (omega arith) h.2 ∙ ap (λ (n : ℕ). f (of_lock n i)) (omega arith)

  -- a list is known by its word at each address
  pub is_written : (f : Address → ℕ) (ws : List ℕ) → length ws ≡ size r l → ((b : Address) → Within r l b → get_or ws (place r b) 0 ≡ f b) → ws ≡ by_address r l f
  is_written f ws e h =
      ext_get_or 0 ws (by_address r l f) (e ∙ sym (length_written f))
      (λ i p. let b = located r l i (omega arith) in rw (← b.2) (h b.0 b.1 ∙ sym (get_or_written f b.0 b.1)))

  pub written_same : (f g : Address → ℕ) → ((b : Address) → Within r l b → f b ≡ g b) → by_address r l f ≡ by_address r l g
  written_same f g h = is_written g (by_address r l f) (length_written f) (λ b p. get_or_written f b p ∙ h b p)

  pub set_written : (f : Address → ℕ) (a : Address) (v : ℕ) → Within r l a → set (by_address r l f) (place r a) v ≡ by_address r l (update a v f)
  unfolding update
  set_written f a v p =
      is_written (update a v f) (set (by_address r l f) (place r a) v) (length-set (by_address r l f) _ v ∙ length_written f)
      (λ b q. elim (address? b a) as (λ d. get_or (set (by_address r l f) (place r a) v) (place r b) 0 ≡ elim d [ yes e ↦ v | no n ↦ f b ]) [
        | yes e ↦ rw e (get_or-set_same (by_address r l f) (place r a) v 0 (rw length_written (place_size a p)))
        | no n ↦ get_or-set_other (by_address r l f) (place r a) (place r b) v 0 (λ e. n (place_injective b a q p e)) ∙ get_or_written f b q
      ])

pub update_here : (a : Address) (v : ℕ) (f : Address → ℕ) → update a v f a ≡ v
unfolding update
update_here a v f = elim (address? a a) as (λ d. elim d [ yes e ↦ v | no n ↦ f a ] ≡ v) [ yes e ↦ refl | no n ↦ absurd (n refl) ]

pub update_past : (a b : Address) (v : ℕ) (f : Address → ℕ) → b ≢ a → update a v f b ≡ f b
unfolding update
update_past a b v f h = elim (address? b a) as (λ d. elim d [ yes e ↦ v | no n ↦ f b ] ≡ f b) [ yes e ↦ absurd (h e) | no n ↦ refl ]

abbrev pub updates : (ℕ → Address) → ℕ → List ℕ → (Address → ℕ) → Address → ℕ
updates a f [] g = g
updates a f (v ∷ vs) g = updates a (suc f) vs (update (a f) v g)

pub stores_written : (r l : ℕ) (a : ℕ → Address) (f : ℕ) (vs : List ℕ) (g : Address → ℕ) → ((i : ℕ) → f ≤ i → i < f + length vs → Within r l (a i))
    → store_run (λ i. place r (a i)) f vs (by_address r l g) ≡ by_address r l (updates a f vs g)
stores_written r l a f [] g h = refl
stores_written r l a f (v ∷ vs) g h =
    ap (store_run (λ i. place r (a i)) (suc f) vs) (set_written r l g (a f) v (h f (omega arith) (omega arith)))
    ∙ stores_written r l a (suc f) vs (update (a f) v g) (λ i p q. h i (omega arith) (omega arith))

module _ (a : ℕ → Address) where
  pub updates_past : (f : ℕ) (vs : List ℕ) (g : Address → ℕ) (b : Address) → ((i : ℕ) → b ≢ a i) → updates a f vs g b ≡ g b
  updates_past f [] g b n = refl
  updates_past f (v ∷ vs) g b n = updates_past (suc f) vs (update (a f) v g) b n ∙ update_past (a f) b v g (n f)

  module _ (injective : (i j : ℕ) → a i ≡ a j → i ≡ j) where
    updates_below : (f : ℕ) (vs : List ℕ) (g : Address → ℕ) (i : ℕ) → i < f → updates a f vs g (a i) ≡ g (a i)
    updates_below f [] g i p = refl
    updates_below f (v ∷ vs) g i p =
        updates_below (suc f) vs (update (a f) v g) i (omega arith) ∙ update_past (a f) (a i) v g (λ e. let z = injective i f e in omega arith)

    updates_above : (f : ℕ) (vs : List ℕ) (g : Address → ℕ) (i : ℕ) → f + length vs ≤ i → updates a f vs g (a i) ≡ g (a i)
    updates_above f [] g i p = refl
    updates_above f (v ∷ vs) g i p =
        updates_above (suc f) vs (update (a f) v g) i (omega arith) ∙ update_past (a f) (a i) v g (λ e. let z = injective i f e in omega arith)

    updates_at : (f : ℕ) (vs : List ℕ) (g : Address → ℕ) (i : ℕ) → i < length vs → updates a f vs g (a (f + i)) ≡ get_or vs i 0
    updates_at f [] g i p = absurd (omega arith)
    updates_at f (v ∷ vs) g zero p = rw add-zero (updates_below (suc f) vs (update (a f) v g) f (omega arith) ∙ update_here (a f) v g)
    updates_at f (v ∷ vs) g (suc i) p =
        let e : f + suc i ≡ suc f + i = omega arith in rw e (updates_at (suc f) vs (update (a f) v g) i (omega arith))

    -- the row's new content n has vs in the fields from f on, and is g's in the others
    pub row_agrees : (f : ℕ) (vs : List ℕ) (g : Address → ℕ) (n : ℕ → ℕ)
        → ((i : ℕ) → i < f → n i ≡ g (a i)) → ((i : ℕ) → i < length vs → n (f + i) ≡ get_or vs i 0) → ((i : ℕ) → f + length vs ≤ i → n i ≡ g (a i))
        → (i : ℕ) → n i ≡ updates a f vs g (a i)
    row_agrees f vs g n below at_f above i =
        elim (dec_lt i f) [
          | yes p ↦ below i p ∙ sym (updates_below f vs g i p)
          | no p ↦
              elim (dec_lt (i - f) (length vs)) [
                | yes q ↦
                    let e : f + (i - f) ≡ i = omega arith in
                    rw e at (at_f (i - f) q ∙ sym (updates_at f vs g (i - f) q))
                | no q ↦ above i (omega arith) ∙ sym (updates_above f vs g i (omega arith))
              ]
        ]

-- an address is on the row of a, or off it
pub data Side (a : ℕ → Address) (b : Address) : Type 0 where
  on : (i : ℕ) → a i ≡ b → Side a b
  off : ((i : ℕ) → b ≢ a i) → Side a b

pub lock_side : (k : ℕ) (b : Address) → Side (of_lock k) b
lock_side k (of_header f) = off (λ i e. let z : ◌≡◌ {A = ℕ} 0 1 = cc in omega arith)
lock_side k (of_resource r f) = off (λ i e. let z : ◌≡◌ {A = ℕ} 0 1 = cc in omega arith)
lock_side k (of_lock j f) = elim (ℕ_discrete k j) [ yes e ↦ on f (ap (λ (n : ℕ). of_lock n f) e) | no n ↦ off (λ i e. n (cc)) ]

pub resource_side : (r : ℕ) (b : Address) → Side (of_resource r) b
resource_side r (of_header f) = off (λ i e. let z : ◌≡◌ {A = ℕ} 0 1 = cc in omega arith)
resource_side r (of_resource s f) = elim (ℕ_discrete r s) [ yes e ↦ on f (ap (λ (n : ℕ). of_resource n f) e) | no n ↦ off (λ i e. n (cc)) ]
resource_side r (of_lock j f) = off (λ i e. let z : ◌≡◌ {A = ℕ} 0 1 = cc in omega arith)
