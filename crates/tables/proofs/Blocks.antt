-- Lists made of blocks of one length: what stands at a place.
use mathlib.Core.Path.{◌≡◌, refl, sym, ◌∙◌, ap, ap₂}
use mathlib.Core.Logic.{◌≢◌}
use mathlib.Core.List.{List, [], ◌∷◌, ◌++◌, map, append_assoc}
use Prim.Native.Nat.{ℕ, zero, suc, ◌+◌, ◌*◌, ◌<◌, ◌≤◌}
use native.Mathlib.Omega.{arith}
use native.Mathlib.Nat.{mul-zero, mul-suc, add_comm, zero-add, add-zero}
use lib.ListN.{get_or, length, take, drop, get_or-append, length-append, length-map}
use lib.Seq.{get_or-append-add, drop-append-add, take-append-add, drop-append_seam}
use Rattle.tables.specs.Lists.{from}
use Rattle.tables.specs.Layout.{flat_map, row, rows}
use Rattle.tables.proofs.Pigeonhole.{length_from}

pub get_or_second : (xs ys : List ℕ) (i n : ℕ) → i ≡ length xs + n → get_or (xs ++ ys) i 0 ≡ get_or ys n 0
get_or_second xs ys i n e = rw (e, get_or-append-add)

module _ {A : Type 0} (g : ℕ → A) where
  pub length_map_from : (a n : ℕ) → length (map g (from a n)) ≡ n
  length_map_from a n = length-map (from a n) g ∙ length_from a n

  pub get_or_map_from : (d : A) (a n i : ℕ) → i < n → get_or (map g (from a n)) i d ≡ g (a + i)
  get_or_map_from d a zero i p = absurd (omega arith)
  get_or_map_from d a (suc n) zero p = rw add-zero
  get_or_map_from d a (suc n) (suc i) p = get_or_map_from d (suc a) n i (omega arith) ∙ ap g (omega arith)

pub flat_map_same : (f g : ℕ → List ℕ) (a n : ℕ) → ((k : ℕ) → a ≤ k → g k ≡ f k) → flat_map g (from a n) ≡ flat_map f (from a n)
flat_map_same f g a zero h = refl
flat_map_same f g a (suc n) h = ap₂ (λ (s t : List ℕ). s ++ t) (h a (omega arith)) (flat_map_same f g (suc a) n (λ k p. h k (omega arith)))

module _ (w : ℕ) where
  pub length_row : (g : ℕ → ℕ) → length (row w g) ≡ w
  length_row g = length_map_from g 0 w

  pub get_or_row : (g : ℕ → ℕ) (i : ℕ) → i < w → get_or (row w g) i 0 ≡ g i
  get_or_row g i p = get_or_map_from g 0 0 w i p ∙ ap g (zero-add i)

  pub length_blocks : (f : ℕ → List ℕ) → ((i : ℕ) → length (f i) ≡ w) → (a n : ℕ) → length (flat_map f (from a n)) ≡ w * n
  length_blocks f h a zero = sym (mul-zero w)
  length_blocks f h a (suc n) = rw (length-append, h a, length_blocks f h (suc a) n, mul-suc) (add_comm _ _)

  pub get_or_blocks : (f : ℕ → List ℕ) → ((i : ℕ) → length (f i) ≡ w) → (n a i j : ℕ) → i < n → j < w → get_or (flat_map f (from a n)) (w * i + j) 0 ≡ get_or (f (a + i)) j 0
  get_or_blocks f h zero a i j p q = absurd (omega arith)
  get_or_blocks f h (suc n) a zero j p q = rw (mul-zero, zero-add, add-zero) (get_or-append (f a) (flat_map f (from (suc a) n)) 0 j (rw (h a) q))
  get_or_blocks f h (suc n) a (suc i) j p q =
      get_or_second (f a) (flat_map f (from (suc a) n)) _ (w * i + j) (rw (h a, mul-suc) (omega arith))
      ∙ get_or_blocks f h n (suc a) i j (omega arith) q
      ∙ ap (λ (k : ℕ). get_or (f k) j 0) (omega arith)

  -- the block i, and what stands after it
  pub drop_blocks : (f : ℕ → List ℕ) → ((i : ℕ) → length (f i) ≡ w) → (n a i : ℕ) → i < n → (rest : List ℕ) × (drop (w * i) (flat_map f (from a n)) ≡ f (a + i) ++ rest)
  drop_blocks f h zero a i p = absurd (omega arith)
  drop_blocks f h (suc n) a zero p = (flat_map f (from (suc a) n), rw (mul-zero, add-zero))
  drop_blocks f h (suc n) a (suc i) p =
      let later = drop_blocks f h n (suc a) i (omega arith) in
      let e : w * suc i ≡ length (f a) + w * i = rw (h a, mul-suc) (add_comm _ _) in
      let m : suc a + i ≡ a + suc i = omega arith in
      (later.0, rw (e, drop-append-add, ← m) later.1)

  -- one block is replaced
  pub replace_block : (f g : ℕ → List ℕ) → ((i : ℕ) → length (f i) ≡ w) → (n a i : ℕ) → i < n → ((k : ℕ) → k ≢ a + i → g k ≡ f k)
      → flat_map g (from a n) ≡ take (w * i) (flat_map f (from a n)) ++ (g (a + i) ++ drop (w * suc i) (flat_map f (from a n)))
  replace_block f g h zero a i p same = absurd (omega arith)
  replace_block f g h (suc n) a zero p same =
      let e : w * 1 ≡ length (f a) = rw (h a) (omega arith) in
      rw (mul-zero, add-zero, e, drop-append_seam) (ap (λ (s : List ℕ). g a ++ s) (flat_map_same f g (suc a) n (λ k l. same k (omega arith))))
  replace_block f g h (suc n) a (suc i) p same =
      let e : w * suc i ≡ length (f a) + w * i = rw (h a, mul-suc) (add_comm _ _) in
      let u : w * suc (suc i) ≡ length (f a) + w * suc i = rw (h a, mul-suc w (suc i)) (add_comm _ _) in
      let m : suc a + i ≡ a + suc i = omega arith in
      let later = replace_block f g h n (suc a) i (omega arith) (λ k d. same k (omega arith)) in
      rw (e, take-append-add, u, drop-append-add, append_assoc, same a (omega arith), ← m) (ap (λ (s : List ℕ). f a ++ s) later)

-- a row for each record
module _ (w : ℕ) (g : ℕ → ℕ → ℕ) (n : ℕ) where
  pub length_rows : length (rows w g n) ≡ w * n
  unfolding rows
  length_rows = length_blocks w (λ k. row w (g k)) (λ k. length_row w (g k)) 1 n

  pub get_or_rows : (k i : ℕ) → k < n → i < w → get_or (rows w g n) (w * k + i) 0 ≡ g (suc k) i
  unfolding rows
  get_or_rows k i p q =
      get_or_blocks w (λ k. row w (g k)) (λ k. length_row w (g k)) n 1 k i p q ∙ get_or_row w (g (1 + k)) i q ∙ ap (λ (m : ℕ). g m i) (omega arith)

-- a list is known by its elements, numbered from a
pub tabulated {ℓ} : {A : Type ℓ} (f : ℕ → A) (d : A) (a : ℕ) (xs : List A) → ((i : ℕ) → i < length xs → f (a + i) ≡ get_or xs i d) → map f (from a (length xs)) ≡ xs
tabulated f d a [] h = refl
tabulated {A = A} f d a (x ∷ xs) h =
    ap₂ {C = List A} (λ y ys. y ∷ ys) (rw add-zero at (h 0 (omega arith)))
    (tabulated f d (suc a) xs (λ i p. let e : suc a + i ≡ a + suc i = omega arith in rw e (h (suc i) (omega arith))))
