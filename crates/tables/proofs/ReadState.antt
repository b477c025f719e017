-- The state that is read from words and slots, whatever they hold: its records, its chains, its slots.
use mathlib.Core.Path.{◌≡◌, refl, sym, ◌∙◌, ap, ap₂}
use mathlib.Core.Bool.{true}
use mathlib.Core.List.{List, [], ◌∷◌, ◌++◌, append_assoc}
use Prim.Native.Nat.{ℕ, zero, suc, ◌+◌, ◌-◌, ◌*◌, ◌<◌, ◌≤◌}
use native.Mathlib.Omega.{arith}
use native.Mathlib.Nat.{mul-zero, mul-suc, add_comm, add-zero}
use lib.ListN.{length, take, drop, replicate, take-append-drop, length-drop}
use lib.Seq.{length-take-le, drop-drop, take-take}
use lib.Dec.{eqb}
use borrow.Author.Tests.{eqb-true}
use Rattle.tables.specs.Lists.{all, from}
use Rattle.tables.specs.State.{Resource, name_width, no_lock, no_resource, lock, resource, grants, converts, waits, free_locks, denied, blocked, notices, queue, queue_of, Chain, free_resources, of_locks, chain_of}
use Rattle.tables.specs.Layout.{head, flat_map, slot_width, slot, slots, resources_in, locks_in, read_chain, read_lock, slot_in, read_resource, read}
use Rattle.tables.specs.Sound.{all_zero}
use Rattle.tables.proofs.Cases.{and_left, and_right, and_intro}
use Rattle.tables.proofs.Blocks.{length_map_from, get_or_map_from}
use Rattle.tables.proofs.Counts.{within_le}
use Rattle.tables.proofs.Valid.{used_within}
use Rattle.tables.specs.Threads.{Within}
use Rattle.tables.specs.Validity.{used}

module _ (ws ss : List ℕ) where
  pub resources_read : length (read ws ss).resources ≡ resources_in ws
  unfolding read
  resources_read = length_map_from (read_resource ws ss) 1 (resources_in ws)

  pub locks_read : length (read ws ss).locks ≡ locks_in ws
  unfolding read
  locks_read = length_map_from (read_lock ws) 1 (locks_in ws)

  pub resource_of : (r : ℕ) → 1 ≤ r → r ≤ resources_in ws → resource (read ws ss) r ≡ read_resource ws ss r
  unfolding read resource
  resource_of zero p q = absurd (omega arith)
  resource_of (suc r) p q = get_or_map_from (read_resource ws ss) no_resource 1 (resources_in ws) r (omega arith) ∙ ap (read_resource ws ss) (omega arith)

  pub lock_of : (k : ℕ) → 1 ≤ k → k ≤ locks_in ws → lock (read ws ss) k ≡ read_lock ws k
  unfolding read lock
  lock_of zero p q = absurd (omega arith)
  lock_of (suc k) p q = get_or_map_from (read_lock ws) no_lock 1 (locks_in ws) k (omega arith) ∙ ap (read_lock ws) (omega arith)

  pub used_in : (r : ℕ) → used (read ws ss) r ≡ true → (1 ≤ r) × (r ≤ resources_in ws)
  used_in r u = within_le (resources_in ws) r (rw resources_read at (used_within (read ws ss) r u))

  -- its chains are those that are followed
  pub chain_followed : (c : Chain) → Within (resources_in ws) (locks_in ws) (head c) → chain_of c (read ws ss) ≡ read_chain ws c
  unfolding read read_resource
  chain_followed free_resources h = refl
  chain_followed (of_locks free_locks) h = refl
  chain_followed (of_locks denied) h = refl
  chain_followed (of_locks blocked) h = refl
  chain_followed (of_locks notices) h = refl
  chain_followed (of_locks (queue r grants)) h = ap (queue_of grants) (resource_of r h.0 h.1)
  chain_followed (of_locks (queue r converts)) h = ap (queue_of converts) (resource_of r h.0 h.1)
  chain_followed (of_locks (queue r waits)) h = ap (queue_of waits) (resource_of r h.0 h.1)

-- SLOTS. A list of zeros is known by its length
pub zeros_are : (bs : List ℕ) (n : ℕ) → all_zero bs ≡ true → length bs ≡ n → bs ≡ replicate n 0
unfolding all_zero all
zeros_are [] zero h e = refl
zeros_are [] (suc n) h e = absurd (omega arith)
zeros_are (b ∷ bs) zero h e = absurd (omega arith)
zeros_are (b ∷ bs) (suc n) h e =
    ap₂ {C = List ℕ} (λ x xs. x ∷ xs) (sym (eqb-true 0 b (and_left (eqb 0 b) (all (eqb 0) bs) h))) (zeros_are bs n (and_right (eqb 0 b) (all (eqb 0) bs) h) (omega arith))

pub are_zeros : (n : ℕ) → all_zero (replicate n 0) ≡ true
unfolding all_zero all
are_zeros zero = refl
are_zeros (suc n) = are_zeros n

pub zero_take : (n : ℕ) (bs : List ℕ) → all_zero bs ≡ true → all_zero (take n bs) ≡ true
unfolding all_zero all
zero_take zero bs h = refl
zero_take (suc n) [] h = refl
zero_take (suc n) (b ∷ bs) h = and_intro (eqb 0 b) (all (eqb 0) (take n bs)) (and_left (eqb 0 b) (all (eqb 0) bs) h) (zero_take n bs (and_right (eqb 0 b) (all (eqb 0) bs) h))

pub zero_drop : (n : ℕ) (bs : List ℕ) → all_zero bs ≡ true → all_zero (drop n bs) ≡ true
unfolding all_zero all
zero_drop zero bs h = h
zero_drop (suc n) [] h = refl
zero_drop (suc n) (b ∷ bs) h = zero_drop n bs (and_right (eqb 0 b) (all (eqb 0) bs) h)

-- a list of n blocks is known by its blocks
pub blocks_are : (w : ℕ) (f : ℕ → List ℕ) (a n : ℕ) (bs : List ℕ) → length bs ≡ w * n → ((i : ℕ) → i < n → take w (drop (w * i) bs) ≡ f (a + i)) → bs ≡ flat_map f (from a n)
blocks_are w f a zero [] e h = refl
blocks_are w f a zero (b ∷ bs) e h = absurd (let z = mul-zero w in omega arith)
blocks_are w f a (suc n) bs e h =
    let one : take w bs ≡ f a = rw (mul-zero, add-zero) at (h 0 (omega arith)) in
    let z = mul-suc w n in
    let rest : length (drop w bs) ≡ w * n = rw length-drop (omega arith) in
    sym (take-append-drop w bs)
    ∙ ap₂ (λ (s t : List ℕ). s ++ t) one (blocks_are w f (suc a) n (drop w bs) rest (λ i p. ap (take w) (drop-drop (w * i) w bs ∙ ap (λ (m : ℕ). drop m bs) (later i)) ∙ h (suc i) (omega arith) ∙ ap f (omega arith)))
  where
    later : (i : ℕ) → w + w * i ≡ w * suc i
    later i = rw (mul-suc w i) (add_comm _ _)

-- a list that is zero from n on, up to a
zero_between : (a n : ℕ) (bs : List ℕ) → n ≤ a → a ≤ length bs → all_zero (drop n (take a bs)) ≡ true → bs ≡ take n bs ++ (replicate (a - n) 0 ++ drop a bs)
zero_between a n bs p q z =
    let short : length (drop n (take a bs)) ≡ a - n = rw (length-drop n (take a bs), length-take-le a bs q) in
    sym (take-append-drop a bs)
    ∙ ap (λ (l : List ℕ). l ++ drop a bs) (sym (take-append-drop n (take a bs)) ∙ ap₂ (λ (s t : List ℕ). s ++ t) (take-take n a bs p) (zeros_are (drop n (take a bs)) (a - n) z short))
    ∙ append_assoc (take n bs) (replicate (a - n) 0) (drop a bs)

module _ (ws ss : List ℕ) (sized : length ss ≡ slot_width * resources_in ws) where
  pub slot_in_length : (r : ℕ) → 1 ≤ r → r ≤ resources_in ws → length (slot_in ss r) ≡ slot_width
  unfolding slot_in
  slot_in_length r p q = length-take-le slot_width (drop (slot_width * (r - 1)) ss) (rw length-drop (omega arith))

  -- a slot that is a name and zeros after it
  pub slot_is : (r n : ℕ) → 1 ≤ r → r ≤ resources_in ws → n ≤ name_width → all_zero (drop n (take name_width (slot_in ss r))) ≡ true → (x : Resource) →
      x.name ≡ take n (slot_in ss r) → x.value ≡ drop name_width (slot_in ss r) → slot_in ss r ≡ slot x
  unfolding slot
  slot_is r n p q m z x e v =
      let wide = slot_in_length r p q in
      let named : length x.name ≡ n = rw e (length-take-le n (slot_in ss r) (omega arith)) in
      zero_between name_width n (slot_in ss r) m (omega arith) z
      ∙ ap₂ (λ (s t : List ℕ). s ++ t) (sym e) (ap₂ (λ (k : ℕ) (t : List ℕ). replicate (name_width - k) 0 ++ t) (sym named) (sym v))

  pub slots_are : ((r : ℕ) → 1 ≤ r → r ≤ resources_in ws → slot_in ss r ≡ slot (resource (read ws ss) r)) → ss ≡ slots (read ws ss)
  unfolding slots slot_in
  slots_are h =
      rw (resources_read ws ss)
      (blocks_are slot_width (λ r. slot (resource (read ws ss) r)) 1 (resources_in ws) ss sized (λ i p. let e : (1 + i) - 1 ≡ i = omega arith in rw e at (h (1 + i) (omega arith) (omega arith))))
