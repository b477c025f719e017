-- The words and slots of started tables: what stands at each address.
use mathlib.Core.Path.{◌≡◌, refl, sym, ap, ◌∙◌}
use mathlib.Core.List.{List, [], ◌∷◌, ◌++◌}
use Prim.Native.Nat.{ℕ, zero, suc, ◌+◌, ◌-◌, ◌*◌, ◌<◌, ◌≤◌}
use native.Mathlib.Omega.{arith}
use native.Mathlib.Nat.{mul-zero, mul-suc, add_comm}
use lib.ListN.{get_or, set, length, drop, replicate, length-set, length-replicate, get_or-replicate, replicate-append-replicate}
use lib.Seq.{get_or-set_other}
use Rattle.tables.specs.Lists.{from, next}
use Rattle.tables.specs.State.{no_lock, no_resource, resource, started}
use Rattle.modes.specs.Modes.{NL, CR, CW, PR, PW, EX}
use Rattle.tables.specs.Grants.{tally, empty}
use Rattle.tables.proofs.Tallies.{tally_empty}
use Rattle.tables.specs.Layout.{header_width, resource_width, lock_width, Address, of_header, of_resource, of_lock, place, size, flat_map, content, words, slot_width, slot, slots}
use Rattle.tables.proofs.Cases.{by_equal}
use Rattle.tables.proofs.Blocks.{flat_map_same}
use Rattle.tables.proofs.Links.{next_here, next_past, next_last}
use Rattle.tables.specs.Threads.{Within}
use Rattle.tables.proofs.Grid.{is_written}
use Rattle.tables.proofs.Numbered.{started_lock, started_resource}
use Rattle.table_names.specs.Promises.{blank}
use Rattle.table_names.proofs.SlotStores.{blank_slot}
use Rattle.call_start.specs.Fresh.{headed, linked_up, fresh_words}
use Rattle.call_start.proofs.UpwardLinks.{length_linked, linked_past, linked_here}

-- what follows a number on a list that goes upward
next_up : (n a j : ℕ) → j + 1 < n → next (a + j) (from a n) ≡ a + j + 1
next_up zero a j p = absurd (omega arith)
next_up (suc zero) a zero p = absurd (omega arith)
next_up (suc (suc n)) a zero p = next_here (a + 0) a (from (suc a) (suc n)) (omega arith) ∙ omega arith
next_up (suc n) a (suc j) p =
    let e : a + suc j ≡ suc a + j = omega arith in
    next_past (a + suc j) a (from (suc a) n) (λ f. omega arith) ∙ rw e (next_up n (suc a) j (omega arith))

next_end : (j a : ℕ) → next (a + j) (from a (suc j)) ≡ 0
next_end zero a = next_last (a + 0) a
next_end (suc j) a =
    let e : a + suc j ≡ suc a + j = omega arith in
    next_past (a + suc j) a (from (suc a) (suc j)) (λ f. omega arith) ∙ rw e (next_end j (suc a))

-- on the chain of all of n free records
chained : (n k : ℕ) → 1 ≤ k → k < n → next k (0 ∷ from 1 n) ≡ k - 1 + 2
chained n k p q =
    let e : 1 + (k - 1) ≡ k = omega arith in
    next_past k 0 (from 1 n) (λ f. omega arith) ∙ (rw e at (next_up n 1 (k - 1) (omega arith))) ∙ omega arith

chain_end : (n : ℕ) → 1 ≤ n → next n (0 ∷ from 1 n) ≡ 0
chain_end zero p = absurd (omega arith)
chain_end (suc n) p =
    let e : 1 + n ≡ suc n = omega arith in next_past (suc n) 0 (from 1 (suc n)) (λ f. omega arith) ∙ (rw e at (next_end n 1))

chain_head : (n : ℕ) → 1 ≤ n → next 0 (0 ∷ from 1 n) ≡ 1
chain_head zero p = absurd (omega arith)
chain_head (suc n) p = next_here 0 0 (from 1 (suc n)) refl

-- the header's first words, and those past them
header_first : (r l : ℕ) (ws : List ℕ) → 4 ≤ length ws → headed r l ws ≡ r ∷ l ∷ 1 ∷ 1 ∷ drop 4 ws
unfolding headed
header_first r l [] h = absurd (omega arith)
header_first r l (a ∷ []) h = absurd (omega arith)
header_first r l (a ∷ b ∷ []) h = absurd (omega arith)
header_first r l (a ∷ b ∷ c ∷ []) h = absurd (omega arith)
header_first r l (a ∷ b ∷ c ∷ d ∷ ws) h = refl

header_past : (r l : ℕ) (ws : List ℕ) (i : ℕ) → 4 ≤ i → get_or (headed r l ws) i 0 ≡ get_or ws i 0
unfolding headed
header_past r l ws i h =
    get_or-set_other (set (set (set ws 0 r) 1 l) 2 1) 3 i 1 0 (λ e. omega arith) ∙ get_or-set_other (set (set ws 0 r) 1 l) 2 i 1 0 (λ e. omega arith)
    ∙ get_or-set_other (set ws 0 r) 1 i l 0 (λ e. omega arith) ∙ get_or-set_other ws 0 i r 0 (λ e. omega arith)

module _ (r l : ℕ) where
  resource_count : length (started r l).resources ≡ r
  unfolding started
  resource_count = length-replicate r no_resource

  lock_count : length (started r l).locks ≡ l
  unfolding started
  lock_count = length-replicate l no_lock

  -- beside the links of the free chains and the header's first words, all is zero
  header_zero : (f : ℕ) → content (started r l) (of_header (suc (suc (suc (suc f))))) ≡ 0
  unfolding started
  header_zero zero = next_last 0 0
  header_zero (suc zero) = next_last 0 0
  header_zero (suc (suc zero)) = next_last 0 0
  header_zero (suc (suc (suc f))) = refl

  none_holds : (k m : ℕ) → tally (started r l) k m ≡ 0
  none_holds k m = tally_empty (started r l) k m (unfold empty in rw (started_resource r l k))

  resource_zero : (k f : ℕ) → content (started r l) (of_resource k (suc f)) ≡ 0
  resource_zero k zero = rw (started_resource r l k) (next_last 0 0)
  resource_zero k (suc zero) = rw (started_resource r l k) (next_last 0 0)
  resource_zero k (suc (suc zero)) = rw (started_resource r l k) (next_last 0 0)
  resource_zero k (suc (suc (suc zero))) = rw (started_resource r l k)
  resource_zero k (suc (suc (suc (suc zero)))) = rw (started_resource r l k)
  resource_zero k (suc (suc (suc (suc (suc zero))))) = none_holds k NL
  resource_zero k (suc (suc (suc (suc (suc (suc zero)))))) = none_holds k CR
  resource_zero k (suc (suc (suc (suc (suc (suc (suc zero))))))) = none_holds k CW
  resource_zero k (suc (suc (suc (suc (suc (suc (suc (suc zero)))))))) = none_holds k PR
  resource_zero k (suc (suc (suc (suc (suc (suc (suc (suc (suc zero))))))))) = none_holds k PW
  resource_zero k (suc (suc (suc (suc (suc (suc (suc (suc (suc (suc zero)))))))))) = none_holds k EX
  resource_zero k (suc (suc (suc (suc (suc (suc (suc (suc (suc (suc (suc f))))))))))) = refl

  lock_zero : (k f : ℕ) → content (started r l) (of_lock k (suc f)) ≡ 0
  lock_zero k zero = unfold started in next_last k 0
  lock_zero k (suc zero) = unfold started in next_last k 0
  lock_zero k (suc (suc zero)) = rw (started_lock r l k)
  lock_zero k (suc (suc (suc zero))) = rw (started_lock r l k)
  lock_zero k (suc (suc (suc (suc zero)))) = rw (started_lock r l k)
  lock_zero k (suc (suc (suc (suc (suc zero))))) = rw (started_lock r l k)
  lock_zero k (suc (suc (suc (suc (suc (suc zero)))))) = rw (started_lock r l k)
  lock_zero k (suc (suc (suc (suc (suc (suc (suc zero))))))) = rw (started_lock r l k)
  lock_zero k (suc (suc (suc (suc (suc (suc (suc (suc zero)))))))) = rw (started_lock r l k)
  lock_zero k (suc (suc (suc (suc (suc (suc (suc (suc (suc f))))))))) = refl

  lock_link : (k : ℕ) → content (started r l) (of_lock k 0) ≡ next k (0 ∷ from 1 l)
  lock_link k = rw (started_lock r l k) (unfold started in refl)

  resource_link : (k : ℕ) → content (started r l) (of_resource k 0) ≡ next k (0 ∷ from 1 r)
  unfolding started
  resource_link k = refl

  -- what the code leaves: zeros, the header, the links of the resources, those of the locks
  abbrev zeros : List ℕ
  zeros = replicate (size r l) 0

  abbrev upon : List ℕ
  upon = linked_up header_width resource_width (r - 1) (headed r l zeros)

  abbrev left : List ℕ
  left = linked_up (header_width + resource_width * r) lock_width (l - 1) upon

  headed_long : length (headed r l zeros) ≡ size r l
  unfolding headed
  headed_long = simp (length-set, length-replicate)

  upon_long : length upon ≡ size r l
  upon_long = length_linked header_width resource_width (headed r l zeros) (r - 1) ∙ headed_long

  left_long : length left ≡ size r l
  left_long = length_linked (header_width + resource_width * r) lock_width upon (l - 1) ∙ upon_long

  headed_is : headed r l zeros ≡ r ∷ l ∷ 1 ∷ 1 ∷ drop 4 zeros
  headed_is = header_first r l zeros (rw (length-replicate {A = ℕ} (size r l) 0) (omega arith))

  headed_past : (i : ℕ) → 4 ≤ i → i < size r l → get_or (headed r l zeros) i 0 ≡ 0
  headed_past i p q = header_past r l zeros i p ∙ get_or-replicate (size r l) i 0 0 q

  -- before the locks' rows; in the header
  left_before : (i : ℕ) → i < header_width + resource_width * r → get_or left i 0 ≡ get_or upon i 0
  left_before i p = linked_past (header_width + resource_width * r) lock_width upon (l - 1) i (λ j q e. omega arith)

  left_header : (i : ℕ) → i < header_width → get_or left i 0 ≡ get_or (headed r l zeros) i 0
  left_header i p = left_before i (omega arith) ∙ linked_past header_width resource_width (headed r l zeros) (r - 1) i (λ j q e. omega arith)

  module _ (some_resource : 1 ≤ r) (some_lock : 1 ≤ l) where
    is_header : (f : ℕ) → f < header_width → get_or left f 0 ≡ content (started r l) (of_header f)
    is_header zero p = left_header 0 p ∙ ap (λ (ws : List ℕ). get_or ws 0 0) headed_is ∙ sym resource_count
    is_header (suc zero) p = left_header 1 p ∙ ap (λ (ws : List ℕ). get_or ws 1 0) headed_is ∙ sym lock_count
    is_header (suc (suc zero)) p = left_header 2 p ∙ ap (λ (ws : List ℕ). get_or ws 2 0) headed_is ∙ sym (unfold started in chain_head r some_resource)
    is_header (suc (suc (suc zero))) p = left_header 3 p ∙ ap (λ (ws : List ℕ). get_or ws 3 0) headed_is ∙ sym (unfold started in chain_head l some_lock)
    is_header (suc (suc (suc (suc f)))) p = left_header _ p ∙ headed_past _ (omega arith) (omega arith) ∙ sym (header_zero f)

    is_resource : (k f : ℕ) → 1 ≤ k → k ≤ r → f < resource_width → get_or left (place r (of_resource k f)) 0 ≡ content (started r l) (of_resource k f)
    is_resource k zero p q m =
        let z : header_width + resource_width * (k - 1) + 0 ≡ header_width + resource_width * (k - 1) = omega arith in
        left_before _ (omega arith)
        ∙ by_equal k r
        (λ e. linked_past header_width resource_width (headed r l zeros) (r - 1) _ (λ j s f. omega arith)
        ∙ headed_past _ (omega arith) (omega arith) ∙ sym (resource_link k ∙ rw e (chain_end r some_resource)))
        (λ e. rw z (linked_here header_width resource_width (headed r l zeros) (r - 1) (k - 1) (omega arith) (omega arith) (rw headed_long (omega arith))
        ∙ sym (resource_link k ∙ chained r k p (omega arith))))
    is_resource k (suc f) p q m =
        left_before _ (omega arith)
        ∙ linked_past header_width resource_width (headed r l zeros) (r - 1) _ (λ j s e. omega arith)
        ∙ headed_past _ (omega arith) (omega arith) ∙ sym (resource_zero k f)

    -- past the resources, only the locks' links are not zero
    lock_rows : (i : ℕ) → header_width + resource_width * r ≤ i → i < size r l → get_or upon i 0 ≡ 0
    lock_rows i p q = linked_past header_width resource_width (headed r l zeros) (r - 1) i (λ j s e. omega arith) ∙ headed_past i (omega arith) q

    is_lock : (k f : ℕ) → 1 ≤ k → k ≤ l → f < lock_width → get_or left (place r (of_lock k f)) 0 ≡ content (started r l) (of_lock k f)
    is_lock k zero p q m =
        let first : ℕ = header_width + resource_width * r in
        let z : first + lock_width * (k - 1) + 0 ≡ first + lock_width * (k - 1) = omega arith in
        by_equal k l
        (λ e. linked_past first lock_width upon (l - 1) _ (λ j s f. omega arith)
        ∙ lock_rows _ (omega arith) (omega arith) ∙ sym (lock_link k ∙ rw e (chain_end l some_lock)))
        (λ e. rw z (linked_here first lock_width upon (l - 1) (k - 1) (omega arith) (omega arith) (rw upon_long (omega arith))
        ∙ sym (lock_link k ∙ chained l k p (omega arith))))
    is_lock k (suc f) p q m =
        linked_past (header_width + resource_width * r) lock_width upon (l - 1) _ (λ j s e. omega arith)
        ∙ lock_rows _ (omega arith) (omega arith) ∙ sym (lock_zero k f)

    is_content : (b : Address) → Within r l b → get_or left (place r b) 0 ≡ content (started r l) b
    is_content (of_header f) h = is_header f h
    is_content (of_resource k f) h = is_resource k f h.0 h.1 h.2
    is_content (of_lock k f) h = is_lock k f h.0 h.1 h.2

    pub started_words : left ≡ fresh_words r l
    unfolding words
    started_words = is_written r l (content (started r l)) left left_long is_content ∙ sym (rw (resource_count, lock_count))

-- the slots are zeros
zero_rows : (w n a : ℕ) → flat_map (λ s. replicate w 0) (from a n) ≡ replicate (w * n) 0
zero_rows w zero a = rw mul-zero
zero_rows w (suc n) a =
    ap (λ (xs : List ℕ). replicate w 0 ++ xs) (zero_rows w n (suc a)) ∙ replicate-append-replicate w (w * n) 0
    ∙ ap (λ (m : ℕ). replicate m 0) (add_comm w (w * n) ∙ sym (mul-suc w n))

pub started_slots : (r l : ℕ) → slots (started r l) ≡ replicate (slot_width * r) 0
unfolding slots blank
started_slots r l =
    ap (λ (n : ℕ). flat_map (λ s. slot (resource (started r l) s)) (from 1 n)) (resource_count r l)
    ∙ flat_map_same (λ s. blank) (λ s. slot (resource (started r l) s)) 1 r (λ s p. ap slot (started_resource r l s) ∙ sym blank_slot)
    ∙ zero_rows slot_width r 1
