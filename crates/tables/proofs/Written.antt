-- The written form of a valid state is sound, and is read back.
use mathlib.Core.Path.{◌≡◌, refl, sym, ◌∙◌, ap, ap₂}
use mathlib.Core.Bool.{true, false, ◌&&◌, ◌||◌}
use mathlib.Core.List.{List, [], ◌∷◌, ◌++◌, append_assoc}
use Prim.Native.Nat.{ℕ, zero, suc, ◌-◌, ◌*◌, ◌<◌, ◌≤◌}
use native.Mathlib.Omega.{arith}
use lib.ListN.{get_or, length, take, drop, replicate, length-append, length-replicate}
use lib.Seq.{take_at, drop-append_seam}
use lib.Dec.{eqb, leb}
use borrow.Author.Tests.{eq-eqb, ne_eqb, leb-true, leb-false, le-leb}
use Rattle.modes.specs.Modes.{compatible}
use Rattle.modes.proofs.Laws.{all_modes_intro}
use Rattle.tables.specs.Lists.{within, count, bit, all, null, next}
use Rattle.tables.specs.State.{Resource, Tables, name_width, no_value, lock, resource, grants, converts, waits, LockChain, free_locks, denied, blocked, notices, queue, Chain, free_resources, of_locks, chain, chain_of, home, belongs}
use Rattle.tables.specs.Layout.{resource_width, Address, of_header, of_resource, of_lock, place, cell, count_field, word_value, content, words, slot_width, slot, slots, resources_in, locks_in, word_in, most, link_in, slot_in, read}
use Rattle.tables.specs.Grants.{holders, tally, no_grantable_head, empty}
use Rattle.tables.specs.Sound.{sizes_right, zeros_right, resource_index, lock_index, indices_right, ends, chain_ends, chains_end, all_zero, free_resource_right, name_unique, used_resource_right, resource_right, stands_right, home_right, lock_right, linked_right, holders_compatible, counts_right, state_right, sound}
use Rattle.tables.proofs.Cases.{by_cases, by_equal, clash, eqb_same, and_intro, or_left, or_right}
use Rattle.tables.proofs.Counts.{within_le, le_within, all_intro, nil_of_counts, null_nil, null_some}
use Rattle.tables.specs.Validity.{used, Core, Valid}
use Rattle.tables.proofs.StateCases.{ok_numbered}
use Rattle.tables.proofs.Valid.{ok_at, housed}
use Rattle.tables.proofs.ChainMembers.{and_bit, on_chain, on_grants, on_converts, on_waits, in_holder, idle_no_head}
use Rattle.tables.proofs.Blocks.{length_blocks}
use Rattle.tables.specs.Threads.{Each}
use Rattle.tables.proofs.Links.{count_absent, next_here, next_past, next_absent}
use Rattle.tables.specs.Threads.{In, Present}
use Rattle.tables.proofs.Chains.{spot}
use Rattle.tables.proofs.WordChanges.{no_zero, length_words}
use Rattle.tables.proofs.ChainWalk.{words_lead}
use Rattle.tables.proofs.ReadBack.{Readable, slot_length, resources_word, locks_word, word_read, chain_most, slot_read, tables_read}
use Rattle.tables.proofs.ThreadedChains.{each_counted, core_readable}
use Rattle.tables.proofs.Wholeness.{stands_count}
use Rattle.tables.proofs.FollowedChains.{runs_ends, leads_runs}
use Rattle.tables.proofs.ReadState.{are_zeros}
use Rattle.tables.proofs.Tallies.{count_word}
use Rattle.tables.proofs.Conditions.{each_intro, differ_names}
use Rattle.tables.proofs.Fields.{are_fields}
use Rattle.tables.proofs.Soundness.{sound_words, sound_slots, sound_valid}

-- what follows is on the list, or 0
next_each : (P : ℕ → Type 0) → P 0 → (k x : ℕ) (xs : List ℕ) → Each P xs → P (next k (x ∷ xs))
next_each P z k x [] e = by_equal k x (λ q. rw (next_here k x [] q) z) (λ n. rw (next_past k x [] n) (unfold next in z))
next_each P z k x (y ∷ ys) e = by_equal k x (λ q. rw (next_here k x (y ∷ ys) q) e.0) (λ n. rw (next_past k x (y ∷ ys) n) (next_each P z k y ys e.1))

pub valid_readable : (t : Tables) → Valid t → Readable t
valid_readable t v = core_readable t v.core

-- the slot of a resource without name; and what stands after a name
zero_slot : (x : Resource) → x.name ≡ [] → x.value ≡ no_value → all_zero (slot x) ≡ true
unfolding slot no_value
zero_slot x n v = rw (n, v) (are_zeros slot_width)

name_tail : (x : Resource) → length x.name ≤ name_width → all_zero (drop (length x.name) (take name_width (slot x))) ≡ true
unfolding slot
name_tail x p =
    let zeros : List ℕ = replicate (name_width - length x.name) 0 in
    let wide : length (x.name ++ zeros) ≡ name_width = simp (length-append, length-replicate) (omega arith) in
    ap (λ (l : List ℕ). all_zero (drop (length x.name) (take name_width l))) (sym (append_assoc x.name zeros x.value))
    ∙ ap (λ (l : List ℕ). all_zero (drop (length x.name) l)) (take_at (x.name ++ zeros) x.value name_width wide)
    ∙ ap all_zero (drop-append_seam x.name zeros)
    ∙ are_zeros (name_width - length x.name)

module _ (t : Tables) (c : Core t) where
  resources_sized : (r : ℕ) → r ≤ resources_in (words t) → r ≤ length t.resources
  resources_sized r p = rw (resources_word t) at p

  locks_sized : (k : ℕ) → k ≤ locks_in (words t) → k ≤ length t.locks
  locks_sized k p = rw (locks_word t) at p

  -- 1. sizes and lengths; words given as zero
  slots_length : length (slots t) ≡ slot_width * length t.resources
  unfolding slots
  slots_length = length_blocks slot_width (λ r. slot (resource t r)) (λ r. slot_length (resource t r) (c.resource_ok r).name_length (c.resource_ok r).value_length) 1 (length t.resources)

  sizes : sizes_right (words t) (slots t) ≡ true
  unfolding sizes_right
  sizes = rw (length_words t, slots_length, resources_word t, locks_word t) (search (and_intro, le-leb, eqb_same) depth 20)

  zeros : zeros_right (words t) ≡ true
  unfolding zeros_right
  zeros = eq-eqb _ 0 (word_read t (of_header 7) (omega arith))

  -- every index is 0 or a record's number
  spare_in : (r : ℕ) → 1 ≤ count r t.free_resources → within (length t.resources) r ≡ true
  spare_in r m = (and_bit (within (length t.resources) r) (null (resource t r).name) (rw (c.spare r) at m)).0

  lock_next : (x : LockChain) (k : ℕ) → next k (0 ∷ chain t x) ≤ length t.locks
  lock_next x k =
      next_each (λ j. j ≤ length t.locks) (omega arith) k 0 (chain t x)
      (each_counted (λ j. j ≤ length t.locks) (chain t x) (λ j m. (within_le (length t.locks) j (on_chain t c.linked x j m).0).1))

  resource_next : (k : ℕ) → next k (0 ∷ t.free_resources) ≤ length t.resources
  resource_next k =
      next_each (λ j. j ≤ length t.resources) (omega arith) k 0 t.free_resources
      (each_counted (λ j. j ≤ length t.resources) t.free_resources (λ j m. (within_le (length t.resources) j (spare_in j m)).1))

  names_lock : (a : Address) → In t a → content t a ≤ length t.locks → lock_index (words t) (word_in (words t) a) ≡ true
  unfolding lock_index
  names_lock a i p = le-leb (word_in (words t) a) (locks_in (words t)) (rw (word_read t a i, locks_word t) p)

  names_resource : (a : Address) → In t a → content t a ≤ length t.resources → resource_index (words t) (word_in (words t) a) ≡ true
  unfolding resource_index
  names_resource a i p = le-leb (word_in (words t) a) (resources_in (words t)) (rw (word_read t a i, resources_word t) p)

  indices : indices_right (words t) ≡ true
  unfolding indices_right all
  indices =
      let a = names_resource (of_header 2) (omega arith) (resource_next 0) in
      let b = names_lock (of_header 3) (omega arith) (lock_next free_locks 0) in
      let d = names_lock (of_header 4) (omega arith) (lock_next denied 0) in
      let e = names_lock (of_header 5) (omega arith) (lock_next blocked 0) in
      let f = names_lock (of_header 6) (omega arith) (lock_next notices 0) in
      rw (a, b, d, e, f)
      (and_intro _ _ (each_intro _ (resources_in (words t)) (λ r p q. of_resources r p (resources_sized r q))) (each_intro _ (locks_in (words t)) (λ k p q. of_locks_too k p (locks_sized k q))))
    where
      of_resources : (r : ℕ) → 1 ≤ r → r ≤ length t.resources → (resource_index (words t) (word_in (words t) (of_resource r 0)) && all (λ f. lock_index (words t) (word_in (words t) (of_resource r f))) (1 ∷ 2 ∷ 3 ∷ [])) ≡ true
      of_resources r p q =
          let a = names_resource (of_resource r 0) (p, q, omega arith) (resource_next r) in
          let b = names_lock (of_resource r 1) (p, q, omega arith) (lock_next (queue r grants) 0) in
          let d = names_lock (of_resource r 2) (p, q, omega arith) (lock_next (queue r converts) 0) in
          let e = names_lock (of_resource r 3) (p, q, omega arith) (lock_next (queue r waits) 0) in
          rw (a, b, d, e)

      of_locks_too : (k : ℕ) → 1 ≤ k → k ≤ length t.locks → (all (λ f. lock_index (words t) (word_in (words t) (of_lock k f))) (0 ∷ 1 ∷ 2 ∷ []) && resource_index (words t) (word_in (words t) (of_lock k 3))) ≡ true
      of_locks_too k p q =
          let a = names_lock (of_lock k 0) (p, q, omega arith) (lock_next (home (lock t k)) k) in
          let b = names_lock (of_lock k 1) (p, q, omega arith) (lock_next blocked k) in
          let d = names_lock (of_lock k 2) (p, q, omega arith) (lock_next notices k) in
          let e = names_resource (of_lock k 3) (p, q, omega arith) (housed t (lock t k) (lock t k).state (ok_numbered (c.lock_ok k))) in
          rw (a, b, d, e)

  -- every chain ends
  pub chain_ending : (x : Chain) → Present t x → chain_ends (words t) x ≡ true
  unfolding chain_ends
  chain_ending x i =
      let h = (core_readable t c).chains x i in
      ap₂ (λ (r l : ℕ). ends (λ k. get_or (words t) (place r (cell x k)) 0) (most r l x) (get_or (words t) (place r (cell x 0)) 0)) (resources_word t) (locks_word t)
      ∙ runs_ends (λ k. get_or (words t) (spot t (cell x k)) 0) (most (length t.resources) (length t.locks) x) _ (chain_of x t)
      (leads_runs _ 0 (chain_of x t) (words_lead t x h) (no_zero t x h)) (chain_most t x h)

  endings : chains_end (words t) ≡ true
  unfolding chains_end
  endings =
      let a = chain_ending free_resources (omega arith) in
      let b = chain_ending (of_locks free_locks) (omega arith) in
      let d = chain_ending (of_locks denied) (omega arith) in
      let e = chain_ending (of_locks blocked) (omega arith) in
      let f = chain_ending (of_locks notices) (omega arith) in
      rw (a, b, d, e, f)
      (each_intro _ (resources_in (words t))
      (λ r p q. rw (
        chain_ending (of_locks (queue r grants)) (p, resources_sized r q, omega arith),
        chain_ending (of_locks (queue r converts)) (p, resources_sized r q, omega arith),
        chain_ending (of_locks (queue r waits)) (p, resources_sized r q, omega arith),
      )))

  -- 2. resources: no lock stands on one that is not in use
  nobody_on : (x : LockChain) (r : ℕ) → null (resource t r).name ≡ true → ((j : ℕ) → 1 ≤ count j (chain t x) → used t r ≡ true) → chain t x ≡ []
  unfolding used
  nobody_on x r n u =
      nil_of_counts (chain t x)
      (λ j. by_cases (leb 1 (count j (chain t x)))
      (λ y. clash false (rw n at (u j (leb-true 1 (count j (chain t x)) y))) refl)
      (λ y. omega (arith, leb-false 1 (count j (chain t x)) y)))

  unused_empty : (r : ℕ) → null (resource t r).name ≡ true → empty (resource t r) ≡ true
  unfolding empty
  unused_empty r n =
      let a : (resource t r).grant ≡ [] = nobody_on (queue r grants) r n (λ j m. let o = on_grants t c.linked r j m in rw o.1 at (ok_at (used t) (lock t j) 1 (c.lock_ok j) o.0).place.in_use) in
      let b : (resource t r).convert ≡ [] = nobody_on (queue r converts) r n (λ j m. let o = on_converts t c.linked r j m in rw o.1 at (ok_at (used t) (lock t j) 2 (c.lock_ok j) o.0).place.in_use) in
      let d : (resource t r).wait ≡ [] = nobody_on (queue r waits) r n (λ j m. let o = on_waits t c.linked r j m in rw o.1 at (ok_at (used t) (lock t j) 3 (c.lock_ok j) o.0).place.in_use) in
      rw (ap null a, ap null b, ap null d)

  unique : (r : ℕ) → used t r ≡ true → name_unique t r ≡ true
  unique r u = differ_names t r (λ s p q n e. c.names r s (λ z. n (sym z)) u (sym e))

  module _ (peopled : (r : ℕ) → used t r ≡ true → empty (resource t r) ≡ false) (r : ℕ) (low : 1 ≤ r) (high : r ≤ length t.resources) where
    at_field : (f : ℕ) → f < resource_width → word_in (words t) (of_resource r f) ≡ content t (of_resource r f)
    at_field f p = word_read t (of_resource r f) (low, high, p)

    slot_at : slot_in (slots t) r ≡ slot (resource t r)
    slot_at = slot_read t (core_readable t c) r low high

    free_right : null (resource t r).name ≡ true → free_resource_right (words t) (slots t) t r ≡ true
    unfolding free_resource_right
    free_right n =
        let e = null_nil (resource t r).name n in
        let one : count r t.free_resources ≡ 1 = c.spare r ∙ (rw (le_within (length t.resources) r low high, n)) in
        let flag : word_in (words t) (of_resource r 5) ≡ 0 = at_field 5 (omega arith) ∙ (c.resource_ok r).unused e in
        rw (eq-eqb _ 1 one, eq-eqb _ 0 flag, unused_empty r n, slot_at) (zero_slot (resource t r) e ((c.resource_ok r).unused_value e))

    used_right : null (resource t r).name ≡ false → used_resource_right (words t) (slots t) t r ≡ true
    unfolding used_resource_right
    used_right n =
        let u : used t r ≡ true = unfold used in rw n in
        let none : count r t.free_resources ≡ 0 = c.spare r ∙ (rw (le_within (length t.resources) r low high, n)) in
        let link_zero : word_in (words t) (of_resource r 0) ≡ 0 = at_field 0 (omega arith) ∙ next_absent r (0 ∷ t.free_resources) (omega arith, count_absent r t.free_resources none) in
        let size_word : word_in (words t) (of_resource r 4) ≡ length (resource t r).name = at_field 4 (omega arith) in
        let flag : word_in (words t) (of_resource r 5) ≤ 1 = rw (at_field 5 (omega arith)) (c.resource_ok r).flag in
        rw (
          eq-eqb (count r t.free_resources) 0 none,
          eq-eqb (word_in (words t) (of_resource r 0)) 0 link_zero,
          size_word,
          slot_at,
          le-leb (length (resource t r).name) name_width (c.resource_ok r).name_length,
          name_tail (resource t r) (c.resource_ok r).name_length,
          unique r u,
          le-leb (word_in (words t) (of_resource r 5)) 1 flag,
          peopled r u,
        )

    resource_is : resource_right (words t) (slots t) t r ≡ true
    unfolding resource_right
    resource_is =
        let size_word : word_in (words t) (of_resource r 4) ≡ length (resource t r).name = at_field 4 (omega arith) in
        by_cases (null (resource t r).name)
        (λ n. rw (eq-eqb _ 0 (size_word ∙ ap length (null_nil (resource t r).name n))) (free_right n))
        (λ n. rw (ne_eqb (word_in (words t) (of_resource r 4)) 0 (omega (arith, size_word, null_some (resource t r).name n))) (used_right n))

  -- 3, 4. locks
  module _ (k : ℕ) (low : 1 ≤ k) (high : k ≤ length t.locks) where
    stands_is : (x : LockChain) → stands_right t x k ≡ true
    unfolding stands_right
    stands_is x = eq-eqb (count k (chain t x)) (bit (belongs x (lock t k))) (stands_count t c x k low high)

    lock_is : lock_right t k ≡ true
    unfolding lock_right home_right
    lock_is =
        rw (stands_is free_locks, stands_is denied, are_fields t (lock t k) (lock t k).state (ok_numbered (c.lock_ok k)))
        (and_intro _ true (each_intro _ (length t.resources) (λ r p q. rw (stands_is (queue r grants), stands_is (queue r converts), stands_is (queue r waits)))) refl)

    off_zero : (x : LockChain) → In t (cell (of_locks x) k) → content t (cell (of_locks x) k) ≡ next k (0 ∷ chain t x) → linked_right (words t) t x k ≡ true
    unfolding linked_right stands_right
    off_zero x i e =
        and_intro _ _ (stands_is x)
        (by_cases (belongs x (lock t k))
        (λ b. or_left _ _ b)
        (λ b. let none : count k (chain t x) ≡ 0 = stands_count t c x k low high ∙ (rw b) in
        or_right (belongs x (lock t k)) _ (eq-eqb (link_in (words t) (of_locks x) k) 0 (word_read t (cell (of_locks x) k) i ∙ e ∙ next_absent k (0 ∷ chain t x) (omega arith, count_absent k (chain t x) none)))))

  links_are : (k : ℕ) → 1 ≤ k → k ≤ length t.locks → (linked_right (words t) t blocked k && linked_right (words t) t notices k) ≡ true
  links_are zero p q = absurd (omega arith)
  links_are (suc k) p q = and_intro _ _ (off_zero (suc k) p q blocked (p, q, omega arith) refl) (off_zero (suc k) p q notices (p, q, omega arith) refl)

  -- 5. what is held on a resource
  compatible_is : (r : ℕ) → holders_compatible t r ≡ true
  unfolding holders_compatible
  compatible_is r =
      all_intro (λ j. all (λ k. eqb j k || compatible (lock t j).held (lock t k).held) (holders t r)) (holders t r)
      (λ j m. all_intro (λ k. eqb j k || compatible (lock t j).held (lock t k).held) (holders t r)
      (λ k n. let a = in_holder t c.linked r j m in
      let b = in_holder t c.linked r k n in
      by_equal j k (λ e. or_left _ _ (eq-eqb j k e)) (λ d. or_right (eqb j k) _ (c.agree j k d a.0 b.0 (a.1 ∙ sym b.1)))))

  -- counts are true
  counts_are : (r : ℕ) → 1 ≤ r → r ≤ length t.resources → counts_right (words t) t r ≡ true
  unfolding counts_right
  counts_are r p q =
      all_modes_intro (λ m. eqb (word_in (words t) (of_resource r (count_field m))) (tally t r m))
      (λ m n. eq-eqb _ (tally t r m) (word_read t (of_resource r (count_field m)) (p, q, omega arith) ∙ ap (word_value t) (count_word t r m n)))

module _ (t : Tables) (v : Valid t) where
  state_is : state_right (words t) (slots t) t ≡ true
  unfolding state_right
  state_is =
      let a = each_intro (resource_right (words t) (slots t) t) (resources_in (words t)) (λ r p q. resource_is t v.core (λ s. (v.settled s).peopled) r p (resources_sized t v.core r q)) in
      let b = each_intro (lock_right t) (locks_in (words t)) (λ k p q. lock_is t v.core k p (locks_sized t v.core k q)) in
      let d = each_intro (λ k. linked_right (words t) t blocked k && linked_right (words t) t notices k) (locks_in (words t)) (λ k p q. links_are t v.core k p (locks_sized t v.core k q)) in
      let e = each_intro (λ r. holders_compatible t r && no_grantable_head t r) (resources_in (words t)) (λ r p q. and_intro _ _ (compatible_is t v.core r) (idle_no_head t v.core r (v.settled r).still)) in
      let f = each_intro (counts_right (words t) t) (resources_in (words t)) (λ r p q. counts_are t v.core r p (resources_sized t v.core r q)) in
      and_intro _ _ (and_intro _ _ (and_intro _ _ (and_intro _ _ a b) d) e) f

  pub valid_sound : sound (words t) (slots t) ≡ true
  unfolding sound
  valid_sound =
      and_intro _ _ (and_intro _ _ (and_intro _ _ (and_intro _ _ (sizes t v.core) (zeros t v.core)) (indices t v.core)) (endings t v.core))
      (rw (tables_read t (valid_readable t v)) state_is)

-- EXACTLY. Sound words and slots are the written form of a valid state, and of one only
pub record Writes (ws ss : List ℕ) (t : Tables) : Type 0 where
  pub valid : Valid t
  pub is : ws ≡ words t
  pub slots_are : ss ≡ slots t

pub sound_written : (ws ss : List ℕ) → sound ws ss ≡ true → Writes ws ss (read ws ss)
sound_written ws ss h = record { valid = sound_valid ws ss h; is = sound_words ws ss h; slots_are = sound_slots ws ss h }

-- so what holds of the written form of every valid state holds of all sound words and slots
pub for_sound : (P : List ℕ → List ℕ → Type 0) → ((t : Tables) → Valid t → P (words t) (slots t)) → (ws ss : List ℕ) → sound ws ss ≡ true → P ws ss
for_sound P h ws ss s = go (read ws ss) (sound_written ws ss s)
  where
    go : (t : Tables) → Writes ws ss t → P ws ss
    go t w = rw (w.is, w.slots_are) (h t w.valid)

pub written_once : (t u : Tables) → Valid t → Valid u → words t ≡ words u → slots t ≡ slots u → t ≡ u
written_once t u v w p q = sym (tables_read t (valid_readable t v)) ∙ ap₂ read p q ∙ tables_read u (valid_readable u w)
