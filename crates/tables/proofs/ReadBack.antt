-- What is read back from the words and slots of a state is the state.
use mathlib.Core.Path.{◌≡◌, sym, ◌∙◌, ap, ap₂, subst}
use mathlib.Core.List.{List, ◌++◌, map, append_assoc}
use Prim.Native.Nat.{ℕ, zero, suc, ◌+◌, ◌-◌, ◌*◌, ◌<◌, ◌≤◌}
use native.Mathlib.Omega.{arith}
use native.Mathlib.Nat.{add_comm}
use native.Mathlib.Numerals.{add-one}
use lib.ListN.{get_or, length, take, drop, replicate, length-append, length-replicate}
use lib.Seq.{take-append_seam, take_at, drop_at}
use Rattle.tables.specs.Lists.{from}
use Rattle.tables.specs.State.{Resource, Tables, name_width, value_width, no_lock, no_resource, lock, resource, grants, converts, waits, free_locks, denied, blocked, notices, queue, Chain, free_resources, of_locks, chain_of}
use Rattle.tables.specs.Grants.{tally}
use Rattle.tables.specs.Layout.{resource_width, lock_width, Address, of_header, of_resource, of_lock, place, cell, link, content, words, slot_width, slot, slots, word_in, follow, most, read_chain, read_lock, slot_in, read_resource, read}
use Rattle.tables.proofs.Blocks.{drop_blocks, tabulated}
use Rattle.tables.proofs.Links.{each_map, few}
use Rattle.tables.specs.Threads.{In, Present}
use Rattle.tables.proofs.Chains.{spot}
use Rattle.tables.specs.Threads.{Stands, Threaded}
use Rattle.tables.proofs.WordChanges.{no_zero, read_word, read_word_with, words_true}
use Rattle.tables.proofs.ChainWalk.{follow_leads, words_lead_with}
use Rattle.tables.specs.Stores.{Counts, content_with, words_with}

pub record Readable (t : Tables) : Type 0 where
  pub chains : (c : Chain) → Present t c → Threaded t c
  pub names : (r : ℕ) → length (resource t r).name ≤ name_width
  pub values : (r : ℕ) → length (resource t r).value ≡ value_width

-- what a slot holds
module _ (x : Resource) (name_fits : length x.name ≤ name_width) (value_fits : length x.value ≡ value_width) where
  pub slot_length : length (slot x) ≡ slot_width
  unfolding slot
  slot_length = simp (length-append, length-replicate) (omega arith)

  name_read : take (length x.name) (slot x) ≡ x.name
  unfolding slot
  name_read = take-append_seam x.name _

  value_read : drop name_width (slot x) ≡ x.value
  unfolding slot
  value_read =
      let zeros : List ℕ = replicate (name_width - length x.name) 0 in
      let wide : length (x.name ++ zeros) ≡ name_width = simp (length-append, length-replicate) (omega arith) in
      ap (drop name_width) (sym (append_assoc x.name zeros x.value)) ∙ drop_at (x.name ++ zeros) x.value name_width wide

module _ (t : Tables) where
  link_most : (c : Chain) (k : ℕ) → In t (link c k) → k ≤ most (length t.resources) (length t.locks) c
  link_most free_resources k i = i.1
  link_most (of_locks free_locks) k i = i.1
  link_most (of_locks denied) k i = i.1
  link_most (of_locks blocked) k i = i.1
  link_most (of_locks notices) k i = i.1
  link_most (of_locks (queue r q)) k i = i.1

  pub stands_most : (c : Chain) (k : ℕ) → Stands t c k → (1 ≤ k) × (k ≤ most (length t.resources) (length t.locks) c)
  stands_most c zero s = absurd (omega (arith, s.0))
  stands_most c (suc k) s = (s.0, link_most c (suc k) s.1.inside)

  pub chain_most : (c : Chain) → Threaded t c → length (chain_of c t) ≤ most (length t.resources) (length t.locks) c
  chain_most c h = few _ (chain_of c t) h.distinct (each_map (Stands t c) _ (stands_most c) (chain_of c t) h.members)

module _ (ct : Counts) (t : Tables) where
  pub resources_word_with : get_or (words_with ct t) 0 0 ≡ length t.resources
  resources_word_with = read_word_with ct t (of_header 0) (omega arith)

  pub locks_word_with : get_or (words_with ct t) 1 0 ≡ length t.locks
  locks_word_with = read_word_with ct t (of_header 1) (omega arith)

  word_read_with : (a : Address) → In t a → word_in (words_with ct t) a ≡ content_with ct t a
  word_read_with a h = ap (λ (r : ℕ). get_or (words_with ct t) (place r a) 0) resources_word_with ∙ read_word_with ct t a h

  chain_read_with : (c : Chain) → Threaded t c → read_chain (words_with ct t) c ≡ chain_of c t
  unfolding read_chain
  chain_read_with c h =
      ap₂ (λ (r l : ℕ). follow (λ k. get_or (words_with ct t) (place r (cell c k)) 0) (most r l c) (get_or (words_with ct t) (place r (cell c 0)) 0)) resources_word_with locks_word_with
      ∙ follow_leads (λ k. get_or (words_with ct t) (spot t (cell c k)) 0) _ 0 (chain_of c t) (words_lead_with ct t c h) (no_zero t c h) (chain_most t c h)

  pub lock_read_with : (k : ℕ) → 1 ≤ k → k ≤ length t.locks → read_lock (words_with ct t) k ≡ lock t k
  unfolding read_lock
  lock_read_with k p q =
      let at_field : (f : ℕ) → f < lock_width → word_in (words_with ct t) (of_lock k f) ≡ content_with ct t (of_lock k f) = λ f m. word_read_with (of_lock k f) (p, q, m) in
      λ i. record {
        resource = at_field 3 (omega arith) i;
        client = at_field 4 (omega arith) i;
        state = at_field 5 (omega arith) i;
        held = at_field 6 (omega arith) i;
        asked = at_field 7 (omega arith) i;
        completion = at_field 8 (omega arith) i;
        mark = at_field 9 (omega arith) i;
      }

module _ (t : Tables) where
  pub resources_word : get_or (words t) 0 0 ≡ length t.resources
  resources_word = rw (← (words_true t)) (resources_word_with (tally t) t)

  pub locks_word : get_or (words t) 1 0 ≡ length t.locks
  locks_word = rw (← (words_true t)) (locks_word_with (tally t) t)

  pub word_read : (a : Address) → In t a → word_in (words t) a ≡ content t a
  word_read a h = ap (λ (r : ℕ). get_or (words t) (place r a) 0) resources_word ∙ read_word t a h

  pub chain_read : (c : Chain) → Threaded t c → read_chain (words t) c ≡ chain_of c t
  chain_read = subst (λ (ws : List ℕ). (c : Chain) → Threaded t c → read_chain ws c ≡ chain_of c t) (words_true t) (chain_read_with (tally t) t)

  pub lock_read : (k : ℕ) → 1 ≤ k → k ≤ length t.locks → read_lock (words t) k ≡ lock t k
  lock_read = subst (λ (ws : List ℕ). (k : ℕ) → 1 ≤ k → k ≤ length t.locks → read_lock ws k ≡ lock t k) (words_true t) (lock_read_with (tally t) t)

  module _ (h : Readable t) where
    -- the slot of a resource stands in its place
    slot_before : (r : ℕ) → 1 ≤ r → r ≤ length t.resources → (rest : List ℕ) × (drop (slot_width * (r - 1)) (slots t) ≡ slot (resource t r) ++ rest)
    unfolding slots
    slot_before r p q =
        let e : 1 + (r - 1) ≡ r = omega arith in
        rw e at (drop_blocks slot_width (λ r. slot (resource t r)) (λ r. slot_length (resource t r) (h.names r) (h.values r)) (length t.resources) 1 (r - 1) (omega arith))

    slot_cut : (r : ℕ) (rest : List ℕ) → drop (slot_width * (r - 1)) (slots t) ≡ slot (resource t r) ++ rest → slot_in (slots t) r ≡ slot (resource t r)
    unfolding slot_in
    slot_cut r rest e = ap (take slot_width) e ∙ take_at (slot (resource t r)) rest slot_width (slot_length (resource t r) (h.names r) (h.values r))

    pub slot_read : (r : ℕ) → 1 ≤ r → r ≤ length t.resources → slot_in (slots t) r ≡ slot (resource t r)
    slot_read r p q = slot_cut r (slot_before r p q).0 (slot_before r p q).1

    pub resource_read : (r : ℕ) → 1 ≤ r → r ≤ length t.resources → read_resource (words t) (slots t) r ≡ resource t r
    unfolding read_resource
    resource_read r p q =
        let at_field : (f : ℕ) → f < resource_width → word_in (words t) (of_resource r f) ≡ content t (of_resource r f) = λ f m. word_read (of_resource r f) (p, q, m) in
        λ i. record {
          name = (ap₂ take (at_field 4 (omega arith)) (slot_read r p q) ∙ name_read (resource t r) (h.names r) (h.values r)) i;
          value = (ap (drop name_width) (slot_read r p q) ∙ value_read (resource t r) (h.names r) (h.values r)) i;
          valid = at_field 5 (omega arith) i;
          grant = chain_read (of_locks (queue r grants)) (h.chains (of_locks (queue r grants)) (p, q, omega arith)) i;
          convert = chain_read (of_locks (queue r converts)) (h.chains (of_locks (queue r converts)) (p, q, omega arith)) i;
          wait = chain_read (of_locks (queue r waits)) (h.chains (of_locks (queue r waits)) (p, q, omega arith)) i;
        }

    pub tables_read : read (words t) (slots t) ≡ t
    unfolding read resource lock
    tables_read = λ i. record {
      resources =
          (ap (λ (n : ℕ). map (read_resource (words t) (slots t)) (from 1 n)) resources_word
          ∙ tabulated (read_resource (words t) (slots t)) no_resource 1 t.resources (λ j p. resource_read (1 + j) (omega arith) (omega arith) ∙ ap (resource t) (add_comm 1 j ∙ add-one j))) i;
      locks =
          (ap (λ (n : ℕ). map (read_lock (words t)) (from 1 n)) locks_word
          ∙ tabulated (read_lock (words t)) no_lock 1 t.locks (λ j p. lock_read (1 + j) (omega arith) (omega arith) ∙ ap (lock t) (add_comm 1 j ∙ add-one j))) i;
      free_resources = chain_read free_resources (h.chains free_resources (omega arith)) i;
      free_locks = chain_read (of_locks free_locks) (h.chains (of_locks free_locks) (omega arith)) i;
      denied = chain_read (of_locks denied) (h.chains (of_locks denied) (omega arith)) i;
      blocked = chain_read (of_locks blocked) (h.chains (of_locks blocked) (omega arith)) i;
      notices = chain_read (of_locks notices) (h.chains (of_locks notices) (omega arith)) i;
    }
