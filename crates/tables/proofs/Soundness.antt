-- Sound words and slots are the written form of a valid state: of the one that is read from them.
use mathlib.Core.Path.{◌≡◌, refl, sym, ◌∙◌, ap, ap₂}
use mathlib.Core.Logic.{◌≢◌}
use mathlib.Core.Bool.{Bool, true, false, ◌&&◌, ◌||◌}
use mathlib.Core.List.{List, [], ◌∷◌}
use Prim.Native.Nat.{ℕ, zero, suc, ◌<◌, ◌≤◌}
use native.Mathlib.Omega.{arith}
use lib.ListN.{length, drop, length-drop}
use lib.Dec.{eqb}
use borrow.Author.Tests.{eqb-true, eq-eqb, ne_eqb, leb-true, not-true}
use Rattle.modes.specs.Modes.{compatible}
use Rattle.tables.specs.Lists.{within, count, bit, all, null, next}
use Rattle.tables.specs.State.{Lock, name_width, value_width, no_value, no_resource, lock, resource, holds, Queue, grants, converts, waits, LockChain, free_locks, denied, blocked, notices, queue, queue_of, Chain, free_resources, of_locks, chain, chain_of, home_at, belongs}
use Rattle.tables.specs.Layout.{resource_width, Address, queue_head, count_field, of_header, of_resource, of_lock, head, word_value, content, by_address, words, slots, resources_in, locks_in, word_in, link_in, read_lock, slot_in, read}
use Rattle.tables.specs.Grants.{holders, empty}
use Rattle.tables.specs.Sound.{free_resource_right, name_unique, used_resource_right, holders_compatible, sound}
use Rattle.tables.proofs.Cases.{by_cases, clash, eqb_same, parts}
use Rattle.tables.proofs.Counts.{within_le, le_within, count_nil, all_at, null_length}
use Rattle.tables.specs.Validity.{used, Place, LockOk, ResourceOk, Linked, Core, line, idle, Settled, Valid, as_free}
use Rattle.tables.proofs.StateCases.{StateOk, ok_numbered, ok_named}
use Rattle.tables.proofs.Valid.{ok_at, holder_place, absent, absent_lock, used_within}
use Rattle.tables.proofs.ChainMembers.{holder_in, no_head_idle}
use Rattle.tables.specs.Threads.{Each}
use Rattle.tables.proofs.Links.{count_absent, absent_count, counted_on, each_absent, next_absent}
use Rattle.tables.specs.Threads.{Within}
use Rattle.tables.proofs.Grid.{is_written}
use Rattle.tables.proofs.ReadState.{resources_read, locks_read, lock_of, zeros_are, zero_drop, slot_is, slots_are, used_in}
use Rattle.tables.proofs.Tallies.{count_word}
use Rattle.tables.proofs.Conditions.{names_differ, resources_low, resources_high, locks_low, locks_high, words_sized, slots_sized, header_zero, counts_true, chain_inside, chain_links, by_use, name_short, name_zeros, slot_wide, name_is, name_length, value_is, valid_is, fields_tested, stands_as, blocked_off, notice_off, compatible_tested, heads_tested}
use Rattle.tables.proofs.Fields.{fields_are}

nobody_zero : (n : ℕ) (xs : List ℕ) → Each (λ k. (1 ≤ k) × (k ≤ n)) xs → (k : ℕ) → within n k ≡ false → count k xs ≡ 0
nobody_zero n xs e k w = absent_count k xs (each_absent (λ k. (1 ≤ k) × (k ≤ n)) xs k e (λ m. clash (within n k) (le_within n k m.0 m.1) w))

module _ (ws ss : List ℕ) (h : sound ws ss ≡ true) where
  -- THE STATE IS VALID. Its locks
  lock_is : (k : ℕ) → LockOk (used (read ws ss)) (lock (read ws ss) k)
  lock_is k =
      by_cases (within (locks_in ws) k)
      (λ w. let m = within_le (locks_in ws) k w in ok_named (fields_are (read ws ss) (lock (read ws ss) k) (lock (read ws ss) k).state refl (fields_tested ws ss h k m.0 m.1)))
      (λ w. rw (absent_lock (read ws ss) k (rw (locks_read ws ss) w)) (as_free refl))

  -- its chains
  counted : (c : LockChain) → Within (resources_in ws) (locks_in ws) (head (of_locks c)) → (k : ℕ) → count k (chain (read ws ss) c) ≡ bit (within (locks_in ws) k && belongs c (lock (read ws ss) k))
  counted c i k =
      by_cases (within (locks_in ws) k)
      (λ w. let m = within_le (locks_in ws) k w in rw w (stands_as ws ss h k m.0 m.1 c i))
      (λ w. rw w (nobody_zero (locks_in ws) (chain (read ws ss) c) (chain_inside ws ss h (of_locks c) i) k w))

  -- a chain of a resource that there is, or is not
  queue_is : (s r : ℕ) (q : Queue) → ((k : ℕ) → eqb (lock (read ws ss) k).state s ≡ true → used (read ws ss) (lock (read ws ss) k).resource ≡ true) →
      queue_of q no_resource ≡ [] → queue_head q < resource_width → ((l : Lock) → belongs (queue r q) l ≡ (eqb l.state s && eqb l.resource r)) →
      (k : ℕ) → count k (chain (read ws ss) (queue r q)) ≡ bit (within (locks_in ws) k && belongs (queue r q) (lock (read ws ss) k))
  queue_is s r q stands none f b k =
      by_cases (within (resources_in ws) r)
      (λ w. let m = within_le (resources_in ws) r w in counted (queue r q) (m.0, m.1, f) k)
      (λ w. rw (absent (read ws ss) r (rw (resources_read ws ss) w), none, count_nil k, b (lock (read ws ss) k)) (nobody w))
    where
      nobody : within (resources_in ws) r ≡ false → 0 ≡ bit (within (locks_in ws) k && (eqb (lock (read ws ss) k).state s && eqb (lock (read ws ss) k).resource r))
      nobody w =
          by_cases (within (locks_in ws) k && (eqb (lock (read ws ss) k).state s && eqb (lock (read ws ss) k).resource r))
          (λ y. let a : eqb (lock (read ws ss) k).state s ≡ true = search parts in
          let e : (lock (read ws ss) k).resource ≡ r = eqb-true (lock (read ws ss) k).resource r (search parts) in
          clash (within (resources_in ws) r) (rw (resources_read ws ss) at (used_within (read ws ss) r (rw e at (stands k a)))) w)
          (λ y. rw y)

  linked_is : Linked (read ws ss)
  linked_is c k = rw (locks_read ws ss) (go c)
    where
      go : (c : LockChain) → count k (chain (read ws ss) c) ≡ bit (within (locks_in ws) k && belongs c (lock (read ws ss) k))
      go free_locks = counted free_locks (omega arith) k
      go denied = counted denied (omega arith) k
      go blocked = counted blocked (omega arith) k
      go notices = counted notices (omega arith) k
      go (queue r grants) = queue_is 1 r grants (λ j e. (ok_at (used (read ws ss)) (lock (read ws ss) j) 1 (lock_is j) e).place.in_use) refl (omega arith) (λ l. refl) k
      go (queue r converts) = queue_is 2 r converts (λ j e. (ok_at (used (read ws ss)) (lock (read ws ss) j) 2 (lock_is j) e).place.in_use) refl (omega arith) (λ l. refl) k
      go (queue r waits) = queue_is 3 r waits (λ j e. (ok_at (used (read ws ss)) (lock (read ws ss) j) 3 (lock_is j) e).place.in_use) refl (omega arith) (λ l. refl) k

  -- its resources
  module _ (r : ℕ) (low : 1 ≤ r) (high : r ≤ resources_in ws) where
    free_name : word_in ws (of_resource r 4) ≡ 0 → null (resource (read ws ss) r).name ≡ true
    free_name e = null_length (resource (read ws ss) r).name ∙ eq-eqb _ 0 (name_length ws ss h r low high ∙ e)

    used_name : 1 ≤ word_in ws (of_resource r 4) → null (resource (read ws ss) r).name ≡ false
    used_name e = null_length (resource (read ws ss) r).name ∙ ne_eqb (length (resource (read ws ss) r).name) 0 (omega (arith, name_length ws ss h r low high))

    spare_is : count r (read ws ss).free_resources ≡ bit (null (resource (read ws ss) r).name)
    unfolding free_resource_right used_resource_right
    spare_is =
        by_use ws ss h r low high
        (λ e z. rw (free_name e) (eqb-true _ 1 (search parts depth 20)))
        (λ e z. rw (used_name e) (eqb-true _ 0 (search parts depth 20)))

    resource_is : ResourceOk (resource (read ws ss) r)
    unfolding free_resource_right used_resource_right
    resource_is =
        record {
          name_length = rw (name_length ws ss h r low high) (name_short ws ss h r low high);
          value_length = rw (value_is ws ss h r low high, length-drop, slot_wide ws ss h r low high);
          flag = rw (valid_is ws ss h r low high) (by_use ws ss h r low high
              (λ e z. omega (arith, eqb-true (word_in ws (of_resource r 5)) 0 (search parts depth 20)))
              (λ e z. leb-true (word_in ws (of_resource r 5)) 1 (search parts depth 20)));
          unused = λ n. valid_is ws ss h r low high ∙ by_use ws ss h r low high
              (λ e z. eqb-true (word_in ws (of_resource r 5)) 0 (search parts depth 20))
              (λ e z. clash (null (resource (read ws ss) r).name) (ap null n) (used_name e));
          unused_value = λ n. value_is ws ss h r low high ∙ by_use ws ss h r low high
              (λ e z. unfold no_value in zeros_are (drop name_width (slot_in ss r)) value_width (zero_drop name_width (slot_in ss r) (search parts depth 20)) (rw (length-drop, slot_wide ws ss h r low high)))
              (λ e z. clash (null (resource (read ws ss) r).name) (ap null n) (used_name e));
        }

    unique_is : null (resource (read ws ss) r).name ≡ false → name_unique (read ws ss) r ≡ true
    unfolding used_resource_right
    unique_is n = by_use ws ss h r low high (λ e z. clash (null (resource (read ws ss) r).name) (free_name e) n) (λ e z. search parts depth 20)

    peopled_is : null (resource (read ws ss) r).name ≡ false → empty (resource (read ws ss) r) ≡ false
    unfolding used_resource_right
    peopled_is n =
        by_use ws ss h r low high
        (λ e z. clash (null (resource (read ws ss) r).name) (free_name e) n)
        (λ e z. not-true (empty (resource (read ws ss) r)) (search parts depth 20))

  -- what holds of each resource that there is, and of no resource, holds of each number
  each_number : (P : ℕ → Type 0) → ((r : ℕ) → 1 ≤ r → r ≤ resources_in ws → P r) → ((r : ℕ) → within (resources_in ws) r ≡ false → P r) → (r : ℕ) → P r
  each_number P f g r = by_cases (within (resources_in ws) r) (λ w. let m = within_le (resources_in ws) r w in f r m.0 m.1) (g r)

  gone : (r : ℕ) → within (resources_in ws) r ≡ false → resource (read ws ss) r ≡ no_resource
  gone r w = absent (read ws ss) r (rw (resources_read ws ss) w)

  named : (r : ℕ) → used (read ws ss) r ≡ true → null (resource (read ws ss) r).name ≡ false
  unfolding used
  named r u = not-true (null (resource (read ws ss) r).name) u

  spares_are : (r : ℕ) → count r (read ws ss).free_resources ≡ bit (within (resources_in ws) r && null (resource (read ws ss) r).name)
  spares_are =
      each_number (λ r. count r (read ws ss).free_resources ≡ bit (within (resources_in ws) r && null (resource (read ws ss) r).name))
      (λ r p q. rw (le_within (resources_in ws) r p q) (spare_is r p q))
      (λ r w. rw w (nobody_zero (resources_in ws) (read ws ss).free_resources (chain_inside ws ss h free_resources (omega arith)) r w))

  resources_are : (r : ℕ) → ResourceOk (resource (read ws ss) r)
  resources_are =
      each_number (λ r. ResourceOk (resource (read ws ss) r)) resource_is
      (λ r w. rw (gone r w) (record { name_length = omega arith; value_length = unfold no_value in refl; flag = omega arith; unused = λ e. refl; unused_value = λ e. refl }))

  names_are : (r s : ℕ) → r ≢ s → used (read ws ss) r ≡ true → (resource (read ws ss) r).name ≢ (resource (read ws ss) s).name
  names_are r s n u q =
      let i = used_in ws ss r u in
      by_cases (within (resources_in ws) s)
      (λ w. let m = within_le (resources_in ws) s w in
      names_differ (read ws ss) r (unique_is r i.0 i.1 (named r u)) s m.0 (rw (resources_read ws ss) m.1) (λ e. n (sym e)) (sym q))
      (λ w. clash (null (resource (read ws ss) r).name) (rw (q, gone s w)) (named r u))

  agree_is : (j k : ℕ) → j ≢ k → holds (lock (read ws ss) j) ≡ true → holds (lock (read ws ss) k) ≡ true → (lock (read ws ss) j).resource ≡ (lock (read ws ss) k).resource →
      compatible (lock (read ws ss) j).held (lock (read ws ss) k).held ≡ true
  unfolding holders_compatible
  agree_is j k n a b e =
      let r = (lock (read ws ss) k).resource in
      let pair : ℕ → ℕ → Bool = λ j k. eqb j k || compatible (lock (read ws ss) j).held (lock (read ws ss) k).held in
      let i = used_in ws ss r (holder_place (used (read ws ss)) (lock (read ws ss) k) (lock_is k) b).in_use in
      let first = all_at (λ j. all (pair j) (holders (read ws ss) r)) (holders (read ws ss) r) (compatible_tested ws ss h r i.0 i.1) j (holder_in (read ws ss) linked_is r j a e) in
      rw (ne_eqb j k n) at (all_at (pair j) (holders (read ws ss) r) first k (holder_in (read ws ss) linked_is r k b refl))

  core_is : Core (read ws ss)
  core_is =
      record {
        resources_low = rw (resources_read ws ss) (resources_low ws ss h);
        resources_high = rw (resources_read ws ss) (resources_high ws ss h);
        locks_low = rw (locks_read ws ss) (locks_low ws ss h);
        locks_high = rw (locks_read ws ss) (locks_high ws ss h);
        linked = linked_is;
        spare = rw (resources_read ws ss) spares_are;
        lock_ok = lock_is;
        resource_ok = resources_are;
        names = names_are;
        agree = agree_is;
      }

  pub sound_valid : Valid (read ws ss)
  unfolding line idle used
  sound_valid =
      record {
        core = core_is;
        settled =
            each_number (λ r. Settled (read ws ss) r)
            (λ r p q. record { still = no_head_idle (read ws ss) core_is r (heads_tested ws ss h r p q); peopled = λ u. peopled_is r p q (named r u) })
            (λ r w. record { still = rw (gone r w); peopled = λ u. clash false (rw (gone r w) at u) refl });
      }

  -- THE SLOTS ARE ITS SLOTS
  pub sound_slots : ss ≡ slots (read ws ss)
  sound_slots =
      slots_are ws ss (slots_sized ws ss h)
      (λ r p q. slot_is ws ss (slots_sized ws ss h) r (word_in ws (of_resource r 4)) p q (name_short ws ss h r p q) (name_zeros ws ss h r p q) (resource (read ws ss) r) (name_is ws ss h r p q) (value_is ws ss h r p q))

  -- THE WORDS ARE ITS WORDS. The link of a record on a chain that it stands on; and of one that it does not
  on_link : (c : Chain) → Within (resources_in ws) (locks_in ws) (head c) → (k : ℕ) → count k (chain_of c (read ws ss)) ≡ 1 → link_in ws c k ≡ next k (0 ∷ chain_of c (read ws ss))
  on_link c i k e = chain_links ws ss h c i k (λ a. counted_on k (chain_of c (read ws ss)) (omega arith) a.1)

  head_link : (c : Chain) → Within (resources_in ws) (locks_in ws) (head c) → link_in ws c 0 ≡ next 0 (0 ∷ chain_of c (read ws ss))
  head_link c i = chain_links ws ss h c i 0 (λ a. a.0 refl)

  off_link : (k : ℕ) (xs : List ℕ) → 1 ≤ k → count k xs ≡ 0 → next k (0 ∷ xs) ≡ 0
  off_link k xs p e = next_absent k (0 ∷ xs) (omega arith, count_absent k xs e)

  free_link : (r : ℕ) → suc r ≤ resources_in ws → word_in ws (of_resource (suc r) 0) ≡ next (suc r) (0 ∷ (read ws ss).free_resources)
  unfolding free_resource_right used_resource_right
  free_link r q =
      by_use ws ss h (suc r) (omega arith) q
      (λ e z. on_link free_resources (omega arith) (suc r) (eqb-true _ 1 (search parts depth 20)))
      (λ e z. eqb-true (word_in ws (of_resource (suc r) 0)) 0 (search parts depth 20) ∙ sym (off_link (suc r) (read ws ss).free_resources (omega arith) (eqb-true _ 0 (search parts depth 20))))

  module _ (k : ℕ) (high : suc k ≤ locks_in ws) where
    stands : (c : LockChain) → Within (resources_in ws) (locks_in ws) (head (of_locks c)) → belongs c (lock (read ws ss) (suc k)) ≡ true → link_in ws (of_locks c) (suc k) ≡ next (suc k) (0 ∷ chain (read ws ss) c)
    stands c i b = on_link (of_locks c) i (suc k) (stands_as ws ss h (suc k) (omega arith) high c i ∙ (rw b))

    housed : Place (used (read ws ss)) (lock (read ws ss) (suc k)) → (1 ≤ (lock (read ws ss) (suc k)).resource) × ((lock (read ws ss) (suc k)).resource ≤ resources_in ws)
    housed p = used_in ws ss (lock (read ws ss) (suc k)).resource p.in_use

    home_link : (s : ℕ) → (lock (read ws ss) (suc k)).state ≡ s → StateOk (used (read ws ss)) (lock (read ws ss) (suc k)) s →
        word_in ws (of_lock (suc k) 0) ≡ next (suc k) (0 ∷ chain (read ws ss) (home_at s (lock (read ws ss) (suc k)).resource))
    home_link zero e ok = stands free_locks (omega arith) (rw e)
    home_link (suc zero) e ok = let i = housed ok.place in stands (queue _ grants) (i.0, i.1, omega arith) (rw (e, eqb_same))
    home_link (suc (suc zero)) e ok = let i = housed ok.place in stands (queue _ converts) (i.0, i.1, omega arith) (rw (e, eqb_same))
    home_link (suc (suc (suc zero))) e ok = let i = housed ok.place in stands (queue _ waits) (i.0, i.1, omega arith) (rw (e, eqb_same))
    home_link (suc (suc (suc (suc zero)))) e ok = stands denied (omega arith) (rw e)
    home_link (suc (suc (suc (suc (suc n))))) e ok = absurd ok

    side_link : (c : LockChain) → Within (resources_in ws) (locks_in ws) (head (of_locks c)) → (belongs c (lock (read ws ss) (suc k)) ≡ false → link_in ws (of_locks c) (suc k) ≡ 0) →
        link_in ws (of_locks c) (suc k) ≡ next (suc k) (0 ∷ chain (read ws ss) c)
    side_link c i z =
        by_cases (belongs c (lock (read ws ss) (suc k)))
        (stands c i)
        (λ b. z b ∙ sym (off_link (suc k) (chain (read ws ss) c) (omega arith) (stands_as ws ss h (suc k) (omega arith) high c i ∙ (rw b))))

    field : (f : Lock → ℕ) → f (read_lock ws (suc k)) ≡ f (lock (read ws ss) (suc k))
    field f = sym (ap f (lock_of ws ss (suc k) (omega arith) high))

  word_is : (a : Address) → Within (resources_in ws) (locks_in ws) a → word_in ws a ≡ content (read ws ss) a
  unfolding read_lock
  word_is (of_header zero) i = sym (resources_read ws ss)
  word_is (of_header (suc zero)) i = sym (locks_read ws ss)
  word_is (of_header (suc (suc zero))) i = head_link free_resources i
  word_is (of_header (suc (suc (suc zero)))) i = head_link (of_locks free_locks) i
  word_is (of_header (suc (suc (suc (suc zero))))) i = head_link (of_locks denied) i
  word_is (of_header (suc (suc (suc (suc (suc zero)))))) i = head_link (of_locks blocked) i
  word_is (of_header (suc (suc (suc (suc (suc (suc zero))))))) i = head_link (of_locks notices) i
  word_is (of_header (suc (suc (suc (suc (suc (suc (suc zero)))))))) i = header_zero ws ss h
  word_is (of_header (suc (suc (suc (suc (suc (suc (suc (suc f))))))))) i = absurd (omega arith)
  word_is (of_resource zero f) i = absurd (omega arith)
  word_is (of_resource (suc r) zero) i = free_link r i.1
  word_is (of_resource (suc r) (suc zero)) i = head_link (of_locks (queue (suc r) grants)) i
  word_is (of_resource (suc r) (suc (suc zero))) i = head_link (of_locks (queue (suc r) converts)) i
  word_is (of_resource (suc r) (suc (suc (suc zero)))) i = head_link (of_locks (queue (suc r) waits)) i
  word_is (of_resource (suc r) (suc (suc (suc (suc zero))))) i = sym (name_length ws ss h (suc r) i.0 i.1)
  word_is (of_resource (suc r) (suc (suc (suc (suc (suc zero)))))) i = sym (valid_is ws ss h (suc r) i.0 i.1)
  word_is (of_resource (suc r) (suc (suc (suc (suc (suc (suc f))))))) i =
      let e : count_field f ≡ suc (suc (suc (suc (suc (suc f))))) = omega arith in
      rw e at (counts_true ws ss h (suc r) i.0 i.1 f (omega (arith, i.2)) ∙ sym (ap (word_value (read ws ss)) (count_word (read ws ss) (suc r) f (omega (arith, i.2)))))
  word_is (of_lock zero f) i = absurd (omega arith)
  word_is (of_lock (suc k) zero) i = home_link k i.1 (lock (read ws ss) (suc k)).state refl (ok_numbered (lock_is (suc k)))
  word_is (of_lock (suc k) (suc zero)) i = side_link k i.1 blocked (omega arith) (blocked_off ws ss h (suc k) i.0 i.1)
  word_is (of_lock (suc k) (suc (suc zero))) i = side_link k i.1 notices (omega arith) (notice_off ws ss h (suc k) i.0 i.1)
  word_is (of_lock (suc k) (suc (suc (suc zero)))) i = field k i.1 (λ (l : Lock). l.resource)
  word_is (of_lock (suc k) (suc (suc (suc (suc zero))))) i = field k i.1 (λ (l : Lock). l.client)
  word_is (of_lock (suc k) (suc (suc (suc (suc (suc zero)))))) i = field k i.1 (λ (l : Lock). l.state)
  word_is (of_lock (suc k) (suc (suc (suc (suc (suc (suc zero))))))) i = field k i.1 (λ (l : Lock). l.held)
  word_is (of_lock (suc k) (suc (suc (suc (suc (suc (suc (suc zero)))))))) i = field k i.1 (λ (l : Lock). l.asked)
  word_is (of_lock (suc k) (suc (suc (suc (suc (suc (suc (suc (suc zero))))))))) i = field k i.1 (λ (l : Lock). l.completion)
  word_is (of_lock (suc k) (suc (suc (suc (suc (suc (suc (suc (suc (suc zero)))))))))) i = field k i.1 (λ (l : Lock). l.mark)
  word_is (of_lock (suc k) (suc (suc (suc (suc (suc (suc (suc (suc (suc (suc f))))))))))) i = absurd (omega arith)

  pub sound_words : ws ≡ words (read ws ss)
  unfolding words
  sound_words =
      is_written (resources_in ws) (locks_in ws) (content (read ws ss)) ws (words_sized ws ss h) word_is
      ∙ sym (ap₂ (λ (r l : ℕ). by_address r l (content (read ws ss))) (resources_read ws ss) (locks_read ws ss))
