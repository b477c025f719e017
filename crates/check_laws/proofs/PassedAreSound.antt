-- Tables that pass the check are sound.
use mathlib.Core.Path.{◌≡◌, refl, sym, ◌∙◌}
use mathlib.Core.Bool.{true, false, ◌&&◌, ◌||◌}
use mathlib.Core.List.{List, [], ◌∷◌}
use Prim.Native.Nat.{ℕ, zero, suc, ◌*◌, ◌≤◌}
use native.Mathlib.Omega.{arith}
use lib.ListN.{length}
use lib.Dec.{eqb, leb}
use borrow.Author.Tests.{not-true, eqb-true, eq-eqb, leb-true, le-leb}
use Rattle.modes.proofs.Laws.{all_modes_intro}
use Rattle.tables.specs.Lists.{count, bit, all, from}
use Rattle.tables.specs.State.{most_locks, blocked_lock, noticed, Queue, grants, converts, waits, LockChain, free_locks, denied, blocked, notices, queue, free_resources, of_locks, chain, belongs}
use Rattle.tables.specs.Layout.{of_header, of_resource, of_lock, slot_width, resources_in, locks_in, word_in, link_in, read_chain, read_lock, read, count_in}
use Rattle.tables.specs.Grants.{tally, no_grantable_head}
use Rattle.tables.specs.Sound.{sizes_right, zeros_right, resource_index, lock_index, indices_right, chain_ends, chains_end, resource_right, stands_right, home_right, fields_right, lock_right, linked_right, holders_compatible, counts_right, state_right, sound}
use Rattle.tables.proofs.Cases.{by_cases, eqb_same, and_left, and_intro, parts}
use Rattle.tables.specs.Validity.{used, Place}
use Rattle.tables.proofs.StateCases.{StateOk}
use Rattle.tables.proofs.ReadState.{resources_read, lock_of, used_in}
use Rattle.tables.proofs.Conditions.{each_at, each_intro}
use Rattle.tables.proofs.Fields.{fields_are}
use Rattle.tables.proofs.Valid.{modes_low, housed}
use Rattle.table_names.specs.Names.{named, names_differ}
use Rattle.check_laws.specs.Check.{row_in, used_row, row_fine, resource_fine, on_named, fields_fine, links_fine, lock_fine, home_on, check}
use Rattle.check_laws.proofs.ChainSteps.{first_low, links_low}
use Rattle.check_laws.proofs.ResourceWalk.{link_of, head_of, queue_in}
use Rattle.check_laws.proofs.Heads.{home_low, ModesLow, grants_read, converts_read, waits_read, fit_is, heads_are}
use Rattle.check_laws.proofs.TrueCounts.{fine_true}
use Rattle.check_laws.proofs.RecordTests.{fields_same, fine_right, names_unique}
use Rattle.check_laws.proofs.Sides.{side_first, side_link, Spare, Blocked, Noticed, spare_side, blocked_side, notice_side}
use Rattle.check_laws.proofs.Homes.{free_in, denied_in, homes_in, Homes, homes_met}
use Rattle.check_laws.proofs.Once.{state_of, Stands, right_at, each_fine, homes_stand}

module _ (ws ss : List ℕ) (h : check ws ss ≡ true) where
  -- WHAT IS CHECKED
  sizes : sizes_right ws ss ≡ true
  unfolding check
  sizes = search parts depth 20

  header_zero : eqb (word_in ws (of_header 7)) 0 ≡ true
  unfolding check
  header_zero = search parts depth 20

  resources_fine : all (resource_fine ws ss) (from 1 (resources_in ws)) ≡ true
  unfolding check
  resources_fine = search parts depth 20

  spare : Spare ws
  unfolding check
  spare = spare_side ws (search parts depth 20)

  blocked_are : Blocked ws
  unfolding check
  blocked_are = blocked_side ws (search parts depth 20)

  noticed_are : Noticed ws
  unfolding check
  noticed_are = notice_side ws (search parts depth 20)

  some : 1 ≤ locks_in ws
  unfolding sizes_right
  some = let z = sizes in leb-true 1 (locks_in ws) (search parts depth 20)

  few : locks_in ws ≤ most_locks
  unfolding sizes_right
  few = let z = sizes in leb-true (locks_in ws) most_locks (search parts depth 20)

  sized : length ss ≡ slot_width * resources_in ws
  unfolding sizes_right
  sized = let z = sizes in eqb-true (length ss) (slot_width * resources_in ws) (search parts depth 20)

  met : Homes ws × (length (homes_in ws) ≡ locks_in ws)
  unfolding check
  met = homes_met ws (search parts depth 20)

  differ : names_differ ws ss ≡ true
  unfolding check
  differ = search parts depth 20

  stands : (k : ℕ) → 1 ≤ k → k ≤ locks_in ws → Stands ws k
  stands k p q = homes_stand ws met.0 met.1 k p q

  -- a lock's fields
  module _ (k : ℕ) (low : 1 ≤ k) (high : k ≤ locks_in ws) where
    fine : lock_fine ws k ≡ true
    fine = each_fine ws met.0 met.1 k low high

    fields : fields_right (read ws ss) (read_lock ws k) (read_lock ws k).state ≡ true
    unfolding lock_fine
    fields = sym (fields_same ws ss sized (read_lock ws k)) ∙ and_left (fields_fine (on_named ws (read_lock ws k).resource) (read_lock ws k)) _ fine

    ok : StateOk (used (read ws ss)) (read_lock ws k) (read_lock ws k).state
    ok = fields_are (read ws ss) (read_lock ws k) (read_lock ws k).state refl fields

    off_blocked : blocked_lock (read_lock ws k) ≡ false → word_in ws (of_lock k 1) ≡ 0
    unfolding lock_fine links_fine
    off_blocked b =
        let z = fine in
        let either : (blocked_lock (read_lock ws k) || eqb (word_in ws (of_lock k 1)) 0) ≡ true = search parts depth 20 in
        eqb-true (word_in ws (of_lock k 1)) 0 (rw b at either)

    off_notices : noticed (read_lock ws k) ≡ false → word_in ws (of_lock k 2) ≡ 0
    unfolding lock_fine links_fine
    off_notices b =
        let z = fine in
        let either : (noticed (read_lock ws k) || eqb (word_in ws (of_lock k 2)) 0) ≡ true = search parts depth 20 in
        eqb-true (word_in ws (of_lock k 2)) 0 (rw b at either)

  modes : ModesLow ws
  modes k p q = modes_low (used (read ws ss)) (read_lock ws k) (read_lock ws k).state (ok k p q)

  -- 1. WORDS GIVEN AS ZERO, INDICES, CHAINS
  zeros : zeros_right ws ≡ true
  unfolding zeros_right
  zeros = header_zero

  named_bytes : (r : ℕ) → named ws r ≡ true → eqb (word_in ws (of_resource r 4)) 0 ≡ false
  unfolding named
  named_bytes r u = not-true (eqb (word_in ws (of_resource r 4)) 0) u

  resource_link : (r : ℕ) → 1 ≤ r → r ≤ resources_in ws → word_in ws (of_resource r 0) ≤ resources_in ws
  unfolding resource_fine row_fine used_row row_in
  resource_link zero p q = absurd (omega arith)
  resource_link (suc r) p q =
      by_cases (named ws (suc r))
      (λ u. let z = rw (named_bytes (suc r) u) at (each_at (resource_fine ws ss) (resources_in ws) resources_fine (suc r) p q) in
      let e : word_in ws (of_resource (suc r) 0) ≡ 0 = eqb-true (word_in ws (of_resource (suc r) 0)) 0 (search parts depth 20) in omega arith)
      (λ u. side_link (link_in ws free_resources) _ (resources_in ws) _ spare (suc r) p q (rw u))

  head_low : (r : ℕ) → 1 ≤ r → r ≤ resources_in ws → (q : Queue) → head_of ws r q ≤ locks_in ws
  head_low r a b q = first_low (link_of ws r q) (home_on ws (state_of q) r) (locks_in ws) (home_low ws (state_of q) r) (locks_in ws) (head_of ws r q) (right_at ws r (met.0.walked r a b) q)

  -- the home link: by the chain on which it stands
  home_link : (k : ℕ) → 1 ≤ k → k ≤ locks_in ws → word_in ws (of_lock k 0) ≤ locks_in ws
  unfolding free_in denied_in
  home_link zero p q = absurd (omega arith)
  home_link (suc k) p q = go (read_lock ws (suc k)).state refl (ok (suc k) p q)
    where
      s : Stands ws (suc k)
      s = stands (suc k) p q

      on : (i : Queue) → (read_lock ws (suc k)).state ≡ state_of i → Place (used (read ws ss)) (read_lock ws (suc k)) → word_in ws (of_lock (suc k) 0) ≤ locks_in ws
      on i e o =
          let j = used_in ws ss (read_lock ws (suc k)).resource o.in_use in
          let r = (read_lock ws (suc k)).resource in
          links_low (link_of ws r i) (home_on ws (state_of i) r) (locks_in ws) (home_low ws (state_of i) r) (locks_in ws) (head_of ws r i) (right_at ws r (met.0.walked r j.0 j.1) i) (suc k)
          (unfold queue_in in (let c : count (suc k) (queue_in ws r i) ≡ 1 = s.queued r j.0 j.1 i ∙ (rw (eq-eqb _ (state_of i) e, eqb_same r)) in omega arith))

      go : (n : ℕ) → (read_lock ws (suc k)).state ≡ n → StateOk (used (read ws ss)) (read_lock ws (suc k)) n → word_in ws (of_lock (suc k) 0) ≤ locks_in ws
      go zero e o = links_low (link_in ws (of_locks free_locks)) (home_on ws 0 0) (locks_in ws) (home_low ws 0 0) (locks_in ws) _ met.0.free (suc k) (let c : count (suc k) (free_in ws) ≡ 1 = s.free ∙ (rw e) in omega arith)
      go (suc zero) e o = on grants e o.place
      go (suc (suc zero)) e o = on converts e o.place
      go (suc (suc (suc zero))) e o = on waits e o.place
      go (suc (suc (suc (suc zero)))) e o = links_low (link_in ws (of_locks denied)) (home_on ws 4 0) (locks_in ws) (home_low ws 4 0) (locks_in ws) _ met.0.denied (suc k) (let c : count (suc k) (denied_in ws) ≡ 1 = s.denied ∙ (rw e) in omega arith)
      go (suc (suc (suc (suc (suc n))))) e o = absurd o

  blocked_link : (k : ℕ) → 1 ≤ k → k ≤ locks_in ws → word_in ws (of_lock k 1) ≤ locks_in ws
  blocked_link zero p q = absurd (omega arith)
  blocked_link (suc k) p q =
      by_cases (blocked_lock (read_lock ws (suc k)))
      (λ b. side_link (link_in ws (of_locks blocked)) _ (locks_in ws) _ blocked_are (suc k) p q b)
      (λ b. omega (arith, off_blocked (suc k) p q b))

  notice_link : (k : ℕ) → 1 ≤ k → k ≤ locks_in ws → word_in ws (of_lock k 2) ≤ locks_in ws
  notice_link zero p q = absurd (omega arith)
  notice_link (suc k) p q =
      by_cases (noticed (read_lock ws (suc k)))
      (λ b. side_link (link_in ws (of_locks notices)) _ (locks_in ws) _ noticed_are (suc k) p q b)
      (λ b. omega (arith, off_notices (suc k) p q b))

  resource_field : (k : ℕ) → 1 ≤ k → k ≤ locks_in ws → word_in ws (of_lock k 3) ≤ resources_in ws
  resource_field k p q = let z = rw (resources_read ws ss) at (housed (read ws ss) (read_lock ws k) (read_lock ws k).state (ok k p q)) in unfold read_lock in z

  free_first : word_in ws (of_header 3) ≤ locks_in ws
  free_first = first_low (link_in ws (of_locks free_locks)) (home_on ws 0 0) (locks_in ws) (home_low ws 0 0) (locks_in ws) _ met.0.free

  denied_first : word_in ws (of_header 4) ≤ locks_in ws
  denied_first = first_low (link_in ws (of_locks denied)) (home_on ws 4 0) (locks_in ws) (home_low ws 4 0) (locks_in ws) _ met.0.denied

  indices : indices_right ws ≡ true
  unfolding indices_right resource_index lock_index all
  indices =
      and_intro _ _ (and_intro _ _ (and_intro _ _
      (le-leb (word_in ws (of_header 2)) (resources_in ws) (side_first (link_in ws free_resources) _ (resources_in ws) (word_in ws (of_header 2)) spare))
      (four (word_in ws (of_header 3)) (word_in ws (of_header 4)) (word_in ws (of_header 5)) (word_in ws (of_header 6)) free_first denied_first
      (side_first (link_in ws (of_locks blocked)) _ (locks_in ws) (word_in ws (of_header 5)) blocked_are)
      (side_first (link_in ws (of_locks notices)) _ (locks_in ws) (word_in ws (of_header 6)) noticed_are)))
      (each_intro (λ r. leb (word_in ws (of_resource r 0)) (resources_in ws) && all (λ f. leb (word_in ws (of_resource r f)) (locks_in ws)) (1 ∷ 2 ∷ 3 ∷ [])) (resources_in ws)
      (λ r p q. and_intro (leb (word_in ws (of_resource r 0)) (resources_in ws)) _ (le-leb _ _ (resource_link r p q))
      (three (word_in ws (of_resource r 1)) (word_in ws (of_resource r 2)) (word_in ws (of_resource r 3)) (head_low r p q grants) (head_low r p q converts) (head_low r p q waits)))))
      (each_intro (λ k. all (λ f. leb (word_in ws (of_lock k f)) (locks_in ws)) (0 ∷ 1 ∷ 2 ∷ []) && leb (word_in ws (of_lock k 3)) (resources_in ws)) (locks_in ws)
      (λ k p q. and_intro (all (λ f. leb (word_in ws (of_lock k f)) (locks_in ws)) (0 ∷ 1 ∷ 2 ∷ [])) _
      (three (word_in ws (of_lock k 0)) (word_in ws (of_lock k 1)) (word_in ws (of_lock k 2)) (home_link k p q) (blocked_link k p q) (notice_link k p q))
      (le-leb _ _ (resource_field k p q))))
    where
      three : (a b c : ℕ) → a ≤ locks_in ws → b ≤ locks_in ws → c ≤ locks_in ws → (leb a (locks_in ws) && (leb b (locks_in ws) && (leb c (locks_in ws) && true))) ≡ true
      three a b c p q r = rw (le-leb a (locks_in ws) p, le-leb b (locks_in ws) q, le-leb c (locks_in ws) r)

      four : (a b c d : ℕ) → a ≤ locks_in ws → b ≤ locks_in ws → c ≤ locks_in ws → d ≤ locks_in ws → (leb a (locks_in ws) && (leb b (locks_in ws) && (leb c (locks_in ws) && (leb d (locks_in ws) && true)))) ≡ true
      four a b c d p q r s = rw (le-leb a (locks_in ws) p, le-leb b (locks_in ws) q, le-leb c (locks_in ws) r, le-leb d (locks_in ws) s)

  endings : chains_end ws ≡ true
  unfolding chains_end chain_ends
  endings =
      let a = spare.ended in
      let b = met.0.free.ended in
      let c = met.0.denied.ended in
      let d = blocked_are.ended in
      let e = noticed_are.ended in
      and_intro _ _ (and_intro _ _ (and_intro _ _ (and_intro _ _ (and_intro _ _ a b) c) d) e)
      (each_intro (λ r. chain_ends ws (of_locks (queue r grants)) && chain_ends ws (of_locks (queue r converts)) && chain_ends ws (of_locks (queue r waits))) (resources_in ws)
      (λ r p q. let w = met.0.walked r p q in and_intro _ _ (and_intro _ _ w.granted.ended w.converting.ended) w.waiting.ended))

  -- 2. RESOURCES
  resource_is : (r : ℕ) → 1 ≤ r → r ≤ resources_in ws → resource_right ws ss (read ws ss) r ≡ true
  resource_is r p q =
      fine_right ws ss sized some r p q (unfold read read_chain in spare.counts r p q) (names_unique ws ss sized differ r p q) (each_at (resource_fine ws ss) (resources_in ws) resources_fine r p q)

  -- 3, 4. LOCKS
  module _ (k : ℕ) (low : 1 ≤ k) (high : k ≤ locks_in ws) where
    stands_by : (c : LockChain) (xs : List ℕ) → chain (read ws ss) c ≡ xs → count k xs ≡ bit (belongs c (read_lock ws k)) → stands_right (read ws ss) c k ≡ true
    unfolding stands_right
    stands_by c xs e n = rw (e, lock_of ws ss k low high) (eq-eqb (count k xs) (bit (belongs c (read_lock ws k))) n)

    home_is : home_right (read ws ss) k ≡ true
    unfolding home_right
    home_is =
        let s = stands k low high in
        and_intro _ _ (and_intro _ _
        (stands_by free_locks (free_in ws) (unfold read read_chain free_in in refl) s.free)
        (stands_by denied (denied_in ws) (unfold read read_chain denied_in in refl) s.denied))
        (rw (resources_read ws ss)
        (each_intro (λ r. stands_right (read ws ss) (queue r grants) k && stands_right (read ws ss) (queue r converts) k && stands_right (read ws ss) (queue r waits) k) (resources_in ws)
        (λ r p q. and_intro _ _ (and_intro _ _
        (stands_by (queue r grants) (queue_in ws r grants) (grants_read ws ss r p q) (s.queued r p q grants))
        (stands_by (queue r converts) (queue_in ws r converts) (converts_read ws ss r p q) (s.queued r p q converts)))
        (stands_by (queue r waits) (queue_in ws r waits) (waits_read ws ss r p q) (s.queued r p q waits)))))

    lock_is : lock_right (read ws ss) k ≡ true
    unfolding lock_right
    lock_is = and_intro _ _ home_is (rw (lock_of ws ss k low high) (fields k low high))

  links_are : (k : ℕ) → 1 ≤ k → k ≤ locks_in ws → (linked_right ws (read ws ss) blocked k && linked_right ws (read ws ss) notices k) ≡ true
  unfolding linked_right
  links_are zero p q = absurd (omega arith)
  links_are (suc k) p q =
      and_intro _ _
      (and_intro _ _ (stands_by (suc k) p q blocked _ refl (unfold read read_chain in blocked_are.counts (suc k) p q))
      (rw (lock_of ws ss (suc k) p q) (by_cases (blocked_lock (read_lock ws (suc k))) (λ b. rw b) (λ b. rw (b, off_blocked (suc k) p q b)))))
      (and_intro _ _ (stands_by (suc k) p q notices _ refl (unfold read read_chain in noticed_are.counts (suc k) p q))
      (rw (lock_of ws ss (suc k) p q) (by_cases (noticed (read_lock ws (suc k))) (λ b. rw b) (λ b. rw (b, off_notices (suc k) p q b)))))

  -- 5. MODES AND HEADS
  modes_are : (r : ℕ) → 1 ≤ r → r ≤ resources_in ws → (holders_compatible (read ws ss) r && no_grantable_head (read ws ss) r) ≡ true
  modes_are r p q =
      let w = met.0.walked r p q in
      and_intro _ _
      (sym (fit_is ws ss r p q some modes w.granted w.converting w.waiting) ∙ and_intro _ _ w.fit w.beyond)
      (sym (heads_are ws ss r p q some modes w.granted w.converting w.waiting) ∙ w.heads)

  -- COUNTS
  counts_are : (r : ℕ) → 1 ≤ r → r ≤ resources_in ws → counts_right ws (read ws ss) r ≡ true
  unfolding counts_right
  counts_are r p q =
      let w = met.0.walked r p q in
      all_modes_intro (λ m. eqb (count_in ws r m) (tally (read ws ss) r m))
      (λ m l. eq-eqb (count_in ws r m) (tally (read ws ss) r m) (fine_true ws ss r p q some modes w.granted w.converting w.waiting few w.counts m l))

  pub check_sound : sound ws ss ≡ true
  unfolding sound state_right
  check_sound =
      and_intro _ _ (and_intro _ _ (and_intro _ _ (and_intro _ _ sizes zeros) indices) endings)
      (and_intro _ _ (and_intro _ _ (and_intro _ _ (and_intro _ _
      (each_intro (resource_right ws ss (read ws ss)) (resources_in ws) resource_is)
      (each_intro (lock_right (read ws ss)) (locks_in ws) lock_is))
      (each_intro (λ k. linked_right ws (read ws ss) blocked k && linked_right ws (read ws ss) notices k) (locks_in ws) links_are))
      (each_intro (λ r. holders_compatible (read ws ss) r && no_grantable_head (read ws ss) r) (resources_in ws) modes_are))
      (each_intro (counts_right ws (read ws ss)) (resources_in ws) counts_are))
