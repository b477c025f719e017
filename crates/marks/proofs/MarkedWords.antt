-- Marking a lock, by the words: its record, its place on the notice chain, and where the chain ends then.
use mathlib.Core.Path.{◌≡◌, refl, sym, ◌∙◌, ap}
use mathlib.Core.Logic.{◌≢◌}
use mathlib.Core.Bool.{Bool, true, false}
use mathlib.Core.List.{List, [], ◌∷◌, ◌++◌}
use Prim.Native.Nat.{ℕ, zero, suc, ◌+◌, ◌*◌, ◌-◌, ◌<◌, ◌≤◌}
use native.Mathlib.Omega.{arith}
use lib.ListN.{set, length}
use borrow.Author.Rules.{rules}
use borrow.Author.Tests.{ne_eqb}
use Rattle.tables.specs.declared.Lock.{Lock}
use Rattle.tables.specs.Lists.{within}
use Rattle.tables.specs.State.{Tables, with_notice, lock, unread, noticed, blocked_lock, shift, move, notices, of_locks}
use Rattle.tables.specs.Grants.{holds_mode, tally}
use Rattle.tables.specs.Layout.{place, cell, header_width, resource_width, lock_width, words, resources_in, locks_in, read_lock}
use Rattle.tables.specs.Stores.{cell_holding, cell_place, join_cells, stays, shift_cells, set_cells, side_cells}
use Rattle.tables.specs.Threads.{Absent}
use Rattle.tables.specs.Validity.{Core}
use Rattle.tables.proofs.Cases.{eqb_same, or_right}
use Rattle.tables.proofs.Links.{holder, holder_past}
use Rattle.tables.proofs.WordChanges.{no_zero, holding}
use Rattle.tables.proofs.WordChanges.{words_true}
use Rattle.tables.proofs.ChainWalk.{walk_holds_with}
use Rattle.tables.proofs.ReadBack.{chain_most}
use Rattle.tables.proofs.ThreadedChains.{core_threaded}
use Rattle.rules.specs.Calls.{larger, mark_lock}
use Rattle.rules.proofs.NoticesKeepSound.{holder_stands, marked_ok, mark_core}
use Rattle.rules.proofs.MarkLaws.{larger_first, mark_chain}
use Rattle.table_fields.specs.Sizes.{Sized, Kept}
use Rattle.table_fields.proofs.StateWords.{resources_is, locks_is, core_sized, lock_low, lock_high, lock_is}
use Rattle.table_chains.specs.declared.Cells.{Cells}
use Rattle.table_chains.specs.Cells.{cell_of, cells_at, lock_cells, Walks}
use Rattle.table_chains.specs.Promises.{Some, Turns, Movable, Moved}
use Rattle.table_chains.proofs.CellWalks.{found_inside, joined_kept}
use Rattle.table_chains.proofs.ChainWalks.{some_sized}
use Rattle.table_chains.proofs.ChainCells.{kept_trans, notice_cells, by_cells, chain_joins}
use Rattle.table_chains.proofs.LockMoves.{moved_uncounted}
use Rattle.marks.specs.Telling.{notices_end}
use Rattle.marks.specs.Promises.{Markable}

-- THE END OF THE NOTICE CHAIN, by places
end_placed : (ws : List ℕ) → notices_end ws ≡ cell_holding ws (cell_place (resources_in ws) (of_locks notices)) 0 (locks_in ws) (cell_place (resources_in ws) (of_locks notices) 0)
unfolding notices_end cells_at
end_placed ws = by_cells (of_locks notices) ws (cells_at (of_locks notices) ws) refl (λ f n. cell_holding ws f 0 n (f 0))

-- .. on a state: the cell of the last on it
module _ (t : Tables) (core : Core t) (ws : List ℕ) (is : ws ≡ words t) where
  end_cell : notices_end ws ≡ place (resources_in ws) (cell (of_locks notices) (holder 0 0 t.notices))
  unfolding holding
  end_cell =
      let h = core_threaded t core (of_locks notices) (omega arith) in
      end_placed ws ∙ rw (resources_is t ws is, locks_is t ws is, is, ← (words_true t)) (walk_holds_with (tally t) t (of_locks notices) h 0 (length t.locks) (chain_most t (of_locks notices) h) (λ z a. z refl))

  no_end : Absent 0 t.notices
  no_end = no_zero t (of_locks notices) (core_threaded t core (of_locks notices) (omega arith))

  end_walks : Walks ws (cells_at (of_locks notices) ws) 0
  end_walks = chain_joins (tally t) t ws (is ∙ sym (words_true t)) (of_locks notices) (core_threaded t core (of_locks notices) (omega arith)) (cells_at (of_locks notices) ws) refl (core_sized t ws is core)

-- notices_end
module _ (ws : List ℕ) where
  pub end_some : Some Core ws → 1 ≤ locks_in ws
  end_some s = omega (arith, s.good.locks_low, locks_is s.state ws s.is)

  module _ (c : Cells) (ec : c ≡ lock_cells 6 2 ws) where
    pub end_safe : Some Core ws → Walks ws c 0
    end_safe s = rw (ec ∙ notice_cells ws) (end_walks s.state s.good ws s.is)

    pub end_found : (x : ℕ) → x ≡ cell_holding ws (cell_of c) 0 c.most c.head → x ≡ notices_end ws
    unfolding notices_end
    end_found x e = e ∙ ap (λ (z : Cells). cell_holding ws (cell_of z) 0 z.most z.head) (ec ∙ notice_cells ws)

pub ruleset end_laws = (rules, some_sized, end_some, end_safe, end_found)

-- the last of a list is the one that joined
holder_joined : (i j : ℕ) (xs : List ℕ) → Absent 0 xs → j ≢ 0 → holder i 0 (xs ++ (j ∷ [])) ≡ j
holder_joined i j [] a n = holder_past 0 j i [] (λ e. n (sym e)) ∙ (unfold holder in refl)
holder_joined i j (x ∷ xs) a n = holder_past 0 x i (xs ++ (j ∷ [])) a.0 ∙ holder_joined x j xs a.1 n

-- the cell of a lock
own_cell : (r j : ℕ) → 1 ≤ j → place r (cell (of_locks notices) j) ≡ header_width + resource_width * r + lock_width * (j - 1) + 2
own_cell r zero p = absurd (omega arith)
own_cell r (suc j) p = refl

-- MARKING. What the lock becomes is on the notice chain, and at home where it was
module _ (m : ℕ) (low : 1 ≤ m) (l : Lock) where
  abbrev n : Lock
  n = with_notice l.completion (larger m l.mark) l

  marked_noticed : noticed n ≡ true
  marked_noticed = or_right (unread l) _ (rw (ne_eqb (larger m l.mark) 0 (omega (arith, larger_first m l.mark))))

  marked_stays : stays l n ≡ true
  unfolding stays
  marked_stays = rw (eqb_same l.state, eqb_same l.resource)

  marked_holds : (s h : ℕ) → holds_mode l s h ≡ holds_mode n s h
  unfolding holds_mode
  marked_holds s h = refl

shifted_same : (b : Bool) (f : ℕ → ℕ) (n k : ℕ) (ws : List ℕ) → shift_cells b b f n k ws ≡ ws
unfolding shift_cells
shifted_same true f n k ws = refl
shifted_same false f n k ws = refl

module _ (j m : ℕ) (low : 1 ≤ m) (a : List ℕ) (l : Lock) where
  side_kept : noticed l ≡ true → side_cells (resources_in a) (locks_in a) j l (n m low l) a ≡ a
  unfolding side_cells
  side_kept h = rw (marked_noticed m low l, h, shifted_same) (shifted_same (blocked_lock l) _ _ j a)

  side_joined : noticed l ≡ false → side_cells (resources_in a) (locks_in a) j l (n m low l) a ≡ set a (notices_end a) j
  unfolding side_cells shift_cells join_cells
  side_joined h = rw (marked_noticed m low l, h, shifted_same, end_placed a)

-- mark_lock
module _ (a b : List ℕ) (k : Kept a b) where
  pub kept_sized : Sized b
  kept_sized = k.sized

  pub kept_length : Sized a → length b ≡ length a
  kept_length s = k.sized.long ∙ rw (k.same_resources, k.same_locks) (sym s.long)

module _ (j m : ℕ) (a : List ℕ) where
  module _ (s : Some (Markable j m) a) where
    in_range : within (length s.state.locks) j ≡ true
    in_range = (holder_stands s.state j s.good.holder).0

    pub mark_sized : Sized a
    mark_sized = core_sized s.state a s.is s.good.core

    pub mark_low : 1 ≤ j
    mark_low = lock_low s.state a s.is j in_range

    pub mark_high : j ≤ locks_in a
    mark_high = lock_high s.state a s.is j in_range

    pub mark_after : (b : List ℕ) → Kept a b → j ≤ locks_in b
    mark_after b k = omega (arith, mark_high, k.same_locks)

    module _ (end : ℕ) (ee : end ≡ notices_end a) where
      pub mark_inside : end < length a
      unfolding notices_end
      mark_inside = found_inside a (cells_at (of_locks notices) a) 0 end ee (end_walks s.state s.good.core a s.is)

      pub mark_links : Kept a (set a end j)
      unfolding notices_end
      mark_links = joined_kept a (cells_at (of_locks notices) a) 0 end ee (end_walks s.state s.good.core a s.is) j

      pub linked_sized : Sized (set a end j)
      linked_sized = mark_links.sized

      pub linked_high : j ≤ locks_in (set a end j)
      linked_high = mark_after (set a end j) mark_links

      module _ (e : List ℕ) (k : Kept (set a end j) e) where
        pub linked_kept : Kept a e
        linked_kept = kept_trans a (set a end j) e mark_links k

        pub linked_after : j ≤ locks_in e
        linked_after = mark_after e linked_kept

        pub linked_length : length e ≡ length a
        linked_length = kept_length a e linked_kept mark_sized

  module _ (l : Lock) (el : l ≡ read_lock a j) (o : Lock) (eo : o ≡ with_notice l.completion (larger m l.mark) l) where
    module _ (t : Tables) (p : Markable j m t) (is : a ≡ words t) where
      l_is : l ≡ lock t j
      l_is = lock_is t a is j (holder_stands t j p.holder).0 l el

      its_move : Movable (lock t j).resource j (n m p.low l) t
      its_move =
          rw l_is
          (record {
            core = p.core;
            in_range = (holder_stands t j p.holder).0;
            near_old = λ z. refl;
            near_new = λ z. refl;
            ok = marked_ok m j t p.high p.core p.holder;
          })

    turned : (e : List ℕ) → ((low : 1 ≤ m) → Moved j (n m low l) a e) → Turns (Markable j m) (mark_lock m j) a e
    unfolding mark_lock
    turned e moved = record {
      then = λ t p is.
          (moved p.low).then (lock t j).resource t (its_move t p is) is ∙ ap (λ (z : Lock). words (move (lock t j).resource j (n m p.low z) t)) (l_is t p is);
    }

    -- where the chain ends after it
    module _ (s : Some (Markable j m) a) (e : List ℕ) (made : Turns (Markable j m) (mark_lock m j) a e) where
      end_after : notices_end e ≡ place (resources_in e) (cell (of_locks notices) (holder 0 0 (shift (noticed l) true j s.state.notices)))
      end_after =
          let t = s.state in
          let g = s.good in
          end_cell (mark_lock m j t) (mark_core m j t g.high g.core g.holder) e (made.then t g s.is)
          ∙ ap (λ (xs : List ℕ). place (resources_in e) (cell (of_locks notices) (holder 0 0 xs)))
          (mark_chain m j t g.low ∙ ap (λ (z : Lock). shift (noticed z) true j t.notices) (sym (l_is t g s.is)))

    -- it had a notice: it stays where it is
    module _ (x : Bool) (ex : x ≡ noticed l) (h : x ≡ true) (e : List ℕ) (ee : e ≡ set_cells (resources_in a) j o a) where
      pub mark_raised : Turns (Markable j m) (mark_lock m j) a e
      mark_raised =
          turned e
          (λ low. moved_uncounted j l (n m low l) a el (marked_holds m low l) a (sym (side_kept j m low a l (sym ex ∙ h))) true (sym (marked_stays m low l)) e refl
          (ee ∙ ap (λ (z : Lock). set_cells (resources_in a) j z a) eo))

      pub raised_end : Some (Markable j m) a → Kept a e → (end : ℕ) → end ≡ notices_end a → end ≡ notices_end e
      unfolding shift
      raised_end s k end q =
          q ∙ end_cell s.state s.good.core a s.is
          ∙ sym (end_after s e mark_raised ∙ rw (k.same_resources, sym ex ∙ h))

    -- it had none: it joins the chain
    module _ (x : Bool) (ex : x ≡ noticed l) (h : x ≡ false) (end : ℕ) (q : end ≡ notices_end a) (e : List ℕ) (ee : e ≡ set_cells (resources_in (set a end j)) j o (set a end j)) where
      pub mark_joined : Turns (Markable j m) (mark_lock m j) a e
      mark_joined =
          turned e
          (λ low. moved_uncounted j l (n m low l) a el (marked_holds m low l) (set a end j) (ap (λ (z : ℕ). set a z j) q ∙ sym (side_joined j m low a l (sym ex ∙ h))) true (sym (marked_stays m low l)) e refl
          (ee ∙ ap (λ (z : Lock). set_cells (resources_in (set a end j)) j z (set a end j)) eo))

      pub joined_end : Some (Markable j m) a → (y : ℕ) → y ≡ header_width + resource_width * resources_in e + lock_width * (j - 1) → y + 2 ≡ notices_end e
      unfolding shift
      joined_end s y ey =
          sym (end_after s e mark_joined
          ∙ rw (sym ex ∙ h, holder_joined 0 j s.state.notices (no_end s.state s.good.core a s.is) (omega (arith, mark_low s)))
          (own_cell (resources_in e) j (mark_low s) ∙ ap (λ (z : ℕ). z + 2) (sym ey)))

pub ruleset mark_laws = (rules, mark_sized, mark_low, mark_high, mark_inside, linked_sized, linked_high, linked_kept, linked_after, linked_length, kept_sized, mark_raised, raised_end, mark_joined, joined_end)
