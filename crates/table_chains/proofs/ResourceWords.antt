-- What each step of a change of a resource's words is.
use mathlib.Core.Path.{◌≡◌, refl, sym, ◌∙◌, ap, subst}
use mathlib.Core.Bool.{Bool}
use mathlib.Core.List.{List, [], ◌∷◌}
use Prim.Native.Nat.{ℕ, ◌≤◌}
use native.Mathlib.Omega.{arith}
use borrow.Author.Rules.{rules}
use lib.ListN.{length}
use lib.Dec.{eqb}
use borrow.Author.Tests.{ne_eqb}
use Rattle.tables.specs.Lists.{null}
use Rattle.tables.specs.State.{Resource, Tables, resource, free_resources, move_resource}
use Rattle.tables.specs.Grants.{tally}
use Rattle.tables.specs.Layout.{of_resource, words, resources_in, word_in}
use Rattle.tables.proofs.Counts.{within_le, le_within}
use Rattle.tables.proofs.WordChanges.{words_true, stands}
use Rattle.tables.proofs.ReadBack.{word_read}
use Rattle.tables.specs.Threads.{Seat}
use Rattle.tables.proofs.ThreadedChains.{core_threaded}
use Rattle.tables.proofs.Wholeness.{counted_seat}
use Rattle.tables.specs.Stores.{Counts, words_with, front_cells}
use Rattle.tables.proofs.ResourceMoved.{set_resource_cells, relinked, relinked_words, set_relinked, tally_refilled}
use Rattle.table_fields.specs.Sizes.{Sized, Kept}
use Rattle.table_fields.specs.declared.ResourceFields.{ResourceFields}
use Rattle.table_fields.specs.Records.{read_fields, with_fields}
use Rattle.table_fields.proofs.StateWords.{resources_is, core_sized}
use Rattle.table_chains.specs.declared.Cells.{Cells}
use Rattle.table_chains.specs.declared.End.TheVariants.{Front}
use Rattle.table_chains.specs.Cells.{cell_of, cells_at, Shifts}
use Rattle.table_chains.specs.Promises.{Some, Resourced, Refilled, ResourceMoved}
use Rattle.table_chains.proofs.ChainCells.{kept_trans, by_cells, chain_leaves, chain_pushes}

null_length : (xs : List ℕ) → eqb (length xs) 0 ≡ null xs
null_length [] = refl
null_length (x ∷ xs) = ne_eqb (length (x ∷ xs)) 0 (λ e. omega arith)

bytes_are : (a : List ℕ) (r : ℕ) (old : ResourceFields) → old ≡ read_fields a r → old.bytes ≡ word_in a (of_resource r 4)
unfolding read_fields
bytes_are a r old e = ap (λ (x : ResourceFields). x.bytes) e

module _ (r : ℕ) (t : Tables) (p : Resourced r t) where
  resource_low : 1 ≤ r
  resource_low = (within_le (length t.resources) r p.in_range).0

  resource_high : r ≤ length t.resources
  resource_high = (within_le (length t.resources) r p.in_range).1

  -- its name's length among the words
  length_is : (a : List ℕ) → a ≡ words t → word_in a (of_resource r 4) ≡ length (resource t r).name
  length_is a is = rw is (word_read t (of_resource r 4) (resource_low, resource_high, omega arith))

module _ (r : ℕ) (a : List ℕ) (s : Some (Resourced r) a) where
  pub resource_sized : Sized a
  resource_sized = core_sized s.state a s.is s.good.core

  pub resource_first : 1 ≤ r
  resource_first = resource_low r s.state s.good

  pub resource_last : r ≤ resources_in a
  resource_last = omega (arith, resource_high r s.state s.good, resources_is s.state a s.is)

  pub resource_some : 1 ≤ resources_in a
  resource_some = omega (arith, resource_first, resource_last)

  pub resource_after : (b : List ℕ) → Kept a b → r ≤ resources_in b
  resource_after b h = omega (arith, resource_last, h.same_resources)

  pub resource_fronts : (old : ResourceFields) → old ≡ read_fields a r → (cs : Cells) → cs ≡ cells_at free_resources a → Shifts (eqb old.bytes 0) Front a cs r
  resource_fronts old en cs ec =
      let t = s.state in
      let low = resource_low r t s.good in
      let high = resource_high r t s.good in
      let h = core_threaded t s.good.core free_resources (omega arith) in
      let seat : Seat (null (resource t r).name) r t.free_resources = counted_seat (null (resource t r).name) r t.free_resources (rw (le_within (length t.resources) r low high) at (s.good.core.spare r)) in
      let free : eqb old.bytes 0 ≡ null (resource t r).name = ap (λ (x : ℕ). eqb x 0) (bytes_are a r old en ∙ length_is r t s.good a s.is) ∙ null_length (resource t r).name in
      record {
        leaves = λ q. chain_leaves (tally t) t a (s.is ∙ sym (words_true t)) free_resources h cs ec resource_sized r (subst (λ (b : Bool). Seat b r t.free_resources) (sym free ∙ q) seat);
        joins = chain_pushes (tally t) t a (s.is ∙ sym (words_true t)) free_resources h cs ec resource_sized r (stands t free_resources r low (low, high, omega arith) refl);
      }

module _ (r n v : ℕ) (a : List ℕ) (old : ResourceFields) (en : old ≡ read_fields a r) (cs : Cells) (ec : cs ≡ cells_at free_resources a)
    (b : List ℕ) (eb : b ≡ front_cells (eqb old.bytes 0) (eqb n 0) (cell_of cs) cs.most r a) (kb : Kept a b)
    (e : List ℕ) (ee : e ≡ with_fields r (record { bytes = n; valid = v }) b) where
  module _ (t : Tables) (x : Resource) (p : Refilled r n v x t) (is : a ≡ words t) where
    here : Resourced r t
    here = record { core = p.core; in_range = p.in_range }

    was_free : eqb old.bytes 0 ≡ null (resource t r).name
    was_free = ap (λ (i : ℕ). eqb i 0) (bytes_are a r old en ∙ length_is r t here a is) ∙ null_length (resource t r).name

    is_free : eqb n 0 ≡ null x.name
    is_free = ap (λ (i : ℕ). eqb i 0) (sym p.name_is) ∙ null_length x.name

    linked_is : b ≡ words_with (tally t) (relinked r x t)
    linked_is =
        eb ∙ by_cells free_resources a cs ec (λ f i. front_cells (eqb old.bytes 0) (eqb n 0) f i r a)
        ∙ rw (was_free, is_free, resources_is t a is, is, ← (words_true t)) (relinked_words r x t p.core (resource_low r t here) (resource_high r t here) (tally t))

    stored : e ≡ set_resource_cells (length t.resources) r x b
    unfolding set_resource_cells with_fields
    stored = ee ∙ rw (p.name_is, p.valid_is)

    moved : e ≡ words (move_resource r x t)
    moved = stored ∙ ap (set_resource_cells (length t.resources) r x) linked_is ∙ set_relinked r x t p.core (resource_low r t here) (resource_high r t here) p.queues (tally t)
        ∙ ap (λ (ct : Counts). words_with ct (move_resource r x t)) (sym (tally_refilled r x t p.core (resource_low r t here) (resource_high r t here) p.queues))
        ∙ words_true (move_resource r x t)

  pub resource_moved : ResourceMoved r n v a e
  resource_moved = record { then = moved }

pub ruleset resource_laws = (rules, resource_sized, resource_first, resource_last, resource_some, resource_after, resource_fronts, resource_moved, kept_trans)
