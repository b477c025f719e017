-- What a store past the two counts keeps, and what the code reads and writes of a lock.
use mathlib.Core.Path.{◌≡◌, refl, ◌∙◌}
use mathlib.Core.List.{List}
use Prim.Native.Nat.{ℕ, ◌+◌, ◌*◌, ◌-◌, ◌≤◌}
use native.Mathlib.Omega.{arith}
use lib.ListN.{get_or, set, length-set}
use lib.Seq.{get_or-set_other}
use borrow.Author.Rules.{rules}
use Rattle.tables.specs.declared.Lock.{Lock}
use Rattle.tables.specs.Layout.{header_width, resource_width, lock_width, of_resource, of_lock, resources_in, locks_in, word_in, read_lock}
use Rattle.tables.specs.Stores.{set_cells}
use Rattle.table_fields.specs.Sizes.{Sized, Kept}
use Rattle.table_fields.specs.declared.ResourceFields.{ResourceFields}
use Rattle.table_fields.specs.Records.{read_fields, with_fields, read_counts}

pub kept_set : (ws vs : List ℕ) (i v : ℕ) → 2 ≤ i → Kept ws vs → Kept ws (set vs i v)
kept_set ws vs i v h k =
    let rs : resources_in (set vs i v) ≡ resources_in vs = get_or-set_other vs i 0 v 0 (λ e. omega arith) in
    let ls : locks_in (set vs i v) ≡ locks_in vs = get_or-set_other vs i 1 v 0 (λ e. omega arith) in
    let s = k.sized in
    record {
      sized = record { long = rw (length-set, ls, rs) s.long; few_resources = rw rs s.few_resources; few_locks = rw ls s.few_locks };
      same_resources = rs ∙ k.same_resources;
      same_locks = ls ∙ k.same_locks;
    }

pub kept_all : (ws : List ℕ) → Sized ws → Kept ws ws
kept_all ws s = record { sized = s; same_resources = refl; same_locks = refl }

module _ (ws : List ℕ) (s : Sized ws) where
  module _ (r f x : ℕ) (e : x ≡ header_width + resource_width * (r - 1)) where
    pub resource_read : get_or ws (x + f) 0 ≡ word_in ws (of_resource r f)
    resource_read = rw e

  module _ (r x : ℕ) (e : x ≡ header_width + resource_width * (r - 1)) where
    pub fields_read : record { bytes = get_or ws (x + 4) 0; valid = get_or ws (x + 5) 0 } ≡ read_fields ws r
    unfolding read_fields
    fields_read = rw e

    pub fields_stored : (m : ResourceFields) → set (set ws (x + 4) m.bytes) (x + 5) m.valid ≡ with_fields r m ws
    unfolding with_fields
    fields_stored m = rw e

    pub fields_kept : (a b : ℕ) → Kept ws (set (set ws (x + 4) a) (x + 5) b)
    fields_kept a b = kept_set ws _ (x + 5) b (omega arith) (kept_set ws ws (x + 4) a (omega arith) (kept_all ws s))

    pub counts_read : record {
      nl = get_or ws (x + 6) 0;
      cr = get_or ws (x + 7) 0;
      cw = get_or ws (x + 8) 0;
      pr = get_or ws (x + 9) 0;
      pw = get_or ws (x + 10) 0;
      ex = get_or ws (x + 11) 0;
    } ≡ read_counts ws r
    unfolding read_counts
    counts_read = rw e

  module _ (k x : ℕ) (e : x ≡ header_width + resource_width * resources_in ws + lock_width * (k - 1)) where
    pub lock_word_read : (f : ℕ) → get_or ws (x + f) 0 ≡ word_in ws (of_lock k f)
    lock_word_read f = rw e

    pub lock_read : record {
      resource = get_or ws (x + 3) 0;
      client = get_or ws (x + 4) 0;
      state = get_or ws (x + 5) 0;
      held = get_or ws (x + 6) 0;
      asked = get_or ws (x + 7) 0;
      completion = get_or ws (x + 8) 0;
      mark = get_or ws (x + 9) 0;
    } ≡ read_lock ws k
    unfolding read_lock
    lock_read = rw e

    pub lock_stored : (m : Lock) → set (set (set (set (set (set (set ws (x + 3) m.resource) (x + 4) m.client) (x + 5) m.state) (x + 6) m.held) (x + 7) m.asked) (x + 8) m.completion) (x + 9) m.mark ≡ set_cells (resources_in ws) k m ws
    unfolding set_cells
    lock_stored m = rw e

    pub lock_kept : (a b c d f g h : ℕ) → Kept ws (set (set (set (set (set (set (set ws (x + 3) a) (x + 4) b) (x + 5) c) (x + 6) d) (x + 7) f) (x + 8) g) (x + 9) h)
    lock_kept a b c d f g h =
        let k₀ = kept_set ws ws (x + 3) a (omega arith) (kept_all ws s) in
        let k₁ = kept_set ws _ (x + 4) b (omega arith) k₀ in
        let k₂ = kept_set ws _ (x + 5) c (omega arith) k₁ in
        let k₃ = kept_set ws _ (x + 6) d (omega arith) k₂ in
        let k₄ = kept_set ws _ (x + 7) f (omega arith) k₃ in
        let k₅ = kept_set ws _ (x + 8) g (omega arith) k₄ in
        kept_set ws _ (x + 9) h (omega arith) k₅

pub ruleset field_laws = (rules, resource_read, fields_read, fields_stored, fields_kept, counts_read, lock_word_read, lock_read, lock_stored, lock_kept)
