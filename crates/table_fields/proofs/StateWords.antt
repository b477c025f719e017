-- The words of a state, as code reads them: how many records there are, a word at an address, the record of a lock, the counts of a resource.
use mathlib.Core.Path.{◌≡◌, sym, ◌∙◌, ap, ap₂}
use mathlib.Core.Bool.{true}
use mathlib.Core.List.{List}
use Prim.Native.Nat.{ℕ, ◌≤◌}
use native.Mathlib.Omega.{arith}
use lib.ListN.{get_or, length}
use Rattle.tables.specs.declared.Lock.{Lock}
use Rattle.tables.specs.Lists.{within}
use Rattle.modes.specs.Modes.{NL, CR, CW, PR, PW, EX}
use Rattle.tables.specs.State.{Tables, last_mode, lock}
use Rattle.tables.specs.Grants.{tally}
use Rattle.tables.specs.Layout.{Address, of_resource, size, count_field, word_value, content, words, resources_in, locks_in, word_in, read_lock}
use Rattle.tables.specs.Threads.{In}
use Rattle.tables.specs.Validity.{Core}
use Rattle.tables.proofs.Counts.{within_le}
use Rattle.tables.proofs.WordChanges.{length_words}
use Rattle.tables.proofs.ReadBack.{resources_word, locks_word, word_read, lock_read}
use Rattle.tables.proofs.Tallies.{count_word}
use Rattle.table_fields.specs.Sizes.{Sized}
use Rattle.table_fields.specs.Records.{counts_by, read_counts}

module _ (t : Tables) (ws : List ℕ) (is : ws ≡ words t) where
  pub resources_is : resources_in ws ≡ length t.resources
  resources_is = ap (λ (x : List ℕ). get_or x 0 0) is ∙ resources_word t

  pub locks_is : locks_in ws ≡ length t.locks
  locks_is = ap (λ (x : List ℕ). get_or x 1 0) is ∙ locks_word t

  pub core_sized : Core t → Sized ws
  core_sized c =
      record {
        long = ap length is ∙ length_words t ∙ ap₂ size (sym resources_is) (sym locks_is);
        few_resources = omega (arith, resources_is, c.resources_high);
        few_locks = omega (arith, locks_is, c.locks_high);
      }

  pub word_is : (a : Address) → In t a → word_in ws a ≡ content t a
  word_is a h = ap (λ (w : List ℕ). word_in w a) is ∙ word_read t a h

  pub lock_record : (k : ℕ) → 1 ≤ k → k ≤ length t.locks → read_lock ws k ≡ lock t k
  lock_record k p q = ap (λ (v : List ℕ). read_lock v k) is ∙ lock_read t k p q

  pub counts_is : (r : ℕ) → 1 ≤ r → r ≤ length t.resources → read_counts ws r ≡ counts_by (tally t r)
  unfolding read_counts
  counts_is r p q =
      let at_mode : (m : ℕ) → m ≤ last_mode → word_in ws (of_resource r (count_field m)) ≡ tally t r m
      = λ m n. word_is (of_resource r (count_field m)) (p, q, omega arith) ∙ ap (word_value t) (count_word t r m n) in
      λ i. record {
        nl = at_mode NL (omega arith) i;
        cr = at_mode CR (omega arith) i;
        cw = at_mode CW (omega arith) i;
        pr = at_mode PR (omega arith) i;
        pw = at_mode PW (omega arith) i;
        ex = at_mode EX (omega arith) i;
      }

  -- the lock k, which there is
  module _ (k : ℕ) (w : within (length t.locks) k ≡ true) where
    pub lock_low : 1 ≤ k
    lock_low = (within_le (length t.locks) k w).0

    pub lock_high : k ≤ locks_in ws
    lock_high = rw locks_is (within_le (length t.locks) k w).1

    pub lock_is : (l : Lock) → l ≡ read_lock ws k → l ≡ lock t k
    lock_is l e = e ∙ lock_record k lock_low (within_le (length t.locks) k w).1
