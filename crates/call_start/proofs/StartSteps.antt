-- What start's steps need and leave.
use mathlib.Core.Path.{◌≡◌, sym, ◌∙◌}
use mathlib.Core.Bool.{Bool, true, false, not}
use mathlib.Core.List.{List}
use Prim.Native.Nat.{ℕ, ◌+◌, ◌-◌, ◌*◌}
use native.Mathlib.Omega.{arith}
use lib.ListN.{length, replicate}
use borrow.Author.Rules.{rules}
use borrow.Author.Tests.{not-true, not-false, leb-true, eqb-true}
use Rattle.tables.specs.State.{most_resources, most_locks}
use Rattle.tables.specs.Layout.{header_width, resource_width, lock_width, size, slot_width}
use Rattle.tables.proofs.Cases.{parts}
use Rattle.rules.specs.Entries.{lent, outcome, start_accepts, start_if, start_entry}
use Rattle.std.specs.Prelude.{Ok, Err}
use Rattle.answers.specs.declared.Refusal.TheVariants as refusals
use Rattle.answers.specs.Answers.{done}
use Rattle.call_start.specs.Fresh.{Sizes, headed, linked_up, fresh_words}
use Rattle.call_start.proofs.StartedWords.{started_words, started_slots}

-- `start_words`: zeros, the header, the links of the resources, those of the locks
pub fresh_end : (r l : ℕ) (a b d e f : List ℕ) → Sizes r l a → b ≡ replicate (length a) 0 → d ≡ headed r l b
    → e ≡ linked_up header_width resource_width (r - 1) d → f ≡ linked_up (header_width + resource_width * r + 0) lock_width (l - 1) e → f ≡ fresh_words r l
fresh_end r l a b d e f s cleared header up all_up =
    let z : header_width + resource_width * r + 0 ≡ header_width + resource_width * r = omega arith in
    all_up ∙ rw (z, up, header, cleared, s.long) (started_words r l s.some_resource s.some_lock)

pub ruleset fresh_laws = (rules, fresh_end)

-- `start`
module _ (ws ss : List ℕ) (r l : ℕ) (x : Bool) (tested : x ≡ start_accepts ws ss r l) where
  pub start_refused : not x ≡ true → outcome (done (Err refusals.Sizes)) (lent ws ss) ≡ start_entry (lent ws ss) r l
  unfolding start_entry start_if
  start_refused q = let e : start_accepts ws ss r l ≡ false = sym tested ∙ not-true x q in rw e

  module _ (right : not x ≡ false) where
    accepts : start_accepts ws ss r l ≡ true
    accepts = sym tested ∙ not-false x right

    pub start_sizes : {vs : List ℕ} → length vs ≡ length ws → Sizes r l vs
    unfolding start_accepts
    start_sizes e =
        let h = accepts in
        record {
          some_resource = leb-true 1 r (search parts depth 20);
          few_resources = leb-true r most_resources (search parts depth 20);
          some_lock = leb-true 1 l (search parts depth 20);
          few_locks = leb-true l most_locks (search parts depth 20);
          long = e ∙ eqb-true (length ws) (size r l) (search parts depth 20);
        }

    slots_long : length ss ≡ slot_width * r
    unfolding start_accepts
    slots_long = let h = accepts in eqb-true (length ss) (slot_width * r) (search parts depth 20)

    pub start_accepted : (vs zs : List ℕ) → vs ≡ fresh_words r l → zs ≡ replicate (length ss) 0 → outcome (done (Ok tt)) (lent vs zs) ≡ start_entry (lent ws ss) r l
    unfolding start_entry start_if
    start_accepted vs zs e f = rw (accepts, e, f, slots_long, ← (started_slots r l))

pub ruleset start_laws = (rules, start_refused, start_sizes, start_accepted)
