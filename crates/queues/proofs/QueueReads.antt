-- Reading a resource's queues from the words of a state.
use mathlib.Core.Path.{◌≡◌, refl, sym, ◌∙◌, ap}
use mathlib.Core.Bool.{not}
use mathlib.Core.List.{List, [], ◌∷◌}
use Rattle.std.specs.Bool.{then_some}
use Rattle.std.specs.Prelude.{Option, Some}
use Rattle.tables.specs.Numbered.{numbered}
use Rattle.table_chains.proofs.NumberOrNone.{some_number, then_number}
use Prim.Native.Nat.{ℕ, zero, suc}
use native.Mathlib.Omega.{arith}
use lib.Dec.{eqb}
use borrow.Author.Rules.{rules}
use borrow.Author.Tests.{ne_eqb}
use Rattle.tables.specs.Lists.{count, first, null}
use Rattle.tables.specs.State.{Tables, resource, Queue, converts, waits, queue, of_locks, queue_of}
use Rattle.tables.specs.Layout.{of_resource, queue_head, words, word_in}
use Rattle.tables.proofs.Counts.{count_same}
use Rattle.tables.specs.Threads.{Threaded}
use Rattle.tables.proofs.ThreadedChains.{core_threaded}
use Rattle.tables.specs.Validity.{line}
use Rattle.tables.proofs.Links.{first_of, first_after}
use Rattle.table_chains.specs.Promises.{Tells, Resourced}
use Rattle.table_chains.proofs.ChainWalks.{queue_present, queue_first, here_sized, here_low, here_high}

pub null_first : (xs : List ℕ) → count 0 xs ≡ 0 → eqb (first xs) 0 ≡ null xs
null_first [] h = refl
null_first (zero ∷ xs) h = absurd (omega (arith, count_same 0 xs))
null_first (suc x ∷ xs) h = ne_eqb (suc x) 0 (omega arith)

-- the resource r of a state, by its words
module _ (r : ℕ) (t : Tables) (p : Resourced r t) (ws : List ℕ) (is : ws ≡ words t) where
  pub threaded : (q : Queue) → Threaded t (of_locks (queue r q))
  threaded q = core_threaded t p.core (of_locks (queue r q)) (queue_present r t p q)

  pub head_null : (q : Queue) → eqb (word_in ws (of_resource r (queue_head q))) 0 ≡ null (queue_of q (resource t r))
  head_null q = ap (λ (x : ℕ). eqb x 0) (queue_first r t p q ws is) ∙ null_first (queue_of q (resource t r)) (p.core.linked (queue r q) 0)

-- next_up
module _ (ws : List ℕ) (r : ℕ) (x : ℕ) (ex : x ≡ word_in ws (of_resource r 2)) where
  pub next_converts : (x ≡ 0 → ⊥) → Tells (Resourced r) (λ t. numbered (first (line t r))) ws (Some x)
  unfolding line
  next_converts n = record {
    then = λ t p is.
        let e = ex ∙ queue_first r t p converts ws is in
        some_number x n ∙ ap numbered (e ∙ sym (first_of (resource t r).convert (resource t r).wait (λ z. n (e ∙ z))));
  }

  pub next_waits : x ≡ 0 → (y : ℕ) → y ≡ word_in ws (of_resource r 3) → (o : Option ℕ) → o ≡ then_some (not (eqb y 0)) y → Tells (Resourced r) (λ t. numbered (first (line t r))) ws o
  unfolding line
  next_waits n y ey o eo = record {
    then = λ t p is.
        eo ∙ then_number y ∙ ap numbered (ey ∙ queue_first r t p waits ws is
        ∙ sym (first_after (resource t r).convert (resource t r).wait (p.core.linked (queue r converts) 0) (sym (ex ∙ queue_first r t p converts ws is) ∙ n)));
  }

pub ruleset next_laws = (rules, here_sized, here_low, here_high, next_converts, next_waits)
