-- The queue theorem: lists of calls on the written form of valid states.
use mathlib.Core.Path.{◌≡◌, refl, sym, ap, ap₂, ◌∙◌}
use mathlib.Core.Logic.{◌≢◌}
use mathlib.Core.Bool.{Bool, true, false, ◌&&◌, not, cond}
use mathlib.Core.List.{List, [], ◌∷◌}
use Prim.Native.Nat.{ℕ, zero, suc, ◌+◌}
use native.Mathlib.Omega.{arith}
use lib.Dec.{eqb}
use borrow.Author.Tests.{leb-true}
use Rattle.tables.specs.declared.Lock.{Lock}
use Rattle.tables.specs.Lists.{bit}
use Rattle.tables.specs.State.{Tables, no_lock, blocked_lock, unread, started, most_resources, most_locks}
use Rattle.tables.specs.Layout.{words}
use Rattle.tables.proofs.Cases.{parts}
use Rattle.tables.proofs.ReadBack.{tables_read}
use Rattle.tables.specs.Validity.{Valid}
use Rattle.tables.proofs.Written.{valid_readable, valid_sound}
use Rattle.rules.specs.Calls.{Said, refused, Step}
use Rattle.rules.specs.Entries.{Lent, lent_of, outcome, written, written_back, if_sound, entry, Call, step_of, call_entry, start_accepts, start_if, start_entry}
use Rattle.rules.specs.Theorem.{lent_after_calls, sum_of, requests_accepted, releases_accepted, requests_cancelled, locks_purged, polled_denials, answers_2, polled_completions, cancels_accepted, purged_blocked, purged_unread, locks_that, client_of, HeardSum, Demand, QueueTheorem}
use Rattle.rules.proofs.LockWeights.{weight, weight_bits, used_bit, owes, steady_owes, weight_owes}
use Rattle.rules.proofs.EveryCall.{Kept, stepped, started_valid, started_none}
use Rattle.rules.proofs.QueueProperties.{locks_kept, queues_hold}

unfoldable pub play : List Call → Tables → Tables
play [] t = t
play (c ∷ cs) t = play cs (step_of c t).tables

-- an entry on the written form of a valid state gives what the rule says of the state
pub outcome_is : (c : Call) (t : Tables) → Valid t → call_entry c (lent_of t) ≡ written (step_of c t)
unfolding call_entry entry written_back
outcome_is c t val =
    rw (valid_sound t val, if_sound, tables_read t (valid_readable t val)) (back (step_of c t).said.refusal refl)
  where
    s : Step
    s = step_of c t

    kept : Kept c t s
    kept = stepped c t val

    back : (n : ℕ) → s.said.refusal ≡ n → written_back n s (lent_of t) ≡ written s
    back zero e = refl
    back (suc n) e =
        let r : s.said.refusal ≢ 0 = omega arith in
        ap₂ (λ (x : Said) (u : Tables). outcome x (lent_of u)) (sym (kept.silent r ∙ ap refused e)) (sym (kept.unchanged r))

-- the list on states
pub after_is : (cs : List Call) (t : Tables) → Valid t → lent_after_calls cs (lent_of t) ≡ lent_of (play cs t)
unfolding lent_after_calls play
after_is [] t val = refl
after_is (c ∷ cs) t val = rw (outcome_is c t val) (after_is cs (step_of c t).tables (stepped c t val).valid)

pub play_valid : (cs : List Call) (t : Tables) → Valid t → Valid (play cs t)
unfolding play
play_valid [] t val = val
play_valid (c ∷ cs) t val = play_valid cs (step_of c t).tables (stepped c t val).valid

sum_is : (term : Call → Said → ℕ) (c : Call) (cs : List Call) (t : Tables) → Valid t
    → sum_of term (c ∷ cs) (lent_of t) ≡ term c (step_of c t).said + sum_of term cs (lent_of (step_of c t).tables)
unfolding sum_of
sum_is term c cs t val = rw (outcome_is c t val)

-- BOTH SUMS over the list, the second where some clients are meant: all of them, or one
abbrev by_some : (ℕ → Bool) → (Call → Said → ℕ) → Call → Said → ℕ
by_some who term c x = cond (who (client_of c)) (term c x) 0

-- a number of four parts is some clients' part by part
in_parts : (b : Bool) (i j k l : ℕ) → cond b (i + j + (k + l)) 0 ≡ cond b i 0 + cond b j 0 + (cond b k 0 + cond b l 0)
in_parts true i j k l = refl
in_parts false i j k l = refl

balanced : (cs : List Call) (t : Tables) → Valid t
    → weight used_bit (play cs t) + (sum_of releases_accepted cs (lent_of t) + sum_of requests_cancelled cs (lent_of t) + sum_of locks_purged cs (lent_of t) + sum_of polled_denials cs (lent_of t))
    ≡ weight used_bit t + sum_of requests_accepted cs (lent_of t)
unfolding play sum_of
balanced [] t val = omega arith
balanced (c ∷ cs) t val =
    rw (sum_is releases_accepted c cs t val, sum_is requests_cancelled c cs t val, sum_is locks_purged c cs t val, sum_is polled_denials c cs t val, sum_is requests_accepted c cs t val)
    (omega (arith, (stepped c t val).sums.balance, balanced cs (step_of c t).tables (stepped c t val).valid))

module _ (who : ℕ → Bool) where
  abbrev summed : (Call → Said → ℕ) → List Call → Tables → ℕ
  summed term cs t = sum_of (by_some who term) cs (lent_of t)

  heard : (cs : List Call) (t : Tables) → Valid t
      → weight (owes who) (play cs t) + (summed polled_completions cs t + summed cancels_accepted cs t + (summed purged_blocked cs t + summed purged_unread cs t))
      ≡ weight (owes who) t + summed answers_2 cs t
  unfolding play sum_of
  heard [] t val = omega arith
  heard (c ∷ cs) t val =
      let x = (step_of c t).said in
      rw (sum_is (by_some who polled_completions) c cs t val, sum_is (by_some who cancels_accepted) c cs t val, sum_is (by_some who purged_blocked) c cs t val, sum_is (by_some who purged_unread) c cs t val, sum_is (by_some who answers_2) c cs t val)
      (omega (
        arith,
        (stepped c t val).sums.heard who,
        in_parts (who (client_of c)) (polled_completions c x) (cancels_accepted c x) (purged_blocked c x) (purged_unread c x),
        heard cs (step_of c t).tables (stepped c t val).valid,
      ))

-- as a weight, the locks that are counted in the words
pub locks_are : (p : Lock → Bool) (t : Tables) → locks_that p (words t) ≡ weight (λ l. bit (p l)) t
locks_are p t = locks_kept p t ∙ weight_bits p t

demand : (cs : List Call) (t : Tables) → Valid t → ((f : Lock → ℕ) → f no_lock ≡ 0 → weight f t ≡ 0) → Demand cs (lent_of t)
demand cs t val none =
    record {
      queues = rw (after_is cs t val) (queues_hold (play cs t) (play_valid cs t val));
      sums = rw (after_is cs t val) (record {
        balance = omega (arith, locks_are (λ l. not (eqb l.state 0)) u, none used_bit refl, balanced cs t val);
        heard_once = counted (λ c. true);
        heard_by_each = λ i. counted (λ c. eqb c i);
      });
    }
  where
    u : Tables
    u = play cs t

    counted : (who : ℕ → Bool) → HeardSum (λ term. summed who term cs t) (λ p. locks_that (λ l. who l.client && p l) (words u))
    counted who =
        omega (
          arith,
          locks_are (λ l. who l.client && blocked_lock l) u,
          locks_are (λ l. who l.client && unread l) u,
          weight_owes who u,
          none (owes who) (steady_owes who).none,
          heard who cs t val,
        )

-- what start accepts, and what it leaves then
pub from_start : (P : Lent → Type 0) (r l : ℕ) → (Valid (started r l) → P (lent_of (started r l))) → (t : Lent) → (start_entry t r l).said.refusal ≡ 0 → P (start_entry t r l).lent_after
unfolding start_entry start_accepts
from_start P r l h t = go (start_accepts t.words t.slots r l) refl
  where
    go : (b : Bool) → start_accepts t.words t.slots r l ≡ b → (start_if b t r l).said.refusal ≡ 0 → P (start_if b t r l).lent_after
    go false e z = absurd (omega arith)
    go true e z =
        h (started_valid r l (leb-true 1 r (search parts depth 20)) (leb-true r most_resources (search parts depth 20)) (leb-true 1 l (search parts depth 20)) (leb-true l most_locks (search parts depth 20)))

pub queue_theorem : QueueTheorem
queue_theorem t r l accepted cs = from_start (Demand cs) r l (λ val. demand cs (started r l) val (started_none r l)) t accepted
