-- A lock that waits only because others do: nobody is in its way, and nobody is told.
use mathlib.Core.Path.{◌≡◌, refl, sym, ◌∙◌, ap}
use mathlib.Core.Bool.{Bool, true, false, ◌&&◌, ◌||◌, not}
use mathlib.Core.List.{List, [], ◌∷◌}
use Prim.Native.Nat.{ℕ, ◌<◌, ◌≤◌}
use lib.Dec.{eqb}
use borrow.Author.Rules.{rules}
use Rattle.modes.specs.Modes.{compatible}
use Rattle.modes.specs.Sets.{fits_set}
use Rattle.tables.specs.declared.Lock.{Lock}
use Rattle.tables.specs.Lists.{all, keep}
use Rattle.tables.specs.State.{Tables, lock}
use Rattle.tables.specs.Layout.{words, resources_in, read_lock}
use Rattle.tables.specs.Grants.{holders, fits, convert_grantable}
use Rattle.tables.proofs.Cases.{and_left, and_right}
use Rattle.rules.specs.Deadlock.{in_the_way, obstacles}
use Rattle.rules.specs.Calls.{mark_locks, tell_obstacles}
use Rattle.table_fields.specs.declared.ModeCounts.{ModeCounts}
use Rattle.table_fields.specs.Records.{read_counts}
use Rattle.table_fields.proofs.StateWords.{lock_is}
use Rattle.table_chains.specs.Promises.{Some, Turns, Tells}
use Rattle.table_chains.proofs.LockLimits.{asked_few}
use Rattle.deadlock_graph.proofs.LineAhead.{line_has}
use Rattle.queues.specs.Holders.{modes_beside, own_mode}
use Rattle.queues.specs.Decisions.{admits_head}
use Rattle.queues.proofs.Decisions.{others_fit, head_told}
use Rattle.marks.specs.Promises.{Begun}
use Rattle.marks.proofs.ToldQueues.{begun_place, begun_sized, begun_low, begun_high, begun_there, begun_within}

-- ON A STATE
kept_none : (k : ℕ) (p : ℕ → Bool) (xs : List ℕ) → all (λ j. eqb j k || p j) xs ≡ true → keep (λ j. not (eqb j k) && not (p j)) xs ≡ []
unfolding all keep
kept_none k p [] h = refl
kept_none k p (x ∷ xs) h = rw (passes (eqb x k) (p x) (and_left (eqb x k || p x) _ h)) (kept_none k p xs (and_right (eqb x k || p x) _ h))
  where
    passes : (a b : Bool) → (a || b) ≡ true → (not a && not b) ≡ false
    passes true b e = refl
    passes false true e = refl
    passes false false e = sym e

nobody_told : (k : ℕ) (t : Tables) → fits t (lock t k).resource k (lock t k).asked ≡ true → tell_obstacles k t ≡ t
unfolding fits tell_obstacles obstacles in_the_way mark_locks
nobody_told k t h =
    ap (λ (xs : List ℕ). mark_locks (lock t k).asked xs t)
    (kept_none k (λ j. compatible (lock t j).held (lock t k).asked) (holders t (lock t k).resource) h)

-- BY THE WORDS
module _ (k : ℕ) (ws : List ℕ) (l : Lock) (el : l ≡ read_lock ws k) where
  l_is : (t : Tables) → Begun k t → ws ≡ words t → l ≡ lock t k
  l_is t p is = lock_is t ws is k (begun_place k t p).0 l el

  pub way_asks : Some (Begun k) ws → l.asked < 6
  way_asks s = rw (l_is s.state s.good s.is) (asked_few s.state s.good.core k)

  pub way_there : Some (Begun k) ws → 1 ≤ l.resource
  unfolding read_lock
  way_there s = begun_there k ws l.resource (ap (λ (x : Lock). x.resource) el) s

  pub way_within : Some (Begun k) ws → l.resource ≤ resources_in ws
  unfolding read_lock
  way_within s = begun_within k ws l.resource (ap (λ (x : Lock). x.resource) el) s

  pub way_told : (c : ModeCounts) → c ≡ read_counts ws l.resource → (s : ℕ) → (s ≡ modes_beside c (own_mode l)) × (s < 64) → (b : Bool) → b ≡ fits_set s l.asked
      → Tells (Begun k) (λ t. fits t (lock t k).resource k (lock t k).asked) ws b
  unfolding convert_grantable
  way_told c ec s es b eb = record {
    then = λ t p is.
        others_fit c l s es b eb
        ∙ ap (λ (x : ModeCounts). admits_head x l) ec
        ∙ ap (λ (x : Lock). admits_head (read_counts ws x.resource) x) (l_is t p is)
        ∙ head_told (lock t k).resource t (record { core = p.core; in_range = (begun_place k t p).1 }) ws is k (line_has t p.core k p.is_blocked) (asked_few t p.core k);
  }

pub told_nobody : (k : ℕ) (ws : List ℕ) (b : Bool) → Tells (Begun k) (λ t. fits t (lock t k).resource k (lock t k).asked) ws b → b ≡ true → Turns (Begun k) (tell_obstacles k) ws ws
told_nobody k ws b told h = record { then = λ t p is. is ∙ ap words (sym (nobody_told k t (sym (told.then t p is) ∙ h))) }

pub ruleset way_laws = (rules, begun_sized, begun_low, begun_high, way_asks, way_there, way_within, way_told, told_nobody)
