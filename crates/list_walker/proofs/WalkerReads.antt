-- What the code reads of the locks on a resource, from the words of a state.
use mathlib.Core.Path.{◌≡◌, refl, sym, ◌∙◌, ap, subst}
use mathlib.Core.Bool.{true, false, ◌&&◌, not}
use mathlib.Core.List.{List, ◌++◌, append_assoc}
use Prim.Native.Nat.{ℕ, zero, suc, ◌+◌, ◌-◌, ◌≤◌, ◌<◌, ◌^◌}
use native.Mathlib.Omega.{arith}
use native.Mathlib.Numerals.{add-one}
use lib.ListN.{get_or, length}
use lib.Dec.{eqb, ltb}
use borrow.Author.Rules.{rules}
use borrow.Author.Tests.{eqb-true, eqb-false, ltb-true, not-true, not-false, ne_eqb}
use Rattle.tables.specs.declared.Lock.{Lock}
use Rattle.tables.specs.Lists.{count, first, next}
use Rattle.tables.specs.State.{Resource, Tables, lock, resource, Queue, grants, converts, waits, queue_of, most_locks}
use Rattle.tables.specs.Layout.{of_resource, of_lock, queue_head, words, locks_in, word_in, read_lock}
use Rattle.tables.specs.Grants.{holders}
use Rattle.tables.proofs.Cases.{and_left}
use Rattle.tables.proofs.Links.{first_of, first_after}
use Rattle.tables.specs.Validity.{Core}
use Rattle.table_fields.specs.Sizes.{Sized}
use Rattle.table_fields.proofs.StateWords.{locks_is, lock_record}
use Rattle.table_chains.specs.Promises.{Some, Tells, Resourced}
use Rattle.table_chains.proofs.ChainWalks.{some_sized, queue_first, here_sized, here_low, here_high}
use Rattle.std.specs.Prelude as option
use Rattle.std.proofs.Common.{Bor}
use Rattle.std.specs.Iterator.{MakesProgress, at_most}
use Rattle.table_chains.proofs.NumberOrNone.{some_number}
use Rattle.list_walker.specs.declared.Walker.{Walker}
use Rattle.list_walker.specs.Order.{locks_on, first_on, queues_past, first_past, Queued, next_on, PlaceOn}
use Rattle.list_walker.specs.Walks.{Stands, Begins, Steps}
use Rattle.list_walker.proofs.ListsInARow.{first_at, at_on, at_inside, at_next}
use Rattle.list_walker.proofs.ResourceLocks.{Split, split_next, split_past, none_zero, resource_on, once_on, few_on, queued_at, queued_range, queued_resourced, split_here}

-- first_past: by the numbers of the state, and of the three heads
module _ (x : Resource) (g c w : ℕ) (eg : g ≡ first x.grant) (ec : c ≡ first x.convert) (ew : w ≡ first x.wait) (zg : count 0 x.grant ≡ 0) (zc : count 0 x.convert ≡ 0) where
  past_grant : (s : ℕ) → (ltb s 1 && not (eqb g 0)) ≡ true → g ≡ first (queues_past s x)
  past_grant zero h = eg ∙ sym (first_of x.grant (x.convert ++ x.wait) (λ z. eqb-false g 0 (not-true (eqb g 0) h) (eg ∙ z)))
  past_grant (suc s) h = absurd (omega (arith, ltb-true (suc s) 1 (and_left (ltb (suc s) 1) _ h)))

  none_granted : (s : ℕ) → (ltb s 1 && not (eqb g 0)) ≡ false → s ≡ 0 → first x.grant ≡ 0
  none_granted zero h e = sym eg ∙ eqb-true g 0 (not-false (eqb g 0) h)
  none_granted (suc s) h e = absurd (omega arith)

  past_convert : (s : ℕ) → (ltb s 1 && not (eqb g 0)) ≡ false → (ltb s 2 && not (eqb c 0)) ≡ true → c ≡ first (queues_past s x)
  past_convert zero n h =
      ec ∙ sym (first_of x.convert x.wait (λ z. eqb-false c 0 (not-true (eqb c 0) h) (ec ∙ z)))
      ∙ sym (first_after x.grant (x.convert ++ x.wait) zg (none_granted 0 n refl))
  past_convert (suc zero) n h = ec ∙ sym (first_of x.convert x.wait (λ z. eqb-false c 0 (not-true (eqb c 0) h) (ec ∙ z)))
  past_convert (suc (suc s)) n h = absurd (omega (arith, ltb-true (suc (suc s)) 2 (and_left (ltb (suc (suc s)) 2) _ h)))

  past_wait : (s : ℕ) → (ltb s 1 && not (eqb g 0)) ≡ false → (ltb s 2 && not (eqb c 0)) ≡ false → s < 3 → w ≡ first (queues_past s x)
  past_wait zero n h l =
      ew ∙ sym (first_after x.convert x.wait zc (sym ec ∙ eqb-true c 0 (not-false (eqb c 0) h)))
      ∙ sym (first_after x.grant (x.convert ++ x.wait) zg (none_granted 0 n refl))
  past_wait (suc zero) n h l = ew ∙ sym (first_after x.convert x.wait zc (sym ec ∙ eqb-true c 0 (not-false (eqb c 0) h)))
  past_wait (suc (suc zero)) n h l = ew
  past_wait (suc (suc (suc s))) n h l = absurd (omega arith)

past_end : (x : Resource) (s : ℕ) → 3 ≤ s → 0 ≡ first (queues_past s x)
past_end x s h = rw (ne_eqb s 0 (omega arith), ne_eqb s 1 (omega arith), ne_eqb s 2 (omega arith))

module _ (ws : List ℕ) (r s : ℕ) where
  heads : (t : Tables) → Resourced r t → ws ≡ words t → (q : Queue) → word_in ws (of_resource r (queue_head q)) ≡ first (queue_of q (resource t r))
  heads t p is q = queue_first r t p q ws is

  module _ (g : ℕ) (eg : g ≡ word_in ws (of_resource r 1)) where
    pub past_granted : (ltb s 1 && not (eqb g 0)) ≡ true → Tells (Resourced r) (first_past r s) ws g
    unfolding first_past
    past_granted h = record {
      then = λ t p is.
          past_grant (resource t r) g (first (resource t r).convert) (first (resource t r).wait) (eg ∙ heads t p is grants) refl refl
          (none_zero t p.core grants r) (none_zero t p.core converts r) s h;
    }

    module _ (n : (ltb s 1 && not (eqb g 0)) ≡ false) (c : ℕ) (ec : c ≡ word_in ws (of_resource r 2)) where
      pub past_converting : (ltb s 2 && not (eqb c 0)) ≡ true → Tells (Resourced r) (first_past r s) ws c
      unfolding first_past
      past_converting h = record {
        then = λ t p is.
            past_convert (resource t r) g c (first (resource t r).wait) (eg ∙ heads t p is grants) (ec ∙ heads t p is converts) refl
            (none_zero t p.core grants r) (none_zero t p.core converts r) s n h;
      }

      pub past_waiting : (ltb s 2 && not (eqb c 0)) ≡ false → s < 3 → (w : ℕ) → w ≡ word_in ws (of_resource r 3) → Tells (Resourced r) (first_past r s) ws w
      unfolding first_past
      past_waiting h l w ew = record {
        then = λ t p is.
            past_wait (resource t r) g c w (eg ∙ heads t p is grants) (ec ∙ heads t p is converts) (ew ∙ heads t p is waits)
            (none_zero t p.core grants r) (none_zero t p.core converts r) s n h l;
      }

  pub past_none : 3 ≤ s → Tells (Resourced r) (first_past r s) ws 0
  unfolding first_past
  past_none h = record { then = λ t p is. past_end (resource t r) s h }

pub ruleset past_laws = (rules, here_sized, here_low, here_high, past_granted, past_converting, past_waiting, past_none)

-- first_on
module _ (ws : List ℕ) (r x : ℕ) (told : Tells (Resourced r) (first_past r 0) ws x) where
  pub first_told : Tells (Resourced r) (first_on r) ws x
  unfolding first_past first_on locks_on holders
  first_told = record { then = λ t p is. told.then t p is ∙ ap first (sym (append_assoc (resource t r).grant (resource t r).convert (resource t r).wait)) }

pub ruleset first_laws = (rules, first_told)

-- following
module _ (ws : List ℕ) (k : ℕ) where
  pub queued_sized : Some (Queued k) ws → Sized ws
  queued_sized s = some_sized (record { state = s.state; good = s.good.core; is = s.is })

  pub queued_low : Some (Queued k) ws → 1 ≤ k
  queued_low s = (queued_range k s.state s.good).0

  pub queued_high : Some (Queued k) ws → k ≤ locks_in ws
  queued_high s = rw (locks_is s.state ws s.is) (queued_range k s.state s.good).1

  pub queued_record : (t : Tables) → Queued k t → ws ≡ words t → read_lock ws k ≡ lock t k
  queued_record t p is = lock_record t ws is k (queued_range k t p).0 (queued_range k t p).1

  module _ (n : ℕ) (en : n ≡ word_in ws (of_lock k 0)) where
    split : (t : Tables) (p : Queued k t) → ws ≡ words t → Split k n (locks_on (lock t k).resource t) (queues_past (lock t k).state (resource t (lock t k).resource))
    split t p is = split_here t p.core ws is (lock t k).resource k p.on n en

    pub follows_link : (n ≡ 0 → ⊥) → Tells (Queued k) (next_on k) ws n
    unfolding next_on
    follows_link m = record { then = λ t p is. split_next k n _ _ (split t p is) m }

    module _ (e : n ≡ 0) (l : Lock) (el : l ≡ read_lock ws k) where
      pub follows_past : (x : ℕ) → Tells (Resourced l.resource) (first_past l.resource l.state) ws x → Tells (Queued k) (next_on k) ws x
      unfolding next_on first_past
      follows_past x told = record {
        then = λ t p is.
            let same : l ≡ lock t k = el ∙ queued_record t p is in
            (subst (λ (m : Lock). Tells (Resourced m.resource) (first_past m.resource m.state) ws x) same told).then t (queued_resourced k t p) is
            ∙ split_past k n _ _ (split t p is) e;
      }

  pub follows_resourced : (l : Lock) → l ≡ read_lock ws k → Some (Queued k) ws → Some (Resourced l.resource) ws
  follows_resourced l el s =
      subst (λ (m : Lock). Some (Resourced m.resource) ws) (sym (el ∙ queued_record s.state s.good s.is))
      (record { state = s.state; good = queued_resourced k s.state s.good; is = s.is })

pub ruleset follow_laws = (rules, queued_sized, queued_low, queued_high, follows_link, follows_resourced, follows_past)

-- WALKER. It begins at the first lock on r
module _ (ws : List ℕ) (r x : ℕ) (told : Tells (Resourced r) (first_on r) ws x) where
  first_place : (t : Tables) → Resourced r t → ws ≡ words t → PlaceOn r 0 x t
  unfolding first_on
  first_place t p is = record { there = p; near = omega arith; here = told.then t p is ∙ first_at (locks_on r t) }

  pub walker_begins : (lent : Bor (List ℕ)) → lent.now ≡ ws → Some (Resourced r) ws → Begins ws r (record { words = lent; given = 0; lock = x })
  walker_begins lent e s = record {
    lent = e;
    none = refl;
    some = record { state = s.state; resource = r; good = first_place s.state s.good s.is; is = e ∙ s.is };
    place = first_place;
  }

pub ruleset new_laws = (rules, walker_begins)

-- at the place n of those on r it stands at the lock k, and goes to the next place
module _ (r n k : ℕ) (t : Tables) (p : PlaceOn r n k t) (m : k ≡ 0 → ⊥) where
  core : Core t
  core = p.there.core

  pub place_inside : n < length (locks_on r t)
  place_inside = at_inside (locks_on r t) n (λ z. m (p.here ∙ z))

  place_queued : Queued k t
  place_queued = subst (λ (j : ℕ). Queued j t) (sym p.here) (queued_at t core r n place_inside)

  place_follows : next_on k t ≡ get_or (locks_on r t) (suc n) 0
  unfolding next_on
  place_follows =
      ap (λ (s : ℕ). next k (locks_on s t)) (resource_on t core r k (rw p.here (at_on (locks_on r t) n place_inside)))
      ∙ ap (λ (j : ℕ). next j (locks_on r t)) p.here ∙ at_next (locks_on r t) n (once_on t core r) place_inside

  place_next : PlaceOn r (n + 1) (next_on k t) t
  place_next = rw (add-one n) (record { there = p.there; near = place_inside; here = place_follows })

module _ (w : Walker) (s : Stands w) (m : w.lock ≡ 0 → ⊥) where
  inside : (w.given < locks_in w.words.now) × (w.given < most_locks)
  inside =
      let core = s.good.there.core in
      let h = place_inside s.resource w.given w.lock s.state s.good m in
      let few = few_on s.state core s.resource in
      (omega (arith, locks_is s.state w.words.now s.is), omega (arith, core.locks_high))

  pub stands_queued : Some (Queued w.lock) w.words.now
  stands_queued = record { state = s.state; good = place_queued s.resource w.given w.lock s.state s.good m; is = s.is }

  pub stands_few : w.given + 1 < 2 ^ 32
  stands_few = omega (arith, inside.1)

  module _ (y : ℕ) (told : Tells (Queued w.lock) (next_on w.lock) w.words.now y) where
    abbrev gone : Walker
    gone = record { words = w.words; given = w.given + 1; lock = y }

    next_place : (r : ℕ) (t : Tables) → PlaceOn r w.given w.lock t → w.words.now ≡ words t → PlaceOn r (w.given + 1) y t
    next_place r t p is =
        subst (λ (x : ℕ). PlaceOn r (w.given + 1) x t) (sym (told.then t (place_queued r w.given w.lock t p m) is)) (place_next r w.given w.lock t p m)

    next_stands : Stands gone
    next_stands = record { state = s.state; resource = s.resource; good = next_place s.resource s.state s.good s.is; is = s.is }

    pub walker_steps : Steps w (option.Some w.lock) gone
    walker_steps = record {
      same = refl;
      gives = some_number w.lock m;
      one_more = λ k e. refl;
      place = λ k e. next_place;
    }

    pub walker_goes : MakesProgress Stands (λ w. at_most (locks_in w.words.now - w.given)) w (option.Some w.lock) gone
    walker_goes = record {
      on = λ f. (next_stands, tt, omega (arith, inside.0));
      keeps = next_stands;
      rests = λ f. tt;
    }

  -- the same of v, which is w one lock further
  module _ (v : Walker) (same : (v.words ≡ w.words) × (v.given ≡ w.given)) (told : Tells (Queued w.lock) (next_on w.lock) w.words.now v.lock) where
    abbrev counted : Walker
    counted = record { words = v.words; given = v.given + 1; lock = v.lock }

    pub step_steps : Steps w (option.Some w.lock) counted
    step_steps = rw (same.0, same.1) (walker_steps v.lock told)

    pub step_goes : MakesProgress Stands (λ w. at_most (locks_in w.words.now - w.given)) w (option.Some w.lock) counted
    step_goes = rw (same.0, same.1) (walker_goes v.lock told)

pub ruleset walker_laws = (rules, stands_queued, stands_few, step_steps, step_goes)
