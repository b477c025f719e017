-- Who holds EX: the walk along a queue, the queues of a resource, and the resource of a name.
use mathlib.Core.Path.{◌≡◌, refl, sym, ap, ◌∙◌}
use mathlib.Core.Bool.{Bool, true}
use mathlib.Core.List.{List, [], ◌∷◌, ◌++◌}
use Prim.Native.Nat.{ℕ, zero, suc, ◌≤◌}
use native.Mathlib.Omega.{arith}
use borrow.Author.Rules.{rules}
use borrow.Author.Tests.{eqb-true}
use Rattle.std.specs.Prelude.{Option, Some, None}
use lib.Dec.{eqb}
use lib.ListN.{length}
use Rattle.tables.specs.Lists.{count, first_that, from, same, within}
use Rattle.tables.specs.State.{Tables, lock, resource, Queue, grants, converts, queue, queue_of}
use Rattle.tables.specs.Layout.{of_resource, of_lock, queue_head, words, read, locks_in, word_in, onward, read_lock, held_in}
use Rattle.tables.specs.Grants.{holders}
use Rattle.tables.specs.Sound.{sound}
use Rattle.tables.specs.Numbered.{numbered}
use Rattle.tables.specs.declared.Lock.{Lock}
use Rattle.tables.specs.Validity.{LockOk, as_free, as_granted, as_converting, as_waiting, as_denied}
use Rattle.tables.proofs.Cases.{by_cases}
use Rattle.tables.proofs.Counts.{count_same, count_step, count_append, count_from, bit_one, first_in, first_passes, first_here, first_later, first_cong}
use Rattle.tables.proofs.Written.{Writes, sound_written}
use Rattle.tables.proofs.ChainMembers.{holder_range}
use Rattle.rules.specs.Queues.{find}
use Rattle.rules.specs.Images.{holder_of, ex}
use Rattle.table_fields.specs.Sizes.{Sized}
use Rattle.table_fields.proofs.StateWords.{locks_is, core_sized, word_is}
use Rattle.table_names.specs.Names.{find_in}
use Rattle.table_names.proofs.StateNames.{sound_find}
use Rattle.table_chains.specs.Promises as promise
use Rattle.table_chains.specs.Promises.{Tells, Resourced}
use Rattle.table_chains.proofs.NumberOrNone.{some_number, is_number, none_is, above_none}
use Rattle.table_chains.specs.Walking.{first_with}
use Rattle.table_chains.proofs.ChainWalks.{walk_sized, walk_low, walk_high, walk_less, Seeking, seeking_starts, seeking_found, seeking_on, seeking_ends, queue_onward, here_sized, here_low, here_high, here_grants, here_converts}
use Rattle.entry_holder.specs.Promises.{ex_lock}

-- the first that passes a test on two lists in a row
module _ (p : ℕ → Bool) where
  first_left : (xs ys : List ℕ) → (first_that p xs ≡ 0 → ⊥) → first_that p (xs ++ ys) ≡ first_that p xs
  first_left [] ys n = absurd (n (unfold first_that in refl))
  first_left (x ∷ xs) ys n =
      by_cases (p x)
      (λ h. first_here p x (xs ++ ys) h ∙ sym (first_here p x xs h))
      (λ h. first_later p x (xs ++ ys) h ∙ first_left xs ys (λ e. n (first_later p x xs h ∙ e)) ∙ sym (first_later p x xs h))

  first_right : (xs ys : List ℕ) → count 0 xs ≡ 0 → first_that p xs ≡ 0 → first_that p (xs ++ ys) ≡ first_that p ys
  first_right [] ys z e = refl
  first_right (x ∷ xs) ys z e =
      by_cases (p x)
      (λ h. let q : x ≡ 0 = sym (first_here p x xs h) ∙ e in absurd (omega (arith, rw (q, count_same) at z)))
      (λ h. first_later p x (xs ++ ys) h ∙ first_right xs ys (omega (arith, count_step 0 x xs)) (sym (first_later p x xs h) ∙ e))

-- ex_from
module _ (ws : List ℕ) (f g v start k : ℕ) (i : Seeking ws f g v start k) where
  pub found_lock : (k ≡ 0 → ⊥) → (x : ℕ) → x ≡ word_in ws (of_lock k g) → x ≡ v → Some k ≡ numbered (first_with ws f g v start)
  found_lock n x e h = some_number k n ∙ ap numbered (seeking_found ws f g v start k i n x e h)

  pub found_none : k ≡ 0 → None ≡ numbered (first_with ws f g v start)
  found_none e = ap numbered (seeking_ends ws f g v start k i e)

pub ruleset seeking = (rules, walk_sized, walk_low, walk_high, walk_less, seeking_starts, found_lock, seeking_on, found_none)

-- ex_lock: the queues of a resource of a state, by its words
module _ (ws : List ℕ) (r : ℕ) (t : Tables) (p : Resourced r t) (is : ws ≡ words t) where
  held_there : (j : ℕ) → 1 ≤ count j (holders t r) → held_in ws j ≡ (lock t j).held
  unfolding read_lock
  held_there j m = word_is t ws is (of_lock j 6) (let i = holder_range t p.core.linked r j m in (i.0, i.1, omega arith))

  -- the first that holds EX on a queue whose locks hold a mode there
  queue_ex : (q : Queue) (x : ℕ) → x ≡ word_in ws (of_resource r (queue_head q)) → ((j : ℕ) → 1 ≤ count j (queue_of q (resource t r)) → 1 ≤ count j (holders t r)) → first_with ws 0 6 ex x ≡ first_that (λ k. eqb (lock t k).held ex) (queue_of q (resource t r))
  unfolding first_with read_lock
  queue_ex q x e h =
      ap (λ (i : ℕ). first_that (λ k. eqb (held_in ws k) ex) (onward ws 0 i)) e ∙ ap (first_that (λ k. eqb (held_in ws k) ex)) (queue_onward r t p q ws is)
      ∙ first_cong _ _ (queue_of q (resource t r)) (λ j m. ap (λ (i : ℕ). eqb i ex) (held_there j (h j m)))

  granted_ex : (x : ℕ) → x ≡ word_in ws (of_resource r 1) → first_with ws 0 6 ex x ≡ first_that (λ k. eqb (lock t k).held ex) (resource t r).grant
  granted_ex x e = queue_ex grants x e (λ j m. unfold holders in rw count_append (omega arith))

  converting_ex : (x : ℕ) → x ≡ word_in ws (of_resource r 2) → first_with ws 0 6 ex x ≡ first_that (λ k. eqb (lock t k).held ex) (resource t r).convert
  converting_ex x e = queue_ex converts x e (λ j m. unfold holders in rw count_append (omega arith))

  ex_there : (k : ℕ) → k ≡ ex_lock r t → 1 ≤ k → (1 ≤ k) × (k ≤ length t.locks)
  unfolding ex_lock
  ex_there zero e n = absurd (omega arith)
  ex_there (suc k) e n = holder_range t p.core.linked r (suc k) (first_in (λ k. eqb (lock t k).held ex) (holders t r) k (sym e))

  -- it is held by somebody
  ex_held : (k : ℕ) → k ≡ ex_lock r t → 1 ≤ k → (lock t k).held ≡ ex
  unfolding ex_lock
  ex_held zero e n = absurd (omega arith)
  ex_held (suc k) e n = eqb-true (lock t (suc k)).held ex (first_passes (λ k. eqb (lock t k).held ex) (holders t r) k (sym e))

client_set : (u : ℕ → Bool) (l : Lock) → LockOk u l → l.held ≡ ex → 1 ≤ l.client
client_set u l (as_free e) h = let z : 0 ≡ ex = rw e at h in absurd (omega (arith, z))
client_set u l (as_granted s o) h = o.place.client_low
client_set u l (as_converting s o) h = o.place.client_low
client_set u l (as_waiting s o) h = o.place.client_low
client_set u l (as_denied s o) h = o.client_low

module _ (ws : List ℕ) (r x : ℕ) (head : x ≡ word_in ws (of_resource r 1)) (o : Option ℕ) (eo : o ≡ numbered (first_with ws 0 6 ex x)) where
  pub ex_granted : (k : ℕ) → o ≡ Some k → Tells (Resourced r) (λ t. numbered (ex_lock r t)) ws (Some k)
  unfolding ex_lock holders
  ex_granted k q = record {
    then = λ t p is.
        let e = granted_ex ws r t p is x head in
        let low = above_none k (first_with ws 0 6 ex x) (sym q ∙ eo) in
        let same = is_number k (first_with ws 0 6 ex x) (sym q ∙ eo) in
        sym q ∙ eo ∙ ap numbered (e ∙ sym (first_left (λ k. eqb (lock t k).held ex) (resource t r).grant (resource t r).convert (λ z. let b : k ≡ 0 = same ∙ e ∙ z in omega arith)));
  }

  pub ex_converting : o ≡ None → (y : ℕ) (z : Option ℕ) → y ≡ word_in ws (of_resource r 2) → z ≡ numbered (first_with ws 0 6 ex y) → Tells (Resourced r) (λ t. numbered (ex_lock r t)) ws z
  unfolding ex_lock holders
  ex_converting n y z ey ez = record {
    then = λ t p is.
        ez
        ∙ ap numbered (converting_ex ws r t p is y ey
        ∙ sym (first_right (λ k. eqb (lock t k).held ex) (resource t r).grant (resource t r).convert (p.core.linked (queue r grants) 0) (sym (granted_ex ws r t p is x head) ∙ none_is (first_with ws 0 6 ex x) (sym n ∙ eo))));
  }

pub ruleset ex_locking = (rules, here_sized, here_low, here_high, here_grants, here_converts, ex_granted, ex_converting)

-- ex_holder
find_there : (n : List ℕ) (t : Tables) (r : ℕ) → r ≡ find n t → (r ≡ 0 → ⊥) → within (length t.resources) r ≡ true
unfolding find
find_there n t zero e f = absurd (f refl)
find_there n t (suc r) e f =
    bit_one (within (length t.resources) (suc r))
    (rw (count_from (length t.resources) (suc r)) at (first_in (λ r. same (resource t r).name n) (from 1 (length t.resources)) r (sym e)))

module _ (ws ss n : List ℕ) (h : sound ws ss ≡ true) where
  w : Writes ws ss (read ws ss)
  w = sound_written ws ss h

  found : find_in ws ss n ≡ find n (read ws ss)
  found = sound_find n ws ss h

  pub holder_none : (o : Option ℕ) → o ≡ numbered (find_in ws ss n) → o ≡ None → (x : Option ℕ) → x ≡ None → x ≡ numbered (holder_of (find n (read ws ss)) (read ws ss))
  unfolding holder_of holders resource first_that lock
  holder_none o eo q x ex = ex ∙ ap (λ (i : ℕ). numbered (holder_of i (read ws ss))) (sym (none_is (find_in ws ss n) (sym q ∙ eo)) ∙ found)

  module _ (r : ℕ) (er : Some r ≡ numbered (find_in ws ss n)) where
    there : Resourced r (read ws ss)
    there = record {
      core = w.valid.core;
      in_range = find_there n (read ws ss) r (is_number r (find_in ws ss n) er ∙ found) (λ z. let q = above_none r (find_in ws ss n) er in omega arith);
    }

    pub holder_resourced : promise.Some (Resourced r) ws
    holder_resourced = record { state = read ws ss; good = there; is = w.is }

    lock_is : (lock (read ws ss) (ex_lock r (read ws ss))).client ≡ holder_of (find n (read ws ss)) (read ws ss)
    unfolding holder_of ex_lock
    lock_is =
        let e = is_number r (find_in ws ss n) er ∙ found in
        ap (λ (q : ℕ). (lock (read ws ss) (ex_lock q (read ws ss))).client) e ∙ ap (λ (q : ℕ). holder_of q (read ws ss)) refl

    pub holder_nobody : (o : Option ℕ) → Tells (Resourced r) (λ t. numbered (ex_lock r t)) ws o → o ≡ None → (x : Option ℕ) → x ≡ None → x ≡ numbered (holder_of (find n (read ws ss)) (read ws ss))
    unfolding lock
    holder_nobody o told q x ex =
        ex ∙ ap numbered (ap (λ (i : ℕ). (lock (read ws ss) i).client) (sym (none_is (ex_lock r (read ws ss)) (sym q ∙ told.then (read ws ss) there w.is))) ∙ lock_is)

    module _ (k : ℕ) (told : Tells (Resourced r) (λ t. numbered (ex_lock r t)) ws (Some k)) where
      k_is : k ≡ ex_lock r (read ws ss)
      k_is = is_number k (ex_lock r (read ws ss)) (told.then (read ws ss) there w.is)

      pub holder_low : 1 ≤ k
      holder_low = above_none k (ex_lock r (read ws ss)) (told.then (read ws ss) there w.is)

      range : (1 ≤ k) × (k ≤ length (read ws ss).locks)
      range = ex_there ws r (read ws ss) there w.is k k_is holder_low

      pub holder_sized : Sized ws
      holder_sized = core_sized (read ws ss) ws w.is w.valid.core

      pub holder_high : k ≤ locks_in ws
      holder_high = rw (locks_is (read ws ss) ws w.is) range.1

      pub holder_client : (x : ℕ) → x ≡ word_in ws (of_lock k 4) → Some x ≡ numbered (holder_of (find n (read ws ss)) (read ws ss))
      holder_client x e =
          let is : x ≡ (lock (read ws ss) k).client = e ∙ word_is (read ws ss) ws w.is (of_lock k 4) (range.0, range.1, omega arith) in
          let set = client_set _ (lock (read ws ss) k) (w.valid.core.lock_ok k) (ex_held ws r (read ws ss) there w.is k k_is holder_low) in
          some_number x (λ z. omega arith) ∙ ap numbered (is ∙ ap (λ (i : ℕ). (lock (read ws ss) i).client) k_is ∙ lock_is)

pub ruleset ex_holding = (rules, holder_none, holder_resourced, holder_nobody, holder_sized, holder_low, holder_high, holder_client)
