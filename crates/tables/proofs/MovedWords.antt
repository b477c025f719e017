-- The specification's move is the step-wise one: so what it does to the words.
use mathlib.Core.Path.{◌≡◌, refl, sym, ◌∙◌, ap}
use mathlib.Core.Logic.{◌≢◌}
use mathlib.Core.Bool.{Bool, true, false}
use mathlib.Core.List.{List, [], ◌∷◌, ◌++◌}
use Prim.Native.Nat.{ℕ, zero, suc, ◌≤◌}
use native.Mathlib.Omega.{arith}
use lib.ListN.{length}
use lib.Seq.{ext_get_or}
use lib.Dec.{eqb}
use borrow.Author.Tests.{eqb-true, eq-eqb}
use Rattle.tables.specs.Lists.{within, count, bit, remove}
use Rattle.tables.specs.State.{Lock, Resource, Tables, no_resource, lock, resource, granted, converting, waiting, Queue, grants, converts, waits, LockChain, free_locks, denied, blocked, notices, queue, of_locks, chain, home_at, home, belongs, shift, shift_front, relist, move}
use Rattle.tables.proofs.Cases.{by_cases, clash, and_left, and_right, and_intro}
use Rattle.tables.proofs.Counts.{within_le, remove_absent, shift_off}
use Rattle.tables.specs.Threads.{Present}
use Rattle.tables.proofs.Chains.{chain?, with_queue, home_past}
use Rattle.tables.proofs.Frame.{Homed, homed}
use Rattle.tables.specs.Stores.{Counts, words_with, stays, move_cells}
use Rattle.tables.specs.Threads.{Whole}
use Rattle.tables.proofs.MoveSteps.{stays_home, move_steps, move_words, sane_move, locks_move, blocked_move, notices_move, move_removes, move_keeps, move_pushes, move_joins, free_resources_move, rest_move}
use Rattle.tables.specs.Validity.{used, LockOk, Core, Near}
use Rattle.tables.proofs.StateCases.{StateOk, ok_numbered}
use Rattle.tables.proofs.Valid.{enter, ok_at, resources_length, field_move, chain_move}
use Rattle.tables.proofs.ThreadedChains.{belongs_home}
use Rattle.tables.proofs.Wholeness.{home_belongs, present_home, stands_count, core_whole}

-- how a lock comes to be on a chain, or off it
pub front_off : (b : Bool) (k : ℕ) (xs : List ℕ) → count k xs ≡ bit b → shift_front b false k xs ≡ remove k xs
unfolding shift_front
front_off true k xs h = refl
front_off false k xs h = sym (remove_absent k xs h)

enter_off : (c : LockChain) (b d : Bool) (k : ℕ) (xs : List ℕ) → d ≡ false → count k xs ≡ bit b → enter c b d k xs ≡ remove k xs
enter_off free_locks b d k xs e h = rw e (front_off b k xs h)
enter_off denied b d k xs e h = rw e (shift_off b k xs h)
enter_off blocked b d k xs e h = rw e (shift_off b k xs h)
enter_off notices b d k xs e h = rw e (shift_off b k xs h)
enter_off (queue r grants) b d k xs e h = rw e (shift_off b k xs h)
enter_off (queue r converts) b d k xs e h = rw e (shift_off b k xs h)
enter_off (queue r waits) b d k xs e h = rw e (shift_off b k xs h)

enter_kept : (c : LockChain) (b d : Bool) (k : ℕ) (xs : List ℕ) → b ≡ true → d ≡ true → enter c b d k xs ≡ xs
unfolding shift shift_front
enter_kept free_locks b d k xs e f = rw (e, f)
enter_kept denied b d k xs e f = rw (e, f)
enter_kept blocked b d k xs e f = rw (e, f)
enter_kept notices b d k xs e f = rw (e, f)
enter_kept (queue r grants) b d k xs e f = rw (e, f)
enter_kept (queue r converts) b d k xs e f = rw (e, f)
enter_kept (queue r waits) b d k xs e f = rw (e, f)

enter_front : (s r : ℕ) (b d : Bool) (k : ℕ) (xs : List ℕ) → b ≡ false → d ≡ true → eqb s 0 ≡ true → enter (home_at s r) b d k xs ≡ k ∷ xs
unfolding shift_front
enter_front zero r b d k xs e f z = rw (e, f)
enter_front (suc s) r b d k xs e f z = absurd (omega (arith, eqb-true (suc s) 0 z))

enter_end : (s r : ℕ) (b d : Bool) (k : ℕ) (xs : List ℕ) → b ≡ false → d ≡ true → eqb s 0 ≡ false → enter (home_at s r) b d k xs ≡ xs ++ (k ∷ [])
unfolding shift
enter_end zero r b d k xs e f z = clash true refl z
enter_end (suc zero) r b d k xs e f z = rw (e, f)
enter_end (suc (suc zero)) r b d k xs e f z = rw (e, f)
enter_end (suc (suc (suc zero))) r b d k xs e f z = rw (e, f)
enter_end (suc (suc (suc (suc s)))) r b d k xs e f z = rw (home_past (suc (suc (suc (suc s)))) r (omega arith), e, f)

-- a lock whose home stays keeps its state and its resource
home_stays : (u : ℕ → Bool) (l m : Lock) → LockOk u l → LockOk u m → home l ≡ home m → stays l m ≡ true
unfolding stays
home_stays u l m old new h = go l.state refl (ok_numbered old) (ap (λ (c : LockChain). belongs c m) h ∙ home_belongs u m new)
  where
    both : l.state ≡ m.state → l.resource ≡ m.resource → stays l m ≡ true
    both e f = and_intro _ _ (eq-eqb l.state m.state e) (eq-eqb l.resource m.resource f)

    go : (s : ℕ) → l.state ≡ s → StateOk u l s → belongs (home_at s l.resource) m ≡ true → stays l m ≡ true
    go zero e o b = both (e ∙ sym (eqb-true m.state 0 b)) (ap (λ (x : Lock). x.resource) (o ∙ sym (ok_at u m 0 new b)))
    go (suc zero) e o b = both (e ∙ sym (eqb-true m.state 1 (and_left _ _ b))) (sym (eqb-true m.resource l.resource (and_right (granted m) _ b)))
    go (suc (suc zero)) e o b = both (e ∙ sym (eqb-true m.state 2 (and_left _ _ b))) (sym (eqb-true m.resource l.resource (and_right (converting m) _ b)))
    go (suc (suc (suc zero))) e o b = both (e ∙ sym (eqb-true m.state 3 (and_left _ _ b))) (sym (eqb-true m.resource l.resource (and_right (waiting m) _ b)))
    go (suc (suc (suc (suc zero)))) e o b = both (e ∙ sym (eqb-true m.state 4 b)) (o.nowhere ∙ sym (ok_at u m 4 new b).nowhere)
    go (suc (suc (suc (suc (suc s))))) e o b = absurd o

module _ (k : ℕ) (m : Lock) (t : Tables) (core : Core t) (in_range : within (length t.locks) k ≡ true) (ok : LockOk (used t) m) where
  low : 1 ≤ k
  low = (within_le (length t.locks) k in_range).0

  high : k ≤ length t.locks
  high = (within_le (length t.locks) k in_range).1

  whole : Whole (length t.resources) (length t.locks) t
  whole = core_whole t core

  new : Present t (of_locks (home m))
  new = present_home t m ok

  was : (c : LockChain) → count k (chain t c) ≡ bit (belongs c (lock t k))
  was c = stands_count t core c k low high

  -- where it comes to stand
  kept_there : stays (lock t k) m ≡ true → belongs (home m) (lock t k) ≡ true
  kept_there s = ap (λ (c : LockChain). belongs c (lock t k)) (stays_home (lock t k) m s) ∙ home_belongs (used t) (lock t k) (core.lock_ok k)

  not_there : stays (lock t k) m ≡ false → belongs (home m) (lock t k) ≡ false
  not_there s =
      by_cases (belongs (home m) (lock t k))
      (λ b. clash (stays (lock t k) m) (home_stays (used t) (lock t k) m (core.lock_ok k) ok (belongs_home (home m) (lock t k) (homed m.state m.resource) b)) s)
      (λ b. b)

  absent_there : stays (lock t k) m ≡ false → remove k (chain t (home m)) ≡ chain t (home m)
  absent_there s = remove_absent k (chain t (home m)) (was (home m) ∙ ap bit (not_there s))

  home_steps : chain (move_steps k m t) (home m) ≡ enter (home m) (belongs (home m) (lock t k)) (belongs (home m) m) k (chain t (home m))
  home_steps =
      let here = home_belongs (used t) m ok in
      by_cases (stays (lock t k) m)
      (λ s. move_keeps _ _ t whole k m low high new s ∙ sym (enter_kept (home m) _ _ k (chain t (home m)) (kept_there s) here))
      (λ s. by_cases (eqb m.state 0)
      (λ z. move_pushes _ _ t whole k m low high new s z ∙ ap (λ (xs : List ℕ). k ∷ xs) (absent_there s) ∙ sym (enter_front m.state m.resource _ _ k (chain t (home m)) (not_there s) here z))
      (λ z. move_joins _ _ t whole k m low high new s z ∙ ap (λ (xs : List ℕ). xs ++ (k ∷ [])) (absent_there s) ∙ sym (enter_end m.state m.resource _ _ k (chain t (home m)) (not_there s) here z)))

  away_steps : (c : LockChain) → Homed (of_locks c) → Present t (of_locks c) → of_locks c ≢ of_locks (home m) → chain (move_steps k m t) c ≡ enter c (belongs c (lock t k)) (belongs c m) k (chain t c)
  away_steps c x p n =
      move_removes _ _ t whole k m low high new (of_locks c) x p n
      ∙ sym (enter_off c (belongs c (lock t k)) (belongs c m) k (chain t c) (by_cases (belongs c m) (λ b. absurd (n (ap of_locks (sym (belongs_home c m x b))))) (λ b. b)) (was c))

  homed_steps : (c : LockChain) → Homed (of_locks c) → Present t (of_locks c) → chain (move_steps k m t) c ≡ enter c (belongs c (lock t k)) (belongs c m) k (chain t c)
  homed_steps c x p =
      elim (chain? (of_locks c) (of_locks (home m))) [
        | yes e ↦ let f : c ≡ home m = cc in rw f home_steps
        | no n ↦ away_steps c x p n
      ]

  -- what the steps do to each chain
  pub chain_steps : (c : LockChain) → Present t (of_locks c) → chain (move_steps k m t) c ≡ enter c (belongs c (lock t k)) (belongs c m) k (chain t c)
  chain_steps free_locks p = homed_steps free_locks tt p
  chain_steps denied p = homed_steps denied tt p
  chain_steps blocked p = blocked_move _ _ t whole k m low high new
  chain_steps notices p = notices_move _ _ t whole k m low high new
  chain_steps (queue s q) p = homed_steps (queue s q) tt p

  module _ (r : ℕ) (near_old : Near r (lock t k)) (near_new : Near r m) where
    same_chain : (c : LockChain) → Present t (of_locks c) → chain (move r k m t) c ≡ chain (move_steps k m t) c
    same_chain c p = chain_move r k m t (core.lock_ok k) ok near_old near_new c ∙ sym (chain_steps c p)

    same_rest : {B : Type 0} (f : Resource → B) → ((l : Lock) (x : Resource) → f (relist k l m x) ≡ f x) → ((q : Queue) (xs : List ℕ) (x : Resource) → f (with_queue q xs x) ≡ f x)
        → (s : ℕ) → f (resource (move r k m t) s) ≡ f (resource (move_steps k m t) s)
    same_rest f g h s = field_move r k m t f g s ∙ sym (rest_move f h k m t s)

    same_resource : (s : ℕ) → 1 ≤ s → s ≤ length t.resources → resource (move r k m t) s ≡ resource (move_steps k m t) s
    unfolding relist with_queue
    same_resource s p q = λ i. record {
      name = same_rest (λ (x : Resource). x.name) (λ l x. refl) (λ q xs x. refl) s i;
      value = same_rest (λ (x : Resource). x.value) (λ l x. refl) (λ q xs x. refl) s i;
      valid = same_rest (λ (x : Resource). x.valid) (λ l x. refl) (λ q xs x. refl) s i;
      grant = same_chain (queue s grants) (p, q, omega arith) i;
      convert = same_chain (queue s converts) (p, q, omega arith) i;
      wait = same_chain (queue s waits) (p, q, omega arith) i;
    }

    same_resources : (move r k m t).resources ≡ (move_steps k m t).resources
    unfolding resource
    same_resources =
        ext_get_or no_resource (move r k m t).resources (move_steps k m t).resources (resources_length r k m t ∙ sym (sane_move _ _ t whole k m low high new).resources)
        (λ i p. same_resource (suc i) (omega arith) (omega (arith, resources_length r k m t)))

    steps_are : move r k m t ≡ move_steps k m t
    unfolding move
    steps_are = λ i. record {
      resources = same_resources i;
      locks = sym (locks_move _ _ t whole k m low high new) i;
      free_resources = sym (free_resources_move _ _ t whole k m low high new) i;
      free_locks = same_chain free_locks (omega arith) i;
      denied = same_chain denied (omega arith) i;
      blocked = same_chain blocked (omega arith) i;
      notices = same_chain notices (omega arith) i;
    }

module _ (r k : ℕ) (m : Lock) (t : Tables) (core : Core t) (in_range : within (length t.locks) k ≡ true) (near_old : Near r (lock t k)) (near_new : Near r m) (ok : LockOk (used t) m) where
  pub move_is_steps : move r k m t ≡ move_steps k m t
  move_is_steps = steps_are k m t core in_range ok r near_old near_new

  -- whatever the counts are
  pub moved_with : (ct : Counts) → words_with ct (move r k m t) ≡ move_cells (length t.resources) (length t.locks) k (lock t k) m (words_with ct t)
  moved_with ct =
      ap (words_with ct) move_is_steps
      ∙ move_words (length t.resources) (length t.locks) t (core_whole t core) k m (within_le (length t.locks) k in_range).0 (within_le (length t.locks) k in_range).1 (present_home t m ok) ct
