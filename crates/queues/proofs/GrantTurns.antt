-- Granting, turn by turn, and freeing a lock: laws of states, and for the code.
use mathlib.Core.Path.{◌≡◌, refl, sym, ◌∙◌, ap, ap₂, subst}
use mathlib.Core.Bool.{Bool, true, false, not}
use mathlib.Core.List.{List, [], ◌∷◌, ◌++◌}
use Prim.Native.Nat.{ℕ, ◌<◌, ◌≤◌}
use native.Mathlib.Omega.{arith}
use lib.ListN.{length}
use Rattle.std.specs.Prelude.{Option, Some, None}
use borrow.Author.Rules.{rules}
use borrow.Author.Tests.{not-true, not-false}
use Rattle.tables.specs.declared.Lock.{Lock}
use Rattle.tables.specs.Lists.{count, first}
use Rattle.tables.specs.State.{Tables, no_lock, lock, move, converts, waits, queue, of_locks}
use Rattle.tables.specs.Layout.{words, locks_in, read_chain, read_lock}
use Rattle.tables.specs.Grants.{convert_grantable, grantable_head}
use Rattle.tables.specs.Numbered.{numbered}
use Rattle.tables.proofs.Cases.{clash, by_cases}
use Rattle.tables.proofs.Counts.{within_le, count_same}
use Rattle.tables.proofs.ReadBack.{lock_read, chain_read}
use Rattle.tables.specs.Validity.{as_free, as_granted, Core, line}
use Rattle.tables.proofs.Valid.{resources_length}
use Rattle.tables.proofs.ChainMembers.{blocked_place}
use Rattle.rules.specs.Queues.{granted_lock, grant_lock, grant_while, sweep, free_lock}
use Rattle.rules.proofs.SweepLaws.{grant_core, grant_line, sweep_line, sweep_is_line}
use Rattle.table_fields.specs.declared.ModeCounts.{ModeCounts}
use Rattle.table_fields.specs.Records.{read_counts}
use Rattle.table_fields.proofs.StateWords.{locks_is}
use Rattle.table_chains.specs.Promises as promise
use Rattle.table_chains.specs.Promises.{Turns, Tells, Answers, Movable, Moving, Moved, Resourced}
use Rattle.table_chains.proofs.ChainWalks.{here_sized, here_low, here_high}
use Rattle.table_chains.proofs.LockLimits.{asked_few}
use Rattle.queues.specs.Decisions.{admits_head}
use Rattle.table_chains.proofs.NumberOrNone.{is_number, above_none, none_is}
use Rattle.queues.specs.Promises.{Locked, ready, next_granted, advance}
use Rattle.queues.proofs.QueueReads.{threaded}
use Rattle.queues.proofs.Decisions.{head_told}

-- STATES. The line of r has a head or not
module _ (r : ℕ) (t : Tables) where
  ready_none : line t r ≡ [] → ready r t ≡ false
  unfolding ready grantable_head
  ready_none e = rw e

  ready_head : (k : ℕ) (ks : List ℕ) → line t r ≡ k ∷ ks → ready r t ≡ convert_grantable t r k
  unfolding ready grantable_head
  ready_head k ks e = rw e

  next_none : ready r t ≡ false → next_granted r t ≡ None
  unfolding next_granted
  next_none g = rw g

  next_head : ready r t ≡ true → next_granted r t ≡ numbered (first (line t r))
  unfolding next_granted
  next_head g = rw g

  advance_none : ready r t ≡ false → advance r t ≡ t
  unfolding advance
  advance_none g = rw (g, advance)

  advance_head : (k : ℕ) (ks : List ℕ) → line t r ≡ k ∷ ks → ready r t ≡ true → advance r t ≡ grant_lock r k t
  unfolding advance
  advance_head k ks e g = rw (g, advance) (ap (λ (l : List ℕ). grant_lock r (first l) t) e)

module _ (r : ℕ) (t : Tables) (c : Core t) where
  on_line : (k : ℕ) (ks : List ℕ) → line t r ≡ k ∷ ks → 1 ≤ count k (line t r)
  on_line k ks e = rw (e, count_same) (omega arith)

  granted_movable : (k : ℕ) → 1 ≤ count k (line t r) → Movable r k (granted_lock (lock t k)) t
  unfolding granted_lock
  granted_movable k m =
      let b = blocked_place t c r k m in
      record {
        core = c;
        in_range = b.2;
        near_old = λ z. b.1;
        near_new = λ z. b.1;
        ok = as_granted refl (record {
          place = record { in_use = b.0.in_use; client_low = b.0.client_low; client_high = b.0.client_high; held_mode = b.0.asked_mode; asked_mode = omega arith; mark_mode = b.0.mark_mode };
          asks = refl;
          notice = omega arith;
          not_denied = omega arith;
        });
      }

  line_stop : ready r t ≡ false → (qs : List ℕ) → line t r ≡ qs → sweep_line r qs t ≡ t
  unfolding grant_while
  line_stop g [] e = refl
  line_stop g (k ∷ ks) e = rw (sym (ready_head r t k ks e) ∙ g, grant_while)

  sweep_stop : ready r t ≡ false → sweep r t ≡ t
  sweep_stop g = sweep_is_line r t c ∙ line_stop g (line t r) refl

-- what a turn leaves
pub record Turned (r : ℕ) (t : Tables) : Type 0 where
  pub core : Core (advance r t)
  pub same : sweep r (advance r t) ≡ sweep r t
  pub shorter : length (line (advance r t) r) < length (line t r)
  pub resources : length (advance r t).resources ≡ length t.resources

sweep_turn : (r : ℕ) (t : Tables) → Core t → ready r t ≡ true → Turned r t
unfolding grant_while
sweep_turn r t c g = go (line t r) refl
  where
    go : (qs : List ℕ) → line t r ≡ qs → Turned r t
    go [] e = clash (ready r t) g (ready_none r t e)
    go (k ∷ ks) e =
        let m = on_line r t c k ks e in
        let h : convert_grantable t r k ≡ true = sym (ready_head r t k ks e) ∙ g in
        let core = grant_core t c r k m h in
        let rest = grant_line t c r k ks e in
        let a = advance_head r t k ks e g in
        record {
          core = rw a core;
          same = rw a (sweep_is_line r (grant_lock r k t) core ∙ ap (λ (l : List ℕ). sweep_line r l (grant_lock r k t)) rest ∙ sym (sweep_is_line r t c ∙ ap (λ (l : List ℕ). sweep_line r l t) e ∙ rw (h, grant_while)));
          shorter = rw (a, rest, e) (omega arith);
          resources = rw a (unfold grant_lock in resources_length r k (granted_lock (lock t k)) t);
        }

turned_resourced : (r : ℕ) (t : Tables) → Resourced r t → Turned r t → Resourced r (advance r t)
turned_resourced r t p u = record { core = u.core; in_range = rw u.resources p.in_range }

-- grant_next
head_line : (xs : List ℕ) (k : ℕ) → k ≡ first xs → (k ≡ 0 → ⊥) → (ks : List ℕ) × (xs ≡ k ∷ ks)
head_line [] k e n = absurd (n e)
head_line (x ∷ xs) k e n = (xs, ap (λ (z : ℕ). z ∷ xs) (sym e))

none_up : (r : ℕ) (t : Tables) → Core t → first (line t r) ≡ 0 → ready r t ≡ false
none_up r t c e = go (line t r) refl e
  where
    go : (qs : List ℕ) → line t r ≡ qs → first qs ≡ 0 → ready r t ≡ false
    go [] f z = ready_none r t f
    go (k ∷ ks) f z = absurd (omega (arith, (within_le (length t.locks) k (blocked_place t c r k (on_line r t c k ks f)).2).0))

pub grant_none : (r : ℕ) (a : List ℕ) (o : Option ℕ) → Tells (Resourced r) (λ t. numbered (first (line t r))) a o → o ≡ None → (x : Option ℕ) → x ≡ None → Answers (Resourced r) (next_granted r) (advance r) a a x
grant_none r a o up e x ex = record {
  then = λ t p is.
      let g = none_up r t p.core (none_is (first (line t r)) (sym e ∙ up.then t p is)) in
      (ex ∙ sym (next_none r t g), is ∙ ap words (sym (advance_none r t g)));
}

module _ (r k : ℕ) (a : List ℕ) (up : Tells (Resourced r) (λ t. numbered (first (line t r))) a (Some k)) where
  ahead : (t : Tables) → Resourced r t → a ≡ words t → (ks : List ℕ) × (line t r ≡ k ∷ ks)
  ahead t p is =
      head_line (line t r) k (is_number k (first (line t r)) (up.then t p is))
      (λ z. let q = above_none k (first (line t r)) (up.then t p is) in omega arith)

  counted : (t : Tables) (p : Resourced r t) (is : a ≡ words t) → 1 ≤ count k (line t r)
  counted t p is = on_line r t p.core k (ahead t p is).0 (ahead t p is).1

  its_move : (t : Tables) → Resourced r t → a ≡ words t → Movable r k (granted_lock (lock t k)) t
  its_move t p is = granted_movable r t p.core k (counted t p is)

  its_range : (t : Tables) → Resourced r t → a ≡ words t → (1 ≤ k) × (k ≤ length t.locks)
  its_range t p is = within_le (length t.locks) k (its_move t p is).in_range

  pub grant_low : promise.Some (Resourced r) a → 1 ≤ k
  grant_low s = (its_range s.state s.good s.is).0

  pub grant_high : promise.Some (Resourced r) a → k ≤ locks_in a
  grant_high s = rw (locks_is s.state a s.is) (its_range s.state s.good s.is).1

  module _ (l : Lock) (el : l ≡ read_lock a k) where
    l_is : (t : Tables) → Resourced r t → a ≡ words t → l ≡ lock t k
    l_is t p is = el ∙ ap (λ (w : List ℕ). read_lock w k) is ∙ lock_read t k (its_range t p is).0 (its_range t p is).1

    pub grant_mode : promise.Some (Resourced r) a → l.asked < 6
    grant_mode s =
        rw (l_is s.state s.good s.is)
        (omega (arith, (blocked_place s.state s.good.core r k (counted s.state s.good s.is)).0.asked_mode))

    pub grant_moving : (m : Lock) → m ≡ granted_lock l → promise.Some (Resourced r) a → Moving k m a
    grant_moving m em s =
        record {
          state = s.state;
          resource = r;
          good = subst (λ (z : Lock). Movable r k z s.state) (sym (em ∙ ap granted_lock (l_is s.state s.good s.is))) (its_move s.state s.good s.is);
          is = s.is;
        }

    module _ (c : ModeCounts) (ec : c ≡ read_counts a r) (x : Bool) (ex : x ≡ admits_head c l) where
      x_is : (t : Tables) → Resourced r t → a ≡ words t → x ≡ ready r t
      x_is t p is =
          ex ∙ ap₂ admits_head ec (l_is t p is) ∙ head_told r t p a is k (counted t p is) (asked_few t p.core k)
          ∙ sym (ready_head r t k (ahead t p is).0 (ahead t p is).1)

      pub grant_refused : not x ≡ true → Answers (Resourced r) (next_granted r) (advance r) a a None
      grant_refused q = record {
        then = λ t p is.
            let g : ready r t ≡ false = sym (x_is t p is) ∙ not-true x q in
            (sym (next_none r t g), is ∙ ap words (sym (advance_none r t g)));
      }

      pub grant_made : (m : Lock) → m ≡ granted_lock l → not x ≡ false → (b : List ℕ) → Moved k m a b → Answers (Resourced r) (next_granted r) (advance r) a b (Some k)
      unfolding grant_lock
      grant_made m em q b moved = record {
        then = λ t p is.
            let e : m ≡ granted_lock (lock t k) = em ∙ ap granted_lock (l_is t p is) in
            let g : ready r t ≡ true = sym (x_is t p is) ∙ not-false x q in (
              up.then t p is ∙ sym (next_head r t g),
              moved.then r t (subst (λ (z : Lock). Movable r k z t) (sym e) (its_move t p is)) is
                  ∙ ap (λ (z : Lock). words (move r k z t)) e
                  ∙ ap words (sym (advance_head r t k (ahead t p is).0 (ahead t p is).1 g)),
            );
      }

pub ruleset grant_laws = (rules, here_sized, here_low, here_high, grant_none, grant_low, grant_high, grant_mode, grant_refused, grant_moving, grant_made)

-- sweep: from the words a to the words b, what is left to do has stayed the same
pub record Goes (r : ℕ) (b : List ℕ) (t : Tables) : Type 0 where
  pub here : Tables
  pub good : Resourced r here
  pub is : b ≡ words here
  pub same : sweep r here ≡ sweep r t

pub record Going (r : ℕ) (a b : List ℕ) : Type 0 where
  pub some : promise.Some (Resourced r) b
  pub size : length b ≡ length a
  pub then : (t : Tables) → Resourced r t → a ≡ words t → Goes r b t

-- the locks blocked on r, by the words
unfoldable pub line_in : ℕ → List ℕ → List ℕ
line_in r ws = read_chain ws (of_locks (queue r converts)) ++ read_chain ws (of_locks (queue r waits))

line_read : (r : ℕ) (t : Tables) → Resourced r t → line_in r (words t) ≡ line t r
unfolding line_in line
line_read r t p =
    ap₂ (λ (x y : List ℕ). x ++ y) (chain_read t (of_locks (queue r converts)) (threaded r t p (words t) refl converts))
    (chain_read t (of_locks (queue r waits)) (threaded r t p (words t) refl waits))

pub sweep_starts : (r : ℕ) (a : List ℕ) → promise.Some (Resourced r) a → Going r a a
sweep_starts r a s = record { some = s; size = refl; then = λ t p is. record { here = t; good = p; is = is; same = refl } }

-- a turn that granted a lock could, and one that did not could not
ready_some : (r : ℕ) (t : Tables) (k : ℕ) → Some k ≡ next_granted r t → ready r t ≡ true
ready_some r t k e = by_cases (ready r t) (λ g. g) (λ g. let z : Some k ≡ None = e ∙ next_none r t g in absurd (cc))

ready_not : (r : ℕ) (t : Tables) → Core t → None ≡ next_granted r t → ready r t ≡ false
ready_not r t c e = by_cases (ready r t) (λ g. none_up r t c (none_is (first (line t r)) (e ∙ next_head r t g))) (λ g. g)

module _ (r : ℕ) (a b d : List ℕ) (x : Option ℕ) (g : Going r a b) (w : Answers (Resourced r) (next_granted r) (advance r) b d x) where
  module _ (k : ℕ) (q : x ≡ Some k) where
    turned : (u : Tables) → Resourced r u → b ≡ words u → Turned r u
    turned u p is = sweep_turn r u p.core (ready_some r u k (sym q ∙ (w.then u p is).0))

    pub sweep_again : length d ≡ length b → Going r a d
    sweep_again e =
        record {
          some = record {
            state = advance r g.some.state;
            good = turned_resourced r g.some.state g.some.good (turned g.some.state g.some.good g.some.is);
            is = (w.then g.some.state g.some.good g.some.is).1;
          };
          size = e ∙ g.size;
          then = λ t p is.
              let h = g.then t p is in
              let u = turned h.here h.good h.is in
              record { here = advance r h.here; good = turned_resourced r h.here h.good u; is = (w.then h.here h.good h.is).1; same = u.same ∙ h.same };
        }

    pub sweep_less : length (line_in r d) < length (line_in r b)
    sweep_less =
        let u = g.some.state in
        let p = g.some.good in
        let is = g.some.is in
        let v = turned u p is in
        rw ((w.then u p is).1, is, line_read r (advance r u) (turned_resourced r u p v), line_read r u p) v.shorter

  pub sweep_ends : x ≡ None → Turns (Resourced r) (sweep r) a d
  sweep_ends q = record {
    then = λ t p is.
        let h = g.then t p is in
        let z = ready_not r h.here h.good.core (sym q ∙ (w.then h.here h.good h.is).0) in
        (w.then h.here h.good h.is).1 ∙ ap words (advance_none r h.here z ∙ sym (sweep_stop r h.here h.good.core z) ∙ h.same);
  }

pub going_some : (r : ℕ) (a b : List ℕ) → Going r a b → promise.Some (Resourced r) b
going_some r a b g = g.some

pub going_size : (r : ℕ) (a b d : List ℕ) → Going r a b → length d ≡ length b → length d ≡ length a
going_size r a b d g e = e ∙ g.size

pub ruleset sweep_laws = (rules, sweep_starts, sweep_again, sweep_less, sweep_ends, going_some, going_size)

-- free_lock
free_movable : (k : ℕ) (t : Tables) → Locked k t → Movable (lock t k).resource k no_lock t
free_movable k t p = record { core = p.core; in_range = p.in_range; near_old = λ z. refl; near_new = λ z. absurd (z refl); ok = as_free refl }

pub free_moving : (k : ℕ) (a : List ℕ) → promise.Some (Locked k) a → Moving k no_lock a
free_moving k a s = record { state = s.state; resource = (lock s.state k).resource; good = free_movable k s.state s.good; is = s.is }

pub free_made : (k : ℕ) (a b : List ℕ) → Moved k no_lock a b → Turns (Locked k) (free_lock k) a b
unfolding free_lock
free_made k a b moved = record { then = λ t p is. moved.then (lock t k).resource t (free_movable k t p) is }

pub ruleset free_laws = (rules, free_moving, free_made)
