-- A purge keeps a state sound, and the order of those that wait; and which locks it frees.
use mathlib.Core.Path.{◌≡◌, refl, sym, ap, ◌∙◌}
use mathlib.Core.Logic.{◌≢◌}
use mathlib.Core.Bool.{Bool, true, false, not, cond}
use mathlib.Core.List.{List, [], ◌∷◌, ◌++◌}
use Prim.Native.Nat.{ℕ, zero, suc, ◌+◌, ◌≤◌}
use native.Mathlib.Omega.{arith}
use lib.ListN.{length}
use lib.Dec.{eqb, leb}
use borrow.Author.Tests.{leb-true, leb-false, eqb-true, ne_eqb}
use Rattle.tables.specs.declared.Lock.{Lock}
use Rattle.tables.specs.Lists.{within, count, remove, all, keep, from}
use Rattle.tables.specs.State.{Tables, no_lock, lock, resource, blocked_lock, belongs, move, grants, converts, waits, queue}
use Rattle.tables.specs.Grants.{holders}
use Rattle.tables.proofs.Cases.{by_cases, by_equal, clash, eqb_same}
use Rattle.tables.proofs.Counts.{count_same, count_other, count_append, count_nil, count_step, head_once, shift_off, all_intro, any_intro, count_kept, kept_in, kept_once, kept_out}
use Rattle.tables.specs.Validity.{used, as_free, Core, line, idle, Settled, Valid}
use Rattle.tables.proofs.StateCases.{StateOk, ok_numbered}
use Rattle.tables.proofs.Valid.{ok_at, absent, absent_lock, lock_same, lock_other, locks_length, resources_length, chain_move, core_move}
use Rattle.tables.proofs.ChainMembers.{chain_has, settled_other}
use Rattle.rules.specs.Queues.{free_lock, settle}
use Rattle.rules.specs.Calls.{stores, strong, leave_value, locks_of, purge_lock, purge_locks, stands_on, settle_all, purge_change}
use Rattle.rules.proofs.ListOrder.{keep_all, remove_keep, keep_keep, FromFront, front_none, front_then}
use Rattle.rules.proofs.WaitChains.{leaving}
use Rattle.rules.proofs.LockWeights.{Weighs, weighs_same, weighs_then}
use Rattle.rules.proofs.ResourceChanges.{leave_quiet}
use Rattle.rules.proofs.ChangesKeepSound.{settle_settles, After, nothing_at_zero}

pub strong_used : (u : ℕ → Bool) (l : Lock) (s : ℕ) → StateOk u l s → strong l.held ≡ true → u l.resource ≡ true
unfolding strong
strong_used u l zero ok h = absurd (omega (arith, ap (λ (x : Lock). x.held) ok, leb-true 4 l.held h))
strong_used u l (suc zero) ok h = ok.place.in_use
strong_used u l (suc (suc zero)) ok h = ok.place.in_use
strong_used u l (suc (suc (suc zero))) ok h = ok.place.in_use
strong_used u l (suc (suc (suc (suc zero)))) ok h = absurd (omega (arith, ok.holds, leb-true 4 l.held h))
strong_used u l (suc (suc (suc (suc (suc n))))) ok h = absurd ok

pub spoils_only : stores 2 ≡ false
unfolding stores
spoils_only = refl

-- one lock is purged; resources other than its own stay settled
pub record Purges (t t' : Tables) (k : ℕ) : Type 0 where
  pub core : Core t'
  pub others : (s : ℕ) → s ≢ (lock t k).resource → Settled t s → Settled t' s
  pub lock_is : (j : ℕ) → j ≢ k → lock t' j ≡ lock t j
  pub lock_gone : lock t' k ≡ no_lock
  pub waits_left : (s : ℕ) → (resource t' s).wait ≡ remove k (resource t s).wait
  pub locks_are : length t'.locks ≡ length t.locks
  pub resources_are : length t'.resources ≡ length t.resources

freeing : (t : Tables) (r k : ℕ) → (lock t k).resource ≡ r → free_lock k t ≡ move r k no_lock t
unfolding free_lock
freeing t r k e = rw e

purged : (k : ℕ) (t : Tables) → Core t → eqb (lock t k).state 0 ≡ false → within (length t.locks) k ≡ true → Purges t (purge_lock k t) k
unfolding purge_lock
purged k t c s w =
    let r = (lock t k).resource in
    let b = strong (lock t k).held in
    let q = leave_quiet b 2 [] r t (λ z. clash (stores 2) z spoils_only) (λ z. strong_used (used t) (lock t k) (lock t k).state (ok_numbered (c.lock_ok k)) z) c in
    let t0 = leave_value b 2 [] r t in
    let e : (lock t0 k).resource ≡ r = rw (q.lock_is k) in
    let w0 : within (length t0.locks) k ≡ true = rw q.locks_are w in
    rw (freeing t0 r k e) (record {
      core = core_move r k no_lock t0 q.core w0 (λ z. e) (λ z. absurd (z refl)) (as_free refl) (λ z. clash false z refl);
      others = λ s n h. settled_other t0 q.core r k no_lock (λ z. e) s n (q.settled s h);
      lock_is = λ j n. lock_other r k no_lock t0 j n ∙ q.lock_is j;
      lock_gone = lock_same r k no_lock t0 w0;
      waits_left = λ s.
          chain_move r k no_lock t0 (q.core.lock_ok k) (as_free refl) (λ z. e) (λ z. absurd (z refl)) (queue s waits)
          ∙ shift_off (belongs (queue s waits) (lock t0 k)) k (resource t0 s).wait (rw w0 at (q.core.linked (queue s waits) k))
          ∙ ap (remove k) (q.waits_are s);
      locks_are = locks_length r k no_lock t0 ∙ q.locks_are;
      resources_are = resources_length r k no_lock t0 ∙ q.resources_are;
    })

-- MANY ARE PURGED. j is none of them
unfoldable pub spared : List ℕ → ℕ → Bool
spared ks j = all (λ k. not (eqb k j)) ks

spared_not : (ks : List ℕ) (j : ℕ) → spared ks j ≡ false → 1 ≤ count j ks
unfolding spared
spared_not ks j h =
    by_cases (leb 1 (count j ks))
    (λ p. leb-true 1 (count j ks) p)
    (λ p. clash (all (λ k. not (eqb k j)) ks)
    (all_intro (λ k. not (eqb k j)) ks (λ k m. rw (ne_eqb k j (λ e. omega (arith, rw e at m, leb-false 1 (count j ks) p))))) h)

-- P: the resources that they stand on
pub record Purged (P : ℕ → Bool) (ks : List ℕ) (t t' : Tables) : Type 0 where
  pub core : Core t'
  pub rest : ((s : ℕ) → P s ≡ false → Settled t s) → (s : ℕ) → P s ≡ false → Settled t' s
  pub gone : (j : ℕ) → 1 ≤ count j ks → lock t' j ≡ no_lock
  pub unpurged : (j : ℕ) → count j ks ≡ 0 → lock t' j ≡ lock t j
  pub waits_left : (s : ℕ) → (resource t' s).wait ≡ keep (spared ks) (resource t s).wait
  pub locks_are : length t'.locks ≡ length t.locks
  pub resources_are : length t'.resources ≡ length t.resources

spare_both : (k : ℕ) (ks xs : List ℕ) → keep (spared ks) (keep (λ j. not (eqb k j)) xs) ≡ keep (spared (k ∷ ks)) xs
unfolding spared all
spare_both k ks xs = keep_keep (λ j. all (λ i. not (eqb i j)) ks) (λ j. not (eqb k j)) xs

abbrev Listed : (ℕ → Bool) → List ℕ → Tables → Type 0
Listed P ks t = (j : ℕ) → 1 ≤ count j ks → (eqb (lock t j).state 0 ≡ false) × ((lock t j).resource ≢ 0 → P (lock t j).resource ≡ true)

all_purged : (P : ℕ → Bool) (ks : List ℕ) (t : Tables) → Core t → ((j : ℕ) → count j ks ≤ 1) → Listed P ks t → Purged P ks t (purge_locks ks t)
unfolding purge_locks
all_purged P [] t c once listed =
    record {
      core = c;
      rest = λ h. h;
      gone = λ j m. absurd (omega (arith, rw (count_nil j) at m));
      unpurged = λ j z. refl;
      waits_left = λ s. unfold spared all in sym (keep_all (resource t s).wait);
      locks_are = refl;
      resources_are = refl;
    }
all_purged P (k ∷ ks) t c once listed =
    let l = listed k (rw count_same (omega arith)) in
    let p = purged k t c l.0 (state_in k l.0) in
    let t1 = purge_lock k t in
    let apart : (j : ℕ) → 1 ≤ count j ks → j ≢ k = λ j m e. omega (arith, rw (e, count_same) at (once j), rw e at m) in
    let ih = all_purged P ks t1 p.core (λ j. omega (arith, once j, count_step j k ks)) (λ j m. rw (p.lock_is j (apart j m)) (listed j (omega (arith, m, count_step j k ks)))) in
    record {
      core = ih.core;
      rest = λ h. ih.rest (λ s n. by_equal s 0 (λ e. rw e (nothing_at_zero t1)) (λ z. p.others s (λ e. clash (P s) (rw e (l.1 (λ q. z (e ∙ q)))) n) (h s n)));
      gone = λ j m. by_equal j k
          (λ e. rw e (ih.unpurged k (head_once (k ∷ ks) k ks refl (once k)) ∙ p.lock_gone))
          (λ n. ih.gone j (omega (arith, m, count_other j k ks n)));
      unpurged = λ j z.
          let n : j ≢ k = λ e. omega (arith, rw (e, count_same) at z) in
          ih.unpurged j (sym (count_other j k ks n) ∙ z) ∙ p.lock_is j n;
      waits_left = λ s. ih.waits_left s ∙ ap (keep (spared ks)) (p.waits_left s ∙ remove_keep k (resource t s).wait) ∙ spare_both k ks (resource t s).wait;
      locks_are = ih.locks_are ∙ p.locks_are;
      resources_are = ih.resources_are ∙ p.resources_are;
    }
  where
    state_in : (j : ℕ) → eqb (lock t j).state 0 ≡ false → within (length t.locks) j ≡ true
    state_in j h = by_cases (within (length t.locks) j) (λ w. w) (λ w. clash _ (rw (absent_lock t j w)) h)

-- resources are settled one by one
record SettledAll (t t' : Tables) : Type 0 where
  valid : Valid t'
  fronts : (s : ℕ) → FromFront (resource t s).wait (resource t' s).wait
  unmoved : (j : ℕ) → blocked_lock (lock t j) ≡ false → lock t' j ≡ lock t j
  weighs : Weighs (lock t) t'
  locks_are : length t'.locks ≡ length t.locks
  resources_are : length t'.resources ≡ length t.resources

settled_all : (rs : List ℕ) (t : Tables) → Core t → ((s : ℕ) → 1 ≤ count s rs → within (length t.resources) s ≡ true) → ((s : ℕ) → count s rs ≡ 0 → Settled t s) →
    SettledAll t (settle_all rs t)
unfolding settle_all
settled_all [] t c w h =
    record {
      valid = record { core = c; settled = λ s. h s (count_nil s) };
      fronts = λ s. front_none _;
      unmoved = λ j z. refl;
      weighs = weighs_same t;
      locks_are = refl;
      resources_are = refl;
    }
settled_all (r ∷ rs) t c w h =
    let s = settle_settles r t c (w r (rw count_same (omega arith))) in
    let a = settled_all rs (settle r t) s.core
    (λ q m. rw s.resources_same (w q (omega (arith, m, count_step q r rs))))
    (λ q z. by_equal q r (λ e. rw e s.here) (λ n. s.others q n (h q (count_other q r rs n ∙ z)))) in
    record {
      valid = a.valid;
      fronts = λ q. front_then _ _ _ (s.fronts q) (a.fronts q);
      unmoved = λ j z. a.unmoved j (rw (s.unmoved j z) z) ∙ s.unmoved j z;
      weighs = weighs_then (lock t) (settle r t) _ s.weighs a.weighs;
      locks_are = a.locks_are ∙ s.locks_same;
      resources_are = a.resources_are ∙ s.resources_same;
    }

pub absent_settled : (t : Tables) (s : ℕ) → within (length t.resources) s ≡ false → Settled t s
unfolding line idle used
absent_settled t s w = record { still = rw (absent t s w); peopled = λ u. clash false (rw (absent t s w) at u) refl }

-- a lock that stands on a resource makes its client stand there
stands : (c : ℕ) (t : Tables) → Core t → (k : ℕ) → within (length t.locks) k ≡ true → eqb (lock t k).client c ≡ true → (lock t k).resource ≢ 0 → stands_on c t (lock t k).resource ≡ true
unfolding stands_on holders
stands c t co k w h n = go (lock t k).state refl (ok_numbered (co.lock_ok k))
  where
    r : ℕ
    r = (lock t k).resource

    on : 1 ≤ count k (resource t r).grant + count k (resource t r).convert + count k (resource t r).wait → stands_on c t r ≡ true
    on m = any_intro (λ k. eqb (lock t k).client c) (holders t r ++ (resource t r).wait) k (rw (count_append, count_append) m) h

    go : (s : ℕ) → (lock t k).state ≡ s → StateOk (used t) (lock t k) s → stands_on c t r ≡ true
    go zero s ok = absurd (n (ap (λ (l : Lock). l.resource) ok))
    go (suc zero) s ok = on (omega (arith, chain_has t co.linked (queue r grants) k w (rw (s, eqb_same r))))
    go (suc (suc zero)) s ok = on (omega (arith, chain_has t co.linked (queue r converts) k w (rw (s, eqb_same r))))
    go (suc (suc (suc zero))) s ok = on (omega (arith, chain_has t co.linked (queue r waits) k w (rw (s, eqb_same r))))
    go (suc (suc (suc (suc zero)))) s ok = absurd (n ok.nowhere)
    go (suc (suc (suc (suc (suc i))))) s ok = absurd ok

-- PURGE. The client's locks are free
abbrev pub without : ℕ → Tables → ℕ → Lock
without c t j = cond (eqb (lock t j).client c) no_lock (lock t j)

pub purge_after : (c : ℕ) (t : Tables) → 1 ≤ c → Valid t → After t (purge_change c t).tables (without c t)
unfolding purge_change locks_of
purge_after c t low val =
    let own : ℕ → Bool = λ k. eqb (lock t k).client c in
    let n = length t.locks in
    let pl = all_purged (stands_on c t) (locks_of c t) t val.core (kept_once own n) (λ j m. listed j (kept_in own n j m).0 (kept_in own n j m).1) in
    let t1 = purge_locks (locks_of c t) t in
    let sa = settled_all (keep (stands_on c t) (from 1 (length t.resources))) t1 pl.core
    (λ s m. rw pl.resources_are (kept_in (stands_on c t) (length t.resources) s m).0)
    (λ s z. by_cases (stands_on c t s)
    (λ y. absent_settled t1 s (rw pl.resources_are (kept_out (stands_on c t) (length t.resources) s z y)))
    (λ y. pl.rest (λ q i. val.settled q) s y)) in
    record {
      valid = sa.valid;
      in_order = λ s. leaving (spared (locks_of c t)) t t1 _ s (pl.waits_left s) (sa.fronts s)
          (λ k m h. let z = pl.gone k (spared_not (locks_of c t) k h) in rw (sa.unmoved k (rw z), z) (refl, refl));
      weighs = λ f y j. sa.weighs f y j ∙ ap f (freed t1 pl j);
      locks_are = sa.locks_are ∙ pl.locks_are;
      resources_are = sa.resources_are ∙ pl.resources_are;
    }
  where
    freed : (t1 : Tables) → Purged (stands_on c t) (locks_of c t) t t1 → (j : ℕ) → lock t1 j ≡ without c t j
    freed t1 pl j = unfold locks_of in
        let n = length t.locks in
        let e = count_kept (λ k. eqb (lock t k).client c) n j in
        by_cases (eqb (lock t j).client c)
        (λ h. rw h (by_cases (within n j)
        (λ w. pl.gone j (rw (e, h, w) (omega arith)))
        (λ w. absent_lock t1 j (rw pl.locks_are w))))
        (λ h. rw h (pl.unpurged j (rw (e, h))))

    listed : (j : ℕ) → within (length t.locks) j ≡ true → eqb (lock t j).client c ≡ true → (eqb (lock t j).state 0 ≡ false) × ((lock t j).resource ≢ 0 → stands_on c t (lock t j).resource ≡ true)
    listed j w e = (
      by_cases (eqb (lock t j).state 0)
          (λ z. absurd (omega (arith, ap (λ (l : Lock). l.client) (ok_at (used t) (lock t j) 0 (val.core.lock_ok j) z), eqb-true (lock t j).client c e)))
          (λ z. z),
      stands c t val.core j w e,
    )
