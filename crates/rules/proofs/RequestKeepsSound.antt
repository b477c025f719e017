-- What a request needs to be granted at once, and that it keeps a state sound and the order of those that wait; and the lock that it makes.
use mathlib.Core.Path.{◌≡◌, refl, sym, ap, ◌∙◌}
use mathlib.Core.Logic.{◌≢◌}
use mathlib.Core.Bool.{true, false, ◌||◌, not, cond, and-false, or-true}
use mathlib.Core.List.{List, [], ◌∷◌, ◌++◌, append_assoc}
use Prim.Native.Nat.{ℕ, zero, suc, ◌≤◌}
use native.Mathlib.Omega.{arith}
use lib.ListN.{length}
use lib.Dec.{eqb, leb}
use borrow.Author.Tests.{ne_eqb, leb-true, leb-false, not-true}
use Rattle.modes.specs.Modes.{NL}
use Rattle.modes.proofs.Laws.{null_goes}
use Rattle.tables.specs.declared.Lock.{Lock}
use Rattle.tables.specs.Lists.{within, count, first, null, from, same}
use Rattle.tables.specs.State.{Resource, Tables, no_lock, lock, resource, waiting, holds, LockChain, chain, shift, relist, move, move_resource, grants, converts, waits, queue, last_client, last_mode, name_width}
use Rattle.tables.specs.Grants.{fits}
use Rattle.tables.proofs.Cases.{by_cases, clash, eqb_same}
use Rattle.tables.proofs.Counts.{count_same, head_in, count_from, null_nil, nil_of_counts, same_eq, same_refl, first_passes, first_none}
use Rattle.tables.specs.Validity.{used, LockOk, as_granted, as_waiting, Core, line, idle, Settled, Valid, Near}
use Rattle.tables.proofs.Valid.{ok_at, holder_place, absent, used_within, lock_same, resource_same, locks_length, Fits, core_move}
use Rattle.tables.proofs.ChainMembers.{and_bit, on_free, chain_has, on_grants, on_converts, on_waits, fits_true, true_fits, wait_fits}
use Rattle.rules.specs.Queues.{find}
use Rattle.rules.specs.Calls.{new_resource, resource_for, with_resource, holding, queued, granted_at_once, request_on, request_change}
use Rattle.rules.proofs.ResourceChanges.{changed, lock_kept, resources_kept, field_kept, used_changed, SameChains, core_resource, settled_kept, no_value_length}
use Rattle.rules.proofs.WaitChains.{order_before}
use Rattle.rules.proofs.LockWeights.{instead}
use Rattle.rules.proofs.ChangesKeepSound.{After, then_stop, full_of, granted_full, fits_alone, Grows, grows_move, head_still, head_new, still_stays}
use Rattle.rules.proofs.NoticesKeepSound.{told_after}

both_nil : (xs ys : List ℕ) → xs ++ ys ≡ [] → (xs ≡ []) × (ys ≡ [])
both_nil [] ys e = (refl, e)
both_nil (x ∷ xs) ys e = absurd (omega (arith, ap length e))

-- a request that is granted at once fits; where nobody waits, one that fits is granted at once
pub at_once_fits : (t : Tables) (r m : ℕ) → granted_at_once t r m ≡ true → fits t r 0 m ≡ true
unfolding granted_at_once
at_once_fits t r m h = by_cases (fits t r 0 m) (λ y. y) (λ y. clash true refl (sym h ∙ rw (y, and-false)))

pub alone_at_once : (t : Tables) (r m : ℕ) → line t r ≡ [] → granted_at_once t r m ≡ fits t r 0 m
unfolding granted_at_once line
alone_at_once t r m e =
    let z = both_nil (resource t r).convert (resource t r).wait e in
    simp (z.0, z.1, or-true)

-- of another mode than NL it is granted at once only where nobody waits, and of NL wherever no conversion does
pub at_once_first : (t : Tables) (r m : ℕ) → granted_at_once t r m ≡ true → m ≢ NL → (resource t r).wait ≡ []
unfolding granted_at_once
at_once_first t r m h n =
    null_nil (resource t r).wait
    (by_cases (null (resource t r).wait) (λ y. y) (λ y. clash (granted_at_once t r m) h (simp (y, ne_eqb m NL n, and-false))))

pub null_at_once : (t : Tables) → Core t → (r : ℕ) → (resource t r).convert ≡ [] → granted_at_once t r NL ≡ true
unfolding granted_at_once
null_at_once t c r e =
    rw e (true_fits t c.linked r 0 NL (λ j n h q. null_goes (lock t j).held (holder_place (used t) (lock t j) (c.lock_ok j) h).held_mode))

-- the lock that a request makes, by its answer
abbrev pub made : ℕ → ℕ → ℕ → ℕ → Lock
made r c m a = cond (eqb a 2) (queued r c m) (holding r c m)

-- a free lock enters on a resource in use
module _ (t : Tables) (co : Core t) (r k c m : ℕ) (ks : List ℕ) (rest : (s : ℕ) → s ≢ r → Settled t s) (u : used t r ≡ true) (i : idle t r (line t r) ≡ true)
    (frees : t.free_locks ≡ k ∷ ks) (low : 1 ≤ c) (high : c ≤ last_client) (mode : m ≤ last_mode) where
  w : within (length t.locks) k ≡ true
  w = (on_free t co k (head_in t.free_locks k ks frees)).0

  none : lock t k ≡ no_lock
  none = (on_free t co k (head_in t.free_locks k ks frees)).1

  grow : (l : Lock) → Grows t (move r k l t) r
  grow l = grows_move t r k l w (λ o e. clash false (rw none at o) refl)

  near : Near r (lock t k)
  near z = absurd (z (ap (λ (l : Lock). l.resource) none))

  -- it is compared with every held mode
  alone : fits t r 0 m ≡ fits t r k m
  alone = wait_fits t co r k m (rw none)

  pub enter_granted : granted_at_once t r m ≡ true → After t (move r k (holding r c m) t) (instead k (holding r c m) t)
  enter_granted h =
      let l = holding r c m in
      let ok : LockOk (used t) l = as_granted refl (record {
        place = record { in_use = u; client_low = low; client_high = high; held_mode = mode; asked_mode = omega arith; mark_mode = omega arith };
        asks = refl;
        notice = omega arith;
        not_denied = omega arith;
      }) in
      let fit : holds l ≡ true → Fits t r k m = λ z. fits_true t co.linked r k m (sym alone ∙ at_once_fits t r m h) in
      let c1 = core_move r k l t co w near (λ z. refl) ok fit in
      then_stop t co r k l rest w near (λ z. refl) ok fit (λ z. clash (waiting (lock t k)) z (rw none))
      (record {
        still = still_stays t co r k l c1 w (rw none) (grow l) (used_within t r u) refl i;
        peopled = λ z. granted_full t r k l c1 w refl refl;
      })

  pub enter_waiting : granted_at_once t r m ≡ false → After t (move r k (queued r c m) t) (instead k (queued r c m) t)
  enter_waiting h =
      then_stop t co r k l rest w near (λ z. refl) ok fit (λ z. clash (waiting (lock t k)) z (rw none))
      (record {
        still = go (line t r) refl;
        peopled = λ z. full_of _ k (omega (arith, chain_has (move r k l t) c1.linked (queue r waits) k (rw (locks_length r k l t) w) (rw (lock_same r k l t w, eqb_same r))));
      })
    where
      l : Lock
      l = queued r c m

      ok : LockOk (used t) l
      ok = as_waiting refl (record {
        place = record { in_use = u; client_low = low; client_high = high; held_mode = omega arith; asked_mode = mode; mark_mode = omega arith };
        notice = refl;
        holds = refl;
        no_mark = refl;
      })

      fit : holds l ≡ true → Fits t r k 0
      fit z = clash false z refl

      c1 : Core (move r k l t)
      c1 = core_move r k l t co w near (λ z. refl) ok fit

      joins : line (move r k l t) r ≡ line t r ++ (k ∷ [])
      joins = unfold line relist shift in rw (resource_same r k l t (used_within t r u), none, append_assoc)

      go : (qs : List ℕ) → line t r ≡ qs → idle (move r k l t) r (line (move r k l t) r) ≡ true
      go [] e = head_new t co r k l c1 w (rw none) (grow l) [] (joins ∙ rw e) (sym alone ∙ sym (alone_at_once t r m e) ∙ h)
      go (x ∷ xs) e = head_still t co r k l c1 w (rw none) (grow l) x xs (xs ++ (k ∷ [])) e (joins ∙ rw e) i

-- a name that is found, and one that is not
pub found : (n : List ℕ) (t : Tables) (r : ℕ) → find n t ≡ suc r → (resource t (suc r)).name ≡ n
unfolding find
found n t r e = same_eq (resource t (suc r)).name n (first_passes _ (from 1 (length t.resources)) r e)

pub missing : (n : List ℕ) (t : Tables) → find n t ≡ 0 → (s : ℕ) → within (length t.resources) s ≡ true → (resource t s).name ≢ n
unfolding find
missing n t e s w q =
    let has : 1 ≤ count s (from 1 (length t.resources)) = rw (count_from (length t.resources) s, w) (omega arith) in
    clash (same (resource t s).name n) (rw (q, same_refl n))
    (first_none (λ r. same (resource t r).name n) (from 1 (length t.resources)) e (count_from (length t.resources) 0) s has)

-- a resource that is not in use has no locks
pub unused_chains : (t : Tables) → Core t → (r : ℕ) → used t r ≡ false → (n : List ℕ) → SameChains (new_resource n) (resource t r)
unused_chains t c r u n =
    record {
      grant = sym (nil_of_counts (resource t r).grant (λ j. nobody_on (queue r grants) j (λ h. rw (on_grants t c.linked r j h).1 at (ok_at (used t) (lock t j) 1 (c.lock_ok j) (on_grants t c.linked r j h).0).place.in_use)));
      convert = sym (nil_of_counts (resource t r).convert (λ j. nobody_on (queue r converts) j (λ h. rw (on_converts t c.linked r j h).1 at (ok_at (used t) (lock t j) 2 (c.lock_ok j) (on_converts t c.linked r j h).0).place.in_use)));
      wait = sym (nil_of_counts (resource t r).wait (λ j. nobody_on (queue r waits) j (λ h. rw (on_waits t c.linked r j h).1 at (ok_at (used t) (lock t j) 3 (c.lock_ok j) (on_waits t c.linked r j h).0).place.in_use)));
    }
  where
    nobody_on : (x : LockChain) (j : ℕ) → (1 ≤ count j (chain t x) → used t r ≡ true) → count j (chain t x) ≡ 0
    nobody_on x j h =
        by_cases (leb 1 (count j (chain t x)))
        (λ y. clash (used t r) (h (leb-true 1 (count j (chain t x)) y)) u)
        (λ y. omega (arith, leb-false 1 (count j (chain t x)) y))

pub first_member : (xs : List ℕ) → null xs ≡ false → 1 ≤ count (first xs) xs
first_member [] h = clash true refl h
first_member (x ∷ xs) h = rw count_same (omega arith)

-- an accepted request takes the first free lock
module _ (c m : ℕ) (n : List ℕ) (t : Tables) (val : Valid t) (low : 1 ≤ c) (high : c ≤ last_client) (mode : m ≤ last_mode) (some : null n ≡ false) (short : length n ≤ name_width) where
  on_old : (r k : ℕ) (ks : List ℕ) → find n t ≡ suc r → t.free_locks ≡ k ∷ ks →
      After t (request_on (suc r) k c m t).tables (instead k (made (suc r) c m (request_on (suc r) k c m t).said.answer) t)
  unfolding request_on
  on_old r k ks e frees =
      let u : used t (suc r) ≡ true = unfold used in rw (found n t r e, some) in
      by_cases (granted_at_once t (suc r) m)
      (λ h. rw (h, request_on) (enter_granted t val.core (suc r) k c m ks (λ s i. val.settled s) u (val.settled (suc r)).still frees low high mode h))
      (λ h. rw (h, request_on) (told_after k t _ _ (enter_waiting t val.core (suc r) k c m ks (λ s i. val.settled s) u (val.settled (suc r)).still frees low high mode h)))

  -- on a new name it is always granted
  module _ (r : ℕ) (e : find n t ≡ 0) (spare : 1 ≤ count r t.free_resources) where
    abbrev x : Resource
    x = new_resource n

    abbrev t0 : Tables
    t0 = move_resource r x t

    b : (within (length t.resources) r ≡ true) × (null (resource t r).name ≡ true)
    b = and_bit (within (length t.resources) r) (null (resource t r).name) (rw (val.core.spare r) at spare)

    same_chains : SameChains x (resource t r)
    same_chains = unused_chains t val.core r (unfold used in rw b.1) n

    new : (s : ℕ) → s ≢ r → null n ≡ false → n ≢ (resource t s).name
    new s i z q = by_cases (within (length t.resources) s) (λ h. missing n t e s h (sym q)) (λ h. clash (null n) (rw (q, absent t s h)) some)

    core0 : Core t0
    core0 = core_resource r x t val.core b.0 same_chains
        (record { name_length = short; value_length = no_value_length; flag = omega arith; unused = λ z. clash (null n) (rw z) some; unused_value = λ z. clash (null n) (rw z) some })
        new (λ z. clash (null n) z some)

    used0 : used t0 r ≡ true
    used0 = used_changed r x t b.0 ∙ (rw some)

    line0 : line t0 r ≡ []
    line0 = unfold line in rw (changed r x t b.0)

    pub new_at_once : granted_at_once t0 r m ≡ true
    new_at_once = alone_at_once t0 r m line0 ∙ fits_alone t0 r 0 m (rw (changed r x t b.0)) (rw (changed r x t b.0))

    moved_on : {t' : Tables} (k : ℕ) (l : Lock) → After t0 t' (instead k l t0) → After t t' (instead k l t)
    moved_on {t' = t'} k l a =
        record {
          valid = a.valid;
          in_order = λ s. order_before t t0 t' s (field_kept r x t (λ (y : Resource). y.wait) b.0 same_chains.wait s) (a.in_order s);
          weighs = λ f s j. a.weighs f s j ∙ rw (lock_kept r x t j);
          locks_are = a.locks_are ∙ (unfold move_resource in refl);
          resources_are = a.resources_are ∙ resources_kept r x t;
        }

    on_new : (k : ℕ) (ks : List ℕ) → t.free_locks ≡ k ∷ ks →
        After t (request_on r k c m t0).tables (instead k (made r c m (request_on r k c m t0).said.answer) t)
    unfolding request_on
    on_new k ks frees =
        rw (new_at_once, request_on)
        (moved_on k (holding r c m) (enter_granted t0 core0 r k c m ks (λ s i. settled_kept r x t b.0 same_chains s i (val.settled s)) used0 (rw line0 (unfold idle in refl)) (unfold move_resource in frees) low high mode new_at_once))

  pub request_after : (not (eqb (find n t) 0) || not (null t.free_resources)) ≡ true → null t.free_locks ≡ false →
      After t (request_change c m n t).tables (instead (first t.free_locks) (made (resource_for (find n t) t) c m (request_change c m n t).said.answer) t)
  unfolding request_change resource_for with_resource
  request_after room lock_left = go (find n t) t.free_locks refl refl room lock_left
    where
      go : (a : ℕ) (ks : List ℕ) → find n t ≡ a → t.free_locks ≡ ks → (not (eqb a 0) || not (null t.free_resources)) ≡ true → null ks ≡ false →
          After t (request_on (resource_for a t) (first ks) c m (with_resource a n t)).tables (instead (first ks) (made (resource_for a t) c m (request_on (resource_for a t) (first ks) c m (with_resource a n t)).said.answer) t)
      go a [] e g y z = clash true refl z
      go zero (k ∷ ks) e g y z = on_new (first t.free_resources) e (first_member t.free_resources (not-true (null t.free_resources) y)) k ks g
      go (suc r) (k ∷ ks) e g y z = on_old r k ks e g
