-- Granting and sweeping keep a state sound, leave other resources as they were, take from the front of a wait chain, and leave what the locks weigh.
use mathlib.Core.Path.{◌≡◌, refl, sym, ap, ◌∙◌}
use mathlib.Core.Logic.{◌≢◌}
use mathlib.Core.Bool.{true, false, and-true}
use mathlib.Core.List.{List, [], ◌∷◌, ◌++◌}
use Prim.Native.Nat.{ℕ, ◌+◌, ◌≤◌}
use native.Mathlib.Omega.{arith}
use lib.ListN.{length, drop}
use Rattle.tables.specs.declared.Lock.{Lock}
use Rattle.tables.specs.Lists.{within, count, remove, null}
use Rattle.tables.specs.State.{Tables, lock, resource, converting, waiting, blocked_lock, shift, relist, move, converts, waits, queue}
use Rattle.tables.specs.Grants.{convert_grantable, wait_grantable, empty}
use Rattle.tables.proofs.Cases.{by_cases, by_equal, clash, eqb_same}
use Rattle.tables.proofs.Counts.{count_append, remove_absent, remove_head, remove_append, shift_off, head_in, head_once}
use Rattle.tables.specs.Validity.{Core, line, idle, Settled, Near, as_granted}
use Rattle.tables.proofs.Valid.{used_within, lock_same, lock_other, resource_same, resource_other, locks_length, resources_length, core_move}
use Rattle.tables.proofs.ChainMembers.{fits_true, blocked_place, settled_other, line_once, line_blocked, not_granted, wait_behind, wait_head}
use Rattle.rules.specs.Queues.{granted_lock, grant_lock, grant_while, grant_converts, grant_waits, sweep}
use Rattle.rules.proofs.ListOrder.{FromFront, front_none, front_then}
use Rattle.rules.proofs.LockWeights.{Steady, Weighs, weighs_same, blocked_silent}

module _ (t : Tables) (c : Core t) where
  pub grant_core : (r k : ℕ) → 1 ≤ count k (line t r) → convert_grantable t r k ≡ true → Core (grant_lock r k t)
  unfolding grant_lock granted_lock convert_grantable
  grant_core r k m g =
      let b = blocked_place t c r k m in
      core_move r k (granted_lock (lock t k)) t c b.2 (λ z. b.1) (λ z. b.1)
      (as_granted refl (record {
        place = record { in_use = b.0.in_use; client_low = b.0.client_low; client_high = b.0.client_high; held_mode = b.0.asked_mode; asked_mode = omega arith; mark_mode = b.0.mark_mode };
        asks = refl;
        notice = omega arith;
        not_denied = omega arith;
      }))
      (λ z. rw b.1 (fits_true t c.linked r k (lock t k).asked g))

  -- a blocked lock is granted: it leaves its chain
  module _ (r k : ℕ) (m : 1 ≤ count k (line t r)) where
    left : resource (grant_lock r k t) r ≡ relist k (lock t k) (granted_lock (lock t k)) (resource t r)
    unfolding grant_lock
    left = let b = blocked_place t c r k m in resource_same r k (granted_lock (lock t k)) t (used_within t r (rw b.1 at b.0.in_use))

    pub grant_converts_left : (resource (grant_lock r k t) r).convert ≡ remove k (resource t r).convert
    unfolding relist granted_lock
    grant_converts_left =
        let b = blocked_place t c r k m in
        rw left (shift_off (converting (lock t k)) k (resource t r).convert (c.linked (queue r converts) k ∙ rw (b.2, b.1, eqb_same r, and-true)))

    pub grant_waits_left : (resource (grant_lock r k t) r).wait ≡ remove k (resource t r).wait
    unfolding relist granted_lock
    grant_waits_left =
        let b = blocked_place t c r k m in
        rw left (shift_off (waiting (lock t k)) k (resource t r).wait (c.linked (queue r waits) k ∙ rw (b.2, b.1, eqb_same r, and-true)))

  -- the head of the line is granted: the rest is the line
  module _ (r k : ℕ) (ks : List ℕ) where
    pub once : line t r ≡ k ∷ ks → count k ks ≡ 0
    once e = head_once (line t r) k ks e (line_once t c r k)

    pub grant_line : line t r ≡ k ∷ ks → line (grant_lock r k t) r ≡ ks
    unfolding line
    grant_line e = rw (grant_converts_left r k (head_in (line t r) k ks e), grant_waits_left r k (head_in (line t r) k ks e), ← remove_append, e) (remove_head k ks (once e))

    -- .. and of the wait chain it was the front, or not on it
    grant_front : line t r ≡ k ∷ ks → FromFront (resource t r).wait (resource (grant_lock r k t) r).wait
    unfolding line
    grant_front e = rw (grant_waits_left r k (head_in (line t r) k ks e)) (go (resource t r).convert (resource t r).wait e (once e))
      where
        go : (cs ws : List ℕ) → cs ++ ws ≡ k ∷ ks → count k ks ≡ 0 → FromFront ws (remove k ws)
        go [] ws q z = rw (q, remove_head k ks z) (record { taken = k ∷ []; split = refl })
        go (x ∷ cs) ws q z =
            let rest : cs ++ ws ≡ ks = ap (λ (ys : List ℕ). drop 1 ys) q in
            rw (remove_absent k ws (omega (arith, count_append k cs ws, ap (count k) rest))) (front_none ws)

    grant_fronts : line t r ≡ k ∷ ks → (s : ℕ) → FromFront (resource t s).wait (resource (grant_lock r k t) s).wait
    unfolding grant_lock
    grant_fronts e s =
        by_equal s r
        (λ q. rw q (grant_front e))
        (λ n. rw (resource_other r k (granted_lock (lock t k)) t s n) (front_none _))

-- what sweeping does. Of every wait chain some are taken from the front, locks that are not blocked stay as they are, and all weigh what they weighed.
pub record Swept (r : ℕ) (t t' : Tables) : Type 0 where
  pub core : Core t'
  pub still : idle t' r (line t' r) ≡ true
  pub others : (s : ℕ) → s ≢ r → Settled t s → Settled t' s
  pub fronts : (s : ℕ) → FromFront (resource t s).wait (resource t' s).wait
  pub unmoved : (j : ℕ) → blocked_lock (lock t j) ≡ false → lock t' j ≡ lock t j
  pub peopled : empty (resource t r) ≡ false → empty (resource t' r) ≡ false
  pub weighs : Weighs (lock t) t'
  pub locks_same : length t'.locks ≡ length t.locks
  pub resources_same : length t'.resources ≡ length t.resources

-- a step before a sweep that leaves the other resources alone
pub step_swept : (r k : ℕ) (m : Lock) (t t' : Tables) → Core t → Near r (lock t k) → (empty (resource t r) ≡ false → empty (resource (move r k m t) r) ≡ false) →
    ((f : Lock → ℕ) → Steady f → f m ≡ f (lock t k)) → ((s : ℕ) → FromFront (resource t s).wait (resource (move r k m t) s).wait) → blocked_lock (lock t k) ≡ true →
    within (length t.locks) k ≡ true → Swept r (move r k m t) t' → Swept r t t'
step_swept r k m t t' c near full same front b w s =
    record {
      core = s.core;
      still = s.still;
      others = λ q n h. s.others q n (settled_other t c r k m near q n h);
      fronts = λ q. front_then _ _ _ (front q) (s.fronts q);
      unmoved = λ j h.
          let o = lock_other r k m t j (λ e. clash (blocked_lock (lock t k)) b (rw e at h)) in
          s.unmoved j (rw o h) ∙ o;
      peopled = λ h. s.peopled (full h);
      weighs = λ f y j. s.weighs f y j ∙ by_equal j k (λ e. rw (e, lock_same r k m t w) (same f y)) (λ n. ap f (lock_other r k m t j n));
      locks_same = s.locks_same ∙ locks_length r k m t;
      resources_same = s.resources_same ∙ resources_length r k m t;
    }

pub full_grant : (xs : List ℕ) (k : ℕ) → null (xs ++ (k ∷ [])) ≡ false
full_grant [] k = refl
full_grant (x ∷ xs) k = refl

pub grant_full : (t : Tables) (c : Core t) (r k : ℕ) → 1 ≤ count k (line t r) → empty (resource (grant_lock r k t) r) ≡ false
unfolding empty relist granted_lock shift
grant_full t c r k m = rw (left t c r k m, (not_granted t c r k m).0) (rw (full_grant (resource t r).grant k))

-- one loop over the line: convert heads, then wait heads, by the convert heads' test
abbrev pub sweep_line : ℕ → List ℕ → Tables → Tables
sweep_line r qs t = grant_while convert_grantable r qs t

still_swept : (r : ℕ) (t : Tables) → Core t → idle t r (line t r) ≡ true → Swept r t t
still_swept r t c h =
    record {
      core = c;
      still = h;
      others = λ s n q. q;
      fronts = λ s. front_none _;
      unmoved = λ j q. refl;
      peopled = λ q. q;
      weighs = weighs_same t;
      locks_same = refl;
      resources_same = refl;
    }

next_swept : (r k : ℕ) (ks : List ℕ) (t : Tables) → Core t → line t r ≡ k ∷ ks →
    (convert_grantable t r k ≡ true → Swept r (grant_lock r k t) (sweep_line r ks (grant_lock r k t))) → Swept r t (sweep_line r (k ∷ ks) t)
unfolding grant_while grant_lock
next_swept r k ks t c e rest =
    let m = head_in (line t r) k ks e in
    let l : Lock = granted_lock (lock t k) in
    by_cases (convert_grantable t r k)
    (λ g. rw (g, grant_while)
    (step_swept r k l t _ c (λ z. (blocked_place t c r k m).1) (λ z. grant_full t c r k m)
    (λ f y. y.grants (lock t k) (line_blocked t c r k m) (blocked_silent t c k (line_blocked t c r k m)))
    (grant_fronts t c r k ks e) (line_blocked t c r k m) (blocked_place t c r k m).2 (rest g)))
    (λ g. rw (g, grant_while) (still_swept r t c (rw e (unfold idle in rw g))))

pub swept : (r : ℕ) (qs : List ℕ) (t : Tables) → Core t → line t r ≡ qs → Swept r t (sweep_line r qs t)
swept r [] t c e = unfold grant_while in still_swept r t c (rw e (unfold idle in refl))
swept r (k ∷ ks) t c e =
    next_swept r k ks t c e (λ g. swept r ks (grant_lock r k t) (grant_core t c r k (head_in (line t r) k ks e) g) (grant_line t c r k ks e))

-- the paper's two loops are that one: on an empty convert chain the tests are the same, and behind a convert head no wait head is granted
waits_line : (r : ℕ) (ws : List ℕ) (t : Tables) → Core t → (resource t r).convert ≡ [] → (resource t r).wait ≡ ws →
    grant_while wait_grantable r ws t ≡ sweep_line r ws t
unfolding grant_while
waits_line r [] t c e f = refl
waits_line r (k ∷ ks) t c e f =
    let i = head_in (resource t r).wait k ks f in
    let whole : line t r ≡ k ∷ ks = unfold line in rw (e, f) in
    let m = head_in (line t r) k ks whole in
    by_cases (convert_grantable t r k)
    (λ g. rw (wait_head t c r k e i, g, grant_while)
    (waits_line r ks (grant_lock r k t) (grant_core t c r k m g)
    (grant_converts_left t c r k m ∙ rw e (unfold remove in refl))
    (grant_waits_left t c r k m ∙ rw f (remove_head k ks (once t c r k ks whole)))))
    (λ g. rw (wait_head t c r k e i, g, grant_while))

held_up : (r j : ℕ) (js ws : List ℕ) (t : Tables) → (resource t r).convert ≡ j ∷ js → grant_while wait_grantable r ws t ≡ t
unfolding grant_while
held_up r j js [] t e = refl
held_up r j js (k ∷ ks) t e = rw (wait_behind t r k j js e, grant_while)

loops_line : (r : ℕ) (cs ws : List ℕ) (t : Tables) → Core t → (resource t r).convert ≡ cs → (resource t r).wait ≡ ws →
    grant_waits r (grant_while convert_grantable r cs t) ≡ sweep_line r (cs ++ ws) t
unfolding grant_waits grant_while
loops_line r [] ws t c e f = rw f (waits_line r ws t c e f)
loops_line r (k ∷ ks) ws t c e f =
    let whole : line t r ≡ k ∷ (ks ++ ws) = unfold line in rw (e, f) in
    let m = head_in (line t r) k (ks ++ ws) whole in
    let z : count k ks + count k ws ≡ 0 = sym (count_append k ks ws) ∙ once t c r k (ks ++ ws) whole in
    by_cases (convert_grantable t r k)
    (λ g. rw (g, grant_while)
    (loops_line r ks ws (grant_lock r k t) (grant_core t c r k m g)
    (grant_converts_left t c r k m ∙ rw e (remove_head k ks (omega arith)))
    (grant_waits_left t c r k m ∙ rw f (remove_absent k ws (omega arith)))))
    (λ g. rw (g, grant_while) (held_up r k ks (resource t r).wait t e))

pub sweep_is_line : (r : ℕ) (t : Tables) → Core t → sweep r t ≡ sweep_line r (line t r) t
unfolding sweep grant_converts line
sweep_is_line r t c = loops_line r (resource t r).convert (resource t r).wait t c refl refl

pub sweep_swept : (r : ℕ) (t : Tables) → Core t → Swept r t (sweep r t)
sweep_swept r t c = rw (sweep_is_line r t c) (swept r (line t r) t c refl)
