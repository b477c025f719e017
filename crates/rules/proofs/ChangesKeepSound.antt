-- A lock changes, and its resource is settled, swept or left: the state stays sound, waiting locks keep their order, and the other locks their weight.
use mathlib.Core.Path.{◌≡◌, refl, ap, ◌∙◌}
use mathlib.Core.Logic.{◌≢◌}
use mathlib.Core.Bool.{true, false}
use mathlib.Core.List.{List, [], ◌∷◌}
use Prim.Native.Nat.{ℕ, ◌+◌, ◌≤◌}
use native.Mathlib.Omega.{arith}
use lib.ListN.{length}
use borrow.Author.Tests.{not-true}
use Rattle.tables.specs.declared.Lock.{Lock}
use Rattle.tables.specs.Lists.{within, count, all}
use Rattle.tables.specs.State.{Resource, Tables, no_lock, no_resource, lock, resource, granted, converting, waiting, blocked_lock, holds, shift, relist, move, move_resource, grants, queue}
use Rattle.tables.specs.Grants.{holders, fits, convert_grantable, empty}
use Rattle.tables.proofs.Cases.{by_cases, by_equal, clash, eqb_same, nor_left, nor_right}
use Rattle.tables.proofs.Counts.{count_nil, head_in}
use Rattle.tables.specs.Validity.{used, LockOk, Core, line, idle, Settled, Valid, Near, as_free}
use Rattle.tables.proofs.Valid.{lock_same, lock_other, resource_same, locks_length, resources_length, used_zero, Fits, core_move}
use Rattle.tables.proofs.ChainMembers.{chain_has, fits_true, true_fits, settled_other, line_blocked}
use Rattle.rules.specs.Queues.{sweep, free_lock, settle}
use Rattle.rules.proofs.ListOrder.{FromFront, front_none}
use Rattle.rules.proofs.WaitChains.{InOrder, nobody_leaves, moved_order, order_before}
use Rattle.rules.proofs.LockWeights.{Steady, Weighs, weighs_same, instead, move_instead}
use Rattle.rules.proofs.SweepLaws.{Swept, sweep_swept}
use Rattle.rules.proofs.ResourceChanges.{empty_chains, used_changed, free_empty, Quiet}

-- settling: what a call does last on the resource r
pub record Settles (r : ℕ) (t t' : Tables) : Type 0 where
  pub core : Core t'
  pub here : Settled t' r
  pub others : (s : ℕ) → s ≢ r → Settled t s → Settled t' s
  pub fronts : (s : ℕ) → FromFront (resource t s).wait (resource t' s).wait
  pub unmoved : (j : ℕ) → blocked_lock (lock t j) ≡ false → lock t' j ≡ lock t j
  pub weighs : Weighs (lock t) t'
  pub locks_same : length t'.locks ≡ length t.locks
  pub resources_same : length t'.resources ≡ length t.resources

swept_settles : (r : ℕ) (t t' : Tables) → Swept r t t' → (used t' r ≡ true → empty (resource t' r) ≡ false) → Settles r t t'
swept_settles r t t' s h =
    record {
      core = s.core;
      here = record { still = s.still; peopled = h };
      others = s.others;
      fronts = s.fronts;
      unmoved = s.unmoved;
      weighs = s.weighs;
      locks_same = s.locks_same;
      resources_same = s.resources_same;
    }

pub sweep_settles : (r : ℕ) (t : Tables) → Core t → empty (resource t r) ≡ false → Settles r t (sweep r t)
sweep_settles r t c h = swept_settles r t (sweep r t) (sweep_swept r t c) (λ u. (sweep_swept r t c).peopled h)

pub settle_settles : (r : ℕ) (t : Tables) → Core t → within (length t.resources) r ≡ true → Settles r t (settle r t)
unfolding settle
settle_settles r t c w =
    by_cases (empty (resource t r))
    (λ h. rw (h, settle) (swept_settles r t _ (free_empty r t c w h) (λ v. clash (used (move_resource r no_resource t) r) v (used_changed r no_resource t w))))
    (λ h. rw (h, settle) (sweep_settles r t c h))

-- what a call leaves; g: what each lock became, but for grants by a sweep and for marks
pub record After (t t' : Tables) (g : ℕ → Lock) : Type 0 where
  pub valid : Valid t'
  pub in_order : (s : ℕ) → InOrder t t' s
  pub weighs : Weighs g t'
  pub locks_are : length t'.locks ≡ length t.locks
  pub resources_are : length t'.resources ≡ length t.resources

pub unchanged_after : (t : Tables) → Valid t → After t t (lock t)
unchanged_after t val = record { valid = val; in_order = λ s. nobody_leaves t t t s refl (front_none _); weighs = weighs_same t; locks_are = refl; resources_are = refl }

-- the same weights by other records
pub after_same : {t t' : Tables} (g h : ℕ → Lock) → ((f : Lock → ℕ) → Steady f → (j : ℕ) → f (g j) ≡ f (h j)) → After t t' g → After t t' h
after_same g h e a =
    record { valid = a.valid; in_order = a.in_order; weighs = λ f s j. a.weighs f s j ∙ e f s j; locks_are = a.locks_are; resources_are = a.resources_are }

-- a lock of a sound state changes, and its resource is settled, swept or left. One that waited is then neither granted nor blocked.
module _ (t : Tables) (c : Core t) (r k : ℕ) (m : Lock) (rest : (s : ℕ) → s ≢ r → Settled t s)
    (w : within (length t.locks) k ≡ true) (near_old : Near r (lock t k)) (near_new : Near r m)
    (ok : LockOk (used t) m) (fit : holds m ≡ true → Fits t m.resource k m.held)
    (drops : waiting (lock t k) ≡ true → (granted m ≡ false) × (blocked_lock m ≡ false)) where
  pub moved : Core (move r k m t)
  moved = core_move r k m t c w near_old near_new ok fit

  dropped : (t' : Tables) → Settles r (move r k m t) t' → waiting (lock t k) ≡ true → (granted (lock t' k) ≡ false) × (waiting (lock t' k) ≡ false)
  dropped t' s z =
      let d = drops z in
      let e : lock t' k ≡ m = s.unmoved k (rw (lock_same r k m t w) d.1) ∙ lock_same r k m t w in
      rw e (d.0, nor_right (converting m) (waiting m) d.1)

  after : (t' : Tables) → Settles r (move r k m t) t' → After t t' (instead k m t)
  after t' s =
      record {
        valid = record { core = s.core; settled = λ q. by_equal q r (λ e. rw e s.here) (λ n. s.others q n (settled_other t c r k m near_old q n (rest q n))) };
        in_order = λ q. moved_order r k m t t' c w near_old near_new ok (dropped t' s) q (s.fronts q);
        weighs = λ f y j. s.weighs f y j ∙ ap f (move_instead r k m t w j);
        locks_are = s.locks_same ∙ locks_length r k m t;
        resources_are = s.resources_same ∙ resources_length r k m t;
      }

  pub then_settle : within (length t.resources) r ≡ true → After t (settle r (move r k m t)) (instead k m t)
  then_settle v = after _ (settle_settles r (move r k m t) moved (rw (resources_length r k m t) v))

  pub then_sweep : empty (resource (move r k m t) r) ≡ false → After t (sweep r (move r k m t)) (instead k m t)
  then_sweep h = after _ (sweep_settles r (move r k m t) moved h)

  pub then_stop : Settled (move r k m t) r → After t (move r k m t) (instead k m t)
  then_stop h = after _ (record { core = moved; here = h; others = λ s n q. q; fronts = λ s. front_none _; unmoved = λ j q. refl; weighs = weighs_same (move r k m t); locks_same = refl; resources_same = refl })

-- after a change that no lock sees
pub quiet_after : (t t0 t' : Tables) (k : ℕ) (m : Lock) → Quiet t t0 → After t0 t' (instead k m t0) → After t t' (instead k m t)
quiet_after t t0 t' k m q a =
    record {
      valid = a.valid;
      in_order = λ s. order_before t t0 t' s (q.waits_are s) (a.in_order s);
      weighs = λ f s j. a.weighs f s j ∙ rw (q.lock_is j);
      locks_are = a.locks_are ∙ q.locks_are;
      resources_are = a.resources_are ∙ q.resources_are;
    }

-- a lock is freed
module _ (t : Tables) (c : Core t) (r k : ℕ) (e : (lock t k).resource ≡ r) (rest : (s : ℕ) → s ≢ r → Settled t s)
    (w : within (length t.locks) k ≡ true) where
  is_move : free_lock k t ≡ move r k no_lock t
  unfolding free_lock
  is_move = rw e

  pub freed_settle : within (length t.resources) r ≡ true → After t (settle r (free_lock k t)) (instead k no_lock t)
  freed_settle v =
      rw is_move
      (then_settle t c r k no_lock rest w (λ z. e) (λ z. absurd (z refl)) (as_free refl) (λ z. clash false z refl) (λ z. (refl, refl)) v)

  pub freed_sweep : empty (resource (move r k no_lock t) r) ≡ false → After t (sweep r (free_lock k t)) (instead k no_lock t)
  freed_sweep v =
      rw is_move
      (then_sweep t c r k no_lock rest w (λ z. e) (λ z. absurd (z refl)) (as_free refl) (λ z. clash false z refl) (λ z. (refl, refl)) v)

  pub freed_stop : Settled (move r k no_lock t) r → After t (free_lock k t) (instead k no_lock t)
  freed_stop v =
      rw is_move
      (then_stop t c r k no_lock rest w (λ z. e) (λ z. absurd (z refl)) (as_free refl) (λ z. clash false z refl) (λ z. (refl, refl)) v)

-- somebody stands on the resource, or nobody holds a mode there
pub full_of : (x : Resource) (j : ℕ) → 1 ≤ count j x.grant + count j x.convert + count j x.wait → empty x ≡ false
full_of x j m =
    by_cases (empty x)
    (λ h. let e = empty_chains x h in absurd (omega (arith, rw (e.0, e.1, e.2, count_nil j) at m)))
    (λ h. h)

pub granted_full : (t : Tables) (r k : ℕ) (m : Lock) → Core (move r k m t) → within (length t.locks) k ≡ true → granted m ≡ true → m.resource ≡ r → empty (resource (move r k m t) r) ≡ false
granted_full t r k m c w g e =
    full_of _ k
    (omega (arith, chain_has (move r k m t) c.linked (queue r grants) k (rw (locks_length r k m t) w) (rw (lock_same r k m t w, g, e, eqb_same r))))

pub fits_alone : (t : Tables) (r k m : ℕ) → (resource t r).grant ≡ [] → (resource t r).convert ≡ [] → fits t r k m ≡ true
unfolding fits holders all
fits_alone t r k m a b = rw (a, b)

-- what was not grantable stays so where no mode is given up
abbrev pub Grows : Tables → Tables → ℕ → Type 0
Grows t t' r =
    (j : ℕ) → holds (lock t j) ≡ true → (lock t j).resource ≡ r →
    (holds (lock t' j) ≡ true) × ((lock t' j).resource ≡ r) × ((lock t' j).held ≡ (lock t j).held)

pub fits_less : (t t' : Tables) → Core t → Core t' → (r h a : ℕ) → Grows t t' r → fits t r h a ≡ false → fits t' r h a ≡ false
fits_less t t' c c' r h a g f =
    by_cases (fits t' r h a)
    (λ y. clash (fits t r h a) (true_fits t c.linked r h a (λ j n o e. rw (g j o e).2 at (fits_true t' c'.linked r h a y j n (g j o e).0 (g j o e).1))) f)
    (λ y. y)

pub grows_move : (t : Tables) (r k : ℕ) (m : Lock) → within (length t.locks) k ≡ true →
    (holds (lock t k) ≡ true → (lock t k).resource ≡ r → (holds m ≡ true) × (m.resource ≡ r) × (m.held ≡ (lock t k).held)) → Grows t (move r k m t) r
grows_move t r k m w h j =
    by_equal j k
    (λ e. rw (e, lock_same r k m t w) h)
    (λ n. rw (lock_other r k m t j n) (λ o e. (o, e, refl)))

-- the head of the line stays where it is, and is not k
module _ (t : Tables) (c : Core t) (r k : ℕ) (m : Lock) (c' : Core (move r k m t)) (w : within (length t.locks) k ≡ true) (free_k : blocked_lock (lock t k) ≡ false)
    (grows : Grows t (move r k m t) r) where
  pub head_still : (h : ℕ) (hs hs' : List ℕ) → line t r ≡ h ∷ hs → line (move r k m t) r ≡ h ∷ hs' → idle t r (line t r) ≡ true → idle (move r k m t) r (line (move r k m t) r) ≡ true
  unfolding idle convert_grantable
  head_still h hs hs' e e' i =
      let n : h ≢ k = λ q. clash (blocked_lock (lock t k)) (rw q at (line_blocked t c r h (head_in (line t r) h hs e))) free_k in
      let f : convert_grantable t r h ≡ false = not-true _ (rw e at i) in
      rw e' (rw (lock_other r k m t h n, fits_less t (move r k m t) c c' r h (lock t h).asked grows f))

  -- k is the new head, and does not fit
  pub head_new : (ks : List ℕ) → line (move r k m t) r ≡ k ∷ ks → fits t r k m.asked ≡ false → idle (move r k m t) r (line (move r k m t) r) ≡ true
  unfolding idle convert_grantable
  head_new ks e f = rw e (rw (lock_same r k m t w, fits_less t (move r k m t) c c' r k m.asked grows f))

  -- a lock that is not blocked changes to another that is not: the line stays
  line_stays : within (length t.resources) r ≡ true → blocked_lock m ≡ false → line (move r k m t) r ≡ line t r
  unfolding line relist shift
  line_stays v b =
      rw (resource_same r k m t v, nor_left (converting (lock t k)) _ free_k, nor_right (converting (lock t k)) (waiting (lock t k)) free_k, nor_left (converting m) _ b, nor_right (converting m) (waiting m) b)

  pub still_stays : within (length t.resources) r ≡ true → blocked_lock m ≡ false → idle t r (line t r) ≡ true → idle (move r k m t) r (line (move r k m t) r) ≡ true
  still_stays v b i = go (line t r) refl
    where
      go : (qs : List ℕ) → line t r ≡ qs → idle (move r k m t) r (line (move r k m t) r) ≡ true
      go [] e = rw (line_stays v b, e) (unfold idle in refl)
      go (h ∷ hs) e = head_still h hs hs e (line_stays v b ∙ e) i

pub nothing_at_zero : (t : Tables) → Settled t 0
unfolding line resource idle
nothing_at_zero t = record { still = refl; peopled = λ u. clash (used t 0) u (used_zero t) }
