-- What the walk over a resource finds of modes and heads is what the state says of them.
use mathlib.Core.Path.{◌≡◌, refl, sym, ap, ◌∙◌}
use mathlib.Core.Bool.{Bool, true, false, ◌&&◌, ◌||◌, not, cond, and-true}
use mathlib.Core.List.{List, [], ◌∷◌, ◌++◌}
use Prim.Native.Nat.{ℕ, zero, suc, ◌-◌, ◌≤◌}
use native.Mathlib.Omega.{arith}
use lib.Dec.{eqb, leb}
use borrow.Author.Tests.{eqb-true, eq-eqb, ne_eqb, leb-true}
use Rattle.modes.specs.Modes.{compatible}
use Rattle.modes.specs.Sets.{fits_set}
use Rattle.modes.proofs.Laws.{fits_none}
use Rattle.tables.specs.Lists.{count, all}
use Rattle.tables.specs.State.{Resource, lock, resource, Queue, grants, converts, waits}
use Rattle.tables.specs.Layout.{resources_in, locks_in, follow, read_chain, read_lock, read_resource, read, held_in}
use Rattle.tables.specs.Grants.{holders, fits, convert_grantable, wait_grantable, grantable_head, no_grantable_head}
use Rattle.tables.specs.Sound.{holders_compatible}
use Rattle.tables.proofs.Cases.{by_equal, eqb_same, and_left, and_right, or_left, or_right, parts, same_truth}
use Rattle.tables.proofs.Counts.{count_same, count_step, count_append, all_at, all_intro, all_cong, by_append, head_in}
use Rattle.tables.proofs.ReadState.{resource_of, lock_of}
use Rattle.tables.proofs.FollowedChains.{follow_zero, follow_step}
use Rattle.tables.proofs.ThreadedChains.{each_counted}
use Rattle.check_laws.specs.Check.{lock_fine, stands, home_on, fitting, gather, convert_fit, other_modes, heads_wait}
use Rattle.check_laws.proofs.ChainSteps.{once, member}
use Rattle.check_laws.proofs.HeldModes.{all_append, all_true, all_each, pairs, Low, gather_small, gather_fits, fitting_is, beside_is, pairs_append, pairs_true, true_pairs}
use Rattle.check_laws.proofs.ResourceWalk.{asked_in, link_of, head_of, queue_in, Right}

assoc : (a b c : Bool) → (a && (b && c)) ≡ ((a && b) && c)
assoc true b c = refl
assoc false b c = refl

-- SETS. Of the granted modes, and of those other than the convert head's
module _ (held : ℕ → ℕ) (gs : List ℕ) (low : Low held gs) where
  gathered : (a : ℕ) → a ≤ 5 → fits_set (gather held 0 gs) a ≡ all (λ j. compatible (held j) a) gs
  gathered a p = gather_fits held 0 a gs (omega arith) p low ∙ (rw (fits_none a (omega arith)))

  others_fit : (c a : ℕ) (cs : List ℕ) → a ≤ 5 → Low held cs → fits_set (other_modes held (gather held 0 gs) (c ∷ cs)) a ≡ all (λ j. compatible (held j) a) (gs ++ cs)
  unfolding other_modes
  others_fit c a cs p e =
      gather_fits held (gather held 0 gs) a cs (gather_small held 0 gs (omega arith) low) p e
      ∙ (rw (gathered a p) (sym (all_append (λ j. compatible (held j) a) gs cs)))

  grants_fit : fitting fits_set held 0 gs ≡ pairs held gs
  grants_fit =
      fitting_is held 0 gs (omega arith) low
      ∙ (rw (all_each (λ k. fits_set 0 (held k)) (λ k. true) (λ k. held k ≤ 5) gs low (λ k l. fits_none (held k) (omega arith)), all_true gs))

  pub fit_pairs : (cs : List ℕ) → Low held cs → (fitting fits_set held 0 gs && convert_fit held (gather held 0 gs) cs) ≡ pairs held (gs ++ cs)
  unfolding convert_fit pairs all
  fit_pairs [] e = rw (grants_fit, pairs_append held gs [])
  fit_pairs (c ∷ cs) e =
      rw (
        grants_fit,
        pairs_append held gs (c ∷ cs),
        gathered (held c) e.0,
        beside_is held (held c) (gather held 0 gs) cs e.0 (gather_small held 0 gs (omega arith) low) e.1,
        all_each (λ k. fits_set (gather held 0 gs) (held k)) (λ k. all (λ j. compatible (held j) (held k)) gs) (λ k. held k ≤ 5) cs e.1 (λ k l. gathered (held k) l),
      )
      (ap (λ (b : Bool). pairs held gs && b) (assoc (all (λ j. compatible (held j) (held c)) gs) (all (λ k. all (λ j. compatible (held j) (held k)) gs) cs) _))

-- HEADS. No head is grantable: by the chains
unfoldable pub kept : (ℕ → ℕ) → (ℕ → ℕ) → List ℕ → List ℕ → List ℕ → Bool
kept held asked gs [] [] = true
kept held asked gs [] (w ∷ ws) = not (all (λ j. compatible (held j) (asked w)) gs)
kept held asked gs (c ∷ cs) ws = not (all (λ j. compatible (held j) (asked c)) (gs ++ cs))

module _ (ws : List ℕ) (some : 1 ≤ locks_in ws) (f g : ℕ → ℕ) (gs : List ℕ) (low : Low (held_in ws) gs) where
  heads_kept : (c w : ℕ) → Low (held_in ws) (follow f (locks_in ws) c) → Low (asked_in ws) (follow f (locks_in ws) c) → Low (asked_in ws) (follow g (locks_in ws) w) →
      cond (eqb c 0) (eqb w 0 || not (fits_set (gather (held_in ws) 0 gs) (asked_in ws w)))
      (not (fits_set (other_modes (held_in ws) (gather (held_in ws) 0 gs) (follow f (locks_in ws) c)) (asked_in ws c)))
      ≡ kept (held_in ws) (asked_in ws) gs (follow f (locks_in ws) c) (follow g (locks_in ws) w)
  unfolding kept
  heads_kept zero zero a b d = rw (follow_zero f (locks_in ws), follow_zero g (locks_in ws))
  heads_kept zero (suc w) a b d =
      let step = follow_step g (locks_in ws) (suc w) some (omega arith) in
      let l = rw step at d in
      rw (follow_zero f (locks_in ws), step, ne_eqb (suc w) 0 (omega arith), gathered (held_in ws) gs low (asked_in ws (suc w)) l.0)
  heads_kept (suc c) w a b d =
      let step = follow_step f (locks_in ws) (suc c) some (omega arith) in
      let l = rw step at b in
      let m = rw step at a in
      rw (step, ne_eqb (suc c) 0 (omega arith), others_fit (held_in ws) gs low (suc c) (asked_in ws (suc c)) (follow f (locks_in ws - 1) (f (suc c))) l.0 m.1)

-- ON A RESOURCE
module _ (ws : List ℕ) (s r k : ℕ) (h : home_on ws s r k ≡ true) where
  pub home_low : k ≤ locks_in ws
  unfolding home_on
  home_low = leb-true k (locks_in ws) (and_left (leb k (locks_in ws)) _ h)

  standing : stands ws s r k ≡ true
  unfolding home_on
  standing = and_right (leb k (locks_in ws)) _ h

  pub home_state : (read_lock ws k).state ≡ s
  unfolding stands
  home_state = let z = standing in eqb-true (read_lock ws k).state s (search parts depth 20)

  pub home_resource : (read_lock ws k).resource ≡ r
  unfolding stands
  home_resource = let z = standing in eqb-true (read_lock ws k).resource r (search parts depth 20)

  pub home_fine : lock_fine ws k ≡ true
  unfolding stands
  home_fine = let z = standing in search parts depth 20

module _ (ws : List ℕ) (r : ℕ) (q : Queue) (s : ℕ) (right : Right ws r q s) where
  pub queue_once : (j : ℕ) → count j (queue_in ws r q) ≤ 1
  unfolding queue_in
  queue_once = once (link_of ws r q) (locks_in ws) (head_of ws r q) right.ended

  pub queue_member : (k : ℕ) → 1 ≤ count k (queue_in ws r q) → (1 ≤ k) × (k ≤ locks_in ws) × (home_on ws s r k ≡ true)
  unfolding queue_in
  queue_member = member (link_of ws r q) (home_on ws s r) (locks_in ws) (home_low ws s r) (locks_in ws) (head_of ws r q) right

abbrev pub ModesLow : List ℕ → Type 0
ModesLow ws = (k : ℕ) → 1 ≤ k → k ≤ locks_in ws → (held_in ws k ≤ 5) × (asked_in ws k ≤ 5)

module _ (ws ss : List ℕ) (r : ℕ) (from_one : 1 ≤ r) (to_last : r ≤ resources_in ws) where
  pub grants_read : (resource (read ws ss) r).grant ≡ queue_in ws r grants
  unfolding read_resource read_chain queue_in
  grants_read = ap (λ (x : Resource). x.grant) (resource_of ws ss r from_one to_last)

  pub converts_read : (resource (read ws ss) r).convert ≡ queue_in ws r converts
  unfolding read_resource read_chain queue_in
  converts_read = ap (λ (x : Resource). x.convert) (resource_of ws ss r from_one to_last)

  pub waits_read : (resource (read ws ss) r).wait ≡ queue_in ws r waits
  unfolding read_resource read_chain queue_in
  waits_read = ap (λ (x : Resource). x.wait) (resource_of ws ss r from_one to_last)

  module _ (some : 1 ≤ locks_in ws) (modes : ModesLow ws) (g : Right ws r grants 1) (c : Right ws r converts 2) (w : Right ws r waits 3) where
    pub held_low : (q : Queue) (s : ℕ) → Right ws r q s → Low (held_in ws) (queue_in ws r q)
    held_low q s p = each_counted (λ k. held_in ws k ≤ 5) (queue_in ws r q) (λ k m. let i = queue_member ws r q s p k m in (modes k i.0 i.1).0)

    asked_low : (q : Queue) (s : ℕ) → Right ws r q s → Low (asked_in ws) (queue_in ws r q)
    asked_low q s p = each_counted (λ k. asked_in ws k ≤ 5) (queue_in ws r q) (λ k m. let i = queue_member ws r q s p k m in (modes k i.0 i.1).1)

    apart : (j : ℕ) → 1 ≤ count j (queue_in ws r grants) → 1 ≤ count j (queue_in ws r converts) → ⊥
    apart j m n = omega (arith, home_state ws 1 r j (queue_member ws r grants 1 g j m).2, home_state ws 2 r j (queue_member ws r converts 2 c j n).2)

    holder_once : (j : ℕ) → count j (queue_in ws r grants ++ queue_in ws r converts) ≤ 1
    holder_once j =
        rw count_append
        (by_equal (count j (queue_in ws r grants)) 0
        (λ e. omega (arith, queue_once ws r converts 2 c j))
        (λ n. by_equal (count j (queue_in ws r converts)) 0
        (λ e. omega (arith, queue_once ws r grants 1 g j))
        (λ m. absurd (apart j (omega arith) (omega arith)))))

    pub holder_lock : (j : ℕ) → 1 ≤ count j (queue_in ws r grants ++ queue_in ws r converts) → lock (read ws ss) j ≡ read_lock ws j
    holder_lock j m =
        by_append j (queue_in ws r grants) (queue_in ws r converts) m
        (λ a. let i = queue_member ws r grants 1 g j a in lock_of ws ss j i.0 i.1)
        (λ a. let i = queue_member ws r converts 2 c j a in lock_of ws ss j i.0 i.1)

    pub holders_read : holders (read ws ss) r ≡ queue_in ws r grants ++ queue_in ws r converts
    unfolding holders
    holders_read = rw (grants_read, converts_read)

    -- held modes are pairwise compatible
    compatible_is : holders_compatible (read ws ss) r ≡ pairs (held_in ws) (queue_in ws r grants ++ queue_in ws r converts)
    unfolding holders_compatible
    compatible_is =
        rw holders_read (same_truth _ _
        (λ h. true_pairs (held_in ws) xs holder_once
        (λ j k a b n. let z = all_at (pair j) xs (all_at (λ j. all (pair j) xs) xs h j a) k b in rw (ne_eqb j k n, holder_lock j a, holder_lock k b) at z))
        (λ h. all_intro (λ j. all (pair j) xs) xs
        (λ j a. all_intro (pair j) xs
        (λ k b. by_equal j k
        (λ e. or_left _ _ (eq-eqb j k e))
        (λ n. or_right (eqb j k) _ (rw (holder_lock j a, holder_lock k b) (pairs_true (held_in ws) xs h j k a b n)))))))
      where
        xs : List ℕ
        xs = queue_in ws r grants ++ queue_in ws r converts

        pair : ℕ → ℕ → Bool
        pair j k = eqb j k || compatible (lock (read ws ss) j).held (lock (read ws ss) k).held

    -- no head is grantable
    waiter_lock : (k : ℕ) → 1 ≤ count k (queue_in ws r waits) → lock (read ws ss) k ≡ read_lock ws k
    waiter_lock k m = let i = queue_member ws r waits 3 w k m in lock_of ws ss k i.0 i.1

    convert_fits : (j : ℕ) (js : List ℕ) → queue_in ws r converts ≡ j ∷ js →
        convert_grantable (read ws ss) r j ≡ all (λ i. compatible (held_in ws i) (asked_in ws j)) (queue_in ws r grants ++ js)
    unfolding convert_grantable fits all
    convert_fits j js e =
        rw holders_read (ap (λ (ks : List ℕ). all p (queue_in ws r grants ++ ks)) e
        ∙ all_append p (queue_in ws r grants) (j ∷ js)
        ∙ (rw (eqb_same j, all_cong p p2 (queue_in ws r grants) in_grants, all_cong p p2 js in_tail) (sym (all_append p2 (queue_in ws r grants) js))))
      where
        p : ℕ → Bool
        p i = eqb i j || compatible (lock (read ws ss) i).held (lock (read ws ss) j).asked

        p2 : ℕ → Bool
        p2 i = compatible (held_in ws i) (asked_in ws j)

        stands_first : 1 ≤ count j (queue_in ws r converts)
        stands_first = head_in (queue_in ws r converts) j js e

        head_lock : lock (read ws ss) j ≡ read_lock ws j
        head_lock = holder_lock j (rw count_append (omega (arith, stands_first)))

        in_grants : (i : ℕ) → 1 ≤ count i (queue_in ws r grants) → p i ≡ p2 i
        in_grants i m =
            rw (ne_eqb i j (λ q. apart i m (rw q stands_first)), head_lock, holder_lock i (rw count_append (omega arith)))

        in_tail : (i : ℕ) → 1 ≤ count i js → p i ≡ p2 i
        in_tail i m =
            let inside : 1 ≤ count i (queue_in ws r converts) = rw e (omega (arith, count_step i j js)) in
            let single : count j (j ∷ js) ≤ 1 = rw e at (queue_once ws r converts 2 c j) in
            rw (ne_eqb i j (λ q. let z : 1 ≤ count j js = rw q at m in omega (arith, single, count_same j js)), head_lock, holder_lock i (rw count_append (omega arith)))

    wait_fits : (k : ℕ) → queue_in ws r converts ≡ [] → 1 ≤ count k (queue_in ws r waits) →
        wait_grantable (read ws ss) r k ≡ all (λ i. compatible (held_in ws i) (asked_in ws k)) (queue_in ws r grants)
    unfolding wait_grantable fits all
    wait_fits k e m =
        rw (converts_read, e, holders_read) (ap (λ (ks : List ℕ). all p (queue_in ws r grants ++ ks)) e
        ∙ all_append p (queue_in ws r grants) [] ∙ and-true (all p (queue_in ws r grants))
        ∙ all_cong p (λ i. compatible (held_in ws i) (asked_in ws k)) (queue_in ws r grants)
        (λ i n. let a = (queue_member ws r grants 1 g i n).0 in rw (ne_eqb i 0 (omega arith), waiter_lock k m, holder_lock i (rw count_append (omega arith)))))
      where
        p : ℕ → Bool
        p i = eqb i 0 || compatible (lock (read ws ss) i).held (lock (read ws ss) k).asked

    wait_behind : (k j : ℕ) (js : List ℕ) → queue_in ws r converts ≡ j ∷ js → wait_grantable (read ws ss) r k ≡ false
    unfolding wait_grantable
    wait_behind k j js e = rw (converts_read, e)

    heads_read : no_grantable_head (read ws ss) r ≡ kept (held_in ws) (asked_in ws) (queue_in ws r grants) (queue_in ws r converts) (queue_in ws r waits)
    unfolding no_grantable_head grantable_head kept
    heads_read = rw (converts_read, waits_read) (go (queue_in ws r converts) (queue_in ws r waits) refl refl)
      where
        go : (cs vs : List ℕ) → queue_in ws r converts ≡ cs → queue_in ws r waits ≡ vs →
            (not (grantable_head (convert_grantable (read ws ss) r) cs) && not (grantable_head (wait_grantable (read ws ss) r) vs)) ≡ kept (held_in ws) (asked_in ws) (queue_in ws r grants) cs vs
        go [] [] e f = refl
        go [] (k ∷ ks) e f = ap not (wait_fits k e (rw (f, count_same) (omega arith)))
        go (j ∷ js) [] e f = and-true (not (convert_grantable (read ws ss) r j)) ∙ ap not (convert_fits j js e)
        go (j ∷ js) (k ∷ ks) e f = rw (wait_behind k j js e) (and-true (not (convert_grantable (read ws ss) r j)) ∙ ap not (convert_fits j js e))

    -- SO the walk's tests are the state's
    pub fit_is : (fitting fits_set (held_in ws) 0 (queue_in ws r grants) && convert_fit (held_in ws) (gather (held_in ws) 0 (queue_in ws r grants)) (queue_in ws r converts)) ≡ holders_compatible (read ws ss) r
    fit_is = fit_pairs (held_in ws) (queue_in ws r grants) (held_low grants 1 g) (queue_in ws r converts) (held_low converts 2 c) ∙ sym compatible_is

    pub heads_are : heads_wait ws r (gather (held_in ws) 0 (queue_in ws r grants)) (other_modes (held_in ws) (gather (held_in ws) 0 (queue_in ws r grants)) (queue_in ws r converts)) ≡ no_grantable_head (read ws ss) r
    unfolding heads_wait queue_in
    heads_are =
        heads_kept ws some (link_of ws r converts) (link_of ws r waits) (queue_in ws r grants) (held_low grants 1 g) (head_of ws r converts) (head_of ws r waits) (held_low converts 2 c) (asked_low converts 2 c) (asked_low waits 3 w)
        ∙ sym heads_read
