-- One resource's three chains.
use mathlib.Core.Path.{◌≡◌, sym, ap, ◌∙◌}
use mathlib.Core.Bool.{Bool, true, false, not, ◌&&◌}
use mathlib.Core.List.{List}
use Prim.Native.Nat.{ℕ, suc, ◌+◌, ◌-◌, ◌*◌, ◌^◌, ◌≤◌, ◌<◌}
use native.Mathlib.Nat.{lt_of_lt_of_le}
use native.Mathlib.Numerals.{add-one}
use native.Mathlib.Omega.{arith}
use lib.Dec.{eqb, leb}
use lib.ListN.{length}
use borrow.Author.Tests.{not-true, not-false, le-leb, lt-leb, eq-eqb, ne_eqb}
use Rattle.modes.specs.Sets.{fits_set}
use Rattle.tables.specs.Lists.{bit}
use Rattle.tables.specs.State.{most_locks, noticed, Queue, grants, converts, waits}
use Rattle.tables.specs.Layout.{of_resource, of_lock, locks_in, word_in, read_lock, onward, held_in, count_in}
use Rattle.tables.proofs.Cases.{by_equal}
use Rattle.table_fields.specs.declared.ModeCounts.{ModeCounts}
use Rattle.table_fields.specs.Records.{read_counts}
use Rattle.check_laws.specs.declared.HolderCount.{HolderCount}
use Rattle.check_laws.specs.Check.{noticed_of, stands, home_on, home_steps, digit, total, digits_in, tail_steps, convert_from, convert_walk, heads_wait, counts_fine, wait_part, convert_part, grant_walk, resource_walk, blocked_at, noticed_at}
use Rattle.check_laws.proofs.ChainSteps.{convert_zero, convert_turn, first_passes}
use Rattle.check_laws.proofs.ResourceWalk.{link_of, head_of, Right, grant_met, grant_is, convert_met, convert_is, wait_met, wait_is}
use Rattle.check_laws.proofs.Heads.{home_low, home_fine}
use Rattle.check_laws.proofs.SideCounts.{queue_is}
use Rattle.std.proofs.Common.{Option, Some, None}
use Rattle.table_chains.specs.declared.Hints.{Hints}
use Rattle.check_chains.specs.Walks.{Met}
use Rattle.check_queues.specs.QueueWalks.{Small, Walked, HoldersWalked, head_on, Heads, Counted}
use Rattle.check_queues.proofs.HolderWalks.{walked_over, fine_modes, held_read, stands_held}

-- CONVERTS. The head leaves the table; is another lock; its mode doesn't fit; the rest is walked
module _ (ws : List ℕ) (r c set : ℕ) (o : 1 ≤ locks_in ws) (m : 1 ≤ c) where
  convert_fail : (home_on ws 2 r c && fits_set set (held_in ws c)) ≡ false → Walked (locks_in ws) (convert_from ws r c set) None
  convert_fail f = walked_over (rw (convert_turn ws r set c o (omega arith), f))

  pub convert_off : locks_in ws < c → Walked (locks_in ws) (convert_from ws r c set) None
  unfolding home_on
  convert_off h = convert_fail (rw (lt-leb c (locks_in ws) h))

  module _ {a : Bool} (h : c ≤ locks_in ws) (t : a ≡ stands ws 2 r c) where
    pub convert_other : not a ≡ true → Walked (locks_in ws) (convert_from ws r c set) None
    unfolding home_on
    convert_other f = convert_fail (rw (le-leb c (locks_in ws) h, ← t, not-true a f))

    module _ {l : ℕ} {b : Bool} (f : not a ≡ false) (e : l ≡ word_in ws (of_lock c 6)) (u : b ≡ fits_set set l) where
      pub convert_clash : not b ≡ true → Walked (locks_in ws) (convert_from ws r c set) None
      unfolding home_on
      convert_clash v = convert_fail (rw (le-leb c (locks_in ws) h, ← t, not-false a f, ← held_read ws c e, ← u, not-true b v))

      module _ {k q : ℕ} (v : not b ≡ false) (g : k ≡ word_in ws (of_lock c 0)) (n : q ≡ bit (noticed (read_lock ws c))) where
        pub convert_rest : Walked (locks_in ws - 1) (tail_steps ws r l (locks_in ws - 1) k set q) None → Walked (locks_in ws) (convert_from ws r c set) None
        unfolding home_on
        convert_rest w =
            let same = w.is in
            let all : suc (locks_in ws - 1) ≡ locks_in ws = omega arith in
            walked_over (rw (convert_turn ws r set c o (omega arith), le-leb c (locks_in ws) h, ← t, not-false a f, ← held_read ws c e, ← u, not-false b v, ← g, ← n, ← same, all))

        pub convert_on : {rest : HolderCount} → Walked (locks_in ws - 1) (tail_steps ws r l (locks_in ws - 1) k set q) (Some rest) → Walked (locks_in ws) (convert_from ws r c set) (Some (record { met = rest.met + 1; modes = rest.modes; noticed = rest.noticed; digits = rest.digits }))
        unfolding home_on
        convert_on {rest} w =
            let same = w.is in
            let fit : Small (locks_in ws - 1) rest = w.fits in
            record {
              is = rw (convert_turn ws r set c o (omega arith), le-leb c (locks_in ws) h, ← t, not-false a f, ← held_read ws c e, ← u, not-false b v, ← g, ← n, ← same, add-one rest.met);
              fits = record { short = omega (arith, fit.short); small = fit.small; few = omega (arith, fit.few); light = omega (arith, fit.light) };
            }

module _ (ws : List ℕ) (r set : ℕ) {c : ℕ} (e : c ≡ word_in ws (of_resource r 2)) where
  pub convert_none : set < 64 → c ≡ 0 → Walked (locks_in ws) (convert_walk ws r set) (Some (record { met = 0; modes = set; noticed = 0; digits = 0 }))
  unfolding convert_walk
  convert_none s z = record { is = rw (← e, z, convert_zero ws r set); fits = record { short = omega arith; small = s; few = omega arith; light = omega arith } }

  pub convert_some : {x : Option HolderCount} → Walked (locks_in ws) (convert_from ws r c set) x → Walked (locks_in ws) (convert_walk ws r set) x
  unfolding convert_walk
  convert_some w = rw (← e) w

-- where nothing is wrong with it, the head of a chain stands there, and the walk met the locks of the chain
head_stands : (ws : List ℕ) (r : ℕ) (q : Queue) (s : ℕ) → Right ws r q s → head_on ws s r (head_of ws r q) ≡ true
unfolding head_on
head_stands ws r q s p =
    by_equal (head_of ws r q) 0
    (λ z. rw (eq-eqb (head_of ws r q) 0 z))
    (λ z. rw (ne_eqb (head_of ws r q) 0 z) (first_passes (link_of ws r q) (home_on ws s r) (locks_in ws) (head_of ws r q) p z))

convert_length : (ws : List ℕ) (r set : ℕ) → (convert_walk ws r set).met ≤ locks_in ws → (convert_walk ws r set).met ≡ length (onward ws 0 (word_in ws (of_resource r 2)))
convert_length ws r set h = let p = convert_met ws r set h in rw (convert_is ws r set p.0 p.1) (ap length (queue_is ws r converts))

-- and counted those of them that belong on the notice chain
grant_noticed : (ws : List ℕ) (r : ℕ) → (grant_walk ws r).met ≤ locks_in ws → (grant_walk ws r).noticed ≡ noticed_of ws (onward ws 0 (word_in ws (of_resource r 1)))
grant_noticed ws r h = let p = grant_met ws r h in rw (grant_is ws r p.0 p.1) (ap (noticed_of ws) (queue_is ws r grants))

convert_noticed : (ws : List ℕ) (r set : ℕ) → (convert_walk ws r set).met ≤ locks_in ws → (convert_walk ws r set).noticed ≡ noticed_of ws (onward ws 0 (word_in ws (of_resource r 2)))
convert_noticed ws r set h = let p = convert_met ws r set h in rw (convert_is ws r set p.0 p.1) (ap (noticed_of ws) (queue_is ws r converts))

wait_length : (ws : List ℕ) (r : ℕ) → home_steps ws 3 r (word_in ws (of_resource r 3)) ≤ locks_in ws → home_steps ws 3 r (word_in ws (of_resource r 3)) ≡ length (onward ws 0 (word_in ws (of_resource r 3)))
wait_length ws r h = wait_is ws r (wait_met ws r h) ∙ ap length (queue_is ws r waits)

-- HEADS that wait: each is a lock that asks for a mode
module _ (ws : List ℕ) (s r k : ℕ) (h : head_on ws s r k ≡ true) (z : k ≡ 0 → ⊥) where
  first_stands : home_on ws s r k ≡ true
  unfolding head_on
  first_stands = rw (ne_eqb k 0 z) at h

  first_asks : {a : ℕ} → a ≡ word_in ws (of_lock k 7) → a < 6
  unfolding read_lock
  first_asks e = let m = (fine_modes ws k (home_fine ws s r k first_stands)).asked in rw e (omega arith)

module _ (ws : List ℕ) (r : ℕ) {k : ℕ} (h : Heads ws r) (z : k ≡ 0 → ⊥) where
  pub convert_low : k ≡ word_in ws (of_resource r 2) → k ≤ locks_in ws
  convert_low e = home_low ws 2 r k (first_stands ws 2 r k (rw e h.convert) z)

  pub convert_asks : {a : ℕ} → k ≡ word_in ws (of_resource r 2) → a ≡ word_in ws (of_lock k 7) → a < 6
  convert_asks e = first_asks ws 2 r k (rw e h.convert) z

  pub wait_low : k ≡ word_in ws (of_resource r 3) → k ≤ locks_in ws
  wait_low e = home_low ws 3 r k (first_stands ws 3 r k (rw e h.wait) z)

  pub wait_asks : {a : ℕ} → k ≡ word_in ws (of_resource r 3) → a ≡ word_in ws (of_lock k 7) → a < 6
  wait_asks e = first_asks ws 3 r k (rw e h.wait) z

module _ (ws : List ℕ) (r granted others : ℕ) {c : ℕ} (e : c ≡ word_in ws (of_resource r 2)) where
  pub wait_convert : {a : ℕ} {f : Bool} → (c ≡ 0 → ⊥) → a ≡ word_in ws (of_lock c 7) → f ≡ fits_set others a → not f ≡ heads_wait ws r granted others
  unfolding heads_wait read_lock
  wait_convert z p q = rw (← e, ne_eqb c 0 z, ← p, ← q)

  module _ {w : ℕ} (z : c ≡ 0) (g : w ≡ word_in ws (of_resource r 3)) where
    pub wait_none : w ≡ 0 → true ≡ heads_wait ws r granted others
    unfolding heads_wait
    wait_none y = rw (← e, eq-eqb c 0 z, ← g, eq-eqb w 0 y)

    pub wait_some : {a : ℕ} {f : Bool} → (w ≡ 0 → ⊥) → a ≡ word_in ws (of_lock w 7) → f ≡ fits_set granted a → not f ≡ heads_wait ws r granted others
    unfolding heads_wait read_lock
    wait_some y p q = rw (← e, eq-eqb c 0 z, ← g, ne_eqb w 0 y, ← p, ← q)

-- COUNTS: no count is too large for a digit, so that all fit; they are as many in all as were met, or not
digit_more : (x y n : ℕ) → x < 4096 → y < n → x + 4096 * y < 4096 * n
digit_more x y n p q = omega arith

pub digits_fit : (a b c d e f : ℕ) {m : ℕ} → a + b + c + d + e + f ≡ m → m ≤ 2 * most_locks → b + 4096 * (c + 4096 * (d + 4096 * (e + 4096 * f))) < 2 ^ 64
digits_fit a b c d e f s l =
    lt_of_lt_of_le (digit_more b _ _ (omega arith) (digit_more c _ _ (omega arith) (digit_more d _ _ (omega arith) (digit_more e f 4096 (omega arith) (omega arith))))) (omega arith)

module _ (ws : List ℕ) (r met digits : ℕ) {x : ModeCounts} (e : x ≡ read_counts ws r) where
  in_all : x.nl + x.cr + x.cw + x.pr + x.pw + x.ex ≡ total (count_in ws r)
  unfolding total read_counts
  in_all = rw e

  as_digits : x.cr + 4096 * (x.cw + 4096 * (x.pr + 4096 * (x.pw + 4096 * x.ex))) ≡ digits_in (count_in ws r)
  unfolding digits_in digit read_counts
  as_digits = rw e (omega arith)

  pub counts_differ : (x.nl + x.cr + x.cw + x.pr + x.pw + x.ex ≡ met → ⊥) → false ≡ counts_fine ws r met digits
  unfolding counts_fine
  counts_differ n = rw (← in_all, ne_eqb _ met n)

  pub counts_agree : x.nl + x.cr + x.cw + x.pr + x.pw + x.ex ≡ met →
      eqb (x.cr + 4096 * (x.cw + 4096 * (x.pr + 4096 * (x.pw + 4096 * x.ex)))) digits ≡ counts_fine ws r met digits
  unfolding counts_fine
  counts_agree y = rw (← in_all, eq-eqb _ met y, ← as_digits)

-- ONE RESOURCE: a walk finds that something is wrong, or all three are done
over_leb : (n : ℕ) → leb (suc n) n ≡ false
over_leb n = lt-leb (suc n) n (omega arith)

counted_over : (ws : List ℕ) (r : ℕ) → suc (locks_in ws) ≡ resource_walk ws r → Counted ws r None
counted_over ws r w = record { met = rw (add-one (locks_in ws)) w; short = tt; blocked = tt; noticed = tt; few = tt }

module _ (ws : List ℕ) (r : ℕ) where
  pub over_grant : Walked (locks_in ws) (grant_walk ws r) None → Counted ws r None
  unfolding resource_walk
  over_grant p = let eg = p.is in counted_over ws r (rw (← eg, over_leb (locks_in ws)))

  module _ {g : HolderCount} (p : Walked (locks_in ws) (grant_walk ws r) (Some g)) where
    granted_few : leb g.met (locks_in ws) ≡ true
    granted_few = let fit : Small (locks_in ws) g = p.fits in le-leb g.met (locks_in ws) fit.short

    pub over_convert : Walked (locks_in ws) (convert_walk ws r g.modes) None → Counted ws r None
    unfolding resource_walk convert_part
    over_convert q =
        let eg = p.is in
        let ec = q.is in
        counted_over ws r (rw (← eg, granted_few, ← ec, over_leb (locks_in ws)))

    module _ {c : HolderCount} (q : Walked (locks_in ws) (convert_walk ws r g.modes) (Some c)) {b : Bool} (eb : b ≡ counts_fine ws r (g.met + c.met) (g.digits + c.digits)) where
      converting_few : leb c.met (locks_in ws) ≡ true
      converting_few = let fit : Small (locks_in ws) c = q.fits in le-leb c.met (locks_in ws) fit.short

      pub over_counts : not b ≡ true → Counted ws r None
      unfolding resource_walk convert_part
      over_counts f =
          let eg = p.is in
          let ec = q.is in
          counted_over ws r (rw (← eg, granted_few, ← ec, converting_few, ← eb, not-true b f))

      pub holders_walked : not b ≡ false → HoldersWalked ws r g c
      holders_walked f = record { granted = p; converting = q; counts = sym eb ∙ not-false b f }

module _ (ws : List ℕ) (r : ℕ) {g c : HolderCount} (p : HoldersWalked ws r g c) where
  fit_granted : Small (locks_in ws) g
  fit_granted = p.granted.fits

  fit_converting : Small (locks_in ws) c
  fit_converting = p.converting.fits

  walk_on : wait_part ws r g c ≡ resource_walk ws r
  unfolding resource_walk convert_part
  walk_on =
      let eg = p.granted.is in
      let ec = p.converting.is in
      rw (← eg, le-leb g.met (locks_in ws) fit_granted.short, ← ec, le-leb c.met (locks_in ws) fit_converting.short, p.counts)

  pub over_wait : Met (locks_in ws) (home_steps ws 3 r (word_in ws (of_resource r 3))) None → Counted ws r None
  unfolding wait_part
  over_wait m = let ew = rw (add-one (locks_in ws)) at m.is in counted_over ws r (rw (← walk_on, ← ew, over_leb (locks_in ws)))

  module _ {w : ℕ} (m : Met (locks_in ws) (home_steps ws 3 r (word_in ws (of_resource r 3))) (Some w)) where
    ew : w ≡ home_steps ws 3 r (word_in ws (of_resource r 3))
    ew = m.is

    lw : w ≤ locks_in ws
    lw = m.few

    pub heads : Heads ws r
    heads =
        let ec = p.converting.is in
        record {
          convert = head_stands ws r converts 2 (convert_met ws r g.modes (rw (← ec) fit_converting.short)).0;
          wait = head_stands ws r waits 3 (wait_met ws r (rw (← ew) lw));
        }

    module _ {b : Bool} (eb : b ≡ heads_wait ws r g.modes c.modes) where
      pub head_fits : not b ≡ true → Counted ws r None
      unfolding wait_part
      head_fits f = counted_over ws r (rw (← walk_on, ← ew, le-leb w (locks_in ws) lw, ← eb, not-true b f))

      all_met : not b ≡ false → g.met + c.met + w ≡ resource_walk ws r
      unfolding wait_part
      all_met f = rw (← walk_on, ← ew, le-leb w (locks_in ws) lw, ← eb, not-false b f)

      pub all_three : {seen : Hints} → 1 ≤ locks_in ws → not b ≡ false → Counted ws r (Some (record { met = g.met + c.met + w; blocked = c.met + w; noticed = g.noticed + c.noticed; hints = seen }))
      unfolding blocked_at noticed_at
      all_three o f =
          let eg = p.granted.is in
          let ec = p.converting.is in
          let fg = fit_granted in
          let fc = fit_converting in
          let few = lw in
          let converts : c.met ≡ length (onward ws 0 (word_in ws (of_resource r 2))) = rw ec (convert_length ws r g.modes (rw (← ec) fc.short)) in
          let waits : w ≡ length (onward ws 0 (word_in ws (of_resource r 3))) = rw ew (wait_length ws r (rw (← ew) lw)) in
          let granted : g.noticed ≡ noticed_of ws (onward ws 0 (word_in ws (of_resource r 1))) = rw eg (grant_noticed ws r (rw (← eg) fg.short)) in
          let converting : c.noticed ≡ noticed_of ws (onward ws 0 (word_in ws (of_resource r 2))) = rw ec (convert_noticed ws r g.modes (rw (← ec) fc.short)) in
          record { met = all_met f; short = omega arith; blocked = omega arith; noticed = omega arith; few = (omega arith, omega arith) }

-- the lemmas of each function
pub ruleset converting = (stands_held, convert_off, convert_other, convert_clash, convert_rest, convert_on)

pub ruleset head_tests = (convert_low, convert_asks, wait_low, wait_asks, wait_convert, wait_none, wait_some)

pub ruleset count_tests = (digits_fit, counts_differ, counts_agree)

pub ruleset queue_tests = (over_grant, over_convert, over_counts, holders_walked, over_wait, head_fits)
