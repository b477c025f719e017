-- Walks along holders: their modes, the steps so far and the set so far.
use mathlib.Core.Path.{◌≡◌, refl, sym, ◌∙◌}
use mathlib.Core.Bool.{Bool, true, false, not, cond, ◌&&◌, ◌||◌}
use mathlib.Core.List.{List}
use Prim.Native.Nat.{ℕ, suc, ◌+◌, ◌-◌, ◌*◌, ◌/◌, ◌%◌, ◌^◌, ◌≤◌, ◌<◌}
use native.Mathlib.Nat.{sub-zero}
use native.Mathlib.Omega.{arith}
use lib.Dec.{eqb, leb}
use borrow.Author.Tests.{not-true, not-false, le-leb, lt-leb, leb-true, eqb-true}
use Rattle.modes.specs.Sets.{fits_set, with_mode}
use Rattle.modes.proofs.Table.{below}
use Rattle.tables.specs.declared.Lock.{Lock}
use Rattle.tables.specs.Lists.{bit}
use Rattle.tables.specs.State.{noticed}
use Rattle.tables.specs.Layout.{of_resource, of_lock, locks_in, word_in, read_lock, held_in}
use Rattle.tables.specs.Sound.{modes_right, client_right, granted_completion}
use Rattle.tables.proofs.Cases.{and_left, and_right, parts}
use Rattle.check_laws.specs.declared.HolderCount.{HolderCount}
use Rattle.check_laws.specs.Check.{on_named, fields_fine, links_fine, lock_fine, stands, home_on, digit, too_many, mode_steps, fits_beside, tail_steps, grant_walk}
use Rattle.check_laws.proofs.ChainSteps.{one_more, modes_zero, modes_none, modes_turn}
use Rattle.check_queues.specs.QueueWalks.{modes_left, Walked}
use Rattle.std.proofs.Common.{Some, None}

-- MODES. A lock's fields, whatever its state, have modes up to 5
pub record Modes (l : Lock) : Type 0 where
  pub held : l.held ≤ 5
  pub asked : l.asked ≤ 5

one_of_five : {A : Type 0} (a b c d e : Bool) → (a || b || c || d || e) ≡ true → (a ≡ true → A) → (b ≡ true → A) → (c ≡ true → A) → (d ≡ true → A) → (e ≡ true → A) → A
one_of_five true b c d e i f g h j k = f refl
one_of_five false true c d e i f g h j k = g refl
one_of_five false false true d e i f g h j k = h refl
one_of_five false false false true e i f g h j k = j refl
one_of_five false false false false e i f g h j k = k i

both_zero : (l : Lock) → eqb l.held 0 ≡ true → eqb l.asked 0 ≡ true → Modes l
both_zero l h a = record { held = omega (arith, eqb-true l.held 0 h); asked = omega (arith, eqb-true l.asked 0 a) }

both_right : (l : Lock) → modes_right l ≡ true → Modes l
unfolding modes_right
both_right l h = record { held = leb-true l.held 5 (search parts); asked = leb-true l.asked 5 (search parts) }

fields_modes : (u : Bool) (l : Lock) → fields_fine u l ≡ true → Modes l
unfolding fields_fine
fields_modes u l i =
    one_of_five
    (eqb l.state 0 && eqb l.resource 0 && eqb l.client 0 && eqb l.held 0 && eqb l.asked 0 && eqb l.completion 0 && eqb l.mark 0)
    (eqb l.state 1 && u && client_right l.client && modes_right l && eqb l.asked 0 && granted_completion l.completion)
    (eqb l.state 2 && u && client_right l.client && modes_right l && eqb l.completion 0)
    (eqb l.state 3 && u && client_right l.client && modes_right l && eqb l.completion 0 && eqb l.held 0 && eqb l.mark 0)
    (eqb l.state 4 && client_right l.client && eqb l.resource 0 && eqb l.held 0 && eqb l.asked 0 && eqb l.completion 2 && eqb l.mark 0)
    i
    (λ i. both_zero l (search parts depth 20) (search parts depth 20))
    (λ i. both_right l (search parts depth 20))
    (λ i. both_right l (search parts depth 20))
    (λ i. both_right l (search parts depth 20))
    (λ i. both_zero l (search parts depth 20) (search parts depth 20))

-- so has a lock that is fine, and one that stands on its chain
pub fine_modes : (ws : List ℕ) (k : ℕ) → lock_fine ws k ≡ true → Modes (read_lock ws k)
unfolding lock_fine
fine_modes ws k h =
    let u = on_named ws (read_lock ws k).resource in
    fields_modes u (read_lock ws k) (and_left (fields_fine u (read_lock ws k)) (links_fine ws k) h)

pub stands_held : (ws : List ℕ) (s r k : ℕ) {a : Bool} {h : ℕ} → a ≡ stands ws s r k → not a ≡ false → h ≡ word_in ws (of_lock k 6) → h < 6
unfolding stands read_lock
stands_held ws s r k {a} t f e =
    let z : stands ws s r k ≡ true = sym t ∙ not-false a f in
    let m = (fine_modes ws k (and_right (eqb (read_lock ws k).state s && eqb (read_lock ws k).resource r) (lock_fine ws k) z)).held in
    rw e (omega arith)

-- the held mode that is read
pub held_read : (ws : List ℕ) (k : ℕ) {h : ℕ} → h ≡ word_in ws (of_lock k 6) → h ≡ (read_lock ws k).held
unfolding read_lock
held_read ws k e = e

-- the code's shifts give the mode's digit
pub digit_shifts : (h : ℕ) → h < 6 → 1 * 2 ^ (12 * h) % 18446744073709551616 / 4096 ≡ digit h
unfolding digit
digit_shifts h l =
    eqb-true (1 * 2 ^ (12 * h) % 18446744073709551616 / 4096) (digit h)
    (below (λ h. eqb (1 * 2 ^ (12 * h) % 18446744073709551616 / 4096) (digit h)) 6 refl h l)

pub digit_small : (h : ℕ) → h < 6 → digit h ≤ 2 ^ 48
unfolding digit
digit_small h l = leb-true (digit h) (2 ^ 48) (below (λ h. leb (digit h) (2 ^ 48)) 6 refl h l)

-- STEPS along holders: the chain ends; it is too long; it leaves the table; it meets another lock; a mode that doesn't fit; it goes on
pub walked_over : {n : ℕ} {whole : HolderCount} → too_many n ≡ whole → Walked n whole None
walked_over w = record { is = w; fits = tt }

module _ (ws : List ℕ) (s r : ℕ) (fit : ℕ → ℕ → Bool) where
  modes_at : (n m k set c d : ℕ) → (k ≡ 0 → ⊥) → m < n →
      mode_steps ws s r fit (n - m) k set c d
      ≡ cond (home_on ws s r k && fit set (held_in ws k))
      (one_more (mode_steps ws s r fit (n - (m + 1)) (word_in ws (of_lock k 0)) (with_mode set (held_in ws k)) (c + bit (noticed (read_lock ws k))) (d + digit (held_in ws k))))
      (too_many (n - m))
  modes_at n m k set c d e h = let z : n - m - 1 ≡ n - (m + 1) = omega arith in rw (modes_turn ws s r fit set c d (n - m) k (omega arith) e, z)

  pub modes_end : (n : ℕ) {m k set c d : ℕ} {whole : HolderCount} → whole ≡ modes_left ws s r fit n m k set c d → k ≡ 0 → m ≤ n → set < 64 → c ≤ m + 1 → d ≤ (m + 1) * 2 ^ 48 → Walked n whole (Some (record { met = m; modes = set; noticed = c; digits = d }))
  unfolding modes_left
  modes_end n {m} {k} {set} {c} {d} i e l h f g =
      let z : m + 0 ≡ m = omega arith in
      record {
        is = sym (i ∙ rw (e, modes_zero ws s r fit set c d (n - m), z));
        fits = record { short = l; small = h; few = omega arith; light = omega arith };
      }

  module _ (set c d : ℕ) {n m k : ℕ} {whole : HolderCount} (i : whole ≡ modes_left ws s r fit n m k set c d) (e : k ≡ 0 → ⊥) where
    pub modes_long : m ≤ n → n ≤ m → Walked n whole None
    unfolding modes_left
    modes_long l h =
        let z : n - m ≡ 0 = omega arith in
        let w : m + 1 ≡ suc n = omega arith in
        walked_over (sym (i ∙ rw (z, modes_none ws s r fit set c d k e, w)))

    modes_fail : m < n → (home_on ws s r k && fit set (held_in ws k)) ≡ false → Walked n whole None
    unfolding modes_left
    modes_fail h f =
        let w : m + suc (n - m) ≡ suc n = omega arith in
        walked_over (sym (i ∙ rw (modes_at n m k set c d e h, f, w)))

    pub modes_off : m < n → locks_in ws < k → Walked n whole None
    unfolding home_on
    modes_off h b = modes_fail h (rw (lt-leb k (locks_in ws) b))

    module _ {a : Bool} (h : m < n) (b : k ≤ locks_in ws) (t : a ≡ stands ws s r k) where
      pub modes_other : not a ≡ true → Walked n whole None
      unfolding home_on
      modes_other f = modes_fail h (rw (le-leb k (locks_in ws) b, ← t, not-true a f))

      module _ {l : ℕ} {u : Bool} (f : not a ≡ false) (g : l ≡ word_in ws (of_lock k 6)) (v : u ≡ fit set l) where
        pub modes_clash : not u ≡ true → Walked n whole None
        unfolding home_on
        modes_clash w = modes_fail h (rw (le-leb k (locks_in ws) b, ← t, not-false a f, ← held_read ws k g, ← v, not-true u w))

        pub modes_on : {y q p j : ℕ} → not u ≡ false → y ≡ with_mode set l → q ≡ bit (noticed (read_lock ws k)) → p ≡ digit l → j ≡ word_in ws (of_lock k 0) → whole ≡ modes_left ws s r fit n (m + 1) j y (c + q) (d + p)
        unfolding modes_left home_on
        modes_on {y} {q} {p} {j} w ey eq ep ej =
            let rest = (mode_steps ws s r fit (n - (m + 1)) j y (c + q) (d + p)).met in
            let more : m + suc rest ≡ m + 1 + rest = omega arith in
            i ∙ rw (modes_at n m k set c d e h, le-leb k (locks_in ws) b, ← t, not-false a f, ← held_read ws k g, ← v, not-false u w, ← ey, ← eq, ← ep, ← ej, more)

  modes_start : (n k set c d : ℕ) → mode_steps ws s r fit n k set c d ≡ modes_left ws s r fit n 0 k set c d
  unfolding modes_left
  modes_start n k set c d = let z : 0 + (mode_steps ws s r fit n k set c d).met ≡ (mode_steps ws s r fit n k set c d).met = omega arith in rw (sub-zero n, z)

-- the walks along the grant chain and behind the convert head are two such
pub grant_start : (ws : List ℕ) (r : ℕ) {k : ℕ} → k ≡ word_in ws (of_resource r 1) → grant_walk ws r ≡ modes_left ws 1 r fits_set (locks_in ws) 0 k 0 0 0
unfolding grant_walk
grant_start ws r e = rw e (modes_start ws 1 r fits_set (locks_in ws) (word_in ws (of_resource r 1)) 0 0 0)

pub tail_start : (ws : List ℕ) (r h n k set c : ℕ) {d : ℕ} → d ≡ digit h → tail_steps ws r h n k set c ≡ modes_left ws 2 r (fits_beside h) n 0 k set c d
tail_start ws r h n k set c e = rw e (modes_start ws 2 r (fits_beside h) n k set c (digit h))

pub ruleset holders = (stands_held, modes_end, modes_long, modes_off, modes_other, modes_clash, modes_on, grant_start, tail_start)
