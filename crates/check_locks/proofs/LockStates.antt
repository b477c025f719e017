-- A lock where its home chain has it: what is left of `stands` once the chain's state and resource are known.
use mathlib.Core.Path.{◌≡◌, refl, sym, ap, ◌∙◌}
use mathlib.Core.Bool.{Bool, true, false, not, ◌&&◌, ◌||◌}
use mathlib.Core.List.{List}
use Prim.Native.Nat.{ℕ, ◌≤◌}
use native.Mathlib.Omega.{arith}
use lib.Dec.{eqb}
use borrow.Author.Tests.{eqb-true, ne_eqb, le-leb, not-true, not-false}
use Rattle.tables.specs.declared.Lock.{Lock}
use Rattle.tables.specs.State.{noticed}
use Rattle.tables.specs.Layout.{of_lock, resources_in, word_in, read_lock}
use Rattle.tables.specs.Sound.{client_right, modes_right, granted_completion}
use Rattle.tables.proofs.Cases.{clash}
use Rattle.table_names.specs.Names.{named}
use Rattle.check_laws.specs.Check.{on_named, fields_fine, links_fine, lock_fine, stands}

-- the tests that come after two others count where these two pass
then_four : (a b c d e f : Bool) {x : Bool} → (a ≡ true → b ≡ true → (c && d && e && f) ≡ x) → (a && b && c && d && e && f) ≡ (a && b && x)
then_four true true c d e f q = q refl refl
then_four true false c d e f q = refl
then_four false b c d e f q = refl

then_five : (a b c d e f g : Bool) {x : Bool} → (a ≡ true → b ≡ true → (c && d && e && f && g) ≡ x) → (a && b && c && d && e && f && g) ≡ (a && b && x)
then_five true true c d e f g q = q refl refl
then_five true false c d e f g q = refl
then_five false b c d e f g q = refl

then_six : (a b c d e f g h : Bool) {x : Bool} → (a ≡ true → b ≡ true → (c && d && e && f && g && h) ≡ x) → (a && b && c && d && e && f && g && h) ≡ (a && b && x)
then_six true true c d e f g h q = q refl refl
then_six true false c d e f g h q = refl
then_six false b c d e f g h q = refl

then_seven : (a b c d e f g h i : Bool) {x : Bool} → (a ≡ true → b ≡ true → (c && d && e && f && g && h && i) ≡ x) → (a && b && c && d && e && f && g && h && i) ≡ (a && b && x)
then_seven true true c d e f g h i q = q refl refl
then_seven true false c d e f g h i q = refl
then_seven false b c d e f g h i q = refl

-- what `fields_fine` and `links_fine` leave, by state: p are the first tests; f is that of the completion, m of the mark, b of the link on the blocked
-- chain, n of the notice chain
free_left : (p f m b n : Bool) → (p && f && m && b && n) ≡ (((p && f && m) || false || false || false || false) && (b && (not f || not m || n)))
free_left false f m b n = refl
free_left true false m b n = refl
free_left true true false b n = refl
free_left true true true b n = refl

denied_left : (c h a f z m b n : Bool) → (f ≡ true → z ≡ false) → (c && h && a && f && m && b) ≡ ((c && true && h && a && f && m) && (b && (not z || not m || n)))
denied_left false h a f z m b n q = refl
denied_left true false a f z m b n q = refl
denied_left true true false f z m b n q = refl
denied_left true true true false z m b n q = refl
denied_left true true true true z false b n q = refl
denied_left true true true true z true false n q = refl
denied_left true true true true z true true n q = rw (q refl)

granted_left : (p b f n : Bool) → (p && b && (f && n)) ≡ (((p && f) || false || false || false) && (b && n))
granted_left false b f n = refl
granted_left true false false n = refl
granted_left true false true n = refl
granted_left true true false n = refl
granted_left true true true n = refl

converting_left : (p n : Bool) → (p && n) ≡ ((p || false || false) && n)
converting_left false n = refl
converting_left true n = refl

waiting_left : (p f h m n : Bool) → (p && f && h && m && n) ≡ (((p && f && h && m) || false) && (not f || not m || n))
waiting_left false f h m n = refl
waiting_left true false h m n = refl
waiting_left true true false m n = refl
waiting_left true true true false n = refl
waiting_left true true true true n = refl

-- a denied lock has a completion
denied_noticed : (f : ℕ) → eqb f 2 ≡ true → eqb f 0 ≡ false
denied_noticed f e = ne_eqb f 0 (λ z. omega (arith, eqb-true f 2 e))

-- notice_right: with a notice, and without one
with_link : (f n : Bool) → f ≡ (f && (true || n))
with_link false n = refl
with_link true n = refl

silent : (f m o p n : Bool) → (not f || not m) ≡ false → n ≡ ((f || o || p) && (not f || not m || n))
silent true true o p n h = refl
silent true false o p n h = clash true refl h
silent false m o p n h = clash true refl h

module _ (l : Lock) (x : Bool) (e : x ≡ noticed l) where
  pub notice_some : x ≡ true → (f : Bool) → f ≡ granted_completion l.completion → (n : Bool) → f ≡ (granted_completion l.completion && (noticed l || n))
  notice_some h f g n = rw (← g, ← e, h) (with_link f n)

  pub notice_none : x ≡ false → {w v : ℕ} → w ≡ v → eqb w 0 ≡ (granted_completion l.completion && (noticed l || eqb v 0))
  notice_none h {w} {v} q = rw q (silent (eqb l.completion 0) (eqb l.mark 0) _ _ (eqb v 0) (sym e ∙ h))

-- the state is known
is : (j s : ℕ) → eqb j s ≡ true → (i : ℕ) → eqb j i ≡ eqb s i
is j s t i = ap (λ (j : ℕ). eqb j i) (eqb-true j s t)

module _ (ws : List ℕ) (k : ℕ) {l : Lock} (e : l ≡ read_lock ws k) where
  pub free_stands : {x y : ℕ} → x ≡ word_in ws (of_lock k 1) → y ≡ word_in ws (of_lock k 2) → (eqb l.state 0 && eqb l.resource 0 && eqb l.client 0 && eqb l.held 0 && eqb l.asked 0 && eqb l.completion 0 && eqb l.mark 0 && eqb x 0 && eqb y 0) ≡ stands ws 0 0 k
  unfolding stands lock_fine fields_fine links_fine
  free_stands p q =
      let b = eqb (word_in ws (of_lock k 1)) 0 in
      let n = eqb (word_in ws (of_lock k 2)) 0 in
      rw (p, q, ← e)
      (then_seven (eqb l.state 0) (eqb l.resource 0) (eqb l.client 0) (eqb l.held 0) (eqb l.asked 0) (eqb l.completion 0) (eqb l.mark 0) b n
      (λ s r.
      rw (is l.state 0 s 0, is l.state 0 s 1, is l.state 0 s 2, is l.state 0 s 3, is l.state 0 s 4, r)
      (free_left (eqb l.client 0 && eqb l.held 0 && eqb l.asked 0) (eqb l.completion 0) (eqb l.mark 0) b n)))

  pub denied_stands : {c : Bool} {x : ℕ} → c ≡ client_right l.client → x ≡ word_in ws (of_lock k 1) → (eqb l.state 4 && eqb l.resource 0 && c && eqb l.held 0 && eqb l.asked 0 && eqb l.completion 2 && eqb l.mark 0 && eqb x 0) ≡ stands ws 4 0 k
  unfolding stands lock_fine fields_fine links_fine
  denied_stands {c} o p =
      let b = eqb (word_in ws (of_lock k 1)) 0 in
      let n = eqb (word_in ws (of_lock k 2)) 0 in
      rw (p, ← e, ← o)
      (then_six (eqb l.state 4) (eqb l.resource 0) c (eqb l.held 0) (eqb l.asked 0) (eqb l.completion 2) (eqb l.mark 0) b
      (λ s r.
      rw (is l.state 4 s 0, is l.state 4 s 1, is l.state 4 s 2, is l.state 4 s 3, is l.state 4 s 4, r)
      (denied_left c (eqb l.held 0) (eqb l.asked 0) (eqb l.completion 2) (eqb l.completion 0) (eqb l.mark 0) b n (denied_noticed l.completion))))

  -- on a resource in use
  module _ (r : ℕ) (u : 1 ≤ r) (v : r ≤ resources_in ws) (w : named ws r ≡ true) {c m : Bool} (o : c ≡ client_right l.client) (d : m ≡ modes_right l) where
    here : (j : ℕ) → eqb j r ≡ true → on_named ws j ≡ true
    unfolding on_named
    here j t = rw (eqb-true j r t, le-leb 1 r u, le-leb r (resources_in ws) v) w

    pub granted_stands : {g : Bool} {x : ℕ} → x ≡ word_in ws (of_lock k 1) → g ≡ (granted_completion l.completion && (noticed l || eqb (word_in ws (of_lock k 2)) 0)) → (eqb l.state 1 && eqb l.resource r && c && m && eqb l.asked 0 && eqb x 0 && g) ≡ stands ws 1 r k
    unfolding stands lock_fine fields_fine links_fine
    granted_stands p q =
        let b = eqb (word_in ws (of_lock k 1)) 0 in
        let f = granted_completion l.completion in
        let n = noticed l || eqb (word_in ws (of_lock k 2)) 0 in
        rw (p, q, ← e, ← o, ← d)
        (then_five (eqb l.state 1) (eqb l.resource r) c m (eqb l.asked 0) b (f && n)
        (λ s t.
        rw (is l.state 1 s 0, is l.state 1 s 1, is l.state 1 s 2, is l.state 1 s 3, is l.state 1 s 4, here l.resource t)
        (granted_left (c && m && eqb l.asked 0) b f n)))

    pub granted_off : {x : ℕ} → x ≡ word_in ws (of_lock k 1) → not (eqb l.state 1 && eqb l.resource r && c && m && eqb l.asked 0 && eqb x 0) ≡ true → false ≡ stands ws 1 r k
    granted_off {x} p f =
        let right = eqb l.state 1 && eqb l.resource r && c && m && eqb l.asked 0 && eqb x 0 in
        let g = granted_completion l.completion && (noticed l || eqb (word_in ws (of_lock k 2)) 0) in
        ap (λ (b : Bool). b && g) (sym (not-true right f)) ∙ granted_stands p refl

    pub granted_on : {g : Bool} {x : ℕ} → x ≡ word_in ws (of_lock k 1) → g ≡ (granted_completion l.completion && (noticed l || eqb (word_in ws (of_lock k 2)) 0)) → not (eqb l.state 1 && eqb l.resource r && c && m && eqb l.asked 0 && eqb x 0) ≡ false → g ≡ stands ws 1 r k
    granted_on {g} {x} p q f =
        let right = eqb l.state 1 && eqb l.resource r && c && m && eqb l.asked 0 && eqb x 0 in
        ap (λ (b : Bool). b && g) (sym (not-false right f)) ∙ granted_stands p q

    pub converting_stands : {n : Bool} → n ≡ (noticed l || eqb (word_in ws (of_lock k 2)) 0) → (eqb l.state 2 && eqb l.resource r && c && m && eqb l.completion 0 && n) ≡ stands ws 2 r k
    unfolding stands lock_fine fields_fine links_fine
    converting_stands {n} q =
        rw (← e, ← o, ← d, ← q)
        (then_four (eqb l.state 2) (eqb l.resource r) c m (eqb l.completion 0) n
        (λ s t.
        rw (is l.state 2 s 0, is l.state 2 s 1, is l.state 2 s 2, is l.state 2 s 3, is l.state 2 s 4, here l.resource t)
        (converting_left (c && m && eqb l.completion 0) n)))

    pub waiting_stands : {x : ℕ} → x ≡ word_in ws (of_lock k 2) → (eqb l.state 3 && eqb l.resource r && c && m && eqb l.completion 0 && eqb l.held 0 && eqb l.mark 0 && eqb x 0) ≡ stands ws 3 r k
    unfolding stands lock_fine fields_fine links_fine
    waiting_stands p =
        let n = eqb (word_in ws (of_lock k 2)) 0 in
        rw (p, ← e, ← o, ← d)
        (then_six (eqb l.state 3) (eqb l.resource r) c m (eqb l.completion 0) (eqb l.held 0) (eqb l.mark 0) n
        (λ s t.
        rw (is l.state 3 s 0, is l.state 3 s 1, is l.state 3 s 2, is l.state 3 s 3, is l.state 3 s 4, here l.resource t)
        (waiting_left (c && m) (eqb l.completion 0) (eqb l.held 0) (eqb l.mark 0) n)))
