-- What one step may do to a wait chain, as one equation between lists, and that those who wait so keep their order.
use mathlib.Core.Path.{◌≡◌, refl, sym, ap, ◌∙◌}
use mathlib.Core.Bool.{Bool, true, false, ◌&&◌, not}
use mathlib.Core.List.{List, [], ◌∷◌, ◌++◌, append-nil}
use Prim.Native.Nat.{ℕ, ◌+◌, ◌≤◌}
use native.Mathlib.Omega.{arith}
use lib.ListN.{length}
use lib.Dec.{eqb, leb}
use borrow.Author.Tests.{eqb-true, leb-true, leb-false}
use Rattle.tables.specs.Lists.{within, count, bit, keep}
use Rattle.tables.specs.declared.Lock.{Lock}
use Rattle.tables.specs.State.{Tables, lock, resource, granted, waiting, shift, move, waits, queue}
use Rattle.tables.specs.Validity.{used, LockOk, Core, Near}
use Rattle.tables.proofs.Cases.{by_cases, by_equal, clash}
use Rattle.tables.proofs.Counts.{count_other, count_nil, count_append, count_keep}
use Rattle.tables.proofs.Valid.{chain_move}
use Rattle.tables.proofs.ChainMembers.{chain_once, on_waits}
use Rattle.rules.specs.Deadlock.{before}
use Rattle.rules.proofs.DeadlockVictim.{count_before}
use Rattle.rules.proofs.ListOrder.{before_out, before_in, before_keep, before_drop, keep_all, remove_keep, FromFront}

-- From t to t' the wait chain of s loses some, who are not granted; then some are taken from its front, and some join at its end.
pub record InOrder (t t' : Tables) (s : ℕ) : Type 0 where
  pub stays : ℕ → Bool
  pub taken : List ℕ
  pub joined : List ℕ
  pub moves : keep stays (resource t s).wait ++ joined ≡ taken ++ (resource t' s).wait
  pub fresh : (k : ℕ) → 1 ≤ count k joined → count k (resource t s).wait ≡ 0
  pub lost : (k : ℕ) → 1 ≤ count k (resource t s).wait → stays k ≡ false → (granted (lock t' k) ≡ false) × (waiting (lock t' k) ≡ false)

-- SUCH STEPS. Some go, and then some are taken from the front
pub leaving : (stays : ℕ → Bool) (t t1 t' : Tables) (s : ℕ) → (resource t1 s).wait ≡ keep stays (resource t s).wait → FromFront (resource t1 s).wait (resource t' s).wait →
    ((k : ℕ) → 1 ≤ count k (resource t s).wait → stays k ≡ false → (granted (lock t' k) ≡ false) × (waiting (lock t' k) ≡ false)) → InOrder t t' s
leaving stays t t1 t' s e f h =
    record {
      stays = stays;
      taken = f.taken;
      joined = [];
      moves = append-nil _ ∙ sym e ∙ f.split;
      fresh = λ k m. absurd (omega (arith, rw (count_nil k) at m));
      lost = h;
    }

-- nobody goes
pub nobody_leaves : (t t1 t' : Tables) (s : ℕ) → (resource t1 s).wait ≡ (resource t s).wait → FromFront (resource t1 s).wait (resource t' s).wait → InOrder t t' s
nobody_leaves t t1 t' s e f = leaving (λ j. true) t t1 t' s (e ∙ sym (keep_all (resource t s).wait)) f (λ k m h. clash true refl h)

-- the lock k changes, and then some are taken from the front; if k waited, it is not granted
pub moved_order : (r k : ℕ) (m : Lock) (t t' : Tables) → Core t → within (length t.locks) k ≡ true → Near r (lock t k) → Near r m → LockOk (used t) m →
    (waiting (lock t k) ≡ true → (granted (lock t' k) ≡ false) × (waiting (lock t' k) ≡ false)) →
    (s : ℕ) → FromFront (resource (move r k m t) s).wait (resource t' s).wait → InOrder t t' s
unfolding shift
moved_order r k m t t' c w near_old near_new ok drops s f =
    go (waiting (lock t k) && eqb (lock t k).resource s) (waiting m && eqb m.resource s)
    (chain_move r k m t (c.lock_ok k) ok near_old near_new (queue s waits)) (rw w at (c.linked (queue s waits) k))
  where
    go : (a b : Bool) → (resource (move r k m t) s).wait ≡ shift a b k (resource t s).wait → count k (resource t s).wait ≡ bit a → InOrder t t' s
    go true true e z = nobody_leaves t (move r k m t) t' s e f
    go false false e z = nobody_leaves t (move r k m t) t' s e f
    go true false e z =
        leaving (λ j. not (eqb k j)) t (move r k m t) t' s (e ∙ remove_keep k (resource t s).wait) f
        (λ j i h. by_cases (eqb k j)
        (λ q. rw (sym (eqb-true k j q)) (drops (on_waits t c.linked s k (omega arith)).0))
        (λ q. clash (not (eqb k j)) (rw q) h))
    go false true e z =
        record {
          stays = λ j. true;
          taken = f.taken;
          joined = k ∷ [];
          moves = ap (λ (xs : List ℕ). xs ++ (k ∷ [])) (keep_all (resource t s).wait) ∙ sym e ∙ f.split;
          fresh = λ j i. by_equal j k (λ q. rw q z) (λ n. absurd (omega (arith, rw (count_other j k [] n, count_nil j) at i)));
          lost = λ j i h. clash true refl h;
        }

-- a change before it that no wait chain sees, and one after it that changes no lock's state
pub order_before : (t t0 t' : Tables) (s : ℕ) → (resource t0 s).wait ≡ (resource t s).wait → InOrder t0 t' s → InOrder t t' s
order_before t t0 t' s e o =
    record {
      stays = o.stays;
      taken = o.taken;
      joined = o.joined;
      moves = rw (← e) o.moves;
      fresh = λ k m. rw (← e) (o.fresh k m);
      lost = λ k m. o.lost k (rw e m);
    }

pub order_after : (t t1 t' : Tables) (s : ℕ) → (resource t' s).wait ≡ (resource t1 s).wait → ((k : ℕ) → (lock t' k).state ≡ (lock t1 k).state) → InOrder t t1 s → InOrder t t' s
order_after t t1 t' s e same o =
    record {
      stays = o.stays;
      taken = o.taken;
      joined = o.joined;
      moves = rw e o.moves;
      fresh = o.fresh;
      lost = λ k m h. rw (same k) (o.lost k m h);
    }

-- WHAT FOLLOWS
module _ (t t' : Tables) (c : Core t) (c' : Core t') (s : ℕ) (o : InOrder t t' s) where
  abbrev old : List ℕ
  old = (resource t s).wait

  abbrev new : List ℕ
  new = (resource t' s).wait

  abbrev staying : List ℕ
  staying = keep o.stays (resource t s).wait

  counts : (j : ℕ) → count j staying + count j o.joined ≡ count j o.taken + count j new
  counts j = sym (count_append j staying o.joined) ∙ ap (count j) o.moves ∙ count_append j o.taken new

  in_staying : (j : ℕ) → o.stays j ≡ true → count j staying ≡ count j old
  in_staying j h = count_keep o.stays j old ∙ (rw h)

  has_stayed : (j : ℕ) → 1 ≤ count j old → 1 ≤ count j new → o.stays j ≡ true
  has_stayed j m n =
      by_cases (o.stays j)
      (λ h. h)
      (λ h. clash (waiting (lock t' j)) (on_waits t' c'.linked s j n).0 (o.lost j m h).1)

  not_joined : (j : ℕ) → 1 ≤ count j old → count j o.joined ≡ 0
  not_joined j m =
      by_cases (leb 1 (count j o.joined))
      (λ h. absurd (omega (arith, m, o.fresh j (leb-true 1 (count j o.joined) h))))
      (λ h. omega (arith, leb-false 1 (count j o.joined) h))

  not_taken : (j : ℕ) → 1 ≤ count j old → 1 ≤ count j new → count j o.taken ≡ 0
  not_taken j m n =
      let once : count j old ≤ 1 = chain_once t c.linked (queue s waits) j in
      omega (arith, n, counts j, in_staying j (has_stayed j m n), not_joined j m)

  later : (j k : ℕ) → 1 ≤ count k old → 1 ≤ count j (before k old) → 1 ≤ count j new → o.stays k ≡ true → (count k o.taken ≡ 0) × (1 ≤ count j (before k new))
  later j k m b n h =
      let mj : 1 ≤ count j old = omega (arith, b, count_before j k old) in
      let in_k : 1 ≤ count k staying = omega (arith, m, in_staying k h) in
      let e : before k (o.taken ++ new) ≡ keep o.stays (before k old) = ap (before k) (sym o.moves) ∙ before_in k staying o.joined in_k ∙ before_keep o.stays k old h in
      let d : count j (keep o.stays (before k old)) ≡ count j (before k old) = count_keep o.stays j (before k old) ∙ (rw (has_stayed j mj n)) in
      before_drop j k o.taken new (not_taken j mj n) (omega (arith, b, ap (count j) e, d))

  -- of two that wait the later is not granted while the earlier still waits
  pub still_behind : (j k : ℕ) → 1 ≤ count k old → 1 ≤ count j (before k old) → 1 ≤ count j new → granted (lock t' k) ≡ false
  still_behind j k m b n =
      by_cases (o.stays k)
      (λ h. let l = later j k m b n h in
      let i : 1 ≤ count k new = omega (arith, m, l.0, counts k, in_staying k h) in
      rw (eqb-true (lock t' k).state 3 (on_waits t' c'.linked s k i).0))
      (λ h. (o.lost k m h).0)

  -- those that still wait keep their order
  pub order_kept : (j k : ℕ) → 1 ≤ count k old → 1 ≤ count j (before k old) → 1 ≤ count j new → 1 ≤ count k new → 1 ≤ count j (before k new)
  order_kept j k m b n i = (later j k m b n (has_stayed k m i)).1

  -- and who comes stands behind all that waited and still do
  pub comes_behind : (j k : ℕ) → 1 ≤ count j old → 1 ≤ count j new → count k old ≡ 0 → 1 ≤ count k new → 1 ≤ count j (before k new)
  comes_behind j k m n z i =
      let zk : count k staying ≡ 0 = by_cases (o.stays k) (λ h. in_staying k h ∙ z) (λ h. count_keep o.stays k old ∙ (rw h)) in
      let e : before k (o.taken ++ new) ≡ staying ++ before k o.joined = ap (before k) (sym o.moves) ∙ before_out k staying o.joined zk in
      (before_drop j k o.taken new (not_taken j m n)
      (omega (arith, m, ap (count j) e, count_append j staying (before k o.joined), in_staying j (has_stayed j m n)))).1
