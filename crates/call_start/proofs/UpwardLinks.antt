-- Links upward: what stands at each place then, and the loop that writes them.
use mathlib.Core.Path.{◌≡◌, refl, ◌∙◌}
use mathlib.Core.Logic.{◌≢◌}
use mathlib.Core.List.{List}
use Prim.Native.Nat.{ℕ, zero, suc, ◌+◌, ◌-◌, ◌*◌, ◌<◌, ◌≤◌}
use native.Mathlib.Omega.{arith}
use native.Mathlib.Nat.{mul-le-mul_left, mul-suc, mul-zero}
use lib.ListN.{get_or, set, length, length-set}
use lib.Seq.{get_or-set_same, get_or-set_other}
use Rattle.tables.proofs.Cases.{by_equal}
use Rattle.call_start.specs.Fresh.{Links, linked_up}

module _ (first w : ℕ) (ws : List ℕ) where
  pub length_linked : (n : ℕ) → length (linked_up first w n ws) ≡ length ws
  unfolding linked_up
  length_linked zero = refl
  length_linked (suc n) = length-set (linked_up first w n ws) _ _ ∙ length_linked n

  pub linked_past : (n i : ℕ) → ((j : ℕ) → j < n → i ≢ first + w * j) → get_or (linked_up first w n ws) i 0 ≡ get_or ws i 0
  unfolding linked_up
  linked_past zero i h = refl
  linked_past (suc n) i h =
      get_or-set_other (linked_up first w n ws) (first + w * n) i (n + 2) 0 (h n (omega arith)) ∙ linked_past n i (λ j p. h j (omega arith))

  -- the links of different records stand at different places
  links_apart : (k n : ℕ) → k < n → 1 ≤ w → first + w * k < first + w * n
  links_apart k n p q = let u : w * suc k ≤ w * n = mul-le-mul_left w p in let v : w * suc k ≡ w * k + w = mul-suc w k in omega arith

  pub linked_here : (n k : ℕ) → k < n → 1 ≤ w → first + w * n ≤ length ws → get_or (linked_up first w n ws) (first + w * k) 0 ≡ k + 2
  unfolding linked_up
  linked_here zero k p q h = absurd (omega arith)
  linked_here (suc n) k p q h =
      let u : w * suc n ≡ w * n + w = mul-suc w n in
      by_equal k n
      (λ e. rw e (get_or-set_same (linked_up first w n ws) (first + w * n) (n + 2) 0 (rw (length_linked n) (omega arith))))
      (λ e.
      let v : first + w * k < first + w * n = links_apart k n (omega arith) q in
      get_or-set_other (linked_up first w n ws) (first + w * n) (first + w * k) (n + 2) 0 (λ f. omega arith) ∙ linked_here n k (omega arith) q (omega arith))

-- `for next in 2..n + 1 { words[at] = next; at += w; }`: the records before the one whose link stands at `at` name the one after
pub record Linking (first w : ℕ) (d ws : List ℕ) (at_link following : ℕ) : Type 0 where
  pub here : at_link ≡ first + w * (following - 2)
  pub inside : at_link + w ≤ length d
  pub long : length ws ≡ length d
  pub done : ws ≡ linked_up first w (following - 2) d

module _ (first w n : ℕ) (d : List ℕ) (h : Links first w n d) where
  -- the link of each of the n records is among the words
  link_inside : (j : ℕ) → suc j ≤ n → first + w * j + w ≤ length d
  link_inside j p = let u : w * suc j ≡ w * j + w = mul-suc w j in let v : w * suc j ≤ w * n = mul-le-mul_left w p in let room = h.room in omega arith

  pub link_starts : Linking first w d d first 2
  unfolding linked_up
  link_starts =
      let p = h.some in
      let z : first ≡ first + w * 0 = rw mul-zero (omega arith) in
      record { here = z; inside = rw (← z) at (link_inside 0 p); long = refl; done = refl }

  module _ (ws : List ℕ) (at_link following : ℕ) (i : Linking first w d ws at_link following) where
    pub link_next : 2 ≤ following → following ≤ n → Linking first w d (set ws at_link following) (at_link + w) (following + 1)
    unfolding linked_up
    link_next low more =
        let s : following + 1 - 2 ≡ suc (following - 2) = omega arith in
        let t : following - 2 + 2 ≡ following = omega arith in
        let here : at_link + w ≡ first + w * (following + 1 - 2) = rw (s, mul-suc, i.here) (omega arith) in
        record {
          here = here;
          inside = rw here (link_inside (following + 1 - 2) (omega arith));
          long = length-set ws at_link following ∙ i.long;
          done = rw (s, t, i.here, ← i.done);
        }
