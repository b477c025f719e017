-- A lock is no longer counted, or is counted: premises as the code's places have them.
use mathlib.Core.Path.{◌≡◌, sym, ◌∙◌}
use mathlib.Core.Bool.{Bool, true, false}
use mathlib.Core.List.{List}
use Prim.Native.Nat.{ℕ, ◌+◌, ◌-◌, ◌*◌, ◌<◌, ◌≤◌, ◌^◌}
use native.Mathlib.Omega.{arith}
use borrow.Author.Rules.{rules}
use lib.ListN.{get_or, set, length}
use Rattle.tables.specs.declared.Lock.{Lock}
use Rattle.tables.specs.State.{most_locks, last_mode, holds}
use Rattle.tables.specs.Layout.{header_width, resource_width, resources_in}
use Rattle.tables.specs.Stores.{count_place, lower_count, raise_count}
use Rattle.table_fields.specs.Sizes.{Sized, Kept}
use Rattle.table_fields.proofs.Laws.{kept_set, kept_all}
use Rattle.table_chains.specs.Promises.{Counting}

-- where the code finds the count
pub count_placed : (l : Lock) (ws : List ℕ) (x y : ℕ) → x ≡ header_width + resource_width * (l.resource - 1) → (y ≡ l.held) × (y < 2 ^ 32) → x + 6 + y ≡ count_place (resources_in ws) l
count_placed l ws x y ex ey = omega (arith, ey.0)

pub counting_sized : (P : ℕ → Type 0) (l : Lock) (ws : List ℕ) → Counting P l ws → Sized ws
counting_sized P l ws h = h.sized

module _ (l : Lock) (ws : List ℕ) (b : Bool) (eb : b ≡ holds l) where
  pub lowered_none : b ≡ false → ws ≡ lower_count (resources_in ws) l ws
  unfolding lower_count
  lowered_none n = rw (sym eb ∙ n)

  pub raised_none : b ≡ false → ws ≡ raise_count (resources_in ws) l ws
  unfolding raise_count
  raised_none n = rw (sym eb ∙ n)

  module _ (held : b ≡ true) (x : ℕ) (ex : x ≡ count_place (resources_in ws) l) where
    pub lowered_count : set ws x (get_or ws x 0 - 1) ≡ lower_count (resources_in ws) l ws
    unfolding lower_count
    lowered_count = rw (ex, sym eb ∙ held)

    pub raised_count : set ws x (get_or ws x 0 + 1) ≡ raise_count (resources_in ws) l ws
    unfolding raise_count
    raised_count = rw (ex, sym eb ∙ held)

  module _ (held : b ≡ true) (P : ℕ → Type 0) (h : Counting P l ws) where
    pub counting_low : 1 ≤ l.resource
    counting_low = h.low (sym eb ∙ held)

    pub counting_high : l.resource ≤ resources_in ws
    counting_high = h.high (sym eb ∙ held)

    pub counting_mode : l.held ≤ last_mode
    counting_mode = h.mode (sym eb ∙ held)

    module _ (x : ℕ) (ex : x ≡ count_place (resources_in ws) l) where
      pub counting_inside : x < length ws
      counting_inside = omega (arith, h.sized.long, counting_low, counting_high, counting_mode)

      pub counting_kept : (v : ℕ) → Kept ws (set ws x v)
      counting_kept v = kept_set ws ws x v (omega arith) (kept_all ws h.sized)

      pub counting_number : P (get_or ws x 0)
      counting_number = rw ex (h.number (sym eb ∙ held))

pub counting_room : (l : Lock) (ws : List ℕ) (b : Bool) → b ≡ holds l → b ≡ true → Counting (λ n. n ≤ 2 * most_locks) l ws → (x : ℕ) → x ≡ count_place (resources_in ws) l → get_or ws x 0 + 1 < 2 ^ 32
counting_room l ws b eb q h x ex = let z = counting_number l ws b eb q (λ n. n ≤ 2 * most_locks) h x ex in omega arith

pub counting_some : (l : Lock) (ws : List ℕ) (b : Bool) → b ≡ holds l → b ≡ true → Counting (λ n. 1 ≤ n) l ws → (x : ℕ) → x ≡ count_place (resources_in ws) l → 1 ≤ get_or ws x 0
counting_some l ws b eb q h x ex = counting_number l ws b eb q (λ n. 1 ≤ n) h x ex

pub ruleset count_laws = (rules, count_placed, counting_sized, counting_low, counting_high, counting_mode, counting_inside, counting_kept, counting_some, counting_room, lowered_count, lowered_none, raised_count, raised_none, kept_all)
