-- The cells that code computes are those of the chain.
use mathlib.Core.Path.{◌≡◌, refl, ◌∙◌}
use mathlib.Core.List.{List}
use Prim.Native.Nat.{ℕ, zero, suc, ◌+◌, ◌*◌, ◌-◌, ◌<◌, ◌≤◌}
use native.Mathlib.Omega.{arith}
use borrow.Author.Rules.{rules}
use Rattle.tables.specs.State.{free_resources, of_locks, home_at}
use Rattle.tables.specs.Layout.{header_width, resource_width, lock_width, place, head, resources_in, locks_in}
use Rattle.tables.proofs.Chains.{home_past}
use Rattle.table_chains.specs.declared.Cells.{Cells}
use Rattle.table_chains.specs.Cells.{cells_at, lock_cells, Housed}

pub lock_cells_are : (ws : List ℕ) (hd f x n : ℕ) → x ≡ header_width + resource_width * resources_in ws + lock_width * (1 - 1) → n ≡ locks_in ws
    → record { head = hd; first = x + f; width = lock_width; most = n } ≡ lock_cells hd f ws
unfolding lock_cells
lock_cells_are ws hd f x n ex en = rw (ex, en)

pub resource_cells_are : (ws : List ℕ) (x n : ℕ) → x ≡ header_width + resource_width * (1 - 1) → n ≡ resources_in ws
    → record { head = 2; first = x + 0; width = resource_width; most = n } ≡ cells_at free_resources ws
unfolding cells_at
resource_cells_are ws x n ex en = rw (ex, en)

-- the place of a home's head
pub head_free : (s r n : ℕ) → s ≡ 0 → 3 ≡ place n (head (of_locks (home_at s r)))
head_free s r n e = rw e

pub head_denied : (s r n : ℕ) → 4 ≤ s → 4 ≡ place n (head (of_locks (home_at s r)))
head_denied s r n h = rw (home_past s r h)

pub head_queue : (s r n x : ℕ) → (s ≡ 0 → ⊥) → s < 4 → x ≡ header_width + resource_width * (r - 1) → x + s ≡ place n (head (of_locks (home_at s r)))
head_queue zero r n x p q e = absurd (p refl)
head_queue (suc zero) r n x p q e = rw e
head_queue (suc (suc zero)) r n x p q e = rw e
head_queue (suc (suc (suc zero))) r n x p q e = rw e
head_queue (suc (suc (suc (suc s)))) r n x p q e = absurd (omega arith)

queue_in : (s r : ℕ) (ws : List ℕ) → Housed s r ws → (s ≡ 0 → ⊥) → s < 4 → (1 ≤ r) × (r ≤ resources_in ws)
queue_in zero r ws h p q = absurd (p refl)
queue_in (suc zero) r ws h p q = (h.inside.0, h.inside.1)
queue_in (suc (suc zero)) r ws h p q = (h.inside.0, h.inside.1)
queue_in (suc (suc (suc zero))) r ws h p q = (h.inside.0, h.inside.1)
queue_in (suc (suc (suc (suc s)))) r ws h p q = absurd (omega arith)

pub queue_low : (s r : ℕ) (ws : List ℕ) → Housed s r ws → (s ≡ 0 → ⊥) → s < 4 → 1 ≤ r
queue_low s r ws h p q = (queue_in s r ws h p q).0

pub queue_high : (s r : ℕ) (ws : List ℕ) → Housed s r ws → (s ≡ 0 → ⊥) → s < 4 → r ≤ resources_in ws
queue_high s r ws h p q = (queue_in s r ws h p q).1

pub home_cells_are : (ws : List ℕ) (s r hd : ℕ) (cs : Cells) → hd ≡ place (resources_in ws) (head (of_locks (home_at s r))) → cs ≡ lock_cells hd 0 ws → cs ≡ cells_at (of_locks (home_at s r)) ws
unfolding lock_cells cells_at
home_cells_are ws zero r hd cs e f = f ∙ rw e
home_cells_are ws (suc zero) r hd cs e f = f ∙ rw e
home_cells_are ws (suc (suc zero)) r hd cs e f = f ∙ rw e
home_cells_are ws (suc (suc (suc zero))) r hd cs e f = f ∙ rw e
home_cells_are ws (suc (suc (suc (suc s)))) r hd cs e f = rw (home_past (suc (suc (suc (suc s)))) r (omega arith)) (f ∙ rw (e, home_past (suc (suc (suc (suc s)))) r (omega arith)))

pub ruleset head_laws = (rules, lock_cells_are, resource_cells_are, head_free, head_denied, head_queue, queue_low, queue_high, home_cells_are)
