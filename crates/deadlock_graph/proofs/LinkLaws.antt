-- Stores of links: what is read back, and what stays. A walk along a list of blocked locks.
use mathlib.Core.Path.{◌≡◌, refl, ◌∙◌}
use mathlib.Core.Logic.{◌≢◌}
use mathlib.Core.Bool.{cond}
use mathlib.Core.List.{List}
use Prim.Native.Nat.{ℕ, suc, ◌+◌, ◌*◌, ◌≤◌, ◌<◌}
use native.Mathlib.Omega.{arith}
use lib.ListN.{set, length, length-set}
use lib.Seq.{get_or-set_same, get_or-set_other}
use lib.Dec.{eqb}
use borrow.Author.Tests.{eq-eqb, ne_eqb}
use Rattle.tables.specs.Layout.{locks_in}
use Rattle.tables.proofs.Cases.{by_equal}
use Rattle.deadlock_graph.specs.Links.{link_width, link_of, Roomy, SameLinks, place_of, On, here, past}

module _ (ls : List ℕ) (k f x : ℕ) where
  -- the links with another link f of k
  abbrev stored : List ℕ
  stored = set ls (link_width * k + f) x

  pub link_same : link_width * k + f < length ls → link_of stored k f ≡ x
  unfolding link_of
  link_same l = get_or-set_same ls (link_width * k + f) x 0 l

  pub link_lock : (j g : ℕ) → f < link_width → g < link_width → j ≢ k → link_of stored j g ≡ link_of ls j g
  unfolding link_of
  link_lock j g p q n = get_or-set_other ls (link_width * k + f) (link_width * j + g) x 0 (λ e. n (omega arith))

  pub link_field : (j g : ℕ) → f < link_width → g < link_width → g ≢ f → link_of stored j g ≡ link_of ls j g
  unfolding link_of
  link_field j g p q n = get_or-set_other ls (link_width * k + f) (link_width * j + g) x 0 (λ e. n (omega arith))

  pub links_kept : (g : ℕ) → f < link_width → g < link_width → g ≢ f → SameLinks g ls stored
  links_kept g p q n = record { each = λ j. link_field j g p q n }

pub same_links : (f : ℕ) (ls : List ℕ) → SameLinks f ls ls
same_links f ls = record { each = λ k. refl }

pub joined_links : {f : ℕ} {ls ls' ls'' : List ℕ} → SameLinks f ls ls' → SameLinks f ls' ls'' → SameLinks f ls ls''
joined_links p q = record { each = λ k. q.each k ∙ p.each k }

-- a lock's row is inside
pub row_inside : (ws ls : List ℕ) (k f : ℕ) → Roomy ws ls → k ≤ locks_in ws → f < link_width → link_width * k + f < length ls
row_inside ws ls k f r h p = omega (arith, r.rows)

pub roomy_stored : (ws ls : List ℕ) (i x : ℕ) → Roomy ws ls → Roomy ws (set ls i x)
roomy_stored ws ls i x r = record { rows = rw (length-set ls i x) r.rows }

-- ---- a list of blocked locks

pub on_none : (next : ℕ → ℕ) (k b : ℕ) → k ≡ 0 → On next k b → b ≡ 0
on_none next k b e (here _) = e
on_none next k b e (past _ _ n o) = absurd (n e)

pub on_past : (next : ℕ → ℕ) (k b : ℕ) → b ≢ k → On next k b → On next (next k) b
on_past next k b m (here _) = absurd (m refl)
on_past next k b m (past _ _ n o) = o

-- a list that comes by no lock whose next one is another now stays what it was
module _ (P : ℕ → Type 0) (next next' : ℕ → ℕ) (same : (k : ℕ) → P k → next' k ≡ next k) (goes : (k : ℕ) → P k → next k ≢ 0 → P (next k)) where
  pub on_kept : (k b : ℕ) → (k ≢ 0 → P k) → On next k b → On next' k b
  on_kept k b h (here _) = here k
  on_kept k b h (past _ _ n o) = past k b n (rw (same k (h n)) (on_kept (next k) b (λ m. goes k (h n) m) o))

-- how many turns a walk along which the places fall has left at k, at most; 0 is its end
unfoldable pub turns : List ℕ → ℕ → ℕ
turns ws k = cond (eqb k 0) 0 (suc (place_of ws k))

pub turns_less : (ws : List ℕ) (x k : ℕ) → k ≢ 0 → (x ≢ 0 → place_of ws x < place_of ws k) → turns ws x < turns ws k
unfolding turns
turns_less ws x k n h =
    by_equal x 0
    (λ e. rw (eq-eqb x 0 e, ne_eqb k 0 n) (omega arith))
    (λ o. rw (ne_eqb x 0 o, ne_eqb k 0 n) (omega (arith, h o)))
