-- Granting and sweeping a resource, freeing what is no longer used, and finding a name.
use Rattle.std.specs.Prelude.{Bool, true, false, List, [], ◌∷◌, ℕ, length}
use Rattle.tables.specs.Lists.{first_that, from, same}
use Rattle.tables.specs.declared.Lock.{Lock}
use Rattle.tables.specs.State.{Tables, no_lock, changed_lock, no_resource, lock, resource, move, move_resource, state_granted, completion_granted}
use Rattle.tables.specs.Grants.{convert_grantable, wait_grantable, empty}

-- "A lock granted so goes to the end of the grant chain, held = asked, asked 0, completion 1, off the blocked chain, to the end of the
-- notice chain": `move` does so to the lock that becomes this.
unfoldable pub granted_lock : Lock → Lock
granted_lock l = changed_lock state_granted l.asked 0 completion_granted l

unfoldable pub grant_lock : ℕ → ℕ → Tables → Tables
grant_lock r k t = move r k (granted_lock (lock t k)) t

-- while the head is grantable, grant it
unfoldable pub grant_while : (Tables → ℕ → ℕ → Bool) → ℕ → List ℕ → Tables → Tables
grant_while grantable r [] t = t
grant_while grantable r (k ∷ ks) t =
    elim (grantable t r k) [ true ↦ grant_while grantable r ks (grant_lock r k t) | false ↦ t ]

unfoldable pub grant_converts : ℕ → Tables → Tables
grant_converts r t = grant_while convert_grantable r (resource t r).convert t

unfoldable pub grant_waits : ℕ → Tables → Tables
grant_waits r t = grant_while wait_grantable r (resource t r).wait t

-- *Sweep* a resource: while its convert head is grantable, grant it; then while its wait head is, grant that
unfoldable pub sweep : ℕ → Tables → Tables
sweep r t = grant_waits r (grant_converts r t)

unfoldable pub free_lock : ℕ → Tables → Tables
free_lock k t = move (lock t k).resource k no_lock t

-- sweep a resource, or free it if it is left empty
unfoldable pub settle : ℕ → Tables → Tables
settle r t = elim (empty (resource t r)) [ true ↦ move_resource r no_resource t | false ↦ sweep r t ]

-- the resource of that name, or 0
unfoldable pub find : List ℕ → Tables → ℕ
find n t = first_that (λ r. same (resource t r).name n) (from 1 (length t.resources))
