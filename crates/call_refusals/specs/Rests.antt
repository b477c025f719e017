-- The ends of the chains of refusals in `rules/Calls`: what is left once a call's arguments are right.
use Rattle.std.specs.Prelude.{◌||◌, not, ℕ, eqb}
use Rattle.tables.specs.Lists.{null}
use Rattle.tables.specs.State.{Tables, lock, granted, unread}
use Rattle.rules.specs.Calls.{unless, own, no_queue, at_once, in_place}

-- of release; of convert without the last one
unfoldable pub granted_refusal : ℕ → ℕ → Tables → ℕ
granted_refusal c k t = unless (own c k t) 8 (unless (not (unread (lock t k))) 9 (unless (granted (lock t k)) 10 0))

-- of convert
unfoldable pub conversion_refusal : ℕ → ℕ → ℕ → ℕ → Tables → ℕ
conversion_refusal c k m f t =
    unless (own c k t) 8 (unless (not (unread (lock t k))) 9 (unless (granted (lock t k)) 10
    (unless (not (no_queue f) || in_place k m t) 13 0)))

-- of request: r is the resource that has the name, or 0
unfoldable pub room_refusal : ℕ → ℕ → ℕ → Tables → ℕ
room_refusal r m f t =
    unless (not (eqb r 0) || not (null t.free_resources)) 11 (unless (not (null t.free_locks)) 12
    (unless (not (no_queue f) || at_once r m t) 13 0))
