-- Sound tables: document 01's list, a definition for each of its five points, in its order and words; and what document 02 says of marks and counts.
use Rattle.std.specs.Prelude.{Bool, true, false, ◌&&◌, ◌||◌, not, cond, List, [], ◌∷◌, ℕ, zero, suc, ◌*◌, length, take, drop, eqb, leb}
use Rattle.modes.specs.Modes.{compatible, all_modes}
use Rattle.tables.specs.Lists.{count, bit, all, from, null, same}
use Rattle.tables.specs.State.{Lock, Tables, most_resources, most_locks, last_client, last_mode, name_width, state_free, state_granted, state_converting, state_waiting, state_denied, completion_none, completion_granted, completion_denied, completion_conversion_denied, mark_none, lock, resource, grants, converts, waits, LockChain, free_locks, denied, blocked, notices, queue, Chain, free_resources, of_locks, chain, belongs}
use Rattle.tables.specs.Layout.{of_header, of_resource, of_lock, size, slot_width, resources_in, locks_in, word_in, count_in, most, link_in, slot_in, read}
use Rattle.tables.specs.Grants.{holders, tally, no_grantable_head, empty}

abbrev pub each_resource : List ℕ → (ℕ → Bool) → Bool
each_resource ws p = all p (from 1 (resources_in ws))

abbrev pub each_lock : List ℕ → (ℕ → Bool) → Bool
each_lock ws p = all p (from 1 (locks_in ws))

-- 1. "Sizes and lengths as above; every word given as zero is zero; every index is 0 or a record's number; every chain ends."
unfoldable pub sizes_right : List ℕ → List ℕ → Bool
sizes_right ws ss =
    leb 1 (resources_in ws) && leb (resources_in ws) most_resources && leb 1 (locks_in ws) && leb (locks_in ws) most_locks
    && eqb (length ws) (size (resources_in ws) (locks_in ws)) && eqb (length ss) (slot_width * resources_in ws)

unfoldable pub zeros_right : List ℕ → Bool
zeros_right ws = eqb (word_in ws (of_header 7)) 0

unfoldable pub resource_index : List ℕ → ℕ → Bool
resource_index ws r = leb r (resources_in ws)

unfoldable pub lock_index : List ℕ → ℕ → Bool
lock_index ws k = leb k (locks_in ws)

unfoldable pub indices_right : List ℕ → Bool
unfolding resource_index lock_index
indices_right ws =
    resource_index ws (word_in ws (of_header 2)) && all (λ f. lock_index ws (word_in ws (of_header f))) (3 ∷ 4 ∷ 5 ∷ 6 ∷ [])
    && each_resource ws (λ r. resource_index ws (word_in ws (of_resource r 0)) && all (λ f. lock_index ws (word_in ws (of_resource r f))) (1 ∷ 2 ∷ 3 ∷ []))
    && each_lock ws (λ k. all (λ f. lock_index ws (word_in ws (of_lock k f))) (0 ∷ 1 ∷ 2 ∷ []) && resource_index ws (word_in ws (of_lock k 3)))

-- zero is reached in at most n steps from k
unfoldable pub ends : (ℕ → ℕ) → ℕ → ℕ → Bool
ends link zero zero = true
ends link zero (suc k) = false
ends link (suc n) zero = true
ends link (suc n) (suc k) = ends link n (link (suc k))

-- a chain that ends does so in at most as many steps as there are records
unfoldable pub chain_ends : List ℕ → Chain → Bool
unfolding ends
chain_ends ws c = ends (link_in ws c) (most (resources_in ws) (locks_in ws) c) (link_in ws c 0)

unfoldable pub chains_end : List ℕ → Bool
unfolding chain_ends
chains_end ws =
    chain_ends ws free_resources && chain_ends ws (of_locks free_locks) && chain_ends ws (of_locks denied)
    && chain_ends ws (of_locks blocked) && chain_ends ws (of_locks notices)
    && each_resource ws (λ r. chain_ends ws (of_locks (queue r grants)) && chain_ends ws (of_locks (queue r converts)) && chain_ends ws (of_locks (queue r waits)))

-- 2. "A resource is once on the free chain, all else in record and slot zero; or it is in use: next zero, a name of 1 to 64 bytes that no
-- other has, at least one lock." The validity word is 0 or 1.
unfoldable pub all_zero : List ℕ → Bool
all_zero bs = all (eqb 0) bs

unfoldable pub free_resource_right : List ℕ → List ℕ → Tables → ℕ → Bool
unfolding all_zero
free_resource_right ws ss t r =
    eqb (count r t.free_resources) 1 && eqb (word_in ws (of_resource r 5)) 0 && empty (resource t r) && all_zero (slot_in ss r)

unfoldable pub name_unique : Tables → ℕ → Bool
name_unique t r = all (λ s. eqb r s || not (same (resource t r).name (resource t s).name)) (from 1 (length t.resources))

unfoldable pub used_resource_right : List ℕ → List ℕ → Tables → ℕ → Bool
unfolding all_zero name_unique
used_resource_right ws ss t r =
    eqb (count r t.free_resources) 0 && eqb (word_in ws (of_resource r 0)) 0
    && leb (word_in ws (of_resource r 4)) name_width && all_zero (drop (word_in ws (of_resource r 4)) (take name_width (slot_in ss r))) && name_unique t r
    && leb (word_in ws (of_resource r 5)) 1 && not (empty (resource t r))

-- its name's length is zero when free
unfoldable pub resource_right : List ℕ → List ℕ → Tables → ℕ → Bool
unfolding free_resource_right used_resource_right
resource_right ws ss t r =
    cond (eqb (word_in ws (of_resource r 4)) 0) (free_resource_right ws ss t r) (used_resource_right ws ss t r)

-- 3. "A lock stands once on one home chain (free, denied, or grant, convert or wait of its resource), and its state and resource say which."
unfoldable pub stands_right : Tables → LockChain → ℕ → Bool
stands_right t c k = eqb (count k (chain t c)) (bit (belongs c (lock t k)))

unfoldable pub home_right : Tables → ℕ → Bool
unfolding stands_right
home_right t k =
    stands_right t free_locks k && stands_right t denied k
    && all (λ r. stands_right t (queue r grants) k && stands_right t (queue r converts) k && stands_right t (queue r waits) k) (from 1 (length t.resources))

-- "Clients are 1 to 255, modes 0 to 5", a mark "at most 5", and a lock on a resource's chain has a resource that is in use (one chain has it, and
-- none of a free one)
unfoldable pub client_right : ℕ → Bool
client_right c = leb 1 c && leb c last_client

unfoldable pub modes_right : Lock → Bool
modes_right l = leb l.held last_mode && leb l.asked last_mode && leb l.mark last_mode

unfoldable pub on_resource : Tables → Lock → Bool
on_resource t l = not (null (resource t l.resource).name)

-- a granted lock's completion: "0, 1 or 3"
abbrev pub granted_completion : ℕ → Bool
granted_completion c = eqb c completion_none || eqb c completion_granted || eqb c completion_conversion_denied

-- "Free: all but home next zero. Denied: resource, held and asked zero, completion 2. Granted: asked zero, completion 0, 1 or 3.
-- Converting and waiting: completion 0. Waiting: held zero, and it holds no mode." There is no other state. "A free, waiting or denied lock has
-- none", no mark.
unfoldable pub fields_right : Tables → Lock → ℕ → Bool
unfolding client_right modes_right on_resource
fields_right t l state =
    let standing = on_resource t l && client_right l.client && modes_right l in
    cond (eqb state state_free) (eqb l.resource 0 && eqb l.client 0 && eqb l.held 0 && eqb l.asked 0 && eqb l.completion completion_none && eqb l.mark mark_none)
    (cond (eqb state state_granted)
    (standing && eqb l.asked 0 && granted_completion l.completion)
    (cond (eqb state state_converting) (standing && eqb l.completion completion_none)
    (cond (eqb state state_waiting) (standing && eqb l.completion completion_none && eqb l.held 0 && eqb l.mark mark_none)
    (cond (eqb state state_denied)
    (client_right l.client && eqb l.resource 0 && eqb l.held 0 && eqb l.asked 0 && eqb l.completion completion_denied && eqb l.mark mark_none)
    false))))

unfoldable pub lock_right : Tables → ℕ → Bool
unfolding home_right fields_right
lock_right t k = home_right t k && fields_right t (lock t k) (lock t k).state

-- 4. "The blocked chain has exactly the converting and waiting locks, once each; the notice chain exactly those with a completion" or a mark; "a
-- lock off one of these has zero as its link there." (A free lock's three links: "all but home next zero".)
unfoldable pub linked_right : List ℕ → Tables → LockChain → ℕ → Bool
unfolding stands_right
linked_right ws t c k = stands_right t c k && (belongs c (lock t k) || eqb (link_in ws (of_locks c) k) 0)

-- 5. "Held modes on a resource (granted and converting locks) are pairwise compatible, and no head is grantable."
unfoldable pub holders_compatible : Tables → ℕ → Bool
holders_compatible t r = all (λ j. all (λ k. eqb j k || compatible (lock t j).held (lock t k).held) (holders t r)) (holders t r)

-- "Resource records become twelve words, words 6 to 11 counting the locks that hold NL to EX. Sound tables have true counts .. Free records have
-- zeros": no lock holds a mode there
unfoldable pub counts_right : List ℕ → Tables → ℕ → Bool
counts_right ws t r = all_modes (λ m. eqb (count_in ws r m) (tally t r m))

-- the points 2 to 5 and the counts, of the words and slots and the state that is read from them
unfoldable pub state_right : List ℕ → List ℕ → Tables → Bool
unfolding resource_right lock_right linked_right holders_compatible counts_right
state_right ws ss t =
    each_resource ws (resource_right ws ss t)
    && each_lock ws (lock_right t)
    && each_lock ws (λ k. linked_right ws t blocked k && linked_right ws t notices k)
    && each_resource ws (λ r. holders_compatible t r && no_grantable_head t r)
    && each_resource ws (counts_right ws t)

-- SOUND tables
unfoldable pub sound : List ℕ → List ℕ → Bool
unfolding sizes_right zeros_right indices_right chains_end state_right
sound ws ss = sizes_right ws ss && zeros_right ws && indices_right ws && chains_end ws && state_right ws ss (read ws ss)
