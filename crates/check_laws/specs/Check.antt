-- What the check computes, pass by pass: linear in the tables but for the comparison of names. No public contract cites it; it is proved equal
-- to `sound` (proofs/Equal.antt), and the code's passes are proved equal to its parts.
use Rattle.std.specs.Prelude.{Bool, true, ◌&&◌, ◌||◌, not, cond, List, [], ◌∷◌, ℕ, suc, ◌+◌, ◌*◌, ◌/◌, ◌^◌, length, eqb, leb}
use Rattle.modes.specs.Modes.{NL, CR, CW, PR, PW, EX}
use Rattle.modes.specs.Sets.{fits_set, with_mode}
use Rattle.tables.specs.declared.Lock.{Lock}
use Rattle.tables.specs.Lists.{all, from, keep}
use Rattle.tables.specs.State.{name_width, blocked_lock, noticed, state_free, state_granted, state_converting, state_waiting, state_denied, completion_none, completion_denied, mark_none, grants, converts, waits}
use Rattle.tables.specs.Layout.{of_header, of_resource, of_lock, resources_in, locks_in, word_in, count_in, follow, lock_link, onward, read_lock, queue_head, held_in}
use Rattle.tables.specs.Sound.{ends, client_right, modes_right, sizes_right, granted_completion}
use Rattle.table_names.specs.Names.{named, slot_fine, names_differ}
pub use Rattle.check_laws.specs.declared.HolderCount.{HolderCount}
pub use Rattle.check_laws.specs.declared.ResourceRow.{ResourceRow}

-- RECORDS. The words of a resource before its counts (the record is the code's struct)
unfoldable pub row_in : List ℕ → ℕ → ResourceRow
row_in ws r =
    record {
      next = word_in ws (of_resource r 0);
      grant = word_in ws (of_resource r 1);
      convert = word_in ws (of_resource r 2);
      wait = word_in ws (of_resource r 3);
      bytes = word_in ws (of_resource r 4);
      valid = word_in ws (of_resource r 5);
    }

-- by its counts nobody holds a mode on it
unfoldable pub unheld : List ℕ → ℕ → Bool
unheld ws r =
    eqb (count_in ws r NL) 0 && eqb (count_in ws r CR) 0 && eqb (count_in ws r CW) 0 && eqb (count_in ws r PR) 0 && eqb (count_in ws r PW) 0
    && eqb (count_in ws r EX) 0

-- a resource is free, and its other words are zero; or it is in use, with a name of at most 64 bytes and a first lock on some chain
unfoldable pub free_row : ResourceRow → Bool
free_row x = eqb x.valid 0 && eqb x.grant 0 && eqb x.convert 0 && eqb x.wait 0

unfoldable pub used_row : ResourceRow → Bool
used_row x =
    eqb x.next 0 && leb x.bytes name_width && leb x.valid 1 && not (eqb x.grant 0 && eqb x.convert 0 && eqb x.wait 0)

unfoldable pub row_fine : List ℕ → ℕ → Bool
row_fine ws r =
    let x = row_in ws r in
    cond (eqb x.bytes 0) (free_row x && unheld ws r) (used_row x)

unfoldable pub resource_fine : List ℕ → List ℕ → ℕ → Bool
resource_fine ws ss r = row_fine ws r && slot_fine ws ss r

-- the number is that of a resource in use
unfoldable pub on_named : List ℕ → ℕ → Bool
on_named ws r = leb 1 r && leb r (resources_in ws) && named ws r

-- the fields of a lock are right for its state; the first argument says whether its resource is in use
unfoldable pub fields_fine : Bool → Lock → Bool
fields_fine in_use l =
    eqb l.state state_free && eqb l.resource 0 && eqb l.client 0 && eqb l.held 0 && eqb l.asked 0 && eqb l.completion completion_none && eqb l.mark mark_none
    || eqb l.state state_granted && in_use && client_right l.client && modes_right l && eqb l.asked 0
    && granted_completion l.completion
    || eqb l.state state_converting && in_use && client_right l.client && modes_right l && eqb l.completion completion_none
    || eqb l.state state_waiting && in_use && client_right l.client && modes_right l && eqb l.completion completion_none && eqb l.held 0 && eqb l.mark mark_none
    || eqb l.state state_denied && client_right l.client && eqb l.resource 0 && eqb l.held 0 && eqb l.asked 0 && eqb l.completion completion_denied && eqb l.mark mark_none

-- if it does not belong on the blocked or the notice chain, its link there is zero
unfoldable pub links_fine : List ℕ → ℕ → Bool
links_fine ws k =
    (blocked_lock (read_lock ws k) || eqb (word_in ws (of_lock k 1)) 0) && (noticed (read_lock ws k) || eqb (word_in ws (of_lock k 2)) 0)

unfoldable pub lock_fine : List ℕ → ℕ → Bool
lock_fine ws k = fields_fine (on_named ws (read_lock ws k).resource) (read_lock ws k) && links_fine ws k

-- CHAINS. The number of steps from k to the end, or n + 1 if it isn't reached in n steps or the test fails on the way.
unfoldable pub steps : (ℕ → ℕ) → (ℕ → Bool) → ℕ → ℕ → ℕ
steps link test n k =
    let ks = follow link n k in
    cond (ends link n k && all test ks) (length ks) (suc n)

-- the chain of free resources has as many as have no name, and none that has one
unfoldable pub free_resource_on : List ℕ → ℕ → Bool
free_resource_on ws r = leb r (resources_in ws) && not (named ws r)

unfoldable pub free_resources_fine : List ℕ → Bool
free_resources_fine ws =
    eqb (steps (λ r. word_in ws (of_resource r 0)) (free_resource_on ws) (resources_in ws) (word_in ws (of_header 2)))
    (length (keep (λ r. not (named ws r)) (from 1 (resources_in ws))))

-- the blocked and the notice chain have as many as belong there, and no others
unfoldable pub blocked_on : List ℕ → ℕ → Bool
blocked_on ws k = leb k (locks_in ws) && blocked_lock (read_lock ws k)

unfoldable pub blocked_fine : List ℕ → Bool
blocked_fine ws =
    eqb (steps (lock_link ws 1) (blocked_on ws) (locks_in ws) (word_in ws (of_header 5)))
    (length (keep (λ k. blocked_lock (read_lock ws k)) (from 1 (locks_in ws))))

unfoldable pub notice_on : List ℕ → ℕ → Bool
notice_on ws k = leb k (locks_in ws) && noticed (read_lock ws k)

-- how many of these locks belong on the notice chain
abbrev pub noticed_of : List ℕ → List ℕ → ℕ
noticed_of ws ks = length (keep (λ k. noticed (read_lock ws k)) ks)

unfoldable pub notices_fine : List ℕ → Bool
notices_fine ws =
    eqb (steps (lock_link ws 2) (notice_on ws) (locks_in ws) (word_in ws (of_header 6)))
    (noticed_of ws (from 1 (locks_in ws)))

-- a home chain: each lock has the chain's state and resource, and is fine
unfoldable pub stands : List ℕ → ℕ → ℕ → ℕ → Bool
stands ws s r k = eqb (read_lock ws k).state s && eqb (read_lock ws k).resource r && lock_fine ws k

unfoldable pub home_on : List ℕ → ℕ → ℕ → ℕ → Bool
home_on ws s r k = leb k (locks_in ws) && stands ws s r k

unfoldable pub home_steps : List ℕ → ℕ → ℕ → ℕ → ℕ
home_steps ws s r k = steps (lock_link ws 0) (home_on ws s r) (locks_in ws) k

-- a number of each, added up
unfoldable pub sum_over : (ℕ → ℕ) → List ℕ → ℕ
sum_over f [] = 0
sum_over f (r ∷ rs) = f r + sum_over f rs

-- HOLDERS. Along a list of locks, each held mode fits the set of those before it, which starts as s; `fit` says whether a mode fits a set.
unfoldable pub fitting : (ℕ → ℕ → Bool) → (ℕ → ℕ) → ℕ → List ℕ → Bool
fitting fit held s [] = true
fitting fit held s (k ∷ ks) = fit s (held k) && fitting fit held (with_mode s (held k)) ks

-- the set s with all their held modes
unfoldable pub gather : (ℕ → ℕ) → ℕ → List ℕ → ℕ
gather held s [] = s
gather held s (k ∷ ks) = gather held (with_mode s (held k)) ks

-- a held mode as a number to add up: a digit of 12 bits for each mode from CR on, which does not run over since there are fewer locks than 4096. NL
-- adds nothing: how many hold it is what is left of the locks.
unfoldable pub digit : ℕ → ℕ
digit held = 4096 ^ held / 4096

-- their held modes, added up
abbrev pub digits_of : List ℕ → List ℕ → ℕ
digits_of ws ks = sum_over (λ k. digit (held_in ws k)) ks

-- a number for each mode: all six together; and those from CR on as digits
unfoldable pub total : (ℕ → ℕ) → ℕ
total c = c NL + c CR + c CW + c PR + c PW + c EX

unfoldable pub digits_in : (ℕ → ℕ) → ℕ
digits_in c = digit CR * c CR + digit CW * c CW + digit PR * c PR + digit PW * c PW + digit EX * c EX

-- one lock more than the n that there may be, and nothing else: something is wrong with the chain (the record is the code's struct)
abbrev pub too_many : ℕ → HolderCount
too_many n = record { met = suc n; modes = 0; noticed = 0; digits = 0 }

-- a home chain of holders whose modes fit: the number of steps, as above, the set of the modes; and with those before k, how many belong on the notice
-- chain, and the held modes added up
unfoldable pub holder_steps : List ℕ → ℕ → ℕ → (List ℕ → Bool) → (List ℕ → ℕ) → ℕ → ℕ → ℕ → ℕ → HolderCount
holder_steps ws s r fits modes n k before added =
    let ks = follow (lock_link ws 0) n k in
    cond (ends (lock_link ws 0) n k && (all (home_on ws s r) ks && fits ks))
    (record { met = length ks; modes = modes ks; noticed = before + noticed_of ws ks; digits = added + digits_of ws ks })
    (too_many n)

-- such a chain, where each held mode must fit the set of those before it
unfoldable pub mode_steps : List ℕ → ℕ → ℕ → (ℕ → ℕ → Bool) → ℕ → ℕ → ℕ → ℕ → ℕ → HolderCount
mode_steps ws s r fit n k set before added = holder_steps ws s r (fitting fit (held_in ws) set) (gather (held_in ws) set) n k before added

-- ONE RESOURCE. Its grant chain, from the empty set and zeros.
unfoldable pub grant_walk : List ℕ → ℕ → HolderCount
grant_walk ws r = mode_steps ws state_granted r fits_set (locks_in ws) (word_in ws (of_resource r 1)) 0 0 0

-- the locks behind the convert head, which holds h, starting from the set of the granted modes: each must fit h and those before it; the set leaves h
-- out, the sum does not
unfoldable pub fits_beside : ℕ → ℕ → ℕ → Bool
fits_beside h set m = fits_set (with_mode set h) m

abbrev pub tail_steps : List ℕ → ℕ → ℕ → ℕ → ℕ → ℕ → ℕ → HolderCount
tail_steps ws r h n k set before = mode_steps ws state_converting r (fits_beside h) n k set before (digit h)

-- its convert chain: the head's mode fits the granted ones, and those behind it fit beside it
unfoldable pub convert_fit : (ℕ → ℕ) → ℕ → List ℕ → Bool
convert_fit held granted [] = true
convert_fit held granted (k ∷ ks) = fits_set granted (held k) && fitting (fits_beside (held k)) held granted ks

-- the set of the held modes other than the head's
unfoldable pub other_modes : (ℕ → ℕ) → ℕ → List ℕ → ℕ
other_modes held granted [] = granted
other_modes held granted (k ∷ ks) = gather held granted ks

unfoldable pub convert_from : List ℕ → ℕ → ℕ → ℕ → HolderCount
convert_from ws r c granted = holder_steps ws state_converting r (convert_fit (held_in ws) granted) (other_modes (held_in ws) granted) (locks_in ws) c 0 0

unfoldable pub convert_walk : List ℕ → ℕ → ℕ → HolderCount
convert_walk ws r granted = convert_from ws r (word_in ws (of_resource r 2)) granted

-- the convert head is kept out by the others' modes; if there is no convert head, the wait head is kept out by the granted ones
unfoldable pub heads_wait : List ℕ → ℕ → ℕ → ℕ → Bool
heads_wait ws r granted others =
    let c = word_in ws (of_resource r 2) in
    let w = word_in ws (of_resource r 3) in
    cond (eqb c 0) (eqb w 0 || not (fits_set granted (read_lock ws w).asked)) (not (fits_set others (read_lock ws c).asked))

-- its counts are true, where `met` locks hold a mode and `digits` is their modes added up: as many in all, and as many of each mode
unfoldable pub counts_fine : List ℕ → ℕ → ℕ → ℕ → Bool
counts_fine ws r met digits = eqb (total (count_in ws r)) met && eqb (digits_in (count_in ws r)) digits

-- the number of locks on its three chains, or more than there are if something is wrong with them or with the counts
unfoldable pub wait_part : List ℕ → ℕ → HolderCount → HolderCount → ℕ
wait_part ws r g c =
    let w = home_steps ws state_waiting r (word_in ws (of_resource r 3)) in
    cond (leb w (locks_in ws) && heads_wait ws r g.modes c.modes) (g.met + c.met + w) (suc (locks_in ws))

unfoldable pub convert_part : List ℕ → ℕ → HolderCount → ℕ
convert_part ws r g =
    let c = convert_walk ws r g.modes in
    cond (leb c.met (locks_in ws) && counts_fine ws r (g.met + c.met) (g.digits + c.digits)) (wait_part ws r g c) (suc (locks_in ws))

unfoldable pub resource_walk : List ℕ → ℕ → ℕ
resource_walk ws r =
    let g = grant_walk ws r in
    cond (leb g.met (locks_in ws)) (convert_part ws r g) (suc (locks_in ws))

-- HOMES. Each lock stands once on one home chain: what is met on all of them adds up to L.
unfoldable pub queues_walk : List ℕ → List ℕ → ℕ
queues_walk ws [] = 0
queues_walk ws (r ∷ rs) = resource_walk ws r + queues_walk ws rs

unfoldable pub homes_fine : List ℕ → Bool
homes_fine ws =
    eqb
    (home_steps ws state_free 0 (word_in ws (of_header 3)) + home_steps ws state_denied 0 (word_in ws (of_header 4)) + queues_walk ws (from 1 (resources_in ws)))
    (locks_in ws)

-- SIDES. How many locks belong on the blocked and on the notice chain, added up along the home chains.
unfoldable pub blocked_at : List ℕ → ℕ → ℕ
blocked_at ws r = length (onward ws 0 (word_in ws (of_resource r (queue_head converts)))) + length (onward ws 0 (word_in ws (of_resource r (queue_head waits))))

-- only holders belong on the notice chain, beside the denied locks
unfoldable pub noticed_at : List ℕ → ℕ → ℕ
noticed_at ws r = noticed_of ws (onward ws 0 (word_in ws (of_resource r (queue_head grants)))) + noticed_of ws (onward ws 0 (word_in ws (of_resource r (queue_head converts))))

-- THE CHECK
unfoldable pub check : List ℕ → List ℕ → Bool
check ws ss =
    sizes_right ws ss && (eqb (word_in ws (of_header 7)) 0 && (all (resource_fine ws ss) (from 1 (resources_in ws))
    && (homes_fine ws && (free_resources_fine ws && (blocked_fine ws && (notices_fine ws && names_differ ws ss))))))
