-- The seven calls on a state: for each its refusals, in document 01's order, and what it answers and changes where none fits. Marks (R-1), the wait
-- chain in what a new request needs (R-2) and two of purge's counts (R-3) are document 02's.
use Rattle.std.specs.Prelude.{Bool, true, false, ◌&&◌, ◌||◌, not, cond, List, [], ◌∷◌, ◌++◌, ℕ, zero, suc, ◌/◌, ◌%◌, length, eqb, leb, ltb}
use Rattle.modes.specs.Modes.{NL, down}
use Rattle.tables.specs.Lists.{within, any, keep, first, first_that, null, from}
use Rattle.tables.specs.declared.Lock.{Lock}
use Rattle.tables.specs.State.{Resource, Tables, name_width, value_width, no_value, new_lock, denied_lock, changed_lock, with_notice, lock, resource, granted, converting, blocked_lock, unread, move, move_resource, state_free, state_granted, state_converting, state_waiting, completion_none, completion_denied, completion_conversion_denied, mark_none, last_mode}
use Rattle.tables.specs.Grants.{holders, fits}
use Rattle.tables.specs.Sound.{client_right}
use Rattle.rules.specs.Queues.{sweep, free_lock, settle, find}
use Rattle.rules.specs.Deadlock.{obstacles, victim}
pub use Rattle.rules.specs.declared.Said.{Said}

-- WHAT A CALL SAYS: a refusal, or 0 where it is accepted; its answer; a lock's number, or purge's second count; and one number more, which is poll's
-- mark or purge's third count. What it doesn't say is zero. The record is the code's struct, `Said`.
abbrev pub accepted_with : ℕ → ℕ → ℕ → Said
accepted_with a k x = record { refusal = 0; answer = a; number = k; extra = x }

abbrev pub accepted : ℕ → ℕ → Said
accepted a k = accepted_with a k 0

-- "The first that fits is answered with zeros in all other fields; nothing lent changes."
abbrev pub refused : ℕ → Said
refused n = record { refusal = n; answer = 0; number = 0; extra = 0 }

-- a call's step: what it says, and the state after it
pub record Step : Type 0 where
  pub said : Said
  pub tables : Tables

abbrev pub accepted_step : ℕ → ℕ → Tables → Step
accepted_step a k t = record { said = accepted a k; tables = t }

-- a refusal n unless b holds, else the rest
unfoldable pub unless : Bool → ℕ → ℕ → ℕ
unless b n rest = cond b rest n

unfoldable pub refused_or : ℕ → Step → Tables → Step
refused_or zero s t = s
refused_or (suc n) s t = record { said = refused (suc n); tables = t }

-- FLAGS. 1 store the value, 2 make it not valid, 4 don't queue; any other bit isn't allowed.
unfoldable pub stores : ℕ → Bool
stores f = eqb (f % 2) 1

unfoldable pub spoils : ℕ → Bool
spoils f = eqb (f / 2 % 2) 1

unfoldable pub no_queue : ℕ → Bool
no_queue f = eqb (f / 4 % 2) 1

unfoldable pub request_flags : ℕ → Bool
request_flags f = eqb f 0 || eqb f 4

unfoldable pub convert_flags : ℕ → Bool
convert_flags f = ltb f 8 && not (stores f && spoils f)

unfoldable pub release_flags : ℕ → Bool
release_flags f = ltb f 4 && not (stores f && spoils f)

-- ARGUMENTS
unfoldable pub name_right : List ℕ → Bool
name_right n = leb 1 (length n) && leb (length n) name_width

unfoldable pub value_right : ℕ → List ℕ → Bool
value_right f v = not (stores f) || eqb (length v) value_width

-- a lock that is in use, and the client's
unfoldable pub own : ℕ → ℕ → Tables → Bool
own c k t = within (length t.locks) k && not (eqb (lock t k).state state_free) && eqb (lock t k).client c

-- THE VALUE BLOCK. PW and EX are the modes that may leave a value.
unfoldable pub strong : ℕ → Bool
strong m = leb 4 m

-- "Storing makes it valid."
unfoldable pub with_value : ℕ → List ℕ → Resource → Resource
with_value f v x =
    record {
      name = x.name;
      value = cond (stores f) v x.value;
      valid = cond (stores f) 1 (cond (spoils f) 0 x.valid);
      grant = x.grant;
      convert = x.convert;
      wait = x.wait;
    }

-- flags 1 and 2 act where the test says so, and are ignored otherwise
unfoldable pub leave_value : Bool → ℕ → List ℕ → ℕ → Tables → Tables
leave_value acts f v r t = elim acts [ true ↦ move_resource r (with_value f v (resource t r)) t | false ↦ t ]

-- MARKS. "a mark: the asked mode, or the larger of that and a mark it has". `move` puts a lock that had no notice at the end of the notice chain, and
-- leaves one that had in its place.
unfoldable pub larger : ℕ → ℕ → ℕ
larger a b = cond (leb a b) b a

unfoldable pub mark_lock : ℕ → ℕ → Tables → Tables
mark_lock m j t =
    let l = lock t j in
    move l.resource j (with_notice l.completion (larger m l.mark) l) t

unfoldable pub mark_locks : ℕ → List ℕ → Tables → Tables
mark_locks m [] t = t
mark_locks m (j ∷ js) t = mark_locks m js (mark_lock m j t)

-- the lock k has begun to wait: "each other lock there whose held mode is incompatible with the asked one gets a mark", "in grant, then convert chain
-- order". These are the locks by which it waits in the break rule too.
unfoldable pub tell_obstacles : ℕ → Tables → Tables
tell_obstacles k t = mark_locks (lock t k).asked (obstacles t k) t

-- REQUEST. "A new name takes a resource: value zeros, valid."
abbrev pub new_resource : List ℕ → Resource
new_resource n = record { name = n; value = no_value; valid = 1; grant = []; convert = []; wait = [] }

-- the first argument is the resource of that name, or 0: the resource that the lock will stand on, and the state that has that resource
unfoldable pub resource_for : ℕ → Tables → ℕ
resource_for zero t = first t.free_resources
resource_for (suc r) t = suc r

unfoldable pub with_resource : ℕ → List ℕ → Tables → Tables
with_resource zero n t = move_resource (first t.free_resources) (new_resource n) t
with_resource (suc r) n t = t

abbrev pub holding : ℕ → ℕ → ℕ → Lock
holding r c m = new_lock r c state_granted m 0

abbrev pub queued : ℕ → ℕ → ℕ → Lock
queued r c m = new_lock r c state_waiting 0 m

-- what a new request needs: "the convert chain is empty and the mode is compatible with every held mode", and since R-2 "the wait chain is empty as
-- well. NL is excepted, since it holds nobody up". A wait head needs less: `wait_grantable`.
unfoldable pub granted_at_once : Tables → ℕ → ℕ → Bool
granted_at_once t r m = null (resource t r).convert && (eqb m NL || null (resource t r).wait) && fits t r 0 m

-- the lock k is granted at once (answer 1); else it waits (2), and whoever is in its way is told
unfoldable pub request_on : ℕ → ℕ → ℕ → ℕ → Tables → Step
request_on r k c m t =
    elim (granted_at_once t r m) [
      | true ↦ accepted_step 1 k (move r k (holding r c m) t)
      | false ↦ accepted_step 2 k (tell_obstacles k (move r k (queued r c m) t))
    ]

unfoldable pub request_change : ℕ → ℕ → List ℕ → Tables → Step
request_change c m n t = request_on (resource_for (find n t) t) (first t.free_locks) c m (with_resource (find n t) n t)

-- a request of the mode m would be granted at once, on the resource r of its name; on a new name, r = 0, nobody is in its way
unfoldable pub at_once : ℕ → ℕ → Tables → Bool
at_once zero m t = true
at_once (suc r) m t = granted_at_once t (suc r) m

unfoldable pub request_refusal : ℕ → ℕ → ℕ → List ℕ → Tables → ℕ
request_refusal c m f n t =
    unless (client_right c) 3 (unless (leb m last_mode) 4 (unless (request_flags f) 5 (unless (name_right n) 6
    (unless (not (eqb (find n t) 0) || not (null t.free_resources)) 11 (unless (not (null t.free_locks)) 12
    (unless (not (no_queue f) || at_once (find n t) m t) 13 0))))))

unfoldable pub request : ℕ → ℕ → ℕ → List ℕ → Tables → Step
request c m f n t = refused_or (request_refusal c m f n t) (request_change c m n t) t

-- CONVERT
abbrev pub held_at : ℕ → Lock → Lock
held_at m l = changed_lock state_granted m 0 completion_none l

abbrev pub asking : ℕ → Lock → Lock
asking m l = changed_lock state_converting l.held m completion_none l

-- "Down: in place. Else, if the convert chain is empty and the mode is compatible with every other held mode, in place."
unfoldable pub in_place : ℕ → ℕ → Tables → Bool
in_place k m t =
    down (lock t k).held m || (null (resource t (lock t k).resource).convert && fits t (lock t k).resource k m)

unfoldable pub convert_change : ℕ → ℕ → ℕ → List ℕ → Tables → Step
convert_change k m f v t =
    let r = (lock t k).resource in
    elim (in_place k m t) [
      | true ↦ accepted_step 1 0 (sweep r (move r k (held_at m (lock t k)) (leave_value (strong (lock t k).held && ltb m (lock t k).held) f v r t)))
      | false ↦ accepted_step 2 0 (tell_obstacles k (move r k (asking m (lock t k)) t))
    ]

unfoldable pub convert_refusal : ℕ → ℕ → ℕ → ℕ → List ℕ → Tables → ℕ
convert_refusal c k m f v t =
    unless (client_right c) 3 (unless (leb m last_mode) 4 (unless (convert_flags f) 5 (unless (value_right f v) 7 (unless (own c k t) 8
    (unless (not (unread (lock t k))) 9 (unless (granted (lock t k)) 10 (unless (not (no_queue f) || in_place k m t) 13 0)))))))

unfoldable pub convert : ℕ → ℕ → ℕ → ℕ → List ℕ → Tables → Step
convert c k m f v t = refused_or (convert_refusal c k m f v t) (convert_change k m f v t) t

-- RELEASE
unfoldable pub release_change : ℕ → ℕ → List ℕ → Tables → Step
release_change k f v t =
    let r = (lock t k).resource in
    accepted_step 0 0 (settle r (free_lock k (leave_value (strong (lock t k).held) f v r t)))

unfoldable pub release_refusal : ℕ → ℕ → ℕ → List ℕ → Tables → ℕ
release_refusal c k f v t =
    unless (client_right c) 3 (unless (release_flags f) 5 (unless (value_right f v) 7 (unless (own c k t) 8
    (unless (not (unread (lock t k))) 9 (unless (granted (lock t k)) 10 0)))))

unfoldable pub release : ℕ → ℕ → ℕ → List ℕ → Tables → Step
release c k f v t = refused_or (release_refusal c k f v t) (release_change k f v t) t

-- CANCEL. Back on the grant chain at the mode it held, with a completion.
abbrev pub restored : ℕ → Lock → Lock
restored e l = changed_lock state_granted l.held 0 e l

unfoldable pub cancel_change : ℕ → Tables → Step
cancel_change k t =
    let r = (lock t k).resource in
    elim (converting (lock t k)) [
      | true ↦ accepted_step 1 0 (sweep r (move r k (restored completion_none (lock t k)) t))
      | false ↦ accepted_step 2 0 (sweep r (free_lock k t))
    ]

unfoldable pub cancel_refusal : ℕ → ℕ → Tables → ℕ
cancel_refusal c k t =
    unless (client_right c) 3 (unless (own c k t) 8 (unless (not (unread (lock t k))) 9 (unless (blocked_lock (lock t k)) 10 0)))

unfoldable pub cancel : ℕ → ℕ → Tables → Step
cancel c k t = refused_or (cancel_refusal c k t) (cancel_change k t) t

-- PURGE
unfoldable pub locks_of : ℕ → Tables → List ℕ
locks_of c t = keep (λ k. eqb (lock t k).client c) (from 1 (length t.locks))

-- freed with its notice; where it held PW or EX the resource becomes not valid, as flag 2 makes it
unfoldable pub purge_lock : ℕ → Tables → Tables
purge_lock k t = free_lock k (leave_value (strong (lock t k).held) 2 [] (lock t k).resource t)

unfoldable pub purge_locks : List ℕ → Tables → Tables
purge_locks [] t = t
purge_locks (k ∷ ks) t = purge_locks ks (purge_lock k t)

-- the client has a lock there
unfoldable pub stands_on : ℕ → Tables → ℕ → Bool
stands_on c t r = any (λ k. eqb (lock t k).client c) (holders t r ++ (resource t r).wait)

unfoldable pub settle_all : List ℕ → Tables → Tables
settle_all [] t = t
settle_all (r ∷ rs) t = settle_all rs (settle r t)

-- how many of the locks ks are so
unfoldable pub how_many : (Lock → Bool) → List ℕ → Tables → ℕ
how_many p ks t = length (keep (λ k. p (lock t k)) ks)

-- "Answers the count", and since R-3 "two more counts: locks purged while blocked, and with a completion unread". In sound tables no lock is both.
abbrev pub purge_counts : ℕ → Tables → Said
purge_counts c t = let ks = locks_of c t in accepted_with (length ks) (how_many blocked_lock ks t) (how_many unread ks t)

unfoldable pub purge_change : ℕ → Tables → Step
purge_change c t =
    record {
      said = purge_counts c t;
      tables = settle_all (keep (stands_on c t) (from 1 (length t.resources))) (purge_locks (locks_of c t) t);
    }

unfoldable pub purge_refusal : ℕ → ℕ
purge_refusal c = unless (client_right c) 3 0

unfoldable pub purge : ℕ → Tables → Step
purge c t = refused_or (purge_refusal c) (purge_change c t) t

-- BREAK
-- "Denied waiting: to the denied chain, completion 2. Denied converting: back to the grant chain, completion 3."
unfoldable pub deny : ℕ → Tables → Tables
deny k t =
    let r = (lock t k).resource in
    elim (converting (lock t k)) [
      | true ↦ sweep r (move r k (restored completion_conversion_denied (lock t k)) t)
      | false ↦ sweep r (move r k (denied_lock (lock t k)) t)
    ]

-- the denied lock is the answer, and stands as a lock's number too, as in any other answer
unfoldable pub deny_victim : ℕ → Tables → Step
deny_victim zero t = accepted_step 0 0 t
deny_victim (suc k) t = accepted_step (suc k) (suc k) (deny (suc k) t)

unfoldable pub break : Tables → Step
break t = deny_victim (victim t) t

-- POLL. It "answers the mark too and clears both".
abbrev pub notice_read : Lock → Lock
notice_read l = with_notice completion_none mark_none l

-- "Completion 2 frees the lock."
unfoldable pub take_notice : ℕ → Tables → Tables
take_notice k t =
    elim (eqb (lock t k).completion completion_denied) [
      | true ↦ free_lock k t
      | false ↦ move (lock t k).resource k (notice_read (lock t k)) t
    ]

unfoldable pub poll_notice : ℕ → Tables → Step
poll_notice zero t = accepted_step completion_none 0 t
poll_notice (suc k) t =
    let l = lock t (suc k) in
    record { said = accepted_with l.completion (suc k) l.mark; tables = take_notice (suc k) t }

unfoldable pub poll_change : ℕ → Tables → Step
poll_change c t = poll_notice (first_that (λ k. eqb (lock t k).client c) t.notices) t

unfoldable pub poll_refusal : ℕ → ℕ
poll_refusal c = unless (client_right c) 3 0

unfoldable pub poll : ℕ → Tables → Step
poll c t = refused_or (poll_refusal c) (poll_change c t) t
