-- The M table holds: the entries answer as document 01's bench sequences say. Computed on states, and carried over by the law that entries on the
-- written form of a valid state give what the rules say of it.
use mathlib.Core.Path.{◌≡◌, refl, ap, ◌∙◌}
use mathlib.Core.Bool.{Bool, true, ◌&&◌}
use mathlib.Core.List.{List, [], ◌∷◌}
use Prim.Native.Nat.{ℕ}
use Rattle.modes.specs.Modes.{matrix, compatible, all_modes, down}
use Rattle.tables.specs.Lists.{remove, all, any, keep, first_that, same}
use Rattle.tables.specs.State.{Tables, no_value, lock, resource, started, shift, shift_front, relist, move, move_resource}
use Rattle.tables.specs.Layout.{words, slots}
use Rattle.tables.specs.Grants.{holders, fits, convert_grantable, wait_grantable, empty}
use Rattle.tables.specs.Sound.{client_right}
use Rattle.tables.proofs.ReadBack.{tables_read}
use Rattle.tables.specs.Validity.{Valid}
use Rattle.tables.proofs.Written.{valid_readable, valid_sound}
use Rattle.rules.specs.Walks.{reaches}
use Rattle.rules.specs.Queues.{granted_lock, grant_lock, grant_while, grant_converts, grant_waits, sweep, free_lock, settle, find}
use Rattle.rules.specs.Deadlock.{before, ahead, in_the_way, obstacles, leads, deadlocked, victim}
use Rattle.rules.specs.Calls.{unless, refused_or, stores, spoils, no_queue, request_flags, convert_flags, release_flags, name_right, value_right, own, strong, with_value, leave_value, larger, mark_lock, mark_locks, tell_obstacles, resource_for, with_resource, granted_at_once, request_on, request_change, at_once, request_refusal, request, in_place, convert_change, convert_refusal, convert, release_change, release_refusal, release, cancel_change, cancel_refusal, cancel, locks_of, purge_lock, purge_locks, stands_on, settle_all, how_many, purge_change, purge_refusal, purge, deny, deny_victim, break, take_notice, poll_notice, poll_change, poll_refusal, poll}
use Rattle.rules.specs.Entries.{Lent, lent_of, Outcome, step_of, look_refusal, read_value, read_if, read_entry}
use Rattle.rules.specs.Bench.{BenchLine, calls, reads, said_right, reading_right, line_right, after_line, lines_right, all_right, bench, mistakes, Answered, BenchHolds, MistakesHold}
use Rattle.rules.proofs.EveryCall.{stepped}
use Rattle.rules.proofs.QueueTheorem.{outcome_is, from_start}

-- the same on states
abbrev state_line : BenchLine → Tables → Bool
state_line (calls c x) t = said_right x (step_of c t).said
state_line (reads c k v b) t = reading_right v b (read_value (look_refusal c k t) (lock t k).resource t)

abbrev state_after : BenchLine → Tables → Tables
state_after (calls c x) t = (step_of c t).tables
state_after (reads c k v b) t = t

unfoldable state_lines : List BenchLine → Tables → Bool
state_lines [] t = true
state_lines (x ∷ xs) t = state_line x t && state_lines xs (state_after x t)

unfoldable state_all : List (List BenchLine) → Tables → Bool
state_all [] t = true
state_all (xs ∷ xss) t = state_lines xs t && state_all xss t

computed : state_all bench (started 4 8) ≡ true
unfolding state_all state_lines said_right reading_right read_value look_refusal started no_value lock resource shift shift_front relist move move_resource remove all any keep first_that same holders fits convert_grantable wait_grantable empty client_right reaches granted_lock grant_lock grant_while grant_converts grant_waits sweep free_lock settle find before ahead in_the_way obstacles leads deadlocked victim unless refused_or stores spoils no_queue request_flags convert_flags release_flags name_right value_right own strong with_value leave_value larger mark_lock mark_locks tell_obstacles resource_for with_resource granted_at_once request_on request_change at_once request_refusal request in_place convert_change convert_refusal convert release_change release_refusal release cancel_change cancel_refusal cancel locks_of purge_lock purge_locks stands_on settle_all how_many purge_change purge_refusal purge deny deny_victim break take_notice poll_notice poll_change poll_refusal poll matrix compatible all_modes down
computed = refl

mistakes_computed : state_all mistakes (started 4 8) ≡ true
unfolding state_all state_lines said_right reading_right read_value look_refusal started no_value lock resource shift shift_front relist move move_resource remove all any keep first_that same holders fits convert_grantable wait_grantable empty client_right reaches granted_lock grant_lock grant_while grant_converts grant_waits sweep free_lock settle find before ahead in_the_way obstacles leads deadlocked victim unless refused_or stores spoils no_queue request_flags convert_flags release_flags name_right value_right own strong with_value leave_value larger mark_lock mark_locks tell_obstacles resource_for with_resource granted_at_once request_on request_change at_once request_refusal request in_place convert_change convert_refusal convert release_change release_refusal release cancel_change cancel_refusal cancel locks_of purge_lock purge_locks stands_on settle_all how_many purge_change purge_refusal purge deny deny_victim break take_notice poll_notice poll_change poll_refusal poll matrix compatible all_modes down
mistakes_computed = refl

-- a read of the written form of a valid state gives what the state has
read_is : (c k : ℕ) (t : Tables) → Valid t → read_entry (words t) (slots t) c k ≡ read_value (look_refusal c k t) (lock t k).resource t
unfolding read_entry read_if
read_is c k t val = rw (valid_sound t val, read_if, tables_read t (valid_readable t val))

line_is : (x : BenchLine) (t : Tables) → Valid t → line_right x (lent_of t) ≡ state_line x t
line_is (calls c x) t val = ap (λ (o : Outcome). said_right x o.said) (outcome_is c t val)
line_is (reads c k v b) t val = ap (reading_right v b) (read_is c k t val)

after_line_is : (x : BenchLine) (t : Tables) → Valid t → after_line x (lent_of t) ≡ lent_of (state_after x t)
after_line_is (calls c x) t val = ap (λ (o : Outcome). o.lent_after) (outcome_is c t val)
after_line_is (reads c k v b) t val = refl

after_line_valid : (x : BenchLine) (t : Tables) → Valid t → Valid (state_after x t)
after_line_valid (calls c x) t val = (stepped c t val).valid
after_line_valid (reads c k v b) t val = val

lines_are : (xs : List BenchLine) (t : Tables) → Valid t → lines_right xs (lent_of t) ≡ state_lines xs t
unfolding lines_right state_lines
lines_are [] t val = refl
lines_are (x ∷ xs) t val = rw (line_is x t val, after_line_is x t val, lines_are xs (state_after x t) (after_line_valid x t val))

all_are : (xss : List (List BenchLine)) (t : Tables) → Valid t → all_right xss (lent_of t) ≡ state_all xss t
unfolding all_right state_all
all_are [] t val = refl
all_are (xs ∷ xss) t val = rw (lines_are xs t val, all_are xss t val)

-- what holds of the sequences on states holds of them on the tables that `start` leaves
answered : (xss : List (List BenchLine)) → state_all xss (started 4 8) ≡ true → Answered xss
answered xss h = from_start (λ (u : Lent). all_right xss u ≡ true) 4 8 (λ val. all_are xss (started 4 8) val ∙ h)

pub bench_holds : BenchHolds
bench_holds = answered bench computed

pub mistakes_hold : MistakesHold
mistakes_hold = answered mistakes mistakes_computed
