-- The bench sequences that document 01 marks M, as one table of calls and what each answers, with the marks that polls show since R-1. Every completion
-- is polled before the next step.
use Rattle.std.specs.Prelude.{◌≡◌, Bool, true, ◌&&◌, List, [], ◌∷◌, ℕ, replicate, eqb}
use Rattle.modes.specs.Modes.{NL, CR, CW, PR, PW, EX}
use Rattle.tables.specs.Lists.{same}
use Rattle.tables.specs.State.{no_value, value_width}
use Rattle.rules.specs.Calls.{Said, accepted, accepted_with, refused}
use Rattle.rules.specs.Entries.{Lent, Call, to_request, to_convert, to_release, to_cancel, to_purge, to_break, to_poll, call_entry, start_entry, Reading, read_entry}

-- a line: a call and what it says; or a read and the value and validity that it gives
pub data BenchLine : Type 0 where
  calls : Call → Said → BenchLine
  reads : (client number : ℕ) → (value : List ℕ) → (valid : ℕ) → BenchLine

abbrev pub says : Call → ℕ → ℕ → BenchLine
says c a k = calls c (accepted a k)

abbrev pub refuses : Call → ℕ → BenchLine
refuses c n = calls c (refused n)

unfoldable pub said_right : Said → Said → Bool
said_right x y =
    eqb x.refusal y.refusal && (eqb x.answer y.answer && (eqb x.number y.number && eqb x.extra y.extra))

unfoldable pub reading_right : List ℕ → ℕ → Reading → Bool
reading_right v b x = eqb x.refusal 0 && (same x.value v && eqb x.valid b)

-- the entries answer so, line by line
abbrev pub line_right : BenchLine → Lent → Bool
line_right (calls c x) t = said_right x (call_entry c t).said
line_right (reads c k v b) t = reading_right v b (read_entry t.words t.slots c k)

abbrev pub after_line : BenchLine → Lent → Lent
after_line (calls c x) t = (call_entry c t).lent_after
after_line (reads c k v b) t = t

unfoldable pub lines_right : List BenchLine → Lent → Bool
lines_right [] t = true
lines_right (x ∷ xs) t = line_right x t && lines_right xs (after_line x t)

unfoldable pub all_right : List (List BenchLine) → Lent → Bool
all_right [] t = true
all_right (xs ∷ xss) t = lines_right xs t && all_right xss t

-- names
abbrev pub name_a : List ℕ
name_a = 65 ∷ []

abbrev pub name_b : List ℕ
name_b = 66 ∷ []

-- the client c requests the mode m; converts its lock k; releases it; has no notice, or that k is granted; ..
abbrev pub requests_a : ℕ → ℕ → Call
requests_a c m = to_request c m 0 name_a

abbrev pub requests_b : ℕ → ℕ → Call
requests_b c m = to_request c m 0 name_b

abbrev pub converts_to : ℕ → ℕ → ℕ → Call
converts_to c k m = to_convert c k m 0 []

abbrev pub gives_up : ℕ → ℕ → Call
gives_up c k = to_release c k 0 []

abbrev pub hears_nothing : ℕ → BenchLine
hears_nothing c = says (to_poll c) 0 0

abbrev pub hears_granted : ℕ → ℕ → BenchLine
hears_granted c k = says (to_poll c) 1 k

-- .. or that k is in the way of the mode m, without a completion or with one
abbrev pub hears_both : ℕ → ℕ → ℕ → ℕ → BenchLine
hears_both c e k m = calls (to_poll c) (accepted_with e k m)

abbrev pub hears_mark : ℕ → ℕ → ℕ → BenchLine
hears_mark c k m = hears_both c 0 k m

-- the client c is purged: how many locks, how many of them blocked, how many with a completion unread
abbrev pub purges : ℕ → ℕ → ℕ → ℕ → BenchLine
purges c n b u = calls (to_purge c) (accepted_with n b u)

-- M: PR, PR; lock 1 to CW answers 2
abbrev pub shared_to_concurrent : List BenchLine
shared_to_concurrent =
    says (requests_a 1 PR) 1 1 ∷ says (requests_a 2 PR) 1 2 ∷ says (converts_to 1 1 CW) 2 0 ∷ hears_mark 2 2 CW ∷ hears_nothing 1 ∷ []

-- M: PR held, CW waits; lock 1 to CW answers 1, lock 2 is granted
abbrev pub alone_to_concurrent : List BenchLine
alone_to_concurrent =
    says (requests_a 1 PR) 1 1 ∷ says (requests_a 2 CW) 2 2 ∷ hears_mark 1 1 CW ∷ says (converts_to 1 1 CW) 1 0 ∷ hears_granted 2 2 ∷ hears_nothing 2
    ∷ hears_nothing 1 ∷ []

-- M: EX held; CR waits; flag 4 instead gives 13
abbrev pub reader_waits : List BenchLine
reader_waits = says (requests_a 1 EX) 1 1 ∷ says (requests_a 2 CR) 2 2 ∷ hears_mark 1 1 CR ∷ hears_nothing 1 ∷ []

abbrev pub reader_declines : List BenchLine
reader_declines = says (requests_a 1 EX) 1 1 ∷ refuses (to_request 2 CR 4 name_a) 13 ∷ hears_nothing 1 ∷ []

-- M: NL beside EX is granted
abbrev pub null_beside_exclusive : List BenchLine
null_beside_exclusive = says (requests_a 1 EX) 1 1 ∷ says (requests_a 2 NL) 1 2 ∷ hears_nothing 1 ∷ []

-- M: one client, EX then EX on one name: break answers 2
abbrev pub own_deadlock : List BenchLine
own_deadlock =
    says (requests_a 1 EX) 1 1 ∷ says (requests_a 1 EX) 2 2 ∷ says to_break 2 2 ∷ hears_mark 1 1 EX ∷ says (to_poll 1) 2 2 ∷ hears_nothing 1 ∷ []

-- M: 1 holds A, 2 holds B (EX), 1 requests B, 2 requests A: break answers 3, then 0
abbrev pub crossed_deadlock : List BenchLine
crossed_deadlock =
    says (requests_a 1 EX) 1 1 ∷ says (requests_b 2 EX) 1 2 ∷ says (requests_b 1 EX) 2 3 ∷ says (requests_a 2 EX) 2 4
    ∷ says to_break 3 3 ∷ hears_mark 1 1 EX ∷ says (to_poll 1) 2 3 ∷ hears_mark 2 2 EX ∷ says to_break 0 0 ∷ []

-- M (guide 2.3.9): PW held; three NL convert to EX, PW, CR; CR, PR, CR wait. Lock 1 to CR: nothing moves. Release 1: lock 2 has EX.
-- Lock 2 to NL: 3, 4, 5 granted; 6, 7 wait. Release 4, 5: nothing. Release 3: 6 and 7 granted.
abbrev pub guide : List BenchLine
guide =
    says (requests_a 1 PW) 1 1 ∷ says (requests_a 2 NL) 1 2 ∷ says (requests_a 3 NL) 1 3 ∷ says (requests_a 4 NL) 1 4
    ∷ says (converts_to 2 2 EX) 2 0 ∷ says (converts_to 3 3 PW) 2 0 ∷ says (converts_to 4 4 CR) 2 0
    ∷ says (requests_a 5 CR) 2 5 ∷ says (requests_a 6 PR) 2 6 ∷ says (requests_a 7 CR) 2 7
    ∷ hears_mark 1 1 EX ∷ says (converts_to 1 1 CR) 1 0 ∷ hears_nothing 2 ∷ hears_nothing 3 ∷ hears_nothing 4 ∷ hears_nothing 5 ∷ hears_nothing 6 ∷ hears_nothing 7
    ∷ says (gives_up 1 1) 0 0 ∷ hears_granted 2 2 ∷ hears_nothing 3 ∷ hears_nothing 4 ∷ hears_nothing 5 ∷ hears_nothing 6 ∷ hears_nothing 7
    ∷ says (converts_to 2 2 NL) 1 0 ∷ hears_nothing 2 ∷ hears_granted 3 3 ∷ hears_granted 4 4 ∷ hears_granted 5 5 ∷ hears_nothing 6 ∷ hears_nothing 7
    ∷ says (gives_up 4 4) 0 0 ∷ hears_nothing 6 ∷ hears_nothing 7
    ∷ says (gives_up 5 5) 0 0 ∷ hears_nothing 6 ∷ hears_nothing 7
    ∷ says (gives_up 3 3) 0 0 ∷ hears_granted 6 6 ∷ hears_granted 7 7 ∷ hears_nothing 2 ∷ []

-- M: names of 64 and 65 bytes: accepted, 6. M: mode 5, 6: accepted, 4.
abbrev pub long_names : List BenchLine
long_names = says (to_request 1 EX 0 (replicate 64 65)) 1 1 ∷ refuses (to_request 1 EX 0 (replicate 65 65)) 6 ∷ []

abbrev pub high_modes : List BenchLine
high_modes = says (requests_a 1 5) 1 1 ∷ refuses (requests_a 1 6) 4 ∷ []

-- THE M TABLE
abbrev pub bench : List (List BenchLine)
bench =
    shared_to_concurrent ∷ alone_to_concurrent ∷ reader_waits ∷ reader_declines ∷ null_beside_exclusive ∷ own_deadlock ∷ crossed_deadlock
    ∷ guide ∷ long_names ∷ high_modes ∷ []

-- BESIDE THE M TABLE: what document 01's impostors and mistakes get wrong
abbrev pub requests_c : ℕ → ℕ → Call
requests_c c m = to_request c m 0 (67 ∷ [])

abbrev pub requests_d : ℕ → ℕ → Call
requests_d c m = to_request c m 0 (68 ∷ [])

-- a cancel sweeps: the request behind the cancelled one is granted; lock 1's mark has outlasted its conversion and the request that it kept waiting
abbrev pub cancel_sweeps : List BenchLine
cancel_sweeps =
    says (requests_a 1 PR) 1 1 ∷ says (requests_a 2 EX) 2 2 ∷ says (requests_a 3 CW) 2 3 ∷ says (converts_to 1 1 CW) 1 0 ∷ hears_nothing 3
    ∷ says (to_cancel 2 2) 2 0 ∷ hears_granted 3 3 ∷ hears_mark 1 1 EX ∷ []

-- a conversion that is taken back leaves no completion: its lock may be released
abbrev pub cancel_is_silent : List BenchLine
cancel_is_silent =
    says (requests_a 1 PR) 1 1 ∷ says (requests_a 2 PR) 1 2 ∷ says (converts_to 1 1 EX) 2 0 ∷ says (to_cancel 1 1) 1 0 ∷ hears_nothing 1 ∷ says (gives_up 1 1) 0 0
    ∷ []

-- every release sweeps, the second too, while the first one's notice is unread; a mark stops none
abbrev pub releases_sweep : List BenchLine
releases_sweep =
    says (requests_a 1 EX) 1 1 ∷ says (requests_a 2 EX) 2 2 ∷ says (requests_b 1 EX) 1 3 ∷ says (requests_b 3 EX) 2 4
    ∷ says (gives_up 1 1) 0 0 ∷ says (gives_up 1 3) 0 0 ∷ hears_granted 2 2 ∷ hears_granted 3 4 ∷ []

-- lock 4 was blocked first, but only waits behind the cycle of locks 5 and 6: it is lock 5 that is denied
abbrev pub behind_the_cycle : List BenchLine
behind_the_cycle =
    says (requests_a 1 EX) 1 1 ∷ says (requests_b 2 EX) 1 2 ∷ says (requests_c 1 EX) 1 3 ∷ says (requests_c 3 EX) 2 4
    ∷ says (requests_b 1 EX) 2 5 ∷ says (requests_a 2 EX) 2 6 ∷ says to_break 5 5 ∷ hears_mark 1 3 EX ∷ hears_mark 1 1 EX
    ∷ says (to_poll 1) 2 5 ∷ says to_break 0 0 ∷ []

-- a purge counts locks, and not the resources where they stood
abbrev pub purge_counts_locks : List BenchLine
purge_counts_locks = says (requests_a 1 NL) 1 1 ∷ says (requests_a 1 NL) 1 2 ∷ purges 1 2 0 0 ∷ purges 1 0 0 0 ∷ []

-- of client 2's six locks three are blocked, 2 converting, 4 and 8 waiting; two have a completion unread, 6 granted and 7 denied; 5 has a mark alone
abbrev pub purge_counts_all : List BenchLine
purge_counts_all =
    says (requests_a 1 PR) 1 1 ∷ says (requests_a 2 NL) 1 2 ∷ says (converts_to 2 2 EX) 2 0 ∷ says (requests_b 1 EX) 1 3 ∷ says (requests_b 2 EX) 2 4
    ∷ says (requests_c 1 EX) 1 5 ∷ says (requests_c 2 CR) 2 6 ∷ says (gives_up 1 5) 0 0 ∷ says (requests_d 2 PR) 1 5 ∷ says (requests_d 2 EX) 2 7
    ∷ says to_break 7 7 ∷ says (requests_b 2 EX) 2 8 ∷ purges 2 6 3 2 ∷ purges 2 0 0 0 ∷ refuses (to_purge 0) 3 ∷ []

-- flags 1 and 2 act from PW and EX to a smaller mode, and are ignored on the way up; storing makes the value valid
abbrev pub sevens : List ℕ
sevens = replicate value_width 7

abbrev pub nines : List ℕ
nines = replicate value_width 9

abbrev pub flags_act : List BenchLine
flags_act =
    says (requests_a 1 EX) 1 1 ∷ says (requests_a 2 NL) 1 2 ∷ reads 2 2 no_value 1
    ∷ says (to_convert 1 1 PW 1 sevens) 1 0 ∷ reads 2 2 sevens 1
    ∷ says (to_convert 1 1 EX 2 []) 1 0 ∷ reads 2 2 sevens 1
    ∷ says (to_convert 1 1 NL 2 []) 1 0 ∷ reads 2 2 sevens 0
    ∷ says (to_convert 1 1 EX 1 nines) 1 0 ∷ reads 2 2 sevens 0
    ∷ says (to_release 1 1 1 nines) 0 0 ∷ reads 2 2 nines 1 ∷ []

-- a release from a mode below PW leaves the value alone
abbrev pub reader_leaves_no_value : List BenchLine
reader_leaves_no_value =
    says (requests_a 1 PR) 1 1 ∷ says (requests_a 2 NL) 1 2 ∷ says (to_release 1 1 1 nines) 0 0 ∷ reads 2 2 no_value 1 ∷ []

-- a purge makes the value not valid where its client held PW or EX
abbrev pub purge_spoils : List BenchLine
purge_spoils =
    says (requests_a 1 PW) 1 1 ∷ says (requests_a 2 NL) 1 2 ∷ says (requests_b 1 PR) 1 3 ∷ says (requests_b 2 NL) 1 4
    ∷ purges 1 2 0 0 ∷ reads 2 2 no_value 0 ∷ reads 2 4 no_value 1 ∷ []

-- a sweep's notices are in the order granted: the conversion, lock 2, before the request, lock 3, that was blocked first
abbrev pub notices_in_order : List BenchLine
notices_in_order =
    says (requests_a 1 EX) 1 1 ∷ says (requests_a 2 NL) 1 2 ∷ says (requests_a 2 CR) 2 3 ∷ says (converts_to 2 2 PR) 2 0
    ∷ says (gives_up 1 1) 0 0 ∷ hears_granted 2 2 ∷ hears_granted 2 3 ∷ hears_nothing 2 ∷ []

-- a raised mark leaves its lock in its place; it is polled once; and a mark goes with its lock
abbrev pub raised_in_place : List BenchLine
raised_in_place =
    says (requests_a 1 PR) 1 1 ∷ says (requests_b 1 PR) 1 2 ∷ says (requests_a 2 CW) 2 3 ∷ says (requests_b 2 CW) 2 4 ∷ says (requests_a 3 EX) 2 5
    ∷ hears_mark 1 1 EX ∷ hears_mark 1 2 CW ∷ hears_nothing 1 ∷ says (requests_b 3 EX) 2 6 ∷ says (gives_up 1 2) 0 0 ∷ hears_nothing 1 ∷ []

-- a converting lock is told too, after the granted ones, and hears of its mark with its completion
abbrev pub converting_told : List BenchLine
converting_told =
    says (requests_a 1 PR) 1 1 ∷ says (requests_a 2 PR) 1 2 ∷ says (requests_a 1 PR) 1 3 ∷ says (converts_to 1 1 EX) 2 0 ∷ hears_mark 1 3 EX ∷ hears_mark 2 2 EX
    ∷ says (requests_a 3 CW) 2 4 ∷ hears_mark 2 2 CW ∷ says (gives_up 2 2) 0 0 ∷ hears_mark 1 3 CW ∷ says (gives_up 1 3) 0 0
    ∷ hears_both 1 1 1 CW ∷ hears_nothing 1 ∷ []

-- while an editor waits no reader is granted past it, and flag 4 is refused; NL passes; who waits is granted in the order in which they came
abbrev pub behind_the_editor : List BenchLine
behind_the_editor =
    says (requests_a 1 PR) 1 1 ∷ says (requests_a 2 EX) 2 2 ∷ refuses (to_request 3 PR 4 name_a) 13 ∷ says (requests_a 3 PR) 2 3
    ∷ says (requests_a 4 NL) 1 4 ∷ says (to_request 4 NL 4 name_a) 1 5 ∷ says (gives_up 1 1) 0 0 ∷ hears_granted 2 2 ∷ hears_nothing 3
    ∷ says (gives_up 2 2) 0 0 ∷ hears_granted 3 3 ∷ []

-- behind a conversion NL waits too; one sweep grants both
abbrev pub null_behind_a_conversion : List BenchLine
null_behind_a_conversion =
    says (requests_a 1 PR) 1 1 ∷ says (requests_a 2 PR) 1 2 ∷ says (converts_to 1 1 EX) 2 0 ∷ refuses (to_request 3 NL 4 name_a) 13
    ∷ says (requests_a 3 NL) 2 3 ∷ says (gives_up 2 2) 0 0 ∷ hears_granted 1 1 ∷ hears_granted 3 3 ∷ []

-- 11 before 12: neither a resource nor a lock is left
abbrev pub no_record_left : List BenchLine
no_record_left =
    says (requests_a 1 NL) 1 1 ∷ says (requests_b 1 NL) 1 2 ∷ says (requests_c 1 NL) 1 3 ∷ says (requests_d 1 NL) 1 4
    ∷ says (requests_a 1 NL) 1 5 ∷ says (requests_a 1 NL) 1 6 ∷ says (requests_a 1 NL) 1 7 ∷ says (requests_a 1 NL) 1 8
    ∷ refuses (to_request 1 NL 0 (69 ∷ [])) 11 ∷ refuses (requests_a 1 NL) 12 ∷ []

abbrev pub mistakes : List (List BenchLine)
mistakes =
    cancel_sweeps ∷ cancel_is_silent ∷ releases_sweep ∷ behind_the_cycle ∷ purge_counts_locks ∷ purge_counts_all ∷ flags_act ∷ reader_leaves_no_value ∷ purge_spoils ∷ notices_in_order
    ∷ raised_in_place ∷ converting_told ∷ behind_the_editor ∷ null_behind_a_conversion ∷ no_record_left ∷ []

-- each sequence starts on fresh tables with R 4, L 8, whatever was in them
abbrev pub fresh : Lent → Lent
fresh t = (start_entry t 4 8).lent_after

-- THE M TABLE HOLDS, and what stands beside it: proved as `bench_holds` and `mistakes_hold`
abbrev pub Answered : List (List BenchLine) → Type 0
Answered xss = (t : Lent) → (start_entry t 4 8).said.refusal ≡ 0 → all_right xss (fresh t) ≡ true

abbrev pub BenchHolds : Type 0
BenchHolds = Answered bench

abbrev pub MistakesHold : Type 0
MistakesHold = Answered mistakes
