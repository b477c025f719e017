use Rattle.std.proofs.Common.{arith, refl}
use Rattle.deadlock_search.proofs.SearchSteps.{follow_hit, follow_place, follow_seen, follow_depth, follow_searches, follow_deeper, search_deep, search_row, search_follows, search_ahead, search_enters, search_whole, owners_row, turning_starts, turn_list, turn_follows, turn_found, turn_stops, turn_ends, stop_some, turn_less, turn_again, turning_done}
use Rattle.deadlock_search.proofs.+follow_follow_owners_search.Goals as goal

pub follow-returns-then-b-target : goal.follow-returns-then-b-target
follow-returns-then-b-target t c = follow_hit c.requires c.if-b-eq0.false c.if-b-target.true

pub follow-bounds-marks-b : goal.follow-bounds-marks-b
follow-bounds-marks-b t c = follow_place c.requires c.if-b-eq0.false

pub follow-returns-then-marks-b : goal.follow-returns-then-marks-b
follow-returns-then-marks-b t c = follow_seen c.requires c.if-b-eq0.false c.if-marks-b.true

pub follow-bounds-marks-b-2 : goal.follow-bounds-marks-b-2
follow-bounds-marks-b-2 t c = follow_place c.requires c.if-b-eq0.false

pub follow-overflow_sub-depth : goal.follow-overflow_sub-depth
follow-overflow_sub-depth t c = follow_depth c.requires c.if-b-eq0.false c.if-b-target.false c.if-marks-b.false

pub follow-search-requires : goal.follow-search-requires
follow-search-requires t c = (
  omega (arith, c.decreases, follow_depth c.requires c.if-b-eq0.false c.if-b-target.false c.if-marks-b.false),
  follow_searches c.requires c.if-b-eq0.false c.if-b-target.false c.if-marks-b.false,
)

pub follow-returns : goal.follow-returns
follow-returns t c = follow_deeper c.requires c.if-b-eq0.false c.if-b-target.false c.if-marks-b.false c.search.ensures

pub follow_owners-link-at-requires-clause-field_in_bounds :
    goal.follow_owners-link-at-requires-clause-field_in_bounds
follow_owners-link-at-requires-clause-field_in_bounds t c = owners_row c.requires

pub follow_owners-loop-j-init : goal.follow_owners-loop-j-init
follow_owners-loop-j-init t c = turning_starts c.requires c.link-at.ensures

pub follow_owners-seek-requires : goal.follow_owners-seek-requires
follow_owners-seek-requires t c = c.loop-j.invariant.look

pub follow_owners-first_of-b-requires : goal.follow_owners-first_of-b-requires
follow_owners-first_of-b-requires t c = turn_list (turn_stops c.loop-j.invariant c.in-Some.ensures) (stop_some c.in-Some.ensures)

pub follow_owners-follow-requires : goal.follow_owners-follow-requires
follow_owners-follow-requires t c =
    (omega (arith, c.decreases), turn_follows (turn_stops c.loop-j.invariant c.in-Some.ensures) (stop_some c.in-Some.ensures) c.first_of-b.ensures)

pub follow_owners-returns-then-follow : goal.follow_owners-returns-then-follow
follow_owners-returns-then-follow t c =
    turn_found (turn_stops c.loop-j.invariant c.in-Some.ensures) (stop_some c.in-Some.ensures) c.first_of-b.ensures c.follow.ensures c.if-follow.true

pub follow_owners-loop-j-smaller : goal.follow_owners-loop-j-smaller
follow_owners-loop-j-smaller t c =
    turn_less (turn_stops c.loop-j.invariant c.in-Some.ensures) (stop_some c.in-Some.ensures) c.first_of-b.ensures c.follow.ensures c.if-follow.false

pub follow_owners-loop-j-preserved : goal.follow_owners-loop-j-preserved
follow_owners-loop-j-preserved t c =
    turn_again (turn_stops c.loop-j.invariant c.in-Some.ensures) (stop_some c.in-Some.ensures) c.first_of-b.ensures c.follow.ensures c.if-follow.false

pub follow_owners-returns : goal.follow_owners-returns
follow_owners-returns t c = turning_done (turn_ends c.loop-j.invariant c.in_default.ensures) refl

pub search-returns-then-depth-eq0 : goal.search-returns-then-depth-eq0
search-returns-then-depth-eq0 t c = absurd (search_deep c.requires c.if-depth-eq0.true)

pub search-link-requires-clause-field_in_bounds : goal.search-link-requires-clause-field_in_bounds
search-link-requires-clause-field_in_bounds t c = search_row c.requires

pub search-follow-requires : goal.search-follow-requires
search-follow-requires t c = (omega (arith, c.decreases), search_follows c.requires c.link.ensures)

pub search-returns-then-follow : goal.search-returns-then-follow
search-returns-then-follow t c = search_ahead c.requires c.link.ensures c.follow.ensures c.if-follow.true

pub search-follow_owners-requires : goal.search-follow_owners-requires
search-follow_owners-requires t c =
    (omega (arith, c.decreases), search_enters c.requires c.link.ensures c.follow.ensures c.if-follow.false)

pub search-returns : goal.search-returns
search-returns t c = search_whole c.requires c.link.ensures c.follow.ensures c.if-follow.false c.follow_owners.ensures
