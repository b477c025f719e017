use mathlib.Core.Bool.{not}
use mathlib.Core.Path.{ap}
use Prim.Native.Nat.{◌≤◌, ◌<◌}
use native.Mathlib.Omega.{arith}
use Rattle.tables.specs.Layout.{resources_in}
use Rattle.check_tables.proofs.ResourceSums.{left_start, left_unfit, left_wrong, left_free, left_used, left_few, left_end}
use Rattle.check_tables.proofs.queues.Goals as goal
use Rattle.check_tables.proofs.queues.Goals.{then-x-eq0, else-x-eq0+in_ok-found+then-r-resource, else-x-eq0+in_ok-found+else-r-resource}

pub loop-r-init : goal.loop-r-init
loop-r-init c = left_start _ _ _ _ c.requires.fine c.requires.others_bound

pub returns-then-not-resource_fine : goal.returns-then-not-resource_fine
returns-then-not-resource_fine c = left_unfit _ _ _ _ c.loop-r.invariant (omega arith) c.resource_fine.ensures (ap not c.if-not-resource_fine.true)

pub returns-in_err-found : goal.returns-in_err-found
returns-in_err-found c =
    rw c.from_residual.ensures (left_wrong _ _ _ _ c.loop-r.invariant (omega arith) (rw c.in_err-found.was at c.resource_walk.ensures))

-- the arms meet
pub loop-r-preserved : goal.loop-r-preserved
loop-r-preserved c =
    let loop = c.loop-r.invariant in
    let inside : c.loop-r.r ≤ resources_in c.args.words.now = omega arith in
    let fine = ap not c.if-not-resource_fine.false in
    elim c.if-x-eq0.branch [
      | then-x-eq0 w ↦
          left_free _ _ _ _ loop c.requires.fine inside c.resource_fine.ensures fine c.if-n-met.false c.row_at-x.ensures w.if-x-eq0.true w.met-is w.blocked-is w.noticed-is w.free-is
      | else-x-eq0+in_ok-found+then-r-resource w ↦
          left_used _ _ _ _ loop c.requires.fine inside c.resource_fine.ensures fine c.if-n-met.false c.row_at-x.ensures w.if-x-eq0.false (rw w.in_ok-found.was at w.resource_walk.ensures) w.met-is w.blocked-is w.noticed-is w.free-is
      | else-x-eq0+in_ok-found+else-r-resource w ↦
          left_used _ _ _ _ loop c.requires.fine inside c.resource_fine.ensures fine c.if-n-met.false c.row_at-x.ensures w.if-x-eq0.false (rw w.in_ok-found.was at w.resource_walk.ensures) w.met-is w.blocked-is w.noticed-is w.free-is
    ]

pub returns-then-met-n : goal.returns-then-met-n
returns-then-met-n c =
    let past : resources_in c.args.words.now < c.loop-r.r = omega arith in
    left_few _ _ _ _ c.loop-r.invariant past c.if-met-n.true

pub returns : goal.returns
returns c =
    let past : resources_in c.args.words.now < c.loop-r.r = omega arith in
    left_end _ _ _ _ c.loop-r.invariant past c.if-met-n.false
