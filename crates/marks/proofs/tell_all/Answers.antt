use native.Mathlib.Omega.{arith}
use Rattle.marks.proofs.ToldQueues.{begun_there, begun_after, begun_hears, begun_hears_on, begun_told, begun_reads}
use Rattle.marks.proofs.tell_all.Goals as goal

pub lock_word-r-requires : goal.lock_word-r-requires
lock_word-r-requires c = search begun_reads

pub resource_word-granted-requires : goal.resource_word-granted-requires
resource_word-granted-requires c = search begun_reads

pub tell_each-last-requires-clause-hearing : goal.tell_each-last-requires-clause-hearing
tell_each-last-requires-clause-hearing c =
    let s = c.requires in
    begun_hears _ _ _ c.lock_word-r.ensures _ c.resource_word-granted.ensures s

pub resource_word-converting-requires-clause-sized : goal.resource_word-converting-requires-clause-sized
resource_word-converting-requires-clause-sized c =
    let s = c.requires in
    let e = c.lock_word-r.ensures in
    c.tell_each-last.ensures.kept.sized

pub resource_word-converting-requires-clause-le_r : goal.resource_word-converting-requires-clause-le_r
resource_word-converting-requires-clause-le_r c =
    let s = c.requires in
    let e = c.lock_word-r.ensures in
    (begun_there _ _ _ e s, begun_after _ _ _ e s _ c.tell_each-last.ensures.kept)

pub resource_word-converting-requires-clause-field_lt_resource_width : goal.resource_word-converting-requires-clause-field_lt_resource_width
resource_word-converting-requires-clause-field_lt_resource_width c =
    let s = c.requires in
    let e = c.lock_word-r.ensures in
    omega arith

pub tell_each-requires-clause-hearing : goal.tell_each-requires-clause-hearing
tell_each-requires-clause-hearing c =
    let s = c.requires in begun_hears_on _ _ _ c.lock_word-r.ensures _ c.resource_word-granted.ensures _ c.tell_each-last.ensures.heard _ c.resource_word-converting.ensures s

pub returns : goal.returns
returns c =
    begun_told _ _ _ c.lock_word-r.ensures _ c.resource_word-granted.ensures _ c.tell_each-last.ensures.heard _ c.resource_word-converting.ensures _ c.tell_each.ensures.heard
