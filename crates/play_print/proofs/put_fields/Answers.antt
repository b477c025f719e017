-- `put_fields`: each turn writes one number more.
use Rattle.play_print.proofs.BufferWrites.{fields_start, fields_room, fields_next, fields_end}
use Rattle.play_print.proofs.put_fields.Goals as goal

pub loop-n-init : goal.loop-n-init
loop-n-init c =
    rw (c.into_iter-n-iterator.ensures.into_iter_gives, c.take-n-items.ensures.source, c.take-n-items.ensures.count, c.iter.ensures.rest)
    (fields_start _ _ _ _ c.requires)

pub put_field-a-requires : goal.put_field-a-requires
put_field-a-requires c = fields_room _ _ _ _ _ _ _ _ c.loop-n.invariant _ _ c.in-Some.ensures.steps.0

pub loop-n-preserved : goal.loop-n-preserved
loop-n-preserved c = fields_next _ _ _ _ _ _ _ _ c.loop-n.invariant _ _ c.in-Some.ensures.steps.0 _ c.in-Some.ensures.steps.1 _ _ c.put_field-a.ensures

pub returns : goal.returns
returns c = fields_end _ _ _ _ _ _ _ _ c.loop-n.invariant (λ h. (c.in-None.ensures.steps h).0)
