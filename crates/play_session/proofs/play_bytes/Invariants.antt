-- `play_bytes`: as much is left to do as from the chunk's start, byte by byte.
use Rattle.play_session.proofs.Sessions.{Along}
use Rattle.play_session.proofs.play_bytes.Given as goal

abbrev pub invariant-loop-b : goal.invariant-loop-b
invariant-loop-b l = Along l.initial.words l.initial.slots l.initial.buffer l.initial.out l.initial.p.line l.chunk l.words l.slots l.buffer l.out l.p l.b-index
