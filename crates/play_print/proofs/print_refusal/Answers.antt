-- `print_refusal`: five writes, one after the other.
use Rattle.play_print.proofs.BufferWrites.{wrote_refusal}
use native.Mathlib.Omega.{arith}
use Rattle.play_print.proofs.print_refusal.Goals as goal

pub returns : goal.returns
returns c = (wrote_refusal _ _ _ c.put_byte-a.ensures _ c.put_byte-b.ensures c.put_byte-e.ensures c.put_field-f.ensures.0 c.put_byte.ensures, omega arith)
