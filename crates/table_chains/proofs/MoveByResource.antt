-- move_lock for a caller that knows the resource.
use mathlib.Core.List.{List}
use Prim.Native.Nat.{ℕ}
use Rattle.tables.specs.declared.Lock.{Lock}
use Rattle.tables.specs.State.{move}
use Rattle.table_chains.specs.Promises.{Some, Turns, Movable, Moving, Moved}

pub some_moving : (r k : ℕ) (m : Lock) (ws : List ℕ) → Some (Movable r k m) ws → Moving k m ws
some_moving r k m ws s = record { state = s.state; resource = r; good = s.good; is = s.is }

pub moved_turns : (r k : ℕ) (m : Lock) (a b : List ℕ) → Moved k m a b → Turns (Movable r k m) (move r k m) a b
moved_turns r k m a b h = record { then = h.then r }
