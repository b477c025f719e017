-- what is met, and what is left of the chain from there on with the set, the count and the sum so far, is the whole
use Prim.Native.Nat.{◌<◌, ◌≤◌, ◌+◌, ◌-◌, ◌*◌, ◌^◌}
use mathlib.Core.Path.{◌≡◌}
use Rattle.modes.specs.Sets.{fits_set}
use Rattle.check_laws.specs.Check.{grant_walk}
use Rattle.check_queues.specs.QueueWalks.{modes_left}
use Rattle.check_queues.proofs.grant_walk.Given as goal

abbrev pub invariant-loop-k : goal.invariant-loop-k
invariant-loop-k l =
    (l.met ≤ l.n)
    × ((l.set < 64)
    × ((l.noticed ≤ l.met + 1)
    × ((l.digits ≤ (l.met + 1) * 2 ^ 48)
    × (grant_walk l.words l.r ≡ modes_left l.words 1 l.r fits_set l.n l.met l.k l.set l.noticed l.digits))))

abbrev pub decreases-loop-k : goal.decreases-loop-k
decreases-loop-k l = l.n - l.met
