-- The chains that a walk in the words goes along are those of the state that they tell.
use mathlib.Core.Logic.{◌≢◌}
use mathlib.Core.Path.{◌≡◌, refl, sym, ap, ◌∙◌}
use mathlib.Core.List.{List}
use Prim.Native.Nat.{ℕ, ◌≤◌}
use native.Mathlib.Omega.{arith}
use lib.ListN.{length}
use Rattle.std.specs.Prelude.{None, Some as Just}
use Rattle.tables.specs.State.{resource, Queue, blocked, queue_of}
use Rattle.tables.specs.Layout.{of_header, of_lock, of_resource, queue_head, resources_in, locks_in, word_in, onward}
use Rattle.tables.proofs.Counts.{le_within}
use Rattle.tables.specs.Validity.{Core}
use Rattle.table_chains.specs.Promises.{Some, Resourced}
use Rattle.table_fields.proofs.StateWords.{resources_is}
use Rattle.table_chains.proofs.ChainWalks.{chain_onward, queue_onward, walk_short}
use Rattle.deadlock_graph.specs.Promises.{seen, Stepped}
use Rattle.deadlock_graph.proofs.SameVictim.{alike}

pub blocked_seen : (ws : List ℕ) (x : ℕ) → Some Core ws → x ≡ word_in ws (of_header 5) → onward ws 1 x ≡ (seen ws).blocked
blocked_seen ws x s e =
    rw e (chain_onward s.state s.good blocked 1 (λ k. refl) (omega arith) ws s.is) ∙ sym (alike s.state s.good ws s.is).stopped

-- no more are blocked than there are locks
pub blocked_few : (ws : List ℕ) → Some Core ws → length (seen ws).blocked ≤ locks_in ws
blocked_few ws s =
    let first = word_in ws (of_header 5) in
    omega (arith, ap length (blocked_seen ws first s refl), walk_short ws 1 first)

pub queue_seen : (ws : List ℕ) → Some Core ws → (r : ℕ) (q : Queue) → 1 ≤ r → r ≤ resources_in ws → onward ws 0 (word_in ws (of_resource r (queue_head q))) ≡ queue_of q (resource (seen ws) r)
queue_seen ws s r q low high =
    let t = s.state in
    let there : Resourced r t = record { core = s.good; in_range = le_within (length t.resources) r low (omega (arith, high, resources_is t ws s.is)) } in
    queue_onward r t there q ws s.is ∙ sym ((alike t s.good ws s.is).queues q r)

-- a walk along a chain meets the lock that it is at, and goes on to the next
pub walk_meets : {f : ℕ} {ws wi ws' : List ℕ} {x k x' : ℕ} → wi ≡ ws → Stepped f wi x (Just k) ws' x' → (x ≡ k) × (k ≢ 0) × (x' ≡ word_in ws (of_lock k f)) × (ws' ≡ ws)
walk_meets {f} {ws} {wi} {ws'} {x} {k} {x'} e s = let m = s.met k refl in (m.0, m.1, rw e at m.2, s.same ∙ e)

pub walk_over : {f : ℕ} {wi ws' : List ℕ} {x x' : ℕ} → Stepped f wi x None ws' x' → x ≡ 0
walk_over s = s.ended refl
