-- What the words say of a lock, and what a read of them asks for.
use mathlib.Core.Path.{◌≡◌, sym, ap, ◌∙◌}
use mathlib.Core.Bool.{Bool, true, not, ◌&&◌}
use mathlib.Core.List.{List}
use Prim.Native.Nat.{ℕ, ◌≤◌, ◌<◌}
use native.Mathlib.Omega.{arith}
use lib.ListN.{length}
use lib.Dec.{eqb}
use Rattle.modes.specs.Modes.{compatible}
use Rattle.tables.specs.Lists.{within, count}
use Rattle.tables.specs.declared.Lock.{Lock}
use Rattle.tables.specs.State.{Tables, lock, blocked_lock, blocked}
use Rattle.tables.specs.Layout.{of_lock, resources_in, locks_in, word_in, read_lock}
use Rattle.tables.proofs.Counts.{within_le}
use Rattle.tables.specs.Validity.{used, Core}
use Rattle.tables.proofs.Valid.{used_within, blocked_lock_place}
use Rattle.tables.proofs.ChainMembers.{on_chain, chain_has, blocked_within}
use Rattle.rules.specs.Deadlock.{in_the_way, owner}
use Rattle.table_fields.proofs.StateWords.{resources_is, locks_is}
use Rattle.table_chains.specs.Promises.{Some}
use Rattle.table_chains.specs.Walking.{At}
use Rattle.table_chains.proofs.LockLimits as limits
use Rattle.deadlock_graph.specs.Promises.{seen, Blocked}
use Rattle.deadlock_graph.proofs.SameVictim.{Alike, alike}

-- the state that the words tell is like that whose words they are
pub some_alike : (ws : List ℕ) (s : Some Core ws) → Alike s.state (seen ws)
some_alike ws s = alike s.state s.good ws s.is

pub resources_told : (ws : List ℕ) (s : Some Core ws) → resources_in ws ≡ length s.state.resources
resources_told ws s = resources_is s.state ws s.is

pub locks_told : (ws : List ℕ) (s : Some Core ws) → locks_in ws ≡ length s.state.locks
locks_told ws s = locks_is s.state ws s.is

-- what every lock is
module _ (ws : List ℕ) (s : Some Core ws) (k : ℕ) where
  abbrev t : Tables
  t = s.state

  same_lock : lock (seen ws) k ≡ lock t k
  same_lock = (some_alike ws s).locks k

  pub held_few : (lock (seen ws) k).held < 6
  held_few = rw same_lock (limits.held_few t s.good k)

  pub asked_few : (lock (seen ws) k).asked < 6
  asked_few = rw same_lock (limits.asked_few t s.good k)

-- the words of the lock k
module _ (ws : List ℕ) (k : ℕ) (a : At ws k) where
  lock_seen : read_lock ws k ≡ lock (seen ws) k
  lock_seen = limits.lock_told ws k a ∙ sym (same_lock ws a.some k)

  pub resource_told : word_in ws (of_lock k 3) ≡ (lock (seen ws) k).resource
  unfolding read_lock
  resource_told = ap (λ (l : Lock). l.resource) lock_seen

  pub client_told : word_in ws (of_lock k 4) ≡ (lock (seen ws) k).client
  unfolding read_lock
  client_told = ap (λ (l : Lock). l.client) lock_seen

  pub state_told : word_in ws (of_lock k 5) ≡ (lock (seen ws) k).state
  unfolding read_lock
  state_told = ap (λ (l : Lock). l.state) lock_seen

  pub held_told : word_in ws (of_lock k 6) ≡ (lock (seen ws) k).held
  unfolding read_lock
  held_told = ap (λ (l : Lock). l.held) lock_seen

  pub asked_told : word_in ws (of_lock k 7) ≡ (lock (seen ws) k).asked
  unfolding read_lock
  asked_told = ap (λ (l : Lock). l.asked) lock_seen

-- its owner
pub owner_known : {ws : List ℕ} {k x : ℕ} → At ws k → x ≡ word_in ws (of_lock k 4) → x ≡ owner (lock (seen ws) k)
owner_known {ws} {k} a e = e ∙ client_told ws k a

-- whether j is in a's way
pub way_known : (ws : List ℕ) (a j x y : ℕ) (g : Bool) → At ws a → At ws j → x ≡ word_in ws (of_lock j 6) → y ≡ word_in ws (of_lock a 7) → g ≡ compatible x y
    → (not (eqb j a) && not g) ≡ in_the_way (seen ws) a j
unfolding in_the_way
way_known ws a j x y g p q ex ey eg = rw (eg, ex, ey, held_told ws j q, asked_told ws a p)

-- blocked locks
module _ (ws : List ℕ) (k : ℕ) where
  blocked_there : (s : Some Core ws) → 1 ≤ count k (seen ws).blocked → (within (length s.state.locks) k ≡ true) × (blocked_lock (lock s.state k) ≡ true)
  blocked_there s m = on_chain s.state s.good.linked blocked k (rw (some_alike ws s).stopped at m)

  pub blocked_is : Blocked ws k → blocked_lock (lock (seen ws) k) ≡ true
  blocked_is b = rw (same_lock ws b.some k) (blocked_there b.some b.stands).1

  pub blocked_at : Blocked ws k → At ws k
  blocked_at b =
      let s = b.some in
      let w = within_le (length s.state.locks) k (blocked_there s b.stands).0 in
      record { some = s; low = w.0; high = omega (arith, w.1, locks_told ws s) }

  pub is_blocked : Some Core ws → blocked_lock (lock (seen ws) k) ≡ true → Blocked ws k
  is_blocked s h =
      let h' : blocked_lock (lock s.state k) ≡ true = rw (same_lock ws s k) at h in
      record { some = s; stands = rw (some_alike ws s).stopped (omega (arith, chain_has s.state s.good.linked blocked k (blocked_within s.state k h') h')) }

  -- its resource is one
  blocked_used : (s : Some Core ws) → blocked_lock (lock s.state k) ≡ true → used s.state (lock s.state k).resource ≡ true
  blocked_used s h = (blocked_lock_place (used s.state) (lock s.state k) (s.good.lock_ok k) h).in_use

  pub blocked_home : Blocked ws k → (1 ≤ (lock (seen ws) k).resource) × ((lock (seen ws) k).resource ≤ resources_in ws)
  blocked_home b =
      let s = b.some in
      let w = within_le (length s.state.resources) (lock s.state k).resource (used_within s.state _ (blocked_used s (blocked_there s b.stands).1)) in
      rw (same_lock ws s k) (w.0, omega (arith, w.1, resources_told ws s))

-- ---- what a read of a word asks for

pub blocked_stands : {ws : List ℕ} {a : ℕ} → Blocked ws a → At ws a
blocked_stands {ws} {a} b = blocked_at ws a b

pub blocked_low : {ws : List ℕ} {a : ℕ} → Blocked ws a → 1 ≤ a
blocked_low {ws} {a} b = (blocked_at ws a b).low
