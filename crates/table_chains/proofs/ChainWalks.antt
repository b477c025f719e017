-- Walks along the chains in the words of a state: a turn, the end, and where each begins. Every loop along a chain of locks stands on these laws.
use mathlib.Core.Path.{◌≡◌, refl, sym, ap, ◌∙◌}
use mathlib.Core.Logic.{◌≢◌}
use mathlib.Core.Bool.{Bool, true, false}
use mathlib.Core.List.{List, [], ◌∷◌}
use Prim.Native.Nat.{ℕ, suc, ◌≤◌, ◌<◌}
use native.Mathlib.Omega.{arith}
use lib.ListN.{length}
use lib.Dec.{eqb}
use borrow.Author.Tests.{eq-eqb, ne_eqb}
use Rattle.tables.specs.Lists.{first, first_that}
use Rattle.tables.specs.State.{Tables, resource, Queue, grants, converts, waits, LockChain, blocked, notices, queue, of_locks, queue_of, chain}
use Rattle.tables.specs.Layout.{of_header, of_resource, of_lock, queue_head, head, link, link_in, word_value, words, resources_in, locks_in, word_in, lock_link, onward, read_chain}
use Rattle.tables.specs.Sound.{chain_ends}
use Rattle.tables.specs.Threads.{Each, Present}
use Rattle.tables.specs.Validity.{Core}
use Rattle.tables.proofs.Counts.{within_le, first_here, first_later}
use Rattle.tables.proofs.Links.{next_here}
use Rattle.tables.proofs.WordChanges.{linked_head}
use Rattle.tables.proofs.ReadBack.{word_read, chain_read}
use Rattle.tables.proofs.ChainMembers.{on_chain}
use Rattle.tables.proofs.ThreadedChains.{each_counted, core_threaded}
use Rattle.tables.proofs.FollowedChains.{follow_zero, ends_turn, follow_turn, follow_short, ends_agree, follow_agree}
use Rattle.tables.proofs.Written.{chain_ending}
use Rattle.table_fields.specs.Sizes.{Sized}
use Rattle.table_chains.specs.Promises.{Some, Resourced}
use Rattle.table_chains.specs.Walking.{At, Walking, first_with}
use Rattle.table_fields.proofs.StateWords.{resources_is, locks_is, core_sized}

-- the words of a state are as long as they say
pub some_sized : {ws : List ℕ} → Some Core ws → Sized ws
some_sized {ws} s = core_sized s.state ws s.is s.good

-- THE END
pub walk_ends : (ws : List ℕ) (f : ℕ) → onward ws f 0 ≡ []
unfolding onward
walk_ends ws f = follow_zero (lock_link ws f) (locks_in ws)

-- A TURN
module _ (ws : List ℕ) (f k : ℕ) (w : Walking ws f k) (n : k ≢ 0) where
  pub walk_splits : onward ws f k ≡ k ∷ onward ws f (word_in ws (of_lock k f))
  unfolding onward
  walk_splits = follow_turn (lock_link ws f) (locks_in ws) k n w.ended

  met : Each (λ j. (1 ≤ j) × (j ≤ locks_in ws)) (k ∷ onward ws f (word_in ws (of_lock k f)))
  met = rw walk_splits at w.met

  pub walk_goes : Walking ws f (word_in ws (of_lock k f))
  walk_goes = record { some = w.some; ended = ends_turn (lock_link ws f) (locks_in ws) k n w.ended; met = met.1 }

  pub walk_at : At ws k
  walk_at = record { some = w.some; low = met.0.0; high = met.0.1 }

  -- the first that passes, from k on, is k, or the first from the next on
  module _ (p : ℕ → Bool) where
    pub walk_found : p k ≡ true → first_that p (onward ws f k) ≡ k
    walk_found h = ap (first_that p) walk_splits ∙ first_here p k _ h

    pub walk_passed : p k ≡ false → first_that p (onward ws f k) ≡ first_that p (onward ws f (word_in ws (of_lock k f)))
    walk_passed h = ap (first_that p) walk_splits ∙ first_later p k _ h

-- what a turn asks for, and where it leads
module _ {ws : List ℕ} {f k : ℕ} where
  pub walk_sized : Walking ws f k → Sized ws
  walk_sized w = some_sized w.some

  pub walk_low : Walking ws f k → k ≢ 0 → 1 ≤ k
  walk_low w n = (walk_at ws f k w n).low

  pub walk_high : Walking ws f k → k ≢ 0 → k ≤ locks_in ws
  walk_high w n = (walk_at ws f k w n).high

  pub walk_stands : Walking ws f k → k ≢ 0 → At ws k
  walk_stands w n = walk_at ws f k w n

  -- a turn is one lock nearer to the end
  pub walk_less : (x : ℕ) → Walking ws f k → k ≢ 0 → x ≡ word_in ws (of_lock k f) → length (onward ws f x) < length (onward ws f k)
  walk_less x w n e = rw e (omega (arith, ap length (walk_splits ws f k w n)))

  pub walk_on : {x : ℕ} → Walking ws f k → k ≢ 0 → x ≡ word_in ws (of_lock k f) → Walking ws f x
  walk_on w n e = rw e (walk_goes ws f k w n)

-- there are at most as many as there are locks
pub walk_short : (ws : List ℕ) (f k : ℕ) → length (onward ws f k) ≤ locks_in ws
unfolding onward
walk_short ws f k = follow_short (lock_link ws f) (locks_in ws) k

-- A SEARCH for the first lock whose field g is v: from k on it finds the same as from the start on
pub record Seeking (ws : List ℕ) (f g v start k : ℕ) : Type 0 where
  pub walks : Walking ws f k
  pub same : first_with ws f g v k ≡ first_with ws f g v start

pub seeking_starts : (ws : List ℕ) (f g v k : ℕ) → Walking ws f k → Seeking ws f g v k k
seeking_starts ws f g v k w = record { walks = w; same = refl }

module _ (ws : List ℕ) (f g v start k : ℕ) (i : Seeking ws f g v start k) where
  module _ (n : k ≢ 0) (x : ℕ) (e : x ≡ word_in ws (of_lock k g)) where
    pub seeking_found : x ≡ v → k ≡ first_with ws f g v start
    unfolding first_with
    seeking_found h = sym (walk_found ws f k i.walks n (λ j. eqb (word_in ws (of_lock j g)) v) (eq-eqb (word_in ws (of_lock k g)) v (sym e ∙ h))) ∙ i.same

    pub seeking_on : (x ≡ v → ⊥) → (y : ℕ) → y ≡ word_in ws (of_lock k f) → Seeking ws f g v start y
    unfolding first_with
    seeking_on h y q =
        rw q
        (record {
          walks = walk_goes ws f k i.walks n;
          same = sym (walk_passed ws f k i.walks n (λ j. eqb (word_in ws (of_lock j g)) v) (ne_eqb (word_in ws (of_lock k g)) v (λ z. h (e ∙ z)))) ∙ i.same;
        })

  pub seeking_ends : k ≡ 0 → 0 ≡ first_with ws f g v start
  unfolding first_with first_that
  seeking_ends e = sym (rw (e, walk_ends ws f)) ∙ i.same

-- WHERE A CHAIN BEGINS, by the words of any state that has it
module _ (t : Tables) (core : Core t) (c : LockChain) (f : ℕ) (links : (k : ℕ) → link (of_locks c) k ≡ of_lock k f) (there : Present t (of_locks c)) (ws : List ℕ) (is : ws ≡ words t) where
  same_link : (k : ℕ) → lock_link ws f (suc k) ≡ link_in ws (of_locks c) (suc k)
  same_link k = ap (word_in ws) (sym (links (suc k)))

  pub chain_onward : onward ws f (word_in ws (head (of_locks c))) ≡ chain t c
  unfolding onward read_chain
  chain_onward =
      follow_agree (lock_link ws f) (link_in ws (of_locks c)) same_link (locks_in ws) (word_in ws (head (of_locks c)))
      ∙ ap (λ (w : List ℕ). read_chain w (of_locks c)) is ∙ chain_read t (of_locks c) (core_threaded t core (of_locks c) there)

  pub chain_begins : Walking ws f (word_in ws (head (of_locks c)))
  unfolding chain_ends
  chain_begins =
      record {
        some = record { state = t; good = core; is = is };
        ended =
            ends_agree (lock_link ws f) (link_in ws (of_locks c)) same_link (locks_in ws) (word_in ws (head (of_locks c)))
            ∙ ap (λ (w : List ℕ). chain_ends w (of_locks c)) is ∙ chain_ending t core (of_locks c) there;
        met =
            rw chain_onward
            (each_counted _ (chain t c) (λ j m. rw (locks_is t ws is) (within_le (length t.locks) j (on_chain t core.linked c j m).0)));
      }

-- its head names its first
pub chain_first : (t : Tables) (c : LockChain) → Present t (of_locks c) → (ws : List ℕ) → ws ≡ words t → word_in ws (head (of_locks c)) ≡ first (chain t c)
chain_first t c there ws is =
    ap (λ (w : List ℕ). word_in w (head (of_locks c))) is ∙ word_read t (head (of_locks c)) there
    ∙ ap (word_value t) (linked_head t (of_locks c) there).says ∙ next_here 0 0 (chain t c) refl

-- the blocked and the notice chain
module _ {ws : List ℕ} {x : ℕ} (s : Some Core ws) where
  pub blocked_walks : x ≡ word_in ws (of_header 5) → Walking ws 1 x
  blocked_walks e = rw e (chain_begins s.state s.good blocked 1 (λ k. refl) (omega arith) ws s.is)

  pub notices_walks : x ≡ word_in ws (of_header 6) → Walking ws 2 x
  notices_walks e = rw e (chain_begins s.state s.good notices 2 (λ k. refl) (omega arith) ws s.is)

pub notices_onward : (t : Tables) → Core t → (ws : List ℕ) → ws ≡ words t → onward ws 2 (word_in ws (of_header 6)) ≡ t.notices
notices_onward t core ws is = chain_onward t core notices 2 (λ k. refl) (omega arith) ws is

-- the queues of a resource
queue_there : (t : Tables) (r : ℕ) (q : Queue) → 1 ≤ r → r ≤ length t.resources → Present t (of_locks (queue r q))
queue_there t r grants low high = (low, high, omega arith)
queue_there t r converts low high = (low, high, omega arith)
queue_there t r waits low high = (low, high, omega arith)

module _ {ws : List ℕ} {r x : ℕ} (s : Some Core ws) (there : (1 ≤ r) × (r ≤ resources_in ws)) where
  queue_walks : (q : Queue) → x ≡ word_in ws (of_resource r (queue_head q)) → Walking ws 0 x
  queue_walks q e =
      let high : r ≤ length s.state.resources = omega (arith, there.1, resources_is s.state ws s.is) in
      rw e (chain_begins s.state s.good (queue r q) 0 (λ k. refl) (queue_there s.state r q there.0 high) ws s.is)

  pub grants_walk : x ≡ word_in ws (of_resource r 1) → Walking ws 0 x
  grants_walk = queue_walks grants

  pub converts_walk : x ≡ word_in ws (of_resource r 2) → Walking ws 0 x
  converts_walk = queue_walks converts

  pub waits_walk : x ≡ word_in ws (of_resource r 3) → Walking ws 0 x
  waits_walk = queue_walks waits

module _ (r : ℕ) (t : Tables) (p : Resourced r t) (q : Queue) where
  pub queue_present : Present t (of_locks (queue r q))
  queue_present = let w = within_le (length t.resources) r p.in_range in queue_there t r q w.0 w.1

  module _ (ws : List ℕ) (is : ws ≡ words t) where
    pub queue_onward : onward ws 0 (word_in ws (of_resource r (queue_head q))) ≡ queue_of q (resource t r)
    queue_onward = chain_onward t p.core (queue r q) 0 (λ k. refl) queue_present ws is

    pub queue_first : word_in ws (of_resource r (queue_head q)) ≡ first (queue_of q (resource t r))
    queue_first = chain_first t (queue r q) queue_present ws is

-- a resource that is told to be there
module _ (ws : List ℕ) (r : ℕ) (s : Some (Resourced r) ws) where
  here_core : Some Core ws
  here_core = record { state = s.state; good = s.good.core; is = s.is }

  here_range : (1 ≤ r) × (r ≤ resources_in ws)
  here_range = rw (resources_is s.state ws s.is) (within_le (length s.state.resources) r s.good.in_range)

  pub here_sized : Sized ws
  here_sized = some_sized here_core

  pub here_low : 1 ≤ r
  here_low = here_range.0

  pub here_high : r ≤ resources_in ws
  here_high = here_range.1

  pub here_grants : {x : ℕ} → x ≡ word_in ws (of_resource r 1) → Walking ws 0 x
  here_grants e = grants_walk here_core here_range e

  pub here_converts : {x : ℕ} → x ≡ word_in ws (of_resource r 2) → Walking ws 0 x
  here_converts e = converts_walk here_core here_range e
