-- What each step of a lock's move is: premises as the code's places have them.
use mathlib.Core.Path.{◌≡◌, refl, sym, ◌∙◌, ap, ap₂, subst}
use mathlib.Core.Bool.{Bool, true, false}
use mathlib.Core.List.{List}
use Prim.Native.Nat.{ℕ, ◌*◌, ◌≤◌}
use native.Mathlib.Omega.{arith}
use borrow.Author.Rules.{rules}
use borrow.Author.Tests.{ne_eqb}
use lib.ListN.{get_or, length}
use lib.Dec.{eqb}
use Rattle.tables.specs.declared.Lock.{Lock}
use Rattle.tables.specs.State.{Tables, most_locks, last_mode, lock, blocked_lock, noticed, blocked, notices, of_locks, chain_of, home, move}
use Rattle.tables.specs.Grants.{holds_mode, tally}
use Rattle.tables.specs.Layout.{of_resource, head, count_field, words, resources_in, locks_in, read_lock}
use Rattle.tables.specs.Threads.{Absent, In, Present, Sane, Seat, Whole}
use Rattle.tables.specs.Stores.{Counts, words_with, cell_place, push_cells, join_cells, leave_cells, stays, shift_cells, arrive_cells, set_cells, resettle_cells, side_cells, move_cells, count_place, lower_count, raise_count}
use Rattle.tables.proofs.Counts.{within_le}
use Rattle.tables.proofs.Numbered.{put_lock, lock_put_other, chains_put_lock}
use Rattle.tables.proofs.Frame.{homed}
use Rattle.tables.proofs.WordChanges.{words_true}
use Rattle.tables.proofs.ReadBack.{lock_read, lock_read_with}
use Rattle.tables.proofs.HomeChange.{most_homed, lifted, lock_lifted, sane_set, present_set, stands_set}
use Rattle.tables.proofs.MoveSteps.{unblock, notify, sane_own, stays_home, lifted_keeps, lifted_words, set_words, sane_unblock, notices_unblock, seat_notices, sane_notify, lock_unblock, lock_notify, present_notify, old_notify, home_notify, unblock_words, notify_words}
use Rattle.tables.proofs.Wholeness.{present_home, core_whole}
use Rattle.tables.proofs.Tallies.{lowered, tally_after, tally_same, lock_counted, tally_few, lowered_less, count_at, counted_at, lower_words, raise_words}
use Rattle.tables.proofs.MovedWords.{moved_with}
use Rattle.table_fields.specs.Sizes.{Sized, Kept}
use Rattle.table_fields.proofs.StateWords.{resources_is, locks_is, core_sized}
use Rattle.std.specs.Prelude.{Option, Some}
use Rattle.table_chains.specs.declared.Cells.{Cells}
use Rattle.table_chains.specs.declared.End.TheVariants.{Back}
use Rattle.table_chains.specs.Cells.{cell_of, cells_at, lock_cells, Walks, Near, Leaves, Pushes, Shifts, Housed}
use Rattle.table_chains.specs.Promises.{Movable, Moving, Moved, Counting, AtHome, WithNotice, Sided, Homing}
use Rattle.table_chains.proofs.CellWalks.{near_none}
use Rattle.table_chains.proofs.ChainCells.{kept_trans, blocked_cells, notice_cells, by_cells, resources_with, locks_with, within_words, chain_joins, chain_leaves, chain_near, chain_pushes}

-- SIDES. The words after the first of the two chains, at any state
module _ (ct : Counts) (k : ℕ) (o m : Lock) (a : List ℕ) (t : Tables) (whole : Whole (length t.resources) (length t.locks) t) (low : 1 ≤ k) (high : k ≤ length t.locks)
    (here : lock t k ≡ o) (new : Present t (of_locks (home m))) (is : a ≡ words_with ct t) where
  first_words : shift_cells (blocked_lock o) (blocked_lock m) (cell_place (resources_in a) (of_locks blocked)) (locks_in a) k a ≡ words_with ct (unblock k m t)
  first_words = rw (← here, resources_with ct t a is, locks_with ct t a is, is) (unblock_words (length t.resources) (length t.locks) t whole k m low high new ct)

  pub side_words : side_cells (resources_in a) (locks_in a) k o m a ≡ words_with ct (notify k m t)
  unfolding side_cells
  side_words =
      rw (first_words, resources_with ct t a is, locks_with ct t a is, ← here) (notify_words (length t.resources) (length t.locks) t whole k m low high new ct)

module _ (k : ℕ) (o m : Lock) (a : List ℕ) (s : Sided k o m a) where
  pub side_sized : Sized a
  side_sized = s.sized

  side_high : k ≤ length s.state.locks
  side_high = omega (arith, s.high, locks_with s.counts s.state a s.is)

  module _ (cs : Cells) (ec : cs ≡ lock_cells 5 1 a) (x : Bool) (ex : x ≡ blocked_lock o) where
    seat_first : x ≡ true → Absent k s.state.blocked → ⊥
    seat_first p = subst (λ (z : Bool). Seat z k s.state.blocked) (ap blocked_lock s.here ∙ sym ex ∙ p) (s.whole.on_blocked k s.low side_high)

    pub side_first : (near : Option ℕ) → Near a cs 0 near → Shifts x (Back near) a cs k
    side_first near n =
        let h = s.whole.sane.chains (of_locks blocked) (omega arith) in
        let e = ec ∙ blocked_cells a in
        record {
          leaves = λ p. chain_leaves s.counts s.state a s.is (of_locks blocked) h cs e s.sized k (seat_first p);
          joins = (chain_joins s.counts s.state a s.is (of_locks blocked) h cs e s.sized, n);
        }

    module _ (y : Bool) (ey : y ≡ blocked_lock m) (b : List ℕ) (eb : b ≡ shift_cells x y (cell_of cs) cs.most k a) (kb : Kept a b) where
      first_now : b ≡ shift_cells (blocked_lock o) (blocked_lock m) (cell_place (resources_in a) (of_locks blocked)) (locks_in a) k a
      first_now = eb ∙ by_cells (of_locks blocked) a cs (ec ∙ blocked_cells a) (λ f n. shift_cells x y f n k a) ∙ rw (ex, ey)

      first_is : b ≡ words_with s.counts (unblock k m s.state)
      first_is = first_now ∙ first_words s.counts k o m a s.state s.whole s.low side_high s.here s.new s.is

      first_sane : Sane (length s.state.resources) (length s.state.locks) (unblock k m s.state)
      first_sane = sane_unblock (length s.state.resources) (length s.state.locks) s.state s.whole k m s.low side_high s.new

      noticed_on : (x : Option ℕ) → WithNotice b x → (j : ℕ) → x ≡ Some j → (1 ≤ j) × (Absent j (unblock k m s.state).notices → ⊥)
      noticed_on x n j p =
          let r = length s.state.resources in
          let l = length s.state.locks in
          let high : j ≤ length (unblock k m s.state).locks = omega (arith, n.high j p, locks_with s.counts (unblock k m s.state) b first_is) in
          let is : read_lock b j ≡ lock s.state j = rw first_is (lock_read_with s.counts (unblock k m s.state) j (n.low j p) high) ∙ lock_unblock r l s.state s.whole k m s.low side_high s.new j in (
            n.low j p,
            subst (λ (z : Bool). Seat z j (unblock k m s.state).notices) (sym (ap noticed is) ∙ n.notice j p)
                (rw (notices_unblock r l s.state s.whole k m s.low side_high s.new) (s.whole.on_notices j (n.low j p) (omega (arith, first_sane.locks)))),
          )

      module _ (ns : Cells) (en : ns ≡ lock_cells 6 2 b) (u : Bool) (eu : u ≡ noticed o) where
        seat_second : u ≡ true → Absent k (unblock k m s.state).notices → ⊥
        seat_second p =
            subst (λ (z : Bool). Seat z k (unblock k m s.state).notices) (ap noticed s.here ∙ sym eu ∙ p)
            (seat_notices (length s.state.resources) (length s.state.locks) s.state s.whole k m s.low side_high s.new)

        pub side_second : (near : Option ℕ) → WithNotice b near → Shifts u (Back near) b ns k
        side_second near n =
            let h = first_sane.chains (of_locks notices) (omega arith) in
            let e = en ∙ notice_cells b in
            record {
              leaves = λ p. chain_leaves s.counts (unblock k m s.state) b first_is (of_locks notices) h ns e kb.sized k (seat_second p);
              joins = (
                chain_joins s.counts (unblock k m s.state) b first_is (of_locks notices) h ns e kb.sized,
                chain_near s.counts (unblock k m s.state) b first_is (of_locks notices) h ns e kb.sized 0 (λ z a. z refl) near (noticed_on near n),
              );
            }

        pub sides_shifted : (v : Bool) (d : List ℕ) → v ≡ noticed m → d ≡ shift_cells u v (cell_of ns) ns.most k b → d ≡ side_cells (resources_in a) (locks_in a) k o m a
        unfolding side_cells
        sides_shifted v d ev ed =
            ed ∙ by_cells (of_locks notices) b ns (en ∙ notice_cells b) (λ f n. shift_cells u v f n k b)
            ∙ rw (eu, ev, kb.same_resources, kb.same_locks) (ap (shift_cells (noticed o) (noticed m) (cell_place (resources_in a) (of_locks notices)) (locks_in a) k) first_now)

pub ruleset side_laws = (rules, side_sized, near_none, side_first, side_second, sides_shifted, kept_trans)

-- HOME
module _ (k : ℕ) (o m : Lock) (a : List ℕ) (s : Homing k o m a) where
  home_high : k ≤ length s.state.locks
  home_high = omega (arith, s.high, locks_with s.counts s.state a s.is)

  pub home_old : Housed o.state o.resource a
  home_old = record { sized = s.sized; some_lock = omega (arith, s.low, s.high); inside = within_words s.counts s.state a s.is (head (of_locks (home o))) s.old }

  pub home_sized : Sized a
  home_sized = s.sized

  was_home : Present s.state (of_locks (home (lock s.state k)))
  was_home = rw s.here s.old

  on_home : Absent k (chain_of (of_locks (home o)) s.state) → ⊥
  on_home = subst (λ (l : Lock). Absent k (chain_of (of_locks (home l)) s.state) → ⊥) s.here (s.at_home k s.low home_high)

  old_on : (x : Option ℕ) → AtHome a o k x → (j : ℕ) → x ≡ Some j → (1 ≤ j) × (Absent j (chain_of (of_locks (home o)) s.state) → ⊥)
  old_on x n j p =
      let high : j ≤ length s.state.locks = omega (arith, n.high j p, locks_with s.counts s.state a s.is) in
      let is : read_lock a j ≡ lock s.state j = rw s.is (lock_read_with s.counts s.state j (n.low j p) high) in
      (n.low j p, rw (stays_home (lock s.state j) o (rw (← is) (n.home j p))) (s.at_home j (n.low j p) high))

  module _ (cs : Cells) (ec : cs ≡ cells_at (of_locks (home o)) a) where
    pub home_leaves : Leaves a cs k
    home_leaves = chain_leaves s.counts s.state a s.is (of_locks (home o)) (s.sane.chains (of_locks (home o)) s.old) cs ec s.sized k on_home

    pub home_near : (x : Option ℕ) → AtHome a o k x → Near a cs k x
    home_near x n = chain_near s.counts s.state a s.is (of_locks (home o)) (s.sane.chains (of_locks (home o)) s.old) cs ec s.sized k (λ z. on_home) x (old_on x n)

    module _ (b : List ℕ) (eb : b ≡ leave_cells (cell_of cs) cs.most k a) where
      left_now : b ≡ leave_cells (cell_place (resources_in a) (of_locks (home o))) (locks_in a) k a
      left_now = eb ∙ by_cells (of_locks (home o)) a cs ec (λ f n. leave_cells f n k a) ∙ rw (most_homed (resources_in a) (locks_in a) (of_locks (home o)) (homed o.state o.resource))

      left_is : b ≡ words_with s.counts (lifted k s.state)
      left_is =
          left_now
          ∙ rw (← s.here, resources_with s.counts s.state a s.is, locks_with s.counts s.state a s.is, s.is)
          (lifted_words (length s.state.resources) (length s.state.locks) s.state s.sane k m s.low home_high was_home s.new s.counts (rw s.here on_home))

      module _ (kb : Kept a b) (d : List ℕ) (ed : d ≡ set_cells (resources_in b) k m b) (kd : Kept b d) where
        set_is : d ≡ words_with s.counts (put_lock k m (lifted k s.state))
        set_is =
            ed
            ∙ rw (kb.same_resources, resources_with s.counts s.state a s.is, left_is)
            (set_words (length s.state.resources) (length s.state.locks) s.state s.sane k m s.low home_high was_home s.new s.counts)

        set_sane : Sane (length s.state.resources) (length s.state.locks) (put_lock k m (lifted k s.state))
        set_sane = sane_set (length s.state.resources) (length s.state.locks) s.state s.sane k was_home m s.low home_high s.new

        set_present : Present (put_lock k m (lifted k s.state)) (of_locks (home m))
        set_present = present_set (length s.state.resources) (length s.state.locks) s.state s.sane k was_home m s.low home_high s.new

        new_on : (x : Option ℕ) → AtHome d m k x → (j : ℕ) → x ≡ Some j → (1 ≤ j) × (Absent j (chain_of (of_locks (home m)) (put_lock k m (lifted k s.state))) → ⊥)
        new_on x n j p =
            let r = length s.state.resources in
            let l = length s.state.locks in
            let high : j ≤ length (put_lock k m (lifted k s.state)).locks = omega (arith, n.high j p, locks_with s.counts (put_lock k m (lifted k s.state)) d set_is) in
            let is : read_lock d j ≡ lock s.state j =
            rw set_is (lock_read_with s.counts (put_lock k m (lifted k s.state)) j (n.low j p) high) ∙ lock_put_other (lifted k s.state) k m j (n.other j p)
            ∙ lock_lifted r l s.state s.sane k was_home j in (
              n.low j p,
              λ q.
                  rw (← (stays_home (lock s.state j) m (rw (← is) (n.home j p)))) at (s.at_home j (n.low j p) (omega (arith, set_sane.locks)))
                  (lifted_keeps r l s.state s.sane k m s.low home_high was_home s.new (of_locks (home m)) j (n.other j p) (rw (chains_put_lock (lifted k s.state) k m (of_locks (home m))) at q)),
            )

        pub home_new : Housed m.state m.resource d
        home_new =
            record {
              sized = kd.sized;
              some_lock = omega (arith, s.low, s.high, kb.same_locks, kd.same_locks);
              inside = within_words s.counts (put_lock k m (lifted k s.state)) d set_is (head (of_locks (home m))) set_present;
            }

        module _ (ns : Cells) (en : ns ≡ cells_at (of_locks (home m)) d) where
          pub home_pushes : Pushes d ns k
          home_pushes =
              chain_pushes s.counts (put_lock k m (lifted k s.state)) d set_is (of_locks (home m)) (set_sane.chains (of_locks (home m)) set_present) ns en kd.sized k
              (stands_set (length s.state.resources) (length s.state.locks) s.state s.sane k was_home m s.low home_high s.new)

          pub home_joins : Walks d ns 0
          home_joins = chain_joins s.counts (put_lock k m (lifted k s.state)) d set_is (of_locks (home m)) (set_sane.chains (of_locks (home m)) set_present) ns en kd.sized

          pub new_near : (x : Option ℕ) → AtHome d m k x → Near d ns 0 x
          new_near x n =
              chain_near s.counts (put_lock k m (lifted k s.state)) d set_is (of_locks (home m)) (set_sane.chains (of_locks (home m)) set_present) ns en kd.sized 0 (λ z a. z refl) x (new_on x n)

          rehomed : (e : List ℕ) → e ≡ arrive_cells (eqb m.state 0) (cell_of ns) ns.most k d → e ≡ resettle_cells false (resources_in a) (locks_in a) k o m a
          unfolding resettle_cells
          rehomed e ee =
              ee ∙ by_cells (of_locks (home m)) d ns en (λ f n. arrive_cells (eqb m.state 0) f n k d)
              ∙ rw (most_homed (resources_in d) (locks_in d) (of_locks (home m)) (homed m.state m.resource), kd.same_resources, kd.same_locks, kb.same_resources, kb.same_locks)
              (ap (arrive_cells (eqb m.state 0) (cell_place (resources_in a) (of_locks (home m))) (locks_in a) k)
              (ed ∙ ap₂ (λ (r : ℕ) (ws : List ℕ). set_cells r k m ws) kb.same_resources left_now))

          pub rehomed_front : m.state ≡ 0 → (e : List ℕ) → e ≡ push_cells (cell_of ns) k d → e ≡ resettle_cells false (resources_in a) (locks_in a) k o m a
          rehomed_front z e ee = rehomed e (ee ∙ (unfold arrive_cells in rw z))

          pub rehomed_end : (m.state ≡ 0 → ⊥) → (e : List ℕ) → e ≡ join_cells (cell_of ns) ns.most k d → e ≡ resettle_cells false (resources_in a) (locks_in a) k o m a
          rehomed_end z e ee = rehomed e (ee ∙ (unfold arrive_cells in rw (ne_eqb m.state 0 z)))

pub ruleset home_laws = (rules, home_sized, home_old, home_leaves, home_near, home_new, home_pushes, home_joins, new_near, rehomed_front, rehomed_end, kept_trans)

-- BOTH, whatever the counts
module _ (k : ℕ) (o m : Lock) (a : List ℕ) (s : Sided k o m a) where
  pub relink_sized : Sized a
  relink_sized = s.sized

  pub relink_low : 1 ≤ k
  relink_low = s.low

  relink_high : k ≤ length s.state.locks
  relink_high = omega (arith, s.high, locks_with s.counts s.state a s.is)

  module _ (b : List ℕ) (kb : Kept a b) where
    pub relink_after : k ≤ locks_in b
    relink_after = omega (arith, s.high, kb.same_locks)

    pub relink_homing : b ≡ side_cells (resources_in a) (locks_in a) k o m a → Homing k o m b
    relink_homing eb =
        let t = s.state in
        let w = s.whole in
        let n = sane_notify (length t.resources) (length t.locks) t w k m s.low relink_high s.new in
        let here = lock_notify (length t.resources) (length t.locks) t w k m s.low relink_high s.new k ∙ s.here in
        record {
          sized = kb.sized;
          low = s.low;
          high = relink_after;
          state = notify k m t;
          sane = sane_own (length t.resources) (length t.locks) (notify k m t) n;
          here = here;
          old = subst (λ (l : Lock). Present (notify k m t) (of_locks (home l))) here (old_notify (length t.resources) (length t.locks) t w k m s.low relink_high s.new);
          at_home = λ j p q. home_notify (length t.resources) (length t.locks) t w k m s.low relink_high s.new j p (omega (arith, n.locks));
          new = present_notify (length t.resources) (length t.locks) t w k m s.low relink_high s.new (of_locks (home m)) s.new;
          counts = s.counts;
          is = eb ∙ side_words s.counts k o m a t w s.low relink_high s.here s.new s.is;
        }

module _ (k : ℕ) (o m : Lock) (a b : List ℕ) (eb : b ≡ side_cells (resources_in a) (locks_in a) k o m a) (w : Bool) (ew : w ≡ stays o m) (e : List ℕ) where
  stored_at_home : resources_in b ≡ resources_in a → w ≡ true → e ≡ set_cells (resources_in b) k m b → e ≡ move_cells (resources_in a) (locks_in a) k o m a
  unfolding move_cells resettle_cells side_cells
  stored_at_home rb q ee = ee ∙ rw (sym ew ∙ q, rb) (ap (set_cells (resources_in a) k m) eb)

module _ (k : ℕ) (o m : Lock) (a b : List ℕ) (eb : b ≡ side_cells (resources_in a) (locks_in a) k o m a) (kb : Kept a b) (w : Bool) (ew : w ≡ stays o m) (e : List ℕ) where
  pub relinked_at_home : w ≡ true → e ≡ set_cells (resources_in b) k m b → e ≡ move_cells (resources_in a) (locks_in a) k o m a
  relinked_at_home = stored_at_home k o m a b eb w ew e kb.same_resources

  pub relinked_home : w ≡ false → e ≡ resettle_cells false (resources_in b) (locks_in b) k o m b → e ≡ move_cells (resources_in a) (locks_in a) k o m a
  unfolding move_cells side_cells
  relinked_home q ee = ee ∙ rw (sym ew ∙ q, kb.same_resources, kb.same_locks) (ap (resettle_cells false (resources_in a) (locks_in a) k o m) eb)

pub ruleset relink_laws = (rules, relink_sized, relink_low, relink_after, relink_homing, relinked_at_home, relinked_home, kept_trans)

-- MOVE
module _ (r k : ℕ) (m : Lock) (t : Tables) (p : Movable r k m t) where
  move_whole : Whole (length t.resources) (length t.locks) t
  move_whole = core_whole t p.core

  move_low : 1 ≤ k
  move_low = (within_le (length t.locks) k p.in_range).0

  move_high : k ≤ length t.locks
  move_high = (within_le (length t.locks) k p.in_range).1

  move_new : Present t (of_locks (home m))
  move_new = present_home t m p.ok

module _ (k : ℕ) (m : Lock) (a : List ℕ) (s : Moving k m a) where
  pub moving_sized : Sized a
  moving_sized = core_sized s.state a s.is s.good.core

  pub moving_low : 1 ≤ k
  moving_low = move_low s.resource k m s.state s.good

  pub moving_high : k ≤ locks_in a
  moving_high = omega (arith, move_high s.resource k m s.state s.good, locks_is s.state a s.is)

  pub moving_after : (b : List ℕ) → Kept a b → k ≤ locks_in b
  moving_after b h = omega (arith, moving_high, h.same_locks)

-- the word that counts what a lock holds
count_is : (ct : Counts) (t : Tables) (z : List ℕ) → z ≡ words_with ct t → (l : Lock) → (l.held ≤ last_mode) × In t (of_resource l.resource (count_field l.held)) → get_or z (count_place (resources_in z) l) 0 ≡ ct l.resource l.held
count_is ct t z is l h = rw is (count_at ct t l.resource l.held h.0 h.1)

-- the words that the code meets are those of the steps on the state, with the counts that will be true
module _ (k : ℕ) (o m : Lock) (z : List ℕ) (eo : o ≡ read_lock z k) where
  module _ (r : ℕ) (t : Tables) (p : Movable r k m t) (is : z ≡ words t) where
    lock_is : lock t k ≡ o
    lock_is = sym (eo ∙ rw is (lock_read t k (move_low r k m t p) (move_high r k m t p)))

    uncounted_is : (y : List ℕ) → y ≡ lower_count (resources_in z) o z → y ≡ words_with (lowered (lock t k) (tally t)) t
    uncounted_is y ey = ey ∙ rw (← lock_is, resources_is t z is, is, ← (words_true t)) (lower_words (tally t) t (lock t k) (counted_at t (lock t k) (p.core.lock_ok k)))

    counted_is : (y : List ℕ) → y ≡ lower_count (resources_in z) o z → (a : List ℕ) → a ≡ raise_count (resources_in y) m y → a ≡ words_with (tally (move r k m t)) t
    counted_is y ey a ea =
        ea
        ∙ rw (resources_with (lowered (lock t k) (tally t)) t y (uncounted_is y ey), uncounted_is y ey) (raise_words (lowered (lock t k) (tally t)) t m (counted_at t m p.ok))
        ∙ ap (λ (ct : Counts). words_with ct t) (sym (tally_after r k m t p.core p.in_range p.near_old p.near_new p.ok))

  module _ (s : Moving k m z) where
    pub move_counting : Counting (λ n. 1 ≤ n) o z
    move_counting =
        let t = s.state in
        let g = s.good in
        let l = lock t k in
        let ok = g.core.lock_ok k in
        subst (λ (x : Lock). Counting (λ n. 1 ≤ n) x z) (lock_is s.resource t g s.is)
        (record {
          sized = moving_sized k m z s;
          low = λ e. (counted_at t l ok e).1.0;
          high = λ e. rw (resources_is t z s.is) (counted_at t l ok e).1.1;
          mode = λ e. (counted_at t l ok e).0;
          number = λ e. omega (arith, count_is (tally t) t z (s.is ∙ sym (words_true t)) l (counted_at t l ok e), lock_counted s.resource k m t g.core g.in_range g.near_old g.near_new g.ok e);
        })

    module _ (y : List ℕ) (ey : y ≡ lower_count (resources_in z) o z) (ky : Kept z y) where
      pub move_room : Counting (λ n. n ≤ 2 * most_locks) m y
      move_room =
          let t = s.state in
          let ct = lowered (lock t k) (tally t) in
          let iy = uncounted_is s.resource t s.good s.is y ey in
          let there = counted_at t m s.good.ok in
          record {
            sized = ky.sized;
            low = λ e. (there e).1.0;
            high = λ e. rw (resources_with ct t y iy) (there e).1.1;
            mode = λ e. (there e).0;
            number = λ e. omega (arith, count_is ct t y iy m (there e), lowered_less (lock t k) (tally t) m.resource m.held, tally_few t s.good.core m.resource m.held (there e).1.0 (there e).1.1);
          }

      module _ (a : List ℕ) (ea : a ≡ raise_count (resources_in y) m y) (ka : Kept y a) where
        start_is : a ≡ words_with (tally (move s.resource k m s.state)) s.state
        start_is = counted_is s.resource s.state s.good s.is y ey a ea

        pub move_sides : Sided k o m a
        move_sides =
            record {
              sized = ka.sized;
              low = moving_low k m z s;
              high = moving_after k m z s a (kept_trans z y a ky ka);
              state = s.state;
              whole = move_whole s.resource k m s.state s.good;
              here = lock_is s.resource s.state s.good s.is;
              new = move_new s.resource k m s.state s.good;
              counts = tally (move s.resource k m s.state);
              is = start_is;
            }

  module _ (y : List ℕ) (ey : y ≡ lower_count (resources_in z) o z) (a : List ℕ) (ea : a ≡ raise_count (resources_in y) m y) where
    pub moved_all : (e : List ℕ) → e ≡ move_cells (resources_in a) (locks_in a) k o m a → Moved k m z e
    moved_all e ee =
        record {
          then = λ r t p is. let ct = tally (move r k m t) in
              let ia = counted_is r t p is y ey a ea in
              ee ∙ rw (← (lock_is r t p is), resources_with ct t a ia, locks_with ct t a ia, ia) (sym (moved_with r k m t p.core p.in_range p.near_old p.near_new p.ok ct)) ∙ words_true (move r k m t);
        }

-- a lock that stays at home and holds what it held: no count changes
module _ (k : ℕ) (o m : Lock) (a : List ℕ) (eo : o ≡ read_lock a k) (same : (s h : ℕ) → holds_mode o s h ≡ holds_mode m s h)
    (b : List ℕ) (eb : b ≡ side_cells (resources_in a) (locks_in a) k o m a) (w : Bool) (ew : w ≡ stays o m) (e : List ℕ) where
  module _ (r : ℕ) (t : Tables) (p : Movable r k m t) (is : a ≡ words t) where
    same_size : resources_in b ≡ resources_in a
    same_size =
        let w = move_whole r k m t p in
        let low = move_low r k m t p in
        let high = move_high r k m t p in
        let new = move_new r k m t p in
        resources_with (tally t) (notify k m t) b (eb ∙ side_words (tally t) k o m a t w low high (lock_is k o m a eo r t p is) new (is ∙ sym (words_true t)))
        ∙ (sane_notify (length t.resources) (length t.locks) t w k m low high new).resources ∙ sym (resources_is t a is)

    same_counts : words_with (tally t) (move r k m t) ≡ words (move r k m t)
    same_counts =
        ap (λ (ct : Counts). words_with ct (move r k m t))
        (sym (tally_same r k m t p.core p.in_range p.near_old p.near_new p.ok (λ s h. ap (λ (l : Lock). holds_mode l s h) (lock_is k o m a eo r t p is) ∙ same s h)))
        ∙ words_true (move r k m t)

  pub moved_uncounted : w ≡ true → e ≡ set_cells (resources_in b) k m b → Moved k m a e
  moved_uncounted q ee =
      record {
        then = λ r t p is. stored_at_home k o m a b eb w ew e (same_size r t p is) q ee
            ∙ rw (← (lock_is k o m a eo r t p is), resources_is t a is, locks_is t a is, is, ← (words_true t)) (sym (moved_with r k m t p.core p.in_range p.near_old p.near_new p.ok (tally t)))
            ∙ same_counts r t p is;
      }

pub ruleset move_laws = (rules, moving_sized, moving_low, moving_high, move_counting, move_room, move_sides, moved_all, kept_trans)
