-- Telling locks one after the other, on a state: what stays, and that all holders told so are the obstacles marked.
use mathlib.Core.Path.{◌≡◌, refl, ◌∙◌, ap₂}
use mathlib.Core.Bool.{true, false, ◌&&◌, not}
use mathlib.Core.List.{List, [], ◌∷◌, ◌++◌}
use Prim.Native.Nat.{ℕ, ◌≤◌}
use native.Mathlib.Omega.{arith}
use lib.ListN.{length}
use lib.Dec.{eqb}
use Rattle.modes.specs.Modes.{compatible}
use Rattle.tables.specs.declared.Lock.{Lock}
use Rattle.tables.specs.Lists.{within, count, keep}
use Rattle.tables.specs.State.{Tables, with_notice, lock, resource, holds, Queue, queue_of}
use Rattle.tables.specs.Layout.{slots}
use Rattle.tables.specs.Validity.{Core}
use Rattle.tables.proofs.Cases.{by_cases, and_right}
use Rattle.tables.proofs.Counts.{count_same, count_step, keep_cong}
use Rattle.tables.proofs.Valid.{locks_length, resources_length}
use Rattle.tables.proofs.SlotChanges.{slots_move}
use Rattle.rules.specs.Deadlock.{in_the_way, obstacles}
use Rattle.rules.specs.Calls.{mark_lock, mark_locks, tell_obstacles}
use Rattle.rules.proofs.NoticesKeepSound.{mark_core, mark_field, mark_resource}
use Rattle.rules.proofs.MarkLaws.{hindered_mode}
use Rattle.table_chains.proofs.LockLimits.{held_few, asked_few}
use Rattle.marks.specs.Telling.{tell, tell_each}
use Rattle.marks.specs.Promises.{Markable, Tellable, Heeds}

-- ONE LOCK. It is in the way of k, or not
module _ (k j : ℕ) (t : Tables) where
  pub told_one : in_the_way t k j ≡ true → tell k j t ≡ mark_lock (lock t k).asked j t
  unfolding tell
  told_one h = rw (h, tell)

  pub told_none : in_the_way t k j ≡ false → tell k j t ≡ t
  unfolding tell
  told_none h = rw (h, tell)

  pub way_markable : Tellable k j t → in_the_way t k j ≡ true → Markable j (lock t k).asked t
  unfolding in_the_way
  way_markable p h =
      record {
        core = p.core;
        holder = p.holder;
        low = hindered_mode (lock t j).held (lock t k).asked (omega (arith, held_few t p.core j)) (and_right (not (eqb j k)) _ h);
        high = omega (arith, asked_few t p.core k);
      }

-- what stays: whatever marking keeps, telling keeps
tell_keeps : {A : Type 0} (f : Tables → A) (k j : ℕ) (t : Tables) → (f (mark_lock (lock t k).asked j t) ≡ f t) → f (tell k j t) ≡ f t
tell_keeps f k j t e = by_cases (in_the_way t k j) (λ h. rw (told_one k j t h) e) (λ h. rw (told_none k j t h))

module _ (k j : ℕ) (t : Tables) where
  pub tell_resource : (s : ℕ) → resource (tell k j t) s ≡ resource t s
  tell_resource s = tell_keeps (λ (u : Tables). resource u s) k j t (mark_resource (lock t k).asked j t s)

  tell_locks : length (tell k j t).locks ≡ length t.locks
  tell_locks = tell_keeps (λ (u : Tables). length u.locks) k j t (unfold mark_lock in locks_length (lock t j).resource j _ t)

  tell_resources : length (tell k j t).resources ≡ length t.resources
  tell_resources = tell_keeps (λ (u : Tables). length u.resources) k j t (unfold mark_lock in resources_length (lock t j).resource j _ t)

  module _ (p : Tellable k j t) where
    pub tell_core : Core (tell k j t)
    tell_core =
        by_cases (in_the_way t k j)
        (λ h. rw (told_one k j t h) (mark_core (lock t k).asked j t (way_markable k j t p h).high p.core p.holder))
        (λ h. rw (told_none k j t h) p.core)

    tell_field : {A : Type 0} (f : Lock → A) → ((e a : ℕ) (l : Lock) → f (with_notice e a l) ≡ f l) → (i : ℕ) → f (lock (tell k j t) i) ≡ f (lock t i)
    tell_field f same i = tell_keeps (λ (u : Tables). f (lock u i)) k j t (mark_field f same (lock t k).asked j t p.holder i)

    tell_holds : (i : ℕ) → holds (lock (tell k j t) i) ≡ holds (lock t i)
    tell_holds = tell_field (λ (l : Lock). holds l) (λ e a l. refl)

    -- the same locks are in the way
    tell_way : (i : ℕ) → in_the_way (tell k j t) k i ≡ in_the_way t k i
    unfolding in_the_way
    tell_way i =
        ap₂ (λ (h a : ℕ). not (eqb i k) && not (compatible h a)) (tell_field (λ (l : Lock). l.held) (λ e a l. refl) i) (tell_field (λ (l : Lock). l.asked) (λ e a l. refl) k)

    tell_asked : (lock (tell k j t) k).asked ≡ (lock t k).asked
    tell_asked = tell_field (λ (l : Lock). l.asked) (λ e a l. refl) k

-- A QUEUE that heeds k: each of its locks can be told, and whoever is told, it heeds k still
module _ (r : ℕ) (q : Queue) (k : ℕ) (t : Tables) (p : Heeds r q k t) (j : ℕ) where
  pub heeds_tellable : 1 ≤ count j (queue_of q (resource t r)) → Tellable k j t
  heeds_tellable on = record { core = p.core; holder = p.holders j on; in_range = p.in_range }

  pub tell_heeds : Tellable k j t → Heeds r q k (tell k j t)
  tell_heeds y =
      record {
        core = tell_core k j t y;
        there = rw (tell_resources k j t) p.there;
        in_range = rw (tell_locks k j t) p.in_range;
        holders = λ i m. rw (tell_holds k j t y i) (p.holders i (rw (tell_resource k j t r) at m));
      }

-- A LIST of locks
abbrev Holding : List ℕ → Tables → Type 0
Holding js t = (j : ℕ) → 1 ≤ count j js → holds (lock t j) ≡ true

module _ (k : ℕ) where
  each_tellable : (j : ℕ) (js : List ℕ) (t : Tables) → Core t → within (length t.locks) k ≡ true → Holding (j ∷ js) t → Tellable k j t
  each_tellable j js t c w h = record { core = c; holder = h j (rw count_same (omega arith)); in_range = w }

  each_holding : (j : ℕ) (js : List ℕ) (t : Tables) (p : Tellable k j t) → Holding (j ∷ js) t → Holding js (tell k j t)
  each_holding j js t p h i m = rw (tell_holds k j t p i) (h i (omega (arith, m, count_step i j js)))

  -- all that is told of are the obstacles among them, marked
  pub each_marks : (js : List ℕ) (t : Tables) → Core t → within (length t.locks) k ≡ true → Holding js t →
      tell_each k js t ≡ mark_locks (lock t k).asked (keep (in_the_way t k) js) t
  unfolding tell_each mark_locks keep
  each_marks [] t c w h = refl
  each_marks (j ∷ js) t c w h =
      let p = each_tellable j js t c w h in
      let u = tell k j t in
      let rest : tell_each k js u ≡ mark_locks (lock t k).asked (keep (in_the_way t k) js) u
      = each_marks js u (tell_core k j t p) (rw (tell_locks k j t) w) (each_holding j js t p h)
      ∙ ap₂ (λ (m : ℕ) (is : List ℕ). mark_locks m is u) (tell_asked k j t p) (keep_cong (in_the_way u k) (in_the_way t k) js (λ i m. tell_way k j t p i)) in
      by_cases (in_the_way t k j)
      (λ b. rest ∙ rw (b, told_one k j t b, mark_locks))
      (λ b. rest ∙ rw (b, told_none k j t b))

  pub each_append : (xs ys : List ℕ) (t : Tables) → tell_each k (xs ++ ys) t ≡ tell_each k ys (tell_each k xs t)
  unfolding tell_each
  each_append [] ys t = refl
  each_append (x ∷ xs) ys t = each_append xs ys (tell k x t)

  pub each_resource : (js : List ℕ) (t : Tables) (s : ℕ) → resource (tell_each k js t) s ≡ resource t s
  unfolding tell_each
  each_resource [] t s = refl
  each_resource (j ∷ js) t s = each_resource js (tell k j t) s ∙ tell_resource k j t s

  pub each_heeds : (r : ℕ) (q : Queue) (js : List ℕ) (t : Tables) → Heeds r q k t → Holding js t → Heeds r q k (tell_each k js t)
  unfolding tell_each
  each_heeds r q [] t p h = p
  each_heeds r q (j ∷ js) t p h =
      let y = each_tellable j js t p.core p.in_range h in
      each_heeds r q js (tell k j t) (tell_heeds r q k t p j y) (each_holding j js t y h)

-- THE SLOTS stay
marks_slots : (m : ℕ) (js : List ℕ) (t : Tables) → slots (mark_locks m js t) ≡ slots t
unfolding mark_locks mark_lock
marks_slots m [] t = refl
marks_slots m (j ∷ js) t = marks_slots m js (mark_lock m j t) ∙ slots_move (lock t j).resource j _ t

pub told_slots : (k : ℕ) (t : Tables) → slots (tell_obstacles k t) ≡ slots t
unfolding tell_obstacles
told_slots k t = marks_slots (lock t k).asked (obstacles t k) t
