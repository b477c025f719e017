-- Changes of a resource's record, in the words and in the slots.
use mathlib.Core.Path.{◌≡◌, refl, sym, ◌∙◌, ap, ap₂}
use mathlib.Core.Bool.{Bool, true, false, ◌&&◌, not}
use mathlib.Core.List.{List, [], ◌∷◌, ◌++◌}
use Prim.Native.Nat.{ℕ, ◌-◌, ◌*◌, ◌<◌, ◌≤◌}
use native.Mathlib.Omega.{arith}
use lib.ListN.{length, replicate, take}
use lib.Dec.{eqb}
use borrow.Author.Rules.{rules}
use borrow.Author.Tests.{not-true, not-false}
use Rattle.tables.specs.Lists.{nth, null, from}
use Rattle.tables.specs.State.{Resource, Tables, name_width, value_width, no_lock, no_resource, lock, resource, Queue, grants, converts, waits, queue_of, shift_front, move_resource}
use Rattle.tables.specs.Layout.{of_resource, words, flat_map, slot_width, slot, slots, resources_in, word_in, slot_in}
use Rattle.tables.specs.Grants.{empty}
use Rattle.tables.proofs.Cases.{by_cases}
use Rattle.tables.proofs.Blocks.{flat_map_same}
use Rattle.tables.proofs.Counts.{within_le, length_put, put_own}
use Rattle.tables.proofs.Numbered.{nth_put_blind}
use Rattle.tables.proofs.SlotChanges.{slots_move}
use Rattle.tables.specs.Validity.{used}
use Rattle.table_fields.specs.Sizes.{Sized}
use Rattle.rules.specs.Queues.{grant_lock, grant_while, grant_converts, grant_waits, sweep, free_lock, settle}
use Rattle.rules.specs.Calls.{stores, spoils, with_value, leave_value, new_resource}
use Rattle.rules.proofs.ResourceChanges.{empty_chains, SameChains}
use Rattle.rules.proofs.RequestKeepsSound.{unused_chains}
use Rattle.table_chains.specs.Promises.{Some, Turns, Tells, Changes, Resourced, Refilled, ResourceMoved}
use Rattle.table_chains.proofs.ChainWalks.{here_sized, here_low, here_high}
use Rattle.table_names.specs.Promises.{with_slot, blank}
use Rattle.table_names.proofs.StateNames.{length_is, slot_there, free_slot, put_name, put_value, put_blank}
use Rattle.queues.specs.Promises.{SomeTables, Vacant, Takes, Valued}
use Rattle.queues.proofs.QueueReads.{head_null}

-- SLOTS that a change leaves as they are
pub slots_same : (r : ℕ) (x : Resource) (t : Tables) → slot x ≡ slot (resource t r) → slots (move_resource r x t) ≡ slots t
unfolding slots move_resource resource
slots_same r x t e =
    ap (λ (n : ℕ). flat_map (λ s. slot (resource (move_resource r x t) s)) (from 1 n)) (length_put no_resource t.resources r x)
    ∙ flat_map_same (λ s. slot (resource t s)) (λ s. slot (resource (move_resource r x t) s)) 1 (length t.resources) (λ s p. nth_put_blind no_resource slot t.resources r s x e)

slots_while : (f : Tables → ℕ → ℕ → Bool) (r : ℕ) (qs : List ℕ) (t : Tables) → slots (grant_while f r qs t) ≡ slots t
unfolding grant_while grant_lock
slots_while f r [] t = refl
slots_while f r (k ∷ ks) t =
    by_cases (f t r k)
    (λ e. rw (e, grant_while) (slots_while f r ks (grant_lock r k t) ∙ slots_move r k _ t))
    (λ e. rw (e, grant_while))

pub slots_sweep : (r : ℕ) (t : Tables) → slots (sweep r t) ≡ slots t
unfolding sweep grant_waits grant_converts
slots_sweep r t = slots_while _ r _ (grant_converts r t) ∙ slots_while _ r _ t

pub slots_free : (k : ℕ) (t : Tables) → slots (free_lock k t) ≡ slots t
unfolding free_lock
slots_free k t = slots_move (lock t k).resource k no_lock t

-- a resource that becomes itself
front_own : (b : Bool) (k : ℕ) (xs : List ℕ) → shift_front b b k xs ≡ xs
unfolding shift_front
front_own true k xs = refl
front_own false k xs = refl

move_own : (r : ℕ) (t : Tables) → move_resource r (resource t r) t ≡ t
unfolding move_resource resource
move_own r t = λ i. record {
  resources = put_own no_resource t.resources r i;
  locks = t.locks;
  free_resources = front_own (null (nth t.resources r no_resource).name) r t.free_resources i;
  free_locks = t.free_locks;
  denied = t.denied;
  blocked = t.blocked;
  notices = t.notices;
}

-- what every function here stands on
module _ (P : Tables → Type 0) (r : ℕ) (weak : (t : Tables) → P t → Resourced r t) (a sa : List ℕ) (s : SomeTables P a sa) where
  some_of : Some (Resourced r) a
  some_of = record { state = s.state; good = weak s.state s.good; is = s.is }

  room_of : slot_width * r ≤ length sa
  room_of =
      let p = weak s.state s.good in
      let w = within_le (length s.state.resources) r p.in_range in
      rw s.slots_are (slot_there s.state p.core r w.0 w.1)

module _ (r : ℕ) (t : Tables) (p : Resourced r t) where
  low : 1 ≤ r
  low = (within_le (length t.resources) r p.in_range).0

  high : r ≤ length t.resources
  high = (within_le (length t.resources) r p.in_range).1

queues_same : (x y : Resource) → SameChains x y → (q : Queue) → queue_of q x ≡ queue_of q y
queues_same x y s grants = s.grant
queues_same x y s converts = s.convert
queues_same x y s waits = s.wait

-- free_resource
vacant_here : (r : ℕ) (t : Tables) → Vacant r t → Resourced r t
vacant_here r t p = record { core = p.core; in_range = p.in_range }

vacant_filled : (r : ℕ) (t : Tables) → Vacant r t → Refilled r 0 0 no_resource t
vacant_filled r t p =
    let e = empty_chains (resource t r) p.none in
    record {
      core = p.core;
      in_range = p.in_range;
      queues = queues_same no_resource (resource t r) (record { grant = sym e.0; convert = sym e.1; wait = sym e.2 });
      name_is = refl;
      valid_is = refl;
    }

module _ (r : ℕ) (a sa : List ℕ) where
  module _ (s : SomeTables (Vacant r) a sa) where
    pub vacant_some : Some (Resourced r) a
    vacant_some = some_of (Vacant r) r (vacant_here r) a sa s

    pub vacant_low : 1 ≤ r
    vacant_low = here_low a r vacant_some

    pub vacant_room : slot_width * r ≤ length sa
    vacant_room = room_of (Vacant r) r (vacant_here r) a sa s

  pub vacant_freed : (b sb : List ℕ) → ResourceMoved r 0 0 a b → sb ≡ with_slot r blank sa → Changes (Vacant r) (move_resource r no_resource) a sa b sb
  vacant_freed b sb moved e = record {
    then = λ t p is iss. (
      moved.then t no_resource (vacant_filled r t p) is,
      e ∙ ap (λ (x : List ℕ). with_slot r blank x) iss ∙ put_blank t p.core r (low r t (vacant_here r t p)) (high r t (vacant_here r t p)),
    );
  }

pub ruleset vacant_laws = (rules, vacant_some, vacant_low, vacant_room, vacant_freed)

-- take_resource
takes_here : (r : ℕ) (n : List ℕ) (t : Tables) → Takes r n t → Resourced r t
takes_here r n t p = record { core = p.core; in_range = p.in_range }

takes_filled : (r : ℕ) (n : List ℕ) (t : Tables) → Takes r n t → Refilled r (length n) 1 (new_resource n) t
takes_filled r n t p =
    record {
      core = p.core;
      in_range = p.in_range;
      queues = queues_same (new_resource n) (resource t r) (unused_chains t p.core r p.free n);
      name_is = refl;
      valid_is = refl;
    }

unused_null : (t : Tables) (r : ℕ) → used t r ≡ false → null (resource t r).name ≡ true
unfolding used
unused_null t r h = not-false (null (resource t r).name) h

module _ (r : ℕ) (n a sa : List ℕ) where
  module _ (s : SomeTables (Takes r n) a sa) where
    pub takes_some : Some (Resourced r) a
    takes_some = some_of (Takes r n) r (takes_here r n) a sa s

    pub takes_low : 1 ≤ r
    takes_low = here_low a r takes_some

    pub takes_room : slot_width * r ≤ length sa
    takes_room = room_of (Takes r n) r (takes_here r n) a sa s

    pub takes_short : length n ≤ name_width
    takes_short = s.good.short

    pub takes_narrow : length n < 4294967296
    takes_narrow = omega (arith, s.good.short)

    pub takes_blank : slot_in sa r ≡ blank
    takes_blank =
        let t = s.state in
        let h = takes_here r n t s.good in
        ap (λ (x : List ℕ). slot_in x r) s.slots_are ∙ free_slot t s.good.core r (low r t h) (high r t h) (unused_null t r s.good.free)

  pub taken : (b sb : List ℕ) → ResourceMoved r (length n) 1 a b → sb ≡ with_slot r (slot (new_resource n)) sa → Changes (Takes r n) (move_resource r (new_resource n)) a sa b sb
  taken b sb moved e = record {
    then = λ t p is iss. (
      moved.then t (new_resource n) (takes_filled r n t p) is,
      e ∙ ap (λ (x : List ℕ). with_slot r (slot (new_resource n)) x) iss ∙ put_name t p.core r (low r t (takes_here r n t p)) (high r t (takes_here r n t p)) n,
    );
  }

pub ruleset takes_laws = (rules, takes_some, takes_low, takes_room, takes_short, takes_narrow, takes_blank, taken)

-- leave_value
valued_here : (f : ℕ) (v : List ℕ) (r : ℕ) (t : Tables) → Valued f v r t → Resourced r t
valued_here f v r t p = record { core = p.core; in_range = p.in_range }

leave_acts : (b : Bool) (f : ℕ) (v : List ℕ) (r : ℕ) (t : Tables) → b ≡ true → leave_value b f v r t ≡ move_resource r (with_value f v (resource t r)) t
unfolding leave_value
leave_acts b f v r t e = rw (e, leave_value)

leave_not : (b : Bool) (f : ℕ) (v : List ℕ) (r : ℕ) (t : Tables) → b ≡ false → leave_value b f v r t ≡ t
unfolding leave_value
leave_not b f v r t e = rw (e, leave_value)

value_queues : (f : ℕ) (v : List ℕ) (x : Resource) (q : Queue) → queue_of q (with_value f v x) ≡ queue_of q x
unfolding with_value
value_queues f v x grants = refl
value_queues f v x converts = refl
value_queues f v x waits = refl

value_name : (f : ℕ) (v : List ℕ) (x : Resource) → (with_value f v x).name ≡ x.name
unfolding with_value
value_name f v x = refl

stored_valid : (f : ℕ) (v : List ℕ) (x : Resource) → stores f ≡ true → (with_value f v x).valid ≡ 1
unfolding with_value
stored_valid f v x e = rw e

stored_value : (f : ℕ) (v : List ℕ) (x : Resource) → stores f ≡ true → (with_value f v x).value ≡ v
unfolding with_value
stored_value f v x e = rw e

spoiled_valid : (f : ℕ) (v : List ℕ) (x : Resource) → stores f ≡ false → spoils f ≡ true → (with_value f v x).valid ≡ 0
unfolding with_value
spoiled_valid f v x e g = rw (e, g)

kept_value : (f : ℕ) (v : List ℕ) (x : Resource) → stores f ≡ false → (with_value f v x).value ≡ x.value
unfolding with_value
kept_value f v x e = rw e

kept_resource : (f : ℕ) (v : List ℕ) (x : Resource) → stores f ≡ false → spoils f ≡ false → with_value f v x ≡ x
unfolding with_value
kept_resource f v x e g = rw (e, g)

kept_slot : (f : ℕ) (v : List ℕ) (x : Resource) → stores f ≡ false → slot (with_value f v x) ≡ slot x
unfolding slot
kept_slot f v x e = ap₂ (λ (n w : List ℕ). n ++ (replicate (name_width - length n) 0 ++ w)) (value_name f v x) (kept_value f v x e)

module _ (f r : ℕ) (v a sa : List ℕ) (acts : Bool) where
  module _ (s : SomeTables (Valued f v r) a sa) where
    pub valued_some : Some (Resourced r) a
    valued_some = some_of (Valued f v r) r (valued_here f v r) a sa s

    pub valued_sized : Sized a
    valued_sized = here_sized a r valued_some

    pub valued_low : 1 ≤ r
    valued_low = here_low a r valued_some

    pub valued_high : r ≤ resources_in a
    valued_high = here_high a r valued_some

    pub valued_room : slot_width * r ≤ length sa
    valued_room = room_of (Valued f v r) r (valued_here f v r) a sa s

    pub valued_right : (x : Bool) → x ≡ stores f → x ≡ true → length v ≡ value_width
    valued_right x e q = s.good.right (sym e ∙ q)

  pub leave_idle : not acts ≡ true → Changes (Valued f v r) (leave_value acts f v r) a sa a sa
  leave_idle q = record {
    then = λ t p is iss.
        let e = leave_not acts f v r t (not-true acts q) in
        (is ∙ ap words (sym e), iss ∙ ap slots (sym e));
  }

  module _ (q : not acts ≡ false) (x : Bool) (ex : x ≡ stores f) (n : ℕ) (en : n ≡ word_in a (of_resource r 4)) where
    filled : (t : Tables) → Valued f v r t → a ≡ words t → (w : ℕ) → (with_value f v (resource t r)).valid ≡ w → Refilled r n w (with_value f v (resource t r)) t
    filled t p is w e =
        let h = valued_here f v r t p in
        record {
          core = p.core;
          in_range = p.in_range;
          queues = value_queues f v (resource t r);
          name_is = ap length (value_name f v (resource t r)) ∙ sym (en ∙ ap (λ (ws : List ℕ). word_in ws (of_resource r 4)) is ∙ length_is t p.core r (low r t h) (high r t h));
          valid_is = e;
        }

    pub leave_stored : x ≡ true → (b sb : List ℕ) → ResourceMoved r n 1 a b → sb ≡ with_slot r (take name_width (slot_in sa r) ++ v) sa → Changes (Valued f v r) (leave_value acts f v r) a sa b sb
    leave_stored y b sb moved e = record {
      then = λ t p is iss.
          let h = valued_here f v r t p in
          let g = leave_acts acts f v r t (not-false acts q) in
          let z : stores f ≡ true = sym ex ∙ y in (
            moved.then t (with_value f v (resource t r)) (filled t p is 1 (stored_valid f v (resource t r) z)) is ∙ ap words (sym g),
            e ∙ ap (λ (ss : List ℕ). with_slot r (take name_width (slot_in ss r) ++ v) ss) iss
                ∙ put_value t p.core r (low r t h) (high r t h) (with_value f v (resource t r)) v (value_name f v (resource t r)) (stored_value f v (resource t r) z)
                ∙ ap slots (sym g),
          );
    }

    module _ (y : x ≡ false) (u : Bool) (eu : u ≡ spoils f) where
      pub leave_spoiled : u ≡ true → (b : List ℕ) → ResourceMoved r n 0 a b → Changes (Valued f v r) (leave_value acts f v r) a sa b sa
      leave_spoiled w b moved = record {
        then = λ t p is iss.
            let g = leave_acts acts f v r t (not-false acts q) in
            let z : stores f ≡ false = sym ex ∙ y in (
              moved.then t (with_value f v (resource t r)) (filled t p is 0 (spoiled_valid f v (resource t r) z (sym eu ∙ w))) is ∙ ap words (sym g),
              iss ∙ sym (slots_same r (with_value f v (resource t r)) t (kept_slot f v (resource t r) z)) ∙ ap slots (sym g),
            );
      }

      pub leave_kept : u ≡ false → Changes (Valued f v r) (leave_value acts f v r) a sa a sa
      leave_kept w = record {
        then = λ t p is iss.
            let e : leave_value acts f v r t ≡ t =
            leave_acts acts f v r t (not-false acts q) ∙ ap (λ (o : Resource). move_resource r o t) (kept_resource f v (resource t r) (sym ex ∙ y) (sym eu ∙ w)) ∙ move_own r t in
            (is ∙ ap words (sym e), iss ∙ ap slots (sym e));
      }

pub ruleset leave_laws = (rules, valued_some, valued_sized, valued_low, valued_high, valued_room, valued_right, leave_idle, leave_stored, leave_spoiled, leave_kept)

-- settle
module _ (ws : List ℕ) (r x y z : ℕ) (ex : x ≡ word_in ws (of_resource r 1)) (ey : y ≡ word_in ws (of_resource r 2)) (ez : z ≡ word_in ws (of_resource r 3)) where
  pub empty_told : Tells (Resourced r) (λ t. empty (resource t r)) ws (eqb x 0 && eqb y 0 && eqb z 0)
  unfolding empty
  empty_told = record {
    then = λ t p is.
        rw (ex, ey, ez, head_null r t p ws is grants, head_null r t p ws is converts, head_null r t p ws is waits);
  }

pub ruleset empty_laws = (rules, here_sized, here_low, here_high, empty_told)

module _ (r : ℕ) (a sa : List ℕ) (x : Bool) (told : Tells (Resourced r) (λ t. empty (resource t r)) a x) where
  pub settle_some : SomeTables (Resourced r) a sa → Some (Resourced r) a
  settle_some s = record { state = s.state; good = s.good; is = s.is }

  vacant_at : x ≡ true → (t : Tables) → Resourced r t → a ≡ words t → Vacant r t
  vacant_at q t p is = record { core = p.core; in_range = p.in_range; none = sym (told.then t p is) ∙ q }

  pub settle_vacant : x ≡ true → SomeTables (Resourced r) a sa → SomeTables (Vacant r) a sa
  settle_vacant q s = record { state = s.state; good = vacant_at q s.state s.good s.is; is = s.is; slots_are = s.slots_are }

  pub settle_freed : x ≡ true → (b sb : List ℕ) → Changes (Vacant r) (move_resource r no_resource) a sa b sb → Changes (Resourced r) (settle r) a sa b sb
  unfolding settle
  settle_freed q b sb h = record {
    then = λ t p is iss. rw (sym (told.then t p is) ∙ q, settle) (h.then t (vacant_at q t p is) is iss);
  }

  pub settle_swept : x ≡ false → (b : List ℕ) → Turns (Resourced r) (sweep r) a b → Changes (Resourced r) (settle r) a sa b sa
  unfolding settle
  settle_swept q b h = record {
    then = λ t p is iss. rw (sym (told.then t p is) ∙ q, settle) (h.then t p is, iss ∙ sym (slots_sweep r t));
  }

pub ruleset settle_laws = (rules, settle_some, settle_vacant, settle_freed, settle_swept)
