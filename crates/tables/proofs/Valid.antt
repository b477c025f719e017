-- Laws of valid states, and of `move`. Every statement holds of every number, in range or not.
use mathlib.Core.Path.{◌≡◌, refl, sym, ◌∙◌, subst}
use mathlib.Core.Logic.{◌≢◌}
use mathlib.Core.Bool.{Bool, true, false, ◌&&◌}
use mathlib.Core.List.{List}
use Prim.Native.Nat.{ℕ, zero, suc, ◌≤◌}
use native.Mathlib.Omega.{arith}
use lib.ListN.{length}
use lib.Dec.{eqb}
use borrow.Author.Tests.{eqb-true, eq-eqb, ne_eqb}
use Rattle.modes.specs.Modes.{compatible}
use Rattle.modes.proofs.Laws.{compatible_sym}
use Rattle.tables.specs.Lists.{within, count, bit}
use Rattle.tables.specs.State.{Lock, Resource, Tables, no_lock, no_resource, lock, resource, granted, converting, blocked_lock, holds, grants, converts, waits, LockChain, free_locks, denied, blocked, notices, queue, chain, belongs, shift, shift_front, relist, move}
use Rattle.tables.proofs.Cases.{by_cases, by_equal, clash}
use Rattle.tables.proofs.Counts.{length_put, nth_put_same, nth_put_other, nth_out, count_shift, count_shift_other, count_front, count_front_other, within_le}
use Rattle.tables.specs.Validity.{used, Place, LockOk, ResourceOk, Linked, Core, Near, as_free, as_granted, as_converting, as_waiting, as_denied}
use Rattle.tables.proofs.StateCases.{StateOk, ok_numbered}

-- how a lock that was on a chain (or not) comes to be on it (or not)
abbrev pub enter : LockChain → Bool → Bool → ℕ → List ℕ → List ℕ
enter free_locks b c k xs = shift_front b c k xs
enter denied b c k xs = shift b c k xs
enter blocked b c k xs = shift b c k xs
enter notices b c k xs = shift b c k xs
enter (queue r grants) b c k xs = shift b c k xs
enter (queue r converts) b c k xs = shift b c k xs
enter (queue r waits) b c k xs = shift b c k xs

-- what is known of a lock in a known state
pub ok_at : (u : ℕ → Bool) (l : Lock) (n : ℕ) → LockOk u l → eqb l.state n ≡ true → StateOk u l n
ok_at u l n ok e = subst (StateOk u l) (eqb-true l.state n e) (ok_numbered ok)

pub holder_place : (u : ℕ → Bool) (l : Lock) → LockOk u l → holds l ≡ true → Place u l
holder_place u l ok h = by_cases (granted l) (λ g. (ok_at u l 1 ok g).place) (λ g. (ok_at u l 2 ok (rw g at h)).place)

pub blocked_lock_place : (u : ℕ → Bool) (l : Lock) → LockOk u l → blocked_lock l ≡ true → Place u l
blocked_lock_place u l ok h = by_cases (converting l) (λ c. (ok_at u l 2 ok c).place) (λ c. (ok_at u l 3 ok (rw c at h)).place)

pub absent : (t : Tables) (r : ℕ) → within (length t.resources) r ≡ false → resource t r ≡ no_resource
unfolding resource
absent t r h = nth_out no_resource t.resources r h

pub absent_lock : (t : Tables) (k : ℕ) → within (length t.locks) k ≡ false → lock t k ≡ no_lock
unfolding lock
absent_lock t k h = nth_out no_lock t.locks k h

pub used_within : (t : Tables) (r : ℕ) → used t r ≡ true → within (length t.resources) r ≡ true
unfolding used
used_within t r u = by_cases (within (length t.resources) r) (λ h. h) (λ h. cc (absent t r h))

-- what every lock keeps to, whatever its state: modes, a client of at most 255, a resource that there is or none
module _ (u : ℕ → Bool) (l : Lock) where
  pub modes_low : (s : ℕ) → StateOk u l s → (l.held ≤ 5) × (l.asked ≤ 5)
  modes_low zero ok = rw ok (omega arith, omega arith)
  modes_low (suc zero) ok = (ok.place.held_mode, ok.place.asked_mode)
  modes_low (suc (suc zero)) ok = (ok.place.held_mode, ok.place.asked_mode)
  modes_low (suc (suc (suc zero))) ok = (ok.place.held_mode, ok.place.asked_mode)
  modes_low (suc (suc (suc (suc zero)))) ok = (omega (arith, ok.holds), omega (arith, ok.asks))
  modes_low (suc (suc (suc (suc (suc n))))) ok = absurd ok

  pub client_low : (s : ℕ) → StateOk u l s → l.client ≤ 255
  client_low zero ok = rw ok (omega arith)
  client_low (suc zero) ok = ok.place.client_high
  client_low (suc (suc zero)) ok = ok.place.client_high
  client_low (suc (suc (suc zero))) ok = ok.place.client_high
  client_low (suc (suc (suc (suc zero)))) ok = ok.client_high
  client_low (suc (suc (suc (suc (suc n))))) ok = absurd ok

pub housed : (t : Tables) (l : Lock) (s : ℕ) → StateOk (used t) l s → l.resource ≤ length t.resources
housed t l zero ok = rw ok (omega arith)
housed t l (suc zero) ok = (within_le (length t.resources) l.resource (used_within t l.resource ok.place.in_use)).1
housed t l (suc (suc zero)) ok = (within_le (length t.resources) l.resource (used_within t l.resource ok.place.in_use)).1
housed t l (suc (suc (suc zero))) ok = (within_le (length t.resources) l.resource (used_within t l.resource ok.place.in_use)).1
housed t l (suc (suc (suc (suc zero)))) ok = omega (arith, ok.nowhere)
housed t l (suc (suc (suc (suc (suc n))))) ok = absurd ok

-- the laws of move
module _ (r k : ℕ) (m : Lock) (t : Tables) where
  pub lock_same : within (length t.locks) k ≡ true → lock (move r k m t) k ≡ m
  unfolding lock move
  lock_same h = nth_put_same no_lock t.locks k m h

  pub lock_other : (j : ℕ) → j ≢ k → lock (move r k m t) j ≡ lock t j
  unfolding lock move
  lock_other j h = nth_put_other no_lock t.locks k m j h

  pub resource_same : within (length t.resources) r ≡ true → resource (move r k m t) r ≡ relist k (lock t k) m (resource t r)
  unfolding resource move
  resource_same h = nth_put_same no_resource t.resources r _ h

  pub resource_other : (s : ℕ) → s ≢ r → resource (move r k m t) s ≡ resource t s
  unfolding resource move
  resource_other s h = nth_put_other no_resource t.resources r _ s h

  pub locks_length : length (move r k m t).locks ≡ length t.locks
  unfolding move
  locks_length = length_put no_lock t.locks k m

  pub resources_length : length (move r k m t).resources ≡ length t.resources
  unfolding move
  resources_length = length_put no_resource t.resources r _

  pub out_of_range : within (length t.resources) r ≡ false → resource (move r k m t) r ≡ resource t r
  out_of_range h = absent (move r k m t) r (rw resources_length h) ∙ sym (absent t r h)

  -- what relist leaves alone
  pub field_move : {A : Type 0} (f : Resource → A) → ((l : Lock) (x : Resource) → f (relist k l m x) ≡ f x) → (s : ℕ) → f (resource (move r k m t) s) ≡ f (resource t s)
  field_move f h s =
      by_equal s r
      (λ e. rw e (by_cases (within (length t.resources) r) (λ w. rw (resource_same w) (h _ _)) (λ w. rw (out_of_range w))))
      (λ n. rw (resource_other s n))

  pub used_move : (s : ℕ) → used (move r k m t) s ≡ used t s
  unfolding used
  used_move s = rw (field_move (λ (x : Resource). x.name) (unfold relist in λ l x. refl) s)

-- where a lock that stands on a resource has it: for the states 1, 2, 3
pub used_zero : (t : Tables) → used t 0 ≡ false
unfolding used resource
used_zero t = refl

abbrev pub HomeState : ℕ → Type 0
HomeState s = (u : ℕ → Bool) (l : Lock) → LockOk u l → l.state ≡ s → u l.resource ≡ true

pub home1 : HomeState 1
home1 u l ok e = (ok_at u l 1 ok (eq-eqb l.state 1 e)).place.in_use

pub home2 : HomeState 2
home2 u l ok e = (ok_at u l 2 ok (eq-eqb l.state 2 e)).place.in_use

pub home3 : HomeState 3
home3 u l ok e = (ok_at u l 3 ok (eq-eqb l.state 3 e)).place.in_use

-- which home chains of a resource have a lock: those of its own
module _ (n : ℕ) (home : HomeState n) (u : ℕ → Bool) (l : Lock) (ok : LockOk u l) where
  pub off : (s : ℕ) → (u s ≡ true → l.resource ≢ s) → (eqb l.state n && eqb l.resource s) ≡ false
  off s h =
      by_cases (eqb l.state n)
      (λ e. rw (e, ne_eqb l.resource s (λ q. h (rw q at (home u l ok (eqb-true l.state n e))) q)))
      (λ e. rw e)

  pub here : (r : ℕ) → u 0 ≡ false → Near r l → (eqb l.state n && eqb l.resource r) ≡ eqb l.state n
  here r z near =
      by_cases (eqb l.state n)
      (λ e. rw (e, eq-eqb l.resource r (near (λ q. clash (u 0) (rw q at (home u l ok (eqb-true l.state n e))) z))))
      (λ e. rw e)

count_enter : (x : LockChain) (b c : Bool) (k : ℕ) (xs : List ℕ) → count k xs ≡ bit b → count k (enter x b c k xs) ≡ bit c
count_enter free_locks = count_front
count_enter denied = count_shift
count_enter blocked = count_shift
count_enter notices = count_shift
count_enter (queue r grants) = count_shift
count_enter (queue r converts) = count_shift
count_enter (queue r waits) = count_shift

count_enter_other : (x : LockChain) (b c : Bool) (j k : ℕ) (xs : List ℕ) → j ≢ k → count j (enter x b c k xs) ≡ count j xs
count_enter_other free_locks = count_front_other
count_enter_other denied = count_shift_other
count_enter_other blocked = count_shift_other
count_enter_other notices = count_shift_other
count_enter_other (queue r grants) = count_shift_other
count_enter_other (queue r converts) = count_shift_other
count_enter_other (queue r waits) = count_shift_other

module _ (r k : ℕ) (m : Lock) (t : Tables) (ok_old : LockOk (used t) (lock t k)) (ok_new : LockOk (used t) m) (near_old : Near r (lock t k)) (near_new : Near r m) where
  away : (l : Lock) → Near r l → (s : ℕ) → s ≢ r → used t s ≡ true → l.resource ≢ s
  away l near s n u q = n (sym q ∙ near (λ z. clash (used t 0) (rw (sym q ∙ z) at u) (used_zero t)))

  nowhere : (l : Lock) → within (length t.resources) r ≡ false → used t r ≡ true → l.resource ≢ r
  nowhere l w u q = clash (within (length t.resources) r) (used_within t r u) w

  home_move : (n : ℕ) → HomeState n → (f : Resource → List ℕ) → ((x : Resource) → f (relist k (lock t k) m x) ≡ shift (eqb (lock t k).state n) (eqb m.state n) k (f x)) →
      (s : ℕ) → f (resource (move r k m t) s) ≡ shift (eqb (lock t k).state n && eqb (lock t k).resource s) (eqb m.state n && eqb m.resource s) k (f (resource t s))
  unfolding shift
  home_move n home f relisted s =
      by_equal s r
      (λ e. rw e (by_cases (within (length t.resources) r)
      (λ w. rw (resource_same r k m t w, here n home (used t) (lock t k) ok_old r (used_zero t) near_old, here n home (used t) m ok_new r (used_zero t) near_new) (relisted _))
      (λ w. rw (out_of_range r k m t w, off n home (used t) (lock t k) ok_old r (nowhere (lock t k) w), off n home (used t) m ok_new r (nowhere m w)))))
      (λ e. rw (resource_other r k m t s e, off n home (used t) (lock t k) ok_old s (away (lock t k) near_old s e), off n home (used t) m ok_new s (away m near_new s e)))

  -- what a move does to each chain
  pub chain_move : (c : LockChain) → chain (move r k m t) c ≡ enter c (belongs c (lock t k)) (belongs c m) k (chain t c)
  unfolding move
  chain_move free_locks = refl
  chain_move denied = refl
  chain_move blocked = refl
  chain_move notices = refl
  chain_move (queue s grants) = home_move 1 home1 (λ (x : Resource). x.grant) (unfold relist in λ x. refl) s
  chain_move (queue s converts) = home_move 2 home2 (λ (x : Resource). x.convert) (unfold relist in λ x. refl) s
  chain_move (queue s waits) = home_move 3 home3 (λ (x : Resource). x.wait) (unfold relist in λ x. refl) s

  module _ (in_range : within (length t.locks) k ≡ true) (linked : Linked t) where
    before : (c : LockChain) → count k (chain t c) ≡ bit (belongs c (lock t k))
    before c = rw in_range at (linked c k)

    at_k : (c : LockChain) → count k (chain (move r k m t) c) ≡ bit (belongs c m)
    at_k c = rw (chain_move c) (count_enter c (belongs c (lock t k)) (belongs c m) k (chain t c) (before c))

    at_other : (c : LockChain) (j : ℕ) → j ≢ k → count j (chain (move r k m t) c) ≡ count j (chain t c)
    at_other c j n = rw (chain_move c) (count_enter_other c (belongs c (lock t k)) (belongs c m) j k (chain t c) n)

    linked_move : Linked (move r k m t)
    linked_move c j =
        rw (locks_length r k m t)
        (by_equal j k
        (λ e. rw (e, in_range, lock_same r k m t in_range) (at_k c))
        (λ n. rw (lock_other r k m t j n) (at_other c j n ∙ linked c j)))

place_map : (u v : ℕ → Bool) (l : Lock) → (u l.resource ≡ true → v l.resource ≡ true) → Place u l → Place v l
place_map u v l h p = record { in_use = h p.in_use; client_low = p.client_low; client_high = p.client_high; held_mode = p.held_mode; asked_mode = p.asked_mode; mark_mode = p.mark_mode }

pub ok_map : (u v : ℕ → Bool) (l : Lock) → (u l.resource ≡ true → v l.resource ≡ true) → LockOk u l → LockOk v l
ok_map u v l h (as_free e) = as_free e
ok_map u v l h (as_granted s ok) = as_granted s (record { place = place_map u v l h ok.place; asks = ok.asks; notice = ok.notice; not_denied = ok.not_denied })
ok_map u v l h (as_converting s ok) = as_converting s (record { place = place_map u v l h ok.place; notice = ok.notice })
ok_map u v l h (as_waiting s ok) = as_waiting s (record { place = place_map u v l h ok.place; notice = ok.notice; holds = ok.holds; no_mark = ok.no_mark })
ok_map u v l h (as_denied s ok) = as_denied s ok

same_resource_ok : (x y : Resource) → y.name ≡ x.name → y.value ≡ x.value → y.valid ≡ x.valid → ResourceOk x → ResourceOk y
same_resource_ok x y n v f ok =
    record {
      name_length = rw n ok.name_length;
      value_length = rw v ok.value_length;
      flag = rw f ok.flag;
      unused = rw (n, f) ok.unused;
      unused_value = rw (n, v) ok.unused_value;
    }

-- m is compatible with every mode that a lock other than k holds on r
abbrev pub Fits : Tables → ℕ → ℕ → ℕ → Type 0
Fits t r k m = (j : ℕ) → j ≢ k → holds (lock t j) ≡ true → (lock t j).resource ≡ r → compatible (lock t j).held m ≡ true

-- a lock's record changes: the one law that all calls rest on
pub core_move : (r k : ℕ) (m : Lock) (t : Tables) → Core t → within (length t.locks) k ≡ true → Near r (lock t k) → Near r m →
    LockOk (used t) m → (holds m ≡ true → Fits t m.resource k m.held) → Core (move r k m t)
core_move r k m t c w near_old near_new ok fit =
    record {
      resources_low = rw (resources_length r k m t) c.resources_low;
      resources_high = rw (resources_length r k m t) c.resources_high;
      locks_low = rw (locks_length r k m t) c.locks_low;
      locks_high = rw (locks_length r k m t) c.locks_high;
      linked = linked_move r k m t (c.lock_ok k) ok near_old near_new w c.linked;
      spare = λ s. rw (resources_length r k m t, name_is s) (unfold move in c.spare s);
      lock_ok = locks_ok;
      resource_ok = λ s. same_resource_ok (resource t s) _ (name_is s) (field_move r k m t (λ (x : Resource). x.value) (unfold relist in λ l x. refl) s) (field_move r k m t (λ (x : Resource). x.valid) (unfold relist in λ l x. refl) s) (c.resource_ok s);
      names = λ s s' n. rw (used_move r k m t s, name_is s, name_is s') (c.names s s' n);
      agree = agreed;
    }
  where
    name_is : (s : ℕ) → (resource (move r k m t) s).name ≡ (resource t s).name
    name_is s = field_move r k m t (λ (x : Resource). x.name) (unfold relist in λ l x. refl) s

    same_use : (l : Lock) → LockOk (used t) l → LockOk (used (move r k m t)) l
    same_use l = ok_map (used t) (used (move r k m t)) l (λ h. rw (used_move r k m t l.resource) h)

    locks_ok : (j : ℕ) → LockOk (used (move r k m t)) (lock (move r k m t) j)
    locks_ok j = by_equal j k (λ e. rw (e, lock_same r k m t w) (same_use m ok)) (λ n. rw (lock_other r k m t j n) (same_use (lock t j) (c.lock_ok j)))

    agreed : (j i : ℕ) → j ≢ i → holds (lock (move r k m t) j) ≡ true → holds (lock (move r k m t) i) ≡ true → (lock (move r k m t) j).resource ≡ (lock (move r k m t) i).resource →
        compatible (lock (move r k m t) j).held (lock (move r k m t) i).held ≡ true
    agreed j i n =
        by_equal j k
        (λ e. rw (e, lock_same r k m t w, lock_other r k m t i (λ q. n (e ∙ sym q))) (λ a b q. compatible_sym m.held (lock t i).held ∙ fit a i (λ z. n (e ∙ sym z)) b (sym q)))
        (λ nj. by_equal i k
        (λ e. rw (e, lock_same r k m t w, lock_other r k m t j nj) (λ a b q. fit b j nj a q))
        (λ ni. rw (lock_other r k m t j nj, lock_other r k m t i ni) (c.agree j i n)))
