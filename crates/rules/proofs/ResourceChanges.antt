-- A resource's record changes: freed, taken, or its value left.
use mathlib.Core.Path.{◌≡◌, refl, sym, ap, ◌∙◌}
use mathlib.Core.Logic.{◌≢◌}
use mathlib.Core.Bool.{Bool, true, false, ◌&&◌, not}
use mathlib.Core.List.{List, [], ◌∷◌}
use Prim.Native.Nat.{ℕ, zero, suc}
use native.Mathlib.Omega.{arith}
use lib.ListN.{length}
use borrow.Author.Tests.{not-true}
use Rattle.tables.specs.declared.Lock.{Lock}
use Rattle.tables.specs.Lists.{within, count, bit, null}
use Rattle.tables.specs.State.{Resource, Tables, no_value, no_resource, lock, resource, LockChain, chain, belongs, move_resource, grants, converts, waits, free_locks, denied, blocked, notices, queue, value_width}
use Rattle.tables.specs.Grants.{holders, fits, convert_grantable, empty}
use Rattle.tables.proofs.Cases.{by_cases, by_equal, clash, eqb_same, and_left, and_right}
use Rattle.tables.proofs.Counts.{length_put, nth_put_same, nth_put_other, count_front, count_front_other, count_nil, null_nil}
use Rattle.tables.specs.Validity.{used, ResourceOk, Core, line, idle, Settled}
use Rattle.tables.proofs.StateCases.{StateOk, ok_numbered}
use Rattle.tables.proofs.Valid.{used_within, ok_map}
use Rattle.tables.proofs.ChainMembers.{state_within, chain_has}
use Rattle.rules.specs.Calls.{stores, spoils, with_value, leave_value}
use Rattle.rules.proofs.ListOrder.{front_none}
use Rattle.rules.proofs.SweepLaws.{Swept}

pub empty_chains : (x : Resource) → empty x ≡ true → (x.grant ≡ []) × (x.convert ≡ []) × (x.wait ≡ [])
unfolding empty
empty_chains x h =
    (null_nil x.grant (and_left _ _ (and_left _ (null x.wait) h)), null_nil x.convert (and_right (null x.grant) _ (and_left _ (null x.wait) h)), null_nil x.wait (and_right (null x.grant && null x.convert) _ h))

-- nobody stands on an empty resource
pub nobody : (t : Tables) → Core t → (r : ℕ) → empty (resource t r) ≡ true → within (length t.resources) r ≡ true → (j : ℕ) → (lock t j).resource ≢ r
nobody t c r h w j e = go (lock t j).state refl (ok_numbered (c.lock_ok j))
  where
    none : (x : LockChain) (n : ℕ) → (lock t j).state ≡ suc n → belongs x (lock t j) ≡ true → chain t x ≡ [] → ⊥
    none x n s b z = omega (arith, chain_has t c.linked x j (state_within t j n s) b, ap (count j) z, count_nil j)

    zero_is : (lock t j).resource ≡ 0 → ⊥
    zero_is z = clash false (rw (sym e ∙ z) at w) refl

    go : (s : ℕ) → (lock t j).state ≡ s → StateOk (used t) (lock t j) s → ⊥
    go zero s ok = zero_is (ap (λ (l : Lock). l.resource) ok)
    go (suc zero) s ok = none (queue r grants) 0 s (rw (s, e, eqb_same r)) (empty_chains (resource t r) h).0
    go (suc (suc zero)) s ok = none (queue r converts) 1 s (rw (s, e, eqb_same r)) (empty_chains (resource t r) h).1
    go (suc (suc (suc zero))) s ok = none (queue r waits) 2 s (rw (s, e, eqb_same r)) (empty_chains (resource t r) h).2
    go (suc (suc (suc (suc zero)))) s ok = zero_is ok.nowhere
    go (suc (suc (suc (suc (suc n))))) s ok = ok

-- a resource's record changes, its chains do not
module _ (r : ℕ) (x : Resource) (t : Tables) where
  pub lock_kept : (k : ℕ) → lock (move_resource r x t) k ≡ lock t k
  unfolding lock move_resource
  lock_kept k = refl

  pub changed : within (length t.resources) r ≡ true → resource (move_resource r x t) r ≡ x
  unfolding resource move_resource
  changed h = nth_put_same no_resource t.resources r x h

  pub unchanged : (s : ℕ) → s ≢ r → resource (move_resource r x t) s ≡ resource t s
  unfolding resource move_resource
  unchanged s n = nth_put_other no_resource t.resources r x s n

  pub resources_kept : length (move_resource r x t).resources ≡ length t.resources
  unfolding move_resource
  resources_kept = length_put no_resource t.resources r x

  pub field_kept : {A : Type 0} (f : Resource → A) → within (length t.resources) r ≡ true → f x ≡ f (resource t r) → (s : ℕ) → f (resource (move_resource r x t) s) ≡ f (resource t s)
  field_kept f w h s = by_equal s r (λ e. rw (e, changed w) h) (λ n. rw (unchanged s n))

  pub used_unchanged : (s : ℕ) → s ≢ r → used (move_resource r x t) s ≡ used t s
  unfolding used
  used_unchanged s n = rw (unchanged s n)

  pub used_changed : within (length t.resources) r ≡ true → used (move_resource r x t) r ≡ not (null x.name)
  unfolding used
  used_changed w = rw (changed w)

pub used_name : (t : Tables) (s : ℕ) → used t s ≡ true → null (resource t s).name ≡ false
unfolding used
used_name t s u = not-true (null (resource t s).name) u

pub record SameChains (x y : Resource) : Type 0 where
  pub grant : x.grant ≡ y.grant
  pub convert : x.convert ≡ y.convert
  pub wait : x.wait ≡ y.wait

-- the free chain of resources, at r and elsewhere
spare_here : (r : ℕ) (x : Resource) (t : Tables) → count r t.free_resources ≡ bit (null (resource t r).name) → count r (move_resource r x t).free_resources ≡ bit (null x.name)
unfolding move_resource
spare_here r x t h = count_front (null (resource t r).name) (null x.name) r t.free_resources h

spare_other : (r : ℕ) (x : Resource) (t : Tables) (s : ℕ) → s ≢ r → count s (move_resource r x t).free_resources ≡ count s t.free_resources
unfolding move_resource
spare_other r x t s n = count_front_other (null (resource t r).name) (null x.name) s r t.free_resources n

pub core_resource : (r : ℕ) (x : Resource) (t : Tables) → Core t → within (length t.resources) r ≡ true → SameChains x (resource t r) → ResourceOk x →
    ((s : ℕ) → s ≢ r → null x.name ≡ false → x.name ≢ (resource t s).name) → (null x.name ≡ true → empty (resource t r) ≡ true) →
    Core (move_resource r x t)
core_resource r x t c w same ok new none =
    record {
      resources_low = rw (resources_kept r x t) c.resources_low;
      resources_high = rw (resources_kept r x t) c.resources_high;
      locks_low = unfold move_resource in c.locks_low;
      locks_high = unfold move_resource in c.locks_high;
      linked = linked;
      spare = λ s. rw (resources_kept r x t) (spare s);
      lock_ok = λ k. rw (lock_kept r x t k) (ok_map (used t) (used (move_resource r x t)) (lock t k) (housed k) (c.lock_ok k));
      resource_ok = λ s. by_equal s r (λ e. rw (e, changed r x t w) ok) (λ n. rw (unchanged r x t s n) (c.resource_ok s));
      names = names;
      agree = λ j k. rw (lock_kept r x t j, lock_kept r x t k) (c.agree j k);
    }
  where
    linked : (y : LockChain) (k : ℕ) → count k (chain (move_resource r x t) y) ≡ bit (within (length (move_resource r x t).locks) k && belongs y (lock (move_resource r x t) k))
    linked free_locks k = unfold move_resource lock in c.linked free_locks k
    linked denied k = unfold move_resource lock in c.linked denied k
    linked blocked k = unfold move_resource lock in c.linked blocked k
    linked notices k = unfold move_resource lock in c.linked notices k
    linked (queue s grants) k = rw (field_kept r x t (λ (y : Resource). y.grant) w same.grant s) (unfold move_resource lock in c.linked (queue s grants) k)
    linked (queue s converts) k = rw (field_kept r x t (λ (y : Resource). y.convert) w same.convert s) (unfold move_resource lock in c.linked (queue s converts) k)
    linked (queue s waits) k = rw (field_kept r x t (λ (y : Resource). y.wait) w same.wait s) (unfold move_resource lock in c.linked (queue s waits) k)

    spare : (s : ℕ) → count s (move_resource r x t).free_resources ≡ bit (within (length t.resources) s && null (resource (move_resource r x t) s).name)
    spare s =
        by_equal s r
        (λ e. rw (e, changed r x t w, w) (spare_here r x t (rw w at (c.spare r))))
        (λ n. rw (unchanged r x t s n) (spare_other r x t s n ∙ c.spare s))

    housed : (k : ℕ) → used t (lock t k).resource ≡ true → used (move_resource r x t) (lock t k).resource ≡ true
    housed k u =
        by_equal (lock t k).resource r
        (λ e. by_cases (null x.name)
        (λ h. absurd (nobody t c r (none h) w k e))
        (λ h. rw (e, used_changed r x t w, h)))
        (λ n. rw (used_unchanged r x t (lock t k).resource n) u)

    names : (s s' : ℕ) → s ≢ s' → used (move_resource r x t) s ≡ true → (resource (move_resource r x t) s).name ≢ (resource (move_resource r x t) s').name
    names s s' n =
        by_equal s r
        (λ e. rw (e, changed r x t w, used_changed r x t w, unchanged r x t s' (λ q. n (e ∙ sym q))) (λ u. new s' (λ q. n (e ∙ sym q)) (not-true (null x.name) u)))
        (λ m. by_equal s' r
        (λ e. rw (e, changed r x t w, used_unchanged r x t s m, unchanged r x t s m)
        (λ u q. by_cases (null x.name) (λ h. clash _ (ap null q ∙ h) (used_name t s u)) (λ h. new s m h (sym q))))
        (λ m'. rw (used_unchanged r x t s m, unchanged r x t s m, unchanged r x t s' m') (c.names s s' n)))

-- the heads stay as they are
module _ (r : ℕ) (x : Resource) (t : Tables) (w : within (length t.resources) r ≡ true) (same : SameChains x (resource t r)) (s : ℕ) where
  holders_kept : holders (move_resource r x t) s ≡ holders t s
  unfolding holders
  holders_kept = rw (field_kept r x t (λ (y : Resource). y.grant) w same.grant s, field_kept r x t (λ (y : Resource). y.convert) w same.convert s)

  line_kept : line (move_resource r x t) s ≡ line t s
  unfolding line
  line_kept = rw (field_kept r x t (λ (y : Resource). y.wait) w same.wait s, field_kept r x t (λ (y : Resource). y.convert) w same.convert s)

  fits_kept : (k m : ℕ) → fits (move_resource r x t) s k m ≡ fits t s k m
  unfolding fits lock move_resource
  fits_kept k m = rw holders_kept

  idle_list : (qs : List ℕ) → idle (move_resource r x t) s qs ≡ idle t s qs
  unfolding idle convert_grantable
  idle_list [] = refl
  idle_list (k ∷ ks) = rw (fits_kept, lock_kept r x t k)

  pub idle_kept : idle (move_resource r x t) s (line (move_resource r x t) s) ≡ idle t s (line t s)
  idle_kept = rw line_kept (idle_list (line t s))

  pub empty_kept : empty (resource (move_resource r x t) s) ≡ empty (resource t s)
  unfolding empty
  empty_kept = field_kept r x t empty w (rw (same.grant, same.convert, same.wait)) s

  pub used_kept : x.name ≡ (resource t r).name → used (move_resource r x t) s ≡ used t s
  unfolding used
  used_kept e = rw (field_kept r x t (λ (y : Resource). y.name) w e s)

  pub settled_kept : s ≢ r → Settled t s → Settled (move_resource r x t) s
  settled_kept n h = record { still = rw idle_kept h.still; peopled = rw (used_unchanged r x t s n, unchanged r x t s n) h.peopled }

pub no_value_length : length no_value ≡ value_width
unfolding no_value
no_value_length = refl

-- an empty resource is freed
pub free_empty : (r : ℕ) (t : Tables) → Core t → within (length t.resources) r ≡ true → empty (resource t r) ≡ true → Swept r t (move_resource r no_resource t)
free_empty r t c w h =
    let e = empty_chains (resource t r) h in
    let same : SameChains no_resource (resource t r) = record { grant = sym e.0; convert = sym e.1; wait = sym e.2 } in
    record {
      core = core_resource r no_resource t c w same free_ok (λ s n z. clash true refl z) (λ z. h);
      still = rw (idle_kept r no_resource t w same r) (unfold line idle in rw (e.1, e.2));
      others = λ s n q. settled_kept r no_resource t w same s n q;
      fronts = λ s. rw (field_kept r no_resource t (λ (y : Resource). y.wait) w same.wait s) (front_none _);
      unmoved = λ j q. lock_kept r no_resource t j;
      peopled = λ q. clash (empty (resource t r)) h q;
      weighs = λ f s j. ap f (lock_kept r no_resource t j);
      locks_same = unfold move_resource in refl;
      resources_same = resources_kept r no_resource t;
    }
  where
    free_ok : ResourceOk no_resource
    free_ok = record { name_length = omega arith; value_length = no_value_length; flag = omega arith; unused = λ z. refl; unused_value = λ z. refl }

-- the value block
module _ (f : ℕ) (v : List ℕ) (x : Resource) where
  value_chains : SameChains (with_value f v x) x
  unfolding with_value
  value_chains = record { grant = refl; convert = refl; wait = refl }

  value_name : (with_value f v x).name ≡ x.name
  unfolding with_value
  value_name = refl

  value_ok : (stores f ≡ true → length v ≡ value_width) → null x.name ≡ false → ResourceOk x → ResourceOk (with_value f v x)
  unfolding with_value
  value_ok h n ok =
      record {
        name_length = ok.name_length;
        value_length = by_cases (stores f) (λ e. rw e (h e)) (λ e. rw e ok.value_length);
        flag = by_cases (stores f) (λ e. rw e (omega arith)) (λ e. rw e (by_cases (spoils f) (λ g. rw g (omega arith)) (λ g. rw g ok.flag)));
        unused = λ z. clash (null x.name) (rw z) n;
        unused_value = λ z. clash (null x.name) (rw z) n;
      }

-- a change that no lock and no chain of locks sees
pub record Quiet (t t' : Tables) : Type 0 where
  pub core : Core t'
  pub settled : (s : ℕ) → Settled t s → Settled t' s
  pub lock_is : (k : ℕ) → lock t' k ≡ lock t k
  pub waits_are : (s : ℕ) → (resource t' s).wait ≡ (resource t s).wait
  pub used_is : (s : ℕ) → used t' s ≡ used t s
  pub locks_are : length t'.locks ≡ length t.locks
  pub resources_are : length t'.resources ≡ length t.resources

value_quiet : (f : ℕ) (v : List ℕ) (r : ℕ) (t : Tables) → (stores f ≡ true → length v ≡ value_width) → used t r ≡ true → Core t → Quiet t (move_resource r (with_value f v (resource t r)) t)
unfolding move_resource
value_quiet f v r t right u c =
    let w = used_within t r u in
    let x = with_value f v (resource t r) in
    let same = value_chains f v (resource t r) in
    let named = value_name f v (resource t r) in
    record {
      core = core_resource r x t c w same (value_ok f v (resource t r) right (used_name t r u) (c.resource_ok r))
          (λ s n z. rw named (c.names r s (λ e. n (sym e)) u))
          (λ z. clash (null (resource t r).name) (rw named at z) (used_name t r u));
      settled = λ s h. record { still = rw (idle_kept r x t w same s) h.still; peopled = rw (used_kept r x t w same s named, empty_kept r x t w same s) h.peopled };
      lock_is = lock_kept r x t;
      waits_are = field_kept r x t (λ (y : Resource). y.wait) w same.wait;
      used_is = λ s. used_kept r x t w same s named;
      locks_are = refl;
      resources_are = resources_kept r x t;
    }

pub leave_quiet : (b : Bool) (f : ℕ) (v : List ℕ) (r : ℕ) (t : Tables) → (stores f ≡ true → length v ≡ value_width) → (b ≡ true → used t r ≡ true) → Core t → Quiet t (leave_value b f v r t)
unfolding leave_value
leave_quiet false f v r t right u c =
    record { core = c; settled = λ s h. h; lock_is = λ k. refl; waits_are = λ s. refl; used_is = λ s. refl; locks_are = refl; resources_are = refl }
leave_quiet true f v r t right u c = value_quiet f v r t right (u refl) c
