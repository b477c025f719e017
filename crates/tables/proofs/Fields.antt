-- The test of a lock's fields by its state, and that it says what LockOk says.
use mathlib.Core.Path.{◌≡◌, refl}
use mathlib.Core.Logic.{◌≢◌}
use mathlib.Core.Bool.{true, false, ◌||◌}
use Prim.Native.Nat.{ℕ, zero, suc, ◌≤◌}
use native.Mathlib.Omega.{arith}
use lib.Dec.{eqb}
use borrow.Author.Tests.{eqb-true, eq-eqb, ne_eqb, leb-true, le-leb}
use Rattle.tables.specs.State.{Lock, Tables, last_client, last_mode}
use Rattle.tables.specs.Sound.{client_right, modes_right, on_resource, fields_right}
use Rattle.tables.proofs.Cases.{by_equal, clash, and_intro, or_left, or_right, parts}
use Rattle.tables.specs.Validity.{used, Place}
use Rattle.tables.proofs.StateCases.{StateOk}

on_used : (t : Tables) (l : Lock) → on_resource t l ≡ used t l.resource
unfolding on_resource used
on_used t l = refl

pub client_is : (c : ℕ) → client_right c ≡ true → (1 ≤ c) × (c ≤ last_client)
unfolding client_right
client_is c h = (leb-true 1 c (search parts), leb-true c last_client (search parts))

is_client : (c : ℕ) → 1 ≤ c → c ≤ last_client → client_right c ≡ true
unfolding client_right
is_client c p q = search (and_intro, le-leb)

place_is : (t : Tables) (l : Lock) → on_resource t l ≡ true → client_right l.client ≡ true → modes_right l ≡ true → Place (used t) l
unfolding modes_right
place_is t l r c m =
    record {
      in_use = rw (on_used t l) at r;
      client_low = (client_is l.client c).0;
      client_high = (client_is l.client c).1;
      held_mode = leb-true l.held last_mode (search parts);
      asked_mode = leb-true l.asked last_mode (search parts);
      mark_mode = leb-true l.mark last_mode (search parts);
    }

module _ (t : Tables) (l : Lock) (p : Place (used t) l) where
  is_on : on_resource t l ≡ true
  is_on = rw (on_used t l) p.in_use

  is_clients : client_right l.client ≡ true
  is_clients = is_client l.client p.client_low p.client_high

  is_modes : modes_right l ≡ true
  unfolding modes_right
  is_modes = search (and_intro, le-leb)

-- a granted lock's completion is 0, 1 or 3
notice_is : (c : ℕ) → (eqb c 0 || eqb c 1 || eqb c 3) ≡ true → (c ≤ 3) × (c ≢ 2)
notice_is c h =
    by_equal c 0
    (λ e. (omega arith, omega arith))
    (λ n. by_equal c 1
    (λ e. (omega arith, omega arith))
    (λ m. let e : c ≡ 3 = eqb-true c 3 (rw (ne_eqb c 0 n, ne_eqb c 1 m) at h) in (omega arith, omega arith)))

is_notice : (c : ℕ) → c ≤ 3 → c ≢ 2 → (eqb c 0 || eqb c 1 || eqb c 3) ≡ true
is_notice c p n =
    by_equal c 0
    (λ e. or_left _ (eqb c 3) (or_left _ (eqb c 1) (eq-eqb c 0 e)))
    (λ a. by_equal c 1
    (λ e. or_left _ (eqb c 3) (or_right (eqb c 0) _ (eq-eqb c 1 e)))
    (λ b. or_right (eqb c 0 || eqb c 1) _ (eq-eqb c 3 (omega arith))))

pub fields_are : (t : Tables) (l : Lock) (s : ℕ) → l.state ≡ s → fields_right t l s ≡ true → StateOk (used t) l s
unfolding fields_right
fields_are t l zero e h =
    let a : l.resource ≡ 0 = eqb-true l.resource 0 (search parts depth 20) in
    let b : l.client ≡ 0 = eqb-true l.client 0 (search parts depth 20) in
    let c : l.held ≡ 0 = eqb-true l.held 0 (search parts depth 20) in
    let d : l.asked ≡ 0 = eqb-true l.asked 0 (search parts depth 20) in
    let f : l.completion ≡ 0 = eqb-true l.completion 0 (search parts depth 20) in
    let g : l.mark ≡ 0 = eqb-true l.mark 0 (search parts depth 20) in
    λ i. record { resource = a i; client = b i; state = e i; held = c i; asked = d i; completion = f i; mark = g i }
fields_are t l (suc zero) e h =
    let n = notice_is l.completion (search parts depth 20) in
    record {
      place = place_is t l (search parts depth 20) (search parts depth 20) (search parts depth 20);
      asks = eqb-true l.asked 0 (search parts depth 20);
      notice = n.0;
      not_denied = n.1;
    }
fields_are t l (suc (suc zero)) e h =
    record {
      place = place_is t l (search parts depth 20) (search parts depth 20) (search parts depth 20);
      notice = eqb-true l.completion 0 (search parts depth 20);
    }
fields_are t l (suc (suc (suc zero))) e h =
    record {
      place = place_is t l (search parts depth 20) (search parts depth 20) (search parts depth 20);
      notice = eqb-true l.completion 0 (search parts depth 20);
      holds = eqb-true l.held 0 (search parts depth 20);
      no_mark = eqb-true l.mark 0 (search parts depth 20);
    }
fields_are t l (suc (suc (suc (suc zero)))) e h =
    let c = client_is l.client (search parts depth 20) in
    record {
      client_low = c.0;
      client_high = c.1;
      nowhere = eqb-true l.resource 0 (search parts depth 20);
      holds = eqb-true l.held 0 (search parts depth 20);
      asks = eqb-true l.asked 0 (search parts depth 20);
      notice = eqb-true l.completion 2 (search parts depth 20);
      no_mark = eqb-true l.mark 0 (search parts depth 20);
    }
fields_are t l (suc (suc (suc (suc (suc n))))) e h =
    let s = suc (suc (suc (suc (suc n)))) in
    clash false
    (rw (ne_eqb s 0 (omega arith), ne_eqb s 1 (omega arith), ne_eqb s 2 (omega arith), ne_eqb s 3 (omega arith), ne_eqb s 4 (omega arith)) at h)
    refl

pub are_fields : (t : Tables) (l : Lock) (s : ℕ) → StateOk (used t) l s → fields_right t l s ≡ true
unfolding fields_right
are_fields t l zero ok = rw ok
are_fields t l (suc zero) ok =
    let a = is_on t l ok.place in
    let b = is_clients t l ok.place in
    let c = is_modes t l ok.place in
    let d = is_notice l.completion ok.notice ok.not_denied in
    search (and_intro, eq-eqb, a, b, c, d) depth 20
are_fields t l (suc (suc zero)) ok =
    let a = is_on t l ok.place in
    let b = is_clients t l ok.place in
    let c = is_modes t l ok.place in
    search (and_intro, eq-eqb, a, b, c) depth 20
are_fields t l (suc (suc (suc zero))) ok =
    let a = is_on t l ok.place in
    let b = is_clients t l ok.place in
    let c = is_modes t l ok.place in
    search (and_intro, eq-eqb, a, b, c) depth 20
are_fields t l (suc (suc (suc (suc zero)))) ok = search (and_intro, is_client, eq-eqb) depth 20
are_fields t l (suc (suc (suc (suc (suc n))))) ok = absurd ok
