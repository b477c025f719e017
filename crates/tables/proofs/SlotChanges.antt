-- What a change of a state changes in its slots: nothing, but for the slot of a resource that is put.
use mathlib.Core.Path.{◌≡◌, refl, ◌∙◌, ap}
use mathlib.Core.List.{List, ◌++◌}
use Prim.Native.Nat.{ℕ, suc, ◌+◌, ◌-◌, ◌*◌, ◌≤◌}
use native.Mathlib.Omega.{arith}
use lib.ListN.{length, take, drop}
use Rattle.tables.specs.Lists.{from}
use Rattle.tables.specs.State.{Lock, Resource, Tables, name_width, value_width, no_resource, lock, resource, Chain, relist, move, move_resource}
use Rattle.tables.specs.Layout.{flat_map, slot_width, slot, slots}
use Rattle.tables.proofs.Blocks.{flat_map_same, replace_block}
use Rattle.tables.proofs.Counts.{length_put}
use Rattle.tables.proofs.Numbered.{nth_put_blind, put_lock, put_resource, resource_put_lock, resources_put, resource_put_here, resource_put_other}
use Rattle.tables.proofs.Chains.{with_chain, with_queue, resource_count, resource_rest}
use Rattle.tables.proofs.ReadBack.{slot_length}

pub slots_with : (c : Chain) (xs : List ℕ) (t : Tables) → slots (with_chain c xs t) ≡ slots t
unfolding slots slot with_queue
slots_with c xs t =
    ap (λ (n : ℕ). flat_map (λ r. slot (resource (with_chain c xs t) r)) (from 1 n)) (resource_count c xs t)
    ∙ flat_map_same (λ r. slot (resource t r)) (λ r. slot (resource (with_chain c xs t) r)) 1 (length t.resources) (λ r p. resource_rest slot (λ q ys x. refl) c xs t r)

pub slots_put_lock : (k : ℕ) (l : Lock) (t : Tables) → slots (put_lock k l t) ≡ slots t
unfolding slots
slots_put_lock k l t =
    flat_map_same (λ r. slot (resource t r)) (λ r. slot (resource (put_lock k l t) r)) 1 (length t.resources) (λ r p. ap slot (resource_put_lock t k l r))

pub slots_put : (r : ℕ) (x : Resource) (t : Tables) → 1 ≤ r → r ≤ length t.resources
    → ((s : ℕ) → length (resource t s).name ≤ name_width) → ((s : ℕ) → length (resource t s).value ≡ value_width)
    → slots (put_resource r x t) ≡ take (slot_width * (r - 1)) (slots t) ++ (slot x ++ drop (slot_width * r) (slots t))
unfolding slots
slots_put r x t p q names values =
    let e : 1 + (r - 1) ≡ r = omega arith in
    let s : suc (r - 1) ≡ r = omega arith in
    ap (λ (n : ℕ). flat_map (λ s. slot (resource (put_resource r x t) s)) (from 1 n)) (resources_put t r x)
    ∙ (rw (e, s, resource_put_here t r x p q) at
    (replace_block slot_width (λ s. slot (resource t s)) (λ s. slot (resource (put_resource r x t) s)) (λ s. slot_length (resource t s) (names s) (values s))
    (length t.resources) 1 (r - 1) (omega arith) (λ k n. ap slot (resource_put_other t r x k (omega arith)))))

-- so of a lock that becomes another, and of a resource that does
pub slots_move : (r k : ℕ) (m : Lock) (t : Tables) → slots (move r k m t) ≡ slots t
unfolding slots slot move relist resource
slots_move r k m t =
    ap (λ (n : ℕ). flat_map (λ s. slot (resource (move r k m t) s)) (from 1 n)) (length_put no_resource t.resources r (relist k (lock t k) m (resource t r)))
    ∙ flat_map_same (λ s. slot (resource t s)) (λ s. slot (resource (move r k m t) s)) 1 (length t.resources)
    (λ s p. nth_put_blind no_resource slot t.resources r s (relist k (lock t k) m (resource t r)) refl)

pub slots_move_resource : (r : ℕ) (x : Resource) (t : Tables) → slots (move_resource r x t) ≡ slots (put_resource r x t)
unfolding slots move_resource resource
slots_move_resource r x t = refl
