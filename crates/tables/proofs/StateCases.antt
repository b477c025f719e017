-- LockOk by the number of a lock's state, for proofs by cases on that number.
use mathlib.Core.Path.{◌≡◌, refl, sym, ap, subst}
use mathlib.Core.Bool.{Bool}
use Prim.Native.Nat.{ℕ, zero, suc}
use Rattle.tables.specs.State.{Lock, no_lock}
use Rattle.tables.specs.Validity.{Granted, Converting, Waiting, Denied, LockOk, as_free, as_granted, as_converting, as_waiting, as_denied}

abbrev pub StateOk : (ℕ → Bool) → Lock → ℕ → Type 0
StateOk u l zero = l ≡ no_lock
StateOk u l (suc zero) = Granted u l
StateOk u l (suc (suc zero)) = Converting u l
StateOk u l (suc (suc (suc zero))) = Waiting u l
StateOk u l (suc (suc (suc (suc zero)))) = Denied l
StateOk u l (suc (suc (suc (suc (suc n))))) = ⊥

pub ok_numbered : {u : ℕ → Bool} {l : Lock} → LockOk u l → StateOk u l l.state
ok_numbered {u = u} {l = l} (as_free e) = subst (StateOk u l) (sym (ap (λ (x : Lock). x.state) e)) e
ok_numbered {u = u} {l = l} (as_granted s ok) = subst (StateOk u l) (sym s) ok
ok_numbered {u = u} {l = l} (as_converting s ok) = subst (StateOk u l) (sym s) ok
ok_numbered {u = u} {l = l} (as_waiting s ok) = subst (StateOk u l) (sym s) ok
ok_numbered {u = u} {l = l} (as_denied s ok) = subst (StateOk u l) (sym s) ok

pub ok_named : {u : ℕ → Bool} {l : Lock} → StateOk u l l.state → LockOk u l
ok_named {u = u} {l = l} = go l.state refl
  where
    go : (s : ℕ) → l.state ≡ s → StateOk u l s → LockOk u l
    go zero s ok = as_free ok
    go (suc zero) s ok = as_granted s ok
    go (suc (suc zero)) s ok = as_converting s ok
    go (suc (suc (suc zero))) s ok = as_waiting s ok
    go (suc (suc (suc (suc zero)))) s ok = as_denied s ok
    go (suc (suc (suc (suc (suc n))))) s ok = absurd ok
