-- The set of the modes that are held beside one lock, from counts: what it says of a mode, and how code builds it.
use mathlib.Core.Path.{◌≡◌, refl, sym, ◌∙◌, ap₂}
use mir.Val.{bool_byte}
use mathlib.Core.Bool.{Bool, true, false, ◌&&◌, ◌||◌, not, and-true}
use Prim.Native.Nat.{ℕ, ◌<◌, ◌≤◌}
use native.Mathlib.Omega.{arith}
use lib.Dec.{eqb, ltb}
use borrow.Author.Rules.{rules}
use borrow.Author.Tests.{lt-ltb, le-ltb}
use Rattle.modes.specs.declared.Mode.{Mode}
use Rattle.modes.specs.Made.{mode_number}
use Rattle.modes.specs.Modes.{compatible, all_modes}
use Rattle.modes.specs.Sets.{fits_set, with_mode}
use Rattle.modes.proofs.Laws.{with_mode_small, fits_none, fits_with}
use Rattle.tables.specs.Lists.{bit}
use Rattle.tables.proofs.Cases.{by_cases}
use Rattle.table_fields.specs.declared.ModeCounts.{ModeCounts}
use Rattle.table_fields.specs.Records.{counts_by}
use Rattle.queues.specs.Holders.{with_held, modes_beside, goes_beside}

-- with_held
byte_bit : (b : Bool) → bool_byte b ≡ bit b
byte_bit true = refl
byte_bit false = refl

module _ (own c h s b : ℕ) (eb : b ≡ bool_byte (eqb h own)) where
  pub held_not : c ≤ b → s ≡ with_held own c h s
  unfolding with_held
  held_not l = let e = eb ∙ byte_bit (eqb h own) in rw (le-ltb (bit (eqb h own)) c (omega arith))

  pub held_so : b < c → (x : ℕ) → (x ≡ with_mode s h) × (x < 64) → x ≡ with_held own c h s
  unfolding with_held
  held_so l x ex = let e = eb ∙ byte_bit (eqb h own) in rw (lt-ltb (bit (eqb h own)) c (omega arith)) ex.0

pub ruleset held_laws = (rules, held_not, held_so)

-- goes_beside
pub mode_goes : (c : ModeCounts) (own x : ℕ) (m : Mode) → x ≡ modes_beside c own → (i : ℕ) → i ≡ mode_number m → (b : Bool) → b ≡ fits_set x i → b ≡ goes_beside c own (mode_number m)
unfolding goes_beside
mode_goes c own x m ex i ei b eb = eb ∙ ap₂ fits_set ex ei

-- one mode after the other
module _ (own c h s : ℕ) (mode : h < 6) (small : s < 64) where
  held_small : with_held own c h s < 64
  unfolding with_held
  held_small = by_cases (ltb (bit (eqb h own)) c) (λ e. rw e (with_mode_small s h small mode)) (λ e. rw e small)

  fits_held : (m : ℕ) → m < 6 → fits_set (with_held own c h s) m ≡ (fits_set s m && (not (ltb (bit (eqb h own)) c) || compatible h m))
  unfolding with_held
  fits_held m q = by_cases (ltb (bit (eqb h own)) c) (λ e. rw e (fits_with s h m small mode q)) (λ e. rw e (sym (and-true (fits_set s m))))

-- f: how many locks hold each mode
pub fits_counts : (f : ℕ → ℕ) (own m : ℕ) → m < 6 → goes_beside (counts_by f) own m ≡ all_modes (λ h. not (ltb (bit (eqb h own)) (f h)) || compatible h m)
unfolding goes_beside modes_beside all_modes
fits_counts f own m q =
    let s0 = held_small own (f 0) 0 0 (omega arith) (omega arith) in
    let s1 = held_small own (f 1) 1 _ (omega arith) s0 in
    let s2 = held_small own (f 2) 2 _ (omega arith) s1 in
    let s3 = held_small own (f 3) 3 _ (omega arith) s2 in
    let s4 = held_small own (f 4) 4 _ (omega arith) s3 in
    rw (
      fits_held own (f 5) 5 _ (omega arith) s4 m q,
      fits_held own (f 4) 4 _ (omega arith) s3 m q,
      fits_held own (f 3) 3 _ (omega arith) s2 m q,
      fits_held own (f 2) 2 _ (omega arith) s1 m q,
      fits_held own (f 1) 1 _ (omega arith) s0 m q,
      fits_held own (f 0) 0 0 (omega arith) (omega arith) m q,
      fits_none m q,
    )
