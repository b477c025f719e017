-- Laws of modes, of down conversions, of sets of modes, and of the mode that a number makes. Assumes nothing.
use mathlib.Core.Path.{◌≡◌, ◌∙◌, refl, sym, ap}
use mathlib.Core.Bool.{Bool, true, false, ◌&&◌, ◌||◌, not}
use mathlib.Core.List.{List, []}
use Prim.Native.Nat.{ℕ, zero, suc, ◌*◌, ◌%◌, ◌^◌, ◌≤◌, ◌<◌}
use native.Mathlib.Omega.{arith}
use lib.Bits.{bit_or}
use lib.Dec.{eqb, leb, ltb}
use lib.ListN.{get_or, length, get_or-eq_default}
use borrow.Author.Tests.{ltb-true, leb-true, eqb-true, le-leb, lt-leb}
use Rattle.std.specs.Prelude.{Option, Some, None}
use Rattle.modes.specs.declared.Mode.{Mode}
use Rattle.modes.specs.Modes.{NL, matrix, compatible, all_modes, down}
use Rattle.modes.specs.Sets.{in_set, fits_set, FitsRow, with_mode}
use Rattle.modes.specs.Made.{MadeNumbers, mode_number, made_numbers, made}
use Rattle.modes.proofs.Table.{parts, by_range, below, below2, agree2, agree3, entries, entry_at}

-- a number above 5 goes with none, held or asked
pub none_held : (a b : ℕ) → 6 ≤ a → compatible a b ≡ false
unfolding compatible matrix
none_held a b h = ap (λ (row : List Bool). get_or row b false) (get_or-eq_default matrix [] h)

pub none_asked : (a b : ℕ) → 6 ≤ b → compatible a b ≡ false
unfolding compatible matrix
none_asked a b h =
    by_range a 6
    (λ l. get_or-eq_default (get_or matrix a []) false (row l))
    (λ p. none_held a b p)
  where
    row : a < 6 → length (get_or matrix a []) ≤ b
    row l = let w : length (get_or matrix a []) ≤ 6 = leb-true (length (get_or matrix a [])) 6 (below (λ a. leb (length (get_or matrix a [])) 6) 6 refl a l) in omega arith

-- compatibility is the same both ways, for every number
pub compatible_sym : (a b : ℕ) → compatible a b ≡ compatible b a
unfolding compatible matrix
compatible_sym a b =
    by_range a 6
    (λ l. by_range b 6
    (λ m. agree2 compatible (λ a b. compatible b a) 6 6 refl a b l m)
    (λ p. none_asked a b p ∙ sym (none_held b a p)))
    (λ p. none_held a b p ∙ sym (none_asked b a p))

-- all six modes pass a test exactly if each does
pub all_modes_at : (test : ℕ → Bool) → all_modes test ≡ true → (x : ℕ) → x ≤ 5 → test x ≡ true
unfolding all_modes
all_modes_at test h zero l = search parts
all_modes_at test h (suc zero) l = search parts
all_modes_at test h (suc (suc zero)) l = search parts
all_modes_at test h (suc (suc (suc zero))) l = search parts
all_modes_at test h (suc (suc (suc (suc zero)))) l = search parts
all_modes_at test h (suc (suc (suc (suc (suc zero))))) l = search parts
all_modes_at test h (suc (suc (suc (suc (suc (suc n)))))) l = absurd (omega arith)

pub all_modes_intro : (test : ℕ → Bool) → ((x : ℕ) → x ≤ 5 → test x ≡ true) → all_modes test ≡ true
unfolding all_modes
all_modes_intro test h = rw (h 0 (omega arith), h 1 (omega arith), h 2 (omega arith), h 3 (omega arith), h 4 (omega arith), h 5 (omega arith))

-- nobody is in the way of NL
pub null_goes : (a : ℕ) → a ≤ 5 → compatible a NL ≡ true
unfolding all_modes compatible matrix
null_goes a h = all_modes_at (λ x. compatible x NL) refl a h

-- a down conversion gives way to every mode that the old one let in
pub down_use : (a b : ℕ) → down a b ≡ true → (x : ℕ) → x ≤ 5 → compatible a x ≡ true → compatible b x ≡ true
unfolding down
down_use a b h x l c = rw c at (all_modes_at (λ m. not (compatible a m) || compatible b m) h x l)

-- sets: the empty one, and one mode more
pub fits_none : (a : ℕ) → a < 6 → fits_set 0 a ≡ true
unfolding fits_set in_set all_modes compatible matrix
fits_none a h = below (λ x. fits_set 0 x) 6 refl a h

-- a row of six entries is that of its set if these are the rule's, and each row of a table if all of the table's are
pub row_of : (row : List Bool) (s : ℕ) → row ≡ entries 6 (fits_set s) → FitsRow s row
row_of row s e = record { entry = λ a h. rw e (entry_at 6 (fits_set s) a false h) }

pub row_in : (table : List (List Bool)) → table ≡ entries 64 (λ s. entries 6 (fits_set s)) → (s : ℕ) → s < 64 → FitsRow s (get_or table s [])
row_in table e s h = row_of (get_or table s []) s (rw e (entry_at 64 (λ s. entries 6 (fits_set s)) s [] h))

pub with_mode_small : (s m : ℕ) → s < 64 → m < 6 → with_mode s m < 64
unfolding with_mode in_set
with_mode_small s m hs hm = ltb-true (with_mode s m) 64 (below2 (λ s m. ltb (with_mode s m) 64) 64 6 refl s m hs hm)

pub fits_with : (s m a : ℕ) → s < 64 → m < 6 → a < 6 → fits_set (with_mode s m) a ≡ (fits_set s a && compatible m a)
unfolding fits_set with_mode in_set all_modes compatible matrix
fits_with = agree3 (λ s m a. fits_set (with_mode s m) a) (λ s m a. fits_set s a && compatible m a) 64 6 6 refl

-- the code's bits: a shift and an or add the mode
pub or_mode : (s m : ℕ) → s < 64 → m < 6 → bit_or s (1 * 2 ^ m % 4294967296) ≡ with_mode s m
unfolding with_mode in_set
or_mode s m hs hm =
    eqb-true (bit_or s (1 * 2 ^ m % 4294967296)) (with_mode s m)
    (below2 (λ s m. eqb (bit_or s (1 * 2 ^ m % 4294967296)) (with_mode s m)) 64 6 refl s m hs hm)

-- what a number makes: the mode of that number up to 5, and a refusal above
made_low : (n : ℕ) → n < 6 → made n ≡ record { refusal = 0; mode = n }
unfolding made
made_low n h = let l : n ≤ 5 = omega arith in rw (le-leb n 5 l)

made_high : (n : ℕ) → 6 ≤ n → made n ≡ record { refusal = 4; mode = 0 }
unfolding made
made_high n h = let l : 5 < n = omega arith in rw (lt-leb n 5 l)

pub makes : (n k : ℕ) → n ≡ k → k < 6 → record { refusal = 0; mode = k } ≡ made n
makes n k e h = sym (ap made e ∙ made_low k h)

pub refuses : (n : ℕ) → 5 < n → record { refusal = 4; mode = 0 } ≡ made n
refuses n h = let l : 6 ≤ n = omega arith in sym (made_high n l)

module _ (n : ℕ) (r : Option Mode) where
  pub mode_small : (m : Mode) → r ≡ Some m → made_numbers r ≡ made n → n < 6
  mode_small m e h =
      by_range n 6 (λ l. l)
      (λ p. let z : 0 ≡ 4 = ap (λ (x : MadeNumbers). x.refusal) (sym (ap made_numbers e) ∙ h ∙ made_high n p) in absurd (omega arith))

  pub same_number : (m : Mode) → r ≡ Some m → made_numbers r ≡ made n → mode_number m ≡ n
  same_number m e h = ap (λ (x : MadeNumbers). x.mode) (sym (ap made_numbers e) ∙ h ∙ made_low n (mode_small m e h))

  pub refused_above : r ≡ None → made_numbers r ≡ made n → 5 < n
  refused_above e h =
      by_range n 6
      (λ l. let z : 4 ≡ 0 = ap (λ (x : MadeNumbers). x.refusal) (sym (ap made_numbers e) ∙ h ∙ made_low n l) in absurd (omega arith))
      (λ p. p)
