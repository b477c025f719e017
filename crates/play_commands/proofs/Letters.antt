-- A line's letter: what stands after it decides.
use Prim.Native.Nat.{ℕ, suc, ◌-◌, ◌≤◌, ◌<◌}
use mathlib.Core.Bool.{false, cond}
use mathlib.Core.Path.{◌≡◌, refl}
use mathlib.Core.List.{List, [], ◌∷◌}
use native.Mathlib.Omega.{arith}
use borrow.Author.Tests.{ne_eqb, lt-ltb, le-ltb, eqb-true}
use borrow.Author.Rules.{rules}
use lib.Dec.{eqb}
use lib.ListN.{length, get_or, take, drop, length-drop}
use lib.Seq.{take_all}
use Rattle.play_numbers.specs.Fields.{spaced, until, parted}
use Rattle.play_commands.specs.Forms.{Meaning, break, malformed, numbers_then, as_request, as_convert, as_release, as_cancel, as_purge, as_break, as_poll, of_letter, of_fields, meant, line_width}
use Rattle.play_numbers.proofs.Basics.{by_cases, cond_same}
use Rattle.play_commands.proofs.FormLaws.{parted_some}

-- the letter decides which form is asked
module _ {b : ℕ} (fs : List (List ℕ)) {m : Meaning} where
  pub says_q : b ≡ 113 → m ≡ as_request fs → m ≡ of_letter b fs
  unfolding of_letter
  says_q e h = rw e h

  pub says_c : b ≡ 99 → m ≡ as_convert fs → m ≡ of_letter b fs
  unfolding of_letter
  says_c e h = rw e h

  pub says_r : b ≡ 114 → m ≡ as_release fs → m ≡ of_letter b fs
  unfolding of_letter
  says_r e h = rw e h

  pub says_x : b ≡ 120 → m ≡ as_cancel fs → m ≡ of_letter b fs
  unfolding of_letter
  says_x e h = rw e h

  pub says_p : b ≡ 112 → m ≡ as_purge fs → m ≡ of_letter b fs
  unfolding of_letter
  says_p e h = rw e h

  pub says_n : b ≡ 110 → m ≡ as_poll fs → m ≡ of_letter b fs
  unfolding of_letter
  says_n e h = rw e h

-- `d` has no field after it
break_no : (n : ℕ) (xs : List ℕ) → as_break (parted n xs) ≡ malformed
unfolding as_break numbers_then
break_no n xs = rw (parted_some n xs)

-- another letter
pub says_other : (b n : ℕ) (xs : List ℕ) → (b ≡ 113 → ⊥) → (b ≡ 99 → ⊥) → (b ≡ 114 → ⊥) → (b ≡ 120 → ⊥) → (b ≡ 112 → ⊥) → (b ≡ 110 → ⊥) → malformed ≡ of_letter b (parted n xs)
unfolding of_letter
says_other b n xs q c r x p o =
    rw (ne_eqb b 113 q, ne_eqb b 99 c, ne_eqb b 114 r, ne_eqb b 120 x, ne_eqb b 112 p, ne_eqb b 110 o, break_no n xs, cond_same (eqb b 100) malformed)

pub ruleset letter_rules = (rules, says_q, says_c, says_r, says_x, says_p, says_n, says_other)

-- a line of one byte
one_byte : (b : ℕ) → of_fields (parted 4 (b ∷ [])) ≡ cond (eqb b 100) break malformed
unfolding of_fields parted of_letter as_request as_convert as_release as_cancel as_purge as_break as_poll numbers_then
one_byte b =
    by_cases (eqb b 32)
    (λ t. let q : b ≡ 32 = eqb-true b 32 t in rw q)
    (λ t. by_cases (eqb b 100)
    (λ d. let q : b ≡ 100 = eqb-true b 100 d in rw q)
    (λ d.
    rw (
      t,
      d,
      cond_same (eqb b 110) malformed,
      cond_same (eqb b 112) malformed,
      cond_same (eqb b 120) malformed,
      cond_same (eqb b 114) malformed,
      cond_same (eqb b 99) malformed,
      cond_same (eqb b 113) malformed,
    )))

-- a line whose second byte is no space
two_long : (n : ℕ) → eqb (suc (suc n)) 1 ≡ false
two_long n = ne_eqb (suc (suc n)) 1 (λ q. omega arith)

no_space : (b y : ℕ) (zs : List ℕ) → (y ≡ 32 → ⊥) → of_fields (parted 4 (b ∷ y ∷ zs)) ≡ malformed
unfolding of_fields parted
no_space b y zs e =
    by_cases (eqb b 32)
    (λ t. rw t)
    (λ t. by_cases (spaced zs)
    (λ s. rw (t, ne_eqb y 32 e, s, two_long (length (until zs))))
    (λ s. rw (t, ne_eqb y 32 e, s, two_long (length zs))))

-- a line whose second byte is a space
a_space : (b y : ℕ) (zs : List ℕ) → y ≡ 32 → of_fields (parted 4 (b ∷ y ∷ zs)) ≡ of_letter b (parted 3 zs)
unfolding of_fields parted of_letter
a_space b y zs e =
    by_cases (eqb b 32)
    (λ t. let q : b ≡ 32 = eqb-true b 32 t in rw q)
    (λ t. rw (t, e))

module _ (l : List ℕ) where
  pub too_long : line_width < length l → malformed ≡ meant l
  unfolding meant
  too_long h = rw (lt-ltb line_width (length l) h)

  module _ (h : length l ≤ line_width) where
    short : meant l ≡ of_fields (parted 4 l)
    unfolding meant
    short = rw (le-ltb line_width (length l) h)

    pub no_byte : length l < 1 → malformed ≡ meant l
    unfolding of_fields parted
    no_byte k = rw short (go l k)
      where
        go : (xs : List ℕ) → length xs < 1 → malformed ≡ of_fields (parted 4 xs)
        go [] e = refl
        go (b ∷ bs) e = absurd (omega arith)

    pub only_d : 1 ≤ length l → length l < 2 → get_or l 0 0 ≡ 100 → break ≡ meant l
    only_d k m e = rw short (go l k m e)
      where
        go : (xs : List ℕ) → 1 ≤ length xs → length xs < 2 → get_or xs 0 0 ≡ 100 → break ≡ of_fields (parted 4 xs)
        go [] k m e = absurd (omega arith)
        go (b ∷ []) k m e = rw (one_byte b, e)
        go (b ∷ y ∷ zs) k m e = absurd (omega arith)

    pub not_d : 1 ≤ length l → length l < 2 → (get_or l 0 0 ≡ 100 → ⊥) → malformed ≡ meant l
    not_d k m e = rw short (go l k m e)
      where
        go : (xs : List ℕ) → 1 ≤ length xs → length xs < 2 → (get_or xs 0 0 ≡ 100 → ⊥) → malformed ≡ of_fields (parted 4 xs)
        go [] k m e = absurd (omega arith)
        go (b ∷ []) k m e = rw (one_byte b, ne_eqb b 100 e)
        go (b ∷ y ∷ zs) k m e = absurd (omega arith)

    pub runs_on : 2 ≤ length l → (get_or l 1 0 ≡ 32 → ⊥) → malformed ≡ meant l
    runs_on k e = rw short (go l k e)
      where
        go : (xs : List ℕ) → 2 ≤ length xs → (get_or xs 1 0 ≡ 32 → ⊥) → malformed ≡ of_fields (parted 4 xs)
        go [] k e = absurd (omega arith)
        go (b ∷ []) k e = absurd (omega arith)
        go (b ∷ y ∷ zs) k e = rw (no_space b y zs e)

    pub goes_on : {m : Meaning} → 2 ≤ length l → get_or l 1 0 ≡ 32 → m ≡ of_letter (get_or l 0 0) (parted 3 (take (length l - 2) (drop 2 l))) → m ≡ meant l
    goes_on {m} k e s =
        let all : length (drop 2 l) ≤ length l - 2 = rw (length-drop 2 l) (omega arith) in
        rw short (go l k e (rw (take_all (length l - 2) (drop 2 l) all) at s))
      where
        go : (xs : List ℕ) → 2 ≤ length xs → get_or xs 1 0 ≡ 32 → m ≡ of_letter (get_or xs 0 0) (parted 3 (drop 2 xs)) → m ≡ of_fields (parted 4 xs)
        go [] k e s = absurd (omega arith)
        go (b ∷ []) k e s = absurd (omega arith)
        go (b ∷ y ∷ zs) k e s = rw (a_space b y zs e) s

pub ruleset parse_rules = (rules, too_long, no_byte, only_d, not_d, runs_on, goes_on)
