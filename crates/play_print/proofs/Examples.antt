-- What the papers' worked lines print, and the cases that their wording leaves easy to miss, computed from the definitions.
use mathlib.Core.Path.{◌≡◌, refl}
use mathlib.Core.List.{[], ◌∷◌}
use Rattle.play_print.specs.Decimal.{digits, decimal}
use Rattle.play_print.specs.PrintedLines.{spaced_number, spaced_numbers, printed}
use Rattle.play_print.specs.declared.LineAnswer.TheVariants.{Answer, Refusal, Unknown}

-- `q 1 1`
prints_1 : printed (Answer 113 2 1 1 0) ≡ (113 ∷ 32 ∷ 49 ∷ 32 ∷ 49 ∷ 10 ∷ [])
unfolding printed spaced_numbers spaced_number decimal digits
prints_1 = refl

-- `q ! 13`
prints_3 : printed (Refusal 113 13) ≡ (113 ∷ 32 ∷ 33 ∷ 32 ∷ 49 ∷ 51 ∷ 10 ∷ [])
unfolding printed spaced_number decimal digits
prints_3 = refl

-- `p 1`
prints_4 : printed (Answer 112 1 1 0 0) ≡ (112 ∷ 32 ∷ 49 ∷ 10 ∷ [])
unfolding printed spaced_numbers spaced_number decimal digits
prints_4 = refl

-- `n 1 2 0`
prints_5 : printed (Answer 110 3 1 2 0) ≡ (110 ∷ 32 ∷ 49 ∷ 32 ∷ 50 ∷ 32 ∷ 48 ∷ 10 ∷ [])
unfolding printed spaced_numbers spaced_number decimal digits
prints_5 = refl

-- `n 0 0 0`
prints_6 : printed (Answer 110 3 0 0 0) ≡ (110 ∷ 32 ∷ 48 ∷ 32 ∷ 48 ∷ 32 ∷ 48 ∷ 10 ∷ [])
unfolding printed spaced_numbers spaced_number decimal digits
prints_6 = refl

-- `n 4294967295 4294967295 4294967295`
prints_most : printed (Answer 110 3 4294967295 4294967295 4294967295) ≡ (110 ∷ 32 ∷ 52 ∷ 50 ∷ 57 ∷ 52 ∷ 57 ∷ 54 ∷ 55 ∷ 50 ∷ 57 ∷ 53 ∷ 32 ∷ 52 ∷ 50 ∷ 57 ∷ 52 ∷ 57 ∷ 54 ∷ 55 ∷ 50 ∷ 57 ∷ 53 ∷ 32 ∷ 52 ∷ 50 ∷ 57 ∷ 52 ∷ 57 ∷ 54 ∷ 55 ∷ 50 ∷ 57 ∷ 53 ∷ 10 ∷ [])
unfolding printed spaced_numbers spaced_number decimal digits
prints_most = refl

-- `c 1002000`
prints_ten : printed (Answer 99 1 1002000 0 0) ≡ (99 ∷ 32 ∷ 49 ∷ 48 ∷ 48 ∷ 50 ∷ 48 ∷ 48 ∷ 48 ∷ 10 ∷ [])
unfolding printed spaced_numbers spaced_number decimal digits
prints_ten = refl

-- `?`
prints_other : printed Unknown ≡ (63 ∷ 10 ∷ [])
unfolding printed
prints_other = refl
