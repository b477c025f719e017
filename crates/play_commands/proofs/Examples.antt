-- Document 01's worked lines, and the cases that its wording leaves easy to miss, computed from the definitions.
use mathlib.Core.Path.{◌≡◌, refl}
use mathlib.Core.List.{[], ◌∷◌, ◌++◌}
use lib.ListN.{replicate}
use Rattle.play_numbers.specs.Numbers.{is_number, number}
use Rattle.play_numbers.specs.Fields.{parted}
use Rattle.play_commands.specs.Forms.{request, convert, release, cancel, purge, break, poll, malformed, numbers_then, as_request, as_convert, as_release, as_cancel, as_purge, as_break, as_poll, of_letter, of_fields, meant}

-- `q 1 5 0 vip-7`
line_1 : meant (113 ∷ 32 ∷ 49 ∷ 32 ∷ 53 ∷ 32 ∷ 48 ∷ 32 ∷ 118 ∷ 105 ∷ 112 ∷ 45 ∷ 55 ∷ []) ≡ request 1 5 0 (118 ∷ 105 ∷ 112 ∷ 45 ∷ 55 ∷ [])
unfolding meant of_fields of_letter as_request as_convert as_release as_cancel as_purge as_break as_poll numbers_then parted is_number number
line_1 = refl

-- `q 2 5 4 vip-7`
line_3 : meant (113 ∷ 32 ∷ 50 ∷ 32 ∷ 53 ∷ 32 ∷ 52 ∷ 32 ∷ 118 ∷ 105 ∷ 112 ∷ 45 ∷ 55 ∷ []) ≡ request 2 5 4 (118 ∷ 105 ∷ 112 ∷ 45 ∷ 55 ∷ [])
unfolding meant of_fields of_letter as_request as_convert as_release as_cancel as_purge as_break as_poll numbers_then parted is_number number
line_3 = refl

-- `p 1`
line_4 : meant (112 ∷ 32 ∷ 49 ∷ []) ≡ purge 1
unfolding meant of_fields of_letter as_request as_convert as_release as_cancel as_purge as_break as_poll numbers_then parted is_number number
line_4 = refl

-- `n 2`
line_5 : meant (110 ∷ 32 ∷ 50 ∷ []) ≡ poll 2
unfolding meant of_fields of_letter as_request as_convert as_release as_cancel as_purge as_break as_poll numbers_then parted is_number number
line_5 = refl

-- `c 1 2 3 4`
converts : meant (99 ∷ 32 ∷ 49 ∷ 32 ∷ 50 ∷ 32 ∷ 51 ∷ 32 ∷ 52 ∷ []) ≡ convert 1 2 3 4
unfolding meant of_fields of_letter as_request as_convert as_release as_cancel as_purge as_break as_poll numbers_then parted is_number number
converts = refl

-- `r 12 3 0`
releases : meant (114 ∷ 32 ∷ 49 ∷ 50 ∷ 32 ∷ 51 ∷ 32 ∷ 48 ∷ []) ≡ release 12 3 0
unfolding meant of_fields of_letter as_request as_convert as_release as_cancel as_purge as_break as_poll numbers_then parted is_number number
releases = refl

-- `x 2 7`
cancels : meant (120 ∷ 32 ∷ 50 ∷ 32 ∷ 55 ∷ []) ≡ cancel 2 7
unfolding meant of_fields of_letter as_request as_convert as_release as_cancel as_purge as_break as_poll numbers_then parted is_number number
cancels = refl

-- `d`
breaks : meant (100 ∷ []) ≡ break
unfolding meant of_fields of_letter as_request as_convert as_release as_cancel as_purge as_break as_poll numbers_then parted is_number number
breaks = refl

-- `p 000000012`: leading zeros are digits
leading_zeros : meant (112 ∷ 32 ∷ 48 ∷ 48 ∷ 48 ∷ 48 ∷ 48 ∷ 48 ∷ 48 ∷ 49 ∷ 50 ∷ []) ≡ purge 12
unfolding meant of_fields of_letter as_request as_convert as_release as_cancel as_purge as_break as_poll numbers_then parted is_number number
leading_zeros = refl

-- `p 0000000012`: ten digits are no number
ten_digits : meant (112 ∷ 32 ∷ 48 ∷ 48 ∷ 48 ∷ 48 ∷ 48 ∷ 48 ∷ 48 ∷ 48 ∷ 49 ∷ 50 ∷ []) ≡ malformed
unfolding meant of_fields of_letter as_request as_convert as_release as_cancel as_purge as_break as_poll numbers_then parted is_number number
ten_digits = refl

-- `p` and a space: no digit is no number
no_digits : meant (112 ∷ 32 ∷ []) ≡ malformed
unfolding meant of_fields of_letter as_request as_convert as_release as_cancel as_purge as_break as_poll numbers_then parted is_number number
no_digits = refl

-- `p +1`
signed : meant (112 ∷ 32 ∷ 43 ∷ 49 ∷ []) ≡ malformed
unfolding meant of_fields of_letter as_request as_convert as_release as_cancel as_purge as_break as_poll numbers_then parted is_number number
signed = refl

-- `q 1 5 0`, with three spaces
no_fourth_space : meant (113 ∷ 32 ∷ 49 ∷ 32 ∷ 53 ∷ 32 ∷ 48 ∷ []) ≡ malformed
unfolding meant of_fields of_letter as_request as_convert as_release as_cancel as_purge as_break as_poll numbers_then parted is_number number
no_fourth_space = refl

-- the same with a fourth: the name is empty
empty_name : meant (113 ∷ 32 ∷ 49 ∷ 32 ∷ 53 ∷ 32 ∷ 48 ∷ 32 ∷ []) ≡ request 1 5 0 []
unfolding meant of_fields of_letter as_request as_convert as_release as_cancel as_purge as_break as_poll numbers_then parted is_number number
empty_name = refl

-- a name of any bytes, spaces too
spaced_name : meant (113 ∷ 32 ∷ 49 ∷ 32 ∷ 53 ∷ 32 ∷ 48 ∷ 32 ∷ 32 ∷ 97 ∷ 32 ∷ 98 ∷ []) ≡ request 1 5 0 (32 ∷ 97 ∷ 32 ∷ 98 ∷ [])
unfolding meant of_fields of_letter as_request as_convert as_release as_cancel as_purge as_break as_poll numbers_then parted is_number number
spaced_name = refl

-- `x 1  2`: fields are parted by one space
two_spaces : meant (120 ∷ 32 ∷ 49 ∷ 32 ∷ 32 ∷ 50 ∷ []) ≡ malformed
unfolding meant of_fields of_letter as_request as_convert as_release as_cancel as_purge as_break as_poll numbers_then parted is_number number
two_spaces = refl

-- a space at the end
last_space : meant (120 ∷ 32 ∷ 49 ∷ 32 ∷ 50 ∷ 32 ∷ []) ≡ malformed
unfolding meant of_fields of_letter as_request as_convert as_release as_cancel as_purge as_break as_poll numbers_then parted is_number number
last_space = refl

-- `d` and a space
break_space : meant (100 ∷ 32 ∷ []) ≡ malformed
unfolding meant of_fields of_letter as_request as_convert as_release as_cancel as_purge as_break as_poll numbers_then parted is_number number
break_space = refl

-- an empty line
no_letter : meant ([]) ≡ malformed
unfolding meant of_fields of_letter as_request as_convert as_release as_cancel as_purge as_break as_poll numbers_then parted is_number number
no_letter = refl

-- `z 1`
other_letter : meant (122 ∷ 32 ∷ 49 ∷ []) ≡ malformed
unfolding meant of_fields of_letter as_request as_convert as_release as_cancel as_purge as_break as_poll numbers_then parted is_number number
other_letter = refl

-- `pp 1`
long_letter : meant (112 ∷ 112 ∷ 32 ∷ 49 ∷ []) ≡ malformed
unfolding meant of_fields of_letter as_request as_convert as_release as_cancel as_purge as_break as_poll numbers_then parted is_number number
long_letter = refl

-- byte 13 is a byte like others
carriage : meant (100 ∷ 13 ∷ []) ≡ malformed
unfolding meant of_fields of_letter as_request as_convert as_release as_cancel as_purge as_break as_poll numbers_then parted is_number number
carriage = refl

-- 256 bytes, and 257
line_256 : meant ((113 ∷ 32 ∷ 49 ∷ 32 ∷ 53 ∷ 32 ∷ 48 ∷ 32 ∷ []) ++ replicate 248 97) ≡ request 1 5 0 (replicate 248 97)
unfolding meant of_fields of_letter as_request as_convert as_release as_cancel as_purge as_break as_poll numbers_then parted is_number number
line_256 = refl

-- 257 bytes
line_257 : meant ((113 ∷ 32 ∷ 49 ∷ 32 ∷ 53 ∷ 32 ∷ 48 ∷ 32 ∷ []) ++ replicate 249 97) ≡ malformed
unfolding meant of_fields of_letter as_request as_convert as_release as_cancel as_purge as_break as_poll numbers_then parted is_number number
line_257 = refl
