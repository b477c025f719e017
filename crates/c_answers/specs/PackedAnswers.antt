-- How a caller reads an answer that is one number of 64 bits, whatever call it is of. include/zamgyorud.h has the same as inline functions.
use Rattle.std.specs.Prelude.{cond, ℕ, zero, suc, ◌-◌, ◌/◌, ◌%◌, ◌^◌, leb}
use Rattle.rules.specs.declared.Said.{Said}
use Rattle.rules.specs.Calls.{refused}
use Rattle.answers.specs.Answers.{never}

-- refusals are numbered from 1
abbrev pub refused_with : ℕ → Said
refused_with zero = never
refused_with (suc n) = refused (suc n)

-- A refusal has the highest bit set and its number below. Else the answer is in bits 0 to 15, the lock in bits 16 to 31, one number more in bits
-- 32 to 47, and nothing above.
unfoldable pub unpacked : ℕ → Said
unpacked x =
    cond (leb (2 ^ 63) x)
    (refused_with (x - 2 ^ 63))
    (record { refusal = 0; answer = x % 2 ^ 16; number = x / 2 ^ 16 % 2 ^ 16; extra = x / 2 ^ 32 })
