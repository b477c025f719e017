-- The set of the modes that locks hold on a resource, one of them left out, from the counts of its record.
use Rattle.std.specs.Prelude.{Bool, cond, ℕ, eqb, ltb}
use Rattle.modes.specs.Modes.{NL, CR, CW, PR, PW, EX}
use Rattle.modes.specs.Sets.{with_mode, fits_set}
use Rattle.tables.specs.declared.Lock.{Lock}
use Rattle.tables.specs.Lists.{bit}
use Rattle.tables.specs.State.{converting}
use Rattle.table_fields.specs.declared.ModeCounts.{ModeCounts}

-- one lock may be left out: `own` is the mode that it holds, or this number, which is no mode
abbrev pub no_mode : ℕ
no_mode = 6

-- the set with the mode h, which c locks hold, if more hold it than the one that is left out, which holds `own`
unfoldable pub with_held : ℕ → ℕ → ℕ → ℕ → ℕ
with_held own c h set = cond (ltb (bit (eqb h own)) c) (with_mode set h) set

-- the set of the modes that are held beside that one
unfoldable pub modes_beside : ModeCounts → ℕ → ℕ
modes_beside c own =
    with_held own c.ex EX (with_held own c.pw PW (with_held own c.pr PR
    (with_held own c.cw CW (with_held own c.cr CR (with_held own c.nl NL 0)))))

-- what a blocked lock leaves out: a converting lock is not in its own way, a waiting one holds nothing
unfoldable pub own_mode : Lock → ℕ
own_mode l = cond (converting l) l.held no_mode

-- the mode m is compatible with each of them
unfoldable pub goes_beside : ModeCounts → ℕ → ℕ → Bool
goes_beside c own m = fits_set (modes_beside c own) m
