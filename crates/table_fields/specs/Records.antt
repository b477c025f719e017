-- A resource's record beside its links, as it stands in the words; the words with another record in its place; and its counts.
use Rattle.std.specs.Prelude.{List, ℕ, set}
use Rattle.tables.specs.Layout.{of_resource, place, resources_in, word_in, count_in}
use Rattle.modes.specs.Modes.{NL, CR, CW, PR, PW, EX}
use Rattle.table_fields.specs.declared.ResourceFields.{ResourceFields}
use Rattle.table_fields.specs.declared.ModeCounts.{ModeCounts}

unfoldable pub read_fields : List ℕ → ℕ → ResourceFields
read_fields ws r = record { bytes = word_in ws (of_resource r 4); valid = word_in ws (of_resource r 5) }

unfoldable pub with_fields : ℕ → ResourceFields → List ℕ → List ℕ
with_fields r x ws = set (set ws (place (resources_in ws) (of_resource r 4)) x.bytes) (place (resources_in ws) (of_resource r 5)) x.valid

-- how many locks hold each mode, by some count of them; and by the words
abbrev pub counts_by : (ℕ → ℕ) → ModeCounts
counts_by f = record { nl = f NL; cr = f CR; cw = f CW; pr = f PR; pw = f PW; ex = f EX }

unfoldable pub read_counts : List ℕ → ℕ → ModeCounts
read_counts ws r = counts_by (count_in ws r)
