use mathlib.Core.Path.{◌≡◌, ◌∙◌}
use Prim.Native.Nat.{ℕ, max}
use native.Mathlib.Omega.{arith}
use lib.Dec.{leb}
use borrow.Author.Tests.{leb-true, leb-false}
use Rattle.tables.proofs.Cases.{by_cases}
use Rattle.rules.specs.Calls.{larger}
use Rattle.marks.proofs.with_mark.Goals as goal

larger_max : (a b : ℕ) → max a b ≡ larger a b
unfolding larger
larger_max a b =
    by_cases (leb a b)
    (λ h. rw h (omega (arith, leb-true a b h)))
    (λ h. rw h (omega (arith, leb-false a b h)))

pub returns : goal.returns
returns c = rw (c.max-mark.ensures ∙ larger_max c.args.mode c.args.l.mark)
