-- How a packed answer reads.
use mathlib.Core.Path.{◌≡◌, refl, sym, ◌∙◌}
use mathlib.Core.Logic.{◌≢◌}
use Prim.Native.Nat.{ℕ, zero, suc, ◌+◌, ◌*◌, ◌-◌, ◌/◌, ◌%◌, ◌^◌, ◌<◌}
use native.Mathlib.Omega.{arith}
use borrow.Author.Rules.{rules}
use borrow.Author.Tests.{le-leb, lt-leb}
use Rattle.rules.specs.declared.Said.{Said}
use Rattle.rules.specs.Calls.{refused}
use Rattle.rules.specs.Numbers.{Small}
use Rattle.c_answers.specs.PackedAnswers.{refused_with, unpacked}

numbered : (n : ℕ) → n ≢ 0 → refused_with n ≡ refused n
numbered zero some = absurd (some refl)
numbered (suc n) some = refl

-- three numbers of 16 bits in their places
module _ (a k e : ℕ) (first : a < 2 ^ 16) (second : k < 2 ^ 16) (third : e < 2 ^ 16) where
  abbrev placed : ℕ
  placed = a + k * 65536 + e * 4294967296

  over : placed / 2 ^ 16 ≡ k + e * 65536
  over = omega arith

  middle : placed / 2 ^ 16 % 2 ^ 16 ≡ k
  middle = rw over (omega arith)

  placed_reads : unpacked placed ≡ record { refusal = 0; answer = a; number = k; extra = e }
  unfolding unpacked
  placed_reads =
      let low : placed < 2 ^ 63 = omega arith in
      let lowest : placed % 2 ^ 16 ≡ a = omega arith in
      let highest : placed / 2 ^ 32 ≡ e = omega arith in
      rw (lt-leb (2 ^ 63) placed low) (λ i. record { refusal = 0; answer = lowest i; number = middle i; extra = highest i })

module _ (x : Said) (small : Small x) where
  pub refusal_reads : (w : ℕ) → (x.refusal ≡ 0 → ⊥) → w ≡ x.refusal → unpacked (2 ^ 63 + w) ≡ x
  unfolding unpacked
  refusal_reads w some e =
      let below : 2 ^ 63 + w - 2 ^ 63 ≡ x.refusal = omega arith in
      rw (le-leb (2 ^ 63) (2 ^ 63 + w) (omega arith), below) (numbered x.refusal some ∙ sym (small.silent some))

  pub answer_reads : (a k e : ℕ) → x.refusal ≡ 0 → a ≡ x.answer → k ≡ x.number → e ≡ x.extra → unpacked (a + k * 65536 + e * 4294967296) ≡ x
  answer_reads a k e none p q r =
      rw (p, q, r)
      (placed_reads x.answer x.number x.extra small.answer small.number small.extra
      ∙ λ i. record { refusal = sym none i; answer = x.answer; number = x.number; extra = x.extra })

pub ruleset packing = (rules, refusal_reads, answer_reads)
