-- Literals with an optional sign, by their numbers up to 2^31.
use mathlib.Core.Path.{◌≡◌, refl, ◌∙◌, ap}
use Prim.Native.Nat.{ℕ, ◌≤◌, ◌<◌, ◌^◌, min}
use native.Mathlib.Omega.{arith}
use borrow.Author.Tests.{le-leb, leb-true}
use mir.Syntax.{w32}
use mir.Val.{SFits}
use lib.Dec.{leb}
use lib.IntN.{pos, neg_ℤ}
use Rattle.syntax.specs.Grammar.{Lead, bare, plus, minus}
use Rattle.syntax.specs.Known.{signed}
use Rattle.syntax.specs.Meaning.{led}
use Rattle.syntax.proofs.LoopValues.{signed_size, small_fits}
use Rattle.syntax.proofs.TestLaws.{same_truth}
use Rattle.int32.specs.Integers.{value, wrap, negation}
use Rattle.int32.proofs.Laws.{value_cases, value_fits, wrap_id, negation_fits}

pub led_fits : (l : Lead) (n : ℕ) → n < 2 ^ 32 → SFits w32 (led l (value n))
led_fits bare n h = value_fits n h
led_fits plus n h = value_fits n h
led_fits minus n h = negation_fits (value n)

-- the limit, by a number up to 2^31
pub leb_least : (n : ℕ) → leb (min n 2147483648) 2147483647 ≡ leb n 2147483647
leb_least n = same_truth _ _ (λ h. le-leb n 2147483647 (omega (arith, leb-true (min n 2147483648) 2147483647 h)))
    (λ h. le-leb (min n 2147483648) 2147483647 (omega (arith, leb-true n 2147483647 h)))

pub signed_value : (l : Lead) (n : ℕ) → n ≤ 2147483647 → led l (value n) ≡ signed l n
unfolding negation wrap
signed_value l n h = go l (value_cases (λ z. z ≡ pos n) n (λ _. refl) (λ b. absurd (omega arith)))
  where
    go : (l : Lead) → value n ≡ pos n → led l (value n) ≡ signed l n
    go bare e = e
    go plus e = e
    go minus e = ap negation e ∙ wrap_id (neg_ℤ (pos n)) (small_fits (neg_ℤ (pos n)) (omega (arith, signed_size minus n)))
