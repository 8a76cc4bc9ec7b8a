-- The parts of a row's flags.
use mathlib.Core.Path.{◌≡◌, refl, ◌∙◌, ap}
use mathlib.Core.Bool.{Bool, true, false, cond}
use Prim.Native.Nat.{ℕ, ◌+◌, ◌*◌, ◌/◌, ◌%◌, ◌≤◌}
use native.Mathlib.Omega.{arith}
use Rattle.rules.specs.Choose.{pick}
use Rattle.rules.specs.ChooseLaws.{pick_same, pick_other}
use Rattle.rules.specs.declared.Class.{Class}
use Rattle.rules.specs.Numbers.{class_number, class_by}
use Rattle.rules.proofs.NumberLaws.{numbered}
use Rattle.tables.specs.Layout.{bit, flags_of}

pub bit_most : (b : Bool) → bit b ≤ 1
bit_most true = omega arith
bit_most false = omega arith

module _ (k : Class) (cr up : Bool) where
  pub flags_crossed : flags_of k cr up % 2 ≡ bit cr
  flags_crossed = low (class_number k) (bit up) (bit cr) (bit_most cr)
    where
      low : (a b c : ℕ) → c ≤ 1 → (4 * a + 2 * b + c) % 2 ≡ c
      low a b c h = omega arith

  pub flags_updated : flags_of k cr up / 2 % 2 ≡ bit up
  flags_updated = middle (class_number k) (bit up) (bit cr) (bit_most up) (bit_most cr)
    where
      middle : (a b c : ℕ) → b ≤ 1 → c ≤ 1 → (4 * a + 2 * b + c) / 2 % 2 ≡ b
      middle a b c g h = omega arith

  pub flags_number : flags_of k cr up / 4 ≡ class_number k
  flags_number = high (class_number k) (bit up) (bit cr) (bit_most up) (bit_most cr)
    where
      high : (a b c : ℕ) → b ≤ 1 → c ≤ 1 → (4 * a + 2 * b + c) / 4 ≡ a
      high a b c g h = omega arith

  pub flags_class : class_by (flags_of k cr up / 4) ≡ k
  flags_class = ap class_by flags_number ∙ numbered k

-- a choice by a mark's bit
pub pick_bit : {A : Type 0} (b : Bool) (x y : A) → pick (bit b) 1 x y ≡ cond b x y
pick_bit true x y = pick_same refl x y
pick_bit false x y = pick_other (omega arith) x y
