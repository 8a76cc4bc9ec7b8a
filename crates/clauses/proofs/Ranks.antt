-- Ranks, of which the highest counts.
use mathlib.Core.Path.{◌≡◌}
use mathlib.Core.Bool.{Bool, true, false, ◌&&◌}
use Prim.Native.Nat.{ℕ, ◌≤◌, max}
use native.Mathlib.Omega.{arith}
use Rattle.heading.specs.Lists.{order}

-- two ranks, one after the other
pub both_ranks : (most : ℕ) (a c b d : Bool) → max (max most (order a c)) (order b d) ≡ max most (order (a && b) (c && d))
both_ranks most true true true d = omega arith
both_ranks most true true false d = omega arith
both_ranks most true false true true = omega arith
both_ranks most true false true false = omega arith
both_ranks most true false false d = omega arith
both_ranks most false c true d = worst (order true d) (order_low d)
  where
    order_low : (x : Bool) → order true x ≤ 2
    order_low true = omega arith
    order_low false = omega arith

    worst : (n : ℕ) → n ≤ 2 → max (max most 2) n ≡ max most 2
    worst n h = omega arith
both_ranks most false c false d = omega arith
