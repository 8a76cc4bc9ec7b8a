-- RULES 3.2 c and 4.5 (document 02, Point 6): what an update does to its cell, and partial results to one another.
use Rattle.std.specs.Prelude.{◌≡◌, ℤ, pos, negsuc}
use Rattle.int32.specs.Integers.{sum, product, larger}
use Rattle.rules.specs.declared.Operator.{Operator}
use Rattle.rules.specs.declared.Operator.TheVariants.{Sum, Product, Maximum}

pub record Operation : Type 0 where
  pub join : ℤ → ℤ → ℤ
  pub start : ℤ  -- where a partial result begins

-- "any operation that is commutative, associative and has a neutral number": neutral for what the operation gives, and for itself. The three operations
-- bring any number into the range, so that there it is neutral for every number
pub record Lawful (o : Operation) : Type 0 where
  pub comm : (x y : ℤ) → o.join x y ≡ o.join y x
  pub assoc : (x y z : ℤ) → o.join (o.join x y) z ≡ o.join x (o.join y z)
  pub neutral : (x y : ℤ) → o.join (o.join x y) o.start ≡ o.join x y
  pub starts : o.join o.start o.start ≡ o.start

-- "Partial results start at 1 and −2147483648", sums at 0
abbrev pub operation : Operator → Operation
operation Sum = record { join = sum; start = pos 0 }
operation Product = record { join = product; start = pos 1 }
operation Maximum = record { join = larger; start = negsuc 2147483647 }
