-- The numbers of classes.
use mathlib.Core.Path.{◌≡◌, refl}
use mathlib.Core.List.{[], ◌∷◌, map}
use Prim.Native.Nat.{◌≤◌}
use native.Mathlib.Omega.{arith}
use Rattle.rules.specs.declared.Operator.{Operator}
use Rattle.rules.specs.declared.Operator.TheVariants.{Sum, Product, Maximum}
use Rattle.rules.specs.declared.Class.{Class}
use Rattle.rules.specs.declared.Class.TheVariants.{Shared as shared, Lastprivate as lastprivate, Copied as copied, Reduction as reduction}
use Rattle.rules.specs.Numbers.{class_number, class_by}

pub class_most : (k : Class) → class_number k ≤ 5
class_most shared = omega arith
class_most lastprivate = omega arith
class_most copied = omega arith
class_most (reduction Sum) = omega arith
class_most (reduction Product) = omega arith
class_most (reduction Maximum) = omega arith

-- a class with updates has none of the other classes' numbers
pub reduction_number : (o : Operator) → (2 ≤ class_number (reduction o)) × (class_number (reduction o) ≡ 3 → ⊥)
reduction_number Sum = (omega arith, λ e. omega arith)
reduction_number Product = (omega arith, λ e. omega arith)
reduction_number Maximum = (omega arith, λ e. omega arith)

-- the number of a class gives it back
pub numbered : (k : Class) → class_by (class_number k) ≡ k
numbered shared = refl
numbered lastprivate = refl
numbered copied = refl
numbered (reduction Sum) = refl
numbered (reduction Product) = refl
numbered (reduction Maximum) = refl

-- RULES 9.2 c, row by row: 0 no clause, 1 lastprivate alone, 2 a sum, 3 both clauses, 4 a product, 5 a maximum
pub number_rows : map class_number (shared ∷ lastprivate ∷ reduction Sum ∷ copied ∷ reduction Product ∷ reduction Maximum ∷ []) ≡ 0 ∷ 1 ∷ 2 ∷ 3 ∷ 4 ∷ 5 ∷ []
number_rows = refl
