-- The three operations are commutative, associative and have a neutral number. Their results are those of cells.
use lib.IntN.{ℤ, pos, negsuc}
use native.Mathlib.Omega.{arith}
use mir.Syntax.{w32}
use mir.Val.{SFits}
use Rattle.int32.specs.Integers.{sum, product, larger}
use Rattle.int32.proofs.Laws.{sum_assoc, sum_comm, sum_fits, sum_zero_r, product_assoc, product_comm, product_fits, product_one_r, larger_assoc, larger_comm, larger_fits, larger_least_r}
use Rattle.rules.specs.declared.Operator.{Operator}
use Rattle.rules.specs.declared.Operator.TheVariants.{Sum, Product, Maximum}
use Rattle.rules.specs.Operation.{Lawful, operation}

pub join_fits : (o : Operator) (x y : ℤ) → SFits w32 ((operation o).join x y)
join_fits Sum x y = sum_fits x y
join_fits Product x y = product_fits x y
join_fits Maximum x y = larger_fits x y

pub start_fits : (o : Operator) → SFits w32 (operation o).start
start_fits Sum = record { sfits = omega arith }
start_fits Product = record { sfits = omega arith }
start_fits Maximum = record { sfits = omega arith }

pub lawful : (o : Operator) → Lawful (operation o)
lawful Sum = record {
  comm = sum_comm;
  assoc = sum_assoc;
  neutral = λ x y. sum_zero_r (sum x y) (sum_fits x y);
  starts = sum_zero_r (pos 0) (start_fits Sum);
}
lawful Product = record {
  comm = product_comm;
  assoc = product_assoc;
  neutral = λ x y. product_one_r (product x y) (product_fits x y);
  starts = product_one_r (pos 1) (start_fits Product);
}
lawful Maximum = record {
  comm = larger_comm;
  assoc = larger_assoc;
  neutral = λ x y. larger_least_r (larger x y) (larger_fits x y);
  starts = larger_least_r (negsuc 2147483647) (start_fits Maximum);
}
