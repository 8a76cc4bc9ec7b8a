-- The numbers of classes, which Name answers (RULES 9.2 c). The rest are devices: classes and groups by their numbers, as the code has them.
use Rattle.std.specs.Prelude.{ℕ, eqb, cond}
use Rattle.rules.specs.declared.Grouping.{Grouping}
use Rattle.rules.specs.declared.Grouping.TheVariants.{Iterations, Blocks}
use Rattle.rules.specs.declared.Operator.TheVariants.{Sum, Product, Maximum}
use Rattle.rules.specs.declared.Class.{Class}
use Rattle.rules.specs.declared.Class.TheVariants.{Shared as shared, Lastprivate as lastprivate, Copied as copied, Reduction as reduction}

-- of a class, in the table of names and in the shadow tables
abbrev pub class_number : Class → ℕ
class_number shared = 0
class_number lastprivate = 1
class_number (reduction Sum) = 2
class_number copied = 3
class_number (reduction Product) = 4
class_number (reduction Maximum) = 5

-- the class of a number; that of a number that no class has stands for nothing
abbrev pub class_by : ℕ → Class
class_by k =
    cond
    (eqb k 0)
    shared
    (cond (eqb k 1) lastprivate (cond (eqb k 3) copied (cond (eqb k 4) (reduction Product) (cond (eqb k 5) (reduction Maximum) (reduction Sum)))))

-- of the group of iteration i, which processor p has (`tested_group`, proofs/BlocksLaws)
abbrev pub grouped : Grouping → ℕ → ℕ → ℕ
grouped Iterations i p = i
grouped Blocks i p = p
