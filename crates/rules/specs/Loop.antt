-- RULES 1.7 d and 4.1. A loop as its runs see it: what each iteration does, and the cells. Which processor has which iterations is a `Partition`, kept apart,
-- since the serial run is "fed the text and the cells as lent and nothing else".
-- Cells are functions from a cell's number, counted from 0: an update at one cell is `put`, and two states are equal when every cell is.
-- `Cells` goes from what the code holds, a list, to a function and back.
use Rattle.std.specs.Prelude.{ℕ, ℤ}
use Rattle.rules.specs.declared.Class.{Class}
use Rattle.rules.specs.declared.Class.TheVariants.{Shared as shared, Lastprivate as lastprivate, Copied as copied, Reduction as reduction}
use Rattle.rules.specs.declared.Operator.{Operator}
use Rattle.rules.specs.declared.Operator.TheVariants.{Sum}
use Rattle.rules.specs.Operation.{Operation, operation}

-- What an iteration still does. A read goes on by the value that it gets; an update has its remainder; a fault its number and line.
pub data Act : Type 0 where
  read : ℕ → (ℤ → Act) → Act
  write : ℕ → ℤ → Act → Act
  update : ℕ → ℤ → Act → Act
  fault : ℕ → ℕ → Act
  done : Act

-- A `Class` is what a cell is by the clauses of its name; "a name in no clause is shared". Document 02, Point 5: "A name may stand in `firstprivate` and
-- `lastprivate` together": its cells are `copied`. Point 6: "Add `reduction(*:list)` and `reduction(max:list)`"
-- the cells of this class may be updated
abbrev pub Reduces : Class → Type 0
Reduces shared = ⊥
Reduces lastprivate = ⊥
Reduces copied = ⊥
Reduces (reduction o) = Unit {0}

-- Point 6: "Each name has the update of its own clause only". The other classes have no updates (`Proper`), and theirs stands for nothing
abbrev pub operator : Class → Operator
operator shared = Sum
operator lastprivate = Sum
operator copied = Sum
operator (reduction o) = o

pub record Loop : Type 0 where
  pub size : ℕ  -- "N is the number of cells"
  pub iterations : ℕ  -- "n the iterations", "index 0 first"
  pub body : ℕ → Act  -- what the iteration of an index does
  pub class : ℕ → Class
  pub entry : ℕ → ℤ  -- the cells at entry

-- what updates of cell c do
abbrev pub joining : Loop → ℕ → Operation
joining l c = operation (operator (l.class c))

-- Neighbouring iterations form groups: group g has those from `cut g` up to below `cut (suc g)`. Processor p has the groups from
-- `share p` up to below `share (suc p)`. What an iteration wrote itself, marks and obstacles go by groups. In document 01 each
-- iteration is a group of its own (`Blocks`), and "group" below may be read as "iteration"; with the clause of document 02, Point 3, each
-- processor's block is one, and it may be read as "block".
pub record Partition : Type 0 where
  pub processors : ℕ  -- "P the processors"
  pub groups : ℕ
  pub group : ℕ → ℕ  -- the group of an iteration
  pub cut : ℕ → ℕ
  pub share : ℕ → ℕ

-- the first iteration of processor p
abbrev pub bound : Partition → ℕ → ℕ
bound δ p = δ.cut (δ.share p)
