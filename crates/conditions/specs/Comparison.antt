-- A relation and the right side of a condition.
use Rattle.std.specs.Prelude.{◌≡◌, List, [], ◌∷◌, ◌++◌, ℕ, drop}
use Rattle.std.proofs.Math.Option.{some}
use Rattle.int32.specs.declared.Relation.{Relation}
use Rattle.syntax.specs.Grammar.{Expr}
use Rattle.syntax.specs.Known.{Entry}
use Rattle.syntax.specs.Conditions.{Mention, mentions}
use Rattle.syntax.specs.Reader.{Reader, rel_of, read_expr, read_compared, peek_in, skip_in}
use Rattle.code.specs.Instr.{Instr, jump_unless}
use Rattle.code.specs.Compile.{code}
use Rattle.parts.specs.Parts.{Passes}
use Rattle.conditions.specs.declared.Compared.{Compared}

-- the relation that stands at a place, and the place after it
pub record Relates (s : List ℕ) (at : ℕ) (c : Compared) : Type 0 where
  pub relation : rel_of (peek_in (drop at s)) ≡ some c.relation
  pub passed : Passes 1 s at c.next

-- what follows the left side of a condition
abbrev pub read_right : ℕ → Reader (List ℕ) (Relation × Expr)
read_right f = read_compared peek_in skip_in (read_expr peek_in skip_in f) (λ r b. (r, b))

-- its instructions, and what it mentions
abbrev pub code_compared : ℕ → List Entry → List ℕ → Relation × Expr → List Instr
code_compared line t v c = code t v line c.1 ++ (jump_unless c.0 0 ∷ [])

abbrev pub in_compared : Relation × Expr → List Mention
in_compared c = mentions 0 c.1
