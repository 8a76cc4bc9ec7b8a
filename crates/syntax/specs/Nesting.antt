-- RULES 1.9: statements stand on lines of their own, and in one another. Here are the lines between `do` and `end do`, and
-- nested statements (`Known.Stmts`) written out as lines again. That the two are the same is proved in proofs/Theorem.antt.
use Rattle.std.specs.Prelude.{◌≡◌, List, [], ◌∷◌, ◌++◌, map, ℕ}
use Rattle.int32.specs.declared.Relation.{Relation}
use Rattle.syntax.specs.Grammar.{Expr, Ref, Statement, assign, when, otherwise, end_if, Line, declare, give, direct, loop, inside, end_do, close}
use Rattle.syntax.specs.Known.{Stmts, stop, set, if_then, if_else}
use Rattle.syntax.specs.Conditions.{concat, stage_of}
use Rattle.syntax.specs.Follows.{Program}

-- what nested statements keep of a line: an assignment and an `if`, each with its line's number; `else`; `end if`
pub data BodyLine : Type 0 where
  assign_line : ℕ → Ref → Expr → BodyLine
  if_line : ℕ → Expr → Relation → Expr → BodyLine
  else_line : BodyLine
  end_if_line : BodyLine

-- nested statements, one line after the other
unfoldable pub written_out : Stmts → List BodyLine
written_out stop = []
written_out (set k r e rest) = assign_line k r e ∷ written_out rest
written_out (if_then k a rel b p rest) = if_line k a rel b ∷ (written_out p ++ end_if_line ∷ written_out rest)
written_out (if_else k a rel b p q rest) = if_line k a rel b ∷ (written_out p ++ else_line ∷ (written_out q ++ end_if_line ∷ written_out rest))

-- the statement on line k
abbrev pub body_line : ℕ × Statement → BodyLine
body_line (k, assign r e) = assign_line k r e
body_line (k, when a rel b) = if_line k a rel b
body_line (k, otherwise) = else_line
body_line (k, end_if joined?) = end_if_line

abbrev pub in_body : ℕ × Line → List BodyLine
in_body (k, declare d ds) = []
in_body (k, give x i is) = []
in_body (k, direct cs) = []
in_body (k, loop v l m j n) = []
in_body (k, inside t) = body_line (k, t) ∷ []
in_body (k, end_do joined?) = []
in_body (k, close) = []

-- the statements of a text's lines, in the order of the lines
unfoldable pub body_lines : Program → List BodyLine
body_lines p = concat in_body p

-- a statement with its line's number, as a line
abbrev pub as_line : ℕ × Statement → ℕ × Line
as_line (k, t) = (k, inside t)

-- the lines between `do` and `end do` (4 and 6 of 1 to 7) are these statements
pub record Framed (p : Program) (b : List (ℕ × Statement)) : Type 0 where
  pub front : Program
  pub do_line : ℕ × Line
  pub end_line : ℕ × Line
  pub back : Program
  pub begins : stage_of do_line.1 ≡ 4
  pub ends : stage_of end_line.1 ≡ 6
  pub whole : p ≡ front ++ do_line ∷ (map as_line b ++ end_line ∷ back)
