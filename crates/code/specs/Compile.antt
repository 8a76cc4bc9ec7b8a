-- The code of expressions and statements: what the reader emits. Nothing here has to be believed (see `Instr`).
use Rattle.std.specs.Prelude.{cond, List, [], ◌∷◌, ◌++◌, ℕ, suc, ◌-◌, min, length}
use Rattle.std.proofs.Math.Option.{Option, none, some}
use Rattle.int32.specs.declared.Relation.{Relation}
use Rattle.syntax.specs.declared.Function.{Function}
use Rattle.syntax.specs.declared.Function.TheVariants.{Rdiv, Max}
use Rattle.syntax.specs.Bytes.{same}
use Rattle.syntax.specs.Grammar.{number, Lead, bare, plus, minus, Expr, expr, Terms, no_terms, terms, Term, term, Factors, no_factors, factors, Factor, literal, cell, call, brackets, Ref, single, element, Subscripts, subscript, subscripts}
use Rattle.syntax.specs.Known.{Entry, rows, columns, find, Stmts, stop, set, if_then, if_else, Open, State}
use Rattle.syntax.specs.Meaning.{operator_at, is_update, remainder}
use Rattle.code.specs.Instr.{Instr, push, push_v, load, load_at, add, subtract, multiply, negate, divide, round, store, store_at, check, update, update_at, jump_unless, jump, maximum, flatten}

abbrev pub code_lead : Lead → List Instr
code_lead bare = []
code_lead plus = []
code_lead minus = negate ∷ []

abbrev pub calls : ℕ → Function → Instr
calls line Rdiv = round line
calls line Max = maximum

-- the names, and the loop's variable; the line
module _ (t : List Entry) (v : List ℕ) where
  -- the read of a reference, once its subscript is pending
  abbrev pub reads : ℕ → Ref → Instr
  reads line (single x) = cond (same x v) push_v (load (find x t).first)
  reads line (element x is) = load_at (find x t).first (find x t).size line

  -- a literal over the limit stands for none: such a text is refused
  unfoldable mutual
    pub code : ℕ → Expr → List Instr
    code line (expr l a as') = (code_term line a ++ code_lead l) ++ code_terms line as'

    pub code_terms : ℕ → Terms → List Instr
    code_terms line no_terms = []
    code_terms line (terms minus? a as') = (code_term line a ++ (cond minus? subtract add ∷ [])) ++ code_terms line as'

    pub code_term : ℕ → Term → List Instr
    code_term line (term f fs) = code_factor line f ++ code_factors line fs

    pub code_factors : ℕ → Factors → List Instr
    code_factors line no_factors = []
    code_factors line (factors over? f fs) = (code_factor line f ++ (cond over? (divide line) multiply ∷ [])) ++ code_factors line fs

    pub code_factor : ℕ → Factor → List Instr
    code_factor line (literal d) = push (min (number d) 2147483648) ∷ []
    code_factor line (cell r) = code_ref line r ++ (reads line r ∷ [])
    code_factor line (call f a b) = (code line a ++ code line b) ++ (calls line f ∷ [])
    code_factor line (brackets e) = code line e

    -- the subscript of a reference; of a grid's two one is made
    pub code_ref : ℕ → Ref → List Instr
    code_ref line (single x) = []
    code_ref line (element x is) = code_subscripts line (find x t) is

    pub code_subscripts : ℕ → Entry → Subscripts → List Instr
    code_subscripts line y (subscript e) = code line e
    code_subscripts line y (subscripts e f) = (code line e ++ code line f) ++ (flatten (rows y) (columns y) line ∷ [])

  abbrev pub stores : ℕ → Ref → Instr
  stores line (single x) = store (find x t).first
  stores line (element x is) = store_at (find x t).first (find x t).size line

  abbrev pub checks : ℕ → Ref → List Instr
  checks line (single x) = []
  checks line (element x is) = check (find x t).first (find x t).size line ∷ []

  abbrev pub updates : ℕ → Ref → Instr
  updates line (single x) = update (find x t).first
  updates line (element x is) = update_at (find x t).first (find x t).size line

  unfoldable pub code_assign : ℕ → Ref → Expr → List Instr
  code_assign line r e =
      cond (is_update t r e)
      (((code_ref line r ++ checks line r) ++ code line (remainder (operator_at t r) e)) ++ (updates line r ∷ []))
      ((code line e ++ code_ref line r) ++ (stores line r ∷ []))

  -- the condition of an `if`, and the jump over its first part, of so many instructions
  abbrev pub code_if : ℕ → Expr → Relation → Expr → ℕ → List Instr
  code_if line a rel b n = (code line a ++ code line b) ++ (jump_unless rel n ∷ [])

  unfoldable pub code_stmts : Stmts → List Instr
  code_stmts stop = []
  code_stmts (set line r e rest) = code_assign line r e ++ code_stmts rest
  code_stmts (if_then line a rel b p rest) = (code_if line a rel b (length (code_stmts p)) ++ code_stmts p) ++ code_stmts rest
  code_stmts (if_else line a rel b p q rest) =
      (((code_if line a rel b (suc (length (code_stmts p))) ++ code_stmts p) ++ (jump (length (code_stmts q)) ∷ [])) ++ code_stmts q) ++ code_stmts rest

  -- an open `if` with what stood before it: its jump, or that of its `else`, is over nothing until the part's end is known
  abbrev pub code_open : Open → Option Stmts → List Instr
  code_open o none = code_stmts o.before ++ code_if o.line o.left o.relation o.right 0
  code_open o (some p) =
      ((code_stmts o.before ++ code_if o.line o.left o.relation o.right (suc (length (code_stmts p)))) ++ code_stmts p) ++ (jump 0 ∷ [])

  -- the open ifs, the innermost first
  unfoldable pub code_opens : List Open → List Instr
  code_opens [] = []
  code_opens (o ∷ os) = code_opens os ++ code_open o o.first

  -- what is emitted for the lines so far
  unfoldable pub code_lines : List Open → Stmts → List Instr
  code_lines os inner = code_opens os ++ code_stmts inner

  -- where the jumps of the open ifs stand, the innermost first: each is the last of the code that is emitted for its `if` or its `else`
  unfoldable pub places : List Open → List ℕ
  places [] = []
  places (o ∷ os) = (length (code_opens (o ∷ os)) - 1) ∷ places os

-- the code of a text
unfoldable pub code_of : State → List Instr
code_of s = code_lines s.table s.variable s.opens s.inner

abbrev pub places_of : State → List ℕ
places_of s = places s.table s.variable s.opens

-- the words that hold the code of any text, and what is written past it while a line is read
abbrev pub code_words : ℕ
code_words = 8194
