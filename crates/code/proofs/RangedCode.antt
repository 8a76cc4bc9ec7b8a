-- Every instruction of a text's code can be read back from its words, since a table of at most 4,096 cells has its arrays below cell 4,096 and grids of no
-- more rows or columns.
use mathlib.Core.Bool.{cond}
use mathlib.Core.List.{List, [], ◌∷◌, ◌++◌}
use mathlib.Core.Option.{Option, none, some}
use Prim.Native.Nat.{ℕ, min, ◌≤◌, ◌<◌}
use native.Mathlib.Omega.{arith}
use lib.ListN.{length}
use Rattle.int32.specs.declared.Relation.{Relation}
use Rattle.syntax.specs.declared.Function.{Function}
use Rattle.syntax.specs.declared.Function.TheVariants.{Rdiv, Max}
use Rattle.syntax.specs.Bytes.{same}
use Rattle.syntax.specs.Grammar.{number, Lead, bare, plus, minus, Expr, expr, Terms, no_terms, terms, Term, term, Factors, no_factors, factors, Factor, literal, cell, call, brackets, Ref, single, element, Subscripts, subscript, subscripts}
use Rattle.syntax.specs.Known.{Entry, rows, columns, find, cells, Stmts, stop, set, if_then, if_else, Open, State}
use Rattle.syntax.specs.Meaning.{operator_at, is_update, remainder}
use Rattle.syntax.specs.Sane.{Each, SaneTable, Sane}
use Rattle.syntax.proofs.TestLaws.{each_append, cond_each}
use Rattle.syntax.proofs.Table.{find_first, find_extents}
use Rattle.code.specs.Instr.{Instr, push, add, subtract, multiply, negate, divide, jump_unless, jump, flatten}
use Rattle.code.specs.Compile.{code_lead, calls, reads, code, code_terms, code_term, code_factors, code_factor, code_ref, code_subscripts, stores, checks, updates, code_assign, code_if, code_stmts, code_open, code_opens, code_lines, code_of}
use Rattle.code.proofs.Words.{Ranged}

-- as a record, so that the list is inferred
record Readable (is : List Instr) : Type 0 where
  each : Each Ranged is

infixr 30 ◌▸◌
◌▸◌ : {a b : List Instr} → Readable a → Readable b → Readable (a ++ b)
◌▸◌ {a} {b} h k = record { each = each_append Ranged a b h.each k.each }

one : (i : Instr) → Ranged i → Readable (i ∷ [])
one i h = record { each = (h, tt) }

nil : Readable []
nil = record { each = tt }

module _ (t : List Entry) (v : List ℕ) (low : (x : List ℕ) → (find x t).first < 4096)
    (few : (x : List ℕ) → (rows (find x t) < 8192) × (columns (find x t) < 8192)) where
  lead_readable : (l : Lead) → Readable (code_lead l)
  lead_readable bare = nil
  lead_readable plus = nil
  lead_readable minus = one negate tt

  reads_ranged : (line : ℕ) (r : Ref) → Ranged (reads t v line r)
  reads_ranged line (single x) = cond_each Ranged (same x v) tt tt
  reads_ranged line (element x is) = low x

  calls_ranged : (line : ℕ) (f : Function) → Ranged (calls line f)
  calls_ranged line Rdiv = tt
  calls_ranged line Max = tt

  mutual
    unfolding code code_terms code_term code_factors code_factor code_ref code_subscripts

    expr_readable : (line : ℕ) (e : Expr) → Readable (code t v line e)
    expr_readable line (expr l a as') = (term_readable line a ▸ lead_readable l) ▸ terms_readable line as'

    terms_readable : (line : ℕ) (as' : Terms) → Readable (code_terms t v line as')
    terms_readable line no_terms = nil
    terms_readable line (terms o a as') = (term_readable line a ▸ one (cond o subtract add) (cond_each Ranged o tt tt)) ▸ terms_readable line as'

    term_readable : (line : ℕ) (a : Term) → Readable (code_term t v line a)
    term_readable line (term f fs) = factor_readable line f ▸ factors_readable line fs

    factors_readable : (line : ℕ) (fs : Factors) → Readable (code_factors t v line fs)
    factors_readable line no_factors = nil
    factors_readable line (factors o f fs) =
        (factor_readable line f ▸ one (cond o (divide line) multiply) (cond_each Ranged o tt tt)) ▸ factors_readable line fs

    factor_readable : (line : ℕ) (f : Factor) → Readable (code_factor t v line f)
    factor_readable line (literal d) = one (push (min (number d) 2147483648)) tt
    factor_readable line (cell r) = ref_readable line r ▸ one (reads t v line r) (reads_ranged line r)
    factor_readable line (call f a b) = (expr_readable line a ▸ expr_readable line b) ▸ one (calls line f) (calls_ranged line f)
    factor_readable line (brackets e) = expr_readable line e

    ref_readable : (line : ℕ) (r : Ref) → Readable (code_ref t v line r)
    ref_readable line (single x) = nil
    ref_readable line (element x is) = subscripts_readable line (find x t) is (few x)

    subscripts_readable : (line : ℕ) (y : Entry) (is : Subscripts) → (rows y < 8192) × (columns y < 8192) → Readable (code_subscripts t v line y is)
    subscripts_readable line y (subscript e) h = expr_readable line e
    subscripts_readable line y (subscripts e f) h = (expr_readable line e ▸ expr_readable line f) ▸ one (flatten _ _ line) h

  stores_ranged : (line : ℕ) (r : Ref) → Ranged (stores t v line r)
  stores_ranged line (single x) = tt
  stores_ranged line (element x is) = low x

  updates_ranged : (line : ℕ) (r : Ref) → Ranged (updates t v line r)
  updates_ranged line (single x) = tt
  updates_ranged line (element x is) = low x

  checks_readable : (line : ℕ) (r : Ref) → Readable (checks t v line r)
  checks_readable line (single x) = nil
  checks_readable line (element x is) = one _ (low x)

  assign_readable : (line : ℕ) (r : Ref) (e : Expr) → Readable (code_assign t v line r e)
  unfolding code_assign
  assign_readable line r e = cond_each Readable (is_update t r e)
      (((ref_readable line r ▸ checks_readable line r) ▸ expr_readable line (remainder (operator_at t r) e)) ▸ one (updates t v line r) (updates_ranged line r))
      ((expr_readable line e ▸ ref_readable line r) ▸ one (stores t v line r) (stores_ranged line r))

  if_readable : (line : ℕ) (a : Expr) (rel : Relation) (b : Expr) (n : ℕ) → Readable (code_if t v line a rel b n)
  if_readable line a rel b n = (expr_readable line a ▸ expr_readable line b) ▸ one (jump_unless rel n) tt

  stmts_readable : (b : Stmts) → Readable (code_stmts t v b)
  unfolding code_stmts
  stmts_readable stop = nil
  stmts_readable (set line r e rest) = assign_readable line r e ▸ stmts_readable rest
  stmts_readable (if_then line a rel b p rest) = (if_readable line a rel b _ ▸ stmts_readable p) ▸ stmts_readable rest
  stmts_readable (if_else line a rel b p q rest) =
      (((if_readable line a rel b _ ▸ stmts_readable p) ▸ one (jump (length (code_stmts t v q))) tt) ▸ stmts_readable q) ▸ stmts_readable rest

  open_readable : (o : Open) (f : Option Stmts) → Readable (code_open t v o f)
  open_readable o none = stmts_readable o.before ▸ if_readable o.line o.left o.relation o.right 0
  open_readable o (some p) = ((stmts_readable o.before ▸ if_readable o.line o.left o.relation o.right _) ▸ stmts_readable p) ▸ one (jump 0) tt

  opens_readable : (os : List Open) → Readable (code_opens t v os)
  unfolding code_opens
  opens_readable [] = nil
  opens_readable (o ∷ os) = opens_readable os ▸ open_readable o o.first

  pub lines_ranged : (os : List Open) (inner : Stmts) → Each Ranged (code_lines t v os inner)
  unfolding code_lines
  lines_ranged os inner = (opens_readable os ▸ stmts_readable inner).each

-- a table with cells has every name's first cell below 4,096
pub first_low : (t : List Entry) → SaneTable t → 0 < cells t → (x : List ℕ) → (find x t).first < 4096
first_low t h k x = omega (arith, find_first x t h k, h.few_cells)

pub code_ranged : (s : State) → Sane s → 1 ≤ s.stage → Each Ranged (code_of s)
unfolding code_of
code_ranged s h k =
    lines_ranged s.table s.variable (first_low s.table h.table (h.some_cells k))
    (λ x. let (m, n) = find_extents x s.table h.table in (omega arith, omega arith)) s.opens s.inner
