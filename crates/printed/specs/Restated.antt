-- RULES 1.15 e (document 02, Point 8): the printed form as a text of its own: its lines' syntax, and what it is to say the same: the same names with their
-- cells, extents, classes and data, the same P, grouping and bounds, and the same statements but for their lines' numbers and the leading zeros of literals.
use Rattle.std.specs.Prelude.{◌≡◌, List, [], ◌∷◌, map, ℕ, suc, ℤ}
use Rattle.std.proofs.Math.Option.{Option, none, some}
use Rattle.int32.specs.declared.Relation.{Relation}
use Rattle.rules.specs.Loop.{Loop, Act, read, write, update, fault, done}
use Rattle.rules.specs.Serial.{Outcome, finished, failed, Result}
use Rattle.rules.specs.Answer.{Answer, passed, rerun, faulted, Ending}
use Rattle.syntax.specs.Grammar.{Expr, expr, Terms, no_terms, terms, Term, term, Factors, no_factors, factors, Factor, literal, cell, call, brackets, Ref, single, element, Subscripts, subscript, subscripts, Declared, one, array, grid, Item, item, Clause, clause, threads, static, Statement, assign, when, otherwise, end_if, Line, declare, give, direct, loop, inside, end_do, close}
use Rattle.syntax.specs.Known.{State, Stmts, stop, set, if_then, if_else}
use Rattle.syntax.specs.Text.{read as verdict, good}
use Rattle.syntax.specs.Follows.{Program}
use Rattle.printed.specs.Form.{shortest, plain, kept, form}

-- ---- the syntax without leading zeros

unfoldable mutual
  pub short_expr : Expr → Expr
  short_expr (expr l t ts) = expr l (short_term t) (short_terms ts)

  pub short_terms : Terms → Terms
  short_terms no_terms = no_terms
  short_terms (terms minus? t ts) = terms minus? (short_term t) (short_terms ts)

  pub short_term : Term → Term
  short_term (term x xs) = term (short_factor x) (short_factors xs)

  pub short_factors : Factors → Factors
  short_factors no_factors = no_factors
  short_factors (factors over? x xs) = factors over? (short_factor x) (short_factors xs)

  pub short_factor : Factor → Factor
  short_factor (literal d) = literal (shortest d)
  short_factor (cell r) = cell (short_ref r)
  short_factor (call f a b) = call f (short_expr a) (short_expr b)
  short_factor (brackets e) = brackets (short_expr e)

  pub short_ref : Ref → Ref
  short_ref (single x) = single x
  short_ref (element x is) = element x (short_subscripts is)

  pub short_subscripts : Subscripts → Subscripts
  short_subscripts (subscript e) = subscript (short_expr e)
  short_subscripts (subscripts e f) = subscripts (short_expr e) (short_expr f)

abbrev pub short_declared : Declared → Declared
short_declared (one x) = one x
short_declared (array x d) = array x (shortest d)
short_declared (grid x m n) = grid x (shortest m) (shortest n)

abbrev pub short_repeat : Option (List ℕ) → Option (List ℕ)
short_repeat none = none
short_repeat (some r) = some (shortest r)

abbrev pub short_item : Item → Item
short_item (item r l d) = item (short_repeat r) l (shortest d)

abbrev pub short_clause : Clause → Clause
short_clause (clause k x xs) = clause k x xs
short_clause (threads p) = threads (shortest p)
short_clause static = static

abbrev pub short_statement : Statement → Statement
short_statement (assign r e) = assign (short_ref r) (short_expr e)
short_statement (when a r b) = when (short_expr a) r (short_expr b)
short_statement otherwise = otherwise
short_statement (end_if joined?) = end_if joined?

unfoldable pub short : Line → Line
short (declare d ds) = declare (short_declared d) (map short_declared ds)
short (give x i is) = give x (short_item i) (map short_item is)
short (direct cs) = direct (map short_clause cs)
short (loop v l m k n) = loop v l (shortest m) k (shortest n)
short (inside t) = inside (short_statement t)
short (end_do joined?) = end_do joined?
short close = close

-- ---- the program of the printed form

-- every line of it is spoken, so its lines are numbered without a gap
unfoldable pub numbered : ℕ → List Line → Program
numbered k [] = []
numbered k (l ∷ ls) = (k, l) ∷ numbered (suc k) ls

abbrev pub restated : Program → Program
restated p = numbered 1 (map (λ l. short (plain l)) (kept p))

-- ---- what says the same

pub data SameStmts : Stmts → Stmts → Type 0 where
  nothing : SameStmts stop stop
  sets : {i j : ℕ} {r : Ref} {e : Expr} {a b : Stmts} → SameStmts a b → SameStmts (set i r e a) (set j (short_ref r) (short_expr e) b)
  branches : {i j : ℕ} {x y : Expr} {rel : Relation} {p q a b : Stmts} → SameStmts p q → SameStmts a b
      → SameStmts (if_then i x rel y p a) (if_then j (short_expr x) rel (short_expr y) q b)
  divides : {i j : ℕ} {x y : Expr} {rel : Relation} {p q o u a b : Stmts} → SameStmts p q → SameStmts o u → SameStmts a b
      → SameStmts (if_else i x rel y p o a) (if_else j (short_expr x) rel (short_expr y) q u b)

-- what two texts make known
pub record SameKnown (s t : State) : Type 0 where
  pub table : t.table ≡ s.table
  pub processors : t.processors ≡ s.processors
  pub grouping : t.grouping ≡ s.grouping
  pub variable : t.variable ≡ s.variable
  pub from : t.from ≡ s.from
  pub count : t.count ≡ s.count
  pub inner : SameStmts s.inner t.inner

-- trees that differ only in the lines of their faults
pub data SameTree : Act → Act → Type 0 where
  reads : {c : ℕ} {f g : ℤ → Act} → ((x : ℤ) → SameTree (f x) (g x)) → SameTree (read c f) (read c g)
  writes : {c : ℕ} {x : ℤ} {a b : Act} → SameTree a b → SameTree (write c x a) (write c x b)
  updates : {c : ℕ} {x : ℤ} {a b : Act} → SameTree a b → SameTree (update c x a) (update c x b)
  faults : {n i j : ℕ} → SameTree (fault n i) (fault n j)
  ends : SameTree done done

-- two texts' loops over the same cells
pub record SameLoop (l m : Loop) : Type 0 where
  pub size : m.size ≡ l.size
  pub iterations : m.iterations ≡ l.iterations
  pub body : (i : ℕ) → SameTree (l.body i) (m.body i)
  pub class : m.class ≡ l.class
  pub entry : m.entry ≡ l.entry

-- what two serial runs end in: the same cells and accesses, and the same fault but for its line
pub data SameOutcome : Outcome → Outcome → Type 0 where
  no_fault : SameOutcome finished finished
  one_fault : {n i j v : ℕ} → SameOutcome (failed n i v) (failed n j v)

pub record SameResult (r u : Result) : Type 0 where
  pub cells : u.cells ≡ r.cells
  pub log : u.log ≡ r.log
  pub outcome : SameOutcome r.outcome u.outcome

-- what Run answers of two texts and leaves in the cells (`settled`): the same answer but for the line of a fault, and the same cells
pub data SameAnswer : Answer → Answer → Type 0 where
  both_passed : {a b : ℕ} → SameAnswer (passed a b) (passed a b)
  both_rerun : {a b : ℕ} → SameAnswer (rerun a b) (rerun a b)
  both_faulted : {n i j v : ℕ} → SameAnswer (faulted n i v) (faulted n j v)

pub record SameEnding (e f : Ending) : Type 0 where
  pub answer : SameAnswer e.answer f.answer
  pub cells : f.cells ≡ e.cells

-- ---- what the theorems say of a text and its form

-- the form of the text of s is accepted, prints as itself and makes the same known
pub record Reprinted (text : List ℕ) (s : State) : Type 0 where
  pub state : State
  pub accepted : verdict (form text) ≡ good state
  pub itself : form (form text) ≡ form text
  pub same : SameKnown s state

-- the same names with their cells, extents, classes and data, the same P, grouping, v and bounds
pub record AlikeKnown (u v : State) : Type 0 where
  pub table : u.table ≡ v.table
  pub processors : u.processors ≡ v.processors
  pub grouping : u.grouping ≡ v.grouping
  pub variable : u.variable ≡ v.variable
  pub from : u.from ≡ v.from
  pub count : u.count ≡ v.count
