-- RULES 1.5 to 1.10 (document 01, The loop text, 1 to 6): the syntax of a line and the tokens that it is written with. A line follows the grammar exactly
-- where its tokens are `show_line` of some syntax.
use Rattle.std.specs.Prelude.{Bool, cond, List, [], ◌∷◌, ◌++◌, ℕ, ◌+◌, ◌-◌, ◌*◌}
use Rattle.std.proofs.Math.Option.{Option, none, some}
use Prim.Native.String.{String}
use Rattle.int32.specs.declared.Relation.{Relation}
use Rattle.int32.specs.declared.Relation.TheVariants.{Equal, Unequal, Less, AtMost, Greater, AtLeast}
use Rattle.rules.specs.declared.Operator.{Operator}
use Rattle.rules.specs.declared.Operator.TheVariants.{Sum, Product, Maximum}
use Rattle.syntax.specs.declared.ClauseKind.{ClauseKind}
use Rattle.syntax.specs.declared.ClauseKind.TheVariants.{Shared, Lastprivate, Firstprivate, Reduction}
use Rattle.syntax.specs.declared.Function.{Function}
use Rattle.syntax.specs.declared.Function.TheVariants.{Rdiv, Max}
use Rattle.syntax.specs.Bytes.{bytes, Token, name, digits, sign, word_of}

-- ---- literals

-- the number that digits write
unfoldable pub number_from : ℕ → List ℕ → ℕ
number_from n [] = n
number_from n (d ∷ ds) = number_from (10 * n + (d - 48)) ds

abbrev pub number : List ℕ → ℕ
number = number_from 0

-- ---- syntax: names and digits are their bytes

pub data Lead : Type 0 where
  bare plus minus : Lead

-- "An expression holds terms, a term holds factors, a factor may hold an expression. Terms are joined by + and -, factors by * and /, both from
-- the left. One sign may begin an expression." Further terms come after + (false) or - (true), further factors after * (false) or / (true).
-- "A factor is a literal, v, a cell, `rdiv(e, e)`, or an expression in brackets." Document 02, Point 6: "`max(e, e)` also becomes a factor".
mutual
  pub data Expr : Type 0 where
    expr : Lead → Term → Terms → Expr

  pub data Terms : Type 0 where
    no_terms : Terms
    terms : Bool → Term → Terms → Terms

  pub data Term : Type 0 where
    term : Factor → Factors → Term

  pub data Factors : Type 0 where
    no_factors : Factors
    factors : Bool → Factor → Factors → Factors

  pub data Factor : Type 0 where
    literal : List ℕ → Factor
    cell : Ref → Factor
    call : Function → Expr → Expr → Factor
    brackets : Expr → Factor

  pub data Ref : Type 0 where
    single : List ℕ → Ref
    element : List ℕ → Subscripts → Ref

  -- document 02, Point 9: "cells `a(e, f)`": one or two
  pub data Subscripts : Type 0 where
    subscript : Expr → Subscripts
    subscripts : Expr → Expr → Subscripts

-- "`z` is one cell, `a(n)` is n cells"; Point 9: "Allow `a(m, n)`"
pub data Declared : Type 0 where
  one : List ℕ → Declared
  array : List ℕ → List ℕ → Declared
  grid : List ℕ → List ℕ → List ℕ → Declared

-- "an item is a literal with optional sign, or `r*` before it for r copies"
pub data Item : Type 0 where
  item : Option (List ℕ) → Lead → List ℕ → Item

-- "`shared(list)`, `lastprivate(list)`, `reduction(+:list)`": "a list is one or more names parted by commas"; and "`num_threads(p)`".
-- Document 02, Point 3: "the clause `schedule(static)`"; Point 5: "A name may stand in `firstprivate` and `lastprivate` together"; Point 6: "Add
-- `reduction(*:list)` and `reduction(max:list)`"
pub data Clause : Type 0 where
  clause : ClauseKind → List ℕ → List (List ℕ) → Clause
  threads : List ℕ → Clause
  static : Clause

-- "an assignment to a cell, or `if (e rel e) then`, statements, optional `else` and statements, `end if`": each on "one line of its own".
-- (true: `endif`)
pub data Statement : Type 0 where
  assign : Ref → Expr → Statement
  when : Expr → Relation → Expr → Statement
  otherwise : Statement
  end_if : Bool → Statement

-- 1 integer; 2 data; 3 the directive, with "clauses in any order"; 4 do; 5 a statement; 6 `end do` (true: `enddo`),
-- 7 the closing directive
pub data Line : Type 0 where
  declare : Declared → List Declared → Line
  give : List ℕ → Item → List Item → Line
  direct : List Clause → Line
  loop : List ℕ → Lead → List ℕ → Lead → List ℕ → Line
  inside : Statement → Line
  end_do : Bool → Line
  close : Line

-- ---- the tokens of it

infixr 25 ◌⌢◌
-- one after the other
abbrev pub ◌⌢◌ : List Token → List Token → List Token
a ⌢ b = a ++ b

-- a word and a sign, by their bytes
abbrev pub wd : String → List Token
wd t = word_of (bytes t) ∷ []

abbrev pub sg : String → List Token
sg t = sign (bytes t) ∷ []

abbrev pub show_name : List ℕ → List Token
show_name x = name x ∷ []

abbrev pub show_digits : List ℕ → List Token
show_digits d = digits d ∷ []

abbrev pub show_lead : Lead → List Token
show_lead bare = []
show_lead plus = sg "+"
show_lead minus = sg "-"

abbrev pub show_rel : Relation → List Token
show_rel Equal = sg "=="
show_rel Unequal = sg "/="
show_rel Less = sg "<"
show_rel AtMost = sg "<="
show_rel Greater = sg ">"
show_rel AtLeast = sg ">="

-- further parts, each after a comma
unfoldable pub show_more : {A : Type 0} → (A → List Token) → List A → List Token
show_more f [] = []
show_more f (x ∷ xs) = sg "," ⌢ f x ⌢ show_more f xs

abbrev pub show_list : {A : Type 0} → (A → List Token) → A → List A → List Token
show_list f x xs = f x ⌢ show_more f xs

abbrev pub show_function : Function → List Token
show_function Rdiv = wd "rdiv"
show_function Max = wd "max"

unfoldable mutual
  pub show : Expr → List Token
  show (expr l t ts) = show_lead l ⌢ show_term t ⌢ show_terms ts

  pub show_terms : Terms → List Token
  show_terms no_terms = []
  show_terms (terms minus? t ts) = cond minus? (sg "-") (sg "+") ⌢ show_term t ⌢ show_terms ts

  pub show_term : Term → List Token
  show_term (term x xs) = show_factor x ⌢ show_factors xs

  pub show_factors : Factors → List Token
  show_factors no_factors = []
  show_factors (factors over? x xs) = cond over? (sg "/") (sg "*") ⌢ show_factor x ⌢ show_factors xs

  pub show_factor : Factor → List Token
  show_factor (literal d) = show_digits d
  show_factor (cell r) = show_ref r
  show_factor (call f a b) = show_function f ⌢ sg "(" ⌢ show a ⌢ sg "," ⌢ show b ⌢ sg ")"
  show_factor (brackets e) = sg "(" ⌢ show e ⌢ sg ")"

  pub show_ref : Ref → List Token
  show_ref (single x) = show_name x
  show_ref (element x is) = show_name x ⌢ sg "(" ⌢ show_subscripts is ⌢ sg ")"

  pub show_subscripts : Subscripts → List Token
  show_subscripts (subscript e) = show e
  show_subscripts (subscripts e f) = show e ⌢ sg "," ⌢ show f

abbrev pub show_declared : Declared → List Token
show_declared (one x) = show_name x
show_declared (array x d) = show_name x ⌢ sg "(" ⌢ show_digits d ⌢ sg ")"
show_declared (grid x m n) = show_name x ⌢ sg "(" ⌢ show_digits m ⌢ sg "," ⌢ show_digits n ⌢ sg ")"

abbrev pub show_repeat : Option (List ℕ) → List Token
show_repeat none = []
show_repeat (some r) = show_digits r ⌢ sg "*"

abbrev pub show_signed : Lead → List ℕ → List Token
show_signed l d = show_lead l ⌢ show_digits d

abbrev pub show_item : Item → List Token
show_item (item r l d) = show_repeat r ⌢ show_signed l d

abbrev pub show_operator : Operator → List Token
show_operator Sum = sg "+"
show_operator Product = sg "*"
show_operator Maximum = wd "max"

abbrev pub show_kind : ClauseKind → List Token
show_kind Shared = wd "shared" ⌢ sg "("
show_kind Lastprivate = wd "lastprivate" ⌢ sg "("
show_kind Firstprivate = wd "firstprivate" ⌢ sg "("
show_kind (Reduction o) = wd "reduction" ⌢ sg "(" ⌢ show_operator o ⌢ sg ":"

abbrev pub show_clause : Clause → List Token
show_clause (clause k x xs) = show_kind k ⌢ show_list show_name x xs ⌢ sg ")"
show_clause (threads p) = wd "num_threads" ⌢ sg "(" ⌢ show_digits p ⌢ sg ")"
show_clause static = wd "schedule" ⌢ sg "(" ⌢ wd "static" ⌢ sg ")"

unfoldable pub show_clauses : List Clause → List Token
show_clauses [] = []
show_clauses (c ∷ cs) = show_clause c ⌢ show_clauses cs

abbrev pub show_statement : Statement → List Token
show_statement (assign r e) = show_ref r ⌢ sg "=" ⌢ show e
show_statement (when a r b) = wd "if" ⌢ sg "(" ⌢ show a ⌢ show_rel r ⌢ show b ⌢ sg ")" ⌢ wd "then"
show_statement otherwise = wd "else"
show_statement (end_if joined?) = cond joined? (wd "endif") (wd "end" ⌢ wd "if")

unfoldable pub show_line : Line → List Token
show_line (declare d ds) = wd "integer" ⌢ show_list show_declared d ds
show_line (give x i is) = wd "data" ⌢ show_name x ⌢ sg "/" ⌢ show_list show_item i is ⌢ sg "/"
show_line (direct cs) = sg "!$omp" ⌢ wd "parallel" ⌢ wd "do" ⌢ show_clauses cs
show_line (loop v l m k n) = wd "do" ⌢ show_name v ⌢ sg "=" ⌢ show_signed l m ⌢ sg "," ⌢ show_signed k n
show_line (inside t) = show_statement t
show_line (end_do joined?) = cond joined? (wd "enddo") (wd "end" ⌢ wd "do")
show_line close = sg "!$omp" ⌢ wd "end" ⌢ wd "parallel" ⌢ wd "do"
