-- RULES 2.5, 3 and 6 a (document 01, Integers and The serial run): what an accepted text means: the accesses of each iteration as a tree, and the loop.
use Rattle.std.specs.Prelude.{Bool, true, false, cond, ◌&&◌, not, List, [], ◌∷◌, ℕ, ◌+◌, ◌-◌, ◌*◌, ltb, leb, eqb, ℤ, pos, negsuc, ◌+ℤ◌}
use Rattle.std.proofs.Math.Option.{Option, none, some}
use Rattle.int32.specs.Integers.{sum, difference, product, negation, larger, quotient, related}
use Rattle.rules.specs.declared.Operator.{Operator}
use Rattle.rules.specs.declared.Operator.TheVariants.{Sum, Product, Maximum}
use Rattle.rules.specs.declared.Class.{Class}
use Rattle.rules.specs.declared.Class.TheVariants.{Shared as shared, Lastprivate as lastprivate, Copied as copied, Reduction as reduction}
use Rattle.rules.specs.Loop.{Act, read, write, update, fault, done, operator, Loop, Partition}
use Rattle.rules.specs.Blocks.{tested}
use Rattle.rules.specs.Cells.{cell_of}
use Rattle.syntax.specs.declared.Function.{Function}
use Rattle.syntax.specs.declared.Function.TheVariants.{Rdiv, Max}
use Rattle.syntax.specs.Bytes.{choose, same, Token, name, other_word, digits, sign, equal}
use Rattle.syntax.specs.Grammar.{number, Lead, bare, plus, minus, Expr, expr, Terms, no_terms, terms, Term, term, Factors, no_factors, factors, Factor, literal, cell, call, brackets, Ref, single, element, Subscripts, subscript, subscripts, show_ref}
use Rattle.syntax.specs.Known.{Entry, rows, columns, find, cells, State, Stmts, stop, set, if_then, if_else}
use Rattle.syntax.specs.Conditions.{ref_name}
use Rattle.int32.specs.Integers as integers

-- ---- updates

-- "a literal's leading zeros aside"
unfoldable pub no_zeros : List ℕ → List ℕ
no_zeros [] = []
no_zeros (d ∷ ds) = choose (eqb d 48) (λ _. no_zeros ds) (λ _. d ∷ ds)

abbrev pub zeros_aside : Token → Token
zeros_aside (name b) = name b
zeros_aside (other_word b) = other_word b
zeros_aside (digits b) = digits (no_zeros b)
zeros_aside (sign b) = sign b

-- "token for token"
unfoldable pub alike : List Token → List Token → Bool
alike [] [] = true
alike [] (u ∷ us) = false
alike (t ∷ ts) [] = false
alike (t ∷ ts) (u ∷ us) = equal (zeros_aside t) (zeros_aside u) && alike ts us

-- a factor that is a reference, and a first term without a sign
abbrev pub reference : Factor → Option Ref
reference (literal d) = none
reference (cell q) = some q
reference (call f a b) = none
reference (brackets e) = none

abbrev pub unled : Lead → Option Ref → Option Ref
unled bare q = q
unled plus q = none
unled minus q = none

-- whether further terms follow, and whether further factors do
abbrev pub followed : Terms → Bool
followed no_terms = false
followed (terms minus? t ts) = true

abbrev pub multiplied : Factors → Bool
multiplied no_factors = false
multiplied (factors over? x xs) = true

-- "begins with the same reference, ... followed by +"; document 02, Point 1: "the same reference followed by - is now an update too": the reference that
-- an expression begins with, if + or - follows it
unfoldable pub summand : Expr → Option Ref
summand (expr l (term x xs) ts) = cond (followed ts && not (multiplied xs)) (unled l (reference x)) none

-- Document 02, Point 6: "Product updates are `x = x * e`, where the remainder has no +, - or / outside brackets": so * joins all factors, and no term follows
abbrev pub times : Factors → Bool
times no_factors = true
times (factors over? x xs) = not over? && times xs

unfoldable pub multiplicand : Expr → Option Ref
multiplicand (expr l (term x xs) ts) = cond (not (followed ts) && (multiplied xs && times xs)) (unled l (reference x)) none

-- "Maximum updates are `x = max(x, e)`": the first of the two is a reference alone, and `max` is all that stands there
unfoldable pub alone : Expr → Option Ref
alone (expr l (term x xs) ts) = cond (not (followed ts) && not (multiplied xs)) (unled l (reference x)) none

abbrev pub compared : Factor → Option Ref
compared (literal d) = none
compared (cell q) = none
compared (call Rdiv a b) = none
compared (call Max a b) = alone a
compared (brackets e) = none

unfoldable pub rival : Expr → Option Ref
rival (expr l (term x xs) ts) = cond (not (followed ts) && not (multiplied xs)) (unled l (compared x)) none

-- the reference that the right side of an update repeats, by the operator of its clause
abbrev pub repeated : Operator → Expr → Option Ref
repeated Sum e = summand e
repeated Product e = multiplicand e
repeated Maximum e = rival e

abbrev pub same_ref : Ref → Option Ref → Bool
same_ref r none = false
same_ref r (some q) = alike (show_ref r) (show_ref q)

abbrev pub is_reduction : Class → Bool
is_reduction shared = false
is_reduction lastprivate = false
is_reduction copied = false
is_reduction (reduction o) = true

-- the operator of the clause that a reference's name stands in
abbrev pub operator_at : List Entry → Ref → Operator
operator_at t r = operator (find (ref_name r) t).class

-- "An update is an assignment to a cell of a reduction name whose right side begins with the same reference"; Point 6: "Each name has the update of its
-- own clause only"
unfoldable pub is_update : List Entry → Ref → Expr → Bool
is_update t r e = is_reduction (find (ref_name r) t).class && same_ref r (repeated (operator_at t r) e)

-- "the remainder of the line is what is added"; Point 1: "with the minus applied to its first term": the expression that begins with the sign that followed
-- the reference
abbrev pub terms_after : Lead → Term → Terms → Expr
terms_after l t no_terms = expr l t no_terms
terms_after l t (terms minus? u us) = expr (cond minus? minus plus) u us

-- Point 6: what comes after the first *
abbrev pub factors_after : Factor → Factors → Expr
factors_after x no_factors = expr bare (term x no_factors) no_terms
factors_after x (factors over? y ys) = expr bare (term y ys) no_terms

-- the second of the two; without a function it stands for nothing
abbrev pub second_of : Factor → Expr
second_of (literal d) = expr bare (term (literal d) no_factors) no_terms
second_of (cell q) = expr bare (term (cell q) no_factors) no_terms
second_of (call f a b) = b
second_of (brackets e) = e

unfoldable pub remainder : Operator → Expr → Expr
remainder Sum (expr l t ts) = terms_after l t ts
remainder Product (expr l (term x xs) ts) = factors_after x xs
remainder Maximum (expr l (term x xs) ts) = second_of x

-- ---- what an expression and a statement do

-- "One sign may begin an expression and applies to its whole first term"
abbrev pub led : Lead → ℤ → ℤ
led bare x = x
led plus x = x
led minus x = negation x

-- "A subscript is tested against its array ... as soon as it is worked out": an array from cell `first` on, of so many cells
unfoldable pub located : ℕ → ℕ → ℕ → ℤ → (ℕ → Act) → Act
located line first size (pos n) k = choose (leb 1 n && leb n size) (λ _. k (first + (n - 1))) (λ _. fault 9 line)
located line first size (negsuc n) k = fault 9 line

-- document 02, Point 9: "each is tested against its own bound"; "first subscript fastest": a grid from cell `first` on, of m × n cells
unfoldable pub in_grid : ℕ → ℕ → ℕ → ℕ → ℤ → ℤ → (ℕ → Act) → Act
in_grid line first m n i j k = located line first m i (λ c. located line 0 n j (λ d. k (c + d * m)))

-- "and a divisor against zero"
unfoldable pub divides : ℕ → (ℤ → ℤ → ℤ) → ℤ → ℤ → (ℤ → Act) → Act
divides line f a b k = choose (integers.same b (pos 0)) (λ _. fault 10 line) (λ _. k (f a b))

-- what a function comes to
unfoldable pub called : ℕ → Function → ℤ → ℤ → (ℤ → Act) → Act
called line Rdiv a b k = divides line integers.rdiv a b k
called line Max a b k = k (larger a b)

-- `t` are the names, `v` is the loop's variable and `x` its value
module _ (t : List Entry) (v : List ℕ) (x : ℤ) where
  abbrev pub is_variable : Ref → Bool
  is_variable (single y) = same y v
  is_variable (element y is) = false

  -- what stands on this line is worked out "from the left", and then comes k with its value
  unfoldable mutual
    pub eval : ℕ → Expr → (ℤ → Act) → Act
    eval line (expr l a as') k = eval_term line a (λ y. eval_terms line as' (led l y) k)

    pub eval_terms : ℕ → Terms → ℤ → (ℤ → Act) → Act
    eval_terms line no_terms y k = k y
    eval_terms line (terms minus? a as') y k = eval_term line a (λ z. eval_terms line as' (cond minus? (difference y z) (sum y z)) k)

    pub eval_term : ℕ → Term → (ℤ → Act) → Act
    eval_term line (term f fs) k = eval_factor line f (λ y. eval_factors line fs y k)

    pub eval_factors : ℕ → Factors → ℤ → (ℤ → Act) → Act
    eval_factors line no_factors y k = k y
    eval_factors line (factors over? f fs) y k =
        eval_factor line f (λ z.
        choose over?
        (λ _. divides line quotient y z (λ q. eval_factors line fs q k))
        (λ _. eval_factors line fs (product y z) k))

    pub eval_factor : ℕ → Factor → (ℤ → Act) → Act
    eval_factor line (literal d) k = k (pos (number d))
    eval_factor line (cell r) k = choose (is_variable r) (λ _. k x) (λ _. place line r (λ c. read c k))
    eval_factor line (call f a b) k = eval line a (λ y. eval line b (λ z. called line f y z k))
    eval_factor line (brackets e) k = eval line e k

    -- the cell that a reference means
    pub place : ℕ → Ref → (ℕ → Act) → Act
    place line (single y) k = k (find y t).first
    place line (element y is) k = subscripted_cell line (find y t) is k

    -- Point 9: "Both subscripts are worked out, then each is tested"
    pub subscripted_cell : ℕ → Entry → Subscripts → (ℕ → Act) → Act
    subscripted_cell line y (subscript e) k = eval line e (λ i. located line y.first y.size i k)
    subscripted_cell line y (subscripts e f) k = eval line e (λ i. eval line f (λ j. in_grid line y.first (rows y) (columns y) i j k))

  -- "The right side is worked out first, from the left, then the left subscript, then the write"; of an update "its subscript comes first, then the
  -- remainder, then one access that updates"
  unfoldable pub assigned : ℕ → Ref → Expr → Act → Act
  assigned line r e after =
      choose (is_update t r e)
      (λ _. place line r (λ c. eval line (remainder (operator_at t r) e) (λ y. update c y after)))
      (λ _. eval line e (λ y. place line r (λ c. write c y after)))

  -- statements, and then `after`; "`if` works out its left e, then its right, then goes by rel"
  unfoldable pub exec : Stmts → Act → Act
  exec stop after = after
  exec (set line r e rest) after = assigned line r e (exec rest after)
  exec (if_then line a rel b p rest) after =
      let next = exec rest after in
      eval line a (λ y. eval line b (λ z. choose (related rel y z) (λ _. exec p next) (λ _. next)))
  exec (if_else line a rel b p q rest) after =
      let next = exec rest after in
      eval line a (λ y. eval line b (λ z. choose (related rel y z) (λ _. exec p next) (λ _. exec q next)))

-- ---- the loop

-- the class of a cell's name
unfoldable pub class_of : List Entry → ℕ → Class
class_of [] c = shared
class_of (e ∷ es) c = cond (leb e.first c && ltb c (e.first + e.size)) e.class (class_of es c)

-- "v being m + index"
unfoldable pub loop_of : State → List ℤ → Loop
loop_of s m = record {
  size = cells s.table;
  iterations = s.count;
  body = λ i. exec s.table s.variable (s.from +ℤ pos i) s.inner done;
  class = class_of s.table;
  entry = cell_of m;
}

-- the iterations over the text's processors, grouped as its clauses say
unfoldable pub partition_of : State → Partition
partition_of s = tested s.grouping s.count s.processors
