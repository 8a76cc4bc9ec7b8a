-- RULES 1.5 to 1.9 (document 01, The loop text): what the lines of a text make known, one after another: its names with their cells, classes and
-- data, P, v, m and the iterations, and the statements.
use Rattle.std.specs.Prelude.{Bool, true, false, cond, not, List, [], ◌∷◌, ◌++◌, map, ℕ, zero, suc, ◌+◌, ◌*◌, ℤ, pos, negsuc, neg_ℤ, ◌+ℤ◌, ◌-ℤ◌, get_or, replicate}
use Rattle.std.proofs.Math.Option.{Option, none, some}
use Rattle.int32.specs.declared.Relation.{Relation}
use Rattle.rules.specs.declared.Grouping.{Grouping}
use Rattle.rules.specs.declared.Grouping.TheVariants.{Iterations, Blocks}
use Rattle.rules.specs.declared.Class.{Class}
use Rattle.rules.specs.declared.Class.TheVariants.{Shared as shared, Lastprivate as lastprivate, Copied as copied, Reduction as reduction}
use Rattle.syntax.specs.declared.ClauseKind.{ClauseKind}
use Rattle.syntax.specs.declared.ClauseKind.TheVariants.{Shared, Lastprivate, Firstprivate, Reduction}
use Rattle.syntax.specs.Bytes.{any, same}
use Rattle.syntax.specs.Grammar.{number, Lead, bare, plus, minus, Expr, Ref, Declared, one, array, grid, Item, item, Clause, clause, threads, static, assign, when, otherwise, end_if, Line, declare, give, direct, loop, inside, end_do, close}

-- ---- names

-- its first cell, its extents, how many cells it has, its class, its data. A single cell has no extent, an array one, a grid two: as many as it takes subscripts.
pub record Entry : Type 0 where
  pub name : List ℕ
  pub first : ℕ
  pub extents : List ℕ
  pub size : ℕ
  pub class : Class
  pub given : Option (List ℤ)

abbrev pub named : List ℕ → Entry → Bool
named x e = same x e.name

-- the extents of a grid; of an array its length and 0, of a single cell 0 and 0
abbrev pub rows : Entry → ℕ
rows e = get_or e.extents 0 0

abbrev pub columns : Entry → ℕ
columns e = get_or e.extents 1 0

abbrev pub known : List ℕ → List Entry → Bool
known x = any (named x)

abbrev pub nowhere : Entry
nowhere = record { name = []; first = 0; extents = []; size = 0; class = shared; given = none }

unfoldable pub find : List ℕ → List Entry → Entry
find x [] = nowhere
find x (e ∷ es) = cond (named x e) e (find x es)

abbrev pub total : {A : Type 0} → (A → ℕ) → List A → ℕ
total f [] = 0
total f (x ∷ xs) = f x + total f xs

-- N: "the number of cells"
abbrev pub cells : List Entry → ℕ
cells = total (λ e. e.size)

-- ---- statements in one another

-- what is done one after the other: nothing more; an assignment on a line; an `if` on a line without `else`, or with it
pub data Stmts : Type 0 where
  stop : Stmts
  set : ℕ → Ref → Expr → Stmts → Stmts
  if_then : ℕ → Expr → Relation → Expr → Stmts → Stmts → Stmts
  if_else : ℕ → Expr → Relation → Expr → Stmts → Stmts → Stmts → Stmts

-- the first statements, and then the second
unfoldable pub then_do : Stmts → Stmts → Stmts
then_do stop b = b
then_do (set k r e a) b = set k r e (then_do a b)
then_do (if_then k x rel y p a) b = if_then k x rel y p (then_do a b)
then_do (if_else k x rel y p q a) b = if_else k x rel y p q (then_do a b)

-- an `if` that is open: its line and condition, what stood before it in the part that it is in, and its first part once `else` was met
pub record Open : Type 0 where
  pub line : ℕ
  pub left : Expr
  pub relation : Relation
  pub right : Expr
  pub before : Stmts
  pub first : Option Stmts

-- `end if`, where `inner` are the statements of the part that it ends
abbrev pub branched : Open → Option Stmts → Stmts → Stmts
branched o none inner = if_then o.line o.left o.relation o.right inner stop
branched o (some p) inner = if_else o.line o.left o.relation o.right p inner stop

abbrev pub closed : Open → Stmts → Stmts
closed o inner = then_do o.before (branched o o.first inner)

-- `else`
abbrev pub turned : Open → Stmts → Open
turned o inner = record { line = o.line; left = o.left; relation = o.relation; right = o.right; before = o.before; first = some inner }

-- ---- numbers that a line gives

abbrev pub declared_name : Declared → List ℕ
declared_name (one x) = x
declared_name (array x d) = x
declared_name (grid x m n) = x

abbrev pub declared_extents : Declared → List ℕ
declared_extents (one x) = []
declared_extents (array x d) = number d ∷ []
declared_extents (grid x m n) = number m ∷ number n ∷ []

-- "`z` is one cell, `a(n)` is n cells"; Point 9: "m × n"
abbrev pub cells_of : List ℕ → ℕ
cells_of [] = 1
cells_of (n ∷ []) = n
cells_of (m ∷ n ∷ ns) = m * n

abbrev pub declared_size : Declared → ℕ
declared_size d = cells_of (declared_extents d)

abbrev pub signed : Lead → ℕ → ℤ
signed bare n = pos n
signed plus n = pos n
signed minus n = neg_ℤ (pos n)

-- "`r*` before it for r copies"
abbrev pub copies_of : Option (List ℕ) → ℕ
copies_of none = 1
copies_of (some r) = number r

abbrev pub copies : Item → ℕ
copies (item r l d) = copies_of r

unfoldable pub values : List Item → List ℤ
values [] = []
values (item r l d ∷ is) = replicate (copies_of r) (signed l (number d)) ++ values is

abbrev pub natural : ℤ → ℕ
natural (pos n) = n
natural (negsuc n) = 0

-- "If n < m there are no iterations"
abbrev pub iterations : ℤ → ℤ → ℕ
iterations m n = natural ((n -ℤ m) +ℤ pos 1)

-- ---- the lines so far

-- which of 1 to 7 stood last (0 none); the names in declared order; P; how iterations are grouped; v, m and the iterations; the open ifs, the
-- innermost first; and the statements so far of the part that the innermost is in
pub record State : Type 0 where
  pub stage : ℕ
  pub table : List Entry
  pub processors : ℕ
  pub grouping : Grouping
  pub variable : List ℕ
  pub from : ℤ
  pub count : ℕ
  pub opens : List Open
  pub inner : Stmts

abbrev pub nothing : State
nothing = record { stage = 0; table = []; processors = 0; grouping = Iterations; variable = []; from = pos 0; count = 0; opens = []; inner = stop }

-- ---- what a good line adds

-- "a name in no clause is shared"
abbrev pub entry_of : ℕ → Declared → Entry
entry_of c d = record { name = declared_name d; first = c; extents = declared_extents d; size = declared_size d; class = shared; given = none }

-- "in declared order"
abbrev pub entries : ℕ → List Declared → List Entry
entries c [] = []
entries c (d ∷ ds) = entry_of c d ∷ entries (c + declared_size d) ds

-- an entry with data, and one with another class
abbrev pub with_data : List ℤ → Entry → Entry
with_data vs e =
    record { name = e.name; first = e.first; extents = e.extents; size = e.size; class = e.class; given = some vs }

abbrev pub with_class : Class → Entry → Entry
with_class c e =
    record { name = e.name; first = e.first; extents = e.extents; size = e.size; class = c; given = e.given }

abbrev pub give_to : List ℕ → List ℤ → Entry → Entry
give_to x vs e = cond (named x e) (with_data vs e) e

-- the digits of `num_threads`, as often as it stands
abbrev pub threads_in : List Clause → List (List ℕ)
threads_in [] = []
threads_in (clause k x xs ∷ cs) = threads_in cs
threads_in (threads p ∷ cs) = p ∷ threads_in cs
threads_in (static ∷ cs) = threads_in cs

-- P, where it stands once
abbrev pub processors_by : List (List ℕ) → ℕ
processors_by [] = 0
processors_by (p ∷ ps) = number p

-- document 02, Point 3: how often `schedule(static)` stands
abbrev pub statics_in : List Clause → ℕ
statics_in [] = 0
statics_in (clause k x xs ∷ cs) = statics_in cs
statics_in (threads p ∷ cs) = statics_in cs
statics_in (static ∷ cs) = suc (statics_in cs)

-- "A text with the clause `schedule(static)` ... is tested with each processor's block as one long iteration"
abbrev pub grouping_by : ℕ → Grouping
grouping_by zero = Iterations
grouping_by (suc n) = Blocks

-- the names in the clauses of some kinds, as often as they stand there
abbrev pub names_in : (ClauseKind → Bool) → List Clause → List (List ℕ)
names_in f [] = []
names_in f (clause k x xs ∷ cs) = cond (f k) (x ∷ (xs ++ names_in f cs)) (names_in f cs)
names_in f (threads p ∷ cs) = names_in f cs
names_in f (static ∷ cs) = names_in f cs

abbrev pub in_lastprivate : ClauseKind → Bool
in_lastprivate Shared = false
in_lastprivate Lastprivate = true
in_lastprivate Firstprivate = false
in_lastprivate (Reduction o) = false

abbrev pub in_firstprivate : ClauseKind → Bool
in_firstprivate Shared = false
in_firstprivate Lastprivate = false
in_firstprivate Firstprivate = true
in_firstprivate (Reduction o) = false

abbrev pub in_another : ClauseKind → Bool
in_another k = not (in_firstprivate k)

-- what the reduction clauses say of a name: its operator is that of the clause that it stands in
abbrev pub reduced_in : List Clause → List ℕ → Class
reduced_in [] x = shared
reduced_in (clause Shared y ys ∷ cs) x = reduced_in cs x
reduced_in (clause Lastprivate y ys ∷ cs) x = reduced_in cs x
reduced_in (clause Firstprivate y ys ∷ cs) x = reduced_in cs x
reduced_in (clause (Reduction o) y ys ∷ cs) x = cond (any (same x) (y ∷ ys)) (reduction o) (reduced_in cs x)
reduced_in (threads p ∷ cs) x = reduced_in cs x
reduced_in (static ∷ cs) x = reduced_in cs x

-- "A name in no clause is shared". Document 02, Point 5: "A name may stand in `firstprivate` and `lastprivate` together": then it is copied
unfoldable pub class_in : List Clause → List ℕ → Class
class_in cs x =
    cond
    (any (same x) (names_in in_firstprivate cs))
    copied
    (cond (any (same x) (names_in in_lastprivate cs)) lastprivate (reduced_in cs x))

abbrev pub classify : List Clause → Entry → Entry
classify cs e = with_class (class_in cs e.name) e

-- a line of the part before the statements
abbrev pub heading : ℕ → List Entry → ℕ → Grouping → State
heading k t p g = record { stage = k; table = t; processors = p; grouping = g; variable = []; from = pos 0; count = 0; opens = []; inner = stop }

-- a line after `do`, of which the open ifs and the statements of the innermost part are left
abbrev pub stating : ℕ → State → List Open → Stmts → State
stating j s os b = record {
  stage = j;
  table = s.table;
  processors = s.processors;
  grouping = s.grouping;
  variable = s.variable;
  from = s.from;
  count = s.count;
  opens = os;
  inner = b;
}

abbrev pub opened : ℕ → Expr → Relation → Expr → Stmts → Open
opened k a rel b before = record { line = k; left = a; relation = rel; right = b; before = before; first = none }

abbrev pub otherwise_after : State → List Open → State
otherwise_after s [] = stating 5 s [] s.inner
otherwise_after s (o ∷ os) = stating 5 s (turned o s.inner ∷ os) stop

abbrev pub end_if_after : State → List Open → State
end_if_after s [] = stating 5 s [] s.inner
end_if_after s (o ∷ os) = stating 5 s os (closed o s.inner)

-- line k
unfoldable pub after : ℕ → Line → State → State
after k (declare d ds) s = heading 1 (s.table ++ entries (cells s.table) (d ∷ ds)) 0 Iterations
after k (give x i is) s = heading 2 (map (give_to x (values (i ∷ is))) s.table) 0 Iterations
after k (direct cs) s = heading 3 (map (classify cs) s.table) (processors_by (threads_in cs)) (grouping_by (statics_in cs))
after k (loop v l m j n) s = record {
  stage = 4;
  table = s.table;
  processors = s.processors;
  grouping = s.grouping;
  variable = v;
  from = signed l (number m);
  count = iterations (signed l (number m)) (signed j (number n));
  opens = [];
  inner = stop;
}
after k (inside (assign r e)) s = stating 5 s s.opens (then_do s.inner (set k r e stop))
after k (inside (when a rel b)) s = stating 5 s (opened k a rel b s.inner ∷ s.opens) stop
after k (inside otherwise) s = otherwise_after s s.opens
after k (inside (end_if j)) s = end_if_after s s.opens
after k (end_do j) s = stating 6 s s.opens s.inner
after k close s = stating 7 s s.opens s.inner
