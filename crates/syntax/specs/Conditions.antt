-- RULES 1.4, 1.12 and 1.13 (document 01, Services and answers): when a line that follows the grammar is good: its place in the text (number 2),
-- its names (number 3) and the limits (number 4), by what the lines before it made known.
use Rattle.std.specs.Prelude.{Bool, true, false, cond, ◌&&◌, ◌||◌, not, List, [], ◌∷◌, ◌++◌, map, ℕ, suc, ◌+◌, ltb, leb, eqb, length}
use Rattle.std.proofs.Math.Option.{Option, none, some}
use Rattle.syntax.specs.Bytes.{all, any, same, between}
use Rattle.syntax.specs.Grammar.{number, Expr, expr, Terms, no_terms, terms, Term, term, Factors, no_factors, factors, Factor, literal, cell, call, brackets, Ref, single, element, Subscripts, subscript, subscripts, Declared, one, array, grid, Item, item, assign, when, otherwise, end_if, Line, declare, give, direct, loop, inside, end_do, close}
use Rattle.syntax.specs.Known.{Entry, Open, State, declared_name, declared_size, total, signed, copies, iterations, cells, known, find, threads_in, statics_in, names_in, in_lastprivate, in_firstprivate, in_another}

-- ---- what a line's names and limits are judged by

-- a literal, a reference with how many subscripts, a bracket with how many are then open together
pub data Mention : Type 0 where
  digits : List ℕ → Mention
  refers : List ℕ → ℕ → Mention
  opens : ℕ → Mention

abbrev pub count_of : Subscripts → ℕ
count_of (subscript e) = 1
count_of (subscripts e f) = 2

-- n brackets are open around it
unfoldable mutual
  pub mentions : ℕ → Expr → List Mention
  mentions n (expr l t ts) = in_term n t ++ in_terms n ts

  pub in_terms : ℕ → Terms → List Mention
  in_terms n no_terms = []
  in_terms n (terms o t ts) = in_term n t ++ in_terms n ts

  pub in_term : ℕ → Term → List Mention
  in_term n (term x xs) = in_factor n x ++ in_factors n xs

  pub in_factors : ℕ → Factors → List Mention
  in_factors n no_factors = []
  in_factors n (factors o x xs) = in_factor n x ++ in_factors n xs

  pub in_factor : ℕ → Factor → List Mention
  in_factor n (literal d) = digits d ∷ []
  in_factor n (cell r) = in_ref n r
  in_factor n (call f a b) = opens (suc n) ∷ (mentions (suc n) a ++ mentions (suc n) b)
  in_factor n (brackets e) = opens (suc n) ∷ mentions (suc n) e

  pub in_ref : ℕ → Ref → List Mention
  in_ref n (single x) = refers x 0 ∷ []
  in_ref n (element x is) = refers x (count_of is) ∷ opens (suc n) ∷ in_subscripts (suc n) is

  pub in_subscripts : ℕ → Subscripts → List Mention
  in_subscripts n (subscript e) = mentions n e
  in_subscripts n (subscripts e f) = mentions n e ++ mentions n f

abbrev pub in_declared : Declared → List Mention
in_declared (one x) = []
in_declared (array x d) = digits d ∷ []
in_declared (grid x m n) = digits m ∷ digits n ∷ []

abbrev pub in_item : Item → List Mention
in_item (item none l d) = digits d ∷ []
in_item (item (some r) l d) = digits r ∷ digits d ∷ []

abbrev pub concat : {A B : Type 0} → (A → List B) → List A → List B
concat f [] = []
concat f (x ∷ xs) = f x ++ concat f xs

-- "the outer pair of `if` not"
unfoldable pub in_line : Line → List Mention
in_line (declare d ds) = concat in_declared (d ∷ ds)
in_line (give x i is) = concat in_item (i ∷ is)
in_line (direct cs) = map digits (threads_in cs)
in_line (loop v l m k n) = digits m ∷ digits n ∷ []
in_line (inside (assign r e)) = in_ref 0 r ++ mentions 0 e
in_line (inside (when a r b)) = mentions 0 a ++ mentions 0 b
in_line (inside otherwise) = []
in_line (inside (end_if j)) = []
in_line (end_do j) = []
in_line close = []

-- ---- 3: names

-- not "name unknown, ... a subscript missing, or on a single cell or v", nor, document 02, Point 9, "One subscript where two belong, or two for one": t are
-- the names and v is the loop's variable
abbrev pub rightly : List Entry → List ℕ → Mention → Bool
rightly t v (digits d) = true
rightly t v (refers x k) = cond (same x v) (eqb k 0) (known x t && eqb k (length (find x t).extents))
rightly t v (opens n) = true

abbrev pub ref_name : Ref → List ℕ
ref_name (single x) = x
ref_name (element x is) = x

abbrev pub is_given : {A : Type 0} → Option A → Bool
is_given none = false
is_given (some a) = true

abbrev pub different : List (List ℕ) → Bool
different [] = true
different (x ∷ xs) = not (any (same x) xs) && different xs

-- names of which none stands twice, each as K says
abbrev pub each_once : (List ℕ → Bool) → List (List ℕ) → Bool
each_once K xs = different xs && all K xs

-- not "declared or given data twice, in two clauses or twice in one, ... v declared or assigned, data of the wrong count". Document 02, Point 5: "A
-- name in firstprivate alone is 3 at the directive; two clauses are no fault for this pair"
abbrev pub singly : State → Line → Bool
singly s (declare d ds) = let xs = map declared_name (d ∷ ds) in different xs && not (any (λ x. known x s.table) xs)
singly s (give x i is) =
    known x s.table && (not (is_given (find x s.table).given) && eqb (total copies (i ∷ is)) (find x s.table).size)
singly s (direct cs) =
    each_once (λ x. known x s.table) (names_in in_another cs)
    && each_once (λ x. any (same x) (names_in in_lastprivate cs)) (names_in in_firstprivate cs)
singly s (loop v l m k n) = not (known v s.table)
singly s (inside (assign r e)) = not (same (ref_name r) s.variable)
singly s (inside (when a r b)) = true
singly s (inside otherwise) = true
singly s (inside (end_if j)) = true
singly s (end_do j) = true
singly s close = true

unfoldable pub names : State → Line → Bool
names s l = all (rightly s.table s.variable) (in_line l) && singly s l

-- ---- 4: limits

-- "literals to 2,147,483,647"; "brackets open together in a statement 8, those of a subscript on either side and of rdiv counted"; document 02, Point 6:
-- those of max too
abbrev pub small : Mention → Bool
small (digits d) = leb (number d) 2147483647
small (refers x k) = true
small (opens n) = leb n 8

-- "names 16; array length 1 to 4,096; N to 4,096; P 1 to 8; n to 65,535; `if` depth 8"; Point 9: "m × n up to 4,096"
abbrev pub bounds : State → Line → Bool
bounds s (declare d ds) =
    leb (length s.table + length (d ∷ ds)) 16
    && (all (λ x. between 1 4096 (declared_size x)) (d ∷ ds) && leb (cells s.table + total declared_size (d ∷ ds)) 4096)
bounds s (give x i is) = true
bounds s (direct cs) = all (λ p. between 1 8 (number p)) (threads_in cs)
bounds s (loop v l m k n) = leb (iterations (signed l (number m)) (signed k (number n))) 65535
bounds s (inside (assign r e)) = true
bounds s (inside (when a r b)) = leb (suc (length s.opens)) 8
bounds s (inside otherwise) = true
bounds s (inside (end_if j)) = true
bounds s (end_do j) = true
bounds s close = true

unfoldable pub limits : State → Line → Bool
limits s l = all small (in_line l) && bounds s l

-- ---- 2: the order of lines

-- which of 1 to 7 a line is: "In this order stand"
abbrev pub stage_of : Line → ℕ
stage_of (declare d ds) = 1
stage_of (give x i is) = 2
stage_of (direct cs) = 3
stage_of (loop v l m k n) = 4
stage_of (inside t) = 5
stage_of (end_do j) = 6
stage_of close = 7

-- "One or more `integer` lines", "any number of `data` ... lines", "statements, possibly none"
abbrev pub several : ℕ → Bool
several k = eqb k 1 || (eqb k 2 || eqb k 5)

abbrev pub may_miss : ℕ → Bool
may_miss k = eqb k 2 || eqb k 5

abbrev pub may_follow : ℕ → ℕ → Bool
may_follow k n = eqb n (k + 1) || ((several k && eqb n k) || (may_miss (k + 1) && eqb n (k + 2)))

-- `else` stands in an open `if`, once
abbrev pub else_fits : List Open → Bool
else_fits [] = false
else_fits (o ∷ os) = not (is_given o.first)

abbrev pub none_open : List Open → Bool
none_open [] = true
none_open (o ∷ os) = false

-- `else` in an open `if`, once; `end if` where an `if` is open; `end do` where none is; "a data repeat of 0 is 2"; "`num_threads(p)` exactly once";
-- "the clause `schedule(static)`, at most once"
abbrev pub fits : List Open → Line → Bool
fits os (declare d ds) = true
fits os (give x i is) = all (λ j. ltb 0 (copies j)) (i ∷ is)
fits os (direct cs) = eqb (length (threads_in cs)) 1 && leb (statics_in cs) 1
fits os (loop v l m k n) = true
fits os (inside (assign r e)) = true
fits os (inside (when a r b)) = true
fits os (inside otherwise) = else_fits os
fits os (inside (end_if j)) = not (none_open os)
fits os (end_do j) = none_open os
fits os close = true

unfoldable pub stands : State → Line → Bool
stands s l = may_follow s.stage (stage_of l) && fits s.opens l

-- after `end do` the text is finished; "then optionally `!$omp end parallel do`"
abbrev pub finished : ℕ → Bool
finished k = leb 6 k
