-- Statements that are the same but for their lines' numbers and leading zeros do the same: the trees of every iteration differ only in the lines
-- of their faults.
use mathlib.Core.Path.{◌≡◌, refl, sym, ◌∙◌, ap, ap₂, subst₂}
use mathlib.Core.Bool.{Bool, true, false, cond, ◌&&◌, not}
use mathlib.Core.List.{List, [], ◌∷◌, map}
use mathlib.Core.Option.{Option, none, some}
use Prim.Native.Nat.{ℕ, zero, suc, ◌+◌, ◌-◌, ◌*◌}
use lib.Dec.{leb}
use lib.IntN.{ℤ, pos, negsuc, ◌+ℤ◌}
use Rattle.int32.specs.Integers.{sum, difference, product, larger, quotient, related}
use Rattle.rules.specs.declared.Operator.{Operator}
use Rattle.rules.specs.declared.Operator.TheVariants.{Sum, Product, Maximum}
use Rattle.rules.specs.Loop.{Loop, Act, fault, operator}
use Rattle.rules.specs.Log.{Log}
use Rattle.rules.specs.Serial.{Result, along, from, serial}
use Rattle.syntax.specs.declared.Function.{Function}
use Rattle.syntax.specs.declared.Function.TheVariants.{Rdiv, Max}
use Rattle.syntax.specs.Bytes.{choose, Token, name, other_word, digits, sign, equal}
use Rattle.syntax.specs.Grammar.{number, Lead, bare, plus, minus, Expr, expr, Terms, no_terms, terms, Term, term, Factors, no_factors, factors, Factor, literal, cell, call, brackets, Ref, single, element, Subscripts, subscript, subscripts, show_ref}
use Rattle.syntax.specs.Known.{Entry, rows, columns, State, Stmts, find, cells}
use Rattle.syntax.specs.Meaning.{zeros_aside, alike, reference, unled, followed, multiplied, summand, times, multiplicand, alone, compared, rival, repeated, same_ref, is_reduction, operator_at, is_update, second_of, remainder, led, located, in_grid, divides, called, is_variable, eval, eval_terms, eval_term, eval_factors, eval_factor, place, subscripted_cell, assigned, exec, class_of, loop_of}
use Rattle.int32.specs.Integers as integers
use Rattle.printed.specs.Form.{zeros_gone}
use Rattle.printed.specs.Restated.{short_expr, short_terms, short_term, short_factors, short_factor, short_ref, short_subscripts, SameStmts, SameKnown, SameTree, reads, writes, updates, faults, ends, SameLoop, SameResult, no_fault, one_fault}
use Rattle.printed.specs.Restated as restated
use Rattle.printed.proofs.ShortLines.{ref_short}
use Rattle.printed.proofs.ZeroLaws.{number_shortest, no_zeros_shortest, show_short_ref}

-- ---- updates

aside_gone : (t : Token) → zeros_aside (zeros_gone t) ≡ zeros_aside t
aside_gone (name b) = refl
aside_gone (other_word b) = refl
aside_gone (digits b) = ap digits (no_zeros_shortest b)
aside_gone (sign b) = refl

alike_gone : (ts us : List Token) → alike (map zeros_gone ts) (map zeros_gone us) ≡ alike ts us
unfolding alike
alike_gone [] [] = refl
alike_gone [] (u ∷ us) = refl
alike_gone (t ∷ ts) [] = refl
alike_gone (t ∷ ts) (u ∷ us) = ap₂ (λ (x y : Bool). x && y) (ap₂ equal (aside_gone t) (aside_gone u)) (alike_gone ts us)

short_option : Option Ref → Option Ref
short_option none = none
short_option (some r) = some (short_ref r)

-- what an expression begins with: the reference, its sign, and whether more follows
reference_short : (x : Factor) → reference (short_factor x) ≡ short_option (reference x)
unfolding short_factor short_option
reference_short (literal d) = refl
reference_short (cell q) = refl
reference_short (call f a b) = refl
reference_short (brackets e) = refl

followed_short : (ts : Terms) → followed (short_terms ts) ≡ followed ts
unfolding short_terms
followed_short no_terms = refl
followed_short (terms o t ts) = refl

multiplied_short : (xs : Factors) → multiplied (short_factors xs) ≡ multiplied xs
unfolding short_factors
multiplied_short no_factors = refl
multiplied_short (factors o x xs) = refl

times_short : (xs : Factors) → times (short_factors xs) ≡ times xs
unfolding short_factors
times_short no_factors = refl
times_short (factors o x xs) = ap (λ (b : Bool). not o && b) (times_short xs)

unled_short : (l : Lead) {b c : Bool} {p : Option Ref} (q : Option Ref) → b ≡ c → p ≡ short_option q
    → cond b (unled l p) none ≡ short_option (cond c (unled l q) none)
unfolding short_option
unled_short l {c = c} q e h = ap₂ (λ (b : Bool) (p : Option Ref). cond b (unled l p) none) e h ∙ go l c
  where
    go : (l : Lead) (c : Bool) → cond c (unled l (short_option q)) none ≡ short_option (cond c (unled l q) none)
    go bare true = refl
    go plus true = refl
    go minus true = refl
    go l false = refl

-- the three forms of updates
summand_short : (e : Expr) → summand (short_expr e) ≡ short_option (summand e)
unfolding summand short_expr short_term
summand_short (expr l (term x xs) ts) =
    unled_short l (reference x) (ap₂ (λ (a b : Bool). a && not b) (followed_short ts) (multiplied_short xs)) (reference_short x)

multiplicand_short : (e : Expr) → multiplicand (short_expr e) ≡ short_option (multiplicand e)
unfolding multiplicand short_expr short_term
multiplicand_short (expr l (term x xs) ts) =
    unled_short l (reference x)
    (ap₂ (λ (a b : Bool). not a && b) (followed_short ts) (ap₂ (λ (a b : Bool). a && b) (multiplied_short xs) (times_short xs)))
    (reference_short x)

alone_short : (e : Expr) → alone (short_expr e) ≡ short_option (alone e)
unfolding alone short_expr short_term
alone_short (expr l (term x xs) ts) =
    unled_short l (reference x) (ap₂ (λ (a b : Bool). not a && not b) (followed_short ts) (multiplied_short xs)) (reference_short x)

compared_short : (x : Factor) → compared (short_factor x) ≡ short_option (compared x)
unfolding short_factor short_option
compared_short (literal d) = refl
compared_short (cell q) = refl
compared_short (call Rdiv a b) = refl
compared_short (call Max a b) = alone_short a
compared_short (brackets e) = refl

rival_short : (e : Expr) → rival (short_expr e) ≡ short_option (rival e)
unfolding rival short_expr short_term
rival_short (expr l (term x xs) ts) =
    unled_short l (compared x) (ap₂ (λ (a b : Bool). not a && not b) (followed_short ts) (multiplied_short xs)) (compared_short x)

repeated_short : (o : Operator) (e : Expr) → repeated o (short_expr e) ≡ short_option (repeated o e)
repeated_short Sum e = summand_short e
repeated_short Product e = multiplicand_short e
repeated_short Maximum e = rival_short e

same_ref_short : (r : Ref) (q : Option Ref) → same_ref (short_ref r) (short_option q) ≡ same_ref r q
unfolding short_option
same_ref_short r none = refl
same_ref_short r (some q) = ap₂ alike (show_short_ref r) (show_short_ref q) ∙ alike_gone (show_ref r) (show_ref q)

operator_short : (t : List Entry) (r : Ref) → operator_at t (short_ref r) ≡ operator_at t r
operator_short t r = ap (λ (x : List ℕ). operator (find x t).class) (ref_short r)

update_short : (t : List Entry) (r : Ref) (e : Expr) → is_update t (short_ref r) (short_expr e) ≡ is_update t r e
unfolding is_update
update_short t r e =
    ap₂ (λ (x : List ℕ) (b : Bool). is_reduction (find x t).class && b) (ref_short r)
    (ap (λ (o : Operator). same_ref (short_ref r) (repeated o (short_expr e))) (operator_short t r)
    ∙ ap (same_ref (short_ref r)) (repeated_short (operator_at t r) e)
    ∙ same_ref_short r (repeated (operator_at t r) e))

second_short : (x : Factor) → second_of (short_factor x) ≡ short_expr (second_of x)
unfolding short_expr short_terms short_term short_factors short_factor
second_short (literal d) = refl
second_short (cell q) = refl
second_short (call f a b) = refl
second_short (brackets e) = refl

remainder_short : (o : Operator) (e : Expr) → remainder o (short_expr e) ≡ short_expr (remainder o e)
unfolding remainder short_expr short_terms short_term short_factors
remainder_short Sum (expr l t no_terms) = refl
remainder_short Sum (expr l t (terms o u us)) = refl
remainder_short Product (expr l (term x no_factors) ts) = refl
remainder_short Product (expr l (term x (factors o y ys)) ts) = refl
remainder_short Maximum (expr l (term x xs) ts) = second_short x

-- ---- trees

located_same : (i j first size : ℕ) (y : ℤ) {f g : ℕ → Act} → ((c : ℕ) → SameTree (f c) (g c))
    → SameTree (located i first size y f) (located j first size y g)
unfolding located
located_same i j first size (pos n) {f} {g} h = go (leb 1 n && leb n size)
  where
    go : (b : Bool) → SameTree (choose b (λ _. f (first + (n - 1))) (λ _. fault 9 i)) (choose b (λ _. g (first + (n - 1))) (λ _. fault 9 j))
    go true = h (first + (n - 1))
    go false = faults
located_same i j first size (negsuc n) h = faults

in_grid_same : (i j first m n : ℕ) (y z : ℤ) {f g : ℕ → Act} → ((c : ℕ) → SameTree (f c) (g c))
    → SameTree (in_grid i first m n y z f) (in_grid j first m n y z g)
unfolding in_grid
in_grid_same i j first m n y z h = located_same i j first m y (λ c. located_same i j 0 n z (λ d. h (c + d * m)))

divides_same : (i j : ℕ) (op : ℤ → ℤ → ℤ) (a b : ℤ) {f g : ℤ → Act} → ((y : ℤ) → SameTree (f y) (g y))
    → SameTree (divides i op a b f) (divides j op a b g)
unfolding divides
divides_same i j op a b {f} {g} h = go (integers.same b (pos 0))
  where
    go : (c : Bool) → SameTree (choose c (λ _. fault 10 i) (λ _. f (op a b))) (choose c (λ _. fault 10 j) (λ _. g (op a b)))
    go true = faults
    go false = h (op a b)

called_same : (i j : ℕ) (fn : Function) (a b : ℤ) {f g : ℤ → Act} → ((y : ℤ) → SameTree (f y) (g y))
    → SameTree (called i fn a b f) (called j fn a b g)
unfolding called
called_same i j Rdiv a b h = divides_same i j integers.rdiv a b h
called_same i j Max a b h = h (larger a b)

choose_same : (o : Bool) {a b c d : Act} → SameTree a b → SameTree c d → SameTree (choose o (λ _. a) (λ _. c)) (choose o (λ _. b) (λ _. d))
choose_same true h k = h
choose_same false h k = k

module _ (t : List Entry) (v : List ℕ) (x : ℤ) (i j : ℕ) where
  variable_short : (r : Ref) → is_variable t v x (short_ref r) ≡ is_variable t v x r
  unfolding short_ref
  variable_short (single y) = refl
  variable_short (element y is) = refl

  mutual
    unfolding eval eval_terms eval_term eval_factors eval_factor place subscripted_cell short_expr short_terms short_term short_factors short_factor short_ref short_subscripts

    expr_same : (e : Expr) {f g : ℤ → Act} → ((y : ℤ) → SameTree (f y) (g y)) → SameTree (eval t v x i e f) (eval t v x j (short_expr e) g)
    expr_same (expr l a as') h = term_same a (λ y. terms_same as' (led l y) h)

    terms_same : (e : Terms) (y : ℤ) {f g : ℤ → Act} → ((y : ℤ) → SameTree (f y) (g y))
        → SameTree (eval_terms t v x i e y f) (eval_terms t v x j (short_terms e) y g)
    terms_same no_terms y h = h y
    terms_same (terms o a as') y h = term_same a (λ z. terms_same as' (cond o (difference y z) (sum y z)) h)

    term_same : (e : Term) {f g : ℤ → Act} → ((y : ℤ) → SameTree (f y) (g y)) → SameTree (eval_term t v x i e f) (eval_term t v x j (short_term e) g)
    term_same (term a as') h = factor_same a (λ y. factors_same as' y h)

    factors_same : (e : Factors) (y : ℤ) {f g : ℤ → Act} → ((y : ℤ) → SameTree (f y) (g y))
        → SameTree (eval_factors t v x i e y f) (eval_factors t v x j (short_factors e) y g)
    factors_same no_factors y h = h y
    factors_same (factors o a as') y h =
        factor_same a (λ z. choose_same o (divides_same i j quotient y z (λ q. factors_same as' q h)) (factors_same as' (product y z) h))

    factor_same : (e : Factor) {f g : ℤ → Act} → ((y : ℤ) → SameTree (f y) (g y))
        → SameTree (eval_factor t v x i e f) (eval_factor t v x j (short_factor e) g)
    factor_same (literal d) {f} {g} h = rw (number_shortest d) (h (pos (number d)))
    factor_same (cell r) {f} {g} h = rw (variable_short r) (choose_same (is_variable t v x r) (h x) (place_same r (λ c. reads h)))
    factor_same (call fn a b) h = expr_same a (λ y. expr_same b (λ z. called_same i j fn y z h))
    factor_same (brackets e) h = expr_same e h

    place_same : (r : Ref) {f g : ℕ → Act} → ((c : ℕ) → SameTree (f c) (g c)) → SameTree (place t v x i r f) (place t v x j (short_ref r) g)
    place_same (single y) h = h (find y t).first
    place_same (element y is) h = cell_same (find y t) is h

    cell_same : (y : Entry) (is : Subscripts) {f g : ℕ → Act} → ((c : ℕ) → SameTree (f c) (g c))
        → SameTree (subscripted_cell t v x i y is f) (subscripted_cell t v x j y (short_subscripts is) g)
    cell_same y (subscript e) h = expr_same e (λ n. located_same i j y.first y.size n h)
    cell_same y (subscripts e f) h = expr_same e (λ m. expr_same f (λ n. in_grid_same i j y.first (rows y) (columns y) m n h))

  assigned_same : (r : Ref) (e : Expr) {a b : Act} → SameTree a b → SameTree (assigned t v x i r e a) (assigned t v x j (short_ref r) (short_expr e) b)
  unfolding assigned
  assigned_same r e h =
      rw (update_short t r e, operator_short t r, remainder_short (operator_at t r) e)
      (choose_same (is_update t r e)
      (place_same r (λ c. expr_same (remainder (operator_at t r) e) (λ y. updates h)))
      (expr_same e (λ y. place_same r (λ c. writes h))))

module _ (t : List Entry) (v : List ℕ) (x : ℤ) where
  exec_same : {p q : Stmts} → SameStmts p q → {a b : Act} → SameTree a b → SameTree (exec t v x p a) (exec t v x q b)
  unfolding exec
  exec_same restated.nothing h = h
  exec_same (restated.sets {i = i} {j = j} {r = r} {e = e} k) h = assigned_same t v x i j r e (exec_same k h)
  exec_same (restated.branches {i = i} {j = j} {x = l} {y = r} {rel = rel} p k) h =
      expr_same t v x i j l (λ y. expr_same t v x i j r (λ z. choose_same (related rel y z) (exec_same p (exec_same k h)) (exec_same k h)))
  exec_same (restated.divides {i = i} {j = j} {x = l} {y = r} {rel = rel} p o k) h =
      expr_same t v x i j l
      (λ y. expr_same t v x i j r (λ z. choose_same (related rel y z) (exec_same p (exec_same k h)) (exec_same o (exec_same k h))))

-- ---- loops

pub known_loop : (s u : State) → SameKnown s u → (m : List ℤ) → SameLoop (loop_of s m) (loop_of u m)
unfolding loop_of
known_loop s u h m = record {
  size = ap cells h.table;
  iterations = h.count;
  body = λ i. rw (h.table, h.variable, h.from) (exec_same s.table s.variable (s.from +ℤ pos i) h.inner ends);
  class = ap class_of h.table;
  entry = refl;
}

-- ---- serial runs

module _ (l m : Loop) (e : m.class ≡ l.class) where
  along_same : (i : ℕ) {a b : Act} → SameTree a b → (c : ℕ → ℤ) (g : Log) {f h : (ℕ → ℤ) → Log → Result}
      → ((c : ℕ → ℤ) (g : Log) → SameResult (f c g) (h c g)) → SameResult (along l i a c g f) (along m i b c g h)
  unfolding along
  along_same i (reads {c = d} t) c g k = along_same i (t (c d)) c _ k
  along_same i (writes t) c g k = along_same i t _ _ k
  along_same i (updates t) c g k = rw e (along_same i t _ _ k)
  along_same i faults c g k = record { cells = refl; log = refl; outcome = one_fault }
  along_same i ends c g k = k c g

  from_same : ((i : ℕ) → SameTree (l.body i) (m.body i)) → (n i : ℕ) (c : ℕ → ℤ) (g : Log) → SameResult (from l n i c g) (from m n i c g)
  unfolding from
  from_same t zero i c g = record { cells = refl; log = refl; outcome = no_fault }
  from_same t (suc n) i c g = along_same i (t i) c g (from_same t n (suc i))

pub loop_serial : (l m : Loop) → SameLoop l m → SameResult (serial l) (serial m)
unfolding serial
loop_serial l m h =
    subst₂ (λ (n : ℕ) (c : ℕ → ℤ). SameResult (serial l) (from m n 0 c [])) (sym h.iterations) (sym h.entry)
    (from_same l m h.class h.body l.iterations 0 l.entry [])
