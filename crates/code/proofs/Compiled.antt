-- The code of statements does what the statements do, and so the code of an accepted text does what each iteration of its loop does.
use mathlib.Core.Path.{◌≡◌, refl, sym, ◌∙◌, ap, fun_ext}
use mathlib.Core.Bool.{Bool, true, false, cond, ◌&&◌}
use mathlib.Core.List.{List, [], ◌∷◌, ◌++◌, append-nil}
use Prim.Native.Nat.{ℕ, suc, ◌+◌, ◌-◌, ◌*◌, ◌≤◌}
use native.Mathlib.Omega.{arith}
use lib.Dec.{leb}
use lib.ListN.{length}
use lib.IntN.{ℤ, pos, negsuc}
use borrow.Author.Tests.{leb-true}
use Rattle.int32.specs.declared.Relation.{Relation}
use Rattle.int32.specs.Integers.{related}
use Rattle.rules.specs.declared.Operator.{Operator}
use Rattle.rules.specs.declared.Operator.TheVariants.{Sum, Product, Maximum}
use Rattle.rules.specs.Loop.{Act, write, fault, done}
use Rattle.syntax.specs.Bytes.{choose, all}
use Rattle.syntax.specs.Grammar.{bare, Expr, expr, no_terms, terms, term, Factors, no_factors, factors, Factor, literal, cell, call, brackets, Ref, single, element}
use Rattle.syntax.specs.Known.{Entry, rows, columns, find, State, Stmts, stop, set, if_then, if_else}
use Rattle.syntax.specs.Conditions.{opens, mentions, in_terms, in_term, in_factors, in_factor, in_ref, in_subscripts, small, finished}
use Rattle.syntax.specs.Meaning.{operator_at, is_update, second_of, remainder, located, eval, place, assigned, exec}
use Rattle.syntax.specs.Text.{read, good}
use Rattle.syntax.specs.Sane.{SaneStmts, Sane}
use Rattle.syntax.proofs.Spelling.{both_true}
use Rattle.syntax.proofs.TestLaws.{all_parts}
use Rattle.syntax.proofs.Statements.{assign_small, when_small}
use Rattle.syntax.proofs.Table.{find_grid}
use Rattle.syntax.proofs.Sane.{accepted_sane, accepted_finished}
use Rattle.code.specs.Instr.{Instr, jump_unless, jump, with1, with2, perform, resume}
use Rattle.code.specs.Compile.{code, code_ref, stores, checks, updates, code_assign, code_if, code_stmts, code_opens, code_lines, code_of}
use Rattle.code.proofs.CompiledExpr.{resume_assoc, resume_assoc₂, resume_expr, resume_subscripts}
use Rattle.rules.specs.Loop as loop

-- past the instructions of a
pub resume_past : (a rest : List Instr) (n : ℕ) (s : List ℤ) (x : ℤ) → resume (a ++ rest) (length a + n) s x ≡ resume rest n s x
unfolding resume
resume_past [] rest n s x = let e : 0 + n ≡ n = omega arith in rw e
resume_past (i ∷ a) rest n s x = let e : suc (length a) + n ≡ suc (length a + n) = omega arith in rw e (resume_past a rest n s x)

pub resume_over : (a rest : List Instr) (s : List ℤ) (x : ℤ) → resume (a ++ rest) (length a) s x ≡ resume rest 0 s x
resume_over a rest s x = let e : length a + 0 ≡ length a = omega arith in rw e at (resume_past a rest 0 s x)

-- the test of an update's subscript finds it in its array once more
located_again : (line first size : ℕ) (i : ℤ) (g : (ℤ → Act) → Act) (h : ℕ → ℤ → Act)
    → located line first size i (λ c. g (λ y. located line first size i (λ d. h d y))) ≡ located line first size i (λ c. g (h c))
unfolding located
located_again line first size (pos n) g h = go (leb 1 n && leb n size)
  where
    go : (b : Bool)
        → choose b (λ _. g (λ y. choose b (λ _. h (first + (n - 1)) y) (λ _. fault 9 line))) (λ _. fault 9 line)
        ≡ choose b (λ _. g (h (first + (n - 1)))) (λ _. fault 9 line)
    go true = refl
    go false = refl
located_again line first size (negsuc n) g h = refl

-- an expression within the limits, with a bracket open around it or none
record Shallow (e : Expr) : Type 0 where
  depth : ℕ
  most : depth ≤ 1
  within : all small (mentions depth e) ≡ true

-- one term alone
lone_term : (x : Factor) (xs : Factors) → all small (in_factor 0 x ++ in_factors 0 xs) ≡ true → Shallow (expr bare (term x xs) no_terms)
unfolding mentions in_terms in_term
lone_term x xs h = record { depth = 0; most = omega arith; within = ap (all small) (append-nil (in_factor 0 x ++ in_factors 0 xs)) ∙ h }

second_small : (x : Factor) → all small (in_factor 0 x) ≡ true → Shallow (second_of x)
unfolding in_factor in_factors
second_small (literal d) h = lone_term (literal d) no_factors (ap (all small) (append-nil (in_factor 0 (literal d))) ∙ h)
second_small (cell q) h = lone_term (cell q) no_factors (ap (all small) (append-nil (in_factor 0 (cell q))) ∙ h)
second_small (call f a b) h = record {
  depth = 1;
  most = omega arith;
  within = (all_parts small (mentions 1 a) (mentions 1 b) (both_true (small (opens 1)) (all small (mentions 1 a ++ mentions 1 b)) h).1).1;
}
second_small (brackets e) h = record { depth = 1; most = omega arith; within = (both_true (small (opens 1)) (all small (mentions 1 e)) h).1 }

-- the remainder of an update: that of a maximum stands in its bracket
remainder_small : (o : Operator) (e : Expr) → all small (mentions 0 e) ≡ true → Shallow (remainder o e)
unfolding mentions in_terms in_term in_factors remainder
remainder_small Sum (expr l a no_terms) h = record { depth = 0; most = omega arith; within = h }
remainder_small Sum (expr l a (terms m b bs)) h = record {
  depth = 0;
  most = omega arith;
  within = (all_parts small (in_term 0 a) (in_term 0 b ++ in_terms 0 bs) h).1;
}
remainder_small Product (expr l (term x no_factors) ts) h = lone_term x no_factors (all_parts small (in_factor 0 x ++ []) (in_terms 0 ts) h).0
remainder_small Product (expr l (term x (factors o y ys)) ts) h =
    lone_term y ys
    (all_parts small (in_factor 0 x) (in_factor 0 y ++ in_factors 0 ys)
    (all_parts small (in_factor 0 x ++ (in_factor 0 y ++ in_factors 0 ys)) (in_terms 0 ts) h).0).1
remainder_small Maximum (expr l (term x xs) ts) h =
    second_small x (all_parts small (in_factor 0 x) (in_factors 0 xs) (all_parts small (in_factor 0 x ++ in_factors 0 xs) (in_terms 0 ts) h).0).0

module _ (t : List Entry) (v : List ℕ) (x : ℤ) (whole : (y : List ℕ) → rows (find y t) * columns (find y t) ≤ (find y t).size) where
  -- ---- assignments

  resume_store : (line : ℕ) (r : Ref) (rest : List Instr) (y : ℤ) → all small (in_ref 0 r) ≡ true
      → resume (code_ref t v line r ++ (stores t v line r ∷ rest)) 0 (y ∷ []) x ≡ place t v x line r (λ c. write c y (resume rest 0 [] x))
  unfolding code_ref place in_ref resume perform with1 with2
  resume_store line (single z) rest y h = refl
  resume_store line (element z is) rest y h =
      resume_subscripts t v x line whole 1 z is _ (y ∷ []) _ (omega arith) (both_true (small (opens 1)) (all small (in_subscripts 1 is)) h).1 (omega arith) (λ i. refl)

  resume_update : (line : ℕ) (r : Ref) (e : Expr) (rest : List Instr) → all small (in_ref 0 r) ≡ true → Shallow e
      → resume (code_ref t v line r ++ (checks t v line r ++ (code t v line e ++ (updates t v line r ∷ rest)))) 0 [] x
      ≡ place t v x line r (λ c. eval t v x line e (λ y. loop.update c y (resume rest 0 [] x)))
  unfolding code_ref place in_ref resume perform with1 with2
  resume_update line (single z) e rest h k = resume_expr t v x line whole k.depth e _ [] (omega (arith, k.most)) k.within (omega arith)
  resume_update line (element z is) e rest h k =
      resume_subscripts t v x line whole 1 z is _ [] _ (omega arith) (both_true (small (opens 1)) (all small (in_subscripts 1 is)) h).1 (omega arith) (λ j.
      ap (located line (find z t).first (find z t).size j) (fun_ext (λ _.
      resume_expr t v x line whole k.depth e _ (j ∷ []) (omega (arith, k.most)) k.within (omega arith)))
      ∙ located_again line (find z t).first (find z t).size j (eval t v x line e) (λ c y. loop.update c y (resume rest 0 [] x)))

  pub resume_assign : (line : ℕ) (r : Ref) (e : Expr) (rest : List Instr) → all small (in_ref 0 r) ≡ true → all small (mentions 0 e) ≡ true
      → resume (code_assign t v line r e ++ rest) 0 [] x ≡ assigned t v x line r e (resume rest 0 [] x)
  unfolding code_assign assigned
  resume_assign line r e rest h k = either (is_update t r e) _ _ _ _
      (resume_assoc ((code_ref t v line r ++ checks t v line r) ++ code t v line (remainder o e)) (updates t v line r ∷ []) rest [] x
      ∙ resume_assoc₂ (code_ref t v line r) (checks t v line r) (code t v line (remainder o e)) (updates t v line r ∷ rest) [] x
      ∙ resume_update line r (remainder o e) rest h (remainder_small o e k))
      (resume_assoc₂ (code t v line e) (code_ref t v line r) (stores t v line r ∷ []) rest [] x
      ∙ resume_expr t v x line whole 0 e _ [] (omega arith) k (omega arith)
      ∙ ap (eval t v x line e) (fun_ext (λ y. resume_store line r rest y h)))
    where
      o : Operator
      o = operator_at t r

      either : (u : Bool) (a b : List Instr) (f g : Act) → resume (a ++ rest) 0 [] x ≡ f → resume (b ++ rest) 0 [] x ≡ g
          → resume (cond u a b ++ rest) 0 [] x ≡ choose u (λ _. f) (λ _. g)
      either true a b f g p q = p
      either false a b f g p q = q

  -- ---- statements

  -- the condition of an `if`, with a jump over m instructions
  resume_if : (line : ℕ) (a : Expr) (rel : Relation) (b : Expr) (m : ℕ) (rest : List Instr) → all small (mentions 0 a) ≡ true → all small (mentions 0 b) ≡ true
      → resume (code_if t v line a rel b m ++ rest) 0 [] x
      ≡ eval t v x line a (λ y. eval t v x line b (λ z. cond (related rel y z) (resume rest 0 [] x) (resume rest m [] x)))
  unfolding resume perform with2
  resume_if line a rel b m rest h k =
      resume_assoc₂ (code t v line a) (code t v line b) (jump_unless rel m ∷ []) rest [] x
      ∙ resume_expr t v x line whole 0 a _ [] (omega arith) h (omega arith)
      ∙ ap (eval t v x line a) (fun_ext (λ y. resume_expr t v x line whole 0 b (jump_unless rel m ∷ rest) (y ∷ []) (omega arith) k (omega arith)))

  -- and its two ways
  resume_branch : (line : ℕ) (a : Expr) (rel : Relation) (b : Expr) (m : ℕ) (rest : List Instr) (yes' no' : Act) → all small (mentions 0 a) ≡ true
      → all small (mentions 0 b) ≡ true
      → resume rest 0 [] x ≡ yes' → resume rest m [] x ≡ no'
      → resume (code_if t v line a rel b m ++ rest) 0 [] x ≡ eval t v x line a (λ y. eval t v x line b (λ z. choose (related rel y z) (λ _. yes') (λ _. no')))
  resume_branch line a rel b m rest yes' no' h k p q =
      resume_if line a rel b m rest h k ∙ ap (eval t v x line a) (fun_ext (λ y. ap (eval t v x line b) (fun_ext (λ z. go (related rel y z)))))
    where
      go : (c : Bool) → cond c (resume rest 0 [] x) (resume rest m [] x) ≡ choose c (λ _. yes') (λ _. no')
      go true = p
      go false = q

  pub compiled : (b : Stmts) (rest : List Instr) → SaneStmts t v b → resume (code_stmts t v b ++ rest) 0 [] x ≡ exec t v x b (resume rest 0 [] x)
  unfolding code_stmts exec resume perform
  compiled stop rest h = refl
  compiled (set line r e b) rest h =
      let (p, q) = assign_small t v r e h.0 in
      resume_assoc (code_assign t v line r e) (code_stmts t v b) rest [] x
      ∙ resume_assign line r e _ p q
      ∙ ap (assigned t v x line r e) (compiled b rest h.1)
  compiled (if_then line a rel b f c) rest h =
      let (p, q) = when_small t v a rel b h.0 in
      let next = compiled c rest h.2 in
      resume_assoc₂ (code_if t v line a rel b (length (code_stmts t v f))) (code_stmts t v f) (code_stmts t v c) rest [] x
      ∙ resume_branch line a rel b _ _ _ _ p q (compiled f _ h.1 ∙ ap (exec t v x f) next) (resume_over (code_stmts t v f) _ [] x ∙ next)
  compiled (if_else line a rel b f g c) rest h =
      let (p, q) = when_small t v a rel b h.0 in
      let next = compiled c rest h.3 in
      let over = jump (length (code_stmts t v g)) in
      resume_assoc₂ ((code_if t v line a rel b (suc (length (code_stmts t v f))) ++ code_stmts t v f) ++ (over ∷ [])) (code_stmts t v g) (code_stmts t v c) rest [] x
      ∙ resume_assoc₂ (code_if t v line a rel b (suc (length (code_stmts t v f)))) (code_stmts t v f) (over ∷ []) _ [] x
      ∙ resume_branch line a rel b _ _ _ _ p q
      (compiled f _ h.1 ∙ ap (exec t v x f) (resume_over (code_stmts t v g) _ [] x ∙ next))
      (past_jump (code_stmts t v f) over _ ∙ compiled g _ h.2 ∙ ap (exec t v x g) next)
    where
      past_jump : (a : List Instr) (i : Instr) (rest : List Instr) → resume (a ++ (i ∷ rest)) (suc (length a)) [] x ≡ resume rest 0 [] x
      past_jump a i rest = let e : length a + 1 ≡ suc (length a) = omega arith in rw e at (resume_past a (i ∷ rest) 1 [] x)

-- ---- a finished text

-- no `if` is open, and the code is that of the statements
pub code_finished : (s : State) → Sane s → finished s.stage ≡ true → code_of s ≡ code_stmts s.table s.variable s.inner
unfolding code_of code_lines code_opens
code_finished s h f = rw (h.none_open (leb-true 6 s.stage f))

pub compiled_finished : (s : State) → Sane s → finished s.stage ≡ true → (rest : List Instr) (x : ℤ)
    → resume (code_of s ++ rest) 0 [] x ≡ exec s.table s.variable x s.inner (resume rest 0 [] x)
compiled_finished s h f rest x =
    ap (λ (is : List Instr). resume (is ++ rest) 0 [] x) (code_finished s h f)
    ∙ compiled s.table s.variable x (λ y. find_grid y s.table h.table) s.inner rest (h.loop (omega (arith, leb-true 6 s.stage f))).statements

pub compiled_text : (text : List ℕ) (s : State) → read text ≡ good s → (x : ℤ)
    → resume (code_of s) 0 [] x ≡ exec s.table s.variable x s.inner done
unfolding resume
compiled_text text s h x =
    ap (λ (is : List Instr). resume is 0 [] x) (sym (append-nil (code_of s)))
    ∙ compiled_finished s (accepted_sane text s h) (accepted_finished text s h) [] x
