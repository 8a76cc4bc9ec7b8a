-- The loop of an accepted text is proper: its statements access only cells of the table and update only those of reduction names.
-- One induction over expressions and statements serves both: it carries any property of what is still done that such accesses keep.
use mathlib.Core.Path.{◌≡◌, refl, sym, ◌∙◌, subst}
use mathlib.Core.Bool.{true}
use mathlib.Core.List.{List}
use Prim.Native.Nat.{ℕ, ◌+◌, ◌≤◌, ◌<◌}
use native.Mathlib.Omega.{arith}
use lib.IntN.{ℤ, pos, ◌+ℤ◌}
use borrow.Author.Tests.{leb-true}
use Rattle.int32.specs.declared.Relation.{Relation}
use Rattle.int32.specs.Integers.{quotient, related}
use Rattle.rules.specs.declared.Operator.{Operator}
use Rattle.rules.specs.declared.Class.{Class}
use Rattle.rules.specs.declared.Class.TheVariants.{Shared as shared, Lastprivate as lastprivate, Copied as copied, Reduction as reduction}
use Rattle.rules.specs.Loop.{Act, read, write, update, fault, done, Reduces}
use Rattle.rules.specs.Proper.{Sums, Sized, Proper}
use Rattle.rules.proofs.BlocksLaws.{tested_proper}
use Rattle.syntax.specs.declared.Function.{Function}
use Rattle.syntax.specs.declared.Function.TheVariants.{Rdiv, Max}
use Rattle.syntax.specs.Bytes.{choose}
use Rattle.syntax.specs.Grammar.{Expr, expr, Terms, no_terms, terms, Term, term, Factors, no_factors, factors, Factor, literal, cell, call, brackets, Ref, single, element, Subscripts, subscript, subscripts}
use Rattle.syntax.specs.Known.{Entry, find, cells, State, Stmts, stop, set, if_then, if_else}
use Rattle.syntax.specs.Conditions.{ref_name, finished}
use Rattle.syntax.specs.Text.{read as accepts, good}
use Rattle.syntax.specs.Meaning.{is_reduction, same_ref, repeated, operator_at, is_update, remainder, led, divides, called, is_variable, eval, eval_terms, eval_term, eval_factors, eval_factor, place, subscripted_cell, assigned, exec, class_of, loop_of, partition_of}
use Rattle.syntax.specs.Sane.{SaneEntry, SaneTable, Sane}
use Rattle.syntax.proofs.Spelling.{both_true}
use Rattle.syntax.proofs.TestLaws.{choose_each, each_weaken}
use Rattle.syntax.proofs.Sane.{accepted_sane, accepted_finished}
use Rattle.syntax.proofs.Table.{find_each, find_ends, find_first, find_grid, class_of_found}
use Rattle.syntax.proofs.Placing.{located_among, in_grid_among}
use Rattle.int32.specs.Integers as integers

-- "An update is an assignment to a cell of a reduction name"
pub update_reduces : (t : List Entry) (r : Ref) (e : Expr) → is_update t r e ≡ true → (o : Operator) × ((find (ref_name r) t).class ≡ reduction o)
unfolding is_update
update_reduces t r e u = go (find (ref_name r) t).class (both_true _ (same_ref r (repeated (operator_at t r) e)) u).0
  where
    go : (c : Class) → is_reduction c ≡ true → (o : Operator) × (c ≡ reduction o)
    go shared h = let z : ◌≡◌ {A = ℕ} 0 1 = cc in absurd (omega arith)
    go lastprivate h = let z : ◌≡◌ {A = ℕ} 0 1 = cc in absurd (omega arith)
    go copied h = let z : ◌≡◌ {A = ℕ} 0 1 = cc in absurd (omega arith)
    go (reduction o) h = (o, refl)

-- ---- the cell of a reference

-- cell c is one of the table, and of a reduction name where name x is one
pub record Meant (t : List Entry) (x : List ℕ) (c : ℕ) : Type 0 where
  pub below : c < cells t
  pub updated : (o : Operator) → (find x t).class ≡ reduction o → class_of t c ≡ reduction o

module _ (t : List Entry) (h : SaneTable t) where
  -- nothing that is not found is of a reduction name
  found_some : (o : Operator) (x : List ℕ) → (find x t).class ≡ reduction o → 0 < (find x t).size
  found_some o x =
      find_each (λ e. e.class ≡ reduction o → 0 < e.size) x t (λ k. let z : ◌≡◌ {A = ℕ} 0 1 = cc in absurd (omega arith))
      (each_weaken SaneEntry _ (λ e s _. s.some_cells) t h.sized)

  pub meant : (x : List ℕ) (c : ℕ) → (find x t).first ≤ c → c < (find x t).first + (find x t).size → Meant t x c
  meant x c p q = record { below = omega (arith, find_ends x t h); updated = λ o e. class_of_found x 0 t c h.laid p q ∙ e }

  pub meant_at : (x : List ℕ) (d : ℕ) → d < (find x t).size → Meant t x ((find x t).first + d)
  meant_at x d b = meant x _ (omega arith) (omega arith)

  pub meant_first : 0 < cells t → (x : List ℕ) → Meant t x (find x t).first
  meant_first k x = record {
    below = find_first x t h k;
    updated = λ o e. class_of_found x 0 t (find x t).first h.laid (omega arith) (omega (arith, found_some o x e)) ∙ e;
  }

-- ---- what the accesses keep

record Kept (t : List Entry) (P : Act → Type 0) : Type 0 where
  reads : (c : ℕ) (k : ℤ → Act) → c < cells t → ((y : ℤ) → P (k y)) → P (read c k)
  writes : (c : ℕ) (y : ℤ) (a : Act) → c < cells t → P a → P (write c y a)
  updates : (c : ℕ) (y : ℤ) (a : Act) → c < cells t → Reduces (class_of t c) → P a → P (update c y a)
  faults : (n line : ℕ) → P (fault n line)

module _ (t : List Entry) (v : List ℕ) (x : ℤ) (h : SaneTable t) (filled : 0 < cells t) (P : Act → Type 0) (keep : Kept t P) where
  divides_kept : (line : ℕ) (f : ℤ → ℤ → ℤ) (a b : ℤ) (k : ℤ → Act) → ((y : ℤ) → P (k y)) → P (divides line f a b k)
  unfolding divides
  divides_kept line f a b k q = choose_each P (integers.same b (pos 0)) _ _ (λ _. keep.faults 10 line) (λ _. q (f a b))

  called_kept : (line : ℕ) (f : Function) (a b : ℤ) (k : ℤ → Act) → ((y : ℤ) → P (k y)) → P (called line f a b k)
  unfolding called
  called_kept line Rdiv a b k q = divides_kept line _ a b k q
  called_kept line Max a b k q = q _

  mutual
    unfolding eval eval_terms eval_term eval_factors eval_factor place subscripted_cell

    eval_kept : (line : ℕ) (e : Expr) (k : ℤ → Act) → ((y : ℤ) → P (k y)) → P (eval t v x line e k)
    eval_kept line (expr l a as') k q = eval_term_kept line a _ (λ y. eval_terms_kept line as' (led l y) k q)

    eval_terms_kept : (line : ℕ) (as' : Terms) (y : ℤ) (k : ℤ → Act) → ((y : ℤ) → P (k y)) → P (eval_terms t v x line as' y k)
    eval_terms_kept line no_terms y k q = q y
    eval_terms_kept line (terms o a as') y k q = eval_term_kept line a _ (λ z. eval_terms_kept line as' _ k q)

    eval_term_kept : (line : ℕ) (a : Term) (k : ℤ → Act) → ((y : ℤ) → P (k y)) → P (eval_term t v x line a k)
    eval_term_kept line (term f fs) k q = eval_factor_kept line f _ (λ y. eval_factors_kept line fs y k q)

    eval_factors_kept : (line : ℕ) (fs : Factors) (y : ℤ) (k : ℤ → Act) → ((y : ℤ) → P (k y)) → P (eval_factors t v x line fs y k)
    eval_factors_kept line no_factors y k q = q y
    eval_factors_kept line (factors o f fs) y k q = eval_factor_kept line f _ (λ z. choose_each P o _ _
        (λ _. divides_kept line quotient y z _ (λ w. eval_factors_kept line fs w k q))
        (λ _. eval_factors_kept line fs _ k q))

    eval_factor_kept : (line : ℕ) (f : Factor) (k : ℤ → Act) → ((y : ℤ) → P (k y)) → P (eval_factor t v x line f k)
    eval_factor_kept line (literal d) k q = q _
    eval_factor_kept line (cell r) k q =
        choose_each P (is_variable t v x r) _ _ (λ _. q x) (λ _. place_kept line r _ (λ c m. keep.reads c k m.below q))
    eval_factor_kept line (call f a b) k q = eval_kept line a _ (λ y. eval_kept line b _ (λ z. called_kept line f y z k q))
    eval_factor_kept line (brackets e) k q = eval_kept line e k q

    place_kept : (line : ℕ) (r : Ref) (k : ℕ → Act) → ((c : ℕ) → Meant t (ref_name r) c → P (k c)) → P (place t v x line r k)
    place_kept line (single y) k q = q _ (meant_first t h filled y)
    place_kept line (element y is) k q = cell_kept line y is k q

    cell_kept : (line : ℕ) (y : List ℕ) (is : Subscripts) (k : ℕ → Act) → ((c : ℕ) → Meant t y c → P (k c)) → P (subscripted_cell t v x line (find y t) is k)
    cell_kept line y (subscript e) k q =
        eval_kept line e _ (λ i. located_among P line (keep.faults 9 line) _ _ i k (λ d b. q _ (meant_at t h y d b)))
    cell_kept line y (subscripts e f) k q =
        eval_kept line e _ (λ i. eval_kept line f _ (λ j.
        in_grid_among P line (keep.faults 9 line) _ _ _ i j k (λ d b. q _ (meant_at t h y d (omega (arith, find_grid y t h))))))

  assigned_kept : (line : ℕ) (r : Ref) (e : Expr) (a : Act) → P a → P (assigned t v x line r e a)
  unfolding assigned
  assigned_kept line r e a p = choose_each P (is_update t r e) _ _
      (λ u. place_kept line r _ (λ c m. eval_kept line (remainder (operator_at t r) e) _ (λ y. keep.updates c y a m.below (reduces u m) p)))
      (λ _. eval_kept line e _ (λ y. place_kept line r _ (λ c m. keep.writes c y a m.below p)))
    where
      reduces : is_update t r e ≡ true → {c : ℕ} → Meant t (ref_name r) c → Reduces (class_of t c)
      reduces u {c} m = let (o, k) = update_reduces t r e u in subst Reduces (sym (m.updated o k)) tt

  branch_kept : (line : ℕ) (a b : Expr) (rel : Relation) (f g : Act) → P f → P g
      → P (eval t v x line a (λ y. eval t v x line b (λ z. choose (related rel y z) (λ _. f) (λ _. g))))
  branch_kept line a b rel f g p q = eval_kept line a _ (λ y. eval_kept line b _ (λ z. choose_each P (related rel y z) _ _ (λ _. p) (λ _. q)))

  exec_kept : (b : Stmts) (after : Act) → P after → P (exec t v x b after)
  unfolding exec
  exec_kept stop after q = q
  exec_kept (set line r e rest) after q = assigned_kept line r e _ (exec_kept rest after q)
  exec_kept (if_then line a rel b f rest) after q = branch_kept line a b rel _ _ (exec_kept f _ (exec_kept rest after q)) (exec_kept rest after q)
  exec_kept (if_else line a rel b f g rest) after q =
      branch_kept line a b rel _ _ (exec_kept f _ (exec_kept rest after q)) (exec_kept g _ (exec_kept rest after q))

-- ---- the two properties

sums_kept : (t : List Entry) → Kept t (Sums (class_of t))
sums_kept t = record { reads = λ c k b q. q; writes = λ c y a b q. q; updates = λ c y a b r q. (r, q); faults = λ n line. tt }

sized_kept : (t : List Entry) → Kept t (Sized (cells t))
sized_kept t = record { reads = λ c k b q. (b, q); writes = λ c y a b q. (b, q); updates = λ c y a b r q. (b, q); faults = λ n line. tt }

-- ---- the loop

pub proper_loop : (s : State) → Sane s → finished s.stage ≡ true → (m : List ℤ) → Proper (loop_of s m) (partition_of s)
unfolding loop_of partition_of
proper_loop s h f m =
    let k : 6 ≤ s.stage = leb-true 6 s.stage f in
    let c : 0 < cells s.table = h.some_cells (omega arith) in
    tested_proper (loop_of s m) s.processors (h.some_processors (omega arith))
    (λ i. exec_kept s.table s.variable (s.from +ℤ pos i) h.table c _ (sums_kept s.table) s.inner done tt)
    (λ i. exec_kept s.table s.variable (s.from +ℤ pos i) h.table c _ (sized_kept s.table) s.inner done tt)
    s.grouping

pub accepted_proper : (text : List ℕ) (s : State) (m : List ℤ) → accepts text ≡ good s → Proper (loop_of s m) (partition_of s)
accepted_proper text s m h = proper_loop s (accepted_sane text s h) (accepted_finished text s h) m
