-- RULES 12 e (document 02, Point 1): "Loops of this form may now pass; their cells are the serial run's as before". In the serial run an update does what
-- its line says: without its clauses, so that no line is an update, a text has the same serial cells, the same fault and the same write counts. So it is
-- with the products and maxima of Point 6.
use mathlib.Core.Path.{◌≡◌, refl, sym, ◌∙◌, ap, subst}
use mathlib.Core.Bool.{Bool, true, false, cond, ◌&&◌, ◌||◌}
use mathlib.Core.List.{List, [], ◌∷◌}
use mathlib.Core.Option.{Option, none, some}
use Prim.Native.Nat.{ℕ, ◌+◌, ◌-◌, ◌*◌, ◌≤◌, ◌<◌}
use native.Mathlib.Omega.{arith}
use lib.Dec.{leb}
use lib.IntN.{ℤ, pos, negsuc, ◌+ℤ◌}
use borrow.Author.Tests.{leb-true}
use Rattle.int32.specs.declared.Relation.{Relation}
use Rattle.int32.specs.Integers.{product, quotient, related}
use Rattle.rules.specs.declared.Operator.{Operator}
use Rattle.rules.specs.Operation.{operation}
use Rattle.rules.specs.declared.Class.{Class}
use Rattle.rules.specs.declared.Class.TheVariants.{Shared as shared}
use Rattle.rules.specs.Loop.{Act, read, write, update, done, operator, Loop}
use Rattle.rules.specs.Merge.{pairs, written_cells}
use Rattle.rules.proofs.Likewise.{Like, like_done, like_write, like_comes, like_update, like_serial, Comes, comes_value, comes_fault, comes_read, comes_then, traced_cells, traced_pairs}
use Rattle.syntax.specs.declared.Function.{Function}
use Rattle.syntax.specs.declared.Function.TheVariants.{Rdiv, Max}
use Rattle.syntax.specs.Bytes.{choose, same}
use Rattle.syntax.specs.Grammar.{Expr, expr, Terms, no_terms, terms, Term, term, Factors, no_factors, factors, Factor, literal, cell, call, brackets, Ref, single, element, Subscripts, subscript, subscripts, show_ref}
use Rattle.syntax.specs.Known.{Entry, rows, columns, named, known, find, cells, with_class, class_in, State, Stmts, stop, set, if_then, if_else}
use Rattle.syntax.specs.Conditions.{ref_name}
use Rattle.syntax.specs.Text.{read as accepts, good}
use Rattle.syntax.specs.Clauseless.{unclaused, clauseless, SerialAlike}
use Rattle.syntax.specs.Meaning.{alike, is_reduction, same_ref, repeated, operator_at, is_update, remainder, led, located, in_grid, divides, called, is_variable, eval, eval_terms, eval_term, eval_factors, eval_factor, place, subscripted_cell, assigned, exec, class_of, loop_of}
use Rattle.syntax.proofs.Spelling.{both_true, same_true}
use Rattle.syntax.proofs.TestLaws.{choose_each}
use Rattle.syntax.proofs.Sane.{accepted_sane, accepted_finished}
use Rattle.syntax.proofs.TableLines.{classify_cells}
use Rattle.syntax.specs.Sane.{SaneTable}
use Rattle.syntax.proofs.ProperLoop.{update_reduces, Meant, meant_at, meant_first}
use Rattle.syntax.proofs.Placing.{located_alike, in_grid_alike}
use Rattle.syntax.proofs.Table.{find_grid}
use Rattle.syntax.proofs.Forms.{repeats_of}
use Rattle.syntax.proofs.Added.{added}
use Rattle.syntax.proofs.Aside.{aside_ref, name_aside, alike_aside, SameCells, eval_aside, place_aside}
use Rattle.int32.specs.Integers as integers

-- ---- a text without its clauses

find_unclaused : (y : List ℕ) (t : List Entry) → find y (unclaused t) ≡ with_class shared (find y t)
unfolding find class_in
find_unclaused y [] = refl
find_unclaused y (e ∷ t) = go (named y e) (find_unclaused y t)
  where
    go : (b : Bool) → find y (unclaused t) ≡ with_class shared (find y t)
        → cond b (with_class shared e) (find y (unclaused t)) ≡ with_class shared (cond b e (find y t))
    go true h = refl
    go false h = h

same_places : (t : List Entry) → SameCells (unclaused t) t
same_places t = record {
  first = λ y. ap (λ (e : Entry). e.first) (find_unclaused y t);
  size = λ y. ap (λ (e : Entry). e.size) (find_unclaused y t);
  extents = λ y. ap (λ (e : Entry). e.extents) (find_unclaused y t);
}

-- ---- what an expression comes to

module _ (t : List Entry) (v : List ℕ) (x : ℤ) (line : ℕ) (m : ℕ → ℤ) where
  either_comes : {A : Type 0} (b : Bool) (F G : (A → Act) → Act) → Comes m F → Comes m G → Comes m (λ k. choose b (λ _. F k) (λ _. G k))
  either_comes true F G p q = p
  either_comes false F G p q = q

  located_comes : (first size : ℕ) (i : ℤ) → Comes m (located line first size i)
  unfolding located
  located_comes first size (pos n) = either_comes (leb 1 n && leb n size) _ _ (comes_value m (first + (n - 1))) (comes_fault m 9 line)
  located_comes first size (negsuc n) = comes_fault m 9 line

  in_grid_comes : (first a b : ℕ) (i j : ℤ) → Comes m (in_grid line first a b i j)
  unfolding in_grid
  in_grid_comes first a b i j = comes_then (located_comes first a i) (λ c. comes_then (located_comes 0 b j) (λ d. comes_value m (c + d * a)))

  divides_comes : (f : ℤ → ℤ → ℤ) (a b : ℤ) → Comes m (divides line f a b)
  unfolding divides
  divides_comes f a b = either_comes (integers.same b (pos 0)) _ _ (comes_fault m 10 line) (comes_value m (f a b))

  called_comes : (f : Function) (a b : ℤ) → Comes m (called line f a b)
  unfolding called
  called_comes Rdiv a b = divides_comes integers.rdiv a b
  called_comes Max a b = comes_value m _

  mutual
    unfolding eval eval_terms eval_term eval_factors eval_factor place subscripted_cell

    eval_comes : (e : Expr) → Comes m (eval t v x line e)
    eval_comes (expr l a as') = comes_then (term_comes a) (λ y. terms_come as' (led l y))

    terms_come : (as' : Terms) (y : ℤ) → Comes m (eval_terms t v x line as' y)
    terms_come no_terms y = comes_value m y
    terms_come (terms o a as') y = comes_then (term_comes a) (λ z. terms_come as' _)

    term_comes : (a : Term) → Comes m (eval_term t v x line a)
    term_comes (term f fs) = comes_then (factor_comes f) (λ y. factors_come fs y)

    factors_come : (fs : Factors) (y : ℤ) → Comes m (eval_factors t v x line fs y)
    factors_come no_factors y = comes_value m y
    factors_come (factors o f fs) y =
        comes_then (factor_comes f) (λ z.
        either_comes o _ _ (comes_then (divides_comes quotient y z) (λ q. factors_come fs q)) (factors_come fs (product y z)))

    factor_comes : (f : Factor) → Comes m (eval_factor t v x line f)
    factor_comes (literal d) = comes_value m _
    factor_comes (cell r) = either_comes (is_variable t v x r) _ _ (comes_value m x) (comes_then (place_comes r) (λ c. comes_read m c))
    factor_comes (call f a b) = comes_then (eval_comes a) (λ y. comes_then (eval_comes b) (λ z. called_comes f y z))
    factor_comes (brackets e) = eval_comes e

    place_comes : (r : Ref) → Comes m (place t v x line r)
    place_comes (single y) = comes_value m _
    place_comes (element y is) = cell_comes (find y t) is

    cell_comes : (y : Entry) (is : Subscripts) → Comes m (subscripted_cell t v x line y is)
    cell_comes y (subscript e) = comes_then (eval_comes e) (λ i. located_comes _ _ i)
    cell_comes y (subscripts e f) = comes_then (eval_comes e) (λ i. comes_then (eval_comes f) (λ j. in_grid_comes _ _ _ i j))

-- ---- the same over both tables

own_places : (t : List Entry) → SameCells t t
own_places t = record { first = λ y. refl; size = λ y. refl; extents = λ y. refl }

module _ (t : List Entry) (v : List ℕ) (x : ℤ) (line : ℕ) where
  same_value : (e : Expr) (k : ℤ → Act) → eval (unclaused t) v x line e k ≡ eval t v x line e k
  same_value e k = eval_aside (unclaused t) t v x line (same_places t) e k ∙ sym (eval_aside t t v x line (own_places t) e k)

  alike_place : (r q : Ref) → aside_ref r ≡ aside_ref q → (k : ℕ → Act) → place (unclaused t) v x line r k ≡ place t v x line q k
  alike_place r q h k =
      place_aside (unclaused t) t v x line (same_places t) r k ∙ ap (λ (p : Ref). place t v x line p k) h
      ∙ sym (place_aside t t v x line (own_places t) q k)

  same_place : (r : Ref) (k : ℕ → Act) → place (unclaused t) v x line r k ≡ place t v x line r k
  same_place r k = alike_place r r refl k

-- ---- what is done with the cell of a reference, by what is known of that cell

module _ (t : List Entry) (v : List ℕ) (x : ℤ) (line : ℕ) (h : SaneTable t) (filled : 0 < cells t) where
  place_same : (r : Ref) (k k' : ℕ → Act) → ((c : ℕ) → Meant t (ref_name r) c → k c ≡ k' c) → place t v x line r k ≡ place t v x line r k'
  unfolding place subscripted_cell
  place_same (single y) k k' q = q _ (meant_first t h filled y)
  place_same (element y (subscript e)) k k' q =
      ap (eval t v x line e) (λ i z. located_alike line _ _ _ z k k' (λ d b. q _ (meant_at t h y d b)) i)
  place_same (element y (subscripts e f)) k k' q =
      ap (eval t v x line e) (λ i z. ap (eval t v x line f) (λ j w.
      in_grid_alike line _ _ (rows (find y t)) (columns (find y t)) z w k k' (λ d b. q _ (meant_at t h y d (omega (arith, find_grid y t h)))) j) i)

-- ---- a reduction's name is not the loop's variable

unknown_nowhere : (y : List ℕ) (t : List Entry) → known y t ≡ false → (find y t).class ≡ shared
unfolding find
unknown_nowhere y [] h = refl
unknown_nowhere y (e ∷ t) h = go (named y e) (unknown_nowhere y t) h
  where
    go : (b : Bool) → (known y t ≡ false → (find y t).class ≡ shared) → b || known y t ≡ false → (cond b e (find y t)).class ≡ shared
    go true k h = absurd (let z : ◌≡◌ {A = ℕ} 0 1 = cc in omega arith)
    go false k h = k h

module _ (t : List Entry) (v : List ℕ) (sane : SaneTable t) (filled : 0 < cells t) (undeclared : known v t ≡ false) where
  not_variable : (x : ℤ) (q : Ref) → is_reduction (find (ref_name q) t).class ≡ true → is_variable t v x q ≡ false
  not_variable x (element y is) h = refl
  not_variable x (single y) h = go (same y v) refl
    where
      go : (b : Bool) → same y v ≡ b → b ≡ false
      go false e = refl
      go true e =
          let p : (find y t).class ≡ shared = ap (λ (z : List ℕ). (find z t).class) (same_true y v e) ∙ unknown_nowhere v t undeclared in
          let q : is_reduction (find y t).class ≡ false = ap is_reduction p in
          absurd (let z : ◌≡◌ {A = ℕ} 0 1 = cc in omega arith)

  -- ---- statements

  module _ (l l' : Loop) (classes : l.class ≡ class_of t) (x : ℤ) where
    no_update : (r : Ref) (e : Expr) → is_update (unclaused t) r e ≡ false
    unfolding is_update
    no_update r e = ap (λ (c : Entry). is_reduction c.class && same_ref r (repeated (operator c.class) e)) (find_unclaused (ref_name r) t)

    -- as the line says: the right side, the left subscript, the write
    abbrev stored : ℕ → Ref → Expr → Act → Act
    stored line r e b = eval t v x line e (λ y. place t v x line r (λ c. write c y b))

    unclaused_stored : (line : ℕ) (r : Ref) (e : Expr) (b : Act) → assigned (unclaused t) v x line r e b ≡ stored line r e b
    unfolding assigned
    unclaused_stored line r e b =
        ap (λ (u : Bool). choose u
        (λ _. place (unclaused t) v x line r (λ c. eval (unclaused t) v x line (remainder (operator_at (unclaused t) r) e) (λ y. update c y b)))
        (λ _. eval (unclaused t) v x line e (λ y. place (unclaused t) v x line r (λ c. write c y b))))
        (no_update r e)
        ∙ same_value t v x line e _ ∙ ap (eval t v x line e) (λ i y. same_place t v x line r (λ c. write c y b) i)

    -- an update's line: its reference is read, joined with what the remainder comes to, and the result is written
    added_stored : (line : ℕ) (r q : Ref) (e : Expr) (b : Act) (o : Operator) → repeated o e ≡ some q → alike (show_ref r) (show_ref q) ≡ true
        → is_reduction (find (ref_name r) t).class ≡ true
        → stored line r e b
        ≡ place t v x line r (λ c. read c (λ a. eval t v x line (remainder o e) (λ z. place t v x line r (λ d. write d ((operation o).join a z) b))))
    unfolding eval_factor
    added_stored line r q e b o hs ha hr =
        let k : ℤ → Act = λ y. place t v x line r (λ c. write c y b) in
        let p = alike_aside r q ha in
        let n = not_variable x q (ap (λ (y : List ℕ). is_reduction (find y t).class) (sym (same_name r q p)) ∙ hr) in
        added t v x line (repeats_of o e q hs) k
        ∙ ap (λ (u : Bool). choose u (λ _. eval t v x line (remainder o e) (λ z. k ((operation o).join x z)))
        (λ _. place t v x line q (λ c. read c (λ a. eval t v x line (remainder o e) (λ z. k ((operation o).join a z)))))) n
        ∙ sym (same_place t v x line q _) ∙ alike_place t v x line q r (sym p) _
      where
        same_name : (r q : Ref) → aside_ref r ≡ aside_ref q → ref_name r ≡ ref_name q
        same_name r q p = name_aside r ∙ ap ref_name p ∙ sym (name_aside q)

    assigned_like : (line : ℕ) (r : Ref) (e : Expr) (a b : Act) → Like l l' a b → Like l l' (assigned t v x line r e a) (assigned (unclaused t) v x line r e b)
    unfolding assigned is_update
    assigned_like line r e a b h =
        subst (Like l l' (assigned t v x line r e a)) (sym (unclaused_stored line r e b))
        (choose_each (λ (c : Act). Like l l' c (stored line r e b)) (is_update t r e) _ _
        (λ u. let (hr, hs) = both_true (is_reduction (find (ref_name r) t).class) (same_ref r (repeated o e)) u in
        updating u hr (repeated o e) refl hs)
        (λ _. like_comes l l' (eval t v x line e) (λ m. eval_comes t v x line m e) _ _
        (λ y. like_comes l l' (place t v x line r) (λ m. place_comes t v x line m r) _ _ (λ c. like_write l l' c y a b h))))
      where
        o : Operator
        o = operator_at t r

        -- the cell that is updated, read, and written
        written : Operator → ℕ → Act
        written p c = read c (λ a. eval t v x line (remainder o e) (λ z. place t v x line r (λ d. write d ((operation p).join a z) b)))

        same_operator : is_update t r e ≡ true → (c : ℕ) → Meant t (ref_name r) c → operator (l.class c) ≡ o
        same_operator u c m =
            let (q, k) = update_reduces t r e u in
            ap (λ (f : ℕ → Class). operator (f c)) classes ∙ ap operator (m.updated q k ∙ sym k)

        updating : is_update t r e ≡ true → is_reduction (find (ref_name r) t).class ≡ true → (p : Option Ref) → repeated o e ≡ p → same_ref r p ≡ true
            → Like l l' (place t v x line r (λ c. eval t v x line (remainder o e) (λ y. update c y a))) (stored line r e b)
        updating u hr none es hs = absurd (let z : ◌≡◌ {A = ℕ} 0 1 = cc in omega arith)
        updating u hr (some q) es hs =
            subst (Like l l' (place t v x line r (λ c. eval t v x line (remainder o e) (λ y. update c y a))))
            (place_same t v x line sane filled r (λ c. written (operator (l.class c)) c) (written o) (λ c m. ap (λ (p : Operator). written p c) (same_operator u c m))
            ∙ sym (added_stored line r q e b o es hs hr))
            (like_update l l' (place t v x line r) (eval t v x line (remainder o e)) (λ m. place_comes t v x line m r)
            (λ m. eval_comes t v x line m (remainder o e)) a b h)

    branch_like : (line : ℕ) (a : Expr) (rel : Relation) (b : Expr) (f g f' g' : Act) → Like l l' f f' → Like l l' g g'
        → Like l l' (eval t v x line a (λ y. eval t v x line b (λ z. choose (related rel y z) (λ _. f) (λ _. g))))
        (eval (unclaused t) v x line a (λ y. eval (unclaused t) v x line b (λ z. choose (related rel y z) (λ _. f') (λ _. g'))))
    branch_like line a rel b f g f' g' p q =
        subst (Like l l' (eval t v x line a (λ y. eval t v x line b (λ z. choose (related rel y z) (λ _. f) (λ _. g)))))
        (sym (same_value t v x line a _ ∙ ap (eval t v x line a) (λ i y. same_value t v x line b (λ z. choose (related rel y z) (λ _. f') (λ _. g')) i)))
        (like_comes l l' (eval t v x line a) (λ m. eval_comes t v x line m a) _ _
        (λ y. like_comes l l' (eval t v x line b) (λ m. eval_comes t v x line m b) _ _ (λ z. by_test (related rel y z))))
      where
        by_test : (u : Bool) → Like l l' (choose u (λ _. f) (λ _. g)) (choose u (λ _. f') (λ _. g'))
        by_test true = p
        by_test false = q

    exec_like : (p : Stmts) (a b : Act) → Like l l' a b → Like l l' (exec t v x p a) (exec (unclaused t) v x p b)
    unfolding exec
    exec_like stop a b h = h
    exec_like (set line r e rest) a b h = assigned_like line r e _ _ (exec_like rest a b h)
    exec_like (if_then line c rel d p rest) a b h =
        branch_like line c rel d _ _ _ _ (exec_like p _ _ (exec_like rest a b h)) (exec_like rest a b h)
    exec_like (if_else line c rel d p q rest) a b h =
        branch_like line c rel d _ _ _ _ (exec_like p _ _ (exec_like rest a b h)) (exec_like q _ _ (exec_like rest a b h))

-- ---- the loop

-- the clauses of an accepted text change nothing of its serial run: the same cells, the same fault, the same write counts
pub clauses_aside : (text : List ℕ) (s : State) (m : List ℤ) → accepts text ≡ good s → SerialAlike (loop_of s m) (loop_of (clauseless s) m)
unfolding loop_of pairs written_cells
clauses_aside text s m h =
    let k : 6 ≤ s.stage = leb-true 6 s.stage (accepted_finished text s h) in
    let y = accepted_sane text s h in
    let u = (y.loop (omega arith)).undeclared in
    let f : 0 < cells s.table = y.some_cells (omega arith) in
    let l = loop_of s m in
    let l' = loop_of (clauseless s) m in
    let e = like_serial l l' (λ i. exec_like s.table s.variable y.table f u l l' refl (s.from +ℤ pos i) s.inner done done (like_done l l')) refl refl in
    let n = sym (classify_cells [] s.table) in
    record {
      cells = e.cells;
      outcome = e.outcome;
      pair_count = traced_pairs _ _ e.traced n s.count;
      cell_count = traced_cells _ _ e.traced n;
    }
