-- The data lines of an accepted text give no cell data twice, and so give data to no more cells than there are.
use mathlib.Core.Path.{◌≡◌, refl, ap}
use mathlib.Core.Bool.{Bool, true, false, cond, not}
use mathlib.Core.List.{List, [], ◌∷◌, ◌++◌, map}
use mathlib.Core.Option.{some}
use Prim.Native.Nat.{ℕ, ◌+◌, ◌≤◌}
use native.Mathlib.Omega.{arith}
use lib.IntN.{ℤ}
use borrow.Author.Tests.{eqb-true, not-true}
use Rattle.syntax.specs.Bytes.{all}
use Rattle.syntax.specs.Grammar.{Clause, assign, when, otherwise, end_if, Line, declare, give, direct, loop, inside, end_do, close}
use Rattle.syntax.specs.Known.{Entry, named, find, total, cells, State, Open, copies, values, give_to, classify, entries, after, otherwise_after, end_if_after, known}
use Rattle.syntax.specs.Conditions.{in_line, rightly, is_given, names}
use Rattle.syntax.specs.Follows.{Program, InOrder, learnt}
use Rattle.syntax.proofs.Spelling.{both_true}
use Rattle.syntax.proofs.TestLaws.{cond_each}
use Rattle.syntax.proofs.TableLines.{total_append}

-- how many cells a line gives data
unfoldable pub data_copies : Line → ℕ
data_copies (declare d ds) = 0
data_copies (give x i is) = total copies (i ∷ is)
data_copies (direct cs) = 0
data_copies (loop v l m k n) = 0
data_copies (inside t) = 0
data_copies (end_do j) = 0
data_copies close = 0

unfoldable pub filled_cells : List Entry → ℕ
filled_cells t = total (λ e. cond (is_given e.given) e.size 0) t

pub filled_few : (t : List Entry) → filled_cells t ≤ cells t
unfolding filled_cells
filled_few [] = omega arith
filled_few (e ∷ es) =
    let i = filled_few es in
    cond_each (λ (n : ℕ). n + filled_cells es ≤ e.size + cells es) (is_given e.given) (omega arith) (omega arith)

filled_append : (a b : List Entry) → filled_cells a ≤ filled_cells (a ++ b)
unfolding filled_cells
filled_append a b = omega (arith, total_append (λ e. cond (is_given e.given) e.size 0) a b)

filled_classify : (cs : List Clause) (t : List Entry) → filled_cells (map (classify cs) t) ≡ filled_cells t
unfolding filled_cells
filled_classify cs [] = refl
filled_classify cs (e ∷ es) = ap (λ (n : ℕ). cond (is_given e.given) e.size 0 + n) (filled_classify cs es)

filled_grows : (x : List ℕ) (vs : List ℤ) (t : List Entry) → filled_cells t ≤ filled_cells (map (give_to x vs) t)
unfolding filled_cells
filled_grows x vs [] = omega arith
filled_grows x vs (e ∷ es) = go (named x e) (is_given e.given) refl (filled_grows x vs es)
  where
    to : Entry
    to = record { name = e.name; first = e.first; extents = e.extents; size = e.size; class = e.class; given = some vs }

    go : (c g : Bool) → is_given e.given ≡ g → filled_cells es ≤ filled_cells (map (give_to x vs) es)
        → cond g e.size 0 + filled_cells es ≤ cond (is_given (cond c to e).given) (cond c to e).size 0 + filled_cells (map (give_to x vs) es)
    go true true q h = omega arith
    go true false q h = omega arith
    go false true q h = rw q (omega arith)
    go false false q h = rw q (omega arith)

filled_give : (x : List ℕ) (vs : List ℤ) (t : List Entry) → is_given (find x t).given ≡ false
    → filled_cells t + (find x t).size ≤ filled_cells (map (give_to x vs) t)
unfolding filled_cells find
filled_give x vs [] h = omega arith
filled_give x vs (e ∷ es) h = go (named x e) h (filled_give x vs es)
  where
    to : Entry
    to = record { name = e.name; first = e.first; extents = e.extents; size = e.size; class = e.class; given = some vs }

    go : (c : Bool) → is_given (cond c e (find x es)).given ≡ false
        → (is_given (find x es).given ≡ false → filled_cells es + (find x es).size ≤ filled_cells (map (give_to x vs) es))
        → (cond (is_given e.given) e.size 0 + filled_cells es) + (cond c e (find x es)).size
        ≤ cond (is_given (cond c to e).given) (cond c to e).size 0 + filled_cells (map (give_to x vs) es)
    go true q ih = rw q (omega (arith, filled_grows x vs es))
    go false q ih = omega (arith, ih q)

filled_after : (k : ℕ) (l : Line) (s : State) → names s l ≡ true → filled_cells s.table + data_copies l ≤ filled_cells (after k l s).table
unfolding after names data_copies
filled_after k (declare d ds) s h = omega (arith, filled_append s.table (entries (cells s.table) (d ∷ ds)))
filled_after k (give x i is) s h =
    let (a, b) = both_true (all (rightly s.table s.variable) (in_line (give x i is))) _ h in
    let (c, d) = both_true (known x s.table) _ b in
    let (e, f) = both_true (not (is_given (find x s.table).given)) _ d in
    omega (arith, filled_give x (values (i ∷ is)) s.table (not-true _ e), eqb-true (total copies (i ∷ is)) _ f)
filled_after k (direct cs) s h = omega (arith, filled_classify cs s.table)
filled_after k (loop v l m j n) s h = omega arith
filled_after k (inside (assign r e)) s h = omega arith
filled_after k (inside (when a r b)) s h = omega arith
filled_after k (inside otherwise) s h = go s.opens
  where
    go : (os : List Open) → filled_cells s.table + 0 ≤ filled_cells (otherwise_after s os).table
    go [] = omega arith
    go (o ∷ os) = omega arith
filled_after k (inside (end_if j)) s h = go s.opens
  where
    go : (os : List Open) → filled_cells s.table + 0 ≤ filled_cells (end_if_after s os).table
    go [] = omega arith
    go (o ∷ os) = omega arith
filled_after k (end_do j) s h = omega arith
filled_after k close s h = omega arith

pub filled_learnt : (s : State) (p : Program) → InOrder s p
    → filled_cells s.table + total (λ q. data_copies q.1) p ≤ filled_cells (learnt s p).table
unfolding learnt
filled_learnt s [] o = omega arith
filled_learnt s ((k, l) ∷ p) o = omega (arith, filled_after k l s o.1, filled_learnt (after k l s) p o.3)
