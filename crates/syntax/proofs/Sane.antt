-- What the lines of an accepted text have made known is sane: the invariant that each good line keeps.
use mathlib.Core.Path.{◌≡◌, refl, subst}
use mathlib.Core.Bool.{true, ◌&&◌}
use mathlib.Core.List.{List, [], ◌∷◌}
use Prim.Native.Nat.{ℕ, suc, ◌≤◌, ◌<◌}
use native.Mathlib.Omega.{arith}
use lib.Dec.{leb, eqb}
use lib.ListN.{length, length-append}
use borrow.Author.Tests.{leb-true, eqb-true, not-true}
use Rattle.rules.specs.declared.Grouping.{Grouping}
use Rattle.rules.specs.declared.Grouping.TheVariants.{Iterations}
use Rattle.syntax.specs.Bytes.{all, between}
use Rattle.syntax.specs.Grammar.{number, Lead, Statement, assign, when, otherwise, end_if, Line, declare, give, direct, loop, inside, end_do, close}
use Rattle.syntax.specs.Known.{Entry, cells, values, closed, turned, opened, Stmts, heading, signed, iterations, stop, set, Open, State, nothing, then_do, otherwise_after, end_if_after, stating, threads_in, statics_in, grouping_by, processors_by, after}
use Rattle.syntax.specs.Conditions.{digits, in_line, names, small, limits, stands, finished, none_open}
use Rattle.syntax.specs.Text.{read, good}
use Rattle.syntax.specs.Follows.{Program, InOrder, learnt}
use Rattle.syntax.specs.Sane.{Each, SaneTable, SaneLine, SaneStmts, SaneOpen, Sane}
use Rattle.syntax.proofs.Spelling.{both_true}
use Rattle.syntax.proofs.Order.{follows_order, follows_next, in_place}
use Rattle.syntax.proofs.Table.{cells_filled}
use Rattle.syntax.proofs.TableLines.{declare_sane, give_sane, give_cells, classify_sane, classify_cells}
use Rattle.syntax.proofs.LoopValues.{signed_size, iteration_fits}
use Rattle.syntax.proofs.Statements.{line_sane, then_do_sane, closed_sane, turned_sane}
use Rattle.syntax.proofs.Accepted.{read_sound}

-- ---- each line

heading_sane : (j : ℕ) (t : List Entry) (p : ℕ) (g : Grouping) → j < 4 → SaneTable t → 0 < cells t → (3 ≤ j → (1 ≤ p) × (p ≤ 8))
    → Sane (heading j t p g)
heading_sane j t p g h k c f = record {
  table = k;
  some_cells = λ _. c;
  some_processors = λ a. (f a).0;
  few_processors = λ a. (f a).1;
  loop = λ a. absurd (omega arith);
  none_yet = λ _. (refl, refl);
  none_open = λ a. absurd (omega arith);
}

stating_sane : (j : ℕ) (s : State) (os : List Open) (b : Stmts) → Sane s → 4 ≤ s.stage → 4 ≤ j → SaneStmts s.table s.variable b
    → Each (SaneOpen s.table s.variable) os → length os ≤ 8 → (6 ≤ j → os ≡ [])
    → Sane (stating j s os b)
stating_sane j s os b h k l x y n c =
    let q = h.loop k in
    record {
      table = h.table;
      some_cells = λ _. h.some_cells (omega arith);
      some_processors = λ _. h.some_processors (omega arith);
      few_processors = λ _. h.few_processors (omega arith);
      loop = λ _. record {
        undeclared = q.undeclared;
        few_iterations = q.few_iterations;
        from_small = q.from_small;
        values_fit = q.values_fit;
        statements = x;
        opens = y;
        few_opens = n;
      };
      none_yet = λ a. absurd (omega arith);
      none_open = c;
    }

loop_sane : (s : State) (v : List ℕ) (l : Lead) (m : List ℕ) (k : Lead) (n : List ℕ) (j : ℕ) → stands s (loop v l m k n) ≡ true
    → names s (loop v l m k n) ≡ true → limits s (loop v l m k n) ≡ true → Sane s → Sane (after j (loop v l m k n) s)
unfolding names limits in_line after
loop_sane s v l m k n j a b c h =
    let (p, q) = both_true (all small (digits m ∷ digits n ∷ [])) (leb (iterations (signed l (number m)) (signed k (number n))) 65535) c in
    let (x, y) = both_true (small (digits m)) (small (digits n) && true) p in
    let o : 3 ≤ s.stage = follows_next s.stage 3 (in_place (loop v l m k n) s a).0 refl in
    let x' = leb-true (number m) 2147483647 x in
    let y' = leb-true (number n) 2147483647 (both_true (small (digits n)) true y).0 in
    record {
      table = h.table;
      some_cells = λ _. h.some_cells (omega arith);
      some_processors = λ _. h.some_processors o;
      few_processors = λ _. h.few_processors o;
      loop = λ _. record {
        undeclared = not-true _ (both_true true _ b).1;
        few_iterations = leb-true _ _ q;
        from_small = omega (arith, signed_size l (number m));
        values_fit = λ i. iteration_fits i l k (number m) (number n) x' y';
        statements = tt;
        opens = tt;
        few_opens = omega arith;
      };
      none_yet = λ e. absurd (omega arith);
      none_open = λ e. absurd (omega arith);
    }

module _ (k : ℕ) (s : State) (h : Sane s) (stood : 4 ≤ s.stage) where
  stated : (os : List Open) (b : Stmts) → SaneStmts s.table s.variable b → Each (SaneOpen s.table s.variable) os → length os ≤ 8
      → Sane (stating 5 s os b)
  stated os b x y n = stating_sane 5 s os b h stood (omega arith) x y n (λ c. absurd (omega arith))

  otherwise_sane : (os : List Open) → Each (SaneOpen s.table s.variable) os → length os ≤ 8 → Sane (otherwise_after s os)
  otherwise_sane [] y n = stated [] s.inner (h.loop stood).statements y n
  otherwise_sane (o ∷ os) y n = stated (turned o s.inner ∷ os) stop tt (turned_sane _ _ o s.inner y.0 (h.loop stood).statements, y.1) n

  end_if_sane : (os : List Open) → Each (SaneOpen s.table s.variable) os → length os ≤ 8 → Sane (end_if_after s os)
  end_if_sane [] y n = stated [] s.inner (h.loop stood).statements y n
  end_if_sane (o ∷ os) y n = stated os (closed o s.inner) (closed_sane _ _ o s.inner y.0 (h.loop stood).statements) y.1 (omega arith)

  statement_sane : (t : Statement) → SaneLine s.table s.variable t → limits s (inside t) ≡ true → Sane (after k (inside t) s)
  unfolding after limits
  statement_sane (assign r e) q l =
      let b = set k r e stop in
      stated s.opens (then_do s.inner b) (then_do_sane _ _ s.inner b (h.loop stood).statements (q, tt)) (h.loop stood).opens
      (h.loop stood).few_opens
  statement_sane (when a rel b) q l =
      stated (opened k a rel b s.inner ∷ s.opens) stop tt
      (record { condition = q; before = (h.loop stood).statements; first = tt }, (h.loop stood).opens)
      (leb-true _ 8 (both_true (all small (in_line (inside (when a rel b)))) (leb (suc (length s.opens)) 8) l).1)
  statement_sane otherwise q l = otherwise_sane s.opens (h.loop stood).opens (h.loop stood).few_opens
  statement_sane (end_if j) q l = end_if_sane s.opens (h.loop stood).opens (h.loop stood).few_opens

none_open_nil : (os : List Open) → none_open os ≡ true → os ≡ []
none_open_nil [] h = refl
none_open_nil (o ∷ os) h = let z : ◌≡◌ {A = ℕ} 0 1 = cc in absurd (omega arith)

-- lines that end the loop
ending_sane : (j : ℕ) (s : State) → Sane s → 4 ≤ s.stage → 4 ≤ j → s.opens ≡ [] → Sane (stating j s s.opens s.inner)
ending_sane j s h k l e = let q = h.loop k in stating_sane j s s.opens s.inner h k l q.statements q.opens q.few_opens (λ _. e)

-- `num_threads` stands once, within its limits
one_thread : (ps : List (List ℕ)) → length ps ≡ 1 → all (λ p. between 1 8 (number p)) ps ≡ true → (1 ≤ processors_by ps) × (processors_by ps ≤ 8)
one_thread [] e h = absurd (omega arith)
one_thread (p ∷ ps) e h =
    let (u, v) = both_true (leb 1 (number p)) (leb (number p) 8) (both_true (between 1 8 (number p)) _ h).0 in (leb-true _ _ u, leb-true _ _ v)

pub after_sane : (k : ℕ) (l : Line) (s : State) → stands s l ≡ true → names s l ≡ true → limits s l ≡ true → Sane s → Sane (after k l s)
unfolding limits after
after_sane k (declare d ds) s a n l h =
    let t = declare_sane s d ds n l h.table in
    heading_sane 1 _ 0 Iterations (omega arith) t (cells_filled _ t (rw (length-append s.table) (omega arith))) (λ e. absurd (omega arith))
after_sane k (give x i is) s a n l h =
    let p : 1 ≤ s.stage = follows_next s.stage 1 (in_place (give x i is) s a).0 refl in
    heading_sane 2 _ 0 Iterations (omega arith) (give_sane s x i is n l h.table) (rw (give_cells x (values (i ∷ is)) s.table) (h.some_cells p))
    (λ e. absurd (omega arith))
after_sane k (direct cs) s a n l h =
    let (f, o) = in_place (direct cs) s a in
    let q = (follows_order s.stage 3 f).1 in
    heading_sane 3 _ (processors_by (threads_in cs)) (grouping_by (statics_in cs)) (omega arith) (classify_sane cs s.table h.table)
    (rw (classify_cells cs s.table) (h.some_cells (omega arith)))
    (λ _. one_thread (threads_in cs) (eqb-true (length (threads_in cs)) 1 (both_true (eqb (length (threads_in cs)) 1) _ o).0)
    (both_true (all small (in_line (direct cs))) _ l).1)
after_sane k (loop v l m j n) s a b c h = loop_sane s v l m j n k a b c h
after_sane k (inside t) s a n l h =
    statement_sane k s h (follows_next s.stage 4 (in_place (inside t) s a).0 refl) t (line_sane s t n l) l
after_sane k (end_do j) s a n l h =
    let (p, q) = in_place (end_do j) s a in
    ending_sane 6 s h (omega (arith, (follows_order s.stage 6 p).1)) (omega arith) (none_open_nil s.opens q)
after_sane k close s a n l h =
    let p : 6 ≤ s.stage = follows_next s.stage 6 (in_place close s a).0 refl in
    ending_sane 7 s h (omega arith) (omega arith) (h.none_open p)

-- ---- whole texts

pub nothing_sane : Sane nothing
nothing_sane = record {
  table = record { laid = tt; sized = tt; apart = refl; few_names = omega arith; few_cells = omega arith };
  some_cells = λ e. absurd (omega arith);
  some_processors = λ e. absurd (omega arith);
  few_processors = λ e. absurd (omega arith);
  loop = λ e. absurd (omega arith);
  none_yet = λ _. (refl, refl);
  none_open = λ e. absurd (omega arith);
}

pub learnt_sane : (s : State) (p : Program) → InOrder s p → Sane s → Sane (learnt s p)
unfolding learnt
learnt_sane s [] o h = h
learnt_sane s ((k, l) ∷ p) o h = learnt_sane (after k l s) p o.3 (after_sane k l s o.0 o.1 o.2 h)

pub learnt_finished : (s : State) (p : Program) → InOrder s p → finished (learnt s p).stage ≡ true
unfolding learnt
learnt_finished s [] o = o
learnt_finished s ((k, l) ∷ p) o = learnt_finished (after k l s) p o.3

pub accepted_sane : (text : List ℕ) (s : State) → read text ≡ good s → Sane s
accepted_sane text s h = let (p, f, e) = read_sound text s h in subst Sane e (learnt_sane nothing p f.ordered nothing_sane)

pub accepted_finished : (text : List ℕ) (s : State) → read text ≡ good s → finished s.stage ≡ true
accepted_finished text s h = let (p, f, e) = read_sound text s h in subst (λ t. finished t.stage ≡ true) e (learnt_finished nothing p f.ordered)
