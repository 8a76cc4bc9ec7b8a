-- The nested statements of an accepted text, written out, are its lines of statements: what has been met so far, the open ifs included, can be
-- written out after each line, and each line appends what it says. And lines are nested in one way.
use mathlib.Core.Path.{◌≡◌, refl, sym, ◌∙◌, ap, subst}
use mathlib.Core.Bool.{true, false}
use mathlib.Core.List.{List, [], ◌∷◌, ◌++◌, append_assoc, append-nil}
use mathlib.Core.Option.{Option, none, some}
use Prim.Native.Nat.{ℕ, ◌≤◌}
use native.Mathlib.Omega.{arith}
use borrow.Author.Tests.{leb-true, not-true}
use Rattle.syntax.specs.Grammar.{Statement, assign, when, otherwise, end_if, Line, declare, give, direct, loop, inside, end_do, close}
use Rattle.syntax.specs.Known.{Stmts, stop, set, if_then, if_else, then_do, Open, branched, turned, State, nothing, otherwise_after, end_if_after, after}
use Rattle.syntax.specs.Conditions.{is_given, else_fits, none_open, fits, stage_of, stands}
use Rattle.syntax.specs.Follows.{Program, InOrder, Follows, learnt}
use Rattle.syntax.specs.Nesting.{BodyLine, assign_line, if_line, else_line, end_if_line, written_out, body_line, in_body, body_lines}
use Rattle.syntax.specs.Sane.{Sane}
use Rattle.syntax.proofs.Order.{in_place, before_body}
use Rattle.syntax.proofs.Sane.{after_sane, nothing_sane, learnt_sane, learnt_finished}

-- ---- what is written out so far

-- of an open `if`: its line, and its first part once `else` was met
abbrev opening : Open → BodyLine
opening o = if_line o.line o.left o.relation o.right

abbrev turned_part : Option Stmts → List BodyLine
turned_part none = []
turned_part (some p) = written_out p ++ else_line ∷ []

-- the open ifs, the innermost first, and the statements so far of the part that the innermost is in
abbrev so_far : List Open → Stmts → List BodyLine
so_far [] b = written_out b
so_far (o ∷ os) b = so_far os o.before ++ opening o ∷ (turned_part o.first ++ written_out b)

then_do_written : (a b : Stmts) → written_out (then_do a b) ≡ written_out a ++ written_out b
unfolding then_do written_out
then_do_written stop b = refl
then_do_written (set k r e a) b = ap (◌∷◌ (assign_line k r e)) (then_do_written a b)
then_do_written (if_then k x rel y p a) b = rw (then_do_written a b) simp append_assoc
then_do_written (if_else k x rel y p q a) b = rw (then_do_written a b) simp append_assoc

so_far_then : (os : List Open) (a b : Stmts) → so_far os (then_do a b) ≡ so_far os a ++ written_out b
so_far_then [] a b = then_do_written a b
so_far_then (o ∷ os) a b = rw (then_do_written a b) simp append_assoc

-- ---- each line

otherwise_written : (s : State) (os : List Open) → else_fits os ≡ true
    → so_far (otherwise_after s os).opens (otherwise_after s os).inner ≡ so_far os s.inner ++ else_line ∷ []
unfolding written_out
otherwise_written s [] h = let z : ◌≡◌ {A = ℕ} 0 1 = cc in absurd (omega arith)
otherwise_written s (o ∷ os) h = go o.first (not-true (is_given o.first) h)
  where
    go : (f : Option Stmts) → is_given f ≡ false
        → so_far (turned o s.inner ∷ os) stop
        ≡ (so_far os o.before ++ opening o ∷ (turned_part f ++ written_out s.inner)) ++ else_line ∷ []
    go none e = simp append_assoc
    go (some p) e = let z : ◌≡◌ {A = ℕ} 0 1 = cc in absurd (omega arith)

end_if_written : (s : State) (os : List Open) → none_open os ≡ false
    → so_far (end_if_after s os).opens (end_if_after s os).inner ≡ so_far os s.inner ++ end_if_line ∷ []
unfolding written_out
end_if_written s [] h = let z : ◌≡◌ {A = ℕ} 0 1 = cc in absurd (omega arith)
end_if_written s (o ∷ os) h = so_far_then os o.before (branched o o.first s.inner) ∙ go o.first
  where
    go : (f : Option Stmts) → so_far os o.before ++ written_out (branched o f s.inner)
        ≡ (so_far os o.before ++ opening o ∷ (turned_part f ++ written_out s.inner)) ++ end_if_line ∷ []
    go none = simp append_assoc
    go (some p) = simp append_assoc

statement_written : (k : ℕ) (t : Statement) (s : State) → fits s.opens (inside t) ≡ true
    → so_far (after k (inside t) s).opens (after k (inside t) s).inner ≡ so_far s.opens s.inner ++ body_line (k, t) ∷ []
unfolding after written_out
statement_written k (assign r e) s h = so_far_then s.opens s.inner (set k r e stop)
statement_written k (when a rel b) s h = refl
statement_written k otherwise s h = otherwise_written s s.opens h
statement_written k (end_if j) s h = end_if_written s s.opens (not-true (none_open s.opens) h)

none_so_far : (l : Line) (s : State) → stands s l ≡ true → Sane s → stage_of l ≤ 4 → ◌≡◌ {A = List BodyLine} [] (so_far s.opens s.inner ++ [])
unfolding written_out
none_so_far l s a h n = let (p, q) = h.none_yet (before_body l s a n) in rw (p, q)

line_written : (k : ℕ) (l : Line) (s : State) → stands s l ≡ true → Sane s
    → so_far (after k l s).opens (after k l s).inner ≡ so_far s.opens s.inner ++ in_body (k, l)
unfolding after written_out
line_written k (declare d ds) s a h = none_so_far (declare d ds) s a h (omega arith)
line_written k (give x i is) s a h = none_so_far (give x i is) s a h (omega arith)
line_written k (direct cs) s a h = none_so_far (direct cs) s a h (omega arith)
line_written k (loop v l m j n) s a h = none_so_far (loop v l m j n) s a h (omega arith)
line_written k (inside t) s a h = statement_written k t s (in_place (inside t) s a).1
line_written k (end_do j) s a h = sym (append-nil _)
line_written k close s a h = sym (append-nil _)

-- ---- whole texts

learnt_written : (s : State) (p : Program) → InOrder s p → Sane s
    → so_far (learnt s p).opens (learnt s p).inner ≡ so_far s.opens s.inner ++ body_lines p
unfolding learnt body_lines
learnt_written s [] o h = sym (append-nil _)
learnt_written s ((k, l) ∷ p) o h =
    learnt_written (after k l s) p o.3 (after_sane k l s o.0 o.1 o.2 h)
    ∙ ap (λ (b : List BodyLine). b ++ body_lines p) (line_written k l s o.0 h)
    ∙ append_assoc (so_far s.opens s.inner) (in_body (k, l)) (body_lines p)

pub nested_written : (text : List ℕ) (p : Program) → Follows text p → written_out (learnt nothing p).inner ≡ body_lines p
unfolding written_out
nested_written text p f =
    let t = learnt nothing p in
    let h = learnt_sane nothing p f.ordered nothing_sane in
    let o : t.opens ≡ [] = h.none_open (leb-true 6 t.stage (learnt_finished nothing p f.ordered)) in
    let e = learnt_written nothing p f.ordered nothing_sane in
    rw o at e

-- ---- lines are nested in one way

-- what ends a part
abbrev Ending : List BodyLine → Type 0
Ending [] = Unit {0}
Ending (assign_line k r e ∷ ls) = ⊥
Ending (if_line k a rel b ∷ ls) = ⊥
Ending (else_line ∷ ls) = Unit {0}
Ending (end_if_line ∷ ls) = Unit {0}

tail_same : {A : Type 0} {x y : A} {xs ys : List A} → x ∷ xs ≡ y ∷ ys → xs ≡ ys
tail_same {x} {y} {xs} {ys} h = cc

-- a part after a line
in_part : {A : Type 0} (c r x c' r' x' : List A) {i i' : A} → i ∷ ((c ++ r) ++ x) ≡ i' ∷ ((c' ++ r') ++ x') → c ++ (r ++ x) ≡ c' ++ (r' ++ x')
in_part c r x c' r' x' h = sym (append_assoc c r x) ∙ tail_same h ∙ append_assoc c' r' x'

-- a part and what follows it, up to where it ends
parted : (a b : Stmts) (x y : List BodyLine) → Ending x → Ending y → written_out a ++ x ≡ written_out b ++ y → (a ≡ b) × (x ≡ y)
unfolding written_out
parted stop stop x y p q h = (refl, h)
parted stop (set k r e b) x y p q h = absurd (subst Ending h p)
parted stop (if_then k l rel m c b) x y p q h = absurd (subst Ending h p)
parted stop (if_else k l rel m c d b) x y p q h = absurd (subst Ending h p)
parted (set k r e a) stop x y p q h = absurd (subst Ending (sym h) q)
parted (if_then k l rel m c a) stop x y p q h = absurd (subst Ending (sym h) q)
parted (if_else k l rel m c d a) stop x y p q h = absurd (subst Ending (sym h) q)
parted (set k r e a) (set k' r' e' b) x y p q h =
    let (f, g) = parted a b x y p q (tail_same h) in
    let u : assign_line k r e ≡ assign_line k' r' e' = cc in
    (cc, g)
parted (set k r e a) (if_then k' l' rel' m' c' b) x y p q h = let z : ◌≡◌ {A = ℕ} 0 1 = cc in absurd (omega arith)
parted (set k r e a) (if_else k' l' rel' m' c' d' b) x y p q h = let z : ◌≡◌ {A = ℕ} 0 1 = cc in absurd (omega arith)
parted (if_then k l rel m c a) (set k' r' e' b) x y p q h = let z : ◌≡◌ {A = ℕ} 0 1 = cc in absurd (omega arith)
parted (if_else k l rel m c d a) (set k' r' e' b) x y p q h = let z : ◌≡◌ {A = ℕ} 0 1 = cc in absurd (omega arith)
parted (if_then k l rel m c a) (if_then k' l' rel' m' c' b) x y p q h =
    let (f, g) = parted c c' _ _ tt tt (in_part (written_out c) _ x (written_out c') _ y h) in
    let (i, j) = parted a b x y p q (tail_same g) in
    let u : if_line k l rel m ≡ if_line k' l' rel' m' = cc in
    (cc, j)
parted (if_then k l rel m c a) (if_else k' l' rel' m' c' d' b) x y p q h =
    let (f, g) = parted c c' _ _ tt tt (in_part (written_out c) _ x (written_out c') _ y h) in
    let z : ◌≡◌ {A = ℕ} 0 1 = cc in
    absurd (omega arith)
parted (if_else k l rel m c d a) (if_then k' l' rel' m' c' b) x y p q h =
    let (f, g) = parted c c' _ _ tt tt (in_part (written_out c) _ x (written_out c') _ y h) in
    let z : ◌≡◌ {A = ℕ} 0 1 = cc in
    absurd (omega arith)
parted (if_else k l rel m c d a) (if_else k' l' rel' m' c' d' b) x y p q h =
    let (f, g) = parted c c' _ _ tt tt (in_part (written_out c) _ x (written_out c') _ y h) in
    let (i, j) = parted d d' _ _ tt tt (in_part (written_out d) _ x (written_out d') _ y g) in
    let (s, t) = parted a b x y p q (tail_same j) in
    let u : if_line k l rel m ≡ if_line k' l' rel' m' = cc in
    (cc, t)

pub nested_once : (a b : Stmts) → written_out a ≡ written_out b → a ≡ b
nested_once a b h = (parted a b [] [] tt tt (ap (λ (ls : List BodyLine). ls ++ []) h)).0
