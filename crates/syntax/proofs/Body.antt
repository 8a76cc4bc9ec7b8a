-- The lines of statements in an accepted text are those between `do` and `end do`: by the order of lines.
use mathlib.Core.Path.{◌≡◌, refl, ap}
use mathlib.Core.List.{List, [], ◌∷◌, ◌++◌, map}
use Prim.Native.Nat.{ℕ, ◌≤◌, ◌<◌}
use native.Mathlib.Omega.{arith}
use borrow.Author.Tests.{leb-true}
use Rattle.syntax.specs.Grammar.{Statement, Line, declare, give, direct, loop, inside, end_do, close}
use Rattle.syntax.specs.Known.{State, nothing, after}
use Rattle.syntax.specs.Conditions.{stage_of}
use Rattle.syntax.specs.Follows.{Program, InOrder, Follows}
use Rattle.syntax.specs.Nesting.{body_line, in_body, body_lines, as_line, Framed}
use Rattle.syntax.proofs.Accepted.{stage_after}
use Rattle.syntax.proofs.Order.{follows_order, follows_next, in_place, before_body}

-- ---- after `end do`

not_inside : (k : ℕ) (l : Line) → 6 ≤ stage_of l → in_body (k, l) ≡ []
not_inside k (declare d ds) h = refl
not_inside k (give x i is) h = refl
not_inside k (direct cs) h = refl
not_inside k (loop v l m j n) h = refl
not_inside k (inside t) h = absurd (omega arith)
not_inside k (end_do j) h = refl
not_inside k close h = refl

none_after : (s : State) (p : Program) → InOrder s p → 6 ≤ s.stage → body_lines p ≡ []
unfolding body_lines
none_after s [] o h = refl
none_after s ((k, l) ∷ p) o h =
    let f = (follows_order s.stage (stage_of l) (in_place l s o.0).0).0 in
    rw (not_inside k l (omega arith)) (none_after (after k l s) p o.3 (omega (arith, stage_after k l s)))

-- ---- after `do`: what is left of the text
record Left (p : Program) : Type 0 where
  statements : List (ℕ × Statement)
  end_line : ℕ × Line
  back : Program
  ends : stage_of end_line.1 ≡ 6
  whole : p ≡ map as_line statements ++ end_line ∷ back
  said : body_lines p ≡ map body_line statements

up_to_end : (s : State) (p : Program) → InOrder s p → 4 ≤ s.stage → s.stage ≤ 5 → Left p
unfolding body_lines after
up_to_end s [] o h e = absurd (omega (arith, leb-true 6 s.stage o))
up_to_end s ((k, inside t) ∷ p) o h e =
    let r = up_to_end (after k (inside t) s) p o.3 (omega (arith, stage_after k (inside t) s)) (omega (arith, stage_after k (inside t) s)) in
    record {
      statements = (k, t) ∷ r.statements;
      end_line = r.end_line;
      back = r.back;
      ends = r.ends;
      whole = ap (◌∷◌ (k, inside t)) r.whole;
      said = ap (◌∷◌ (body_line (k, t))) r.said;
    }
up_to_end s ((k, end_do j) ∷ p) o h e = record {
  statements = [];
  end_line = (k, end_do j);
  back = p;
  ends = refl;
  whole = refl;
  said = none_after (after k (end_do j) s) p o.3 (omega arith);
}
up_to_end s ((k, declare d ds) ∷ p) o h e = absurd (omega (arith, before_body (declare d ds) s o.0 (omega arith)))
up_to_end s ((k, give x i is) ∷ p) o h e = absurd (omega (arith, before_body (give x i is) s o.0 (omega arith)))
up_to_end s ((k, direct cs) ∷ p) o h e = absurd (omega (arith, before_body (direct cs) s o.0 (omega arith)))
up_to_end s ((k, loop v l m j n) ∷ p) o h e = absurd (omega (arith, before_body (loop v l m j n) s o.0 (omega arith)))
up_to_end s ((k, close) ∷ p) o h e = absurd (omega (arith, follows_next s.stage 6 (in_place close s o.0).0 refl))

-- ---- before `do`

abbrev Found : Program → Type 0
Found p = (b : List (ℕ × Statement)) × Framed p b × (body_lines p ≡ map body_line b)

one_before : (q : ℕ × Line) (p : Program) → in_body q ≡ [] → Found p → Found (q ∷ p)
unfolding body_lines
one_before q p n (b, h, e) =
    let r : Framed (q ∷ p) b = record {
      front = q ∷ h.front;
      do_line = h.do_line;
      end_line = h.end_line;
      back = h.back;
      begins = h.begins;
      ends = h.ends;
      whole = ap (◌∷◌ q) h.whole;
    } in
    (b, r, rw n e)

up_to_do : (s : State) (p : Program) → InOrder s p → s.stage < 4 → Found p
unfolding after body_lines
up_to_do s [] o h = absurd (omega (arith, leb-true 6 s.stage o))
up_to_do s ((k, declare d ds) ∷ p) o h = one_before (k, declare d ds) p refl (up_to_do (after k (declare d ds) s) p o.3 (omega arith))
up_to_do s ((k, give x i is) ∷ p) o h = one_before (k, give x i is) p refl (up_to_do (after k (give x i is) s) p o.3 (omega arith))
up_to_do s ((k, direct cs) ∷ p) o h = one_before (k, direct cs) p refl (up_to_do (after k (direct cs) s) p o.3 (omega arith))
up_to_do s ((k, loop v l m j n) ∷ p) o h =
    let r = up_to_end (after k (loop v l m j n) s) p o.3 (omega arith) (omega arith) in
    let b : Framed ((k, loop v l m j n) ∷ p) r.statements = record {
      front = [];
      do_line = (k, loop v l m j n);
      end_line = r.end_line;
      back = r.back;
      begins = refl;
      ends = r.ends;
      whole = ap (◌∷◌ (k, loop v l m j n)) r.whole;
    } in
    (r.statements, b, r.said)
up_to_do s ((k, inside t) ∷ p) o h = absurd (omega (arith, follows_next s.stage 4 (in_place (inside t) s o.0).0 refl))
up_to_do s ((k, end_do j) ∷ p) o h = absurd (omega (arith, (follows_order s.stage 6 (in_place (end_do j) s o.0).0).1))
up_to_do s ((k, close) ∷ p) o h = absurd (omega (arith, follows_next s.stage 6 (in_place close s o.0).0 refl))

pub body_found : (text : List ℕ) (p : Program) → Follows text p → (b : List (ℕ × Statement)) × Framed p b × (body_lines p ≡ map body_line b)
body_found text p f = up_to_do nothing p f.ordered (omega arith)
