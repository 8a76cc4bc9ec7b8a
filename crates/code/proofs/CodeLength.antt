-- A line adds at most as many instructions as it has tokens, so the code of an accepted text has at most as many instructions as the text bytes.
use mathlib.Core.Path.{◌≡◌, refl}
use mathlib.Core.Bool.{Bool, true, false, cond}
use mathlib.Core.List.{List, [], ◌∷◌, ◌++◌}
use Prim.Native.Nat.{ℕ, suc, ◌+◌, ◌≤◌}
use native.Mathlib.Omega.{arith}
use lib.ListN.{length, length-append, length-set}
use Rattle.int32.specs.declared.Relation.{Relation}
use Rattle.rules.specs.declared.Operator.{Operator}
use Rattle.rules.specs.declared.Operator.TheVariants.{Sum, Product, Maximum}
use Rattle.syntax.specs.declared.Function.TheVariants.{Rdiv, Max}
use Rattle.syntax.specs.Bytes.{bytes, Token, sign}
use Rattle.syntax.specs.Grammar.{Lead, bare, plus, minus, Expr, expr, Terms, no_terms, terms, Term, term, Factors, no_factors, factors, Factor, literal, cell, call, brackets, Ref, single, element, Subscripts, subscript, subscripts, sg, show_lead, show, show_terms, show_term, show_factors, show_factor, show_ref, show_subscripts, Statement, assign, when, otherwise, end_if, Line, declare, give, direct, loop, inside, end_do, close, show_line}
use Rattle.syntax.specs.Known.{Entry, find, total, State, nothing, after}
use Rattle.syntax.specs.Meaning.{operator_at, is_update, remainder}
use Rattle.syntax.specs.Conditions.{stands}
use Rattle.syntax.specs.Text.{read, good}
use Rattle.syntax.specs.Follows.{Program, InOrder, learnt}
use Rattle.syntax.proofs.Theorem.{accepted_sound}
use Rattle.syntax.proofs.TokenCount.{follows_length}
use Rattle.syntax.proofs.TestLaws.{cond_each}
use Rattle.code.specs.Instr.{Instr}
use Rattle.code.specs.Compile.{code_lead, code, code_terms, code_term, code_factors, code_factor, code_ref, code_subscripts, checks, code_assign, code_if, code_stmts, code_opens, code_lines, code_of}
use Rattle.code.proofs.Emitted.{innermost_places, end_if_innermost, otherwise_innermost, emits_assign, emits_when, emits_otherwise, emits_end_if}

lead_length : (l : Lead) → length (code_lead l) ≤ length (show_lead l)
lead_length bare = omega arith
lead_length plus = omega arith
lead_length minus = omega arith

sign_length : (o : Bool) (a b : Token) → length (cond o (a ∷ []) (b ∷ [])) ≡ 1
sign_length true a b = refl
sign_length false a b = refl

-- ---- expressions

module _ (t : List Entry) (v : List ℕ) (line : ℕ) where
  mutual
    unfolding code code_terms code_term code_factors code_factor code_ref code_subscripts show show_terms show_term show_factors show_factor show_ref show_subscripts

    pub expr_length : (e : Expr) → length (code t v line e) ≤ length (show e)
    expr_length (expr l a as') = simp length-append (omega (arith, lead_length l, term_length a, terms_length as'))

    terms_length : (as' : Terms) → length (code_terms t v line as') ≤ length (show_terms as')
    terms_length no_terms = omega arith
    terms_length (terms o a as') = simp length-append (omega (arith, sign_length o (sign (bytes "-")) (sign (bytes "+")), term_length a, terms_length as'))

    term_length : (a : Term) → length (code_term t v line a) ≤ length (show_term a)
    term_length (term f fs) = simp length-append (omega (arith, factor_length f, factors_length fs))

    factors_length : (fs : Factors) → length (code_factors t v line fs) ≤ length (show_factors fs)
    factors_length no_factors = omega arith
    factors_length (factors o f fs) = simp length-append
        (omega (arith, sign_length o (sign (bytes "/")) (sign (bytes "*")), factor_length f, factors_length fs))

    factor_length : (f : Factor) → length (code_factor t v line f) ≤ length (show_factor f)
    factor_length (literal d) = omega arith
    factor_length (cell r) = simp length-append (omega (arith, ref_length r))
    factor_length (call Rdiv a b) = simp length-append (omega (arith, expr_length a, expr_length b))
    factor_length (call Max a b) = simp length-append (omega (arith, expr_length a, expr_length b))
    factor_length (brackets e) = simp length-append (omega (arith, expr_length e))

    -- one token is left for the read or the store
    pub ref_length : (r : Ref) → suc (length (code_ref t v line r)) ≤ length (show_ref r)
    ref_length (single x) = omega arith
    ref_length (element x is) = simp length-append (omega (arith, subscripts_length (find x t) is))

    -- and one for each bracket
    subscripts_length : (y : Entry) (is : Subscripts) → length (code_subscripts t v line y is) ≤ 2 + length (show_subscripts is)
    subscripts_length y (subscript e) = omega (arith, expr_length e)
    subscripts_length y (subscripts e f) = simp length-append (omega (arith, expr_length e, expr_length f))

-- ---- lines

remainder_length : (t : List Entry) (v : List ℕ) (line : ℕ) (o : Operator) (e : Expr) → length (code t v line (remainder o e)) ≤ length (show e)
unfolding remainder show show_terms show_term show_factors show_factor
remainder_length t v line Sum (expr l a no_terms) = expr_length t v line (expr l a no_terms)
remainder_length t v line Sum (expr l a (terms true b bs)) = simp length-append (omega (arith, simp length-append at (expr_length t v line (expr minus b bs))))
remainder_length t v line Sum (expr l a (terms false b bs)) = simp length-append (omega (arith, simp length-append at (expr_length t v line (expr plus b bs))))
remainder_length t v line Product (expr l (term x no_factors) ts) =
    simp length-append (omega (arith, simp length-append at (expr_length t v line (expr bare (term x no_factors) no_terms))))
remainder_length t v line Product (expr l (term x (factors o y ys)) ts) =
    simp length-append (omega (arith, simp length-append at (expr_length t v line (expr bare (term y ys) no_terms))))
remainder_length t v line Maximum (expr l (term (literal d) xs) ts) =
    simp length-append (omega (arith, simp length-append at (expr_length t v line (expr bare (term (literal d) no_factors) no_terms))))
remainder_length t v line Maximum (expr l (term (cell q) xs) ts) =
    simp length-append (omega (arith, simp length-append at (expr_length t v line (expr bare (term (cell q) no_factors) no_terms))))
remainder_length t v line Maximum (expr l (term (call f a b) xs) ts) = simp length-append (omega (arith, expr_length t v line b))
remainder_length t v line Maximum (expr l (term (brackets e) xs) ts) = simp length-append (omega (arith, expr_length t v line e))

checks_length : (t : List Entry) (v : List ℕ) (line : ℕ) (r : Ref) → length (checks t v line r) ≤ 1
checks_length t v line (single x) = omega arith
checks_length t v line (element x is) = omega arith

pub assign_length : (t : List Entry) (v : List ℕ) (line : ℕ) (r : Ref) (e : Expr) → length (code_assign t v line r e) ≤ length (show_line (inside (assign r e)))
unfolding code_assign show_line
assign_length t v line r e = cond_each (λ (c : List Instr). length c ≤ length (show_ref r ++ (sg "=" ++ show e))) (is_update t r e)
    (simp length-append (omega (arith, ref_length t v line r, checks_length t v line r, remainder_length t v line (operator_at t r) e)))
    (simp length-append (omega (arith, ref_length t v line r, expr_length t v line e)))

pub when_length : (t : List Entry) (v : List ℕ) (line : ℕ) (a : Expr) (rel : Relation) (b : Expr) (n : ℕ)
    → length (code_if t v line a rel b n) ≤ length (show_line (inside (when a rel b)))
unfolding show_line
when_length t v line a rel b n = simp length-append (omega (arith, expr_length t v line a, expr_length t v line b))

otherwise_length : 1 ≤ length (show_line (inside otherwise))
unfolding show_line
otherwise_length = omega arith

statement_length : (k : ℕ) (c : Statement) (s : State) → stands s (inside c) ≡ true
    → length (code_of (after k (inside c) s)) ≤ length (code_of s) + length (show_line (inside c))
statement_length k (assign r e) s h =
    rw ((emits_assign k s r e).code, length-append) (omega (arith, assign_length s.table s.variable k r e))
statement_length k (when a rel b) s h =
    rw ((emits_when k s a rel b).code, length-append) (omega (arith, when_length s.table s.variable k a rel b 0))
statement_length k otherwise s h =
    let (i, e) = otherwise_innermost s h in
    rw ((emits_otherwise s i _ _ (innermost_places s i) k e).code, length-append, length-set) (omega (arith, otherwise_length))
statement_length k (end_if j) s h =
    let i = end_if_innermost s j h in
    rw ((emits_end_if s i _ _ (innermost_places s i) k j).code, length-set) (omega arith)

pub line_length : (k : ℕ) (l : Line) (s : State) → stands s l ≡ true → length (code_of (after k l s)) ≤ length (code_of s) + length (show_line l)
unfolding after code_of code_lines code_opens code_stmts
line_length k (declare d ds) s h = omega arith
line_length k (give x i is) s h = omega arith
line_length k (direct cs) s h = omega arith
line_length k (loop v l m j n) s h = omega arith
line_length k (inside c) s h = statement_length k c s h
line_length k (end_do j) s h = omega arith
line_length k close s h = omega arith

-- ---- texts

learnt_length : (s : State) (p : Program) → InOrder s p → length (code_of (learnt s p)) ≤ length (code_of s) + total (λ q. length (show_line q.1)) p
unfolding learnt
learnt_length s [] o = omega arith
learnt_length s ((k, l) ∷ p) o = omega (arith, line_length k l s o.0, learnt_length (after k l s) p o.3)

-- at most 2,048 instructions
pub text_length : (text : List ℕ) (s : State) → read text ≡ good s → length (code_of s) ≤ 2048
unfolding code_of code_lines code_opens code_stmts
text_length text s h =
    let (p, f, e) = accepted_sound text s h in
    rw (← e) (omega (arith, learnt_length nothing p f.ordered, follows_length text p f, f.short))
