-- The right side of an update has one of the three forms (specs/Forms.antt), and whatever has one repeats its reference.
use mathlib.Core.Path.{◌≡◌, refl, sym, ap, subst₂}
use mathlib.Core.Bool.{Bool, true, false, cond}
use mathlib.Core.Option.{Option, none, some}
use Prim.Native.Nat.{ℕ}
use native.Mathlib.Omega.{arith}
use Rattle.rules.specs.declared.Operator.{Operator}
use Rattle.rules.specs.declared.Operator.TheVariants.{Sum, Product, Maximum}
use Rattle.syntax.specs.declared.Function.TheVariants.{Rdiv, Max}
use Rattle.syntax.specs.Grammar.{Lead, bare, plus, minus, Expr, expr, no_terms, terms, term, no_factors, factors, Factor, literal, cell, call, brackets, Ref}
use Rattle.syntax.specs.Forms.{only, Repeats, adds, multiplies, compares}
use Rattle.syntax.specs.Meaning.{reference, unled, times, summand, multiplicand, alone, compared, rival, repeated, remainder}

-- a right side of the form repeats its reference
pub repeats_ref : {o : Operator} {y : Ref} {m e : Expr} → Repeats o y m e → repeated o e ≡ some y
unfolding summand multiplicand alone rival
repeats_ref (adds y m t ts) = refl
repeats_ref (multiplies y x xs h) = ap (λ (b : Bool). cond b (some y) none) h
repeats_ref (compares y b) = refl

pub repeats_rest : {o : Operator} {y : Ref} {m e : Expr} → Repeats o y m e → remainder o e ≡ m
unfolding remainder
repeats_rest (adds y m t ts) = refl
repeats_rest (multiplies y x xs h) = refl
repeats_rest (compares y b) = refl

unled_some : (l : Lead) (o : Option Ref) (y : Ref) → unled l o ≡ some y → (l ≡ bare) × (o ≡ some y)
unled_some bare o y h = (refl, h)
unled_some plus o y h = absurd (let z : ◌≡◌ {A = ℕ} 0 1 = cc in omega arith)
unled_some minus o y h = absurd (let z : ◌≡◌ {A = ℕ} 0 1 = cc in omega arith)

reference_some : (x : Factor) (y : Ref) → reference x ≡ some y → x ≡ cell y
reference_some (literal d) y h = absurd (let z : ◌≡◌ {A = ℕ} 0 1 = cc in omega arith)
reference_some (cell q) y h = ap cell (cc)
reference_some (call f a b) y h = absurd (let z : ◌≡◌ {A = ℕ} 0 1 = cc in omega arith)
reference_some (brackets e) y h = absurd (let z : ◌≡◌ {A = ℕ} 0 1 = cc in omega arith)

alone_only : (e : Expr) (y : Ref) → alone e ≡ some y → e ≡ only y
unfolding alone
alone_only (expr l (term x no_factors) no_terms) y h =
    let (p, q) = unled_some l (reference x) y h in
    (λ i. expr (p i) (term (reference_some x y q i) no_factors) no_terms)
alone_only (expr l (term x (factors o f fs)) no_terms) y h = absurd (let z : ◌≡◌ {A = ℕ} 0 1 = cc in omega arith)
alone_only (expr l (term x xs) (terms o t ts)) y h = absurd (let z : ◌≡◌ {A = ℕ} 0 1 = cc in omega arith)

compared_some : (x : Factor) (y : Ref) → compared x ≡ some y → (b : Expr) × (x ≡ call Max (only y) b)
compared_some (literal d) y h = absurd (let z : ◌≡◌ {A = ℕ} 0 1 = cc in omega arith)
compared_some (cell q) y h = absurd (let z : ◌≡◌ {A = ℕ} 0 1 = cc in omega arith)
compared_some (call Rdiv a b) y h = absurd (let z : ◌≡◌ {A = ℕ} 0 1 = cc in omega arith)
compared_some (call Max a b) y h = (b, ap (λ (e : Expr). call Max e b) (alone_only a y h))
compared_some (brackets e) y h = absurd (let z : ◌≡◌ {A = ℕ} 0 1 = cc in omega arith)

-- and where one repeats a reference, it has the form
pub repeats_of : (o : Operator) (e : Expr) (y : Ref) → repeated o e ≡ some y → Repeats o y (remainder o e) e
unfolding summand multiplicand rival remainder
repeats_of Sum (expr l (term x xs) no_terms) y h = absurd (let z : ◌≡◌ {A = ℕ} 0 1 = cc in omega arith)
repeats_of Sum (expr l (term x (factors o f fs)) (terms m t ts)) y h = absurd (let z : ◌≡◌ {A = ℕ} 0 1 = cc in omega arith)
repeats_of Sum (expr l (term x no_factors) (terms m t ts)) y h =
    let (p, q) = unled_some l (reference x) y h in
    subst₂ (λ (k : Lead) (c : Factor). Repeats Sum y (expr (cond m minus plus) t ts) (expr k (term c no_factors) (terms m t ts)))
    (sym p) (sym (reference_some x y q)) (adds y m t ts)
repeats_of Product (expr l (term x xs) (terms m t ts)) y h = absurd (let z : ◌≡◌ {A = ℕ} 0 1 = cc in omega arith)
repeats_of Product (expr l (term x no_factors) no_terms) y h = absurd (let z : ◌≡◌ {A = ℕ} 0 1 = cc in omega arith)
repeats_of Product (expr l (term x (factors true f fs)) no_terms) y h = absurd (let z : ◌≡◌ {A = ℕ} 0 1 = cc in omega arith)
repeats_of Product (expr l (term x (factors false f fs)) no_terms) y h = by_rest (times fs) refl h
  where
    by_rest : (b : Bool) → times fs ≡ b → cond b (unled l (reference x)) none ≡ some y
        → Repeats Product y (expr bare (term f fs) no_terms) (expr l (term x (factors false f fs)) no_terms)
    by_rest false e h = absurd (let z : ◌≡◌ {A = ℕ} 0 1 = cc in omega arith)
    by_rest true e h =
        let (p, q) = unled_some l (reference x) y h in
        subst₂ (λ (k : Lead) (c : Factor). Repeats Product y (expr bare (term f fs) no_terms) (expr k (term c (factors false f fs)) no_terms))
        (sym p) (sym (reference_some x y q)) (multiplies y f fs e)
repeats_of Maximum (expr l (term x xs) (terms m t ts)) y h = absurd (let z : ◌≡◌ {A = ℕ} 0 1 = cc in omega arith)
repeats_of Maximum (expr l (term x (factors o f fs)) no_terms) y h = absurd (let z : ◌≡◌ {A = ℕ} 0 1 = cc in omega arith)
repeats_of Maximum (expr l (term x no_factors) no_terms) y h =
    let (p, q) = unled_some l (compared x) y h in
    let (b, c) = compared_some x y q in
    subst₂ (λ (k : Lead) (f : Factor). Repeats Maximum y (remainder Maximum (expr k (term f no_factors) no_terms)) (expr k (term f no_factors) no_terms))
    (sym p) (sym c) (compares y b)
