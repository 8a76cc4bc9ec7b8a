-- What the readers of an assignment read: a reference begins with a name; and the right side of an update in each of its forms, taken apart.
use mathlib.Core.Path.{◌≡◌, refl, sym, ◌∙◌, ap}
use mathlib.Core.Logic.{inl, inr}
use mathlib.Core.Bool.{Bool, true, false, cond, ◌&&◌, ◌||◌, not}
use mathlib.Core.List.{List}
use Prim.Native.Nat.{ℕ, zero, suc}
use Prim.Native.String.{String}
use native.Mathlib.Omega.{arith}
use borrow.Author.Tests.{eqb-true}
use lib.Dec.{eqb}
use Rattle.syntax.specs.declared.Function.TheVariants.{Max}
use Rattle.syntax.specs.Bytes.{choose, bytes, sign}
use Rattle.syntax.specs.Grammar.{Lead, bare, plus, minus, Expr, expr, Terms, no_terms, terms, Term, term, Factors, no_factors, factors, Factor, cell, call, Ref, single, element}
use Rattle.syntax.specs.Meaning.{times}
use Rattle.syntax.specs.Conditions.{ref_name}
use Rattle.syntax.specs.Reader.{done, next, kind, text, is, sees, says, expects, is_digits, read_digits, read_name, read_lead, read_subscripts, read_expr, read_terms, read_term, read_factors, read_factor, read_ref, peek_in, skip_in}
use Rattle.syntax.specs.Forms.{only}
use Rattle.syntax.proofs.Spelling.{not_done, same_done, bound, chosen, conded}
use Rattle.parts.specs.Parts.{stands}
use Rattle.updates.specs.Forms.{signs, scales, ends, timed, closed}

-- ---- a reference

-- whether it has a subscript
abbrev pub indexed : Ref → Bool
indexed (single x) = false
indexed (element x e) = true

-- what stands where it is read
pub record Referred (u : List ℕ) (x : Ref) : Type 0 where
  pub name : kind (peek_in u) ≡ 1
  pub text : ref_name x ≡ text (peek_in u)
  pub subscript : indexed x ≡ stands 40 (skip_in u)

pub ref_read : (f : ℕ) (u w : List ℕ) (x : Ref) → read_ref peek_in skip_in f u ≡ done x w → Referred u x
unfolding read_ref
ref_read zero u w x h = absurd (not_done h)
ref_read (suc f) u w x h =
    bound (read_name peek_in skip_in u) _ h λ n m h1 k1.
    let (p, q) = conded (eqb (kind (peek_in u)) 1) (done (text (peek_in u)) (skip_in u)) h1 in
    same_done (λ n m. choose (stands 40 m)
    (λ _. next (read_subscripts peek_in skip_in (read_expr peek_in skip_in f) (skip_in m)) (λ i v. done (element n i) v))
    (λ _. done (single n) m)
    ≡ done x w
    → Referred u x)
    q
    (λ k. elim (chosen (stands 40 (skip_in u)) _ _ k) [
      | inl c ↦
          bound (read_subscripts peek_in skip_in (read_expr peek_in skip_in f) (skip_in (skip_in u))) _ c.1 λ i m2 h2 k2.
          same_done (λ y _. Referred u y) k2 (record { name = eqb-true _ 1 p; text = refl; subscript = sym c.0 })
      | inr c ↦ same_done (λ y _. Referred u y) c.1 (record { name = eqb-true _ 1 p; text = refl; subscript = sym c.0 })
    ]) k1

-- ---- taken apart

bare_lead : (u m : List ℕ) → read_lead peek_in skip_in u ≡ done bare m → u ≡ m
bare_lead u m h = go (stands 43 u) (stands 45 u) h
  where
    go : (a b : Bool) → cond a (done plus (skip_in u)) (cond b (done minus (skip_in u)) (done bare u)) ≡ done bare m → u ≡ m
    go true b h = absurd (let z : ◌≡◌ {A = ℕ} 0 1 = cc in omega arith)
    go false true h = absurd (let z : ◌≡◌ {A = ℕ} 0 1 = cc in omega arith)
    go false false h = cc

-- an expression without a sign before it
record ExprParts (f : ℕ) (u v : List ℕ) (t : Term) (ts : Terms) : Type 0 where
  mid : List ℕ
  head : read_term peek_in skip_in f u ≡ done t mid
  tail : read_terms peek_in skip_in f mid ≡ done ts v

expr_parts : (f : ℕ) (u v : List ℕ) (t : Term) (ts : Terms) → read_expr peek_in skip_in (suc f) u ≡ done (expr bare t ts) v → ExprParts f u v t ts
unfolding read_expr
expr_parts f u v t ts h =
    bound (read_lead peek_in skip_in u) _ h λ l m1 h1 k1.
    bound (read_term peek_in skip_in f m1) _ k1 λ a m2 h2 k2.
    bound (read_terms peek_in skip_in f m2) _ k2 λ as' m3 h3 k3.
    let el : l ≡ bare = cc in
    let ea : a ≡ t = cc in
    let es : as' ≡ ts = cc in
    let ev : m3 ≡ v = cc in
    let eu : u ≡ m1 = bare_lead u m1 (h1 ∙ ap (λ (k : Lead). done k m1) el) in
    record { mid = m2; head = (λ i. read_term peek_in skip_in f (eu i)) ∙ h2 ∙ ap (λ (b : Term). done b m2) ea; tail = h3 ∙ (λ i. done (es i) (ev i)) }

pub record TermParts (f : ℕ) (u v : List ℕ) (x : Factor) (xs : Factors) : Type 0 where
  pub mid : List ℕ
  pub head : read_factor peek_in skip_in f u ≡ done x mid
  pub tail : read_factors peek_in skip_in f mid ≡ done xs v

pub term_parts : (f : ℕ) (u v : List ℕ) (x : Factor) (xs : Factors) → read_term peek_in skip_in (suc f) u ≡ done (term x xs) v → TermParts f u v x xs
unfolding read_term
term_parts f u v x xs h =
    bound (read_factor peek_in skip_in f u) _ h λ y m1 h1 k1.
    bound (read_factors peek_in skip_in f m1) _ k1 λ ys m2 h2 k2.
    let ey : y ≡ x = cc in
    let es : ys ≡ xs = cc in
    let ev : m2 ≡ v = cc in
    record { mid = m1; head = h1 ∙ ap (λ (z : Factor). done z m1) ey; tail = h2 ∙ (λ i. done (es i) (ev i)) }

record FactorsParts (f : ℕ) (u v : List ℕ) (x : Factor) (xs : Factors) : Type 0 where
  mid : List ℕ
  sign : stands 42 u ≡ true
  head : read_factor peek_in skip_in f (skip_in u) ≡ done x mid
  tail : read_factors peek_in skip_in f mid ≡ done xs v

-- further factors after *
factors_parts : (f : ℕ) (u v : List ℕ) (x : Factor) (xs : Factors) → read_factors peek_in skip_in (suc f) u ≡ done (factors false x xs) v
    → FactorsParts f u v x xs
unfolding read_factors
factors_parts f u v x xs h = elim (chosen (scales u) _ _ h) [
  | inl c ↦
      bound (read_factor peek_in skip_in f (skip_in u)) _ c.1 λ y m1 h1 k1.
      bound (read_factors peek_in skip_in f m1) _ k1 λ ys m2 h2 k2.
      let eo : stands 47 u ≡ false = cc in
      let ey : y ≡ x = cc in
      let es : ys ≡ xs = cc in
      let ev : m2 ≡ v = cc in
      record {
        mid = m1;
        sign = first (stands 42 u) (stands 47 u) c.0 eo;
        head = h1 ∙ ap (λ (z : Factor). done z m1) ey;
        tail = h2 ∙ (λ i. done (es i) (ev i));
      }
  | inr c ↦ let k = c.1 in absurd (let z : ◌≡◌ {A = ℕ} 0 1 = cc in omega arith)
]
  where
    first : (a b : Bool) → a || b ≡ true → b ≡ false → a ≡ true
    first true b h e = refl
    first false b h e = sym e ∙ h

factors_over : (f : ℕ) (u v : List ℕ) → read_factors peek_in skip_in (suc f) u ≡ done no_factors v → (scales u ≡ false) × (u ≡ v)
unfolding read_factors
factors_over f u v h = elim (chosen (scales u) _ _ h) [
  | inl c ↦
      bound (read_factor peek_in skip_in f (skip_in u)) _ c.1 λ y m1 h1 k1.
      bound (read_factors peek_in skip_in f m1) _ k1 λ ys m2 h2 k2.
      absurd (let z : ◌≡◌ {A = ℕ} 0 1 = cc in omega arith)
  | inr c ↦ let k = c.1 in (c.0, cc)
]

terms_over : (f : ℕ) (u v : List ℕ) → read_terms peek_in skip_in (suc f) u ≡ done no_terms v → (signs u ≡ false) × (u ≡ v)
unfolding read_terms
terms_over f u v h = elim (chosen (signs u) _ _ h) [
  | inl c ↦
      bound (read_term peek_in skip_in f (skip_in u)) _ c.1 λ y m1 h1 k1.
      bound (read_terms peek_in skip_in f m1) _ k1 λ ys m2 h2 k2.
      absurd (let z : ◌≡◌ {A = ℕ} 0 1 = cc in omega arith)
  | inr c ↦ let k = c.1 in (c.0, cc)
]

terms_more : (f : ℕ) (u v : List ℕ) (o : Bool) (t : Term) (ts : Terms) → read_terms peek_in skip_in (suc f) u ≡ done (terms o t ts) v → signs u ≡ true
unfolding read_terms
terms_more f u v o t ts h = elim (chosen (signs u) _ _ h) [
  | inl c ↦ c.0
  | inr c ↦ let k = c.1 in absurd (let z : ◌≡◌ {A = ℕ} 0 1 = cc in omega arith)
]

-- a factor that is a reference
factor_cell : (f : ℕ) (u v : List ℕ) (y : Ref) → read_factor peek_in skip_in (suc f) u ≡ done (cell y) v → read_ref peek_in skip_in f u ≡ done y v
unfolding read_factor
factor_cell f u v y h = elim (chosen (is_digits peek_in skip_in u) _ _ h) [
  | inl c ↦
      bound (read_digits peek_in skip_in u) _ c.1 λ d m1 h1 k1.
      absurd (let z : ◌≡◌ {A = ℕ} 0 1 = cc in omega arith)
  | inr c ↦ elim (chosen (sees peek_in skip_in "(" u) _ _ c.1) [
    | inl d ↦
        bound (read_expr peek_in skip_in f (skip_in u)) _ d.1 λ a m1 h1 k1.
        bound (expects peek_in skip_in ")" m1) _ k1 λ _ m2 h2 k2.
        absurd (let z : ◌≡◌ {A = ℕ} 0 1 = cc in omega arith)
    | inr d ↦ elim (chosen (says peek_in skip_in "rdiv" u) _ _ d.1) [
      | inl g ↦
          bound (expects peek_in skip_in "(" (skip_in u)) _ g.1 λ _ m1 h1 k1.
          bound (read_expr peek_in skip_in f m1) _ k1 λ a m2 h2 k2.
          bound (expects peek_in skip_in "," m2) _ k2 λ _ m3 h3 k3.
          bound (read_expr peek_in skip_in f m3) _ k3 λ b m4 h4 k4.
          bound (expects peek_in skip_in ")" m4) _ k4 λ _ m5 h5 k5.
          absurd (let z : ◌≡◌ {A = ℕ} 0 1 = cc in omega arith)
      | inr g ↦ elim (chosen (says peek_in skip_in "max" u) _ _ g.1) [
        | inl j ↦
            bound (expects peek_in skip_in "(" (skip_in u)) _ j.1 λ _ m1 h1 k1.
            bound (read_expr peek_in skip_in f m1) _ k1 λ a m2 h2 k2.
            bound (expects peek_in skip_in "," m2) _ k2 λ _ m3 h3 k3.
            bound (read_expr peek_in skip_in f m3) _ k3 λ b m4 h4 k4.
            bound (expects peek_in skip_in ")" m4) _ k4 λ _ m5 h5 k5.
            absurd (let z : ◌≡◌ {A = ℕ} 0 1 = cc in omega arith)
        | inr j ↦
            bound (read_ref peek_in skip_in f u) _ j.1 λ r m1 h1 k1.
            cc
      ]
    ]
  ]
]

-- a sign that is expected stands there
expected : (t : String) (u v : List ℕ) → expects peek_in skip_in t u ≡ done tt v → (is (sign (bytes t)) (peek_in u) ≡ true) × (skip_in u ≡ v)
expected t u v h = let (p, q) = conded (is (sign (bytes t)) (peek_in u)) (done tt (skip_in u)) h in (p, cc)

record MaxParts (f : ℕ) (u v : List ℕ) (a b : Expr) : Type 0 where
  mid : List ℕ
  far : List ℕ
  word : says peek_in skip_in "max" u ≡ true
  opened : stands 40 (skip_in u) ≡ true
  one : read_expr peek_in skip_in f (skip_in (skip_in u)) ≡ done a mid
  comma : stands 44 mid ≡ true
  two : read_expr peek_in skip_in f (skip_in mid) ≡ done b far
  shut : stands 41 far ≡ true
  last : skip_in far ≡ v

-- a factor that is a maximum
factor_max : (f : ℕ) (u v : List ℕ) (a b : Expr) → read_factor peek_in skip_in (suc f) u ≡ done (call Max a b) v → MaxParts f u v a b
unfolding read_factor
factor_max f u v a b h = elim (chosen (is_digits peek_in skip_in u) _ _ h) [
  | inl c ↦
      bound (read_digits peek_in skip_in u) _ c.1 λ d m1 h1 k1.
      absurd (let z : ◌≡◌ {A = ℕ} 0 1 = cc in omega arith)
  | inr c ↦ elim (chosen (sees peek_in skip_in "(" u) _ _ c.1) [
    | inl d ↦
        bound (read_expr peek_in skip_in f (skip_in u)) _ d.1 λ x m1 h1 k1.
        bound (expects peek_in skip_in ")" m1) _ k1 λ _ m2 h2 k2.
        absurd (let z : ◌≡◌ {A = ℕ} 0 1 = cc in omega arith)
    | inr d ↦ elim (chosen (says peek_in skip_in "rdiv" u) _ _ d.1) [
      | inl g ↦
          bound (expects peek_in skip_in "(" (skip_in u)) _ g.1 λ _ m1 h1 k1.
          bound (read_expr peek_in skip_in f m1) _ k1 λ x m2 h2 k2.
          bound (expects peek_in skip_in "," m2) _ k2 λ _ m3 h3 k3.
          bound (read_expr peek_in skip_in f m3) _ k3 λ y m4 h4 k4.
          bound (expects peek_in skip_in ")" m4) _ k4 λ _ m5 h5 k5.
          absurd (let z : ◌≡◌ {A = ℕ} 0 1 = cc in omega arith)
      | inr g ↦ elim (chosen (says peek_in skip_in "max" u) _ _ g.1) [
        | inl j ↦
            bound (expects peek_in skip_in "(" (skip_in u)) _ j.1 λ _ m1 h1 k1.
            bound (read_expr peek_in skip_in f m1) _ k1 λ x m2 h2 k2.
            bound (expects peek_in skip_in "," m2) _ k2 λ _ m3 h3 k3.
            bound (read_expr peek_in skip_in f m3) _ k3 λ y m4 h4 k4.
            bound (expects peek_in skip_in ")" m4) _ k4 λ _ m5 h5 k5.
            let (p1, e1) = expected "(" (skip_in u) m1 h1 in
            let (p2, e2) = expected "," m2 m3 h3 in
            let (p3, e3) = expected ")" m4 m5 h5 in
            let ex : x ≡ a = cc in
            let ey : y ≡ b = cc in
            let ev : m5 ≡ v = cc in
            record {
              mid = m2;
              far = m4;
              word = j.0;
              opened = p1;
              one = (λ i. read_expr peek_in skip_in f (e1 i)) ∙ h2 ∙ ap (λ (e : Expr). done e m2) ex;
              comma = p2;
              two = (λ i. read_expr peek_in skip_in f (e2 i)) ∙ h4 ∙ ap (λ (e : Expr). done e m4) ey;
              shut = p3;
              last = e3 ∙ ev;
            }
        | inr j ↦
            bound (read_ref peek_in skip_in f u) _ j.1 λ r m1 h1 k1.
            absurd (let z : ◌≡◌ {A = ℕ} 0 1 = cc in omega arith)
      ]
    ]
  ]
]

pub ends_both : (u : List ℕ) → scales u ≡ false → signs u ≡ false → ends u ≡ true
ends_both u p q = (λ i. not (p i) && not (q i))

-- an expression that is a reference
record OnlyParts (f : ℕ) (u v : List ℕ) (y : Ref) : Type 0 where
  pub fuel : ℕ
  pub depth : f ≡ suc (suc (suc fuel))
  pub reads : read_ref peek_in skip_in fuel u ≡ done y v

only_parts : (f : ℕ) (u v : List ℕ) (y : Ref) → read_expr peek_in skip_in f u ≡ done (only y) v → OnlyParts f u v y
unfolding read_expr read_term read_factor
only_parts zero u v y h = absurd (not_done h)
only_parts (suc zero) u v y h = let p = expr_parts zero u v _ _ h in absurd (not_done p.head)
only_parts (suc (suc zero)) u v y h =
    let p = expr_parts (suc zero) u v _ _ h in
    let q = term_parts zero u p.mid _ _ p.head in
    absurd (not_done q.head)
only_parts (suc (suc (suc f))) u v y h =
    let p = expr_parts (suc (suc f)) u v _ _ h in
    let q = term_parts (suc f) u p.mid _ _ p.head in
    let (_, e1) = factors_over f q.mid p.mid q.tail in
    let (_, e2) = terms_over (suc f) p.mid v p.tail in
    record { fuel = f; depth = refl; reads = factor_cell f u q.mid y q.head ∙ ap (done y) (e1 ∙ e2) }

-- ---- the forms, taken apart

module _ (f : ℕ) (u v : List ℕ) where
  pub sum_apart : (y : Ref) (o : Bool) (t : Term) (ts : Terms)
      → read_expr peek_in skip_in (suc (suc (suc f))) u ≡ done (expr bare (term (cell y) no_factors) (terms o t ts)) v
      → (w : List ℕ) × (read_ref peek_in skip_in f u ≡ done y w) × (signs w ≡ true)
  sum_apart y o t ts h =
      let p = expr_parts (suc (suc f)) u v _ _ h in
      let q = term_parts (suc f) u p.mid _ _ p.head in
      let (_, e) = factors_over f q.mid p.mid q.tail in
      (p.mid, factor_cell f u q.mid y q.head ∙ ap (done y) e, terms_more (suc f) p.mid v o t ts p.tail)

  pub product_apart : (y : Ref) (x : Factor) (xs : Factors) → times xs ≡ true
      → read_expr peek_in skip_in (suc (suc (suc f))) u ≡ done (expr bare (term (cell y) (factors false x xs)) no_terms) v
      → (w : List ℕ) × (read_ref peek_in skip_in f u ≡ done y w) × (stands 42 w ≡ true) × (timed (read_term peek_in skip_in (suc f) (skip_in w)) ≡ true)
  unfolding read_term
  product_apart y x xs e h =
      let p = expr_parts (suc (suc f)) u v _ _ h in
      let q = term_parts (suc f) u p.mid _ _ p.head in
      let r = factors_parts f q.mid p.mid x xs q.tail in
      let (n, _) = terms_over (suc f) p.mid v p.tail in
      (q.mid, factor_cell f u q.mid y q.head, r.sign, rw (r.head, r.tail) (λ i. e i && not (n i)))

  pub maximum_apart : (y : Ref) (b : Expr)
      → read_expr peek_in skip_in (suc (suc (suc f))) u ≡ done (expr bare (term (call Max (only y) b) no_factors) no_terms) v
      → (w : List ℕ) × (g : ℕ) × (says peek_in skip_in "max" u ≡ true) × (stands 40 (skip_in u) ≡ true) × (f ≡ suc (suc (suc g)))
      × (read_ref peek_in skip_in g (skip_in (skip_in u)) ≡ done y w) × (stands 44 w ≡ true) × (closed (read_expr peek_in skip_in f (skip_in w)) ≡ true)
  maximum_apart y b h =
      let p = expr_parts (suc (suc f)) u v _ _ h in
      let q = term_parts (suc f) u p.mid _ _ p.head in
      let (c, e) = factors_over f q.mid p.mid q.tail in
      let (n, _) = terms_over (suc f) p.mid v p.tail in
      let r = factor_max f u q.mid (only y) b q.head in
      let o = only_parts f (skip_in (skip_in u)) r.mid y r.one in
      let l = r.last in
      let k : ends (skip_in r.far) ≡ true = ends_both _ (ap scales l ∙ c) (ap signs (l ∙ e) ∙ n) in (
        r.mid,
        o.fuel,
        r.word,
        r.opened,
        o.depth,
        o.reads,
        r.comma,
        ap closed r.two ∙ (λ i. r.shut i && k i),
      )
