-- Tokens and expressions that are spelled as the grammar says, and do not go on, are read: with fuel for three calls a token. Over any kind of
-- place.
use mathlib.Core.Path.{◌≡◌, refl, sym, ◌∙◌, ap, subst}
use mathlib.Core.Bool.{Bool, true, false, cond, ◌&&◌, ◌||◌}
use mathlib.Core.List.{List, [], ◌∷◌, ◌++◌}
use mathlib.Core.Option.{Option, some}
use Prim.Native.Nat.{ℕ, zero, suc, ◌+◌, ◌*◌, ◌≤◌}
use Prim.Native.String.{String}
use native.Mathlib.Omega.{arith}
use lib.Dec.{eqb}
use lib.ListN.{length, length-append}
use Rattle.int32.specs.declared.Relation.{Relation}
use Rattle.int32.specs.declared.Relation.TheVariants.{Equal, Unequal, Less, AtMost, Greater, AtLeast}
use Rattle.syntax.specs.declared.Function.{Function}
use Rattle.syntax.specs.declared.Function.TheVariants.{Rdiv, Max}
use Rattle.syntax.specs.Bytes.{choose, bytes, Token, name, other_word, digits, sign, word_of}
use Rattle.syntax.specs.Grammar.{Lead, bare, plus, minus, Expr, expr, Terms, no_terms, terms, Term, term, Factors, no_factors, factors, Factor, literal, cell, call, brackets, Ref, single, element, Subscripts, subscript, subscripts, show_lead, show_rel, show, show_terms, show_term, show_factors, show_factor, show_ref, show_subscripts}
use Rattle.syntax.specs.Reader.{Parsed, done, Reader, next, kind, text, is, sees, expects, wants, read_name, read_digits, given, rel_of, read_rel, read_lead, read_pair, read_subscripts, read_expr, read_terms, read_term, read_factors, read_factor, read_ref}
use Rattle.syntax.specs.Spelled.{Spells, here, token}
use Rattle.syntax.proofs.Spelling.{spells_split}
use Rattle.syntax.proofs.TestLaws.{same_refl}

-- Tests that come out

pub is_refl : (t : Token) → is t (some t) ≡ true
is_refl (name b) = same_refl b
is_refl (other_word b) = same_refl b
is_refl (digits b) = same_refl b
is_refl (sign b) = same_refl b

pub cond_true : {A : Type 0} {c : Bool} (x y : A) {z : A} → c ≡ true → x ≡ z → cond c x y ≡ z
cond_true x y e h = ap (λ c. cond c x y) e ∙ h

cond_false : {A : Type 0} {c : Bool} (x y : A) {z : A} → c ≡ false → y ≡ z → cond c x y ≡ z
cond_false x y e h = ap (λ c. cond c x y) e ∙ h

pub yes_choose : {A : Type 0} {c : Bool} (p q : Unit {0} → A) {z : A} → c ≡ true → p tt ≡ z → choose c p q ≡ z
yes_choose p q e h = ap (λ c. choose c p q) e ∙ h

pub no_choose : {A : Type 0} {c : Bool} (p q : Unit {0} → A) {z : A} → c ≡ false → q tt ≡ z → choose c p q ≡ z
no_choose p q e h = ap (λ c. choose c p q) e ∙ h

pub binds : {S A B : Type 0} {r : Parsed S A} (k : A → Reader S B) {a : A} {m : S} {x : Parsed S B} → r ≡ done a m → k a m ≡ x → next r k ≡ x
binds k e h = ap (λ r. next r k) e ∙ h

pub and_no : (a : Bool) {b : Bool} → b ≡ false → a && b ≡ false
and_no true h = h
and_no false h = refl

-- What does not go on: a reference, a term, an expression
abbrev pub Low : Option Token → Type 0
Low o = is (sign (bytes "(")) o ≡ false

abbrev pub Mid : Option Token → Type 0
Mid o = Low o × (is (sign (bytes "*")) o || is (sign (bytes "/")) o ≡ false)

abbrev pub Top : Option Token → Type 0
Top o = (Mid o) × (is (sign (bytes "+")) o || is (sign (bytes "-")) o ≡ false)

-- no sign stands here
abbrev pub Unsigned : Option Token → Type 0
Unsigned o = (is (sign (bytes "+")) o ≡ false) × (is (sign (bytes "-")) o ≡ false)

module _ {S : Type 0} (peek : S → Option Token) (skip : S → S) where
  abbrev Sp : S → List Token → S → Type 0
  Sp s ts u = Spells peek skip s ts u

  pub splits : {P : Type 0} {s u : S} (xs : List Token) {ys : List Token} → Sp s (xs ++ ys) u → ((m : S) → Sp s xs m → Sp m ys u → P) → P
  splits xs h go = let r = spells_split peek skip xs h in go r.0 r.1 r.2

  -- Single tokens

  pub expect_it : (t : String) {s u : S} → Sp s (sign (bytes t) ∷ []) u → expects peek skip t s ≡ done tt u
  expect_it t (token e here) = cond_true _ _ (ap (is (sign (bytes t))) e ∙ is_refl (sign (bytes t))) refl

  pub want_it : (t : String) {s u : S} → Sp s (word_of (bytes t) ∷ []) u → wants peek skip t s ≡ done tt u
  want_it t (token e here) = cond_true _ _ (ap (is (word_of (bytes t))) e ∙ is_refl (word_of (bytes t))) refl

  pub name_it : {x : List ℕ} {s u : S} → Sp s (name x ∷ []) u → read_name peek skip s ≡ done x u
  name_it (token {s = s} e here) = cond_true _ _ (ap (λ o. eqb (kind o) 1) e) (ap (λ o. done (text o) (skip s)) e)

  pub digits_it : {x : List ℕ} {s u : S} → Sp s (digits x ∷ []) u → read_digits peek skip s ≡ done x u
  digits_it (token {s = s} e here) = cond_true _ _ (ap (λ o. eqb (kind o) 3) e) (ap (λ o. done (text o) (skip s)) e)

  pub lead_it : (l : Lead) {s u : S} → Sp s (show_lead l) u → Unsigned (peek u) → read_lead peek skip s ≡ done l u
  lead_it bare here n = cond_false _ _ n.0 (cond_false _ _ n.1 refl)
  lead_it plus (token e here) n = cond_true _ _ (ap (is (sign (bytes "+"))) e) refl
  lead_it minus (token e here) n = cond_false _ _ (ap (is (sign (bytes "+"))) e) (cond_true _ _ (ap (is (sign (bytes "-"))) e) refl)

  pub rel_it : (r : Relation) {s u : S} → Sp s (show_rel r) u → read_rel peek skip s ≡ done r u
  rel_it Equal (token {s = s} e here) = ap (λ o. given peek skip (rel_of o) s) e
  rel_it Unequal (token {s = s} e here) = ap (λ o. given peek skip (rel_of o) s) e
  rel_it Less (token {s = s} e here) = ap (λ o. given peek skip (rel_of o) s) e
  rel_it AtMost (token {s = s} e here) = ap (λ o. given peek skip (rel_of o) s) e
  rel_it Greater (token {s = s} e here) = ap (λ o. given peek skip (rel_of o) s) e
  rel_it AtLeast (token {s = s} e here) = ap (λ o. given peek skip (rel_of o) s) e

  -- Expressions

  factor_begins : (x : Factor) (ys : List Token) {s u : S} → Sp s (show_factor x ++ ys) u → Unsigned (peek s)
  unfolding show_factor show_ref
  factor_begins (literal d) ys (token e h) = (ap (is (sign (bytes "+"))) e, ap (is (sign (bytes "-"))) e)
  factor_begins (cell (single x)) ys (token e h) = (ap (is (sign (bytes "+"))) e, ap (is (sign (bytes "-"))) e)
  factor_begins (cell (element x j)) ys (token e h) = (ap (is (sign (bytes "+"))) e, ap (is (sign (bytes "-"))) e)
  factor_begins (call Rdiv a b) ys (token e h) = (ap (is (sign (bytes "+"))) e, ap (is (sign (bytes "-"))) e)
  factor_begins (call Max a b) ys (token e h) = (ap (is (sign (bytes "+"))) e, ap (is (sign (bytes "-"))) e)
  factor_begins (brackets i) ys (token e h) = (ap (is (sign (bytes "+"))) e, ap (is (sign (bytes "-"))) e)

  pub term_begins : (t : Term) {s u : S} → Sp s (show_term t) u → Unsigned (peek s)
  unfolding show_term
  term_begins (term x xs) h = factor_begins x (show_factors xs) h

  factors_begin : (xs : Factors) {s u : S} → Sp s (show_factors xs) u → Mid (peek u) → Low (peek s)
  unfolding show_factors
  factors_begin no_factors here m = m.0
  factors_begin (factors true x xs) (token e h) m = ap (is (sign (bytes "("))) e
  factors_begin (factors false x xs) (token e h) m = ap (is (sign (bytes "("))) e

  terms_begin : (ts : Terms) {s u : S} → Sp s (show_terms ts) u → Top (peek u) → Mid (peek s)
  unfolding show_terms
  terms_begin no_terms here m = m.0
  terms_begin (terms true t ts) (token e h) m = (ap (is (sign (bytes "("))) e, ap (λ o. is (sign (bytes "*")) o || is (sign (bytes "/")) o) e)
  terms_begin (terms false t ts) (token e h) m = (ap (is (sign (bytes "("))) e, ap (λ o. is (sign (bytes "*")) o || is (sign (bytes "/")) o) e)

  pub record Completes (f : ℕ) : Type 0 where
    pub expr : (e : Expr) (s u : S) → 3 * length (show e) + 4 ≤ f → Sp s (show e) u → Top (peek u) → read_expr peek skip f s ≡ done e u
    pub terms : (e : Terms) (s u : S) → 3 * length (show_terms e) + 1 ≤ f → Sp s (show_terms e) u → Top (peek u) → read_terms peek skip f s ≡ done e u
    pub term : (e : Term) (s u : S) → 3 * length (show_term e) + 3 ≤ f → Sp s (show_term e) u → Mid (peek u) → read_term peek skip f s ≡ done e u
    pub factors : (e : Factors) (s u : S) → 3 * length (show_factors e) + 1 ≤ f → Sp s (show_factors e) u → Mid (peek u)
        → read_factors peek skip f s ≡ done e u
    pub factor : (e : Factor) (s u : S) → 3 * length (show_factor e) + 2 ≤ f → Sp s (show_factor e) u → Low (peek u)
        → read_factor peek skip f s ≡ done e u
    pub ref : (e : Ref) (s u : S) → 3 * length (show_ref e) + 1 ≤ f → Sp s (show_ref e) u → Low (peek u) → read_ref peek skip f s ≡ done e u

  expr_it : (f : ℕ) → Completes f → (e : Expr) (s u : S) → 3 * length (show e) + 4 ≤ suc f → Sp s (show e) u → Top (peek u)
      → read_expr peek skip (suc f) s ≡ done e u
  unfolding read_expr show
  expr_it f i (expr l t ts) s u b h p =
      splits (show_lead l) h λ m1 h1 r1.
      splits (show_term t) r1 λ m2 h2 h3.
      let c1 = length-append (show_lead l) (show_term t ++ show_terms ts) in
      let c2 = length-append (show_term t) (show_terms ts) in
      binds _ (lead_it l h1 (term_begins t h2))
      (binds _ (i.term t m1 m2 (omega arith) h2 (terms_begin ts h3 p)) (binds _ (i.terms ts m2 u (omega arith) h3 p) refl))

  terms_it : (f : ℕ) → Completes f → (e : Terms) (s u : S) → 3 * length (show_terms e) + 1 ≤ suc f → Sp s (show_terms e) u → Top (peek u)
      → read_terms peek skip (suc f) s ≡ done e u
  unfolding read_terms show_terms
  terms_it f i no_terms s u b here p = no_choose _ _ p.1 refl
  terms_it f i (terms true t ts) s u b (token e h) p =
      splits (show_term t) h λ m1 h1 h2.
      let c = length-append (show_term t) (show_terms ts) in
      yes_choose _ _ (ap (λ o. is (sign (bytes "+")) o || is (sign (bytes "-")) o) e)
      (binds _ (i.term t (skip s) m1 (omega arith) h1 (terms_begin ts h2 p))
      (binds _ (i.terms ts m1 u (omega arith) h2 p) (ap (λ o. done (terms (is (sign (bytes "-")) o) t ts) u) e)))
  terms_it f i (terms false t ts) s u b (token e h) p =
      splits (show_term t) h λ m1 h1 h2.
      let c = length-append (show_term t) (show_terms ts) in
      yes_choose _ _ (ap (λ o. is (sign (bytes "+")) o || is (sign (bytes "-")) o) e)
      (binds _ (i.term t (skip s) m1 (omega arith) h1 (terms_begin ts h2 p))
      (binds _ (i.terms ts m1 u (omega arith) h2 p) (ap (λ o. done (terms (is (sign (bytes "-")) o) t ts) u) e)))

  term_it : (f : ℕ) → Completes f → (e : Term) (s u : S) → 3 * length (show_term e) + 3 ≤ suc f → Sp s (show_term e) u → Mid (peek u)
      → read_term peek skip (suc f) s ≡ done e u
  unfolding read_term show_term
  term_it f i (term x xs) s u b h p =
      splits (show_factor x) h λ m1 h1 h2.
      let c = length-append (show_factor x) (show_factors xs) in
      binds _ (i.factor x s m1 (omega arith) h1 (factors_begin xs h2 p)) (binds _ (i.factors xs m1 u (omega arith) h2 p) refl)

  factors_it : (f : ℕ) → Completes f → (e : Factors) (s u : S) → 3 * length (show_factors e) + 1 ≤ suc f → Sp s (show_factors e) u → Mid (peek u)
      → read_factors peek skip (suc f) s ≡ done e u
  unfolding read_factors show_factors
  factors_it f i no_factors s u b here p = no_choose _ _ p.1 refl
  factors_it f i (factors true x xs) s u b (token e h) p =
      splits (show_factor x) h λ m1 h1 h2.
      let c = length-append (show_factor x) (show_factors xs) in
      yes_choose _ _ (ap (λ o. is (sign (bytes "*")) o || is (sign (bytes "/")) o) e)
      (binds _ (i.factor x (skip s) m1 (omega arith) h1 (factors_begin xs h2 p))
      (binds _ (i.factors xs m1 u (omega arith) h2 p) (ap (λ o. done (factors (is (sign (bytes "/")) o) x xs) u) e)))
  factors_it f i (factors false x xs) s u b (token e h) p =
      splits (show_factor x) h λ m1 h1 h2.
      let c = length-append (show_factor x) (show_factors xs) in
      yes_choose _ _ (ap (λ o. is (sign (bytes "*")) o || is (sign (bytes "/")) o) e)
      (binds _ (i.factor x (skip s) m1 (omega arith) h1 (factors_begin xs h2 p))
      (binds _ (i.factors xs m1 u (omega arith) h2 p) (ap (λ o. done (factors (is (sign (bytes "/")) o) x xs) u) e)))

  -- a closing bracket, and a comma, end an expression
  pub close_ends : {s u : S} → Sp s (sign (bytes ")") ∷ []) u → Top (peek s)
  close_ends (token e here) = rw e ((refl, refl), refl)

  comma_ends : {s u : S} → Sp s (sign (bytes ",") ∷ []) u → Top (peek s)
  comma_ends (token e here) = rw e ((refl, refl), refl)

  -- which of the two stands here
  pub closed : {s u : S} → Sp s (sign (bytes ")") ∷ []) u → sees peek skip "," s ≡ false
  closed (token e here) = ap (is (sign (bytes ","))) e

  comma : {s u : S} → Sp s (sign (bytes ",") ∷ []) u → (sees peek skip "," s ≡ true) × (skip s ≡ u)
  comma (token e here) = (ap (is (sign (bytes ","))) e, refl)

  -- the two arguments of a function, and its brackets
  pair_it : (f : ℕ) → Completes f → (g : Function) (a c : Expr) (s u : S) → 3 * length (show a) + 4 ≤ f → 3 * length (show c) + 4 ≤ f
      → Sp s (sign (bytes "(") ∷ (show a ++ (sign (bytes ",") ∷ (show c ++ (sign (bytes ")") ∷ []))))) u
      → next (expects peek skip "(" s) (λ _. read_pair peek skip (read_expr peek skip f) (call g)) ≡ done (call g a c) u
  pair_it f i g a c s u b d (token e h) =
      splits (show a) h λ m1 h1 r1.
      splits (sign (bytes ",") ∷ []) r1 λ m2 h2 r2.
      splits (show c) r2 λ m3 h3 h4.
      binds _ (expect_it "(" (token e here)) (binds _ (i.expr a (skip s) m1 b h1 (comma_ends h2))
      (binds _ (expect_it "," h2) (binds _ (i.expr c m2 m3 d h3 (close_ends h4)) (binds _ (expect_it ")" h4) refl))))

  call_long : (a c : Expr) → length (show a ++ (sign (bytes ",") ∷ (show c ++ (sign (bytes ")") ∷ [])))) ≡ length (show a) + (2 + length (show c))
  call_long a c = omega (
    arith,
    length-append (show a) (sign (bytes ",") ∷ (show c ++ (sign (bytes ")") ∷ []))),
    length-append (show c) (sign (bytes ")") ∷ []),
  )

  factor_it : (f : ℕ) → Completes f → (e : Factor) (s u : S) → 3 * length (show_factor e) + 2 ≤ suc f → Sp s (show_factor e) u → Low (peek u)
      → read_factor peek skip (suc f) s ≡ done e u
  unfolding read_factor show_factor show_ref
  factor_it f i (literal d) s u b (token e here) p = yes_choose _ _ (ap (λ o. eqb (kind o) 3) e) (binds _ (digits_it (token e here)) refl)
  factor_it f i (cell (single x)) s u b (token e h) p =
      no_choose _ _ (ap (λ o. eqb (kind o) 3) e) (no_choose _ _ (ap (is (sign (bytes "("))) e) (no_choose _ _ (ap (is (word_of (bytes "rdiv"))) e)
      (no_choose _ _ (ap (is (word_of (bytes "max"))) e) (binds _ (i.ref (single x) s u (omega arith) (token e h) p) refl))))
  factor_it f i (cell (element x j)) s u b (token e h) p =
      no_choose _ _ (ap (λ o. eqb (kind o) 3) e) (no_choose _ _ (ap (is (sign (bytes "("))) e) (no_choose _ _ (ap (is (word_of (bytes "rdiv"))) e)
      (no_choose _ _ (ap (is (word_of (bytes "max"))) e) (binds _ (i.ref (element x j) s u (omega arith) (token e h) p) refl))))
  factor_it f i (call Rdiv a c) s u b (token e h) p =
      let l = call_long a c in
      no_choose _ _ (ap (λ o. eqb (kind o) 3) e) (no_choose _ _ (ap (is (sign (bytes "("))) e) (yes_choose _ _ (ap (is (word_of (bytes "rdiv"))) e)
      (pair_it f i Rdiv a c (skip s) u (omega arith) (omega arith) h)))
  factor_it f i (call Max a c) s u b (token e h) p =
      let l = call_long a c in
      no_choose _ _ (ap (λ o. eqb (kind o) 3) e) (no_choose _ _ (ap (is (sign (bytes "("))) e) (no_choose _ _ (ap (is (word_of (bytes "rdiv"))) e)
      (yes_choose _ _ (ap (is (word_of (bytes "max"))) e) (pair_it f i Max a c (skip s) u (omega arith) (omega arith) h))))
  factor_it f i (brackets j) s u b (token e h) p =
      splits (show j) h λ m1 h1 h2.
      let c = length-append (show j) (sign (bytes ")") ∷ []) in
      no_choose _ _ (ap (λ o. eqb (kind o) 3) e) (yes_choose _ _ (ap (is (sign (bytes "("))) e)
      (binds _ (i.expr j (skip s) m1 (omega arith) h1 (close_ends h2)) (binds _ (expect_it ")" h2) refl)))

  -- one subscript or two, and the bracket
  subscripts_it : (f : ℕ) → Completes f → (j : Subscripts) (s m u : S) → 3 * length (show_subscripts j) + 4 ≤ f → Sp s (show_subscripts j) m
      → Sp m (sign (bytes ")") ∷ []) u → read_subscripts peek skip (read_expr peek skip f) s ≡ done j u
  unfolding show_subscripts
  subscripts_it f i (subscript e) s m u b h k =
      binds _ (i.expr e s m b h (close_ends k)) (no_choose _ _ (closed k) (binds _ (expect_it ")" k) refl))
  subscripts_it f i (subscripts e g) s m u b h k =
      splits (show e) h λ m1 h1 r1.
      splits (sign (bytes ",") ∷ []) r1 λ m2 h2 h3.
      let c = length-append (show e) (sign (bytes ",") ∷ show g) in
      let (a, q) = comma h2 in
      binds _ (i.expr e s m1 (omega arith) h1 (comma_ends h2)) (yes_choose _ _ a
      (binds _ (i.expr g (skip m1) m (omega arith) (subst (λ r. Sp r (show g) m) (sym q) h3) (close_ends k)) (binds _ (expect_it ")" k) refl)))

  ref_it : (f : ℕ) → Completes f → (e : Ref) (s u : S) → 3 * length (show_ref e) + 1 ≤ suc f → Sp s (show_ref e) u → Low (peek u)
      → read_ref peek skip (suc f) s ≡ done e u
  unfolding read_ref show_ref
  ref_it f i (single x) s u b (token e here) p = binds _ (name_it (token e here)) (no_choose _ _ p refl)
  ref_it f i (element x j) s u b (token e (token e2 h)) p =
      splits (show_subscripts j) h λ m1 h1 h2.
      let c = length-append (show_subscripts j) (sign (bytes ")") ∷ []) in
      binds _ (name_it (token e here)) (yes_choose _ _ (ap (is (sign (bytes "("))) e2) (binds _ (subscripts_it f i j (skip (skip s)) m1 u (omega arith) h1 h2) refl))

  pub completes : (f : ℕ) → Completes f
  completes zero = record {
    expr = λ e s u b h p. absurd (omega arith);
    terms = λ e s u b h p. absurd (omega arith);
    term = λ e s u b h p. absurd (omega arith);
    factors = λ e s u b h p. absurd (omega arith);
    factor = λ e s u b h p. absurd (omega arith);
    ref = λ e s u b h p. absurd (omega arith);
  }
  completes (suc f) = record {
    expr = expr_it f (completes f);
    terms = terms_it f (completes f);
    term = term_it f (completes f);
    factors = factors_it f (completes f);
    factor = factor_it f (completes f);
    ref = ref_it f (completes f);
  }
