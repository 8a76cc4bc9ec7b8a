-- The right side of an update in each of its forms, put together from what is read.
use mathlib.Core.Path.{◌≡◌, refl, sym, ◌∙◌, ap}
use mathlib.Core.Bool.{Bool, true, false, cond, ◌&&◌, ◌||◌, not}
use mathlib.Core.List.{List, [], ◌∷◌}
use mathlib.Core.Option.{Option, some}
use Prim.Native.Nat.{ℕ, suc}
use native.Mathlib.Omega.{arith}
use lib.Dec.{eqb}
use Rattle.syntax.specs.declared.Function.TheVariants.{Max}
use Rattle.rules.specs.declared.Operator.TheVariants.{Sum}
use Rattle.syntax.specs.Bytes.{bytes, same, Token, kind_of, bytes_of, sign, word_of}
use Rattle.syntax.specs.Grammar.{Lead, bare, plus, minus, Expr, expr, Terms, no_terms, terms, Term, term, Factors, no_factors, factors, Factor, cell, call, Ref}
use Rattle.syntax.specs.Reader.{done, next, kind, text, is, says, expects, is_digits, read_lead, read_expr, read_terms, read_term, read_factors, read_factor, read_ref, peek_in, skip_in}
use Rattle.syntax.specs.Forms.{only, Repeats, adds}
use Rattle.syntax.proofs.Spelling.{same_done, bound, is_true, both_true}
use Rattle.syntax.proofs.SoundExpr.{sounds}
use Rattle.syntax.proofs.CompleteExpr.{term_begins}
use Rattle.syntax.proofs.ReaderLaws.{next_assoc, next_same}
use Rattle.parts.specs.Parts.{stands}
use Rattle.updates.specs.Forms.{signs, scales, ends}
use Rattle.updates.proofs.Readings.{ref_read, term_parts}

-- ---- what a name, a word and a sign are not

module _ (u : List ℕ) (e : kind (peek_in u) ≡ 1) where
  name_no_sign : (x : List ℕ) → is (sign x) (peek_in u) ≡ false
  name_no_sign x = ap (λ (k : ℕ). eqb 4 k && same x (text (peek_in u))) e

  name_no_word : (x : List ℕ) → kind_of (word_of x) ≡ 2 → is (word_of x) (peek_in u) ≡ false
  name_no_word x k = (λ i. eqb (k i) (e i) && same (bytes_of (word_of x)) (text (peek_in u)))

  name_no_digits : is_digits peek_in skip_in u ≡ false
  name_no_digits = ap (λ (k : ℕ). eqb k 3) e

pub sign_no : (w y x : List ℕ) → is (sign y) (peek_in w) ≡ true → same x y ≡ false → is (sign x) (peek_in w) ≡ false
sign_no w y x p d = ap (is (sign x)) (is_true (sign y) (peek_in w) p) ∙ d

pub not_is : (b : Bool) → not b ≡ true → b ≡ false
not_is true h = sym h
not_is false h = refl

ends_parts : (u : List ℕ) → ends u ≡ true → (scales u ≡ false) × (signs u ≡ false)
ends_parts u h = let (p, q) = both_true (not (scales u)) (not (signs u)) h in (not_is (scales u) p, not_is (signs u) q)

-- nothing follows
pub no_more_factors : (f : ℕ) (u : List ℕ) → scales u ≡ false → read_factors peek_in skip_in (suc f) u ≡ done no_factors u
unfolding read_factors
no_more_factors f u h = rw h

no_more_terms : (f : ℕ) (u : List ℕ) → signs u ≡ false → read_terms peek_in skip_in (suc f) u ≡ done no_terms u
unfolding read_terms
no_more_terms f u h = rw h

-- one term
one_term : (f : ℕ) (u v : List ℕ) (t : Term) → read_lead peek_in skip_in u ≡ done bare u → read_term peek_in skip_in (suc f) u ≡ done t v → signs v ≡ false
    → read_expr peek_in skip_in (suc (suc f)) u ≡ done (expr bare t no_terms) v
unfolding read_expr
one_term f u v t l h n = rw (l, h, no_more_terms f v n)

-- ---- put together

module _ (f : ℕ) (u w : List ℕ) (y : Ref) (h : read_ref peek_in skip_in f u ≡ done y w) where
  lead_none : read_lead peek_in skip_in u ≡ done bare u
  lead_none = let e = (ref_read f u w y h).name in rw (name_no_sign u e (43 ∷ []), name_no_sign u e (45 ∷ []))

  factor_is : read_factor peek_in skip_in (suc f) u ≡ done (cell y) w
  unfolding read_factor
  factor_is =
      let e = (ref_read f u w y h).name in
      rw (name_no_digits u e, name_no_sign u e (40 ∷ []), name_no_word u e (bytes "rdiv") refl, name_no_word u e (bytes "max") refl, h)

  alone_term : scales w ≡ false → read_term peek_in skip_in (suc (suc f)) u ≡ done (term (cell y) no_factors) w
  unfolding read_term
  alone_term n = rw (factor_is, no_more_factors f w n)

  pub only_together : ends w ≡ true → read_expr peek_in skip_in (suc (suc (suc f))) u ≡ done (only y) w
  only_together e = let (c, n) = ends_parts w e in one_term (suc f) u w _ lead_none (alone_term c) n

  -- a product: the rest of it, and the whole
  module _ (p : stands 42 w ≡ true) (x : Factor) (xs : Factors) (v : List ℕ)
      (r : read_term peek_in skip_in (suc f) (skip_in w) ≡ done (term x xs) v) (n : signs v ≡ false) where
    factors_are : read_factors peek_in skip_in (suc f) w ≡ done (factors false x xs) v
    unfolding read_factors
    factors_are =
        let q = term_parts f (skip_in w) v x xs r in
        rw (p, q.head, q.tail, sign_no w (42 ∷ []) (47 ∷ []) p refl)

    term_is : read_term peek_in skip_in (suc (suc f)) u ≡ done (term (cell y) (factors false x xs)) v
    unfolding read_term
    term_is = rw (factor_is, factors_are)

    pub product_together : read_expr peek_in skip_in (suc (suc (suc f))) u ≡ done (expr bare (term (cell y) (factors false x xs)) no_terms) v
    product_together = one_term (suc f) u v _ lead_none term_is n

    pub product_rest : read_expr peek_in skip_in (suc (suc f)) (skip_in w) ≡ done (expr bare (term x xs) no_terms) v
    product_rest =
        let (a, b) = term_begins peek_in skip_in (term x xs) ((sounds peek_in skip_in (suc f)).term (skip_in w) v (term x xs) r) in
        one_term f (skip_in w) v _ (rw (a, b)) r n

-- a maximum
module _ (f : ℕ) (u : List ℕ) (word : says peek_in skip_in "max" u ≡ true) (opened : stands 40 (skip_in u) ≡ true) (w : List ℕ) (y : Ref)
    (one : read_expr peek_in skip_in f (skip_in (skip_in u)) ≡ done (only y) w) (comma : stands 44 w ≡ true) where
  there : peek_in u ≡ some (word_of (bytes "max"))
  there = is_true (word_of (bytes "max")) (peek_in u) word

  max_factor : read_factor peek_in skip_in (suc f) u
      ≡ next (read_expr peek_in skip_in f (skip_in w)) (λ b v. next (expects peek_in skip_in ")" v) (λ _ z. done (call Max (only y) b) z))
  unfolding read_factor
  max_factor = rw (
    ap (λ (o : Option Token). eqb (kind o) 3) there,
    ap (is (sign (40 ∷ []))) there,
    ap (is (word_of (bytes "rdiv"))) there,
    word,
    opened,
    one,
    comma,
  )

  pub maximum_together : (b : Expr) (v : List ℕ) → read_expr peek_in skip_in f (skip_in w) ≡ done b v → stands 41 v ≡ true → ends (skip_in v) ≡ true
      → read_expr peek_in skip_in (suc (suc (suc f))) u ≡ done (expr bare (term (call Max (only y) b) no_factors) no_terms) (skip_in v)
  unfolding read_term
  maximum_together b v two shut e =
      let (c, n) = ends_parts (skip_in v) e in
      let q : read_factor peek_in skip_in (suc f) u ≡ done (call Max (only y) b) (skip_in v) = max_factor ∙ rw (two, shut) in
      one_term (suc f) u (skip_in v) _ (rw (ap (is (sign (43 ∷ []))) there, ap (is (sign (45 ∷ []))) there)) (rw (q, no_more_factors f (skip_in v) c)) n

-- ---- a sum: a reference and a sign, and the remainder

-- where + or - stands, that sign leads, and neither * nor / stands there
record Led (w : List ℕ) : Type 0 where
  minus? : Bool
  lead : read_lead peek_in skip_in w ≡ done (cond minus? minus plus) (skip_in w)
  subtracts : stands 45 w ≡ minus?
  unscaled : scales w ≡ false

led_by : (w : List ℕ) → signs w ≡ true → Led w
led_by w p = go (stands 43 w) (stands 45 w) refl refl p
  where
    go : (a b : Bool) → stands 43 w ≡ a → stands 45 w ≡ b → a || b ≡ true → Led w
    go true b ea eb h = record {
      minus? = false;
      lead = rw ea refl;
      subtracts = sign_no w (43 ∷ []) (45 ∷ []) ea refl;
      unscaled = (λ i. sign_no w (43 ∷ []) (42 ∷ []) ea refl i || sign_no w (43 ∷ []) (47 ∷ []) ea refl i);
    }
    go false true ea eb h = record {
      minus? = true;
      lead = rw (ea, eb) refl;
      subtracts = eb;
      unscaled = (λ i. sign_no w (45 ∷ []) (42 ∷ []) eb refl i || sign_no w (45 ∷ []) (47 ∷ []) eb refl i);
    }
    go false false ea eb h = absurd (let z : ◌≡◌ {A = ℕ} 0 1 = cc in omega arith)

-- whether a lead is -
abbrev subtracting : Lead → Bool
subtracting bare = false
subtracting plus = false
subtracting minus = true

-- a reference before a remainder
unfoldable pub joined : Ref → Expr → Expr
joined y (expr l t ts) = expr bare (term (cell y) no_factors) (terms (subtracting l) t ts)

module _ (f : ℕ) (u w : List ℕ) (y : Ref) (h : read_ref peek_in skip_in f u ≡ done y w) (p : signs w ≡ true) where
  terms_are : read_terms peek_in skip_in (suc (suc f)) w
      ≡ next (read_term peek_in skip_in (suc f) (skip_in w)) (λ t v. next (read_terms peek_in skip_in (suc f) v)
      (λ ts z. done (terms (stands 45 w) t ts) z))
  unfolding read_terms
  terms_are = rw p

  pub sum_together : read_expr peek_in skip_in (suc (suc (suc f))) u ≡ next (read_expr peek_in skip_in (suc (suc f)) w) (λ e v. done (joined y e) v)
  unfolding read_expr joined
  sum_together =
      let led = led_by w p in
      rw (lead_none f u w y h, alone_term f u w y h led.unscaled, terms_are, led.lead)
      (next_assoc (read_term peek_in skip_in (suc f) (skip_in w))
      (λ t v. next (read_terms peek_in skip_in (suc f) v) (λ ts z. done (terms (stands 45 w) t ts) z))
      (λ ts z. done (expr bare (term (cell y) no_factors) ts) z)
      ∙ next_same (read_term peek_in skip_in (suc f) (skip_in w)) _ _
      (λ t v. next_assoc (read_terms peek_in skip_in (suc f) v) (λ ts z. done (terms (stands 45 w) t ts) z)
      (λ ts z. done (expr bare (term (cell y) no_factors) ts) z)
      ∙ next_same (read_terms peek_in skip_in (suc f) v) _ _ (λ ts z. ap (λ (m : Bool). done (expr bare (term (cell y) no_factors) (terms m t ts)) z)
      (led.subtracts ∙ same_sign led.minus?))
      ∙ sym (next_assoc (read_terms peek_in skip_in (suc f) v) (λ ts z. done (expr (cond led.minus? minus plus) t ts) z) (λ e z. done (joined y e) z)))
      ∙ sym (next_assoc (read_term peek_in skip_in (suc f) (skip_in w))
      (λ t v. next (read_terms peek_in skip_in (suc f) v) (λ ts z. done (expr (cond led.minus? minus plus) t ts) z)) (λ e z. done (joined y e) z)))
    where
      same_sign : (m : Bool) → m ≡ subtracting (cond m minus plus)
      same_sign true = refl
      same_sign false = refl

-- what is read as a remainder begins with its sign
pub joined_form : (f : ℕ) (u w : List ℕ) (y : Ref) (e : Expr) → signs u ≡ true → read_expr peek_in skip_in (suc f) u ≡ done e w → Repeats Sum y e (joined y e)
unfolding joined read_expr
joined_form f u w y e p h =
    let led = led_by u p in
    bound (read_lead peek_in skip_in u) _ h λ l m0 h0 k0.
    bound (read_term peek_in skip_in f m0) _ k0 λ t m1 h1 k1.
    bound (read_terms peek_in skip_in f m1) _ k1 λ ts m2 h2 k2.
    same_done (λ e _. Repeats Sum y e (joined y e)) k2
    (same_done (λ l _. Repeats Sum y (expr l t ts) (joined y (expr l t ts))) (sym led.lead ∙ h0) (go t ts led.minus?))
  where
    go : (t : Term) (ts : Terms) (m : Bool) → Repeats Sum y (expr (cond m minus plus) t ts) (joined y (expr (cond m minus plus) t ts))
    go t ts true = adds y true t ts
    go t ts false = adds y false t ts
