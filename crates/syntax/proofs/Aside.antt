-- References that are the same "token for token, ... a literal's leading zeros aside", mean the same cell.
use mathlib.Core.Path.{◌≡◌, refl, sym, ◌∙◌, ap, subst}
use mathlib.Core.Bool.{Bool, true, false, cond}
use mathlib.Core.List.{List, [], ◌∷◌, map, append-nil, map-append}
use mathlib.Core.Option.{some}
use Prim.Native.Nat.{ℕ, ◌+◌, ◌-◌, ◌*◌, ◌≤◌}
use native.Mathlib.Omega.{arith}
use lib.Dec.{eqb}
use lib.IntN.{ℤ, pos}
use lib.ListN.{length, get_or}
use borrow.Author.Tests.{eqb-true}
use Rattle.int32.specs.Integers.{quotient, product, sum, difference}
use Rattle.rules.specs.Loop.{Act, read}
use Rattle.syntax.specs.declared.Function.{Function}
use Rattle.syntax.specs.declared.Function.TheVariants.{Rdiv, Max}
use Rattle.syntax.specs.Bytes.{choose, Token, sign, equal}
use Rattle.syntax.specs.Grammar.{number_from, number, Lead, bare, plus, minus, Expr, expr, Terms, no_terms, terms, Term, term, Factors, no_factors, factors, Factor, literal, cell, call, brackets, Ref, single, element, Subscripts, subscript, subscripts, show_lead, show_function, show, show_terms, show_term, show_factors, show_factor, show_ref, show_subscripts}
use Rattle.syntax.specs.Known.{Entry, find}
use Rattle.syntax.specs.Conditions.{ref_name}
use Rattle.syntax.specs.Meaning.{no_zeros, zeros_aside, alike, led, located, in_grid, divides, called, is_variable, eval, eval_terms, eval_term, eval_factors, eval_factor, place, subscripted_cell}
use Rattle.syntax.specs.Reader.{done, read_ref, first, rest}
use Rattle.syntax.specs.Spelled.{Spells}
use Rattle.syntax.proofs.Spelling.{both_true, is_true}
use Rattle.syntax.proofs.CompleteExpr.{completes}
use Rattle.syntax.proofs.Complete.{list_spells}

-- ---- syntax without leading zeros

unfoldable mutual
  pub aside : Expr → Expr
  aside (expr l t ts) = expr l (aside_term t) (aside_terms ts)

  pub aside_terms : Terms → Terms
  aside_terms no_terms = no_terms
  aside_terms (terms o t ts) = terms o (aside_term t) (aside_terms ts)

  pub aside_term : Term → Term
  aside_term (term x xs) = term (aside_factor x) (aside_factors xs)

  pub aside_factors : Factors → Factors
  aside_factors no_factors = no_factors
  aside_factors (factors o x xs) = factors o (aside_factor x) (aside_factors xs)

  pub aside_factor : Factor → Factor
  aside_factor (literal d) = literal (no_zeros d)
  aside_factor (cell r) = cell (aside_ref r)
  aside_factor (call f a b) = call f (aside a) (aside b)
  aside_factor (brackets e) = brackets (aside e)

  pub aside_ref : Ref → Ref
  aside_ref (single x) = single x
  aside_ref (element x is) = element x (aside_subscripts is)

  pub aside_subscripts : Subscripts → Subscripts
  aside_subscripts (subscript e) = subscript (aside e)
  aside_subscripts (subscripts e f) = subscripts (aside e) (aside f)

pub name_aside : (r : Ref) → ref_name r ≡ ref_name (aside_ref r)
unfolding aside_ref
name_aside (single x) = refl
name_aside (element x is) = refl

-- its tokens are those of the other, their zeros aside
signs_stay : (o : Bool) (a b : List ℕ) → map zeros_aside (cond o (sign a ∷ []) (sign b ∷ [])) ≡ cond o (sign a ∷ []) (sign b ∷ [])
signs_stay true a b = refl
signs_stay false a b = refl

function_stays : (f : Function) → map zeros_aside (show_function f) ≡ show_function f
function_stays Rdiv = refl
function_stays Max = refl

lead_stays : (l : Lead) → map zeros_aside (show_lead l) ≡ show_lead l
lead_stays bare = refl
lead_stays plus = refl
lead_stays minus = refl

mutual
  unfolding aside aside_terms aside_term aside_factors aside_factor aside_ref aside_subscripts show show_terms show_term show_factors show_factor show_ref show_subscripts

  show_aside : (e : Expr) → show (aside e) ≡ map zeros_aside (show e)
  show_aside (expr l t ts) = simp (map-append, lead_stays l, show_aside_term t, show_aside_terms ts)

  show_aside_terms : (ts : Terms) → show_terms (aside_terms ts) ≡ map zeros_aside (show_terms ts)
  show_aside_terms no_terms = refl
  show_aside_terms (terms o t ts) = simp (map-append, signs_stay, show_aside_term t, show_aside_terms ts)

  show_aside_term : (t : Term) → show_term (aside_term t) ≡ map zeros_aside (show_term t)
  show_aside_term (term x xs) = simp (map-append, show_aside_factor x, show_aside_factors xs)

  show_aside_factors : (xs : Factors) → show_factors (aside_factors xs) ≡ map zeros_aside (show_factors xs)
  show_aside_factors no_factors = refl
  show_aside_factors (factors o x xs) = simp (map-append, signs_stay, show_aside_factor x, show_aside_factors xs)

  show_aside_factor : (x : Factor) → show_factor (aside_factor x) ≡ map zeros_aside (show_factor x)
  show_aside_factor (literal d) = refl
  show_aside_factor (cell r) = show_aside_ref r
  show_aside_factor (call f a b) = simp (map-append, function_stays f, show_aside a, show_aside b)
  show_aside_factor (brackets e) = simp (map-append, show_aside e)

  show_aside_ref : (r : Ref) → show_ref (aside_ref r) ≡ map zeros_aside (show_ref r)
  show_aside_ref (single x) = refl
  show_aside_ref (element x is) = simp (map-append, show_aside_subscripts is)

  show_aside_subscripts : (is : Subscripts) → show_subscripts (aside_subscripts is) ≡ map zeros_aside (show_subscripts is)
  show_aside_subscripts (subscript e) = show_aside e
  show_aside_subscripts (subscripts e f) = simp (map-append, show_aside e, show_aside f)

-- tokens that are alike are the same, zeros aside
equal_true : (t u : Token) → equal t u ≡ true → t ≡ u
equal_true t u h = let e = is_true t (some u) h in cc

alike_same : (ts us : List Token) → alike ts us ≡ true → map zeros_aside ts ≡ map zeros_aside us
unfolding alike
alike_same [] [] h = refl
alike_same [] (u ∷ us) h = absurd (let z : ◌≡◌ {A = ℕ} 0 1 = cc in omega arith)
alike_same (t ∷ ts) [] h = absurd (let z : ◌≡◌ {A = ℕ} 0 1 = cc in omega arith)
alike_same (t ∷ ts) (u ∷ us) h =
    let (p, q) = both_true (equal (zeros_aside t) (zeros_aside u)) (alike ts us) h in
    (λ i. equal_true (zeros_aside t) (zeros_aside u) p i ∷ alike_same ts us q i)

-- a reference is read back from its tokens
read_back : (r : Ref) (f : ℕ) → 3 * length (show_ref r) + 1 ≤ f → read_ref first rest f (show_ref r) ≡ done r []
read_back r f b = (completes first rest f).ref r (show_ref r) [] b (subst (λ (ts : List Token). Spells first rest ts (show_ref r) []) (append-nil (show_ref r)) (list_spells (show_ref r) [])) refl

pub alike_aside : (r q : Ref) → alike (show_ref r) (show_ref q) ≡ true → aside_ref r ≡ aside_ref q
alike_aside r q h =
    let e = show_aside_ref r ∙ alike_same (show_ref r) (show_ref q) h ∙ sym (show_aside_ref q) in
    let f = 3 * length (show_ref (aside_ref r)) + (3 * length (show_ref (aside_ref q)) + 1) in
    let p = sym (read_back (aside_ref r) f (omega arith)) ∙ ap (read_ref first rest f) e ∙ read_back (aside_ref q) f (omega arith) in
    cc

-- ---- it means the same

zeros_number : (d : List ℕ) → number (no_zeros d) ≡ number d
unfolding number_from no_zeros
zeros_number [] = refl
zeros_number (b ∷ d) = go (eqb b 48) refl (zeros_number d)
  where
    go : (z : Bool) → eqb b 48 ≡ z → number (no_zeros d) ≡ number d → number (choose z (λ _. no_zeros d) (λ _. b ∷ d)) ≡ number_from (0 + (b - 48)) d
    go true h e = let k : b ≡ 48 = eqb-true b 48 h in e ∙ ap (λ (m : ℕ). number_from m d) (omega arith)
    go false h e = refl

-- over two tables with the same cells for each name
pub record SameCells (t u : List Entry) : Type 0 where
  pub first : (y : List ℕ) → (find y t).first ≡ (find y u).first
  pub size : (y : List ℕ) → (find y t).size ≡ (find y u).size
  pub extents : (y : List ℕ) → (find y t).extents ≡ (find y u).extents

module _ (t u : List Entry) (v : List ℕ) (x : ℤ) (line : ℕ) (h : SameCells t u) where
  variable_aside : (r : Ref) → is_variable t v x r ≡ is_variable u v x (aside_ref r)
  unfolding aside_ref
  variable_aside (single y) = refl
  variable_aside (element y is) = refl

  mutual
    unfolding eval eval_terms eval_term eval_factors eval_factor place subscripted_cell aside aside_terms aside_term aside_factors aside_factor aside_ref aside_subscripts

    pub eval_aside : (e : Expr) (k : ℤ → Act) → eval t v x line e k ≡ eval u v x line (aside e) k
    eval_aside (expr l a as') k =
        term_aside a _ ∙ ap (eval_term u v x line (aside_term a)) (λ i y. terms_aside as' (led l y) k i)

    terms_aside : (as' : Terms) (y : ℤ) (k : ℤ → Act) → eval_terms t v x line as' y k ≡ eval_terms u v x line (aside_terms as') y k
    terms_aside no_terms y k = refl
    terms_aside (terms o a as') y k =
        term_aside a _ ∙ ap (eval_term u v x line (aside_term a)) (λ i z. terms_aside as' (cond o (difference y z) (sum y z)) k i)

    term_aside : (a : Term) (k : ℤ → Act) → eval_term t v x line a k ≡ eval_term u v x line (aside_term a) k
    term_aside (term f fs) k = factor_aside f _ ∙ ap (eval_factor u v x line (aside_factor f)) (λ i y. factors_aside fs y k i)

    factors_aside : (fs : Factors) (y : ℤ) (k : ℤ → Act) → eval_factors t v x line fs y k ≡ eval_factors u v x line (aside_factors fs) y k
    factors_aside no_factors y k = refl
    factors_aside (factors o f fs) y k =
        factor_aside f _ ∙ ap (eval_factor u v x line (aside_factor f)) (λ i z.
        choose o (λ _. divides line quotient y z (λ q. factors_aside fs q k i)) (λ _. factors_aside fs (product y z) k i))

    factor_aside : (f : Factor) (k : ℤ → Act) → eval_factor t v x line f k ≡ eval_factor u v x line (aside_factor f) k
    factor_aside (literal d) k = ap (λ (n : ℕ). k (pos n)) (sym (zeros_number d))
    factor_aside (cell r) k = (λ i. choose (variable_aside r i) (λ _. k x) (λ _. place_aside r (λ c. read c k) i))
    factor_aside (call f a b) k =
        eval_aside a _ ∙ ap (eval u v x line (aside a)) (λ i y. eval_aside b (λ z. called line f y z k) i)
    factor_aside (brackets e) k = eval_aside e k

    pub place_aside : (r : Ref) (k : ℕ → Act) → place t v x line r k ≡ place u v x line (aside_ref r) k
    place_aside (single y) k = ap k (h.first y)
    place_aside (element y is) k = cell_aside y is k

    cell_aside : (y : List ℕ) (is : Subscripts) (k : ℕ → Act) → subscripted_cell t v x line (find y t) is k ≡ subscripted_cell u v x line (find y u) (aside_subscripts is) k
    cell_aside y (subscript e) k =
        eval_aside e _ ∙ ap (eval u v x line (aside e)) (λ i z. located line (h.first y i) (h.size y i) z k)
    cell_aside y (subscripts e f) k =
        eval_aside e _ ∙ ap (eval u v x line (aside e)) (λ i z.
        (eval_aside f _
        ∙ ap (eval u v x line (aside f)) (λ j w. in_grid line (h.first y j) (get_or (h.extents y j) 0 0) (get_or (h.extents y j) 1 0) z w k)) i)
