-- RULES 3.2 (document 02, Point 1): "What is added is the remainder with the minus applied to its first term"; products and maxima likewise. The right side of
-- an update comes to what its reference reads, joined with what the remainder comes to.
use mathlib.Core.Path.{◌≡◌, refl, ◌∙◌, ap}
use mathlib.Core.Bool.{Bool, true, false, cond}
use mathlib.Core.List.{List}
use Prim.Native.Nat.{ℕ}
use native.Mathlib.Omega.{arith}
use lib.IntN.{ℤ}
use Rattle.int32.specs.Integers.{sum, difference, product}
use Rattle.int32.proofs.Laws.{sum_assoc, difference_sum, sum_difference, product_assoc}
use Rattle.rules.specs.declared.Operator.{Operator}
use Rattle.rules.specs.Operation.{operation}
use Rattle.rules.specs.Loop.{Act}
use Rattle.syntax.specs.Grammar.{plus, minus, Expr, Terms, no_terms, terms, Factors, no_factors, factors, Ref, cell}
use Rattle.syntax.specs.Known.{Entry}
use Rattle.syntax.specs.Meaning.{times, led, called, eval, eval_terms, eval_term, eval_factors, eval_factor}
use Rattle.syntax.specs.Forms.{Repeats, adds, multiplies, compares}

module _ (t : List Entry) (v : List ℕ) (x : ℤ) (line : ℕ) where
  -- what comes first in a sum may be added last
  terms_last : (as' : Terms) (y z : ℤ) (k : ℤ → Act) → eval_terms t v x line as' (sum y z) k ≡ eval_terms t v x line as' z (λ w. k (sum y w))
  unfolding eval_terms
  terms_last no_terms y z k = refl
  terms_last (terms true a as') y z k = ap (eval_term t v x line a) (λ i w.
      (ap (λ (u : ℤ). eval_terms t v x line as' u k) (sum_difference y z w) ∙ terms_last as' y (difference z w) k) i)
  terms_last (terms false a as') y z k = ap (eval_term t v x line a) (λ i w.
      (ap (λ (u : ℤ). eval_terms t v x line as' u k) (sum_assoc y z w) ∙ terms_last as' y (sum z w) k) i)

  -- a term after + or -, and further terms
  signed_last : (minus? : Bool) (as' : Terms) (y z : ℤ) (k : ℤ → Act)
      → eval_terms t v x line as' (cond minus? (difference y z) (sum y z)) k ≡ eval_terms t v x line as' (led (cond minus? minus plus) z) (λ w. k (sum y w))
  signed_last true as' y z k = ap (λ (u : ℤ). eval_terms t v x line as' u k) (difference_sum y z) ∙ terms_last as' y _ k
  signed_last false as' y z k = terms_last as' y z k

  -- what comes first in a product may be multiplied last
  factors_last : (fs : Factors) → times fs ≡ true → (y z : ℤ) (k : ℤ → Act)
      → eval_factors t v x line fs (product y z) k ≡ eval_factors t v x line fs z (λ w. k (product y w))
  unfolding eval_factors
  factors_last no_factors h y z k = refl
  factors_last (factors true f fs) h y z k = absurd (let z : ◌≡◌ {A = ℕ} 0 1 = cc in omega arith)
  factors_last (factors false f fs) h y z k = ap (eval_factor t v x line f) (λ i w.
      (ap (λ (u : ℤ). eval_factors t v x line fs u k) (product_assoc y z w) ∙ factors_last fs h y (product z w) k) i)

  pub added : {o : Operator} {y : Ref} {m e : Expr} → Repeats o y m e → (k : ℤ → Act)
      → eval t v x line e k ≡ eval_factor t v x line (cell y) (λ a. eval t v x line m (λ b. k ((operation o).join a b)))
  unfolding eval eval_terms eval_term eval_factors eval_factor called
  added (adds y minus? b bs) k = ap (eval_factor t v x line (cell y)) (λ i a. eval_term t v x line b (λ z. signed_last minus? bs a z k i))
  added (multiplies y f fs h) k = ap (eval_factor t v x line (cell y)) (λ i a. eval_factor t v x line f (λ z. factors_last fs h a z k i))
  added (compares y b) k = refl
