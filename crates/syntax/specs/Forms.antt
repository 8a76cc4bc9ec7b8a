-- RULES 3.1 (document 02, Points 1 and 6): the three forms of an update's right side. The theorems about updates are stated with them; `Meaning.repeated` and
-- `Meaning.remainder` find them (proofs/Forms.antt: `repeats_ref`, `repeats_rest`, `repeats_of`).
use Rattle.std.specs.Prelude.{◌≡◌, Bool, true, false, cond}
use Rattle.rules.specs.declared.Operator.{Operator}
use Rattle.rules.specs.declared.Operator.TheVariants.{Sum, Product, Maximum}
use Rattle.syntax.specs.declared.Function.TheVariants.{Max}
use Rattle.syntax.specs.Grammar.{bare, plus, minus, Expr, expr, Terms, no_terms, terms, Term, term, Factors, no_factors, factors, Factor, cell, call, Ref}
use Rattle.syntax.specs.Meaning.{times}

-- an expression that is a reference
abbrev pub only : Ref → Expr
only y = expr bare (term (cell y) no_factors) no_terms

-- the reference, the remainder, the right side
pub data Repeats : Operator → Ref → Expr → Expr → Type 0 where
  -- "the same reference followed by" + or -: "the remainder with the minus applied to its first term"
  adds : (y : Ref) (minus? : Bool) (t : Term) (ts : Terms)
      → Repeats Sum y (expr (cond minus? minus plus) t ts) (expr bare (term (cell y) no_factors) (terms minus? t ts))
  -- "`x = x * e`, where the remainder has no +, - or / outside brackets"
  multiplies : (y : Ref) (x : Factor) (xs : Factors) → times xs ≡ true
      → Repeats Product y (expr bare (term x xs) no_terms) (expr bare (term (cell y) (factors false x xs)) no_terms)
  -- "`x = max(x, e)`"
  compares : (y : Ref) (b : Expr) → Repeats Maximum y b (expr bare (term (call Max (only y) b) no_factors) no_terms)
