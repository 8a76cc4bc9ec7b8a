-- What the three forms of updates share: the rank of a term, the references that a right side does not repeat, what is read twice.
use mathlib.Core.Path.{◌≡◌, refl, sym, ◌∙◌, ap, subst}
use mathlib.Core.Bool.{Bool, true, false}
use mathlib.Core.List.{List, ◌++◌, append-nil}
use mathlib.Core.Option.{Option, none, some}
use Prim.Native.Nat.{ℕ, max}
use native.Mathlib.Omega.{arith}
use Rattle.rules.specs.declared.Operator.{Operator}
use Rattle.syntax.specs.Grammar.{bare, Expr, expr, no_terms, term, Factors, Factor, Ref, show_ref}
use Rattle.syntax.specs.Known.{Entry}
use Rattle.syntax.specs.Meaning.{alike, same_ref, repeated, remainder}
use Rattle.syntax.specs.Conditions.{mentions, in_terms, in_term, in_factors, in_factor}
use Rattle.syntax.specs.Reader.{Parsed, done}
use Rattle.syntax.specs.Forms.{Repeats}
use Rattle.syntax.proofs.Forms.{repeats_of}
use Rattle.parts.specs.Answer.{worst}
use Rattle.std.specs.Prelude.{Option as Answer}
use Rattle.parts.specs.declared.Got.{Got}
use Rattle.parts.proofs.Laws.{worst_append}
use Rattle.updates.specs.declared.Left.{Left}
use Rattle.updates.specs.Forms.{Rests}

module _ (t : List Entry) (v : List ℕ) where
  -- of a term alone
  pub term_rank : (x : Factor) (xs : Factors)
      → worst t v (mentions 0 (expr bare (term x xs) no_terms)) ≡ max (worst t v (in_factor 0 x)) (worst t v (in_factors 0 xs))
  unfolding mentions in_terms in_term
  term_rank x xs = ap (worst t v) (append-nil (in_factor 0 x ++ in_factors 0 xs)) ∙ worst_append t v (in_factor 0 x) (in_factors 0 xs)

-- the right side is c, and no reference that it repeats is x
pub not_same : (o : Operator) (x : Ref) (c : Expr) → ((y : Ref) → Repeats o y (remainder o c) c → alike (show_ref x) (show_ref y) ≡ false)
    → same_ref x (repeated o c) ≡ false
not_same o x c h = go (repeated o c) refl
  where
    go : (p : Option Ref) → repeated o c ≡ p → same_ref x p ≡ false
    go none e = refl
    go (some y) e = h y (repeats_of o c y e)

pub clash : {X : Type 0} (b : Bool) → b ≡ true → b ≡ false → X
clash b p q = absurd (let z : ◌≡◌ {A = ℕ} 0 1 = cc in omega arith)

-- by the operator of an arm
pub rest_by : {o q : Operator} {l : Left} {T s : List ℕ} {from : ℕ} {b a : List ℕ} {r : Answer Got} → o ≡ q → Rests q l T s from b a r → Rests o l T s from b a r
rest_by {o} {q} {l} {T} {s} {from} {b} {a} {r} e h = subst (λ (p : Operator). Rests p l T s from b a r) (sym e) h

-- what is read twice is the same
pub same_rest : {y z : Ref} {u w : List ℕ} → ◌≡◌ {A = Parsed (List ℕ) Ref} (done y u) (done z w) → u ≡ w
same_rest h = cc
