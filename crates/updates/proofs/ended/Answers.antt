-- `updates::ended` meets its contract.
use mathlib.Core.Path.{refl, sym, ◌∙◌, ap}
use mathlib.Core.Bool.{Bool, ◌&&◌, not}
use lib.ListN.{drop}
use Rattle.expressions.proofs.Shapes.{is_neither, is_sign, no_sign, some_sign}
use Rattle.updates.specs.Forms.{signs}
use Rattle.updates.proofs.ended.Goals as goal

pub returns-then-eq : goal.returns-then-eq
returns-then-eq c =
    ap not c.signed.ensures ∙ sym (ap (λ (b : Bool). not b && not (signs (drop c.args.at c.args.s.now)))
    (no_sign 42 47 _ _ _ c.join.ensures (is_neither _ (sym c.eq.ensures ∙ c.if-eq.true))))

pub returns-else-eq : goal.returns-else-eq
returns-else-eq c =
    c.if-eq.false ∙ sym (ap (λ (b : Bool). not b && not (signs (drop c.args.at c.args.s.now)))
    (some_sign 42 47 _ _ _ c.join.ensures refl (is_sign _ (sym c.eq.ensures ∙ c.if-eq.false))).0)
