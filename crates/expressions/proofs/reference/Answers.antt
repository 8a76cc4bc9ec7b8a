-- `expressions::reference` meets its contract, by how the reference begins.
use mathlib.Core.Logic.{inl, inr}
use mathlib.Core.Path.{◌∙◌, ap}
use Rattle.std.specs.Prelude.{Some}
use Rattle.parts.specs.declared.Beginning.{Beginning}
use Rattle.expressions.proofs.Shapes.{named}
use Rattle.expressions.proofs.Factors.{reference_single, reference_element, reference_none}
use Rattle.expressions.proofs.reference.Goals as goal

pub returns-in_err-b : goal.returns-in_err-b
returns-in_err-b c = rw c.from_residual.ensures
    (reference_none _ _ _ _ _ _ _ _ _ (ap named c.in_err-b.ensures))

pub returns-in-Name : goal.returns-in-Name
returns-in-Name c = reference_single _ _ _ _ _ _ _ _ _ c.in_ok-b.ensures _ c.in-Name.is c.named.ensures

pub returns-in-Element : goal.returns-in-Element
returns-in-Element c = reference_element _ _ _ _ _ _ _ _ _ _ c.in_ok-b.ensures _ c.in-Element.is c.subscripts.ensures

pub returns-in-Literal : goal.returns-in-Literal
returns-in-Literal c =
    reference_none _ _ _ _ _ _ _ _ _
    (ap named c.in_ok-b.ensures.beginning
    ∙ elim c.in-Literal.is [ inl e ↦ ap (λ (i : Beginning). named (Some i)) e | inr u ↦ elim u [ inl e ↦ ap (λ (i : Beginning). named (Some i)) e | inr e ↦ ap (λ (i : Beginning). named (Some i)) e.1 ] ])
