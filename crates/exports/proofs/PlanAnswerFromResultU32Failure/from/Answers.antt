-- The conversion to `PlanAnswer` meets its contract.
use mathlib.Core.Path.{◌≡◌, sym, ap, ◌∙◌}
use mir.Syntax.{w32}
use mir.Val.{to_z, of_z}
use Rattle.std.specs.Prelude.{Ok, Err}
use Rattle.exports.specs.Numbers.{plan_numbers}
use borrow.Author.Rules.{rules}
use Rattle.exports.proofs.PlanAnswerFromResultU32Failure.from.Goals as goal

pub returns-in-Ok : goal.returns-in-Ok
unfolding plan_numbers
returns-in-Ok c = ap plan_numbers (sym c.in-Ok.is)

pub returns-in-Faulted : goal.returns-in-Faulted
unfolding plan_numbers
returns-in-Faulted c =
    let g = c.in-Faulted.f in
    let u : to_z w32 (of_z w32 g.v) ≡ g.v = search rules in
    (λ i. record { number = g.number; line = g.line; v = u i; stages = 0 }) ∙ ap plan_numbers (sym (c.in-Err.is ∙ ap Err c.in-Faulted.is))

pub returns-in-Refused : goal.returns-in-Refused
unfolding plan_numbers
returns-in-Refused c = ap plan_numbers (sym (c.in-Err.is ∙ ap Err c.in-Refused.is))
