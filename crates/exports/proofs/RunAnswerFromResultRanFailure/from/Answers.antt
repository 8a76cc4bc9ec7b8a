-- The conversion to `RunAnswer` meets its contract.
use mathlib.Core.Path.{◌≡◌, sym, ap, ◌∙◌}
use mir.Syntax.{w32}
use mir.Val.{to_z, of_z}
use Rattle.std.specs.Prelude.{Ok, Err}
use Rattle.exports.specs.Numbers.{run_numbers}
use borrow.Author.Rules.{rules}
use Rattle.exports.proofs.RunAnswerFromResultRanFailure.from.Goals as goal

pub returns-in-Passed : goal.returns-in-Passed
unfolding run_numbers
returns-in-Passed c = ap run_numbers (sym (c.in-Ok.is ∙ ap Ok c.in-Passed.is))

pub returns-in-Rerun : goal.returns-in-Rerun
unfolding run_numbers
returns-in-Rerun c = ap run_numbers (sym (c.in-Ok.is ∙ ap Ok c.in-Rerun.is))

pub returns-in-Faulted : goal.returns-in-Faulted
unfolding run_numbers
returns-in-Faulted c =
    let g = c.in-Faulted.f in
    let u : to_z w32 (of_z w32 g.v) ≡ g.v = search rules in
    (λ i. record { number = g.number; line = g.line; v = u i; rerun = 0; pairs = 0; cells = 0 }) ∙ ap run_numbers (sym (c.in-Err.is ∙ ap Err c.in-Faulted.is))

pub returns-in-Refused : goal.returns-in-Refused
unfolding run_numbers
returns-in-Refused c = ap run_numbers (sym (c.in-Err.is ∙ ap Err c.in-Refused.is))
