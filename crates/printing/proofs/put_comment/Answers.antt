-- `printing::put_comment` meets its contract.
use mathlib.Core.Path.{◌≡◌, sym, ◌∙◌, ap}
use mir.Syntax.{w32}
use mir.Val.{to_z, of_z}
use Rattle.std.specs.Prelude.{Ok, Err}
use Rattle.printing.specs.Printed.{refusal, comment}
use Rattle.writing.proofs.Writing.{writes_as}
use borrow.Author.Rules.{rules}
use Rattle.printing.proofs.put_comment.Goals as goal

pub returns-in-Passed : goal.returns-in-Passed
unfolding comment
returns-in-Passed c = writes_as (ap comment (sym (c.in-Ok.is ∙ ap Ok c.in-Passed.is))) c.put_counts.ensures

pub returns-in-Rerun : goal.returns-in-Rerun
unfolding comment
returns-in-Rerun c = writes_as (ap comment (sym (c.in-Ok.is ∙ ap Ok c.in-Rerun.is))) c.put_counts-in-Rerun.ensures

pub returns-in-Faulted : goal.returns-in-Faulted
unfolding comment
returns-in-Faulted c =
    let g = c.in-Faulted.f in
    let u : to_z w32 (of_z w32 g.v) ≡ g.v = search rules in
    writes_as (ap (refusal g.number g.line) u ∙ ap comment (sym (c.in-Err.is ∙ ap Err c.in-Faulted.is))) c.put_refusal.ensures

pub returns-in-Refused : goal.returns-in-Refused
unfolding comment
returns-in-Refused c = writes_as (ap comment (sym (c.in-Err.is ∙ ap Err c.in-Refused.is))) c.put_refusal-in-Refused.ensures
