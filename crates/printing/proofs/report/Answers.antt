-- `printing::report` meets its contract.
use mathlib.Core.Path.{sym, subst}
use Rattle.printing.specs.Written.{Completes}
use Rattle.printing.proofs.Writing.{comment_few}
use Rattle.printing.proofs.Lines.{reports_lines, reports_refusal}
use native.Mathlib.Omega.{arith}
use Rattle.printing.proofs.report.Goals as goal

pub put_data_lines-requires : goal.put_data_lines-requires
put_data_lines-requires c = (
  omega (arith, comment_few c.args.answer, c.put_comment-at.ensures.place),
  c.requires.1 (subst Completes (sym c.in-Ok.is) tt),
)

pub returns-in-Ok : goal.returns-in-Ok
returns-in-Ok c =
    let args = c.args in
    let d = subst Completes (sym c.in-Ok.is) tt in
    let k = c.requires.1 d in
    reports_lines args.answer args.table.now args.cells.now _ c.requires.0 d k.0 k.1 c.put_comment-at.ensures c.put_data_lines.ensures

pub returns-in-Err : goal.returns-in-Err
returns-in-Err c =
    let args = c.args in
    reports_refusal args.answer args.table.now args.cells.now _ c.requires.0
    (λ (z : Completes args.answer). subst Completes c.in-Err.is z) c.put_comment-at.ensures
