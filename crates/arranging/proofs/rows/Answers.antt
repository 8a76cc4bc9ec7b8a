-- `arranging::rows` meets its contract.
use mathlib.Core.Path.{◌∙◌}
use native.Mathlib.Omega.{arith}
use Rattle.std.proofs.lemmas.Result.{err_from_is_err_and}
use Rattle.grids.specs.Arrange.{by_rows}
use Rattle.answers.specs.Answers.{cells_by_rows}
use Rattle.arranging.proofs.Answering.{room, answers, leaves}
use Rattle.arranging.proofs.rows.Goals as goal

pub returns-in_err-g : goal.returns-in_err-g
unfolding cells_by_rows
returns-in_err-g c =
    let q = err_from_is_err_and c.from_residual.result c.from_residual.ensures.1 in
    let m = c.args.cells.now in
    let e = c.in_err-g.ensures in
    record { value = rw (q.1, q.2) (answers _ _ m _ e); cells_after = leaves _ _ m _ e by_rows }

pub to_rows-requires : goal.to_rows-requires
to_rows-requires c =
    let r = room _ _ c.args.cells.now _ c.in_ok-g.ensures in
    (omega (arith, r.0), omega (arith, r.1))

pub returns : goal.returns
unfolding cells_by_rows
returns c =
    let m = c.args.cells.now in
    let e = c.in_ok-g.ensures in
    record { value = answers _ _ m _ e; cells_after = c.to_rows.ensures ∙ leaves _ _ m _ e by_rows }
