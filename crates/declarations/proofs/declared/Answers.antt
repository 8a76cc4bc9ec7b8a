-- `declarations::declared` meets its contract: a name alone, or with its extents in brackets.
use Rattle.declarations.proofs.IntegerLines.{declares_one, rowless, array_open, declares_array, columnless, grid_open, declares_grid}
use Rattle.declarations.proofs.declared.Goals as goal

pub returns-in_default : goal.returns-in_default
returns-in_default c = declares_one c.in_ok-x.x c.in_ok-x.ensures c.in_default.ensures

pub returns-in_err-rows : goal.returns-in_err-rows
returns-in_err-rows c = rw c.from_residual-in_err-rows.ensures (rowless c.in_ok-x.x c.in_ok-x.ensures c.in-Some.ensures c.in_err-rows.ensures)

pub returns-in_err-pass : goal.returns-in_err-pass
returns-in_err-pass c = rw c.from_residual-in_err-pass.ensures
    (array_open c.in_ok-x.x c.in_ok-x.ensures c.in-Some.ensures c.in_ok-rows.rows c.in_ok-rows.ensures c.in_default-pass.ensures c.in_err-pass.ensures)

pub returns-in_default-pass : goal.returns-in_default-pass
returns-in_default-pass c =
    declares_array c.in_ok-x.x c.in_ok-x.ensures c.in-Some.ensures c.in_ok-rows.rows c.in_ok-rows.ensures c.in_default-pass.ensures _ _
    c.in_ok-pass.ensures c.product.ensures

pub returns-in_err-columns : goal.returns-in_err-columns
returns-in_err-columns c = rw c.from_residual-in_err-columns.ensures
    (columnless c.in_ok-x.x c.in_ok-x.ensures c.in-Some.ensures c.in_ok-rows.rows c.in_ok-rows.ensures c.in-Some-pass.ensures c.in_err-columns.ensures)

pub returns-in_err-pass-2 : goal.returns-in_err-pass-2
returns-in_err-pass-2 c = rw c.from_residual-in_err-pass-2.ensures
    (grid_open c.in_ok-x.x c.in_ok-x.ensures c.in-Some.ensures c.in_ok-rows.rows c.in_ok-rows.ensures c.in-Some-pass.ensures
    c.in_ok-columns.columns c.in_ok-columns.ensures c.in_err-pass-2.ensures)

pub returns : goal.returns
returns c =
    declares_grid c.in_ok-x.x c.in_ok-x.ensures c.in-Some.ensures c.in_ok-rows.rows c.in_ok-rows.ensures c.in-Some-pass.ensures
    c.in_ok-columns.columns c.in_ok-columns.ensures _ _ c.in_ok-pass-2.ensures c.product-2.ensures
