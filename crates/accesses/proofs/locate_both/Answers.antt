-- `accesses::locate_both` meets its contract.
use mathlib.Core.Path.{◌≡◌}
use native.Mathlib.Omega.{arith}
use Rattle.std.specs.Prelude.{ℕ, Option, Some, None}
use Rattle.accesses.specs.Cells.{at_cell}
use Rattle.accesses.proofs.Subscripts.{in_grid_found, in_grid_outside, located_below, sum_fits}
use Rattle.accesses.proofs.locate_both.Goals as goal

pub returns-in_err-a : goal.returns-in_err-a
returns-in_err-a c =
    let e : ◌≡◌ {A = Option ℕ} c.from_residual.result None = c.from_residual.ensures in
    λ line k. rw e (in_grid_outside line _ _ _ _ k c.ranges.i c.in_err-a.ensures)

pub returns-in_err-b : goal.returns-in_err-b
unfolding at_cell
returns-in_err-b c =
    let e : ◌≡◌ {A = Option ℕ} c.from_residual-in_err-b.result None = c.from_residual-in_err-b.ensures in
    λ line k. rw e (in_grid_found line _ _ _ _ (Some c.in_ok-a.a) None k c.ranges.i c.ranges.j c.in_ok-a.ensures c.in_err-b.ensures)

pub overflow_add-result : goal.overflow_add-result
overflow_add-result c =
    let p = located_below _ _ _ c.in_ok-a.ensures in
    let q = located_below _ _ _ c.in_ok-b.ensures in
    sum_fits _ _ _ (omega (arith, p, q)) (omega (arith, p, q)) (omega arith)

pub overflow_mul-result : goal.overflow_mul-result
overflow_mul-result c = record { fits = omega (arith, (overflow_add-result c).fits) }

pub returns : goal.returns
unfolding at_cell
returns c = λ line k. in_grid_found line _ _ _ _ (Some c.in_ok-a.a) (Some c.in_ok-b.b) k c.ranges.i c.ranges.j c.in_ok-a.ensures c.in_ok-b.ensures
