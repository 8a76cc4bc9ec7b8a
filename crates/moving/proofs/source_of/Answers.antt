-- `moving::source_of` meets its contract.
use mathlib.Core.Path.{refl}
use native.Mathlib.Omega.{arith}
use Rattle.grids.proofs.Places.{some_columns, source_inside}
use Rattle.moving.proofs.source_of.Goals as goal

pub nonzero_div-result : goal.nonzero_div-result
nonzero_div-result c = some_columns _ _ _ c.requires.0

pub nonzero_rem-result : goal.nonzero_rem-result
nonzero_rem-result c = some_columns _ _ _ c.requires.0

pub overflow_mul-result : goal.overflow_mul-result
overflow_mul-result c = record { fits = omega (arith, source_inside _ _ _ c.requires.0, c.requires.1) }

pub overflow_add-result : goal.overflow_add-result
overflow_add-result c = record { fits = omega (arith, source_inside _ _ _ c.requires.0, c.requires.1) }

pub returns : goal.returns
returns c = (refl, source_inside _ _ _ c.requires.0)
