-- `accesses::at_element` meets its contract.
use mathlib.Core.Path.{sym, ◌∙◌, ap}
use Rattle.std.specs.Prelude.{Some, None}
use Rattle.operands.specs.declared.Move.{Move}
use Rattle.operands.specs.Performing.{left}
use Rattle.accesses.specs.Cells.{at_cell}
use Rattle.accesses.proofs.Subscripts.{located_found}
use Rattle.accesses.proofs.at_element.Goals as goal

pub returns-in-Some : goal.returns-in-Some
unfolding at_cell
returns-in-Some g c = λ m is on s. located_found _ _ _ _ (Some c.in-Some.cell) _ c.ranges.i c.in-Some.ensures ∙ ap (λ (r : Move). left r on s) (sym (is _ _ c.access.ensures))

pub returns-in-None : goal.returns-in-None
unfolding at_cell left
returns-in-None g c = λ m is on s. located_found _ _ _ _ None _ c.ranges.i c.in-None.ensures
