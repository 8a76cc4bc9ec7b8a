-- `assignments::test` meets its contract.
use mathlib.Core.Path.{refl}
use Rattle.assignments.proofs.Assigned.{tests_some, tests_none}
use Rattle.assignments.proofs.test.Goals as goal

pub returns-then-subscripted : goal.returns-then-subscripted
returns-then-subscripted c = tests_some c.if-subscripted.true c.emit.ensures

pub returns-else-subscripted : goal.returns-else-subscripted
returns-else-subscripted c = tests_none c.if-subscripted.false refl
