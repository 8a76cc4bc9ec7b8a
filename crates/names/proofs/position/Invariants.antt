-- `names::position` meets its contract: no entry before i has the name.
use Rattle.names.specs.Table.{Absent}
use Rattle.names.proofs.position.Given as goal

abbrev pub invariant-loop-i : goal.invariant-loop-i
invariant-loop-i l = Absent l.table l.i l.w
