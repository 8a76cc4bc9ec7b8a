-- `setup::classes` meets its contract: the classes are those by the names from i on.
use Rattle.setup.proofs.ClassLaws.{Classing}
use Rattle.setup.proofs.classes.Given as goal

abbrev pub invariant-loop-i : goal.invariant-loop-i
invariant-loop-i l = Classing l.table l.count l.initial.out l.i l.out
