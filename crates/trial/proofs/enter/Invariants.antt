-- `trial::enter` meets its contract: the rows of the cells passed have begun.
use lib.ListN.{length}
use Rattle.rules.specs.Loop.{Loop, Partition}
use Rattle.tables.proofs.Start.{Begun}
use Rattle.trial.specs.Start.{Entry}
use Rattle.trial.proofs.enter.Given as goal

abbrev pub invariant-loop-c : goal.invariant-loop-c
invariant-loop-c l =
    (o : Loop) (δ : Partition) → Entry l.processors o δ l.cells l.classes (length l.initial.w) → Begun o.size l.processors o.class o.entry l.c l.w
