-- `printing::put_values` meets its contract: the first k values stand in the buffer.
use lib.ListN.{take}
use Rattle.printing.specs.Printed.{values}
use Rattle.writing.specs.Written.{Writes}
use Rattle.printing.proofs.put_values.Given as goal

abbrev pub invariant-loop-k : goal.invariant-loop-k
invariant-loop-k l = Writes l.initial.out l.at (values (take l.k l.vs)) l.out l.p
