-- `printing::put_name` meets its contract: the first k bytes of the name stand in the buffer.
use Prim.Native.Nat.{◌+◌}
use Rattle.rules.specs.Cells.{listed}
use Rattle.names.specs.Table.{word_at}
use Rattle.writing.specs.Written.{Writes}
use Rattle.printing.proofs.put_name.Given as goal

abbrev pub invariant-loop-k : goal.invariant-loop-k
invariant-loop-k l = Writes l.initial.out l.at (listed l.k (λ j. word_at l.table l.i j)) l.out (l.at + l.k)
