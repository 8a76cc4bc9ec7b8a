-- `printing::put_data_lines` meets its contract: the lines of the first i names stand in the buffer.
use Rattle.writing.specs.Written.{Writes}
use Rattle.printing.proofs.Lines.{lines_at}
use Rattle.printing.proofs.put_data_lines.Given as goal

abbrev pub invariant-loop-i : goal.invariant-loop-i
invariant-loop-i l = Writes l.initial.out l.at (lines_at l.table l.cells l.i) l.out l.p
