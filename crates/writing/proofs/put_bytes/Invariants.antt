-- `writing::put_bytes` meets its contract: the first bytes are written, and the others are left.
use lib.ListN.{drop}
use Rattle.writing.proofs.Writing.{Along}
use Rattle.writing.proofs.put_bytes.Given as goal

abbrev pub invariant-loop-b : goal.invariant-loop-b
invariant-loop-b l = Along l.s (drop l.b-index l.s) l.initial.out l.to l.out l.p
