-- `printing::put_name` meets its contract: the first k bytes of the name stand in the buffer.
use native.Mathlib.Omega.{arith}
use Rattle.writing.proofs.Writing.{writes_up_to}
use Rattle.printing.proofs.Lines.{name_none, name_more, name_all}
use Rattle.printing.proofs.put_name.Goals as goal

pub loop-k-init : goal.loop-k-init
loop-k-init c = name_none _ _ c.args.table.now c.args.i

pub loop-k-preserved : goal.loop-k-preserved
loop-k-preserved c = name_more c.args.table.now c.args.i c.loop-k.k _ c.byte_of.ensures c.loop-k.invariant

pub returns : goal.returns
returns c =
    writes_up_to (omega arith)
    (name_all c.args.table.now c.args.i c.loop-k.k (omega (arith, c.length_of-n.ensures)) c.loop-k.invariant)
