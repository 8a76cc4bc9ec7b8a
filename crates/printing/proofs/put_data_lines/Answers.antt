-- `printing::put_data_lines` meets its contract: the lines of the first i names stand in the buffer.
use Prim.Native.Nat.{◌<◌}
use lib.ListN.{length}
use Rattle.printing.proofs.Lines.{lines_none, lines_more, lines_all, named, cells_held, room}
use native.Mathlib.Omega.{arith}
use Rattle.printing.proofs.put_data_lines.Goals as goal

pub loop-i-init : goal.loop-i-init
loop-i-init c = lines_none _ _ c.args.table.now c.args.cells.now

pub put_data-p-requires : goal.put_data-p-requires
put_data-p-requires c =
    let pre = c.requires in
    let loop = c.loop-i in
    let h = pre.1.1 in
    let l : loop.i < length pre.1.0 = omega (arith, c.count-n.ensures, h.tabled.count, h.tabled.few) in
    (named _ _ _ h loop.i l, cells_held _ _ _ h loop.i l, room _ _ _ h loop.i l pre.0 loop.invariant)

pub loop-i-preserved : goal.loop-i-preserved
loop-i-preserved c = lines_more c.args.table.now c.args.cells.now c.loop-i.i c.loop-i.invariant c.put_data-p.ensures

pub returns : goal.returns
returns c = λ t k. lines_all _ _ t k c.loop-i.i (omega (arith, c.count-n.ensures)) c.loop-i.invariant
