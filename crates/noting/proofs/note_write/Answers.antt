-- `noting::note_write` meets its contract: the counts leave the row where it is.
use Rattle.noting.proofs.Words.{counted_ready}
use Rattle.noting.proofs.note_write.Goals as goal

pub mark_row-requires : goal.mark_row-requires
mark_row-requires c =
    let a = c.args in
    let p = c.requires in
    rw c.count.ensures (counted_ready a.w.now a.row a.own a.iteration.0 a.group.0 p.0 p.1)
