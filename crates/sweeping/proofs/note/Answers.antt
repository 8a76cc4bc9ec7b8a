-- `sweeping::note` meets its contract: an update changes the row as a write does.
use Rattle.std.proofs.Common.{inl, inr}
use Rattle.staging.proofs.Keeping.{noted_update}
use Rattle.sweeping.specs.Sweep.{noted_by, over_by}
use Rattle.sweeping.proofs.note.Goals as goal

pub returns-in-Write : goal.returns-in-Write
unfolding noted_by over_by
returns-in-Write c =
    let a = c.args in
    let n = c.note-in-Write.ensures in
    elim c.in-Write.is [
      | inl w ↦ let e = w.1 in record { rows = rw e n.words; over = rw e n.over }
      | inr w ↦
          let e = w.1 in
          let u = noted_update a.list.now a.i.0 a.rows.now c.in-Write.cell a.over _ _ n in
          record { rows = rw e u.words; over = rw e u.over }
    ]
