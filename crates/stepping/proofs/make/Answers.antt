-- `stepping::make` meets its contract: each arm by the law of its move.
use mathlib.Core.Path.{◌≡◌}
use mir.Syntax.{w32}
use mir.Val.{to_z, of_z, SFits}
use Rattle.operands.specs.declared.Move.TheVariants.{Read, Write, Update, Fault, End}
use Rattle.stepping.proofs.Moves.{can_push, can_read, can_write, can_update, makes_read, makes_write, makes_update, makes_fault, makes_end}
use borrow.Author.Rules.{rules}
use Rattle.stepping.proofs.make.Goals as goal

pub read_cell-x-requires : goal.read_cell-x-requires
read_cell-x-requires c =
    let m : c.args.r.done ≡ Read c.in-Read.cell = c.in-Read.is in (
      can_read c.args.role c.args.i.0 c.args.cells.now c.args.w.now c.args.pending.now c.args.r c.requires c.in-Read.cell m,
      c.requires.low,
    )

pub put-d-requires : goal.put-d-requires
put-d-requires c =
    let m : c.args.r.done ≡ Read c.in-Read.cell = c.in-Read.is in (
      c.requires.size,
      can_push c.args.role c.args.i.0 c.args.cells.now c.args.w.now c.args.pending.now c.args.r c.requires
          c.in-Read.cell m,
    )

pub write_cell-requires : goal.write_cell-requires
write_cell-requires c =
    let m : c.args.r.done ≡ Write c.in-Write.cell c.in-Write.value = c.in-Write.is in (
      can_write c.args.role c.args.i.0 c.args.cells.now c.args.w.now c.args.pending.now c.args.r c.requires c.in-Write.cell
          c.in-Write.value m,
      c.requires.low,
    )

pub update_cell-requires : goal.update_cell-requires
update_cell-requires c =
    let m : c.args.r.done ≡ Update c.in-Update.cell c.in-Update.value = c.in-Update.is in (
      can_update c.args.role c.args.i.0 c.args.cells.now c.args.w.now c.args.pending.now c.args.r c.requires c.in-Update.cell
          c.in-Update.value m,
      c.requires.low,
    )

pub returns-in-Read : goal.returns-in-Read
returns-in-Read c =
    let m : c.args.r.done ≡ Read c.in-Read.cell =
    c.in-Read.is in
    let y : to_z w32 (of_z w32 c.read_cell-x.result) ≡ c.read_cell-x.result = search rules in
    makes_read c.args.role c.args.i.0 c.args.cells.now c.args.w.now c.args.pending.now c.args.r c.in-Read.cell
    c.read_cell-x.result _ _ c.put-d.result _ m c.read_cell-x.ensures (rw y at c.put-d.ensures)
    c.unstopped_at.ensures

pub returns-in-Write : goal.returns-in-Write
returns-in-Write c =
    let m : c.args.r.done ≡ Write c.in-Write.cell c.in-Write.value =
    c.in-Write.is in
    let s : SFits w32 c.in-Write.value = search rules in
    let y : to_z w32 (of_z w32 c.in-Write.value) ≡ c.in-Write.value = search rules in
    makes_write c.args.role c.args.i.0 c.args.cells.now c.args.w.now c.args.pending.now c.args.r c.in-Write.cell
    c.in-Write.value _ _ _ m s (rw y at c.write_cell.ensures) c.unstopped_at-in-Write.ensures

pub returns-in-Update : goal.returns-in-Update
returns-in-Update c =
    let m : c.args.r.done ≡ Update c.in-Update.cell c.in-Update.value =
    c.in-Update.is in
    let s : SFits w32 c.in-Update.value = search rules in
    let y : to_z w32 (of_z w32 c.in-Update.value) ≡ c.in-Update.value = search rules in
    makes_update c.args.role c.args.i.0 c.args.cells.now c.args.w.now c.args.pending.now c.args.r c.in-Update.cell
    c.in-Update.value _ _ _ m s (rw y at c.update_cell.ensures) c.unstopped_at-in-Update.ensures

pub returns-in-Fault : goal.returns-in-Fault
returns-in-Fault c =
    let m : c.args.r.done ≡ Fault c.in-Fault.number c.in-Fault.line = c.in-Fault.is in
    makes_fault c.args.role c.args.i.0 c.args.cells.now c.args.w.now c.args.pending.now c.args.r c.in-Fault.number c.in-Fault.line m

pub returns-in-End : goal.returns-in-End
returns-in-End c =
    let m : c.args.r.done ≡ End = c.in-End.is in
    makes_end c.args.role c.args.i.0 c.args.cells.now c.args.w.now c.args.pending.now c.args.r _ m c.unstopped_at-in-End.ensures
