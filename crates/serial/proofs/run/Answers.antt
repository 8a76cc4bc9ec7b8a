-- `serial::run` meets its contract: wherever the steps lead, the run comes to what it came to at the start.
use borrow.Author.Rules.{rules}
use native.Mathlib.Omega.{arith}
use lib.ListN.{length}
use Rattle.serial.proofs.Stepping.{can_serve, served, serial_start, serial_end}
use Rattle.serial.proofs.run.Goals as goal

pub carry_on-r-requires : goal.carry_on-r-requires
carry_on-r-requires c =
    let a = c.args in
    let (l, h) = c.requires in
    let e = c.only_role-role.ensures in
    rw c.unstopped_at-start.ensures
    (can_serve a.code.now a.setting.from l _ (rw h.iterations e) _
    (serial_start a.code.now a.setting l a.cells.now a.classes.now (length a.w.now) h _
    (c.enter.ensures l _ h.entry) _ (record { size = search rules; most = omega arith })))

pub returns : goal.returns
returns c = λ l h.
    let a = c.args in
    let e = c.only_role-role.ensures in
    let (s, o) = served a.code.now a.setting.from l _ (rw h.iterations e) _ _
    (serial_start a.code.now a.setting l a.cells.now a.classes.now (length a.w.now) h _
    (c.enter.ensures l _ h.entry) _
    (record { size = search rules; most = omega arith }))
    (rw c.unstopped_at-start.ensures at c.carry_on-r.ensures.carries) in
    serial_end a.code.now a.setting.from l _ s o
