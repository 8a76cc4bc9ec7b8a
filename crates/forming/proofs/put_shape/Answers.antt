-- `forming::put_shape` meets its contract, shape by shape.
use Rattle.syntax.specs.Bytes.{tokens}
use Rattle.printed.specs.Form.{after_blanks}
use Rattle.writing.proofs.Writing.{writes_none}
use Rattle.forming.specs.Lines.{shaped}
use Rattle.forming.proofs.Shapes.{shape_room, shape_writes}
use Rattle.forming.proofs.put_shape.Goals as goal

pub put_line-requires : goal.put_line-requires
unfolding shaped after_blanks
put_line-requires c =
    let a = c.args in
    shape_room a.to (tokens a.s.now) c.in-Own.is c.requires.1

pub put_line-requires-in-Copies : goal.put_line-requires-in-Copies
unfolding shaped after_blanks
put_line-requires-in-Copies c =
    let a = c.args in
    shape_room a.to (tokens a.s.now) c.in-Copies.is c.requires.1

pub put_bytes-requires : goal.put_bytes-requires
unfolding shaped after_blanks
put_bytes-requires c =
    let a = c.args in
    shape_room a.to (tokens a.s.now) c.in-EndIf.is c.requires.1

pub put_bytes-requires-in-EndDo : goal.put_bytes-requires-in-EndDo
unfolding shaped after_blanks
put_bytes-requires-in-EndDo c =
    let a = c.args in
    shape_room a.to (tokens a.s.now) c.in-EndDo.is c.requires.1

pub returns-in-Own : goal.returns-in-Own
unfolding shaped after_blanks
returns-in-Own c =
    let a = c.args in
    shape_writes (tokens a.s.now) c.in-Own.is c.put_line.ensures

pub returns-in-Copies : goal.returns-in-Copies
unfolding shaped after_blanks
returns-in-Copies c =
    let a = c.args in
    shape_writes (tokens a.s.now) c.in-Copies.is c.put_line-in-Copies.ensures

pub returns-in-EndIf : goal.returns-in-EndIf
unfolding shaped after_blanks
returns-in-EndIf c =
    let a = c.args in
    shape_writes (tokens a.s.now) c.in-EndIf.is c.put_bytes.ensures

pub returns-in-EndDo : goal.returns-in-EndDo
unfolding shaped after_blanks
returns-in-EndDo c =
    let a = c.args in
    shape_writes (tokens a.s.now) c.in-EndDo.is c.put_bytes-in-EndDo.ensures

pub returns-in-Nothing : goal.returns-in-Nothing
unfolding shaped after_blanks
returns-in-Nothing c =
    let a = c.args in
    shape_writes (tokens a.s.now) c.in-Nothing.is (writes_none a.out.now a.to)
