-- `reader::line_by` meets its contract.
use native.Mathlib.Omega.{arith}
use Rattle.kinds.specs.Kinds.{read_by}
use Rattle.reader.proofs.Dispatch.{inside_else, inside_end_if, inside_end_do, underway, as_kind, as_broken}
use Rattle.reader.proofs.line_by.Goals as goal

pub else_line-requires : goal.else_line-requires
else_line-requires c =
    (inside_else _ _ _ c.requires.1 c.in-Else.is, omega (arith, c.requires.0.place), omega (arith, c.requires.0.room), underway _ _ _ c.requires.0)

pub end_if_line-requires : goal.end_if_line-requires
end_if_line-requires c =
    (inside_end_if _ _ _ _ c.requires.1 c.in-EndIf.is, omega (arith, c.requires.0.place), omega (arith, c.requires.0.room), underway _ _ _ c.requires.0)

pub end_do_line-requires : goal.end_do_line-requires
end_do_line-requires c =
    inside_end_do _ _ _ _ c.requires.1 c.in-EndDo.is

pub returns-in-Broken : goal.returns-in-Broken
returns-in-Broken c = as_broken _ _ _ _ _ c.in-Broken.is

pub returns-in-Integer : goal.returns-in-Integer
unfolding read_by
returns-in-Integer c = as_kind _ _ _ _ _ _ _ c.in-Integer.is (c.integer_line.ensures _ _ _ _)

pub returns-in-Data : goal.returns-in-Data
unfolding read_by
returns-in-Data c =
    as_kind _ _ _ _ _ _ _ c.in-Data.is (c.data_line.ensures _ _ _)

pub returns-in-Opening : goal.returns-in-Opening
unfolding read_by
returns-in-Opening c = as_kind _ _ _ _ _ _ _ c.in-Opening.is (c.directive_line.ensures _ _ _ _)

pub returns-in-Loop : goal.returns-in-Loop
unfolding read_by
returns-in-Loop c = as_kind _ _ _ _ _ _ _ c.in-Loop.is (c.loop_line.ensures _ _ _ _)

pub returns-in-Assignment : goal.returns-in-Assignment
unfolding read_by
returns-in-Assignment c =
    as_kind _ _ _ _ _ _ _ c.in-Assignment.is (c.assign_line.ensures _ _)

pub returns-in-If : goal.returns-in-If
unfolding read_by
returns-in-If c =
    as_kind _ _ _ _ _ _ _ c.in-If.is (c.if_line.ensures _)

pub returns-in-Else : goal.returns-in-Else
unfolding read_by
returns-in-Else c =
    as_kind _ _ _ _ _ _ _ c.in-Else.is (c.else_line.ensures _ _ _)

pub returns-in-EndIf : goal.returns-in-EndIf
unfolding read_by
returns-in-EndIf c =
    as_kind _ _ _ _ _ _ _ c.in-EndIf.is (c.end_if_line.ensures _ _ _ _)

pub returns-in-EndDo : goal.returns-in-EndDo
unfolding read_by
returns-in-EndDo c = as_kind _ _ _ _ _ _ _ c.in-EndDo.is (c.end_do_line.ensures _ _ _ _ _ _)

pub returns-in-Closing : goal.returns-in-Closing
unfolding read_by
returns-in-Closing c = as_kind _ _ _ _ _ _ _ c.in-Closing.is (c.close_line.ensures _ _ _ _ _)
